use Rattle.std.proofs.Common.{[], arith}
use Rattle.std.proofs.lemmas.List.{get_or_past, get_or_read}
use Rattle.gh_words.specs.declared.plain.TheConstants.{NOWHERE}
use Rattle.gh_words.proofs.Spread.{shown, shown_block}
use Rattle.gh_words.proofs.plain.Plain.word_at.Goals as goal

pub index-requires : goal.index-requires
index-requires c =
    let low = shown_block c.self.inside _ c.self.view_is c.args.word c.requires c.self.invariant.0 in
    omega (arith, c.self.inside.places.ok.0)

pub returns-then-place-len : goal.returns-then-place-len
returns-then-place-len c =
    let low = shown_block c.self.inside _ c.self.view_is c.args.word c.requires c.self.invariant.0 in
    let place = get_or_read c.self.inside.places.items _ _ low c.index.ensures NOWHERE in
    let none = get_or_past c.self.inside.used.items c.index.result.now [] (omega (arith, c.self.inside.used.ok.0)) in
    rw (← place, none) at (shown c.self.inside _ c.self.view_is c.args.word c.requires)

pub returns : goal.returns
returns c =
    let low = shown_block c.self.inside _ c.self.view_is c.args.word c.requires c.self.invariant.0 in
    let place = get_or_read c.self.inside.places.items _ _ low c.index.ensures NOWHERE in
    let block = get_or_read c.self.inside.used.items _ _ (omega (arith, c.self.inside.used.ok.0)) c.index-2.ensures [] in
    let is = shown c.self.inside _ c.self.view_is c.args.word c.requires in
    cc
