use Rattle.std.proofs.Common.{◌<◌, ◌∙◌, [], length, refl, sym, arith}
use Rattle.std.proofs.lemmas.List.{get_or_read}
use Rattle.gh_words.proofs.Spread.{shown, shown_block, shown_long, spread_written}
use Rattle.gh_words.proofs.plain.PlainWords.step.Goals as goal

pub place_of-place-requires-clause-there : goal.place_of-place-requires-clause-there
place_of-place-requires-clause-there c = shown_block c.self.inside _ c.self.view_is c.word-at.result (omega (arith, c.word-at.ensures)) c.self.invariant.0

pub returns-clause-found : goal.returns-clause-found
returns-clause-found c =
    let stands = c.place_of-place.ensures.stands in
    let lt : c.word-at.result < length c.args.self.now = omega (arith, c.word-at.ensures) in
    let is = shown c.self.inside _ c.self.view_is c.word-at.result lt in
    let same = stands.same c.word-at.result in
    let block = get_or_read c.place_of-place.new.used.items _ _ stands.here c.index.ensures [] in
    cc

pub returns-clause-left : goal.returns-clause-left
returns-clause-left c =
    let new = c.place_of-place.new in
    let stands = c.place_of-place.ensures.stands in
    let long = shown_long c.self.inside _ c.self.view_is in
    let block = get_or_read new.used.items _ _ stands.here c.index_mut.ensures.value [] in
    let written = spread_written new.used.items new.places.items _ c.self.inside.count c.word-at.result c.left.result c.args.self.now c.place_of-place.ensures.fits (λ j low. stands.same j ∙ shown c.self.inside _ c.self.view_is j (omega (arith, long))) (sym long) (omega (arith, c.word-at.ensures)) (rw (← stands.noted) stands.here) in
    rw (block, stands.noted) (written ∙ rw (c.word-at.ensures, c.left.ensures, returns-clause-found c) refl)
