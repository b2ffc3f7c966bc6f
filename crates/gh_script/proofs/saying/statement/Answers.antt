use Rattle.std.proofs.Common.{◌≡◌, ◌∙◌, ap, arith, unwrap_or}
use Rattle.gh_script.proofs.Vocabulary.{said, type_of}
use Rattle.gh_script.proofs.Allowed.{load_small, store_small, get_small, set_small, globals_in-le, type_of-lt}
use Rattle.gh_script.proofs.saying.statement.Goals as goal

pub overflow_cast-said : goal.overflow_cast-said
overflow_cast-said c = let t = type_of-lt c.args.draft.now c.args.key (said c.args.line.now) c.requires.allowed c.in-New.is in
    let e : c.unwrap_or.result ≡ unwrap_or (type_of c.args.draft.now.names c.args.line.now.third.now) 0 = c.unwrap_or.ensures ∙ ap (λ o. unwrap_or o 0) c.type_of.ensures in
    omega (arith, c.requires.sound.types)

pub small_number-requires : goal.small_number-requires
small_number-requires c = omega (arith, load_small c.args.draft.now c.args.key (said c.args.line.now) c.requires.allowed c.in-Load.is)

pub small_number-requires-in-Store : goal.small_number-requires-in-Store
small_number-requires-in-Store c = omega (arith, store_small c.args.draft.now c.args.key (said c.args.line.now) c.requires.allowed c.in-Store.is)

pub small_number-requires-in-GetGlobal : goal.small_number-requires-in-GetGlobal
small_number-requires-in-GetGlobal c = omega (arith, get_small c.args.draft.now c.args.key (said c.args.line.now) c.requires.allowed c.in-GetGlobal.is, globals_in-le c.args.draft.now c.requires.sound)

pub small_number-requires-in-SetGlobal : goal.small_number-requires-in-SetGlobal
small_number-requires-in-SetGlobal c = omega (arith, set_small c.args.draft.now c.args.key (said c.args.line.now) c.requires.allowed c.in-SetGlobal.is, globals_in-le c.args.draft.now c.requires.sound)
