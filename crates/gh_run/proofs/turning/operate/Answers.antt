use Rattle.std.proofs.Common.{◌∙◌, ap, refl, subst, sym}
use Rattle.gh_run.proofs.Vocabulary.{May, Op, Operated, told}
use Rattle.gh_base.specs.declared.value.Answer.TheVariants.{Done}
use Rattle.gh_run.proofs.Fitting.{global_set, global_there, of_type}
use Rattle.gh_run.proofs.turning.operate.Goals as goal

pub new_object-requires-clause-going : goal.new_object-requires-clause-going
new_object-requires-clause-going g c = c.requires.going

pub new_object-requires-clause-runs : goal.new_object-requires-clause-runs
new_object-requires-clause-runs g c = let m = (subst (May c.args.heap.now c.args.h.now) c.in-New.is c.requires) in m.runs

pub new_object-requires-clause-register : goal.new_object-requires-clause-register
new_object-requires-clause-register g c = let m = (subst (May c.args.heap.now c.args.h.now) c.in-New.is c.requires) in m.fits.0

pub new_object-requires-clause-of_type : goal.new_object-requires-clause-of_type
new_object-requires-clause-of_type g c = let m = (subst (May c.args.heap.now c.args.h.now) c.in-New.is c.requires) in of_type c.args.heap.now c.args.h.now _ _ _ m

pub new_object-requires-clause-left : goal.new_object-requires-clause-left
new_object-requires-clause-left g c = let m = (subst (May c.args.heap.now c.args.h.now) c.in-New.is c.requires) in m.fits.2

pub returns-in-New : goal.returns-in-New
returns-in-New g c = (c.new_object.result, c.new_object.ensures.did.0, subst (λ (o : Op). Operated c.args.heap.now o c.args.h.now c.new_object.new.h c.new_object.result c.new_object.ensures.did.0) (sym c.in-New.is) c.new_object.ensures.did.1, refl)

pub load-requires-clause-going : goal.load-requires-clause-going
load-requires-clause-going g c = c.requires.going

pub load-requires-clause-runs : goal.load-requires-clause-runs
load-requires-clause-runs g c = let m = (subst (May c.args.heap.now c.args.h.now) c.in-Load.is c.requires) in m.runs

pub load-requires-clause-registers : goal.load-requires-clause-registers
load-requires-clause-registers g c = let m = (subst (May c.args.heap.now c.args.h.now) c.in-Load.is c.requires) in m.fits

pub returns-in-Load : goal.returns-in-Load
returns-in-Load g c = (c.load.result, c.load.ensures.did.founds, subst (λ (o : Op). Operated c.args.heap.now o c.args.h.now c.load.new.h c.load.result c.load.ensures.did.founds) (sym c.in-Load.is) c.load.ensures.did.did, refl)

pub store-requires-clause-going : goal.store-requires-clause-going
store-requires-clause-going g c = c.requires.going

pub store-requires-clause-runs : goal.store-requires-clause-runs
store-requires-clause-runs g c = let m = (subst (May c.args.heap.now c.args.h.now) c.in-Store.is c.requires) in m.runs

pub store-requires-clause-registers : goal.store-requires-clause-registers
store-requires-clause-registers g c = let m = (subst (May c.args.heap.now c.args.h.now) c.in-Store.is c.requires) in (m.fits.0, m.fits.1)

pub store-requires-clause-room : goal.store-requires-clause-room
store-requires-clause-room g c = let m = (subst (May c.args.heap.now c.args.h.now) c.in-Store.is c.requires) in m.fits.2

pub returns-in-Store : goal.returns-in-Store
returns-in-Store g c = (c.store.result, c.store.ensures.did.founds, subst (λ (o : Op). Operated c.args.heap.now o c.args.h.now c.store.new.h c.store.result c.store.ensures.did.founds) (sym c.in-Store.is) c.store.ensures.did.did, refl)

pub get_global-requires-clause-going : goal.get_global-requires-clause-going
get_global-requires-clause-going g c = c.requires.going

pub get_global-requires-clause-runs : goal.get_global-requires-clause-runs
get_global-requires-clause-runs g c = let m = (subst (May c.args.heap.now c.args.h.now) c.in-GetGlobal.is c.requires) in m.runs

pub get_global-requires-clause-registers : goal.get_global-requires-clause-registers
get_global-requires-clause-registers g c = let m = (subst (May c.args.heap.now c.args.h.now) c.in-GetGlobal.is c.requires) in m.fits.0

pub get_global-requires-clause-global : goal.get_global-requires-clause-global
get_global-requires-clause-global g c = let m = (subst (May c.args.heap.now c.args.h.now) c.in-GetGlobal.is c.requires) in global_there c.args.heap.now c.args.h.now _ _ _ m

pub returns-in-GetGlobal : goal.returns-in-GetGlobal
returns-in-GetGlobal g c = (c.get_global.result, c.get_global.ensures.did.founds, subst (λ (o : Op). Operated c.args.heap.now o c.args.h.now c.get_global.new.h c.get_global.result c.get_global.ensures.did.founds) (sym c.in-GetGlobal.is) c.get_global.ensures.did.did, refl)

pub set_global-requires-clause-going : goal.set_global-requires-clause-going
set_global-requires-clause-going g c = c.requires.going

pub set_global-requires-clause-runs : goal.set_global-requires-clause-runs
set_global-requires-clause-runs g c = let m = (subst (May c.args.heap.now c.args.h.now) c.in-SetGlobal.is c.requires) in m.runs

pub set_global-requires-clause-registers : goal.set_global-requires-clause-registers
set_global-requires-clause-registers g c = let m = (subst (May c.args.heap.now c.args.h.now) c.in-SetGlobal.is c.requires) in m.fits.0

pub set_global-requires-clause-global : goal.set_global-requires-clause-global
set_global-requires-clause-global g c = let m = (subst (May c.args.heap.now c.args.h.now) c.in-SetGlobal.is c.requires) in global_set c.args.heap.now c.args.h.now _ _ _ m

pub set_global-requires-clause-room : goal.set_global-requires-clause-room
set_global-requires-clause-room g c = let m = (subst (May c.args.heap.now c.args.h.now) c.in-SetGlobal.is c.requires) in m.fits.2

pub returns-in-SetGlobal : goal.returns-in-SetGlobal
returns-in-SetGlobal g c = (c.set_global.result, c.set_global.ensures.did.founds, subst (λ (o : Op). Operated c.args.heap.now o c.args.h.now c.set_global.new.h c.set_global.result c.set_global.ensures.did.founds) (sym c.in-SetGlobal.is) c.set_global.ensures.did.did, refl)

pub int-requires-clause-going : goal.int-requires-clause-going
int-requires-clause-going g c = c.requires.going

pub int-requires-clause-runs : goal.int-requires-clause-runs
int-requires-clause-runs g c = let m = (subst (May c.args.heap.now c.args.h.now) c.in-Int.is c.requires) in m.runs

pub int-requires-clause-registers : goal.int-requires-clause-registers
int-requires-clause-registers g c = let m = (subst (May c.args.heap.now c.args.h.now) c.in-Int.is c.requires) in m.fits

pub returns-in-Int : goal.returns-in-Int
returns-in-Int g c = (c.int.result, c.int.ensures.did.founds, subst (λ (o : Op). Operated c.args.heap.now o c.args.h.now c.int.new.h c.int.result c.int.ensures.did.founds) (sym c.in-Int.is) c.int.ensures.did.did, refl)

pub move_reg-requires-clause-going : goal.move_reg-requires-clause-going
move_reg-requires-clause-going g c = c.requires.going

pub move_reg-requires-clause-runs : goal.move_reg-requires-clause-runs
move_reg-requires-clause-runs g c = let m = (subst (May c.args.heap.now c.args.h.now) c.in-Move.is c.requires) in m.runs

pub move_reg-requires-clause-registers : goal.move_reg-requires-clause-registers
move_reg-requires-clause-registers g c = let m = (subst (May c.args.heap.now c.args.h.now) c.in-Move.is c.requires) in m.fits

pub returns-in-Move : goal.returns-in-Move
returns-in-Move g c = (c.move_reg.result, c.move_reg.ensures.did.founds, subst (λ (o : Op). Operated c.args.heap.now o c.args.h.now c.move_reg.new.h c.move_reg.result c.move_reg.ensures.did.founds) (sym c.in-Move.is) c.move_reg.ensures.did.did, refl)

pub nil-requires-clause-going : goal.nil-requires-clause-going
nil-requires-clause-going g c = c.requires.going

pub nil-requires-clause-runs : goal.nil-requires-clause-runs
nil-requires-clause-runs g c = let m = (subst (May c.args.heap.now c.args.h.now) c.in-Nil.is c.requires) in m.runs

pub nil-requires-clause-registers : goal.nil-requires-clause-registers
nil-requires-clause-registers g c = let m = (subst (May c.args.heap.now c.args.h.now) c.in-Nil.is c.requires) in m.fits

pub returns-in-Nil : goal.returns-in-Nil
returns-in-Nil g c = (c.nil.result, c.nil.ensures.did.founds, subst (λ (o : Op). Operated c.args.heap.now o c.args.h.now c.nil.new.h c.nil.result c.nil.ensures.did.founds) (sym c.in-Nil.is) c.nil.ensures.did.did, refl)

pub collect-requires-clause-going : goal.collect-requires-clause-going
collect-requires-clause-going g c = c.requires.going

pub collect-requires-clause-runs : goal.collect-requires-clause-runs
collect-requires-clause-runs g c = let m = (subst (May c.args.heap.now c.args.h.now) c.in-Gc.is c.requires) in m.runs

pub collect-requires-clause-left : goal.collect-requires-clause-left
collect-requires-clause-left g c = let m = (subst (May c.args.heap.now c.args.h.now) c.in-Gc.is c.requires) in m.fits

pub returns-in-Gc : goal.returns-in-Gc
returns-in-Gc g c = (c.collect.result, c.collect.ensures.did.0, subst (λ (o : Op). Operated c.args.heap.now o c.args.h.now c.collect.new.h c.collect.result c.collect.ensures.did.0) (sym c.in-Gc.is) c.collect.ensures.did.1, refl)

pub finish-requires-clause-going : goal.finish-requires-clause-going
finish-requires-clause-going g c = c.requires.going

pub finish-requires-clause-runs : goal.finish-requires-clause-runs
finish-requires-clause-runs g c = let m = (subst (May c.args.heap.now c.args.h.now) c.in-End.is c.requires) in m.runs

pub returns-in-End : goal.returns-in-End
returns-in-End g c = (c.finish.result, c.finish.ensures.did.founds, subst (λ (o : Op). Operated c.args.heap.now o c.args.h.now c.finish.new.h c.finish.result c.finish.ensures.did.founds) (sym c.in-End.is) c.finish.ensures.did.did, refl)

pub poll-requires : goal.poll-requires
poll-requires g c = c.requires.going

pub leave-requires-clause-going : goal.leave-requires-clause-going
leave-requires-clause-going g c = c.requires.going

pub leave-requires-clause-none : goal.leave-requires-clause-none
leave-requires-clause-none g c = let m = (subst (May c.args.heap.now c.args.h.now) c.in-Leave.is c.requires) in m.fits

pub returns-in-Poll : goal.returns-in-Poll
returns-in-Poll g c = let did = c.poll.ensures.polled in (did.0, did.1, subst (λ (o : Op). Operated c.args.heap.now o c.args.h.now c.poll.new.h did.0 did.1) (sym c.in-Poll.is) did.2, ap (λ (o : Op). told o Done) c.in-Poll.is ∙ sym (ap (λ (o : Op). told o did.0) c.in-Poll.is))

pub returns-in-Leave : goal.returns-in-Leave
returns-in-Leave g c = let did = c.leave.ensures in (did.0, did.1, subst (λ (o : Op). Operated c.args.heap.now o c.args.h.now c.leave.new.h did.0 did.1) (sym c.in-Leave.is) did.2, ap (λ (o : Op). told o Done) c.in-Leave.is ∙ sym (ap (λ (o : Op). told o did.0) c.in-Leave.is))
