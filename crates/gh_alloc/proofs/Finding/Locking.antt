-- The search has the lock at the stages that say so.
use Rattle.std.proofs.Common.{◌≡◌, ℕ, Bool, true, false, cond, nat_eq, Option, refl, sym, ◌∙◌, arith}
use Rattle.gh_alloc.proofs.Vocabulary.{After, after_carve, after_give, after_pass, after_slots, after_unswept, at_stage, begin, CachedSpan, Carve, CarveStage, Ended, Finding, FindStage, Give, Layout, Lock, lock_after, locked_for, Pass, searched, Slots, SlotStage, Sought, Unlock, unlocked, Unswept}
use Rattle.gh_cache.specs.Listing as slots
use Rattle.gh_central.specs.GiveBack as give
use Rattle.gh_central.specs.declared.give.GiveStage.{GiveStage}
use Rattle.gh_central.specs.SweptPass as pass
use Rattle.gh_central.specs.declared.pass.PassStage.{PassStage}
use Rattle.gh_central.specs.UnsweptPass as unswept
use Rattle.gh_central.specs.declared.unswept.UnsweptStage.{UnsweptStage}
use Rattle.gh_pages.specs.Listing as carve
use Rattle.gh_alloc.specs.Find.{asks_at, goes_at}

abbrev pub has_lock : FindStage → Bool
has_lock (Slots s) = false
has_lock Lock = false
has_lock (Ended out) = false
has_lock _ = true

-- the steps of the routines that it runs neither take the lock nor free it
slots_asks : (l : Layout) (s : slots.Searching) (p : SlotStage) (held : Bool) (w : ℕ) → lock_after held (slots.asks_at l s p) w ≡ held
slots_asks l s p held w = grind arith

give_asks : (g : give.SpanGiving) (p : GiveStage) (held : Bool) (w : ℕ) → lock_after held (give.asks_at g p) w ≡ held
give_asks g p held w = grind arith

pass_asks : (l : Layout) (m : pass.Pass) (p : PassStage) (held : Bool) (w : ℕ) → lock_after held (pass.asks_at l m p) w ≡ held
pass_asks l m p held w = grind arith

unswept_asks : (l : Layout) (m : unswept.Unswept) (p : UnsweptStage) (held : Bool) (w : ℕ) → lock_after held (unswept.asks_at l m p) w ≡ held
unswept_asks l m p held w = grind arith

carve_asks : (c : carve.Carving) (p : CarveStage) (held : Bool) (w : ℕ) → lock_after held (carve.asks_at c p) w ≡ held
carve_asks c p held w = grind arith

-- where it goes
pub begin_without : (w : Sought) (s : Option CachedSpan) → has_lock (begin w s) ≡ false
begin_without w s = grind arith

pub unlocked_without : (f : Finding) (after : After) → has_lock (unlocked f after) ≡ false
unlocked_without f after = grind arith

pub slots_without : (f : Finding) (out : Option (Option ℕ)) → has_lock f.stage ≡ false → has_lock (after_slots f out).stage ≡ false
slots_without f out h = grind arith

pub give_with : (f : Finding) (out : Option (Unit {0})) → has_lock f.stage ≡ true → has_lock (after_give f out).stage ≡ true
give_with f out h = grind arith

pub pass_with : (l : Layout) (f : Finding) (out : Option (Option ℕ)) → has_lock f.stage ≡ true → has_lock (after_pass l f out).stage ≡ true
pass_with l f out h = grind arith

pub unswept_with : (l : Layout) (f : Finding) (out : Option (Option ℕ)) → has_lock f.stage ≡ true → has_lock (after_unswept l f out).stage ≡ true
unswept_with l f out h = grind arith

pub carve_with : (l : Layout) (f : Finding) (out : Option (Option ℕ)) → has_lock f.stage ≡ true → has_lock (after_carve l f out).stage ≡ true
carve_with l f out h = grind arith

lock_found : (f : Finding) (b : Bool) → cond b true false ≡ has_lock (cond b (locked_for f f.wanted f.cached) Lock)
lock_found f b = grind arith

pub step : (l : Layout) (f : Finding) (p : FindStage) (w : ℕ) → lock_after (has_lock p) (asks_at l f p) w ≡ has_lock (goes_at l f p w).stage
step l f (Slots s) w = slots_asks l s s.stage false w ∙ sym (slots_without (searched f (slots.goes s w)) (slots.given (slots.goes s w)) refl)
step l f Lock w = lock_found f (nat_eq w 0)
step l f (Give g) w = give_asks g g.stage true w ∙ sym (give_with (at_stage f (Give (give.goes g w))) (give.given (give.goes g w)) refl)
step l f (Pass m) w = pass_asks l m m.stage true w ∙ sym (pass_with l (at_stage f (Pass (pass.goes l m w))) (pass.given (pass.goes l m w)) refl)
step l f (Unswept u) w = unswept_asks l u u.stage true w ∙ sym (unswept_with l (at_stage f (Unswept (unswept.goes l u w))) (unswept.given (unswept.goes l u w)) refl)
step l f (Carve c) w = carve_asks c c.stage true w ∙ sym (carve_with l (at_stage f (Carve (carve.goes l c w))) (carve.given (carve.goes l c w)) refl)
step l f (Unlock after) w = sym (unlocked_without f after)
step l f (Ended out) w = refl
