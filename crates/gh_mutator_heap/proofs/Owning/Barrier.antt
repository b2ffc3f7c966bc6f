-- A write behind the barrier while others change the heap: until its last step it changes no word that a right guards, and it goes on as the write that it is; its last step stores what the register holds.
use Rattle.std.proofs.Common.{◌≡◌, ℕ, ◌*◌, ◌≤◌, ◌⊎◌, Bool, true, false, cond, eqb, Option, Some, None, inl, refl, sym, ap, subst, ◌∙◌, arith, is_none}
use Rattle.gh_mutator_heap.proofs.Vocabulary.{Arena, Ask, EverValue, FitsPointer, Good, Held, held_then, InRange, is_number_value, IsHeld, IsQuiet, IsReached, keeping, Layout, Means, moved, pointer_of, PointerCell, Processor, Quiet, Shaded, Shared, Value, View, view, word_of_value, WritesIt, WriteStage, Writing, written}
use Rattle.gh_shade.specs.declared.shade.ShadeStage.{ShadeStage}
use Rattle.gh_shade.specs.Listing as shade
use Rattle.gh_barrier.specs.Listing as write
use Rattle.gh_poll.specs.declared.poll.Local.{Local}
use Rattle.gh_mutator_heap.proofs.Owning.Known.{Known}
use Rattle.gh_mutator_heap.proofs.Owning.Objects.{placed_below}
use Rattle.gh_mutator_heap.proofs.Owning.Steady.{Steady}

-- Its steps.

-- a step that changes nothing of what is seen of the heap
pub record LeavesAll (step : Ask) : Type 0 where
  pub quiet : IsQuiet step
  pub same : (z : Arena) (a : ℕ) (s : Shared) → view (moved z a s (Quiet step)) ≡ view s

shade_leaves : (s : shade.Shading) (q : ShadeStage) → LeavesAll (shade.asks_at s q)
shade_leaves s q = grind arith

-- a step before the last
pub record IsBefore (l : Layout) (w : Writing) (found : ℕ) : Type 0 where
  pub leaves : LeavesAll (write.asks w)
  pub goes_on : write.gives l w found ≡ None

-- its last
pub record IsLast (l : Layout) (w : Writing) (found : ℕ) : Type 0 where
  pub stores : write.asks w ≡ Ask.Store (write.cell_at w.at) (write.pointer_word w.pointer)
  pub ends : write.gives l w found ≡ Some tt

old_goes_on : (w : Writing) (old : Option ℕ) → write.given (write.shades_old w old) ≡ None
old_goes_on w old = grind arith

after_old_goes_on : (w : Writing) (sh : shade.Shading) (out : Option Shaded) → write.given (write.after_old w sh out) ≡ None
after_old_goes_on w sh out = grind arith

after_new_goes_on : (w : Writing) (sh : shade.Shading) (out : Option Shaded) → write.given (write.after_new w sh out) ≡ None
after_new_goes_on w sh out = grind arith

module _ (l : Layout) (w : Writing) (found : ℕ) where
  abbrev then : WriteStage → Writing
  then q = write.goes_at l w q found

  before : (q : WriteStage) → w.stage ≡ q → LeavesAll (write.asks_at w q) → write.given (then q) ≡ None → IsBefore l w found ⊎ IsLast l w found
  before q e leaves on = inl (record { leaves = subst (λ (p : WriteStage). LeavesAll (write.asks_at w p)) (sym e) leaves; goes_on = ap (λ (p : WriteStage). write.given (then p)) e ∙ on })

  step_at : (q : WriteStage) → w.stage ≡ q → write.is_busy q ≡ true → IsBefore l w found ⊎ IsLast l w found
  step_at q e busy = grind (arith, after_new_goes_on, after_old_goes_on, before, old_goes_on, shade_leaves)

  pub step_is : write.is_busy w.stage ≡ true → IsBefore l w found ⊎ IsLast l w found
  step_is busy = grind (arith, step_at)

-- What it writes.

pub word_written : (l : Layout) (at : PointerCell) (v : Value) (w : Writing) → WritesIt l at v w → write.pointer_word w.pointer ≡ word_of_value v
word_written l at v w it = grind arith

-- what a register holds names a word of the heap
module _ (laws : Known) (z : Arena) (v : View) (good : Good z v) where
  pub names_fit : (x : EverValue) (y : Value) → IsReached v.ever x → Means v.place v.ever.made x y → FitsPointer z.layout (pointer_of y)
  names_fit x Value.Nil reached h = tt
  names_fit x (Value.Int n) reached h = tt
  names_fit EverValue.Nil (Value.Ref r) reached h = absurd h
  names_fit (EverValue.Int i) (Value.Ref r) reached h = absurd h
  names_fit (EverValue.Ref n) (Value.Ref r) reached h = let below = placed_below laws z v good n h.1 (reached n refl) in let is = h.0 in by (eqb r 0) (omega arith) (omega arith) where
    by : (b : Bool) → 1 ≤ r → r ≤ 1024 * z.layout.pages → FitsPointer z.layout (cond b None (Some r))
    by true some within = tt
    by false some within = record { some = some; within = within }

-- where it begins
pub begins_so : Known → (l : Layout) (own : Local) (at : PointerCell) (v : Value) → InRange l (write.cell_at at) → FitsPointer l (pointer_of v) → IsHeld l own.held → is_number_value v ≡ false → WritesIt l at v (written own at v)
begins_so laws l own at v there fits is names = record { same_cell = refl; same_pointer = refl; names = names; within = laws.within.begins l at (pointer_of v) own.held there fits is; busy = refl }

-- and goes on
pub goes_so : Known → (l : Layout) (at : PointerCell) (v : Value) (w : Writing) (found : ℕ) → WritesIt l at v w → write.gives l w found ≡ None → WritesIt l at v (write.goes l w found)
goes_so laws l at v w found it e = record {
  same_cell = laws.writes.same_cell l w found ∙ it.same_cell;
  same_pointer = laws.writes.same_pointer l w found ∙ it.same_pointer;
  names = it.names;
  within = laws.within.goes_on l w found it.within;
  busy = ap is_none e;
}

-- What it holds is a buffer of the heap, and nothing else of the processor changes.
pub held_so : Known → (l : Layout) (at : PointerCell) (v : Value) (w : Writing) (found : ℕ) → WritesIt l at v w → IsHeld l (held_then l w found)
held_so laws l at v w found it = laws.within.holds l (write.goes l w found) (laws.within.goes_on l w found it.within)

pub steady_held : (z : Arena) (a : ℕ) (v : View) (m : Processor) (held : Option Held) → IsHeld z.layout held → Steady z a v m → Steady z a v (keeping m held)
steady_held z a v m held is st =
    let s = st.1.stands.sits in (
      st.0,
      record {
        stands = record { sits = record { seat = s.seat; few = s.few; stacks = s.stacks; registers = s.registers; scanned = s.scanned; cache = s.cache; held = is }; registers = st.1.stands.registers };
        knows = record { generation = st.1.knows.generation; caches = st.1.knows.caches };
      },
    )
