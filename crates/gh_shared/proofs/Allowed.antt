-- What a caller can read off a handle is enough for an operation to begin.
use Rattle.std.proofs.Common.{◌≡◌, ℕ, zero, suc, ◌+◌, ◌<◌, ◌≤◌, Bool, true, false, nat_lt, ◌==◌, ◌&&◌, ◌||◌, not, ◌%◌, List, length, get_or, refl, sym, ◌∙◌, subst, arith}
use Rattle.std.proofs.lemmas.Bool.{lt-ltb}
use Rattle.gh_shared.proofs.Vocabulary.{all_ended, arena_of, asked_by, both_true, CountsSo, ended_in, Entry, Fits, goroutine_is_over, goroutine_of, has_left, has_left_at, has_more, HasShapes, in_range, is_leaving, is_of, Layout, left_by, made_by, may_begin_of, may_leave, Mutating, nat_tests, Op, Planned, Processor, processor_kind, ProcessorMay, ProcessorRests, requests_begun, Runs, runs_by, RunsIt, Shape, slice_get-get_or, state_of, sum_by_more_le, Task, wishes_of}
use Rattle.gh_base.specs.declared.limits.TheConstants.{MOST_GOROUTINES}
use Rattle.gh_mutator.specs.Sound.{has_names, has_room, most_objects, SoundOp}

-- ---- truth values

not_left : (t : Task) → is_leaving t ≡ false → has_left_at t ≡ false
not_left t e = grind arith

pub record RunsSo (n c e : Bool) : Type 0 where
  pub there : n ≡ true
  pub its : c ≡ true
  pub goes : e ≡ false

over_so : (c e : Bool) → (true && c && not e) ≡ false → (not c || e) ≡ true
over_so c e h = grind arith

not_it : (b : Bool) → b ≡ false → not b ≡ true
not_it b e = grind arith

-- ---- the operation

module _ (p : Planned) (a : ℕ) (m : Mutating) (own : List (Entry Op)) (procs : ℕ) (left : List ℕ) (over : List Bool) (gone : Bool) (counts : CountsSo p own procs left over gone) (rests : ProcessorRests p a m own) (shapes : HasShapes p (Runs m)) where
  abbrev L : Layout
  L = p.layout

  abbrev It : ℕ → Type 0
  It g = RunsSo (nat_lt g L.goroutines) (g % L.procs == a) (ended_in own g)

  pub it_runs : (g : ℕ) → runs_by p a own g ≡ true → It g
  it_runs g h = grind arith

  pub below : (g : ℕ) → It g → g < L.goroutines
  below g h = let there = h.there in grind (arith, nat_tests)

  few : (g : ℕ) → It g → g < MOST_GOROUTINES
  few g h = let lt = below g h in let most = L.limits.goroutines_fit.1 in omega (arith, lt, most)

  lt : (i n : ℕ) → i < n → nat_lt i n ≡ true
  lt i n h = lt-ltb i n h

  -- what is left of its wishes
  pub left_is : (g : ℕ) → It g → get_or left g 0 + asked_by g own ≡ wishes_of p.script g
  left_is g h = counts.each_left g (get_or left g 0) (slice_get-get_or left g 0 (let lt = below g h in let many = counts.many_left in omega (arith, lt, many)))

  fewer : (g : ℕ) → It g → 1 ≤ left_by p own g → requests_begun own < most_objects
  fewer g h one =
      let is = left_is g h in
      let part = sum_by_more_le (λ (n : ℕ). n) left g 0 (let lt = below g h in let many = counts.many_left in omega (arith, lt, many)) in
      let all = counts.few in
      omega (arith, is, part, all, one)

  named : (g : ℕ) → It g → 1 ≤ left_by p own g → nat_lt (made_by m.processor g) most_objects ≡ true
  named g h one = grind (arith, fewer, lt)

  more : (g : ℕ) → 1 ≤ left_by p own g → nat_lt (asked_by g own) (wishes_of p.script g) ≡ true
  more g one = lt (asked_by g own) (wishes_of p.script g) (omega (arith, one))

  all_over : ((g : ℕ) → runs_by p a own g ≡ false) → (n : ℕ) → n ≤ L.goroutines → all_ended (arena_of p.script.shapes L) a own n ≡ true
  all_over h zero le = refl
  all_over h (suc n) le =
      let here : nat_lt n L.goroutines ≡ true = lt n L.goroutines (omega (arith, le)) in
      let none : (true && (n % L.procs == a) && not (ended_in own n)) ≡ false = subst (λ (b : Bool). (b && (n % L.procs == a) && not (ended_in own n)) ≡ false) here (h n) in
      both_true _ _ (over_so (n % L.procs == a) (ended_in own n) none) (all_over h n (omega (arith, le)))

  -- what each operation needs
  record Needs (o : Op) : Type 0 where
    ranged : in_range L.goroutines L.globals (length p.script.shapes) o ≡ true
    its : is_of (arena_of p.script.shapes L) a (goroutine_of o) ≡ true
    names : has_names m.processor o ≡ true
    goes : not (goroutine_is_over own (goroutine_of o)) ≡ true
    asks : has_more (wishes_of p.script) own o ≡ true
    leaves : may_leave (arena_of p.script.shapes L) a own o ≡ true
    room : has_room m.processor o ≡ true
    sound : SoundOp p.script.shapes L o

  needs : (o : Op) → RunsIt p a (Runs m) own (goroutine_of o) → Fits p a (Runs m) own o → Needs o
  needs o r f = grind (arith, all_over, below, few, it_runs, lt, more, named, not_it)

  pub record Allowed (o : Op) : Type 0 where
    pub may : ProcessorMay L m o
    pub allowed : may_begin_of p.script L a own o ≡ true

  pub allowed : (o : Op) → has_left own ≡ false → m.processor ≡ state_of (processor_kind p.script.shapes L) a own → RunsIt p a (Runs m) own (goroutine_of o) → Fits p a (Runs m) own o → Allowed o
  allowed o stays is r f =
      let n = needs o r f in
      let names : has_names (state_of (processor_kind p.script.shapes L) a own) o ≡ true = subst (λ (x : Processor). has_names x o ≡ true) is n.names in
      let room : has_room (state_of (processor_kind p.script.shapes L) a own) o ≡ true = subst (λ (x : Processor). has_room x o ≡ true) is n.room in
      record {
        may = record {
          idle = rests.idle;
          there = not_left m.processor.task (rests.leaves ∙ stays);
          sound = subst (λ (xs : List Shape). SoundOp xs L o) (sym shapes) n.sound;
          names = n.names;
          room = n.room;
        };
        allowed = both_true _ _ (both_true _ _ (both_true _ _ (both_true _ _ (both_true _ _ (both_true _ _ (both_true _ _ n.ranged n.its) names) n.goes) (not_it _ stays)) n.asks) n.leaves) room;
      }
