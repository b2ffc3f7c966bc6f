-- What is due among a processor's turns may begin by its handle.
use Rattle.std.proofs.Common.{◌≡◌, ℕ, zero, suc, ◌<◌, ◌≤◌, ◌%◌, ◌==◌, nat_lt, Bool, true, false, not, ◌&&◌, ◌||◌, length, List, Some, refl, sym, ap, subst, ◌∙◌, arith}
use Rattle.gh_run.proofs.Vocabulary.{all_ended, Answer, arena_of, asked_by, ended_in, Entry, Fits, FitsOwnEntries, goroutine_of, Handle, has_point, Heap, HeapActor, is_run_due, IsBetweenTurns, Layout, LaysOut, leave_is_begun, left_by, machine_of, May, nat_tests, Next, number_of, Op, op_due, own_of, plan_of, Planned, Program, Progress, room_at, runs_by, RunsIt, view_of, WellFormed, WhatIsDueFits, wishes_of}
use Rattle.gh_lists.specs.Beginning.{both}

less : (i n : ℕ) → nat_lt i n ≡ true → i < n
less i n e = grind (arith, nat_tests)

runs_on : (n c e : Bool) → n ≡ true → c ≡ true → e ≡ false → (n && c && not e) ≡ true
runs_on true true false h i j = refl
runs_on true true true h i j = absurd cc
runs_on true false e h i j = absurd cc
runs_on false c e h i j = absurd cc

-- a goroutine that is none of the processor's, or that has ended, does not run
stands_still : (n c e : Bool) → (not c || e) ≡ true → (n && c && not e) ≡ false
stands_still true true true h = refl
stands_still true true false h = absurd cc
stands_still true false e h = refl
stands_still false c e h = refl

none_beyond : (n c e : Bool) → n ≡ false → (n && c && not e) ≡ false
none_beyond true c e h = absurd cc
none_beyond false c e h = refl

module _ (q : Planned) (a : ℕ) (x : HeapActor) (own : List (Entry Op)) where
  abbrev L : Layout
  L = q.layout

  its_runs : (g : ℕ) → nat_lt g L.goroutines ≡ true → (g % L.procs == a) ≡ true → ended_in own g ≡ false → runs_by q a own g ≡ true
  its_runs g there its going = runs_on (nat_lt g L.goroutines) (g % L.procs == a) (ended_in own g) there its going

  one_left : (g : ℕ) → nat_lt (asked_by g own) (wishes_of q.script g) ≡ true → 1 ≤ left_by q own g
  one_left g e = let lt = less (asked_by g own) (wishes_of q.script g) e in omega (arith, lt)

  ended_below : (n g : ℕ) → all_ended (arena_of q.script.shapes L) a own n ≡ true → g < n → (not (g % L.procs == a) || ended_in own g) ≡ true
  ended_below zero g all lt = absurd (omega (arith, lt))
  ended_below (suc n) g all lt =
      let b = both (not (n % L.procs == a) || ended_in own n) (all_ended (arena_of q.script.shapes L) a own n) all in
      go (g == n) refl b (λ less. ended_below n g b.1 less)
    where
      go : (c : Bool) → (g == n) ≡ c → ((not (n % L.procs == a) || ended_in own n) ≡ true) × (all_ended (arena_of q.script.shapes L) a own n ≡ true) → (g < n → (not (g % L.procs == a) || ended_in own g) ≡ true) → (not (g % L.procs == a) || ended_in own g) ≡ true
      go true e b below = let same : n ≡ g = grind (arith, nat_tests) in subst (λ (k : ℕ). (not (k % L.procs == a) || ended_in own k) ≡ true) same b.0
      go false e b below = below (grind (arith, nat_tests))

  none_runs : all_ended (arena_of q.script.shapes L) a own L.goroutines ≡ true → (g : ℕ) → runs_by q a own g ≡ false
  none_runs all g = go (nat_lt g L.goroutines) refl where
    go : (b : Bool) → nat_lt g L.goroutines ≡ b → runs_by q a own g ≡ false
    go true e = stands_still (nat_lt g L.goroutines) (g % L.procs == a) (ended_in own g) (ended_below L.goroutines g all (less g L.goroutines e))
    go false e = none_beyond (nat_lt g L.goroutines) (g % L.procs == a) (ended_in own g) e

  -- what the operation asks for is there
  record Begins (o : Op) : Type 0 where
    runs : RunsIt q a x own (goroutine_of o)
    fits : Fits q a x own o

  begins : (o : Op) → FitsOwnEntries q.script L a own o → (has_point o ≡ true → 2 ≤ room_at x) → Begins o
  begins (Op.New g d t) f room =
      let r = both _ (nat_lt t (length q.script.shapes)) f.ranged in let s = both _ (nat_lt d _) r.0 in
      record { runs = its_runs g s.0 f.its f.going; fits = (less d _ s.1, less t _ r.1, one_left g f.asking) }
  begins (Op.Load g d b k) f room =
      let r = both _ (nat_lt b _) f.ranged in let s = both _ (nat_lt d _) r.0 in
      record { runs = its_runs g s.0 f.its f.going; fits = (less d _ s.1, less b _ r.1) }
  begins (Op.Store g b k v) f room =
      let r = both _ (nat_lt v _) f.ranged in let s = both _ (nat_lt b _) r.0 in
      record { runs = its_runs g s.0 f.its f.going; fits = (less b _ s.1, less v _ r.1, room refl) }
  begins (Op.GetGlobal g d k) f room =
      let r = both _ (nat_lt k _) f.ranged in let s = both _ (nat_lt d _) r.0 in
      record { runs = its_runs g s.0 f.its f.going; fits = (less d _ s.1, less k _ r.1) }
  begins (Op.SetGlobal g k v) f room =
      let r = both _ (nat_lt v _) f.ranged in let s = both _ (nat_lt k _) r.0 in
      record { runs = its_runs g s.0 f.its f.going; fits = (less v _ r.1, less k _ s.1, room refl) }
  begins (Op.Int g d n) f room =
      let r = both _ (nat_lt d _) f.ranged in
      record { runs = its_runs g r.0 f.its f.going; fits = less d _ r.1 }
  begins (Op.Move g d s) f room =
      let r = both _ (nat_lt s _) f.ranged in let t = both _ (nat_lt d _) r.0 in
      record { runs = its_runs g t.0 f.its f.going; fits = (less d _ t.1, less s _ r.1) }
  begins (Op.Nil g d) f room =
      let r = both _ (nat_lt d _) f.ranged in
      record { runs = its_runs g r.0 f.its f.going; fits = less d _ r.1 }
  begins (Op.Gc g) f room = record { runs = its_runs g f.ranged f.its f.going; fits = one_left g f.asking }
  begins Op.Poll f room = record { runs = tt; fits = tt }
  begins (Op.End g) f room = record { runs = its_runs g f.ranged f.its f.going; fits = tt }
  begins Op.Leave f room = record { runs = tt; fits = none_runs f.leaving }

-- what is no poll and no leave comes behind a poll
run_due : (p : Program) (n : Next) (o : Op) → op_due p n ≡ Some o → has_point o ≡ true → is_run_due n ≡ true
run_due p (Next.Poll r g) o due h = let same : Op.Poll ≡ o = cc in absurd (let no : false ≡ true = ap has_point same ∙ h in cc)
run_due p (Next.Run r g) o due h = refl
run_due p Next.Leave o due h = let same : Op.Leave ≡ o = cc in absurd (let no : false ≡ true = ap has_point same ∙ h in cc)
run_due p Next.Over o due h = absurd cc

pub going_on : (p : Program) (n : Next) (o : Op) → op_due p n ≡ Some o → leave_is_begun n ≡ false
going_on p (Next.Poll r g) o due = refl
going_on p (Next.Run r g) o due = refl
going_on p Next.Leave o due = refl
going_on p Next.Over o due = absurd cc

-- the processor may begin what is due
pub due_may : (p : Program) (heap : Heap) (h : Handle) (t : Progress) (answers : List (ℕ × Answer)) (room : ℕ) (o : Op) → WhatIsDueFits → WellFormed p → IsBetweenTurns p heap h t answers room → op_due p t.next ≡ Some o → May heap h o
due_may p heap h t answers room o law formed b due =
    let q = (view_of h).plan in
    let is : p ≡ q.script = sym b.script.script ∙ ap (λ (x : Planned). x.script) (sym b.of.plan) in
    let out : LaysOut p q.layout = subst (λ (x : Planned). LaysOut p x.layout) (sym b.of.plan) b.script.layout in
    let fits = law p q.layout (number_of h) t (view_of h).log o formed out b.turns b.place due in
    let its = begins q (number_of h) (machine_of h) (own_of h) o (subst (λ (x : Program). FitsOwnEntries x q.layout (number_of h) (own_of h) o) is fits) (λ e. b.polled (run_due p t.next o due e)) in
    record {
      going = record { of = b.of; processor = b.processor; going = b.left ∙ going_on p t.next o due };
      runs = its.runs;
      fits = its.fits;
    }

-- ---- what its caller asks for, one by one

module _ (heap : Heap) (h : Handle) where
  pub of_type : (g d t : ℕ) → May heap h (Op.New g d t) → t < length (plan_of heap).script.shapes
  of_type g d t m = subst (λ (q : Planned). t < length q.script.shapes) m.going.of.plan m.fits.1

  pub global_there : (g d k : ℕ) → May heap h (Op.GetGlobal g d k) → k < (plan_of heap).layout.globals
  global_there g d k m = subst (λ (q : Planned). k < q.layout.globals) m.going.of.plan m.fits.1

  pub global_set : (g k v : ℕ) → May heap h (Op.SetGlobal g k v) → k < (plan_of heap).layout.globals
  global_set g k v m = subst (λ (q : Planned). k < q.layout.globals) m.going.of.plan m.fits.1
