-- What is due at a processor's turn may begin, whatever its own entries are.
use Rattle.std.proofs.Common.{◌≡◌, ℕ, ◌+◌, ◌<◌, ◌≤◌, Bool, true, false, eqb, ◌||◌, List, [], ◌∷◌, ◌++◌, reverse, refl, sym, ◌∙◌, ap, subst, Some, arith, not, slice_get, ◌%◌}
use Rattle.std.proofs.lemmas.Bool.{eq-eqb}
use Rattle.gh_world.proofs.Vocabulary.{Actor, arena_of, Begins, begun_in, by, ended_in, ends, Entry, FitsOwnEntries, Follows, goroutine_of, has_left, has_more, has_names, has_room, is_busy_at, is_leave, is_of, is_statement, later, Layout, LaysOut, leave_is_begun, leaves, MadeAtMost, may_begin, may_leave, MayBeOver, most_objects, Next, Op, op_due, Processor, processor_kind, Program, setting_of, Stands, state_of, statements_among, statements_of, to_come, total_of, turns_of, WellFormed, wishes_of, work_of}
use Rattle.gh_world.proofs.Asking.{all_then, has_wish}
use Rattle.gh_world.proofs.Due.{both_true, due_runs, due_statement, ends_is, false_unless, few_statements, has_name_at, not_ended, not_over}
use Rattle.gh_world.proofs.Resting.{is_processor}
use Rattle.gh_world.proofs.Turning.{work_no_leave}

-- ---- behind the operation that is begun

-- what has ended may be over behind its turn
pub ended_then : (p : Program) (a : ℕ) (t : Next) (o : Op) (new : Next) (over : ℕ → Bool) → Follows p a t o new → ((g : ℕ) → over g ≡ true → MayBeOver p t g) → (g : ℕ) → (ends (Some o) g || over g) ≡ true → MayBeOver p new g
ended_then p a t o new over follows before g h = go (ends (Some o) g) refl h where
  go : (c : Bool) → ends (Some o) g ≡ c → (c || over g) ≡ true → MayBeOver p new g
  go true e q = follows.ends g (ends_is o g e)
  go false e q = follows.over g (before g q)

pub left_then : (p : Program) (a : ℕ) (t : Next) (o : Op) (new : Next) (gone : Bool) → Follows p a t o new → op_due p t ≡ Some o → (gone ≡ true → leave_is_begun t ≡ true) → (leaves (Some o) || gone) ≡ true → leave_is_begun new ≡ true
left_then p a t o new gone follows due before h = grind arith

-- ---- what is due may begin

not_true : (b : Bool) → b ≡ false → not b ≡ true
not_true b e = grind arith

module _ (p : Program) (l : Layout) (formed : WellFormed p) (lays : LaysOut p l) (a : ℕ) where
  -- it is of a goroutine of the processor
  of_it : (t : Next) (o : Op) → Stands p a t → op_due p t ≡ Some o → is_of (arena_of p.shapes l) a (goroutine_of o) ≡ true
  of_it t o stands due = grind arith

  more_of : (es : List (Entry Op)) (o : Op) (rest : List Op) → turns_of p a ≡ reverse (begun_in es) ++ o ∷ rest → has_more (wishes_of p) es o ≡ true
  more_of es (Op.New g d t) rest turns = has_wish p a g es (Op.New g d t) rest turns (eq-eqb g g refl)
  more_of es (Op.Gc g) rest turns = has_wish p a g es (Op.Gc g) rest turns (eq-eqb g g refl)
  more_of es _ rest turns = refl

  -- what is to come begins with it
  come_due : (t : Next) (o : Op) → op_due p t ≡ Some o → (rest : List Op) × (to_come p a t ≡ o ∷ rest)
  come_due (Next.Poll r g) o due = let same : Op.Poll ≡ o = cc in (work_of p r g ∷ later p a r (g + 1), ap (λ (x : Op). x ∷ work_of p r g ∷ later p a r (g + 1)) same)
  come_due (Next.Run r g) o due = let same : work_of p r g ≡ o = cc in (later p a r (g + 1), ap (λ (x : Op). x ∷ later p a r (g + 1)) same)
  come_due Next.Leave o due = let same : Op.Leave ≡ o = cc in ([], ap (λ (x : Op). x ∷ []) same)
  come_due Next.Over o due = absurd cc

  no_leave : (es : List (Entry Op)) (o : Op) → is_leave o ≡ false → may_leave (arena_of p.shapes l) a es o ≡ true
  no_leave es o e = grind arith

  -- it is the leave only where each goroutine has ended
  leaves_at : (es : List (Entry Op)) (t : Next) (o : Op) → op_due p t ≡ Some o → turns_of p a ≡ reverse (begun_in es) ++ to_come p a t → may_leave (arena_of p.shapes l) a es o ≡ true
  leaves_at es (Next.Poll r g) o due turns = let same : Op.Poll ≡ o = cc in no_leave es o (ap is_leave (sym same))
  leaves_at es (Next.Run r g) o due turns = let same : work_of p r g ≡ o = cc in no_leave es o (ap is_leave (sym same) ∙ work_no_leave g (slice_get (statements_of p g) r))
  leaves_at es Next.Leave o due turns =
      let same : Op.Leave ≡ o = cc in
      subst (λ (x : Op). may_leave (arena_of p.shapes l) a es x ≡ true) same (all_then p (arena_of p.shapes l) a es (λ g. ap (λ (n : ℕ). eqb (g % n) a) lays.procs_are) l.goroutines (omega (arith, lays.goroutines_are)) turns)
  leaves_at es Next.Over o due turns = absurd cc

  -- so it fits in with what the processor has begun
  pub due_fits : (es : List (Entry Op)) (t : Next) (o : Op) → op_due p t ≡ Some o → Stands p a t → turns_of p a ≡ reverse (begun_in es) ++ to_come p a t → ((g : ℕ) → ended_in es g ≡ true → MayBeOver p t g) → (has_left es ≡ true → leave_is_begun t ≡ true) → FitsOwnEntries p l a es o
  due_fits es t o due stands turns over left =
      let come = come_due t o due in
      record {
        ranged = (due_runs p l formed lays a t o stands due).ranged;
        its = of_it t o stands due;
        going = not_ended p a t o es stands due over;
        staying = false_unless (has_left es) (λ h. not_over p t o due (left h));
        asking = more_of es o come.0 (turns ∙ ap (λ (os : List Op). reverse (begun_in es) ++ os) come.1);
        leaving = leaves_at es t o due turns;
      }

  -- where nothing is begun
  pub due_begins : (seat : a < l.procs) → ((es : List (Entry Op)) → state_of (processor_kind p.shapes l) a es ≡ state_of (processor_kind p.shapes l) a (by a es)) → (es : List (Entry Op)) (t : Next) (o : Op) (stated : ℕ) → is_busy_at (state_of (processor_kind p.shapes l) a es).task ≡ false → op_due p t ≡ Some o →
      MadeAtMost stated (state_of (processor_kind p.shapes l) a es) → Stands p a t → stated + statements_among (to_come p a t) ≤ total_of p → turns_of p a ≡ reverse (begun_in (by a es)) ++ to_come p a t →
      ((g : ℕ) → ended_in (by a es) g ≡ true → MayBeOver p t g) → (has_left (by a es) ≡ true → leave_is_begun t ≡ true) → has_room (state_of (processor_kind p.shapes l) a es) o ≡ true → Begins (setting_of p l) a es (Some o)
  due_begins seat own es t o stated idle due made stands all turns over left room =
      let m = state_of (processor_kind p.shapes l) a es in
      let fs = by a es in
      let few : is_statement o ≡ true → stated < most_objects = λ sure. omega (arith, due_statement p a t o due sure, all, few_statements p formed) in
      let names : has_names (state_of (processor_kind p.shapes l) a fs) o ≡ true = subst (λ (n : Processor). has_names n o ≡ true) (own es) (has_name_at m stated o made few) in
      let fits = due_fits fs t o due stands turns over left in
      let may : may_begin (arena_of p.shapes l) (wishes_of p) a (state_of (processor_kind p.shapes l) a fs) fs o ≡ true =
      both_true _ _ (both_true _ _ (both_true _ _ (both_true _ _ (both_true _ _ (both_true _ _ (both_true _ _ fits.ranged fits.its) names) (not_true _ fits.going)) (not_true _ fits.staying)) fits.asking) fits.leaving) (subst (λ (n : Processor). has_room n o ≡ true) (own es) room) in
      (ap (λ (x : Actor). (setting_of p l).kind.busy x) (is_processor p l a seat es) ∙ idle, may)
