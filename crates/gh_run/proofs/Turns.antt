-- A processor between two of its turns, once it has taken a further one.
use Rattle.std.proofs.Common.{◌≡◌, ℕ, ◌+◌, ◌<◌, Bool, true, false, cond, List, [], ◌∷◌, ◌++◌, length, length-append, Option, Some, None, refl, sym, ap, subst, ◌∙◌, arith}
use Rattle.std.proofs.lemmas.List.{append-nil}
use Rattle.gh_run.proofs.Vocabulary.{Actor, Answer, answers_in, arena_of, AreTurns, asks, begins, begun_in, by, by_made, EachKeepsItsPlace, ended_at, ended_of, entries_made, Entry, filter, Follows, Gave, given_of, gives, goes, Handle, has_left, has_left_at, has_point, has_room_then, HasShapes, Heap, HeapActor, is_leaving, is_poll_due, is_processor, is_run_due, is_statement, IsBetweenTurns, IsProcessor, its_goroutine, KeepsPlace, Layout, layout_of, Leads, machine_actor, machine_after, machine_of, Marks, Mutating, Next, number_of, OfItsOwn, Op, op_due, Operated, option_to_list, own_of, PlacesAreKept, plan_of, Planned, processor_kind, Program, Progress, progress_after, Runs, setting, state_of, statement_pointed, statements_among, Task, to_come, told, told_in_order, view_of, WellFormed}
use Rattle.gh_base.specs.Packing.{bit}
use Rattle.gh_mutator.specs.PollRoom.{PollsMakeRoom}
use Rattle.gh_run.proofs.Fitting.{going_on}
use Rattle.gh_run.proofs.Given as given
use Rattle.gh_world.proofs.Due.{leaves_is}

-- ---- its place

module _ (l : Layout) (p : Program) (a : ℕ) (t : Progress) (o : Op) (new : Next) (m : HeapActor) (log : List (Entry Op)) (law : PlacesAreKept p a) (formed : WellFormed p) (turns : AreTurns p a t) (place : KeepsPlace p a t log) (due : op_due p t.next ≡ Some o) (follows : Follows p a t.next o new) where
  place_then : (n : ℕ) (ns : List ℕ) → KeepsPlace p a (progress_after t (Some o) new) (entries_made (asks l) (goes l) a (Some o) m (n ∷ ns) ++ log)
  place_then n [] = law.begins t log _ o new formed turns place refl refl due follows
  place_then n (k ∷ ks) = law.goes_on (progress_after t (Some o) new) (entries_made (asks l) (goes l) a (Some o) m (k ∷ ks) ++ log) _ (place_then k ks) refl

  pub keeps : (founds : List ℕ) (x : Option Answer) → Gave (goes l) (gives l) m founds x → KeepsPlace p a (progress_after t (Some o) new) (entries_made (asks l) (goes l) a (Some o) m founds ++ log)
  keeps [] x gave = absurd gave
  keeps (n ∷ ns) x gave = place_then n ns

-- ---- its answers

-- one operation more is answered, if it has a point
told_more : (o : Op) (os : List Op) (x : Answer) (gs : List Answer) → told_in_order (filter has_point (o ∷ os)) (option_to_list (cond (has_point o) (Some x) None) ++ gs) ≡ told_in_order (filter has_point os) gs ++ told o x
told_more o os x gs = go (has_point o) refl where
  go : (b : Bool) → has_point o ≡ b → told_in_order (cond b (o ∷ filter has_point os) (filter has_point os)) (option_to_list (cond b (Some x) None) ++ gs) ≡ told_in_order (filter has_point os) gs ++ told o x
  go true e = refl
  go false e = sym (ap (λ (b : Bool). told_in_order (filter has_point os) gs ++ cond b ((its_goroutine o, x) ∷ []) []) (statement_pointed o e) ∙ append-nil (told_in_order (filter has_point os) gs))

not_left : (t : Task) (l : Bool) → is_leaving t ≡ l → l ≡ false → has_left_at t ≡ false
not_left Task.Left l e f = absurd (let no : true ≡ false = e ∙ f in cc)
not_left _ l e f = refl

module _ (law : OfItsOwn) (h h' : Handle) (o : Op) (founds : List ℕ) (x : Answer) where
  abbrev q : Planned
  q = (view_of h).plan

  abbrev a : ℕ
  a = number_of h

  answers_at : (m : Mutating) → machine_of h ≡ Runs m → ended_of h ≡ false → (view_of h').log ≡ entries_made (asks q.layout) (goes q.layout) a (Some o) (begins (Runs m) o) founds ++ (view_of h).log → Gave (goes q.layout) (gives q.layout) (begins (Runs m) o) founds (Some x) → answers_in q a (by a (view_of h').log) ≡ answers_in q a (own_of h) ++ told o x
  answers_at m is going log gave =
      let rests = h.kept.rests m is in
      let shapes : HasShapes q (Runs m) = subst (HasShapes q) is h.hand.belongs.1 in
      let own : by a (view_of h').log ≡ given.Made q.layout a m o (own_of h) founds = ap (by a) log ∙ by_made q.layout a (Some o) (begins (Runs m) o) founds (view_of h).log in
      let whole : Actor.Runs m.processor ≡ Actor.Runs (state_of (processor_kind q.script.shapes q.layout) a (own_of h)) = sym (ap machine_actor is) ∙ h.hand.state ∙ law (setting q).kind a (view_of h).log ∙ is_processor q.script q.layout a rests.seat (own_of h) in
      let state : state_of (processor_kind q.script.shapes q.layout) a (own_of h) ≡ m.processor = cc in
      let there : has_left_at m.processor.task ≡ false = not_left m.processor.task (has_left (own_of h)) rests.leaves (subst (λ (y : HeapActor). ended_at y (own_of h) ≡ false) is going) in
      ap (answers_in q a) own
      ∙ ap (λ (os : List Op). told_in_order (filter has_point os) (given_of (arena_of q.script.shapes q.layout) (setting q).opening a (given.Made q.layout a m o (own_of h) founds))) (given.begun_more q.layout a m o (own_of h) founds x gave)
      ∙ ap (λ (gs : List Answer). told_in_order (filter has_point (o ∷ begun_in (own_of h))) gs) (given.given_more q a m o (own_of h) shapes state there founds x gave)
      ∙ told_more o (begun_in (own_of h)) x (given_of (arena_of q.script.shapes q.layout) (setting q).opening a (own_of h))

-- ---- all of it

processor_is : (x : HeapActor) → IsProcessor x → (m : Mutating) × (x ≡ Runs m)
processor_is (Runs m) is = (m, refl)
processor_is (Marks w) is = absurd is
processor_is (Leads c) is = absurd is

poll_due : (p : Program) (n : Next) (o : Op) → op_due p n ≡ Some o → is_poll_due n ≡ true → Op.Poll ≡ o
poll_due p (Next.Poll r g) o due e = cc
poll_due p (Next.Run r g) o due e = absurd cc
poll_due p Next.Leave o due e = absurd cc
poll_due p Next.Over o due e = absurd cc

told_long : (o : Op) (x : Answer) → length (told o x) ≡ bit (is_statement o)
told_long o x = go (is_statement o) where
  go : (b : Bool) → length {A = ℕ × Answer} (cond b ((its_goroutine o, x) ∷ []) []) ≡ bit b
  go true = refl
  go false = refl

module _ (p : Program) (heap : Heap) (h : Handle) (t : Progress) (answers : List (ℕ × Answer)) (room : ℕ) (o : Op) (b : IsBetweenTurns p heap h t answers room) where
  -- there is room for a statement's answer
  pub has_room : (new : Next) → Follows p (number_of h) t.next o new → is_statement o ≡ true → length answers < room
  has_room new follows is =
      let come : statements_among (to_come p (number_of h) t.next) ≡ bit (is_statement o) + statements_among (to_come p (number_of h) new) = ap statements_among follows.come in
      let one : bit (is_statement o) ≡ 1 = ap bit is in
      let roomy = b.roomy in
      omega (arith, come, one, roomy)

  pub between_then : (h' : Handle) (t' : Progress) (answers' : List (ℕ × Answer)) (room' : ℕ) (x : Answer) (founds : List ℕ) → OfItsOwn → EachKeepsItsPlace → PollsMakeRoom → WellFormed p → op_due p t.next ≡ Some o → Operated heap o h h' x founds → AreTurns p (number_of h) t' → Follows p (number_of h) t.next o t'.next →
      is_run_due t'.next ≡ is_poll_due t.next → t' ≡ progress_after t (Some o) t'.next → answers' ≡ answers ++ told o x → room' ≡ room → IsBetweenTurns p heap h' t' answers' room'
  between_then h' t' answers' room' x founds own_law place_law polls formed due did turns follows behind counted is same =
      let a = number_of h in
      let y = processor_is (machine_of h) b.processor in
      let ran = did.ran in
      let place : KeepsPlace p a (progress_after t (Some o) t'.next) (entries_made (asks (layout_of h)) (goes (layout_of h)) a (Some o) (begins (machine_of h) o) founds ++ (view_of h).log) = keeps (layout_of h) p a t o t'.next (begins (machine_of h) o) (view_of h).log (place_law p a) formed b.turns b.place due follows founds (Some x) did.gave in
      let made = answers_at own_law h h' o founds x y.0 y.1 (b.left ∙ going_on p t.next o due) (subst (λ (m : HeapActor). (view_of h').log ≡ entries_made (asks (layout_of h)) (goes (layout_of h)) a (Some o) (begins m o) founds ++ (view_of h).log) y.1 ran.log) (subst (λ (m : HeapActor). Gave (goes (layout_of h)) (gives (layout_of h)) (begins m o) founds (Some x)) y.1 did.gave) in
      let come : statements_among (to_come p a t.next) ≡ bit (is_statement o) + statements_among (to_come p a t'.next) = ap statements_among follows.come in
      let long = ap length is ∙ length-append answers (told o x) in
      let one = told_long o x in
      let its = ap (λ (n : ℕ). statements_among (to_come p n t'.next)) did.number in
      let roomy = b.roomy in
      record {
        script = b.script;
        of = did.of;
        alone = ran.actors ∙ b.alone ∙ ap (λ (n : ℕ). n ∷ []) (sym did.number);
        processor = did.shows.processor;
        turns = subst (λ (n : ℕ). AreTurns p n t') (sym did.number) turns;
        place = subst (λ (n : ℕ). KeepsPlace p n t' (view_of h').log) (sym did.number) (subst (λ (u : Progress). KeepsPlace p a u (view_of h').log) (sym counted) (subst (KeepsPlace p a (progress_after t (Some o) t'.next)) (sym ran.log) place));
        left = did.shows.ended ∙ leaves_is o ∙ sym follows.leaves;
        polled = λ e.
            let poll = poll_due p t.next o due (sym behind ∙ e) in
            has_room_then (layout_of h) (machine_of h) (machine_of h') founds polls b.processor (subst (λ (u : Op). machine_of h' ≡ machine_after (goes (layout_of h)) (begins (machine_of h) u) founds) (sym poll) ran.machine) (λ m e. (h'.kept.rests m e).idle);
        kept = is
            ∙ ap (λ (xs : List (ℕ × Answer)). xs ++ told o x) (b.kept ∙ ap (λ (q : Planned). answers_in q a (own_of h)) (sym b.of.plan))
            ∙ sym made
            ∙ ap (λ (q : Planned). answers_in q a (by a (view_of h').log)) b.of.plan
            ∙ ap (λ (n : ℕ). answers_in (plan_of heap) n (by n (view_of h').log)) (sym did.number);
        roomy = omega (arith, come, long, one, its, roomy, same);
      }
