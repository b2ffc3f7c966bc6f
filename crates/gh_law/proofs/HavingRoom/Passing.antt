-- Where a search has passed each buffer another actor has stepped between: the search's own entries leave the buffers' words as they were, and by these one of the buffers has room.
use Rattle.std.proofs.Common.{◌≡◌, ◌⊎◌, inl, inr, ℕ, ◌==◌, Bool, true, false, cond, refl, sym, ap, subst, ◌∙◌, arith, List, [], ◌∷◌}
use Rattle.gh_law.proofs.Vocabulary.{AnotherSteps, Ask, Cell, cell_of, effect, Entry, FindsItGone, FindsNoRoom, HasRoom, IsEntryOf, IsStartOf, Legal, legal_start, LoadsBuffer, LosesBuffer, nat_tests, Op, PassesAll, RoomStands, Setup, StandsSince, start_of_start, those, whole, Words, words}
use Rattle.gh_base.specs.Cells.{put}

module _ (setup : Setup) where
  abbrev Lawful : List (Entry Op) → Type 0
  Lawful es = Legal (those setup) es

  abbrev told : List (Entry Op) → Words
  told es = words setup es

  -- an entry of such a search leaves each buffer's word

  module _ (e : Entry Op) (before : List (Entry Op)) (legal : Lawful (e ∷ before)) where
    found_at : (q : Ask) → e.ask ≡ q → e.found ≡ told before (cell_of q)
    found_at q is = legal.1.found ∙ ap (λ (x : Ask). told before (cell_of x)) is

    abbrev Leaves : Type 0
    Leaves = (b : ℕ) → told (e ∷ before) (Cell.Buffer b) ≡ told before (Cell.Buffer b)

    load_leaves : (buffer : ℕ) → LoadsBuffer buffer e → Leaves
    load_leaves buffer loads b = ap (λ (q : Ask). effect (told before) q (Cell.Buffer b)) loads

    lost_leaves : (buffer word : ℕ) → LosesBuffer buffer word e → Leaves
    lost_leaves buffer word x b = ap (λ (q : Ask). effect (told before) q (Cell.Buffer b)) x.tries ∙ go (told before (Cell.Buffer buffer) == word) refl where
      go : (t : Bool) → (told before (Cell.Buffer buffer) == word) ≡ t → effect (told before) (Ask.Swap (Cell.Buffer buffer) word x.new) (Cell.Buffer b) ≡ told before (Cell.Buffer b)
      go false is = ap (λ (t : Bool). (cond t (put (told before) (Cell.Buffer buffer) x.new) (told before)) (Cell.Buffer b)) is
      go true is = absurd (x.other (found_at (Ask.Swap (Cell.Buffer buffer) word x.new) x.tries ∙ grind (arith, nat_tests)))

    leaves : (buffer : ℕ) → LoadsBuffer buffer e ⊎ (word : ℕ) × LosesBuffer buffer word e → Leaves
    leaves buffer (inl loads) = load_leaves buffer loads
    leaves buffer (inr lost) = lost_leaves buffer lost.0 lost.1

  module _ (start es : List (Entry Op)) (a : ℕ) (legal : Lawful es) (passes : PassesAll start es setup.layout a) where
    abbrev Same : List (Entry Op) → Type 0
    Same xs = (b : ℕ) → told xs (Cell.Buffer b) ≡ told start (Cell.Buffer b)

    same_as : (xs : List (Entry Op)) → start ≡ xs → Same xs
    same_as xs is b = ap (λ (ys : List (Entry Op)). told ys (Cell.Buffer b)) (sym is)

    -- at each moment since, the words are those, or another has stepped
    since : (xs : List (Entry Op)) → IsStartOf start xs → IsStartOf xs es → AnotherSteps start es a ⊎ Same xs
    since [] s of = inr (same_as [] s)
    since (e ∷ xs) (inl s) of = inr (same_as (e ∷ xs) s)
    since (e ∷ xs) (inr s) of = by (e.actor == a) refl (since xs s (start_of_start xs (e ∷ xs) es (inr (whole xs)) of)) where
      stands : StandsSince start es e
      stands = record { before = xs; there = of; since = s }

      by : (t : Bool) → (e.actor == a) ≡ t → AnotherSteps start es a ⊎ Same xs → AnotherSteps start es a ⊎ Same (e ∷ xs)
      by t is (inl another) = inl another
      by false is (inr same) = inl (record { entry = e; stands = stands; other = λ own. grind (arith, nat_tests, is, own) })
      by true is (inr same) =
          let tried = passes.takes_none e (record { stands = stands; by = grind (arith, nat_tests, is) }) in
          inr (λ b. leaves e xs (legal_start (those setup) (e ∷ xs) es of legal) tried.0 tried.1 b ∙ same b)

    -- what an entry of the search finds is the word as it was
    found_then : (e : Entry Op) → IsEntryOf start es a e → (buffer : ℕ) (q : Ask) → e.ask ≡ q → cell_of q ≡ Cell.Buffer buffer → AnotherSteps start es a ⊎ (e.found ≡ told start (Cell.Buffer buffer))
    found_then e of buffer q is on =
        let x = of.stands in
        elim (since x.before x.since (start_of_start x.before (e ∷ x.before) es (inr (whole x.before)) x.there)) [
          | inl another ↦ inl another
          | inr same ↦ inr (found_at e x.before (legal_start (those setup) (e ∷ x.before) es x.there legal) q is ∙ (ap (told x.before) on ∙ same buffer))
        ]

    looked : (room : RoomStands setup.layout (told start)) → FindsNoRoom start es a room.buffer → AnotherSteps start es a
    looked room x = elim (found_then x.looks x.of room.buffer (Ask.Load (Cell.Buffer room.buffer)) x.loads refl) [
      | inl another ↦ another
      | inr found ↦ absurd (x.no_room (subst HasRoom (sym found) room.has))
    ]

    lost : (buffer : ℕ) → FindsItGone start es a buffer → AnotherSteps start es a
    lost buffer x = elim (found_then x.looks x.of buffer (Ask.Load (Cell.Buffer buffer)) x.loads refl) [
      | inl another ↦ another
      | inr first ↦ elim (found_then x.tries x.of_too buffer (Ask.Swap (Cell.Buffer buffer) x.looks.found x.loses.new) x.loses.tries refl) [
        | inl another ↦ another
        | inr then ↦ absurd (x.loses.other (then ∙ sym first))
      ]
    ]

    pub another_steps : RoomStands setup.layout (told start) → AnotherSteps start es a
    another_steps room = elim (passes.each room.buffer room.there) [ inl x ↦ looked room x | inr x ↦ lost room.buffer x ]
