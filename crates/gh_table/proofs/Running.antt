-- What a step leaves.
use Rattle.std.proofs.Common.{◌≡◌, ◌≢◌, ◌⊎◌, ℕ, zero, suc, ◌+◌, ◌-◌, ◌<◌, ◌≤◌, ◌==◌, Bool, true, false, cond, List, [], ◌∷◌, ◌++◌, length, refl, sym, ap, ◌∙◌, subst, Option, Some, None, inl, inr, ⊎_elim, eq-eqb, ne_eqb, true≢false, ◌||◌, arith, IsNone, ◌↔◌}
use Rattle.std.proofs.lemmas.List.{append_assoc}
use Rattle.gh_table.proofs.Vocabulary.{Ask, BeganAs, BeganAsEach, begun_next, EndsWithin, Entry, entry, leaving, Listing, machine_after, Me, numbers_from, one_carried, Ran, rest_carried, SawLegalList, Setting, staying, Tells, told, View, WentOn, with_entry, without}
use Rattle.gh_table.proofs.Keeping.{seen_more}

module _ {O : Type 0} where
  -- what began a list begins each that goes on from it
  began_since : (xss : List (List (Entry O))) (h es : List (Entry O)) → BeganAs es h → BeganAsEach xss h → BeganAsEach xss es
  began_since [] h es on s = tt
  began_since (xs ∷ xss) h es on s = ((on.0 ++ s.0.0, append_assoc on.0 s.0.0 xs ∙ (ap (λ (l : List (Entry O)). on.0 ++ l) s.0.1 ∙ on.1)), began_since xss h es on s.1)

module _ {S K A O : Type 0} (of : K → Setting A O) where
  pub saw_legal_list : (a : ℕ) (b : Option O) (r : Ask) (n : ℕ) (me me' : Me S (View K O)) → Tells of a b r n me me' → SawLegalList of a me me'
  saw_legal_list a b r n me me' s =
      let e : Entry O = entry a b r n in
      let here : SawLegalList of a me (with_entry me.0 s.before e, me.1) = record { list = e ∷ s.before; legal = s.legal; own = ap (λ (l : List (Entry O)). cond (a == a) (e ∷ l) l) s.own; last = refl; later = seen_more me.0.seen s.before e s.seen } in
      subst (λ (x : Me S (View K O)). SawLegalList of a me x) (sym s.view) here

  -- what has begun as the lists seen now began as those seen before
  pub saw_before : (a : ℕ) (me me' : Me S (View K O)) → SawLegalList of a me me' → (es : List (Entry O)) → BeganAsEach me'.0.seen es → BeganAsEach me.0.seen es
  saw_before a me me' s es began = grind (arith, began_since)

  -- a step more
  pub saw_since : (a : ℕ) (me0 me me' : Me S (View K O)) → ((es : List (Entry O)) → BeganAsEach me.0.seen es → BeganAsEach me0.0.seen es) → SawLegalList of a me me' → SawLegalList of a me0 me'
  saw_since a me0 me me' before s = record { list = s.list; legal = s.legal; own = s.own; last = s.last; later = before s.list s.later }

-- what was found at each step, counted numbers_from 0
found_of : List ℕ → ℕ → ℕ
found_of [] i = 0
found_of (n ∷ ns) i = cond (i == length ns) n (found_of ns i)

module _ {M Out : Type 0} (r : Listing M Out) where
  told_same : (m : M) (f g : ℕ → ℕ) (s : ℕ) → ((i : ℕ) → i < s → f i ≡ g i) → told r m f s ≡ told r m g s
  told_same m f g zero same = refl
  told_same m f g (suc s) same = ap (λ (x : M). r.goes x (f s)) (told_same m f g s (λ i lt. same i (omega (arith, lt)))) ∙ ap (λ (n : ℕ). r.goes (told r m g s) n) (same s (omega arith))

  found_earlier : (n : ℕ) (ns : List ℕ) (i : ℕ) → i < length ns → found_of (n ∷ ns) i ≡ found_of ns i
  unfolding found_of
  found_earlier n ns i lt = let ne : i ≢ length ns = omega (arith, lt) in rw (ne_eqb i (length ns) ne) refl

  found_here : (n : ℕ) (ns : List ℕ) → found_of (n ∷ ns) (length ns) ≡ n
  unfolding found_of
  found_here n ns = rw (eq-eqb (length ns) (length ns) refl) refl

  told_all : (m : M) (ns : List ℕ) → told r m (found_of ns) (length ns) ≡ machine_after r.goes m ns
  told_all m [] = refl
  told_all m (n ∷ ns) =
      let one : told r m (found_of (n ∷ ns)) (length ns) ≡ machine_after r.goes m ns = told_same m (found_of (n ∷ ns)) (found_of ns) (length ns) (found_earlier n ns) ∙ told_all m ns in
      ap (λ (x : M). r.goes x (found_of (n ∷ ns) (length ns))) one ∙ ap (λ (k : ℕ). r.goes (machine_after r.goes m ns) k) (found_here n ns)

  pub busy_now : (m : M) (ns : List ℕ) → WentOn r.busy r.goes m ns → r.busy (machine_after r.goes m ns) ≡ true
  busy_now m [] goes = goes
  busy_now m (n ∷ ns) goes = goes.0

  told_busy : (m : M) (ns : List ℕ) → WentOn r.busy r.goes m ns → (s : ℕ) → s ≤ length ns → r.busy (told r m (found_of ns) s) ≡ true
  told_busy m [] goes zero le = goes
  told_busy m [] goes (suc s) le = absurd (omega (arith, le))
  told_busy m (n ∷ ns) goes s le = ⊎_elim
      (λ (lt : s < suc (length ns)). ap r.busy (told_same m (found_of (n ∷ ns)) (found_of ns) s (λ i low. found_earlier n ns i (omega (arith, low, lt)))) ∙ told_busy m ns goes.1 s (omega (arith, lt)))
      (λ (e : s ≡ suc (length ns)). ap (λ (k : ℕ). r.busy (told r m (found_of (n ∷ ns)) k)) e ∙ (ap r.busy (told_all m (n ∷ ns)) ∙ goes.0))
      (low_or_last s (length ns) le)
    where
      low_or_last : (s k : ℕ) → s ≤ suc k → (s < suc k) ⊎ (s ≡ suc k)
      low_or_last zero k le = inl (omega arith)
      low_or_last (suc s) zero le = inr (omega (arith, le))
      low_or_last (suc s) (suc k) le = ⊎_elim (λ (t : s < suc k). inl (omega (arith, t))) (λ (e : s ≡ suc k). inr (ap suc e)) (low_or_last s k (omega (arith, le)))

  -- a routine that ends within so many steps has not gone on for as many
  pub has_ended : (m : M) (ns : List ℕ) (most : ℕ) → WentOn r.busy r.goes m ns → length ns ≡ most → ((found : ℕ → ℕ) → EndsWithin r most m found) → ⊥
  has_ended m ns most goes long ends =
      let e = ends (found_of ns) in
      true≢false (sym (told_busy m ns goes e.steps (omega (arith, e.few, long))) ∙ e.ended)

-- a run grows by a step
module _ {K O M : Type 0} (asks : M → Ask) (goes : M → ℕ → M) where
  pub ran_more : (a : ℕ) (b : Option O) (n : ℕ) (ns : List ℕ) (m : M) {m' m'' : M} {me me' me'' : Me (Unit {0}) (View K O)} → begun_next b ns ≡ None → Ran asks goes a b m me m' me' ns → Ran asks goes a None m' me' m'' me'' (n ∷ []) → Ran asks goes a b m me m'' me'' (n ∷ ns)
  ran_more a b n ns m none r s = record {
    log = s.log ∙ (λ i. entry a (sym none i) (asks (r.machine i)) n ∷ r.log i);
    plan = s.plan ∙ r.plan;
    actors = s.actors ∙ r.actors;
    machine = s.machine ∙ ap (λ (x : M). goes x n) r.machine;
  }

pub none_of : {X : Type 0} (r : Option X) → ((x : X) → r ≡ Some x → ⊥) → IsNone r
none_of r never = grind arith

-- where the step gave nothing a further one is to be made
pub goes_more : {M Out : Type 0} (r : Listing M Out) (m0 m : M) (n : ℕ) (ns : List ℕ) → ((x : M) (found : ℕ) → r.busy x ≡ true → IsNone (r.gives x found) ↔ (r.busy (r.goes x found) ≡ true)) → m ≡ machine_after r.goes m0 ns → WentOn r.busy r.goes m0 ns → IsNone (r.gives m n) → WentOn r.busy r.goes m0 (n ∷ ns)
goes_more r m0 m n ns ends is goes none = grind (arith, busy_now)

-- where the step gave something none is to be made
pub ended_now : {M Out : Type 0} (r : Listing M Out) (m : M) (n : ℕ) (x : Out) → ((y : M) (found : ℕ) → r.busy y ≡ true → IsNone (r.gives y found) ↔ (r.busy (r.goes y found) ≡ true)) → r.busy m ≡ true → r.gives m n ≡ Some x → r.busy (r.goes m n) ≡ false
ended_now r m n x ends busy gave = grind arith

pub left_none : {O : Type 0} (ns : List ℕ) → begun_next {O = O} None ns ≡ None
left_none ns = grind arith

pub or_true : (a b : Bool) → a ≡ true → (a || b) ≡ true
or_true a b e = grind arith

without-from : (a i n : ℕ) → a < i → without a (numbers_from i n) ≡ numbers_from i n
without-from a i zero lt = refl
without-from a i (suc n) lt = let ne : i ≢ a = omega arith in rw (ne_eqb i a ne) (ap (λ l. i ∷ l) (without-from a (suc i) n (omega arith)))

module _ {K O : Type 0} where
  pub leaves_first : (v : View K O) (p : K) (a n : ℕ) → v ≡ rest_carried p a n → 0 < n → leaving v ≡ one_carried p a
  leaves_first v p a n e some = grind arith

  pub stays_first : (v : View K O) (p : K) (a n : ℕ) → v ≡ rest_carried p a n → 0 < n → staying v ≡ rest_carried p (a + 1) (n - 1)
  stays_first v p a n e some = grind (arith, without-from)
