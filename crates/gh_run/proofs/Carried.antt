-- The handles of jobs that have ended, gathered into one.
use Rattle.std.proofs.Common.{◌≡◌, ◌⊎◌, inl, inr, ℕ, zero, suc, ◌+◌, ◌<◌, ◌≤◌, ◌==◌, Bool, true, false, ◌||◌, if◌then◌else◌, eq-eqb, List, [], ◌∷◌, ◌++◌, length, length-append, Some, refl, sym, ap, subst, ◌∙◌, arith, slice_get}
use Rattle.std.proofs.lemmas.Bool.{cases_lt}
use Rattle.std.proofs.lemmas.Option.{slice_get_within}
use Rattle.gh_run.proofs.Vocabulary.{by, carries_of, count_among, EachFrom, Gathered, Handle, Heap, HeapJob, IsDoneOf, IsHandleOf, nat_tests, number_of, own_of, Program, seats_of, view_of, WhichJob}
use Rattle.gh_run.proofs.Places.{each_first, each_of, each_rest}
use Rattle.gh_table.specs.Views.{has}

-- what a number counts where it is one of a single one
abbrev counted : Bool → ℕ
counted b = if (if b then true else false) then 1 else 0

-- how many of the first n numbers one is among
pub one_among : (a n : ℕ) → a < n → count_among (a ∷ []) n ≡ 1
one_among a zero lt = absurd (omega (arith, lt))
one_among a (suc n) lt = go (a == n) refl (λ less. one_among a n less) where
  none : (k : ℕ) → k ≤ a → count_among (a ∷ []) k ≡ 0
  none zero le = refl
  none (suc k) le =
      let rest = none k (omega (arith, le)) in
      let no : (a == k) ≡ false = grind (arith, nat_tests) in
      let not_it : counted (a == k) ≡ 0 = ap counted no in
      omega (arith, rest, not_it)

  go : (b : Bool) → (a == n) ≡ b → (a < n → count_among (a ∷ []) n ≡ 1) → count_among (a ∷ []) (suc n) ≡ 1
  go true e before =
      let same : a ≡ n = grind (arith, nat_tests) in
      let rest = none n (omega (arith, same)) in
      let it : counted (a == n) ≡ 1 = ap counted e in
      omega (arith, rest, it)
  go false e before =
      let less : a < n = grind (arith, nat_tests) in
      let rest = before less in
      let it : counted (a == n) ≡ 0 = ap counted e in
      omega (arith, rest, it)

module _ {G : Type 0} (p : Program) (heap : Heap) (done : List (HeapJob G)) where
  -- the handle carries the last of n jobs and the first k, with their entries
  pub record Gathers (n k : ℕ) (h : Handle) : Type 0 where
    pub of : IsHandleOf heap h
    pub many : carries_of h ≡ k + 1
    pub others : (a : ℕ) → k ≤ a → suc a < n → has (view_of h).actors a ≡ false
    pub own : (a : ℕ) (j : HeapJob G) → a < n → (a < k) ⊎ (suc a ≡ n) → slice_get done a ≡ Some j → (has (view_of h).actors a ≡ true) × (by a (view_of h).log ≡ own_of j.handle)

or_all : (b c : Bool) → b ≡ true → (b || c) ≡ true
or_all true c e = refl
or_all false c e = absurd cc

module _ {G : Type 0} (p : Program) (heap : Heap) (done : List (HeapJob G)) where
  -- the job at a place, once it has ended
  pub record IsThere (a : ℕ) (j : HeapJob G) : Type 0 where
    pub is : IsDoneOf p heap a j
    pub at : slice_get done a ≡ Some j

  number_is : (a : ℕ) (j : HeapJob G) → IsThere a j → number_of j.handle ≡ a
  number_is a j t = ap (λ (w : WhichJob). w.actor) t.is.which

  -- its handle carries its actor alone
  has_one : (a : ℕ) (j : HeapJob G) → IsThere a j → (b : ℕ) → has (view_of j.handle).actors b ≡ (if a == b then true else false)
  has_one a j t b = ap (λ (xs : List ℕ). has xs b) (t.is.end.alone ∙ ap (λ (n : ℕ). n ∷ []) (number_is a j t))

  one_carried : (a : ℕ) (j : HeapJob G) → IsThere a j → carries_of j.handle ≡ 1
  one_carried a j t = ap (λ (xs : List ℕ). count_among xs (seats_of (view_of j.handle).plan.layout)) t.is.end.alone ∙ one_among (number_of j.handle) (seats_of (view_of j.handle).plan.layout) j.handle.carries.known

  entries_of : (a : ℕ) (j : HeapJob G) → IsThere a j → by a (view_of j.handle).log ≡ own_of j.handle
  entries_of a j t = ap (λ (n : ℕ). by n (view_of j.handle).log) (sym (number_is a j t))

  same_job : (a : ℕ) (j i : HeapJob G) → slice_get done a ≡ Some j → slice_get done a ≡ Some i → j ≡ i
  same_job a j i e f = let same : Some j ≡ Some i = sym e ∙ f in cc

  pub gathers_first : (n : ℕ) (j : HeapJob G) → IsThere n j → Gathers p heap done (suc n) 0 j.handle
  gathers_first n j t = record {
    of = t.is.end.of;
    many = one_carried n j t;
    others = λ a low lt. let no : (n == a) ≡ false = grind (arith, nat_tests) in has_one n j t a ∙ ap (λ (b : Bool). if b then true else false) no;
    own = λ a i lt place at. elim place [
      | inl less ↦ absurd (omega (arith, less))
      | inr last ↦
          let same : n ≡ a = omega (arith, last) in
          let yes : (n == a) ≡ true = eq-eqb n a same in
          let job : j ≡ i = same_job a j i (subst (λ (k : ℕ). slice_get done k ≡ Some j) same t.at) at in
          (has_one n j t a ∙ ap (λ (b : Bool). if b then true else false) yes, subst (λ (k : ℕ). by k (view_of j.handle).log ≡ own_of j.handle) same (entries_of n j t) ∙ ap (λ (x : HeapJob G). own_of x.handle) job)
    ];
  }

  pub gathers_more : (n k : ℕ) (h h' : Handle) (j : HeapJob G) → Gathers p heap done n k h → IsThere k j → suc k < n → IsHandleOf heap h' → Gathered h j.handle h' → Gathers p heap done n (suc k) h'
  gathers_more n k h h' j was t lt of g = record {
    of = of;
    many = let many = g.many in let before = was.many in let one = one_carried k j t in omega (arith, many, before, one);
    others = λ a low less.
        let no : (k == a) ≡ false = grind (arith, nat_tests) in
        g.carries a ∙ (λ i. was.others a (omega (arith, low)) less i || (has_one k j t a ∙ ap (λ (b : Bool). if b then true else false) no) i);
    own = λ a i less place at. go a i less place at (k == a) refl;
  } where
    go : (a : ℕ) (i : HeapJob G) → a < n → (a < suc k) ⊎ (suc a ≡ n) → slice_get done a ≡ Some i → (b : Bool) → (k == a) ≡ b → (has (view_of h').actors a ≡ true) × (by a (view_of h').log ≡ own_of i.handle)
    go a i less place at true e =
        let same : k ≡ a = grind (arith, nat_tests) in
        let none : has (view_of h).actors a ≡ false = was.others a (omega (arith, same)) (omega (arith, same, lt)) in
        let job : j ≡ i = same_job a j i (subst (λ (m : ℕ). slice_get done m ≡ Some j) same t.at) at in (
          g.carries a ∙ (λ x. none x || (has_one k j t a ∙ ap (λ (b : Bool). if b then true else false) e) x),
          g.others a none ∙ subst (λ (m : ℕ). by m (view_of j.handle).log ≡ own_of j.handle) same (entries_of k j t) ∙ ap (λ (x : HeapJob G). own_of x.handle) job,
        )
    go a i less place at false e =
        let before = was.own a i less (elim place [ inl low ↦ inl (grind (arith, nat_tests)) | inr last ↦ inr last ]) at in
        (g.carries a ∙ or_all (has (view_of h).actors a) (has (view_of j.handle).actors a) before.0, g.own a before.0 ∙ before.1)

  -- some jobs are gathered, and these are left
  pub record Midway (rest : List (HeapJob G)) (h : Handle) : Type 0 where
    pub k : ℕ
    pub many : k + length rest + 1 ≡ length done
    pub rest_are : EachFrom IsThere k rest
    pub gathers : Gathers p heap done (length done) k h

  pub midway_more : (j : HeapJob G) (rest all : List (HeapJob G)) (h h' : Handle) → all ≡ j ∷ rest → Midway all h → IsHandleOf heap h' → Gathered h j.handle h' → Midway rest h'
  midway_more j rest all h h' is m of g =
      let long = ap length is in
      let many = m.many in
      let each = each_rest IsThere m.k j rest all is m.rest_are in
      record {
        k = suc m.k;
        many = omega (arith, long, many);
        rest_are = each.1;
        gathers = gathers_more (length done) m.k h h' j m.gathers each.0 (omega (arith, long, many)) of g;
      }

  pub next_there : (j : HeapJob G) (rest all : List (HeapJob G)) (h : Handle) → all ≡ j ∷ rest → Midway all h → IsHandleOf heap j.handle
  next_there j rest all h is m = (each_rest IsThere m.k j rest all is m.rest_are).0.is.end.of

  each_there : EachFrom (IsDoneOf p heap) 0 done → EachFrom IsThere 0 done
  each_there each = each_of IsThere 0 done (λ i x at. let here : IsThere i x = record { is = each_first (IsDoneOf p heap) i done x each at; at = at } in let place : i ≡ 0 + i = omega arith in subst (λ (n : ℕ). IsThere n x) place here)

  each_pop : (n : ℕ) (xs : List (HeapJob G)) (x : HeapJob G) → EachFrom IsThere n (xs ++ x ∷ []) → EachFrom IsThere n xs × IsThere (n + length xs) x
  each_pop n [] x all = let place : n ≡ n + 0 = omega arith in (tt, subst (λ (m : ℕ). IsThere m x) place all.0)
  each_pop n (y ∷ xs) x all = let rest = each_pop (suc n) xs x all.1 in let place : suc n + length xs ≡ n + suc (length xs) = omega arith in ((all.0, rest.0), subst (λ (m : ℕ). IsThere m x) place rest.1)

  pub midway_first : (rest : List (HeapJob G)) (last : HeapJob G) → done ≡ rest ++ last ∷ [] → EachFrom (IsDoneOf p heap) 0 done → Midway rest last.handle
  midway_first rest last is each =
      let both = each_pop 0 rest last (subst (EachFrom IsThere 0) is (each_there each)) in
      let long = ap length is ∙ length-append rest (last ∷ []) in
      let many : suc (length rest) ≡ length done = omega (arith, long) in
      let place : 0 + length rest ≡ length rest = omega arith in
      let there : IsThere (length rest) last = subst (λ (n : ℕ). IsThere n last) place both.1 in
      record {
        k = 0;
        many = omega (arith, long);
        rest_are = both.0;
        gathers = subst (λ (n : ℕ). Gathers p heap done n 0 last.handle) many (gathers_first (length rest) last there);
      }

  pub record AllGathered (h : Handle) : Type 0 where
    pub of : IsHandleOf heap h
    pub all : carries_of h ≡ length done
    pub own : (a : ℕ) (j : HeapJob G) → slice_get done a ≡ Some j → by a (view_of h).log ≡ own_of j.handle

  pub all_gathered : (h : Handle) → Midway [] h → AllGathered h
  all_gathered h m =
      let many = m.many in
      let carried = m.gathers.many in
      record {
        of = m.gathers.of;
        all = omega (arith, many, carried);
        own = λ a j at.
            let lt = slice_get_within done a j at in
            (m.gathers.own a j lt (elim (cases_lt a m.k) [ inl less ↦ inl less | inr le ↦ inr (omega (arith, le, lt, many)) ]) at).1;
      }
