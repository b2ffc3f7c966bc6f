-- Each step keeps the rule.
use Rattle.std.proofs.Common.{◌≡◌, ◌≢◌, ℕ, zero, suc, ◌<◌, ◌==◌, Bool, true, false, cond, List, [], ◌∷◌, ◌++◌, length, set, refl, sym, ap, ◌∙◌, subst, ⊎_elim, Option, ◌||◌, true≢false, arith, slice_index, slice_set}
use Rattle.std.proofs.lemmas.List.{append-nil, set-get_or}
use Rattle.gh_table.proofs.Vocabulary.{all_carried, Allows, Ask, BeganAsEach, by, Carries, cell_of, changed, effect, either, Entry, entry, Final, Fits, get_elem?, has, HoldsOneList, InRange, IsAfterOneList, IsLaidOut, joined, Joins, keeps, Layout, leaving, Legal, length_of, MayAsk, MayFollow, Me, NoSeatCarries, of_others, of_these, Once, opening, request, request_leaves, Seen, Setting, ShowsCells, some, some-injective, some-ne-none, spent, Splits, State, staying, StepsAreShown, target, Tells, TellsOnce, View, with_entry, words_after, WordsAreBelow}
use Rattle.atomic_table.proofs.Lists.{at_set, set_again}
use Rattle.gh_base.specs.declared.cell.Req.{Req}
use Rattle.gh_table.proofs.Seats.{at_end, bool_cases, has_from, has_head, has_neither, has_one, has_tail, moved, moved-else, moved-here, none_before, none_last, none_left, once_append, once_from, once_without, or_left_false, or_right, or_right_false, set_else, set_here, taken, taken-in, taken-out}
use Rattle.gh_table.proofs.Entries.{Settles, by-else, by-append, by-by, by-these, by-these-out, by-others, by-others-out, has-append, has-without}

module _ {O : Type 0} where
  pub seen_more : (xss : List (List (Entry O))) (h : List (Entry O)) (e : Entry O) → BeganAsEach xss h → BeganAsEach xss (e ∷ h)
  seen_more [] h e s = tt
  seen_more (xs ∷ xss) h e s = ((e ∷ s.0.0, ap (λ l. e ∷ l) s.0.1), seen_more xss h e s.1)

  pub seen_append : (xss yss : List (List (Entry O))) (h : List (Entry O)) → BeganAsEach xss h → BeganAsEach yss h → BeganAsEach (xss ++ yss) h
  seen_append [] yss h s t = t
  seen_append (xs ∷ xss) yss h s t = (s.0, seen_append xss yss h s.1 t)

module _ {K O : Type 0} where
  -- the entry goes to the list and to the log alike
  fits_more : (p : K) (n : ℕ) (owner : ℕ → ℕ) (h : List (Entry O)) (id : ℕ) (v : View K O) (e : Entry O) (a : ℕ) → Fits p n owner h id v a → Fits p n owner (e ∷ h) id (with_entry v h e) a
  fits_more p n owner h id v e a f = record { plan = f.plan; owned = f.owned; known = f.known; entries = ap (λ l. cond (e.actor == a) (e ∷ l) l) f.entries; seen = (([], refl), tt) }

  -- the entry is another's
  fits_else : (p : K) (n : ℕ) (owner : ℕ → ℕ) (h : List (Entry O)) (id : ℕ) (v : View K O) (e : Entry O) (a : ℕ) → e.actor ≢ a → Fits p n owner h id v a → Fits p n owner (e ∷ h) id v a
  fits_else p n owner h id v e a other f = grind (arith, seen_more)

module _ {K A O : Type 0} (settles : Settles A O) (of : K → Setting A O) where
  may_follow : (p : K) (h : List (Entry O)) (v : View K O) (a : ℕ) (b : Option O) (r : Ask) (n : ℕ) → v.plan ≡ p → a < (of p).actors → by a h ≡ by a v.log → InRange (of p).layout (cell_of r) → MayAsk of v a b r
      → n ≡ words_after (of p).opening h (cell_of r) → MayFollow (of p) h (entry a b r n)
  may_follow p h v a b r n plan known same within may word = grind arith

  -- the step r of the actor a, of the word i, which becomes f of what it was
  pub steps : (p : K) → StepsAreShown (of p).layout → (slots id : ℕ) (me : Me (Unit {0}) (View K O)) (a : ℕ) (b : Option O) (r : Ask) (i : ℕ) (f : ℕ → ℕ)
      → MayAsk of me.0 a b r → InRange (of p).layout (cell_of r) → i ≡ target (request (of p).layout r) → ((n : ℕ) → f n ≡ request_leaves (request (of p).layout r) n)
      → Allows (HoldsOneList of p) slots id me i f (λ n w. Tells of a b r n me w)
  steps p shown slots id me a b r i f may within here does st kept len at word =
      let l : Layout = (of p).layout in
      let n : ℕ = slice_index st.words i in
      let e : Entry O = entry a b r n in
      let mine : Fits p (of p).actors kept.owner kept.list id me.0 a = kept.views id me.0 at a may.carries in
      let there = shown st.words (words_after (of p).opening kept.list) r within kept.words in
      let found : n ≡ words_after (of p).opening kept.list (cell_of r) = ap (λ (j : ℕ). slice_index st.words j) here ∙ there.found in
      let now : slice_set st.words i (f n) ≡ changed (request l r) st.words = (λ j. slice_set st.words (here j) ((does n ∙ ap (λ (k : ℕ). request_leaves (request l r) (slice_index st.words k)) here) j)) in
      let follows : MayFollow (of p) kept.list e = may_follow p kept.list me.0 a b r n mine.plan mine.known mine.entries within may found in (
        with_entry me.0 kept.list e,
        keeps,
        tt,
        record {
          list = e ∷ kept.list;
          owner = kept.owner;
          legal = (kept.legal, follows);
          words = subst (λ (ws : List ℕ). ShowsCells l ws (effect (words_after (of p).opening kept.list) r)) (sym now) there.after;
          views = (λ j v is c holds. ⊎_elim
              (λ (t : (j ≡ id) × (with_entry me.0 kept.list e ≡ v)).
              let own : Fits p (of p).actors kept.owner (e ∷ kept.list) id (with_entry me.0 kept.list e) c = fits_more p (of p).actors kept.owner kept.list id me.0 e c (kept.views id me.0 at c (subst (λ (u : View K O). Carries u c) (sym t.1) holds)) in
              subst (λ (y : ℕ × View K O). Fits p (of p).actors kept.owner (e ∷ kept.list) y.0 y.1 c) (λ x. (sym t.0 x, t.1 x)) own)
              (λ (t : (j ≢ id) × (get_elem? st.views j ≡ some v)).
              let old : Fits p (of p).actors kept.owner kept.list j v c = kept.views j v t.1 c holds in
              fits_else p (of p).actors kept.owner kept.list j v e c (λ same. t.0 (sym old.owned ∙ (ap kept.owner (sym same) ∙ mine.owned))) old)
              (at_set st.views id j (with_entry me.0 kept.list e) v is));
          once = (λ j v is. ⊎_elim (λ (t : (j ≡ id) × (with_entry me.0 kept.list e ≡ v)). subst (λ (u : View K O). Once u.actors) t.1 (kept.once id me.0 at)) (λ (t : (j ≢ id) × (get_elem? st.views j ≡ some v)). kept.once j v t.1) (at_set st.views id j (with_entry me.0 kept.list e) v is));
          others = (λ c none.
              let out : has me.0.actors c ≡ false = none id (with_entry me.0 kept.list e) (set_here st.views id (with_entry me.0 kept.list e) me.0 at) in
              by-else c e kept.list (λ same. true≢false (sym (subst (λ (x : ℕ). has me.0.actors x ≡ true) same may.carries) ∙ out)) ∙ kept.others c (none_before c st.views id me.0 (with_entry me.0 kept.list e) at out none));
        },
        record {
          before = kept.list;
          seen = mine.seen;
          own = mine.entries;
          legal = subst (λ (z : K). Legal (of z) (e ∷ kept.list)) (sym mine.plan) (kept.legal, follows);
          view = refl;
        },
      )

module _ {K O : Type 0} where
  pub joined-mine : (v w : View K O) (c : ℕ) → has v.actors c ≡ true → by c (joined v w).log ≡ by c v.log
  joined-mine v w c h = by-append c (of_these v.actors v.log) (of_others v.actors w.log) ∙ (ap (λ l. l ++ by c (of_others v.actors w.log)) (by-these v.actors c v.log h) ∙ (ap (λ l. by c v.log ++ l) (by-others-out v.actors c w.log h) ∙ append-nil (by c v.log)))

  pub joined-its : (v w : View K O) (c : ℕ) → has v.actors c ≡ false → by c (joined v w).log ≡ by c w.log
  joined-its v w c h = by-append c (of_these v.actors v.log) (of_others v.actors w.log) ∙ (ap (λ l. l ++ by c (of_others v.actors w.log)) (by-these-out v.actors c v.log h) ∙ by-others v.actors c w.log h)

module _ {K A O : Type 0} (of : K → Setting A O) (p : K) where
  split_at : (z : K) (id : ℕ) (xs : List ℕ) (log : List (Entry O)) (seen : List (List (Entry O))) → Splits {S = Unit {0}} (HoldsOneList of p) id (record { plan = z; actors = xs; log = log; seen = seen }) (staying (record { plan = z; actors = xs; log = log; seen = seen })) (leaving (record { plan = z; actors = xs; log = log; seen = seen }))
  split_at z id [] log seen st kept at = record {
    list = kept.list;
    owner = kept.owner;
    legal = kept.legal;
    words = kept.words;
    views = (λ j v is c holds. ⊎_elim
        (λ (was : get_elem? (set st.views id (record { plan = z; actors = []; log = log; seen = seen })) j ≡ some v). kept.views j v (subst (λ l. get_elem? l j ≡ some v) (set_again st.views id (record { plan = z; actors = []; log = log; seen = seen }) at) was) c holds)
        (λ (t : (j ≡ length (set st.views id (record { plan = z; actors = []; log = log; seen = seen }))) × (spent z ≡ v)). absurd (true≢false (sym (subst (λ (u : View K O). Carries u c) (sym t.1) holds))))
        (at_end (set st.views id (record { plan = z; actors = []; log = log; seen = seen })) (spent z) v j is));
    once = (λ j v is. ⊎_elim
        (λ (was : get_elem? (set st.views id (record { plan = z; actors = []; log = log; seen = seen })) j ≡ some v). kept.once j v (subst (λ l. get_elem? l j ≡ some v) (set_again st.views id (record { plan = z; actors = []; log = log; seen = seen }) at) was))
        (λ (t : (j ≡ length (set st.views id (record { plan = z; actors = []; log = log; seen = seen }))) × (spent z ≡ v)). subst (λ (u : View K O). Once u.actors) t.1 tt)
        (at_end (set st.views id (record { plan = z; actors = []; log = log; seen = seen })) (spent z) v j is));
    others = (λ c none. kept.others c (none_before c st.views id (record { plan = z; actors = []; log = log; seen = seen }) (record { plan = z; actors = []; log = log; seen = seen }) at refl (none_left c (set st.views id (record { plan = z; actors = []; log = log; seen = seen })) (spent z) none)));
  }
  split_at z id (a ∷ xs) log seen st kept at =
      let v0 : View K O = record { plan = z; actors = a ∷ xs; log = log; seen = seen } in
      let stay : View K O = staying v0 in
      let gone : View K O = leaving v0 in
      let m : ℕ = length (set st.views id stay) in
      let mine : Fits p (of p).actors kept.owner kept.list id v0 a = kept.views id v0 at a (has_head a xs) in record {
        list = kept.list;
        owner = moved kept.owner a m;
        legal = kept.legal;
        words = kept.words;
        views = (λ j v is c holds. ⊎_elim
            (λ (was : get_elem? (set st.views id stay) j ≡ some v). ⊎_elim
            (λ (t : (j ≡ id) × (stay ≡ v)).
            let left = has-without a xs c (subst (λ (u : View K O). Carries u c) (sym t.1) holds) in
            let f : Fits p (of p).actors kept.owner kept.list id v0 c = kept.views id v0 at c (has_tail a xs c left.1) in
            let own : Fits p (of p).actors (moved kept.owner a m) kept.list id stay c = record { plan = f.plan; owned = moved-else kept.owner a m c (λ e. left.0 (sym e)) ∙ f.owned; known = f.known; entries = f.entries; seen = f.seen } in
            subst (λ (y : ℕ × View K O). Fits p (of p).actors (moved kept.owner a m) kept.list y.0 y.1 c) (λ x. (sym t.0 x, t.1 x)) own)
            (λ (t : (j ≢ id) × (get_elem? st.views j ≡ some v)).
            let f : Fits p (of p).actors kept.owner kept.list j v c = kept.views j v t.1 c holds in
            record { plan = f.plan; owned = moved-else kept.owner a m c (λ e. t.0 (sym f.owned ∙ (ap kept.owner e ∙ mine.owned))) ∙ f.owned; known = f.known; entries = f.entries; seen = f.seen })
            (at_set st.views id j stay v was))
            (λ (t : (j ≡ m) × (gone ≡ v)).
            let one : a ≡ c = has_one a c (subst (λ (u : View K O). Carries u c) (sym t.1) holds) in
            let f : Fits p (of p).actors (moved kept.owner a m) kept.list m gone a = record { plan = mine.plan; owned = moved-here kept.owner a m a refl; known = mine.known; entries = mine.entries ∙ sym (by-by a log); seen = mine.seen } in
            let own : Fits p (of p).actors (moved kept.owner a m) kept.list m gone c = subst (λ (y : ℕ). Fits p (of p).actors (moved kept.owner a m) kept.list m gone y) one f in
            subst (λ (y : ℕ × View K O). Fits p (of p).actors (moved kept.owner a m) kept.list y.0 y.1 c) (λ x. (sym t.0 x, t.1 x)) own)
            (at_end (set st.views id stay) gone v j is));
        once = (λ j v is. ⊎_elim
            (λ (was : get_elem? (set st.views id stay) j ≡ some v). ⊎_elim
            (λ (t : (j ≡ id) × (stay ≡ v)). subst (λ (u : View K O). Once u.actors) t.1 (once_without a xs (kept.once id v0 at).1))
            (λ (t : (j ≢ id) × (get_elem? st.views j ≡ some v)). kept.once j v t.1)
            (at_set st.views id j stay v was))
            (λ (t : (j ≡ m) × (gone ≡ v)). subst (λ (u : View K O). Once u.actors) t.1 (refl, tt))
            (at_end (set st.views id stay) gone v j is));
        others = (λ c none.
            let left : NoSeatCarries (set st.views id stay) c = none_left c (set st.views id stay) gone none in
            kept.others c (none_before c st.views id v0 stay at (has_neither a xs c (left id stay (set_here st.views id stay v0 at)) (none_last c (set st.views id stay) gone none)) left));
      }

  pub splits : (id : ℕ) (v : View K O) → Splits {S = Unit {0}} (HoldsOneList of p) id v (staying v) (leaving v)
  splits id v = grind (arith, split_at)

  pub joins : (id : ℕ) (v : View K O) (other : ℕ) (w : View K O) (q : K) (one two : ℕ) → Carries v one → Carries w two → Joins {S = Unit {0}} (HoldsOneList of p) id v other w (joined v w) (spent q)
  joins id v other w q one two carries carries' st kept at apart there =
      let vplan : v.plan ≡ p = (kept.views id v at one carries).plan in
      let wat : get_elem? st.views other ≡ some w = ⊎_elim (λ (t : (other ≡ id) × (joined v w ≡ w)). absurd (apart t.0)) (λ (t : (other ≢ id) × (get_elem? st.views other ≡ some w)). t.1) (at_set st.views id other (joined v w) w there) in
      let vfits = kept.views id v at one carries in
      let wseen : BeganAsEach w.seen kept.list = (kept.views other w wat two carries').seen in
      let owner : ℕ → ℕ = taken kept.owner w.actors id in
      let one_view : (c : ℕ) → Carries (joined v w) c → Fits p (of p).actors owner kept.list id (joined v w) c = λ c holds. ⊎_elim
      (λ (in_v : has v.actors c ≡ true).
      let f : Fits p (of p).actors kept.owner kept.list id v c = kept.views id v at c in_v in
      let own : owner c ≡ id = ⊎_elim (λ (q : has w.actors c ≡ true). taken-in kept.owner w.actors id c q) (λ (q : has w.actors c ≡ false). taken-out kept.owner w.actors id c q ∙ f.owned) (bool_cases (has w.actors c)) in
      record { plan = f.plan; owned = own; known = f.known; entries = f.entries ∙ sym (joined-mine v w c in_v); seen = seen_append v.seen w.seen kept.list f.seen wseen })
      (λ (not_v : has v.actors c ≡ false).
      let in_w : has w.actors c ≡ true = or_right (has v.actors c) (has w.actors c) (sym (has-append v.actors w.actors c) ∙ holds) not_v in
      let f : Fits p (of p).actors kept.owner kept.list other w c = kept.views other w wat c in_w in
      record { plan = vplan; owned = taken-in kept.owner w.actors id c in_w; known = f.known; entries = f.entries ∙ sym (joined-its v w c not_v); seen = seen_append v.seen w.seen kept.list vfits.seen f.seen })
      (bool_cases (has v.actors c)) in record {
        list = kept.list;
        owner = owner;
        legal = kept.legal;
        words = kept.words;
        views = (λ j u is c holds. ⊎_elim
            (λ (t : (j ≡ other) × (spent q ≡ u)). absurd (true≢false (sym (subst (λ (x : View K O). Carries x c) (sym t.1) holds))))
            (λ (t : (j ≢ other) × (get_elem? (set st.views id (joined v w)) j ≡ some u)). ⊎_elim
            (λ (y : (j ≡ id) × (joined v w ≡ u)). subst (λ (z : ℕ × View K O). Fits p (of p).actors owner kept.list z.0 z.1 c) (λ x. (sym y.0 x, y.1 x)) (one_view c (subst (λ (x : View K O). Carries x c) (sym y.1) holds)))
            (λ (y : (j ≢ id) × (get_elem? st.views j ≡ some u)).
            let f : Fits p (of p).actors kept.owner kept.list j u c = kept.views j u y.1 c holds in
            let out : owner c ≡ kept.owner c = ⊎_elim (λ (q : has w.actors c ≡ true). absurd (t.0 (sym f.owned ∙ (kept.views other w wat c q).owned))) (λ (q : has w.actors c ≡ false). taken-out kept.owner w.actors id c q) (bool_cases (has w.actors c)) in
            record { plan = f.plan; owned = out ∙ f.owned; known = f.known; entries = f.entries; seen = f.seen })
            (at_set st.views id j (joined v w) u t.1))
            (at_set (set st.views id (joined v w)) other j (spent q) u is));
        once = (λ j u is. ⊎_elim
            (λ (t : (j ≡ other) × (spent q ≡ u)). subst (λ (x : View K O). Once x.actors) t.1 tt)
            (λ (t : (j ≢ other) × (get_elem? (set st.views id (joined v w)) j ≡ some u)). ⊎_elim
            (λ (y : (j ≡ id) × (joined v w ≡ u)). subst (λ (x : View K O). Once x.actors) y.1 (once_append v.actors w.actors (kept.once id v at) (kept.once other w wat)
            (λ c in_v. ⊎_elim (λ (in_w : has w.actors c ≡ true). absurd (apart (sym (kept.views other w wat c in_w).owned ∙ (kept.views id v at c in_v).owned))) (λ (out : has w.actors c ≡ false). out) (bool_cases (has w.actors c)))))
            (λ (y : (j ≢ id) × (get_elem? st.views j ≡ some u)). kept.once j u y.1)
            (at_set st.views id j (joined v w) u t.1))
            (at_set (set st.views id (joined v w)) other j (spent q) u is));
        others = (λ c none.
            let both : has (v.actors ++ w.actors) c ≡ false = none id (joined v w) (set_else (set st.views id (joined v w)) other id (spent q) (joined v w) (λ e. apart (sym e)) (set_here st.views id (joined v w) v at)) in
            let either_no : (has v.actors c || has w.actors c) ≡ false = sym (has-append v.actors w.actors c) ∙ both in
            kept.others c (none_before c st.views id v (joined v w) at (or_left_false (has v.actors c) (has w.actors c) either_no)
            (none_before c (set st.views id (joined v w)) other w (spent q) there (or_right_false (has v.actors c) (has w.actors c) either_no) none)));
      }

  pub opens : (ws : List ℕ) → ShowsCells (of p).layout ws (of p).opening → HoldsOneList of p (opening {S = Unit {0}} ws [] (all_carried p (of p).actors))
  opens ws e = record { list = []; owner = (λ _. 0); legal = tt; words = e; views = one; once = single; others = (λ a none. refl) }
    where
      single : (id : ℕ) (v : View K O) → get_elem? (all_carried p (of p).actors ∷ []) id ≡ some v → Once v.actors
      single zero v is = subst (λ (u : View K O). Once u.actors) (some-injective (all_carried p (of p).actors) v is) (once_from 0 (of p).actors)
      single (suc id) v is = absurd (some-ne-none v (sym is))

      one : (id : ℕ) (v : View K O) → get_elem? (all_carried p (of p).actors ∷ []) id ≡ some v → (a : ℕ) → Carries v a → Fits p (of p).actors (λ _. 0) [] id v a
      one zero v is a holds =
          let same : all_carried p (of p).actors ≡ v = some-injective (all_carried p (of p).actors) v is in
          let f : Fits p (of p).actors (λ _. 0) [] 0 (all_carried p (of p).actors) a = record { plan = refl; owned = refl; known = (let l = has_from 0 (of p).actors a (subst (λ (u : View K O). Carries u a) (sym same) holds) in omega arith); entries = refl; seen = tt } in
          subst (λ (u : View K O). Fits p (of p).actors (λ _. 0) [] 0 u a) same f
      one (suc id) v is a holds = absurd (some-ne-none v (sym is))

  -- a look changes nothing
  pub looks : (slots id : ℕ) (me : Me (Unit {0}) (View K O)) (i : ℕ) → Allows (HoldsOneList of p) slots id me i (λ n. n) (λ n w. TellsOnce me w)
  looks slots id me i st kept len at word =
      let words : slice_set st.words i (slice_index st.words i) ≡ st.words = set-get_or st.words i 0 in
      let views : set st.views id me.0 ≡ st.views = set_again st.views id me.0 at in (
        me.0,
        keeps,
        tt,
        subst (λ (s : State (Unit {0}) (View K O)). HoldsOneList of p s) (λ j. record { words = sym words j; homes = st.homes; views = sym views j }) kept,
        (refl, kept.once id me.0 at),
      )

  pub ends : (id : ℕ) (v : View K O) (ws : List ℕ) (xs : List (Unit {0})) → Final (Seen (HoldsOneList of p) id v) ws xs → IsAfterOneList of p v ws
  ends id v ws xs f =
      let kept : HoldsOneList of p f.0 = f.1.0 in record {
        list = kept.list;
        legal = kept.legal;
        words = subst (λ (l : List ℕ). ShowsCells (of p).layout l (words_after (of p).opening kept.list)) f.2 kept.words;
        entries = (λ a holds. (kept.views id v f.1.1 a holds).entries);
        seen = (λ a holds. (kept.views id v f.1.1 a holds).seen);
      }

pub either-cond : (b : Bool) (x y : ℕ) → either b x y ≡ cond b x y
either-cond b x y = grind arith

pub target-word : (l : Layout) (ask : Ask) → InRange l (cell_of ask) → WordsAreBelow l → target (request l ask) < length_of l
target-word l ask h below = grind arith

-- a store is told no word: the one that it overwrites is the word of its entry
pub any_found : {S V : Type 0} (rule : State S V → Type 0) (slots id : ℕ) (me : Me S V) (i : ℕ) (f : ℕ → ℕ) (tells : ℕ → Me S V → Type 0) → Allows rule slots id me i f tells → Allows rule slots id me i f (λ n w. (found : ℕ) × tells found w)
any_found rule slots id me i f tells allows s holds homes view low = let x = allows s holds homes view low in (x.0, x.1, x.2, x.3, (slice_index s.words i, x.4))

-- A step that a note names: what is known of the table's layout, the seat, the step's entry as the seat may make it and as it is noted, and the request for it
pub record NotedStep {K A O : Type 0} (of : K → Setting A O) : Type 0 where
  pub plan : K
  pub layout : Layout
  pub words : ℕ
  pub laid : IsLaidOut of plan words layout
  pub shown : StepsAreShown layout
  pub below : WordsAreBelow layout
  pub slots : ℕ
  pub id : ℕ
  pub me : Me (Unit {0}) (View K O)
  pub actor : ℕ
  pub begun : Option O
  pub ask : Ask
  pub may : MayAsk of me.0 actor begun ask
  pub within : InRange layout (cell_of ask)
  pub noted_actor : ℕ
  pub noted_begun : Option O
  pub noted_ask : Ask
  pub note : (noted_actor ≡ actor) × (noted_begun ≡ begun) × (noted_ask ≡ ask)
  pub made : Req
  pub is_made : made ≡ request layout ask

-- it keeps the rule, at a request of a known kind
pub asked : {K A O : Type 0} (settles : Settles A O) (of : K → Setting A O) (x : NotedStep of) (made : Req) (f : ℕ → ℕ) → x.made ≡ made → ((n : ℕ) → f n ≡ request_leaves made n)
    → (target made < x.words) × Allows (HoldsOneList of x.plan) x.slots x.id x.me (target made) f (λ n w. Tells of x.noted_actor x.noted_begun x.noted_ask n x.me w)
asked {K} {A} {O} settles of x made f is does =
    let same : made ≡ request x.layout x.ask = sym is ∙ x.is_made in
    let of_plan : made ≡ request (of x.plan).layout x.ask = same ∙ ap (λ (l : Layout). request l x.ask) x.laid.layout in
    let lt : target made < x.words = subst (λ (q : Req). target q < x.words) (sym same) (subst (λ (n : ℕ). target (request x.layout x.ask) < n) (sym x.laid.long) (target-word x.layout x.ask x.within x.below)) in
    let P : ℕ × Option O × Ask → Type 0 = λ t. MayAsk of x.me.0 t.0 t.1 t.2 × InRange (of x.plan).layout (cell_of t.2) × (made ≡ request (of x.plan).layout t.2) in
    let all : P (x.noted_actor, x.noted_begun, x.noted_ask) = subst P (λ j. (sym x.note.0 j, sym x.note.1 j, sym x.note.2 j)) (x.may, subst (λ (l : Layout). InRange l (cell_of x.ask)) x.laid.layout x.within, of_plan) in (
      lt,
      steps settles of x.plan (subst StepsAreShown x.laid.layout x.shown) x.slots x.id x.me x.noted_actor x.noted_begun x.noted_ask (target made) f all.0 all.1 (ap target all.2) (λ n. does n ∙ ap (λ (q : Req). request_leaves q n) all.2),
    )
