-- The cycles that the coordinator keeps are those that have ended in the list, in their order, with what was marked and white where each ended.
use Rattle.std.proofs.Common.{◌≡◌, ℕ, zero, suc, ◌+◌, inl, inr, true, refl, sym, ap, subst, ◌∙◌, arith, List, [], ◌∷◌, ◌++◌, map, length, Some, slice_get}
use Rattle.std.proofs.lemmas.List.{append-nil, length-append}
use Rattle.gh_explained.proofs.Vocabulary.{acks_of, Actor, actor_after, alloc_words, AllWereCounted, Ask, At, begins, Cell, Coordinating, CoordStage, Cycle, cycles_in, Done, effect, ended_by, ends, EndsCycle, Entry, generation_after, IsStartOf, Layout, Legal, legal_start, mark_words, marked_objects, numbers_of, Op, opened_in, Outside, own_counts, pacing_of, Part, part_of, Program, same, setting_of, setup_of, Spares, Store, stored_after, stored_in, swept_cycle, SweptCycle, tells, unmarked_objects, WasCounted, Words, words_after, words_in}
use Rattle.gh_coord.specs.Listing as coord
use Rattle.gh_explained.proofs.Explained.Known.{Changes, changes, counted, Known}
use Rattle.gh_explained.proofs.Explained.Acting.{one_more_at}

-- ---- of lists

get_front : {A : Type 0} (xs ys : List A) (i : ℕ) (x : A) → slice_get xs i ≡ Some x → slice_get (xs ++ ys) i ≡ Some x
get_front [] ys zero x e = absurd cc
get_front [] ys (suc i) x e = absurd cc
get_front (z ∷ xs) ys zero x e = e
get_front (z ∷ xs) ys (suc i) x e = get_front xs ys i x e

get_last : {A : Type 0} (xs : List A) (y : A) → slice_get (xs ++ y ∷ []) (length xs) ≡ Some y
get_last [] y = refl
get_last (z ∷ xs) y = get_last xs y

-- a list whose elements are told one by one
same_elements : {A B : Type 0} (f : A → B) (xs : List A) (ys : List B) → length xs ≡ length ys → ((i : ℕ) (x : A) → slice_get xs i ≡ Some x → slice_get ys i ≡ Some (f x)) → map f xs ≡ ys
same_elements f [] [] long h = refl
same_elements f [] (y ∷ ys) long h = absurd (omega (arith, long))
same_elements f (x ∷ xs) [] long h = absurd (omega (arith, long))
same_elements f (x ∷ xs) (y ∷ ys) long h =
    let first : y ≡ f x = let e = h 0 x refl in cc in
    let rest : map f xs ≡ ys = same_elements f xs ys (omega (arith, long)) (λ i z e. h (suc i) z e) in
    ap (λ zs. f x ∷ zs) rest ∙ ap (λ z. z ∷ ys) (sym first)

-- ---- which steps end a cycle

none_stored : (l : Layout) (v : Words) (c : Cell) (value : ℕ) → (c ≡ Cell.Gen → ⊥) → ended_by l v (Store c value) ≡ []
none_stored l v c value ne = grind arith

-- whoever spares the generation stores none
spares_none : (value : ℕ) → Spares (Store Cell.Gen value) → ⊥
spares_none value s = let no : value ≡ suc value = s.gen (λ c. suc value) in omega (arith, no)

not_gen : (c : Cell) (value : ℕ) → Spares (Store c value) → c ≡ Cell.Gen → ⊥
not_gen c value s e = spares_none value (subst (λ (d : Cell). Spares (Store d value)) e s)

none_ended : (l : Layout) (v : Words) (ask : Ask) → Spares ask → ended_by l v ask ≡ []
none_ended l v ask s = grind (arith, none_stored, not_gen)

pub is_done : (st : CoordStage) → coord.is_done_at st ≡ true → st ≡ Done
is_done st e = grind arith

-- as many cycles have ended in a list as it stores the sweep generation
ended_once : (l : Layout) (w : Words) (ask : Ask) (n : ℕ) → n + length (ended_by l w ask) ≡ stored_after Cell.Gen ask n
ended_once l w ask n = grind arith

pub many_ended : (l : Layout) (opening : Words) (es : List (Entry Op)) → length (cycles_in l opening es) ≡ stored_in Cell.Gen es
many_ended l opening [] = refl
many_ended l opening (e ∷ es) =
    let rest = many_ended l opening es in
    let both = length-append (cycles_in l opening es) (ended_by l (words_after opening es) e.ask) in
    both ∙ ended_once l (words_after opening es) e.ask (length (cycles_in l opening es)) ∙ ap (stored_after Cell.Gen e.ask) rest

module _ (p : Program) (l : Layout) (k : Known p l) where
  abbrev words : List (Entry Op) → Words
  words es = words_in p l es

  abbrev pub ended_in : List (Entry Op) → List SweptCycle
  ended_in es = cycles_in l (setting_of p l).opening es

  -- the cycle whose marking has ended by these words
  abbrev ended_at : ℕ → Words → SweptCycle
  ended_at number w = record { number = number; marked = marked_objects (alloc_words w) (mark_words w) 0 l.pages; freed = unmarked_objects (alloc_words w) (mark_words w) 0 l.pages }

  -- they are numbered from 1 on, and the sweep generation tells how many they are
  record Numbered (es : List (Entry Op)) : Type 0 where
    many : words es Cell.Gen ≡ generation_after (length (ended_in es))
    each : (i : ℕ) (y : SweptCycle) → slice_get (ended_in es) i ≡ Some y → y.number ≡ suc i

  still : (e : Entry Op) (es : List (Entry Op)) → Numbered es → words (e ∷ es) Cell.Gen ≡ words es Cell.Gen → ended_by l (words es) e.ask ≡ [] → Numbered (e ∷ es)
  still e es h gen none =
      let same : ended_in (e ∷ es) ≡ ended_in es = ap (λ (ys : List SweptCycle). ended_in es ++ ys) none ∙ append-nil (ended_in es) in
      record {
        many = gen ∙ h.many ∙ ap (λ (ys : List SweptCycle). generation_after (length ys)) (sym same);
        each = λ i y is. h.each i y (ap (λ (ys : List SweptCycle). slice_get ys i) (sym same) ∙ is);
      }

  one_more : (e : Entry Op) (es : List (Entry Op)) → Numbered es → e.ask ≡ Store Cell.Gen (words es Cell.Gen + 2) → words es Cell.Begun ≡ suc (length (ended_in es)) → Numbered (e ∷ es)
  one_more e es h is number =
      let more : ended_in (e ∷ es) ≡ ended_in es ++ ended_at (words es Cell.Begun) (words es) ∷ [] = ap (λ (q : Ask). ended_in es ++ ended_by l (words es) q) is in
      let gen : words (e ∷ es) Cell.Gen ≡ words es Cell.Gen + 2 = ap (λ (q : Ask). effect (words es) q Cell.Gen) is in
      let long : length (ended_in (e ∷ es)) ≡ length (ended_in es) + 1 = ap length more ∙ length-append (ended_in es) (ended_at (words es Cell.Begun) (words es) ∷ []) in
      let many = h.many in
      record {
        many = omega (arith, gen, long, many);
        each = λ i y at. elim (one_more_at (ended_in es) (ended_at (words es Cell.Begun) (words es)) i y (ap (λ (ys : List SweptCycle). slice_get ys i) (sym more) ∙ at)) [
          | inl old ↦ h.each i y old
          | inr new ↦ sym (ap (λ (z : SweptCycle). z.number) new.1) ∙ number ∙ ap suc new.0
        ];
      }

  numbered : (es : List (Entry Op)) → Legal (setting_of p l) es → Numbered es
  numbered [] legal = record { many = omega arith; each = λ i y is. absurd (none i is) } where
    none : {y : SweptCycle} (i : ℕ) → slice_get {X = SweptCycle} [] i ≡ Some y → ⊥
    none zero e = absurd cc
    none (suc i) e = absurd cc
  numbered (e ∷ es) legal = by (changes p l k e es legal) (numbered es legal.0) where
    by : Changes p l k e es legal → Numbered es → Numbered (e ∷ es)
    by (same s) h = still e es h (s.gen (words es)) (none_ended l (words es) e.ask s)
    by (begins is) h = still e es h (ap (λ (q : Ask). effect (words es) q Cell.Gen) is) (ap (ended_by l (words es)) is)
    by (tells x) h = still e es h (ap (λ (q : Ask). effect (words es) q Cell.Gen) x.ask_is) (ap (ended_by l (words es)) x.ask_is)
    by (ends x) h = one_more e es h x.ask_is (let n = x.number in let g = x.gen in let many = h.many in omega (arith, n, g, many))

  -- ---- a cycle that has ended is among them

  abbrev pub Ending : (number : ℕ) → List (Entry Op) → Type 0
  Ending number es = EndsCycle (setup_of p l) number es

  -- the entry stores the next sweep generation
  pub ends_by : (number : ℕ) (e : Entry Op) (es : List (Entry Op)) → Legal (setting_of p l) (e ∷ es) → Ending number (e ∷ es) → (h : ℕ) × (e.ask ≡ Store Cell.Gen h)
  ends_by number e es legal x = grind arith

  here : (number : ℕ) (e : Entry Op) (es : List (Entry Op)) → Legal (setting_of p l) (e ∷ es) → Ending number (e ∷ es) → slice_get (ended_in (e ∷ es)) (length (ended_in es)) ≡ Some (ended_at number (words (e ∷ es)))
  here number e es legal x = by (changes p l k e es legal) where
    stores : (h : ℕ) × (e.ask ≡ Store Cell.Gen h)
    stores = ends_by number e es legal x

    is_it : (y : Coordinating) → actor_after p l es (acks_of l) ≡ Actor.Leads y → y.begun ≡ number
    is_it y led = let both : Actor.Leads y ≡ Actor.Leads x.lead = sym led ∙ x.led in let same : y ≡ x.lead = cc in ap (λ (c : Coordinating). c.begun) same ∙ x.cycle

    by : Changes p l k e es legal → slice_get (ended_in (e ∷ es)) (length (ended_in es)) ≡ Some (ended_at number (words (e ∷ es)))
    by (same s) = absurd (spares_none stores.0 (subst Spares stores.1 s))
    by (begins is) = absurd (let no : Store Cell.Gen stores.0 ≡ Store Cell.Begun (suc (words es Cell.Begun)) = sym stores.1 ∙ is in cc)
    by (tells y) = absurd (let no : Store Cell.Gen stores.0 ≡ Store Cell.Swept (suc (words es Cell.Swept)) = sym stores.1 ∙ y.ask_is in cc)
    by (ends y) =
        let value : words es Cell.Begun ≡ number = y.number ∙ is_it y.lead y.led in
        let rows : ended_at number (words es) ≡ ended_at number (words (e ∷ es)) = sym (ap (λ (q : Ask). ended_at number (effect (words es) q)) y.ask_is) in
        ap (λ (q : Ask). slice_get (ended_in es ++ ended_by l (words es) q) (length (ended_in es))) y.ask_is
        ∙ get_last (ended_in es) (ended_at (words es Cell.Begun) (words es))
        ∙ ap (λ (n : ℕ). Some (ended_at n (words es))) value
        ∙ ap Some rows

  in_start : (start es : List (Entry Op)) → IsStartOf start es → (i : ℕ) (y : SweptCycle) → slice_get (ended_in start) i ≡ Some y → slice_get (ended_in es) i ≡ Some y
  in_start start [] is i y at = subst (λ (xs : List (Entry Op)). slice_get (ended_in xs) i ≡ Some y) is at
  in_start start (e ∷ es) (inl is) i y at = subst (λ (xs : List (Entry Op)). slice_get (ended_in xs) i ≡ Some y) is at
  in_start start (e ∷ es) (inr is) i y at = get_front (ended_in es) (ended_by l (words es) e.ask) i y (in_start start es is i y at)

  among : (number : ℕ) (ended es : List (Entry Op)) → IsStartOf ended es → Legal (setting_of p l) es → Ending number ended → (i : ℕ) × (slice_get (ended_in es) i ≡ Some (ended_at number (words ended)))
  among number [] es start legal x = absurd x
  among number (e ∷ before) es start legal x =
      (length (ended_in before), in_start (e ∷ before) es start (length (ended_in before)) (ended_at number (words (e ∷ before))) (here number e before (legal_start (setting_of p l) (e ∷ before) es start legal) x))

  -- and at its place
  placed : (number : ℕ) (ended es : List (Entry Op)) → IsStartOf ended es → Legal (setting_of p l) es → Ending (suc number) ended → slice_get (ended_in es) number ≡ Some (ended_at (suc number) (words ended))
  placed number ended es start legal x = grind (arith, among, numbered)

  -- ---- what the coordinator keeps

  kept_at : (es : List (Entry Op)) (c : Coordinating) → Legal (setting_of p l) es → AllWereCounted (setup_of p l) es c → ((i : ℕ) (y : Cycle) → slice_get c.cycles.items i ≡ Some y → y.k ≡ suc i) →
      (i : ℕ) (y : Cycle) → slice_get c.cycles.items i ≡ Some y → slice_get (ended_in es) i ≡ Some (swept_cycle y)
  kept_at es c legal were number i y at =
      let w = were i y at in
      let k_is = number i y at in
      let x : Ending (suc i) w.ended = subst (λ (n : ℕ). Ending n w.ended) k_is w.ends in
      placed i w.ended es w.start legal x ∙ ap Some (told w k_is) where
        told : (w : WasCounted (setup_of p l) es y) → y.k ≡ suc i → ended_at (suc i) (words w.ended) ≡ swept_cycle y
        told w k_is = rw (k_is, w.marked, w.freed) refl

  is_outside : (c : Coordinating) → coord.is_done_at c.stage ≡ true → part_of c.stage ≡ Outside
  is_outside c e = grind arith

  -- where it is done
  module _ (es : List (Entry Op)) (c : Coordinating) (legal : Legal (setting_of p l) es) (led : actor_after p l es (acks_of l) ≡ Actor.Leads c) (done : coord.is_done_at c.stage ≡ true) where
    pub at_end : At (pacing_of p).room (opened_in es) (numbers_of (words es)) (own_counts c) Outside
    at_end = subst (λ (q : Part). At (pacing_of p).room (opened_in es) (numbers_of (words es)) (own_counts c) q) (is_outside c done) (counted p l k es c legal led)

    -- none is left out
    pub as_many : length c.cycles.items ≡ words es Cell.Swept
    as_many = let o = at_end.opened_is in let m = at_end.keeps.many_are in let room = k.roomy es legal in omega (arith, o, m, room)

    pub cycles_are : AllWereCounted (setup_of p l) es c → map swept_cycle c.cycles.items ≡ ended_in es
    cycles_are were =
        let g = at_end.gen_is in
        let many = (numbered es legal).many in
        let as' = as_many in
        same_elements swept_cycle c.cycles.items (ended_in es) (omega (arith, g, many, as')) (kept_at es c legal were at_end.keeps.numbered)
