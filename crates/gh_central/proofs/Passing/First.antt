-- The pass takes the first span that it may take.
use Rattle.std.proofs.Common.{◌≡◌, ◌≢◌, ℕ, zero, suc, ◌+◌, ◌*◌, ◌<◌, ◌≤◌, ◌⊎◌, inl, inr, Bool, true, false, cond, ltb, Option, Some, None, is_none, refl, sym, ap, subst, ◌∙◌, arith}
use Rattle.std.proofs.lemmas.Bool.{cases_order}
use Rattle.gh_central.proofs.Vocabulary.{after_page, Alloc, alloc_word, Ask, asks, asks_at, at_stage, Bits, cases_lt, Ended, found_at, Free, given, given_at, goes, goes_at, Head, head_word, is_wanted, lacks_at, Layout, listing, Load, Look, look_from, nat_tests, owned_by, Page, page_of, pages_gone, PageWord, Pass, PassStage, slot_words_of, slots_of, SpanHead, steps_of, Store, take_from}
use Rattle.gh_base.specs.declared.pack.PageWord.TheVariants.{Body}
use Rattle.gh_base.specs.Routines.{EndsWith, GoesOn}
use Rattle.gh_central.specs.Passing.{IsBits, IsFull, IsHead, IsMet, IsWanted, LacksAt, Passes, StepWasTold, Takes, TakesTheFirst, told}
use Rattle.gh_central.proofs.Lacking.{lacks_is, lacks_means}
use Rattle.gh_central.proofs.Passing.Walking.{some_gone, some_pages}

module _ (m : Pass) where
  wanted_means : (h : SpanHead) → is_wanted m h ≡ true → IsWanted m h
  wanted_means h = grind arith

  wanted_is : (h : SpanHead) → IsWanted m h → is_wanted m h ≡ true
  wanted_is h w = grind arith

  lacks_by : (page i w : ℕ) → LacksAt m page i w → lacks_at m page i w ≡ true
  lacks_by page i w = lacks_is (slot_words_of m.wanted.class) (1024 * page) (16 * page + i) w (slots_of m.wanted.class)

  by_lacks : (page i w : ℕ) → lacks_at m page i w ≡ true → LacksAt m page i w
  by_lacks page i w = lacks_means (slot_words_of m.wanted.class) (1024 * page) (16 * page + i) w (slots_of m.wanted.class)

module _ (layout : Layout) (m : Pass) (found : ℕ → ℕ) where
  -- What was told stays told, and one step more is told.

  abbrev Told : ℕ → Ask → ℕ → Type 0
  Told n ask word = StepWasTold layout m found n ask word

  -- the next step asks for this
  abbrev Asks : ℕ → Ask → Type 0
  Asks n ask = asks layout (told layout m found n) ≡ ask

  now : (n : ℕ) (ask : Ask) → Asks n ask → Told (suc n) ask (found n)
  now n ask a = (n, omega arith, a, refl)

  more : (n : ℕ) (ask : Ask) (word : ℕ) → Told n ask word → Told (suc n) ask word
  more n ask word t = (t.0, let low = t.1 in omega arith, t.2, t.3)

  -- the step that was told last, or one before it
  by_last : (n : ℕ) (ask : Ask) (word : ℕ) → Told (suc n) ask word → (Asks n ask × (found n ≡ word)) ⊎ Told n ask word
  by_last n ask word t = grind arith

  full_more : (n page : ℕ) (h : SpanHead) → IsFull layout m found n page h → IsFull layout m found (suc n) page h
  full_more n page h full i low = let f = full i low in (f.0, more n _ f.0 f.1, f.2)

  met_more : (n page : ℕ) → IsMet layout m found n page → IsMet layout m found (suc n) page
  met_more n page (first, word, t, low, high) = (first, word, more n (Load (Page first)) word t, low, high)

  -- the step that is told is not the load of one of the pages
  passes_more : (n end : ℕ) → Passes layout m found n end → ((page : ℕ) → page < end → asks layout (told layout m found n) ≢ Load (Page page)) → Passes layout m found (suc n) end
  passes_more n end p other = record {
    met = λ page low. met_more n page (p.met page low);
    full = λ page low h is wanted. full_more n page h (p.full page low h (older page low h is) wanted);
  } where
    older : (page : ℕ) → page < end → (h : SpanHead) → IsHead layout m found (suc n) page h → IsHead layout m found n page h
    older page low h (word, t, is) = elim (by_last n (Load (Page page)) word t) [
      | inl last ↦ absurd (other page low last.0)
      | inr before ↦ (word, before, is)
    ]

  passes_to : (n end less : ℕ) → Passes layout m found n end → less ≤ end → Passes layout m found n less
  passes_to n end less p le = record { met = λ page low. p.met page (omega arith); full = λ page low. p.full page (omega arith) }

  -- The stage of the pass, by what it was told.

  abbrev Below : ℕ → ℕ → Type 0
  Below n end = (page word : ℕ) → Told n (Load (Page page)) word → page < end

  record Looks (n : ℕ) (page : ℕ) : Type 0 where
    passes : Passes layout m found n page
    below : Below n page

  record Checks (n : ℕ) (page : ℕ) (h : SpanHead) (i : ℕ) : Type 0 where
    passes : Passes layout m found n page
    word : ℕ
    at : Told n (Load (Page page)) word
    says : page_of word ≡ Head h
    wanted : IsWanted m h
    within : i < 16 * h.pages
    full : (j : ℕ) → j < i → (w : ℕ) × IsBits layout m found n page j w × (¬ LacksAt m page j w)
    upto : (other v : ℕ) → Told n (Load (Page other)) v → (other < page) ⊎ ((other ≡ page) × (v ≡ word))

  record Lacks (n : ℕ) (page : ℕ) (h : SpanHead) : Type 0 where
    stands : IsHead layout m found n page h
    wanted : IsWanted m h
    lacks : (i w : ℕ) × (i < 16 * h.pages) × IsBits layout m found n page i w × LacksAt m page i w
    first : Passes layout m found n page
    last : (other v : ℕ) → Told n (Load (Page other)) v → other ≤ page

  -- of every stage at which it has found a span the same is known
  abbrev HasFound : ℕ → Option (ℕ × SpanHead) → Type 0
  HasFound n (Some span) = Lacks n span.0 span.1
  HasFound n None = ⊥

  abbrev Arrives : ℕ → PassStage → Type 0
  Arrives n (Look page) = Looks n page
  Arrives n (Bits page h i) = Checks n page h i
  Arrives n (Ended None) = Passes layout m found n layout.pages
  Arrives n (Ended (Some page)) = ⊥
  Arrives n p = HasFound n (found_at p)

  from_arrives : (n page : ℕ) → Passes layout m found n page → Below n page → Arrives n (look_from layout page)
  from_arrives n page p b = go (ltb page layout.pages) refl where
    go : (more : Bool) → ltb page layout.pages ≡ more → Arrives n (cond more (Look page) (Ended None))
    go true e = record { passes = p; below = b }
    go false e = passes_to n page layout.pages p (grind (arith, nat_tests))

  other_page : (n page other : ℕ) → Asks n (Load (Page page)) → other < page → asks layout (told layout m found n) ≢ Load (Page other)
  other_page n page other a low b = let same : page ≡ other = cc in absurd (omega arith)

  -- Step n is the load of a page.
  module _ (n page : ℕ) (a : Asks n (Load (Page page))) (l : Looks n page) where
    before : Passes layout m found (suc n) page
    before = grind (arith, other_page, passes_more)

    -- a page that is no head of a wanted span is gone past
    goes_past : ((h : SpanHead) → page_of (found n) ≡ Head h → ¬ IsWanted m h) → Arrives (suc n) (look_from layout (page + pages_gone (page_of (found n))))
    goes_past none = from_arrives (suc n) (page + pages_gone (page_of (found n))) passes below where
      met : (q : ℕ) → q < page + pages_gone (page_of (found n)) → IsMet layout m found (suc n) q
      met q low = elim (cases_lt q page) [
        | inl under ↦ before.met q under
        | inr above ↦ (page, found n, now n (Load (Page page)) a, above, low)
      ]

      full_here : (q : ℕ) → page ≤ q → (h : SpanHead) → IsHead layout m found (suc n) q h → IsWanted m h → IsFull layout m found (suc n) q h
      full_here q above h (word, t, is) wanted = elim (by_last n (Load (Page q)) word t) [
        | inl last ↦ absurd (none h (ap page_of last.1 ∙ is) wanted)
        | inr old ↦ absurd (let low = l.below q word old in omega arith)
      ]

      passes : Passes layout m found (suc n) (page + pages_gone (page_of (found n)))
      passes = record {
        met = met;
        full = λ q low h. elim (cases_lt q page) [
          | inl under ↦ before.full q under h
          | inr above ↦ full_here q above h
        ];
      }

      below : Below (suc n) (page + pages_gone (page_of (found n)))
      below q word t = elim (by_last n (Load (Page q)) word t) [
        | inl last ↦ let b = last.0 in let same : page ≡ q = cc in let some = some_gone (found n) in omega arith
        | inr old ↦ let low = l.below q word old in omega arith
      ]

    begins : (h : SpanHead) → page_of (found n) ≡ Head h → IsWanted m h → Checks (suc n) page h 0
    begins h is wanted = record {
      passes = before;
      word = found n;
      at = now n (Load (Page page)) a;
      says = is;
      wanted = wanted;
      within = let some = some_pages (found n) h is in omega arith;
      full = λ j low. absurd (omega arith);
      upto = upto;
    } where
      upto : (other v : ℕ) → Told (suc n) (Load (Page other)) v → (other < page) ⊎ ((other ≡ page) × (v ≡ found n))
      upto other v t = elim (by_last n (Load (Page other)) v t) [
        | inl last ↦ let b = last.0 in inr (cc, sym last.1)
        | inr old ↦ inl (l.below other v old)
      ]

    look_arrives : Arrives (suc n) (goes_at layout m (Look page) (found n))
    look_arrives = go (page_of (found n)) refl where
      past : ((h : SpanHead) → page_of (found n) ≡ Head h → ¬ IsWanted m h) → (p : PageWord) → page_of (found n) ≡ p → Arrives (suc n) (look_from layout (page + pages_gone p))
      past none p e = subst (λ (x : PageWord). Arrives (suc n) (look_from layout (page + pages_gone x))) e (goes_past none)

      on_head : (h : SpanHead) → page_of (found n) ≡ Head h → (b : Bool) → is_wanted m h ≡ b → Arrives (suc n) (cond b (Bits page h 0) (look_from layout (page + h.pages)))
      on_head h e true is = begins h e (wanted_means m h is)
      on_head h e false is = past (λ k f wanted. let same : h ≡ k = cc in let b = wanted_is m h (subst (IsWanted m) (sym same) wanted) in absurd (cc)) (Head h) e

      go : (p : PageWord) → page_of (found n) ≡ p → Arrives (suc n) (after_page layout m page p)
      go Free e = past (λ h f. absurd (cc)) Free e
      go (Body b) e = past (λ h f. absurd (cc)) (Body b) e
      go (Head h) e = on_head h e (is_wanted m h) refl

  other_step : (n at page : ℕ) → Asks n (Load (Alloc at)) → asks layout (told layout m found n) ≢ Load (Page page)
  other_step n at page a b = absurd (cc)

  -- Step n is the load of an alloc word.
  module _ (n page : ℕ) (h : SpanHead) (i : ℕ) (a : Asks n (Load (Alloc (alloc_word layout page i)))) (k : Checks n page h i) where
    passes_still : Passes layout m found (suc n) page
    passes_still = passes_more n page k.passes (λ other low. other_step n (alloc_word layout page i) other a)

    old_page : (q word : ℕ) → Told (suc n) (Load (Page q)) word → Told n (Load (Page q)) word
    old_page q word t = grind arith

    head_still : Told (suc n) (Load (Page page)) k.word
    head_still = more n (Load (Page page)) k.word k.at

    upto_still : (other v : ℕ) → Told (suc n) (Load (Page other)) v → (other < page) ⊎ ((other ≡ page) × (v ≡ k.word))
    upto_still other v t = k.upto other v (old_page other v t)

    -- the span is full: it is gone past
    goes_behind : IsFull layout m found (suc n) page h → Arrives (suc n) (look_from layout (page + h.pages))
    goes_behind full = from_arrives (suc n) (page + h.pages) passes below where
      met : (q : ℕ) → q < page + h.pages → IsMet layout m found (suc n) q
      met q low = elim (cases_lt q page) [
        | inl under ↦ passes_still.met q under
        | inr above ↦ (page, k.word, head_still, above, subst (λ (x : PageWord). q < page + pages_gone x) (sym k.says) low)
      ]

      same_head : (q word : ℕ) (g : SpanHead) → page_of word ≡ Head g → (q ≡ page) × (word ≡ k.word) → IsFull layout m found (suc n) q g
      same_head q word g is (e, f) =
          let same : h ≡ g = let says = k.says in let there = ap page_of f in cc in
          subst (λ (x : ℕ). IsFull layout m found (suc n) x g) (sym e) (subst (IsFull layout m found (suc n) page) same full)

      full_here : (q : ℕ) → page ≤ q → (g : SpanHead) → IsHead layout m found (suc n) q g → IsFull layout m found (suc n) q g
      full_here q above g (word, t, is) = elim (upto_still q word t) [
        | inl low ↦ absurd (omega arith)
        | inr here ↦ same_head q word g is here
      ]

      passes : Passes layout m found (suc n) (page + h.pages)
      passes = record {
        met = met;
        full = λ q low g is. elim (cases_lt q page) [
          | inl under ↦ passes_still.full q under g is
          | inr above ↦ λ wanted. full_here q above g is
        ];
      }

      below : Below (suc n) (page + h.pages)
      below q word t = elim (upto_still q word t) [
        | inl low ↦ omega arith
        | inr here ↦ let e = here.0 in let some = some_pages k.word h k.says in omega arith
      ]

    -- the alloc words up to this one lack nothing
    full_to : ¬ LacksAt m page i (found n) → (j : ℕ) → j < i + 1 → (w : ℕ) × IsBits layout m found (suc n) page j w × (¬ LacksAt m page j w)
    full_to none j low = elim (cases_order j i) [
      | inl e ↦ subst (λ (x : ℕ). (w : ℕ) × IsBits layout m found (suc n) page x w × (¬ LacksAt m page x w)) (sym e) (found n, now n (Load (Alloc (alloc_word layout page i))) a, none)
      | inr (inl under) ↦ let f = k.full j under in (f.0, more n _ f.0 f.1, f.2)
      | inr (inr above) ↦ absurd (omega arith)
    ]

    goes_on : ¬ LacksAt m page i (found n) → i + 1 < 16 * h.pages → Checks (suc n) page h (i + 1)
    goes_on none further = record { passes = passes_still; word = k.word; at = head_still; says = k.says; wanted = k.wanted; within = further; full = full_to none; upto = upto_still }

    takes : LacksAt m page i (found n) → Lacks (suc n) page h
    takes lacks = record {
      stands = (k.word, head_still, k.says);
      wanted = k.wanted;
      lacks = (i, found n, k.within, now n (Load (Alloc (alloc_word layout page i))) a, lacks);
      first = passes_still;
      last = λ other v t. elim (upto_still other v t) [
        | inl low ↦ omega arith
        | inr here ↦ let e = here.0 in omega arith
      ];
    }

    bits_arrives : Arrives (suc n) (goes_at layout m (Bits page h i) (found n))
    bits_arrives = go (lacks_at m page i (found n)) (ltb (i + 1) (16 * h.pages)) refl refl where
      none : lacks_at m page i (found n) ≡ false → ¬ LacksAt m page i (found n)
      none e l = let f = lacks_by m page i (found n) l in absurd (cc)

      go : (b further : Bool) → lacks_at m page i (found n) ≡ b → ltb (i + 1) (16 * h.pages) ≡ further → Arrives (suc n) (cond b (take_from page h) (cond further (Bits page h (i + 1)) (look_from layout (page + h.pages))))
      go true further e f = takes (by_lacks m page i (found n) e)
      go false true e f = goes_on (none e) (grind (arith, nat_tests))
      go false false e f = goes_behind (λ j low. full_to (none e) j (let last : 16 * h.pages ≤ i + 1 = grind (arith, nat_tests) in omega arith))

  -- Step n is made where a span was found: it loads no page word but that of the span, and behind it the span is still to be taken, or it is taken.

  found_asks : (p : PassStage) (span : ℕ × SpanHead) (other : ℕ) → found_at p ≡ Some span → asks_at layout m p ≡ Load (Page other) → other ≡ span.0
  found_asks p span other f a = grind arith

  found_goes : (p : PassStage) (span : ℕ × SpanHead) (word : ℕ) → found_at p ≡ Some span → given_at (goes_at layout m p word) ≡ None → found_at (goes_at layout m p word) ≡ Some span
  found_goes p span word f g = grind arith

  found_gives : (p : PassStage) (span : ℕ × SpanHead) (word : ℕ) (out : Option ℕ) → found_at p ≡ Some span → given_at (goes_at layout m p word) ≡ Some out → out ≡ Some span.0
  found_gives p span word out f g = grind arith

  found_stores : (p : PassStage) (span : ℕ × SpanHead) (word : ℕ) (out : Option ℕ) → found_at p ≡ Some span → given_at (goes_at layout m p word) ≡ Some out → asks_at layout m p ≡ Store (Page span.0) (head_word (owned_by (m.seat + 1) span.1))
  found_stores p span word out f g = grind arith

  module _ (n : ℕ) (p : PassStage) (span : ℕ × SpanHead) (f : found_at p ≡ Some span) (e : told layout m found n ≡ at_stage m p) (k : Lacks n span.0 span.1) where
    its_page : (other : ℕ) → Asks n (Load (Page other)) → other ≡ span.0
    its_page other a = found_asks p span other f (sym (ap (asks layout) e) ∙ a)

    found_still : Lacks (suc n) span.0 span.1
    found_still = record {
      stands = (k.stands.0, more n _ k.stands.0 k.stands.1, k.stands.2);
      wanted = k.wanted;
      lacks = (k.lacks.0, k.lacks.1, k.lacks.2, more n _ k.lacks.1 k.lacks.3, k.lacks.4);
      first = passes_more n span.0 k.first (λ page low a. let same = its_page page a in absurd (omega arith));
      last = λ other v t. elim (by_last n (Load (Page other)) v t) [
        | inl here ↦ let same = its_page other here.0 in omega arith
        | inr before ↦ k.last other v before
      ];
    }

    found_takes : (word page : ℕ) → given_at (goes_at layout m p word) ≡ Some (Some page) → Takes layout m found n page
    found_takes word page g =
        let same : span.0 ≡ page = let out = found_gives p span word (Some page) f g in cc in
        subst (Takes layout m found n) same (record { head = span.1; stands = k.stands; wanted = k.wanted; lacks = k.lacks; first = k.first; last = k.last; store = ap (asks layout) e ∙ found_stores p span word (Some page) f g })

  -- The stage after any number of steps.

  abbrev IsAt : ℕ → PassStage → Type 0
  IsAt n (Ended taken) = Unit {0}
  IsAt n (Look page) = Looks n page
  IsAt n (Bits page h i) = Checks n page h i
  IsAt n p = HasFound n (found_at p)

  arrived : (n : ℕ) (p : PassStage) → Arrives n p → IsAt n p
  arrived n p k = grind arith

  abbrev Stands : ℕ → Type 0
  Stands n = (p : PassStage) × (told layout m found n ≡ at_stage m p) × IsAt n p

  goes_now : (n : ℕ) (p : PassStage) → told layout m found n ≡ at_stage m p → told layout m found (suc n) ≡ at_stage m (goes_at layout m p (found n))
  goes_now n p e = ap (λ (x : Pass). goes layout x (found n)) e

  found_arrives : (n : ℕ) (q : PassStage) (span : ℕ × SpanHead) → (given_at q ≡ None → found_at q ≡ Some span) → Lacks n span.0 span.1 → IsAt n q
  found_arrives n (Ended taken) span f k = tt
  found_arrives n (Look page) span f k = let e = f refl in absurd (cc)
  found_arrives n (Bits page h i) span f k = let e = f refl in absurd (cc)
  found_arrives n p span f k = subst (HasFound n) (sym (f refl)) k

  behind : (n : ℕ) (p : PassStage) (has : Option (ℕ × SpanHead)) → found_at p ≡ has → told layout m found n ≡ at_stage m p → HasFound n has → IsAt (suc n) (goes_at layout m p (found n))
  behind n p (Some span) f e k = found_arrives (suc n) (goes_at layout m p (found n)) span (found_goes p span (found n) f) (found_still n p span f e k)
  behind n p None f e k = absurd k

  next : (n : ℕ) → Stands n → Stands (suc n)
  next n (Look page, e, k) = (goes_at layout m (Look page) (found n), goes_now n (Look page) e, arrived (suc n) (goes_at layout m (Look page) (found n)) (look_arrives n page (ap (asks layout) e) k))
  next n (Bits page h i, e, k) = (goes_at layout m (Bits page h i) (found n), goes_now n (Bits page h i) e, arrived (suc n) (goes_at layout m (Bits page h i) (found n)) (bits_arrives n page h i (ap (asks layout) e) k))
  next n (Ended taken, e, k) = (Ended taken, goes_now n (Ended taken) e, tt)
  next n (p, e, k) = (goes_at layout m p (found n), goes_now n p e, behind n p (found_at p) refl e k)

  none_told : (ask : Ask) (word : ℕ) → ¬ Told 0 ask word
  none_told ask word t = absurd (let low = t.1 in omega arith)

  stands : m ≡ at_stage m (Look 0) → (n : ℕ) → Stands n
  stands opens zero = (Look 0, opens, record { passes = record { met = λ page low. absurd (omega arith); full = λ page low. absurd (omega arith) }; below = λ page word t. absurd (none_told (Load (Page page)) word t) })
  stands opens (suc n) = next n (stands opens n)

  -- What it gives.

  none_given : (n : ℕ) (q : PassStage) → Arrives n q → given_at q ≡ Some None → Passes layout m found n layout.pages
  none_given n q k e = grind arith

  no_page_given : (n : ℕ) (q : PassStage) (page : ℕ) → Arrives n q → given_at q ≢ Some (Some page)
  no_page_given n (Ended None) page k e = absurd (cc)
  no_page_given n (Ended (Some other)) page k e = absurd k
  no_page_given n _ page k e = absurd (cc)

  -- it has ended before this step
  over : (n : ℕ) (taken : Option ℕ) → told layout m found n ≡ at_stage m (Ended taken) → ¬ GoesOn (steps_of layout (listing layout)) m found n
  over n taken e busy = let f : false ≡ true = sym (ap (λ (x : Pass). is_none (given x)) e) ∙ busy in absurd (cc)

  gives_at : (n : ℕ) (p : PassStage) (out : Option ℕ) → told layout m found n ≡ at_stage m p → EndsWith (steps_of layout (listing layout)) m found n out → given (goes layout (at_stage m p) (found n)) ≡ Some out
  gives_at n p out e g = sym (ap (λ (x : Pass). given (goes layout x (found n))) e) ∙ g

  takes_found : (n : ℕ) (p : PassStage) (page : ℕ) (has : Option (ℕ × SpanHead)) → found_at p ≡ has → told layout m found n ≡ at_stage m p → HasFound n has → given_at (goes_at layout m p (found n)) ≡ Some (Some page) → Takes layout m found n page
  takes_found n p page (Some span) f e k g = found_takes n p span f e k (found n) page g
  takes_found n p page None f e k g = absurd k

  some_takes : (n page : ℕ) → Stands n → GoesOn (steps_of layout (listing layout)) m found n → EndsWith (steps_of layout (listing layout)) m found n (Some page) → Takes layout m found n page
  some_takes n page (Look q, e, k) busy g = absurd (no_page_given (suc n) (goes_at layout m (Look q) (found n)) page (look_arrives n q (ap (asks layout) e) k) (gives_at n (Look q) (Some page) e g))
  some_takes n page (Bits q h i, e, k) busy g = absurd (no_page_given (suc n) (goes_at layout m (Bits q h i) (found n)) page (bits_arrives n q h i (ap (asks layout) e) k) (gives_at n (Bits q h i) (Some page) e g))
  some_takes n page (Ended taken, e, k) busy g = absurd (over n taken e busy)
  some_takes n page (p, e, k) busy g = takes_found n p page (found_at p) refl e k (gives_at n p (Some page) e g)

  gives_found : (n : ℕ) (p : PassStage) (has : Option (ℕ × SpanHead)) → found_at p ≡ has → HasFound n has → given_at (goes_at layout m p (found n)) ≡ Some None → Passes layout m found (suc n) layout.pages
  gives_found n p (Some span) f k g = let out = found_gives p span (found n) None f g in absurd (cc)
  gives_found n p None f k g = absurd k

  none_passes : (n : ℕ) → Stands n → GoesOn (steps_of layout (listing layout)) m found n → EndsWith (steps_of layout (listing layout)) m found n None → Passes layout m found (suc n) layout.pages
  none_passes n (Look q, e, k) busy g = none_given (suc n) (goes_at layout m (Look q) (found n)) (look_arrives n q (ap (asks layout) e) k) (gives_at n (Look q) None e g)
  none_passes n (Bits q h i, e, k) busy g = none_given (suc n) (goes_at layout m (Bits q h i) (found n)) (bits_arrives n q h i (ap (asks layout) e) k) (gives_at n (Bits q h i) None e g)
  none_passes n (Ended taken, e, k) busy g = absurd (over n taken e busy)
  none_passes n (p, e, k) busy g = gives_found n p (found_at p) refl k (gives_at n p None e g)

  pub takes_the_first : m ≡ at_stage m (Look 0) → (n : ℕ) → TakesTheFirst layout m found n
  takes_the_first opens n = record { some = λ page. some_takes n page (stands opens n); none = none_passes n (stands opens n) }
