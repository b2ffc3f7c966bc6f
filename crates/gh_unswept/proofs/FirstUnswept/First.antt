-- The pass takes the first unswept span that has a clear slot once it is swept.
use Rattle.std.proofs.Common.{◌≡◌, ◌≢◌, ℕ, zero, suc, ◌+◌, ◌<◌, ◌≤◌, ◌⊎◌, inl, inr, Bool, true, false, cond, Option, Some, None, is_none, refl, sym, ap, subst, ◌∙◌, arith}
use Rattle.gh_unswept.proofs.Vocabulary.{Ask, cases_lt, EndsWith, Free, GoesOn, HasClear, HasNoneClear, Head, is_unswept, IsWantedUnswept, Layout, Load, Lost, once_swept, Page, page_of, pages_gone, PageWord, Passes, SpanHead, steps_of, sweep_in, SweepEnd, Sweeping, Swept, Takes, TakesFirstUnswept, told, Unswept}
use Rattle.gh_base.specs.declared.pack.PageWord.TheVariants.{Body}
use Rattle.gh_central.specs.declared.unswept.UnsweptStage.{UnsweptStage}
use Rattle.gh_central.specs.declared.unswept.UnsweptStage.TheVariants.{Look, Sweep, Take, Ended}
use Rattle.gh_central.specs.UnsweptPass.{after_page, after_sweep, asks, at_stage, given, given_at, goes, goes_at, listing, look_from}
use Rattle.gh_sweep.specs.declared.sweep.SweptSpan.{SweptSpan}
use Rattle.gh_sweep.specs.Listing as sweep
use Rattle.gh_unswept.specs.FirstUnswept.{EndsSweep, IsHead, IsMet, IsTold}
use Rattle.gh_unswept.proofs.FirstUnswept.Tests.{no_page_loaded, some_gone, some_pages, stays, wanted_is, wanted_means}

module _ (layout : Layout) (m : Unswept) (found : ℕ → ℕ) where
  abbrev at_step : ℕ → Unswept
  at_step n = told (steps_of layout (listing layout)) m found n

  -- What was told stays told, and one step more is told.

  abbrev Told : ℕ → Ask → ℕ → Type 0
  Told n ask word = IsTold layout m found n ask word

  -- the next step asks for this
  abbrev Asks : ℕ → Ask → Type 0
  Asks n ask = asks layout (at_step n) ≡ ask

  -- the sweep of the span of this head has left no slot clear, or another was first to sweep it
  abbrev Goes : ℕ → ℕ → SpanHead → Type 0
  Goes n page h = HasNoneClear layout m found n page h ⊎ EndsSweep layout m found n page h Lost

  now : (n : ℕ) (ask : Ask) → Asks n ask → Told (suc n) ask (found n)
  now n ask a = (n, omega arith, a, refl)

  more : (n : ℕ) (ask : Ask) (word : ℕ) → Told n ask word → Told (suc n) ask word
  more n ask word t = (t.0, let low = t.1 in omega arith, t.2, t.3)

  -- the step that was told last, or one before it
  by_last : (n : ℕ) (ask : Ask) (word : ℕ) → Told (suc n) ask word → (Asks n ask × (found n ≡ word)) ⊎ Told n ask word
  by_last n ask word t = grind arith

  ends_more : (n page : ℕ) (h : SpanHead) (end : SweepEnd) → EndsSweep layout m found n page h end → EndsSweep layout m found (suc n) page h end
  ends_more n page h end e = record { by = e.by; before = let low = e.before in omega arith; sw = e.sw; runs = e.runs; page_is = e.page_is; head_is = e.head_is; ends = e.ends }

  goes_more : (n page : ℕ) (h : SpanHead) → Goes n page h → Goes (suc n) page h
  goes_more n page h (inl (span, e, none)) = inl (span, ends_more n page h (Swept span) e, none)
  goes_more n page h (inr e) = inr (ends_more n page h Lost e)

  met_more : (n page : ℕ) → IsMet layout m found n page → IsMet layout m found (suc n) page
  met_more n page (first, word, t, low, high) = (first, word, more n (Load (Page first)) word t, low, high)

  -- the step that is told is not the load of one of the pages
  passes_more : (n end : ℕ) → Passes layout m found n end → ((page : ℕ) → page < end → asks layout (at_step n) ≢ Load (Page page)) → Passes layout m found (suc n) end
  passes_more n end p other = record {
    met = λ page low. met_more n page (p.met page low);
    none = λ page low h is wanted. goes_more n page h (p.none page low h (older page low h is) wanted);
  } where
    older : (page : ℕ) → page < end → (h : SpanHead) → IsHead layout m found (suc n) page h → IsHead layout m found n page h
    older page low h (word, t, is) = elim (by_last n (Load (Page page)) word t) [
      | inl last ↦ absurd (other page low last.0)
      | inr before ↦ (word, before, is)
    ]

  -- The stage of the pass, by what it was told.

  abbrev Below : ℕ → ℕ → Type 0
  Below n end = (page word : ℕ) → Told n (Load (Page page)) word → page < end

  record Looks (n : ℕ) (page : ℕ) : Type 0 where
    passes : Passes layout m found n page
    below : Below n page

  -- it sweeps the span of this head
  record Sweeps (n : ℕ) (page : ℕ) (h : SpanHead) (sw : Sweeping) : Type 0 where
    passes : Passes layout m found n page
    word : ℕ
    at : Told n (Load (Page page)) word
    says : page_of word ≡ Head h
    wanted : IsWantedUnswept m h
    page_is : sw.page ≡ page
    head_is : sw.head ≡ h
    upto : (other v : ℕ) → Told n (Load (Page other)) v → (other < page) ⊎ ((other ≡ page) × (v ≡ word))

  -- it has swept the span, which now has this head
  record Clears (n : ℕ) (page : ℕ) (now_swept : SpanHead) : Type 0 where
    head : SpanHead
    is_swept : now_swept ≡ once_swept head
    stands : IsHead layout m found n page head
    wanted : IsWantedUnswept m head
    clear : HasClear layout m found n page head
    first : Passes layout m found n page
    last : (other v : ℕ) → Told n (Load (Page other)) v → other ≤ page

  abbrev Arrives : ℕ → UnsweptStage → Type 0
  Arrives n (Look page) = Looks n page
  Arrives n (Sweep page h sw) = Sweeps n page h sw
  Arrives n (Take page h) = Clears n page h
  Arrives n (Ended None) = Passes layout m found n layout.pages
  Arrives n (Ended (Some page)) = ⊥

  from_arrives : (n page : ℕ) → Passes layout m found n page → Below n page → Arrives n (look_from layout page)
  from_arrives n page p b = grind arith

  other_page : (n page other : ℕ) → Asks n (Load (Page page)) → other < page → asks layout (at_step n) ≢ Load (Page other)
  other_page n page other a low b = let same : page ≡ other = cc in absurd (omega arith)

  -- Step n is the load of a page.
  module _ (n page : ℕ) (a : Asks n (Load (Page page))) (l : Looks n page) where
    before : Passes layout m found (suc n) page
    before = grind (arith, other_page, passes_more)

    -- a page that is no head of a wanted span is gone past
    goes_past : ((h : SpanHead) → page_of (found n) ≡ Head h → ¬ IsWantedUnswept m h) → Arrives (suc n) (look_from layout (page + pages_gone (page_of (found n))))
    goes_past none = from_arrives (suc n) (page + pages_gone (page_of (found n))) passes below where
      met : (q : ℕ) → q < page + pages_gone (page_of (found n)) → IsMet layout m found (suc n) q
      met q low = elim (cases_lt q page) [
        | inl under ↦ before.met q under
        | inr above ↦ (page, found n, now n (Load (Page page)) a, above, low)
      ]

      none_here : (q : ℕ) → page ≤ q → (h : SpanHead) → IsHead layout m found (suc n) q h → IsWantedUnswept m h → Goes (suc n) q h
      none_here q above h (word, t, is) wanted = elim (by_last n (Load (Page q)) word t) [
        | inl last ↦ absurd (none h (ap page_of last.1 ∙ is) wanted)
        | inr old ↦ absurd (let low = l.below q word old in omega arith)
      ]

      passes : Passes layout m found (suc n) (page + pages_gone (page_of (found n)))
      passes = record {
        met = met;
        none = λ q low h. elim (cases_lt q page) [
          | inl under ↦ before.none q under h
          | inr above ↦ none_here q above h
        ];
      }

      below : Below (suc n) (page + pages_gone (page_of (found n)))
      below q word t = elim (by_last n (Load (Page q)) word t) [
        | inl last ↦ let b = last.0 in let same : page ≡ q = cc in let some = some_gone (found n) in omega arith
        | inr old ↦ let low = l.below q word old in omega arith
      ]

    begins : (h : SpanHead) → page_of (found n) ≡ Head h → IsWantedUnswept m h → Sweeps (suc n) page h (sweep.opening page h)
    begins h is wanted = record {
      passes = before;
      word = found n;
      at = now n (Load (Page page)) a;
      says = is;
      wanted = wanted;
      page_is = refl;
      head_is = refl;
      upto = upto;
    } where
      upto : (other v : ℕ) → Told (suc n) (Load (Page other)) v → (other < page) ⊎ ((other ≡ page) × (v ≡ found n))
      upto other v t = elim (by_last n (Load (Page other)) v t) [
        | inl last ↦ let b = last.0 in inr (cc, sym last.1)
        | inr old ↦ inl (l.below other v old)
      ]

    look_arrives : Arrives (suc n) (goes_at layout m (Look page) (found n))
    look_arrives = go (page_of (found n)) refl where
      past : ((h : SpanHead) → page_of (found n) ≡ Head h → ¬ IsWantedUnswept m h) → (p : PageWord) → page_of (found n) ≡ p → Arrives (suc n) (look_from layout (page + pages_gone p))
      past none p e = subst (λ (x : PageWord). Arrives (suc n) (look_from layout (page + pages_gone x))) e (goes_past none)

      on_head : (h : SpanHead) → page_of (found n) ≡ Head h → (b : Bool) → is_unswept m h ≡ b → Arrives (suc n) (cond b (Sweep page h (sweep.opening page h)) (look_from layout (page + h.pages)))
      on_head h e true is = begins h e (wanted_means m h is)
      on_head h e false is = past (λ k f wanted. let same : h ≡ k = cc in let b = wanted_is m h (subst (IsWantedUnswept m) (sym same) wanted) in absurd (cc)) (Head h) e

      go : (p : PageWord) → page_of (found n) ≡ p → Arrives (suc n) (after_page layout m page p)
      go Free e = past (λ h f. absurd (cc)) Free e
      go (Body b) e = past (λ h f. absurd (cc)) (Body b) e
      go (Head h) e = on_head h e (is_unswept m h) refl

  -- Step n is a step of the sweep.
  module _ (n page : ℕ) (h : SpanHead) (sw : Sweeping) (now_at : at_step n ≡ at_stage m (Sweep page h sw)) (k : Sweeps n page h sw) where
    other_step : (q : ℕ) → asks layout (at_step n) ≢ Load (Page q)
    other_step q b = no_page_loaded layout sw q (sym (ap (asks layout) now_at) ∙ b)

    passes_still : Passes layout m found (suc n) page
    passes_still = passes_more n page k.passes (λ other low. other_step other)

    old_page : (q word : ℕ) → Told (suc n) (Load (Page q)) word → Told n (Load (Page q)) word
    old_page q word t = grind arith

    head_still : Told (suc n) (Load (Page page)) k.word
    head_still = more n (Load (Page page)) k.word k.at

    upto_still : (other v : ℕ) → Told (suc n) (Load (Page other)) v → (other < page) ⊎ ((other ≡ page) × (v ≡ k.word))
    upto_still other v t = k.upto other v (old_page other v t)

    ends_now : (end : SweepEnd) → sweep.gives sw (found n) ≡ Some end → EndsSweep layout m found (suc n) page h end
    ends_now end e = record { by = n; before = omega arith; sw = sw; runs = ap sweep_in now_at; page_is = k.page_is; head_is = k.head_is; ends = e }

    -- no slot is clear in the span, or another sweeps it: it is gone past
    goes_behind : Goes (suc n) page h → Arrives (suc n) (look_from layout (page + h.pages))
    goes_behind none = from_arrives (suc n) (page + h.pages) passes below where
      met : (q : ℕ) → q < page + h.pages → IsMet layout m found (suc n) q
      met q low = elim (cases_lt q page) [
        | inl under ↦ passes_still.met q under
        | inr above ↦ (page, k.word, head_still, above, subst (λ (x : PageWord). q < page + pages_gone x) (sym k.says) low)
      ]

      same_head : (q word : ℕ) (g : SpanHead) → page_of word ≡ Head g → (q ≡ page) × (word ≡ k.word) → Goes (suc n) q g
      same_head q word g is (e, f) =
          let same : h ≡ g = let says = k.says in let there = ap page_of f in cc in
          subst (λ (x : ℕ). Goes (suc n) x g) (sym e) (subst (Goes (suc n) page) same none)

      none_here : (q : ℕ) → page ≤ q → (g : SpanHead) → IsHead layout m found (suc n) q g → Goes (suc n) q g
      none_here q above g (word, t, is) = elim (upto_still q word t) [
        | inl low ↦ absurd (omega arith)
        | inr here ↦ same_head q word g is here
      ]

      passes : Passes layout m found (suc n) (page + h.pages)
      passes = record {
        met = met;
        none = λ q low g is. elim (cases_lt q page) [
          | inl under ↦ passes_still.none q under g is
          | inr above ↦ λ wanted. none_here q above g is
        ];
      }

      below : Below (suc n) (page + h.pages)
      below q word t = elim (upto_still q word t) [
        | inl low ↦ omega arith
        | inr here ↦ let e = here.0 in let some = some_pages k.word h k.says in omega arith
      ]

    goes_on : Sweeps (suc n) page h (sweep.goes sw (found n))
    goes_on = record {
      passes = passes_still;
      word = k.word;
      at = head_still;
      says = k.says;
      wanted = k.wanted;
      page_is = (stays sw (found n)).0 ∙ k.page_is;
      head_is = (stays sw (found n)).1 ∙ k.head_is;
      upto = upto_still;
    }

    clears : (span : SweptSpan) → sweep.gives sw (found n) ≡ Some (Swept span) → span.clear ≡ true → Clears (suc n) page (once_swept h)
    clears span e clear = record {
      head = h;
      is_swept = refl;
      stands = (k.word, head_still, k.says);
      wanted = k.wanted;
      clear = (span, ends_now (Swept span) e, clear);
      first = passes_still;
      last = λ other v t. elim (upto_still other v t) [
        | inl low ↦ omega arith
        | inr here ↦ let e = here.0 in omega arith
      ];
    }

    sweep_arrives : Arrives (suc n) (goes_at layout m (Sweep page h sw) (found n))
    sweep_arrives = go (sweep.gives sw (found n)) refl where
      by_count : (span : SweptSpan) → sweep.gives sw (found n) ≡ Some (Swept span) → (b : Bool) → span.clear ≡ b → Arrives (suc n) (cond b (Take page (once_swept h)) (look_from layout (page + h.pages)))
      by_count span e true is = clears span e is
      by_count span e false is = goes_behind (inl (span, ends_now (Swept span) e, is))

      go : (end : Option SweepEnd) → sweep.gives sw (found n) ≡ end → Arrives (suc n) (after_sweep layout page h (sweep.goes sw (found n)) end)
      go None e = goes_on
      go (Some Lost) e = goes_behind (inr (ends_now Lost e))
      go (Some (Swept span)) e = by_count span e span.clear refl

  -- The stage after any number of steps.

  abbrev IsAt : ℕ → UnsweptStage → Type 0
  IsAt n (Ended taken) = Unit {0}
  IsAt n (Look page) = Looks n page
  IsAt n (Sweep page h sw) = Sweeps n page h sw
  IsAt n (Take page h) = Clears n page h

  arrived : (n : ℕ) (p : UnsweptStage) → Arrives n p → IsAt n p
  arrived n p k = grind arith

  abbrev Stands : ℕ → Type 0
  Stands n = (p : UnsweptStage) × (at_step n ≡ at_stage m p) × IsAt n p

  goes_now : (n : ℕ) (p : UnsweptStage) → at_step n ≡ at_stage m p → at_step (suc n) ≡ at_stage m (goes_at layout m p (found n))
  goes_now n p e = ap (λ (x : Unswept). goes layout x (found n)) e

  next : (n : ℕ) → Stands n → Stands (suc n)
  next n (Look page, e, k) = (goes_at layout m (Look page) (found n), goes_now n (Look page) e, arrived (suc n) (goes_at layout m (Look page) (found n)) (look_arrives n page (ap (asks layout) e) k))
  next n (Sweep page h sw, e, k) = (goes_at layout m (Sweep page h sw) (found n), goes_now n (Sweep page h sw) e, arrived (suc n) (goes_at layout m (Sweep page h sw) (found n)) (sweep_arrives n page h sw e k))
  next n (Take page h, e, k) = (Ended (Some page), goes_now n (Take page h) e, tt)
  next n (Ended taken, e, k) = (Ended taken, goes_now n (Ended taken) e, tt)

  none_told : (ask : Ask) (word : ℕ) → ¬ Told 0 ask word
  none_told ask word t = absurd (let low = t.1 in omega arith)

  stands : m ≡ at_stage m (Look 0) → (n : ℕ) → Stands n
  stands opens zero = (Look 0, opens, record { passes = record { met = λ page low. absurd (omega arith); none = λ page low. absurd (omega arith) }; below = λ page word t. absurd (none_told (Load (Page page)) word t) })
  stands opens (suc n) = next n (stands opens n)

  -- What it gives.

  none_given : (n : ℕ) (q : UnsweptStage) → Arrives n q → given_at q ≡ Some None → Passes layout m found n layout.pages
  none_given n q k e = grind arith

  no_page_given : (n : ℕ) (q : UnsweptStage) (page : ℕ) → Arrives n q → given_at q ≢ Some (Some page)
  no_page_given n (Ended None) page k e = absurd (cc)
  no_page_given n (Ended (Some other)) page k e = absurd k
  no_page_given n _ page k e = absurd (cc)

  -- it has ended before this step
  over : (n : ℕ) (taken : Option ℕ) → at_step n ≡ at_stage m (Ended taken) → ¬ GoesOn (steps_of layout (listing layout)) m found n
  over n taken e busy = let f : false ≡ true = sym (ap (λ (x : Unswept). is_none (given x)) e) ∙ busy in absurd (cc)

  gives_at : (n : ℕ) (p : UnsweptStage) (out : Option ℕ) → at_step n ≡ at_stage m p → EndsWith (steps_of layout (listing layout)) m found n out → given (goes layout (at_stage m p) (found n)) ≡ Some out
  gives_at n p out e g = sym (ap (λ (x : Unswept). given (goes layout x (found n))) e) ∙ g

  some_takes : (n page : ℕ) → Stands n → GoesOn (steps_of layout (listing layout)) m found n → EndsWith (steps_of layout (listing layout)) m found n (Some page) → Takes layout m found n page
  some_takes n page (Look q, e, k) busy g = absurd (no_page_given (suc n) (goes_at layout m (Look q) (found n)) page (look_arrives n q (ap (asks layout) e) k) (gives_at n (Look q) (Some page) e g))
  some_takes n page (Sweep q h sw, e, k) busy g = absurd (no_page_given (suc n) (goes_at layout m (Sweep q h sw) (found n)) page (sweep_arrives n q h sw e k) (gives_at n (Sweep q h sw) (Some page) e g))
  some_takes n page (Take q h, e, k) busy g =
      let same : q ≡ page = let f = gives_at n (Take q h) (Some page) e g in cc in
      subst (Takes layout m found n) same (record {
        head = k.head;
        stands = k.stands;
        wanted = k.wanted;
        clear = k.clear;
        first = k.first;
        last = k.last;
        store = ap (asks layout) e ∙ ap (λ (x : SpanHead). asks layout (at_stage m (Take q x))) k.is_swept;
      })
  some_takes n page (Ended taken, e, k) busy g = absurd (over n taken e busy)

  none_passes : (n : ℕ) → Stands n → GoesOn (steps_of layout (listing layout)) m found n → EndsWith (steps_of layout (listing layout)) m found n None → Passes layout m found (suc n) layout.pages
  none_passes n (Look q, e, k) busy g = none_given (suc n) (goes_at layout m (Look q) (found n)) (look_arrives n q (ap (asks layout) e) k) (gives_at n (Look q) None e g)
  none_passes n (Sweep q h sw, e, k) busy g = none_given (suc n) (goes_at layout m (Sweep q h sw) (found n)) (sweep_arrives n q h sw e k) (gives_at n (Sweep q h sw) None e g)
  none_passes n (Take q h, e, k) busy g = let f = gives_at n (Take q h) None e g in absurd (cc)
  none_passes n (Ended taken, e, k) busy g = absurd (over n taken e busy)

  pub takes_the_first : m ≡ at_stage m (Look 0) → (n : ℕ) → TakesFirstUnswept layout m found n
  takes_the_first opens n = grind (arith, none_passes, some_takes, stands)
