-- How few cycles there are: no more than two for each statement that may ask for one, and the last.
use Rattle.std.proofs.Common.{◌≡◌, ◌≢◌, ℕ, suc, ◌+◌, ◌*◌, ◌<◌, ◌≤◌, ◌==◌, Bool, true, false, cond, refl, sym, ap, subst, arith, List, [], ◌∷◌, Option, Some, None}
use Rattle.std.proofs.lemmas.Bool.Decides.{nat_tests}
use Rattle.gh_lists.proofs.Vocabulary.{Actor, AreFew, Ask, asked_after, asked_by, asked_in, asks_collector, asks_for_one, Begins, BeginsFew, by, CoordStage, CountsWants, Entry, KeepsIt, Kind, last_at, Legal, MayAsk, Op, opened_in, other, Processor, processor_kind, ProcessorWritesItsOwn, Setup, started, total, WorkersWriteTheirOwn}
use Rattle.gh_coord.specs.Listing as coord
use Rattle.gh_lists.proofs.CycleNumbers.Asking.{asked_once, left, most_asks}
use Rattle.gh_lists.specs.Sums.{total_at, total_below, total_none, total_same}
use Rattle.gh_lists.specs.Steps as seats

-- how many cycles may be asked for by what has begun
abbrev may_ask : Option Op → ℕ
may_ask None = 0
may_ask (Some o) = most_asks o

abbrev may_ask_in : List (Entry Op) → ℕ
may_ask_in [] = 0
may_ask_in (e ∷ es) = may_ask e.begun + may_ask_in es

-- one, or none
asked_is : (ask : Ask) → (b : ℕ) × ((before : ℕ) → asked_after ask before ≡ b + before)
asked_is ask = go (asks_for_one ask) where
  go : (x : Bool) → (b : ℕ) × ((before : ℕ) → cond x (suc before) before ≡ b + before)
  go true = (1, λ n. omega arith)
  go false = (0, λ n. omega arith)

last_few : (last : Bool) (p : CoordStage) → last_at last p ≤ 1
last_few last p = grind arith

module _ (setup : Setup)
    (writes : ProcessorWritesItsOwn) (works : WorkersWriteTheirOwn)
    (keeps : (es : List (Entry Op)) → Legal (seats.it setup) es → KeepsIt (seats.it setup) es)
    (seat_of counts : ℕ → ℕ) (begins : BeginsFew setup.layout setup.may seat_of counts) where
  abbrev k : Kind Processor Op
  k = processor_kind setup.shapes setup.layout

  abbrev at : List (Entry Op) → ℕ → Actor
  at es a = seats.at setup es a

  abbrev Lawful : List (Entry Op) → Type 0
  Lawful es = Legal (seats.it setup) es

  -- What may still be asked for.

  abbrev left_of : Actor → ℕ
  left_of (Actor.Runs m) = left m
  left_of (Actor.Marks w) = 0
  left_of (Actor.Leads c) = 0

  abbrev left_at : List (Entry Op) → ℕ → ℕ
  left_at es a = left_of (at es a)

  abbrev left_in : List (Entry Op) → ℕ
  left_in es = total (left_at es) setup.layout.procs

  first_left : (a : ℕ) → a < setup.layout.procs → left_at [] a ≡ 0
  first_left a m = grind arith

  module _ (e : Entry Op) (es : List (Entry Op)) (legal : Lawful (e ∷ es)) where
    stays : (a : ℕ) → e.actor ≢ a → left_at (e ∷ es) a ≡ left_at es a
    stays a differs = ap left_of (other setup e es a (grind (arith, nat_tests, differs)))

    begun_left : (m : Processor) (o : Option Op) → at es e.actor ≡ Actor.Runs m → Begins (seats.it setup) e.actor es o → left (started k o m) ≤ left m + may_ask o
    begun_left m o is b = grind arith

    -- no step of another asks for one
    aside : setup.layout.procs ≤ e.actor → ((before : ℕ) → asked_after e.ask before ≡ before) → asked_in es + left_in es ≤ may_ask_in es → asked_in (e ∷ es) + left_in (e ∷ es) ≤ may_ask_in (e ∷ es)
    aside from none h =
        let same : left_in (e ∷ es) ≡ left_in es = total_same (left_at es) (left_at (e ∷ es)) setup.layout.procs (λ a m. stays a (λ x. omega (arith, from, m, x))) in
        let asked : asked_in (e ∷ es) ≡ asked_in es = none (asked_in es) in
        omega (arith, same, asked, h)

    by_processor : (m : Processor) → seats.RunsIt setup e es m → asked_in es + left_in es ≤ may_ask_in es → asked_in (e ∷ es) + left_in (e ∷ es) ≤ may_ask_in (e ∷ es)
    by_processor m x h =
        let moved : left_in (e ∷ es) + left_at es e.actor ≡ left_in es + left_at (e ∷ es) e.actor = total_at (left_at es) (left_at (e ∷ es)) setup.layout.procs e.actor x.seat (λ a lt differs. stays a (λ y. differs (sym y))) in
        let was : left_at es e.actor ≡ left m = ap left_of x.is in
        let now : left_at (e ∷ es) e.actor ≡ left (k.takes (started k e.begun m) e.found) = ap left_of x.then in
        let one = asked_is e.ask in
        let asked : asked_in (e ∷ es) ≡ one.0 + asked_in es = one.1 (asked_in es) in
        let less : asked_after e.ask (left (k.takes (started k e.begun m) e.found)) ≤ left (started k e.begun m) = subst (λ (q : Ask). asked_after q (left (k.takes (started k e.begun m) e.found)) ≤ left (started k e.begun m)) (sym x.asked) (asked_once setup.layout setup.shapes (started k e.begun m) e.found (writes.writes setup.layout (started k e.begun m) x.sound_then)) in
        let left_then : asked_after e.ask (left (k.takes (started k e.begun m) e.found)) ≡ one.0 + left (k.takes (started k e.begun m) e.found) = one.1 (left (k.takes (started k e.begun m) e.found)) in
        let more : left (started k e.begun m) ≤ left m + may_ask e.begun = begun_left m e.begun x.is legal.1.begins in
        omega (arith, moved, was, now, asked, less, left_then, more, h)

    by_step : seats.Step setup e es → asked_in es + left_in es ≤ may_ask_in es → asked_in (e ∷ es) + left_in (e ∷ es) ≤ may_ask_in (e ∷ es)
    by_step h h2 = grind (arith, aside, by_processor)

  asked_few : (es : List (Entry Op)) → Lawful es → asked_in es + left_in es ≤ may_ask_in es
  asked_few [] legal = let none = total_none (left_at []) setup.layout.procs first_left in omega (arith, none)
  asked_few (e ∷ es) legal = by_step e es legal (seats.step setup e es writes legal (keeps es legal.0)) (asked_few es legal.0)

  -- Which statements have begun.

  may_so : (a : ℕ) (es : List (Entry Op)) (o : Option Op) (g : ℕ) → Begins (seats.it setup) a es o → asks_collector g o ≡ true → MayAsk seat_of counts setup.layout.goroutines a (by a es) g
  may_so a es None g b h = absurd cc
  may_so a es (Some o) g b h = begins.few a (by a es) o g b.1 h

  own_alone : (es : List (Entry Op)) (g : ℕ) → Lawful es → asked_by g (by (seat_of g) es) ≡ asked_by g es
  own_alone [] g legal = refl
  own_alone (e ∷ es) g legal = go (own_alone es g legal.0) (e.actor == seat_of g) (asks_collector g e.begun) refl refl where
    go : asked_by g (by (seat_of g) es) ≡ asked_by g es → (b d : Bool) → (e.actor == seat_of g) ≡ b → asks_collector g e.begun ≡ d → asked_by g (cond b (e ∷ by (seat_of g) es) (by (seat_of g) es)) ≡ asked_by g (e ∷ es)
    go rest true d x y = ap (λ (n : ℕ). cond (asks_collector g e.begun) 1 0 + n) rest
    go rest false true x y = absurd (let of : seat_of g ≡ e.actor = (may_so e.actor es e.begun g legal.1.begins y).of in grind (arith, nat_tests, x, of))
    go rest false false x y = rw y (omega (arith, rest))

  within_counts : (es : List (Entry Op)) (g : ℕ) → g < setup.layout.goroutines → Lawful es → asked_by g es ≤ counts g
  within_counts [] g m legal = omega arith
  within_counts (e ∷ es) g m legal = go (within_counts es g m legal.0) (asks_collector g e.begun) refl where
    go : asked_by g es ≤ counts g → (d : Bool) → asks_collector g e.begun ≡ d → cond d 1 0 + asked_by g es ≤ counts g
    go rest false y = omega (arith, rest)
    go rest true y =
        let x = may_so e.actor es e.begun g legal.1.begins y in
        let more : asked_by g (by e.actor es) < counts g = x.more in
        let same : asked_by g (by e.actor es) ≡ asked_by g es = subst (λ (a : ℕ). asked_by g (by a es) ≡ asked_by g es) x.of (own_alone es g legal.0) in
        omega (arith, more, same)

  abbrev begun_by : List (Entry Op) → ℕ → ℕ
  begun_by es g = asked_by g es

  -- one more of this goroutine, or none
  one_of : (es : List (Entry Op)) (g : ℕ) → g < setup.layout.goroutines → total (λ h. cond (g == h) 1 0 + asked_by h es) setup.layout.goroutines ≡ 1 + total (begun_by es) setup.layout.goroutines
  one_of es g m =
      let moved = total_at (begun_by es) (λ h. cond (g == h) 1 0 + asked_by h es) setup.layout.goroutines g m (λ i lt differs. other_one i (λ y. differs (sym y))) in
      let here : cond (g == g) 1 0 + asked_by g es ≡ 1 + asked_by g es = this_one (g == g) (grind (arith, nat_tests)) in
      omega (arith, moved, here)
    where
      other_one : (i : ℕ) → g ≢ i → cond (g == i) 1 0 + asked_by i es ≡ asked_by i es
      other_one i differs = rw (let no_one : (g == i) ≡ false = grind (arith, nat_tests, differs) in no_one) (omega arith)

      this_one : (b : Bool) → b ≡ true → cond b 1 0 + asked_by g es ≡ 1 + asked_by g es
      this_one b e = grind arith

  none_of : (es : List (Entry Op)) → total (λ h. 0 + asked_by h es) setup.layout.goroutines ≡ 0 + total (begun_by es) setup.layout.goroutines
  none_of es = let same = total_same (begun_by es) (λ h. 0 + asked_by h es) setup.layout.goroutines (λ i m. omega arith) in omega (arith, same)

  begun_so : (e : Entry Op) (es : List (Entry Op)) (o : Option Op) → Begins (seats.it setup) e.actor es o → may_ask o + 2 * total (begun_by es) setup.layout.goroutines ≤ 2 * total (λ h. cond (asks_collector h o) 1 0 + asked_by h es) setup.layout.goroutines
  begun_so e es (Some (Op.New g d t)) b = let one = one_of es g (may_so e.actor es (Some (Op.New g d t)) g b (grind (arith, nat_tests))).there in omega (arith, one)
  begun_so e es (Some (Op.Gc g)) b = let one = one_of es g (may_so e.actor es (Some (Op.Gc g)) g b (grind (arith, nat_tests))).there in omega (arith, one)
  begun_so e es _ b = let none = none_of es in omega (arith, none)

  begun_all : (es : List (Entry Op)) → Lawful es → may_ask_in es ≤ 2 * total (begun_by es) setup.layout.goroutines
  begun_all [] legal = omega arith
  begun_all (e ∷ es) legal = let now = begun_so e es e.begun legal.1.begins in let rest = begun_all es legal.0 in omega (arith, now, rest)

  pub few : (wants : (es : List (Entry Op)) (c : coord.Coordinating) → Lawful es → at es (seats.n setup) ≡ Actor.Leads c → CountsWants (seats.it setup) es c) → (es : List (Entry Op)) → Lawful es → AreFew counts setup.layout es
  few wants es legal = record { asked = asked; opened = opened; few = let most = begins.counts_fit in omega (arith, most, opened) } where
    asked : asked_in es ≤ 2 * total counts setup.layout.goroutines
    asked =
        let first = asked_few es legal in
        let second = begun_all es legal in
        let third = total_below (begun_by es) counts setup.layout.goroutines (λ g m. within_counts es g m legal) in
        omega (arith, first, second, third)

    opened : opened_in es ≤ 2 * total counts setup.layout.goroutines + 1
    opened =
        let b = seats.led_by setup es in
        let w = (wants es b.lead legal b.led_by).enough in
        let last = last_few b.lead.is_last b.lead.stage in
        omega (arith, asked, w, last)
