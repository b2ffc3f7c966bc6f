-- Few words are scanned: in each cycle no more than there are, since the objects that are black share none; and while no cycle is marked none.
use Rattle.std.proofs.Common.{◌≡◌, ◌⊎◌, inl, inr, ℕ, suc, ◌+◌, ◌-◌, ◌*◌, ◌<◌, ◌≤◌, Bool, true, false, cond, ltb, refl, sym, ap, subst, ◌∙◌, arith, List, [], ◌∷◌}
use Rattle.std.proofs.Math.Nat.{mul-le-mul_right}
use Rattle.gh_holds.proofs.Vocabulary.{Actor, all_of, alloc_words, Arena, arena, Black, Cell, Colour, Coordinating, done_by, Entry, FewAreScanned, Good, Heap, HeapIsApart, InSlot, IsInMarking, IsLed, IsSlotOf, Layout, led_then, Legal, ListsKnown, Marking, most_scanned, nat_tests, Op, Placed, row_bit, scanned_by, scanned_in, Setup, size_for, SpanHead, those, view, WasMarked, Words}
use Rattle.gh_coord.specs.Handshake as leading
use Rattle.gh_coord.specs.Listing as coord
use Rattle.gh_worker.specs.Handshake as working
use Rattle.gh_worker.specs.Works.{words_done}
use Rattle.gh_lists.specs.Counts.{CountsPlainly, stored_in, stores_cell}
use Rattle.gh_marked.proofs.Vocabulary.{WorkerStage}
use Rattle.gh_holds.proofs.AllActors.Marks.{objects}
use Rattle.gh_lists.specs.Leaving.{ends_marking, marks_or_not}
use Rattle.gh_lists.specs.Steps as seats
use Rattle.gh_marked.specs.Weights.{ArePacked, black_words, counted, counted_most, stored_rises}

-- a worker that is done with something takes, scans or shades
done_or_marking : (l : Layout) (p : WorkerStage) (found : ℕ) → (words_done l p found ≡ 0) ⊎ working.IsMarking p
done_or_marking l p found = grind arith

black_of : (size : ℕ) (c : Colour) → 0 < black_words size c → (c ≡ Black) × (black_words size c ≡ size)
black_of size c some = grind arith

module _ (setup : Setup) (lists : ListsKnown setup) where
  abbrev z : Arena
  z = arena setup

  -- While a cycle is marked.
  module _ (es : List (Entry Op)) (c : Coordinating) (m : IsInMarking z setup.pacing setup.may es c) where
    abbrev h : Heap
    h = m.known.has.state.heap

    abbrev s : Marking
    s = m.shared

    abbrev good : Good z (view h)
    good = m.known.has.good.heap

    -- each object of the cycle has a slot of its size
    record HasSlot (o : ℕ) : Type 0 where
      p : ℕ
      head : SpanHead
      i : ℕ
      slot : IsSlotOf setup.layout.pages (view h).page p head i o (s.extents.size o)

    slotted : (o : ℕ) → s.since o ≡ true → HasSlot o
    slotted o since =
        let set : row_bit (alloc_words h.words) o ≡ 1 = subst (λ (w : Words). row_bit (alloc_words w) o ≡ 1) m.known.beside.words (m.good.objects.placed o (m.good.objects.of_cycle o since)) in
        let b = good.bits o set in
        let placed : Placed (view h).alloc (view h).birth h.place b.0 = record { set = subst (λ (x : ℕ). row_bit (alloc_words h.words) x ≡ 1) (sym b.2) set; says = ap (view h).birth b.2 ∙ b.3 } in
        let has : InSlot setup.shapes setup.layout.pages (view h).page h.place h.ever.type_of b.0 = good.slots b.0 b.1 placed in
        let size : s.extents.size (h.place b.0) ≡ size_for setup.shapes h.ever.type_of b.0 = m.known.beside.size b.0 (record { made = b.1; placed = placed; known = subst (λ (x : ℕ). s.known x ≡ true) (sym b.2) (m.good.objects.of_cycle o since) }) in
        subst HasSlot b.2 (record { p = has.p; head = has.h; i = has.i; slot = subst (λ (x : ℕ). IsSlotOf setup.layout.pages (view h).page has.p has.h has.i (h.place b.0) x) (sym size) has.slot })

    apart : HeapIsApart z (view h)
    apart = lists.known.apart z (view h) good

    abbrev piece : ℕ → ℕ
    piece o = black_words (s.extents.size o) (s.colour o)

    since_of : (o : ℕ) → 0 < piece o → s.since o ≡ true
    since_of o some = grind (arith, black_of)

    packed : ArePacked piece
    packed o p lt some some_too = go (ltb p (o + piece o)) refl where
      go : (b : Bool) → ltb p (o + piece o) ≡ b → o + piece o ≤ p
      go true e =
          let x = slotted o (since_of o some) in
          let y = slotted p (since_of p some_too) in
          let below : p < o + piece o = grind (arith, nat_tests, e) in
          let size = (black_of (s.extents.size o) (s.colour o) some).1 in
          let size_too = (black_of (s.extents.size p) (s.colour p) some_too).1 in
          absurd (apart.slots x.p y.p x.i y.i o p (s.extents.size o) (s.extents.size p) (p - o) 0 x.head y.head x.slot y.slot (λ same. omega (arith, same, lt)) (omega (arith, lt, below, size)) (omega (arith, some_too, size_too)) (omega (arith, lt)))
      go false e = grind (arith, nat_tests, e)

    within : (o : ℕ) → 0 < piece o → o + piece o ≤ 1024 * setup.layout.pages
    within o some =
        let end = (objects setup lists.known m.cycle s es m.good m.known o (since_of o some)).within in
        let there : o + s.extents.size o ≤ 1024 * setup.layout.pages = subst (λ (r : Arena). o + s.extents.size o ≤ 1024 * r.layout.pages) m.known.arena_is end in
        let size = (black_of (s.extents.size o) (s.colour o) some).1 in
        omega (arith, there, size)

    few_counted : counted setup.layout s ≤ most_scanned setup.layout
    few_counted = counted_most setup.layout s packed within

  abbrev Lawful : List (Entry Op) → Type 0
  Lawful = Legal (those setup)

  abbrev Few : List (Entry Op) → Type 0
  Few es = scanned_in setup es ≤ stored_in Cell.Gen es * most_scanned setup.layout

  module _ (e : Entry Op) (es : List (Entry Op)) where
    -- who is done with nothing
    none_more : scanned_by setup e es ≡ 0 → Few es → Few (e ∷ es)
    none_more none few = let ended = mul-le-mul_right (most_scanned setup.layout) (stored_rises Cell.Gen e.ask (stored_in Cell.Gen es)) in omega (arith, none, few, ended)

    done_is : (m : Actor) → seats.at setup es e.actor ≡ m → scanned_by setup e es ≡ done_by setup.layout m e.found
    done_is m is = ap (λ (x : Actor). done_by setup.layout x e.found) is

    -- the step that ends a cycle's marking
    cycle_more : (lead : Coordinating) → scanned_by setup e es ≡ 0 → stores_cell Cell.Gen e.ask ≡ true → IsInMarking z setup.pacing setup.may es lead → Few (e ∷ es)
    cycle_more lead none stored m =
        let before = m.scanned in
        let most = few_counted es lead m in
        let one : stored_in Cell.Gen (e ∷ es) ≡ suc (stored_in Cell.Gen es) = ap (λ (b : Bool). cond b (suc (stored_in Cell.Gen es)) (stored_in Cell.Gen es)) stored in
        let ended = ap (λ (n : ℕ). n * most_scanned setup.layout) one in
        omega (arith, before, most, none, ended)

  -- while no cycle is marked
  pub rests : (es : List (Entry Op)) → Lawful es → WasMarked z setup.pacing setup.may es → (c : Coordinating) → IsLed setup es c → (leading.Marks c.stage → ⊥) → Few es
  rests [] legal was c led off = omega arith
  rests (e ∷ es) legal was c led off = by (λ d led_was still. rests es legal.0 (λ start x of. was start x (inr of)) d led_was still) (seats.step setup e es lists.known.writes legal (lists.keeps es legal.0)) where
    by : ((d : Coordinating) → IsLed setup es d → (leading.Marks d.stage → ⊥) → Few es) → seats.Step setup e es → Few (e ∷ es)
    by before (seats.by_processor m x stays) = none_more e es (done_is e es (Actor.Runs m) x.is) (before c (sym stays ∙ led) off)
    by before (seats.by_worker w x stays) = none_more e es (done_is e es (Actor.Marks w) x.is ∙ none) (before c (sym stays ∙ led) off) where
      none : words_done setup.layout w.stage e.found ≡ 0
      none = elim (done_or_marking setup.layout w.stage e.found) [ inl is ↦ is | inr marking ↦ absurd (off ((lists.keeps es legal.0).marking c e.actor w (sym stays ∙ led) x.seat x.is marking)) ]
    by before (seats.by_lead lead x) = go (marks_or_not lead.stage) where
      none : scanned_by setup e es ≡ 0
      none = done_is e es (Actor.Leads lead) (ap (seats.at setup es) x.seat ∙ x.is)

      to : coord.goes setup.layout lead e.found ≡ c
      to = let both : Actor.Leads (coord.goes setup.layout lead e.found) ≡ Actor.Leads c = sym x.then ∙ led in cc

      go : leading.Marks lead.stage ⊎ (leading.Marks lead.stage → ⊥) → Few (e ∷ es)
      go (inr still) = none_more e es none (before lead x.is still)
      go (inl on) = elim (ends_marking setup.layout lead e.found on) [
        | inl goes ↦ absurd (off (subst (λ (y : Coordinating). leading.Marks y.stage) to goes))
        | inr stored ↦ cycle_more e es lead none (ap (stores_cell Cell.Gen) x.asked ∙ stored) (was es lead (inr (all_of es)) x.is on).marking
      ]

  pub few_scanned : (es : List (Entry Op)) → Lawful es → WasMarked z setup.pacing setup.may es → FewAreScanned setup es
  few_scanned es legal was = let x = led_then setup es in go x.lead x.led_by (marks_or_not x.lead.stage) where
    go : (c : Coordinating) → IsLed setup es c → leading.Marks c.stage ⊎ (leading.Marks c.stage → ⊥) → FewAreScanned setup es
    go c led (inl on) =
        let plain : CountsPlainly (those setup) setup.pacing.room es c = lists.plainly es c legal led in
        let m = (was es c (all_of es) led on).marking in
        let before = m.scanned in
        let most = few_counted es c m in
        let is = ap (λ (n : ℕ). n * most_scanned setup.layout) (plain.begun ∙ plain.marks.1 (inl on)) in
        omega (arith, before, most, is)
    go c led (inr off) =
        let plain : CountsPlainly (those setup) setup.pacing.room es c = lists.plainly es c legal led in
        let few = rests es legal was c led off in
        let ended = mul-le-mul_right (most_scanned setup.layout) plain.begun_then in
        let is = ap (λ (n : ℕ). n * most_scanned setup.layout) plain.begun in
        omega (arith, few, ended, is)
