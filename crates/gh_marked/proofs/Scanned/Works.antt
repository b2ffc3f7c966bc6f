-- A step of a worker while a cycle is marked: what it is done with is counted then, once for all. An object whose scan ends was taken before and is black behind; a global is scanned behind, or the object that it names has come into a buffer.
use Rattle.std.proofs.Common.{◌≡◌, ◌≢◌, inl, inr, ℕ, ◌+◌, ◌*◌, ◌<◌, ◌≤◌, ◌==◌, Bool, true, false, cond, Option, Some, None, refl, sym, ap, ◌∙◌, arith}
use Rattle.gh_marked.proofs.Vocabulary.{AllGoOn, Black, black_last, by_entry, by_global, by_object, Claimed, ClaimOf, colour_goes, counted, Cycle, EachStepGoesByMoves, entered_high, eqb_tells, far, global_goes, global_there, grows, Hands, Layout, level, NoClaim, NoneBeyond, nothing, Pending, Progress, Read, ReadOf, Scanned, Shaded, Shared, StepsGoByMoves, Taken, Untouched, Went, WorkerStage, Working}
use Rattle.gh_marks.specs.Good.{Good}
use Rattle.gh_marks.specs.Knows.{KnowsObjects}
use Rattle.gh_scan.specs.Facts as scan_facts
use Rattle.gh_scan.specs.Listing as scan
use Rattle.gh_shade.specs.Facts as shade_facts
use Rattle.gh_shade.specs.Listing as shade
use Rattle.gh_wbuf.specs.RoomFinding as room
use Rattle.gh_worker.specs.Listing as worker
use Rattle.gh_worker.specs.MarkFacts as marks
use Rattle.gh_worker.specs.Works.{scan_words, shading_word, words_done}
use Rattle.gh_base.specs.declared.held.Held.{Held}
use Rattle.gh_scan.specs.declared.scan.ScanStage.{ScanStage}
use Rattle.gh_shade.specs.declared.shade.ShadeStage.{ShadeStage}
use Rattle.gh_marked.proofs.Scanned.Routines.{HasStep}

-- The scan of an object ends with the words of its slot.
module _ (words : ℕ) where
  bits_give : (m : scan.Scanning) (found : ℕ) (b : Bool) → scan.given (cond b (record m { bits = found; stage = ScanStage.LoadField }) (scan.behind (record m { bits = found }))) ≡ Some words → words ≡ m.slot
  bits_give m found b is = grind arith

  field_gives : (m : scan.Scanning) (sh : shade.Shading) (b : Bool) → scan.given (cond b (scan.behind m) (scan.at_stage m (ScanStage.Shading sh))) ≡ Some words → words ≡ m.slot
  field_gives m sh b is = grind arith

  shade_gives : (m : scan.Scanning) (sh : shade.Shading) (out : Option Shaded) → scan.given (scan.after_shade m sh out) ≡ Some words → words ≡ m.slot
  shade_gives m sh out is = grind arith

  room_gives : (m : scan.Scanning) (sh : shade.Shading) (r : room.RoomFinding) (out : Option Held) → scan.given (scan.after_room m sh r out) ≡ Some words → ⊥
  room_gives m sh r out is = grind arith

-- its words, and that the seat has taken the object
record Scans (a : ℕ) (s : Shared) (o words : ℕ) : Type 0 where
  words_are : words ≡ s.extents.size o
  taken : s.colour o ≡ Taken a

module _ (l : Layout) (z : Cycle) (a : ℕ) (s : Shared) (m : scan.Scanning) (found words : ℕ) where
  abbrev o : ℕ
  o = scan.object_of m.reference

  ends_at : (p : ScanStage) → scan.is_busy p ≡ true → scan_facts.StageFacts z a s nothing m p → scan.given (scan.goes_at l m p found) ≡ Some words → Scans a s o words
  ends_at ScanStage.LoadPage busy f is = absurd cc
  ends_at ScanStage.LoadBitmap busy f is = record { words_are = bits_give words m found (scan.bit_says_pointer found m.at) is ∙ f.0.slot_is; taken = (f.1.has.is_taken o).0 refl }
  ends_at ScanStage.LoadField busy f is = record { words_are = field_gives words m _ (found == 0) is ∙ f.0.slot_is; taken = (f.2.has.is_taken o).0 refl }
  ends_at (ScanStage.Shading sh) busy f is = record { words_are = shade_gives words m (shade.goes sh found) (shade.gives sh found) is ∙ f.0.is_at.slot_is; taken = (f.1.hands.has.is_taken o).0 refl }
  ends_at (ScanStage.FindRoom sh r) busy f is = absurd (room_gives words m sh (room.goes l r found) (room.gives l r found) is)
  ends_at (ScanStage.Ended x) busy f is = absurd cc

-- The states before and behind the step.
module _ (steps : EachStepGoesByMoves) (z : Cycle) (a : ℕ) (s t : Shared) (good : Good z s) (knows : KnowsObjects z s) (none : NoneBeyond z s) (went : Went z a s t) where
  abbrev C : Shared → ℕ
  C x = counted z.arena.layout x

  step : StepsGoByMoves z a s t
  step = steps z a s t good went

  size_stays : (o : ℕ) → s.since o ≡ true → t.extents.size o ≡ s.extents.size o
  size_stays o since = ((step.others (a + 1) (λ e. omega (arith, e))).keeps.extents o since).size

  all : AllGoOn z.arena.layout s t
  all = record { colours = colour_goes steps z a s good t went; globals = global_goes steps z a s good t went; sizes = λ o black. size_stays o (good.objects.shaded o (rw black tt)) }

  goes_on : C s ≤ C t
  goes_on = grows z.arena.layout s t all

  -- what is done with nothing
  pub none_done : 0 + C s ≤ C t
  none_done = let more = goes_on in omega (arith, more)

  within : (o : ℕ) → s.since o ≡ true → o < 1024 * z.arena.layout.pages
  within o since = let k = knows o since in let some = k.some in let end = k.within in omega (arith, some, end)

  -- an object was taken, and is in nobody's hands
  scans_object : (o words : ℕ) → s.since o ≡ true → Scans a s o words → t.colour o ≢ Taken a → words + C s ≤ C t
  scans_object o words since x gone =
      let black : t.colour o ≡ Black = elim (all.colours o) [ inl same ↦ absurd (gone (same ∙ x.taken)) | inr up ↦ black_last (t.colour o) (let was = ap level x.taken in omega (arith, was, up)) ] in
      let more = by_object z.arena.layout s t all o (within o since) (ap level x.taken) black in
      let same = size_stays o since in
      let are = x.words_are in
      omega (arith, more, same, are)

  -- it was pending, and has come into a buffer
  enters_object : (o : ℕ) → s.colour o ≡ Pending a → t.colour o ≢ Pending a → 1 + C s ≤ C t
  enters_object o pending gone =
      let since : s.since o ≡ true = good.objects.shaded o (rw pending tt) in
      let up : 2 ≤ level (t.colour o) = elim (all.colours o) [ inl same ↦ absurd (gone (same ∙ pending)) | inr up ↦ (let was = ap level pending in omega (arith, was, up)) ] in
      let more = by_entry z.arena.layout s t all o (within o since) (rw pending refl) (entered_high (t.colour o) up) in
      omega (arith, more)

  -- a global was the seat's, and is not any more
  scans_global : (i : ℕ) → 1 ≤ far (s.progress i) → far (s.progress i) < 3 → 3 ≤ far (t.progress i) → 1 + C s ≤ C t
  scans_global i some before is = let more = by_global z.arena.layout s t all i (global_there z s none i some) before is in omega (arith, more)

  read_global : (i value : ℕ) → s.progress i ≡ Read a value → t.progress i ≢ Read a value → 1 + C s ≤ C t
  read_global i value read gone =
      let was = ap far read in
      let is : 3 ≤ far (t.progress i) = elim (all.globals i) [ inl same ↦ absurd (gone (same ∙ read)) | inr up ↦ omega (arith, was, up) ] in
      scans_global i (omega (arith, was)) (omega (arith, was)) is

  claimed_global : (i : ℕ) → s.progress i ≡ Claimed a → t.progress i ≢ Claimed a → ((value : ℕ) → t.progress i ≢ Read a value) → 1 + C s ≤ C t
  claimed_global i claimed gone unread = scans_global i (omega (arith, was)) (omega (arith, was)) (by (t.progress i) refl) where
    was : far (s.progress i) ≡ 1
    was = ap far claimed

    up : (p : Progress) → t.progress i ≡ p → 1 < far p
    up p is = elim (all.globals i) [ inl same ↦ absurd (gone (same ∙ claimed)) | inr lt ↦ (let f = ap far is in omega (arith, was, lt, f)) ]

    by : (p : Progress) → t.progress i ≡ p → 3 ≤ far p
    by Untouched is = absurd (let x = up Untouched is in omega (arith, x))
    by (Claimed b) is = absurd (let x = up (Claimed b) is in omega (arith, x))
    by Scanned is = omega arith
    by (Read b value) is = elim (eqb_tells b a) [
      | inl y ↦ absurd (unread value (is ∙ ap (λ (x : ℕ). Read x value) y.1))
      | inr n ↦ absurd (let before : s.progress i ≡ Read b value = ((step.others b n.1).read i value).1 is in let both : Claimed a ≡ Read b value = sym claimed ∙ before in cc)
    ]

  module _ (w : Working) (found : ℕ) where
    abbrev Facts : Working → Type 0
    Facts to = marks.StageFacts z a t to.held to.stage

    -- where it is done with something it has nothing in hand but its buffer
    done_with : (held : Option Held) (words : ℕ) → Facts (worker.done_with w held words) → Hands a t (marks.in_hand held NoClaim)
    done_with held words g = grind arith

    after_scan : (m : scan.Scanning) → scan.is_busy m.stage ≡ true → scan_facts.Facts z a s nothing m → (out : Option ℕ) → scan.gives z.arena.layout m found ≡ out → Facts (worker.after_scan w (scan.goes z.arena.layout m found) out) → scan_words out + C s ≤ C t
    after_scan m busy f None is g = none_done
    after_scan m busy f (Some words) is g = scans_object (scan.object_of m.reference) words f.known (ends_at z.arena.layout z a s m found words m.stage busy f.stage_is is) (λ taken. let no : None ≡ Some (scan.object_of m.reference) = ((done_with (scan.held_at (scan.goes z.arena.layout m found).held (scan.goes z.arena.layout m found).stage) words g).has.is_taken (scan.object_of m.reference)).1 taken in cc)

    after_global : (i : ℕ) (sh : shade.Shading) → Hands a s (marks.in_hand w.held (ClaimOf i)) → (b : Bool) → Facts (cond b (worker.done_with w w.held 1) (worker.at_stage w (WorkerStage.Shading sh))) → cond b 1 0 + C s ≤ C t
    after_global i sh f true g = claimed_global i ((f.has.is_claimed i).0 refl) (λ is. let no : NoClaim ≡ ClaimOf i = (then.has.is_claimed i).1 is in cc) (λ value is. let no : NoClaim ≡ ReadOf i value = (then.has.is_read i value).1 is in cc) where
      then : Hands a t (marks.in_hand w.held NoClaim)
      then = done_with w.held 1 g
    after_global i sh f false g = none_done

    -- a shading that ends, of the value of a global
    shade_ends : (i value : ℕ) (sh : shade.Shading) (held : Option Held) → Hands a t (marks.in_hand held NoClaim) → (p : ShadeStage) → shade.is_busy p ≡ true → Hands a s (shade_facts.in_hand (marks.in_hand None (marks.claim_at i value p)) sh.held (shade_facts.pending_at (shade.object_of sh.reference) p)) → shade.given (shade.goes_at sh p found) ≡ Some Shaded.Done → 1 + C s ≤ C t
    shade_ends i value sh held g ShadeStage.LoadPage busy f is = absurd cc
    shade_ends i value sh held g (ShadeStage.SetMark noscan) busy f is = read_global i value ((f.has.is_read i value).0 refl) (λ x. let no : NoClaim ≡ ReadOf i value = (g.has.is_read i value).1 x in cc)
    shade_ends i value sh held g ShadeStage.WaitForRoom busy f is = absurd cc
    shade_ends i value sh held g ShadeStage.Enter busy f is = enters_object (shade.object_of sh.reference) ((f.has.is_pending (shade.object_of sh.reference)).0 refl) (λ x. let no : None ≡ Some (shade.object_of sh.reference) = (g.has.is_pending (shade.object_of sh.reference)).1 x in cc)
    shade_ends i value sh held g ShadeStage.Ended busy f is = absurd cc

    after_shade : (i value : ℕ) (sh : shade.Shading) → shade.is_busy sh.stage ≡ true → shade_facts.Facts z a s (marks.in_hand None (marks.claim_at i value sh.stage)) sh → (out : Option Shaded) → shade.gives sh found ≡ out → Facts (worker.after_shade w (shade.goes sh found) out) → shading_word out + C s ≤ C t
    after_shade i value sh busy f out is g = grind (arith, done_with, none_done, shade_ends)

    done_at : (p : WorkerStage) → HasStep p → marks.StageFacts z a s w.held p → Facts (worker.goes_at z.arena.layout w p found) → words_done z.arena.layout p found + C s ≤ C t
    done_at p busy f g = grind (arith, after_global, after_scan, after_shade, none_done)

    pub works : HasStep w.stage → marks.Facts z a s w → marks.Facts z a t (worker.goes z.arena.layout w found) → words_done z.arena.layout w.stage found + C s ≤ C t
    works busy f g = grind (arith, done_at)
