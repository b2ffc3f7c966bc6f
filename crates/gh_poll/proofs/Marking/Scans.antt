-- While marking is on, each step of the scan of a stack with its shading is made of moves that its seat may make; the last makes the stack black.
use Rattle.std.proofs.Common.{◌≡◌, ◌≢◌, ℕ, suc, ◌+◌, ◌-◌, ◌*◌, ◌<◌, ◌≤◌, true, List, [], ◌∷◌, length, drop, Option, Some, None, refl, sym, ap, subst, ◌∙◌, arith, slice_index_or}
use Rattle.std.proofs.lemmas.List.{get_or-drop, length-drop}
use Rattle.std.proofs.Math.Nat.{mod-eq_of_lt}
use Rattle.gh_poll.proofs.Vocabulary.{by_wish, Cell, cell_of, Cycle, effect, END, goes_on, Good, Hands, Held, holding_only, IsOf, Keeps, KnowsObject, KnowsObjects, landing, LooksForRoom, MarkStackStage, moved, nothing, Others, pending, reference_in, ScanFacts, ScanStack, ScanStageFacts, Shaded, ShadesWish, Shared, StackMarking, StackStage, Steps, Value}
use Rattle.gh_marks.specs.Colours.{IsMarked, seen_word}
use Rattle.gh_marks.specs.Moves.{seen_some}
use Rattle.gh_shade.specs.Facts as shade_facts
use Rattle.gh_shade.specs.Listing as shade
use Rattle.gh_stack.specs.Facts as stack_facts
use Rattle.gh_stack.specs.Listing as stack
use Rattle.gh_wbuf.specs.Facts as buffer_facts
use Rattle.gh_wbuf.specs.RoomFinding as room
use Rattle.gh_poll.specs.declared.mark_stack.MarkStackStage.TheVariants.{Shading, FindRoom, Store, Ended}
use Rattle.gh_poll.specs.MarkStack.{after_room, after_shade, asks, asks_at, given, gives, goes, goes_at, opening}
use Rattle.gh_poll.specs.Stays.{found_on, shaded_on}
use Rattle.gh_poll.proofs.Marking.Known.{Known}
use Rattle.gh_poll.proofs.StackMarking.{begins_going, told_going, waits_then}

stores_at : (stage : StackStage) → goes_on stage ≡ true → stack.wish_of stage ≡ None → stage ≡ StackStage.Store
stores_at stage e f = grind arith

-- what a scan wishes is one of the values from there on
wished : (i : ℕ) (values : List Value) (reference : ℕ) → stack.wish_of (stack.first_reference i values) ≡ Some reference → (n : ℕ) × (n < length values) × (slice_index_or values n Value.Nil ≡ Value.Ref reference)
wished i [] reference e = absurd (cc)
wished i (Value.Ref r ∷ values) reference e = (0, omega arith, let is : r ≡ reference = cc in ap (λ (x : ℕ). Value.Ref x) is)
wished i (Value.Nil ∷ values) reference e = let h = wished (i + 1) values reference e in (suc h.0, (let few = h.1 in omega (arith, few)), h.2)
wished i (Value.Int v ∷ values) reference e = let h = wished (i + 1) values reference e in (suc h.0, (let few = h.1 in omega (arith, few)), h.2)

-- and so of those of the scan
wished_from : (i : ℕ) (registers : List Value) (reference : ℕ) → stack.wish_of (stack.shade_stage_from registers i) ≡ Some reference → (d : ℕ) × (d < length registers) × (slice_index_or registers d Value.Nil ≡ Value.Ref reference)
wished_from i registers reference e =
    let h = wished i (drop i registers) reference e in
    (i + h.0, (let few = h.1 in omega (arith, few, length-drop i registers)), sym (get_or-drop i registers h.0 Value.Nil) ∙ h.2)

-- it has looked from this register on
abbrev LooksFrom : stack.StackScan → (i : ℕ) → Type 0
LooksFrom m i = m.stage ≡ stack.shade_stage_from m.registers i

told_from : (registers : List Value) (stage : StackStage) (reference : ℕ) → stack.wish_of stage ≡ Some reference → (i : ℕ) × (stack.after_shade registers stage ≡ stack.shade_stage_from registers i)
told_from registers (StackStage.Shade register own) reference e = (register + 1, refl)
told_from registers StackStage.Store reference e = absurd (cc)
told_from registers StackStage.Ended reference e = absurd (cc)

-- What a step comes to, by what it gives: the facts of the next stage, or a black stack.
pub record Scanned (z : Cycle) (a : ℕ) (s t : Shared) (g : ℕ) (held : Option Held) : Type 0 where
  pub own : IsOf z.arena a g
  pub goes_on : s.words (Cell.Scanned g) ≢ END
  pub then : t ≡ moved z a s (ScanStack g)
  pub hands : Hands a t (holding_only held)

abbrev pub Comes : Cycle → (a : ℕ) → (s t : Shared) → (g : ℕ) → StackMarking → Option (Unit {0}) → Type 0
Comes z a s t g m None = Keeps z a s t × ScanFacts z a t g m
Comes z a s t g m (Some x) = Scanned z a s t g m.held

module _ (k : Known) (z : Cycle) (a : ℕ) (s : Shared) (good : Good z s) (objects : KnowsObjects z s) where
  -- what it wishes lies in the heap
  wish_is : (m : stack.StackScan) (i reference : ℕ) → stack_facts.AreRegisters s.extents.base (s.registers m.goroutine) m.registers → LooksFrom m i → 1 ≤ reference → stack.wish_of m.stage ≡ Some reference → reference_in z.arena.layout reference ≡ reference
  wish_is m i reference are from some wish =
      let by = wished_from i m.registers reference (ap stack.wish_of (sym from) ∙ wish) in
      let names : s.registers m.goroutine by.0 ≡ s.extents.base (reference - 1) + 1 = are.each by.0 by.1 ∙ ap (λ (v : Value). seen_word s.extents.base (stack_facts.named v)) by.2 ∙ seen_some s.extents.base reference some in
      let known : s.since (s.extents.base (reference - 1)) ≡ true = good.values.stacks m.goroutine by.0 (s.extents.base (reference - 1)) names in
      let there : KnowsObject z.arena.layout.pages _ _ s.extents (s.extents.base (reference - 1)) = objects (s.extents.base (reference - 1)) known in
      let whole : reference - 1 ≡ s.extents.base (reference - 1) = there.base_is (reference - 1) refl in
      let within : reference - 1 < 1024 * z.arena.layout.pages = omega (arith, there.within, there.some, whole) in
      let is : reference ≡ (reference - 1) + 1 = omega arith in
      ap (λ (n : ℕ). n + 1) (mod-eq_of_lt within) ∙ sym is

  wishes : (t : Shared) (m : stack.StackScan) (i : ℕ) (held : Option Held) → Good z t → stack_facts.AreRegisters s.extents.base (s.registers m.goroutine) m.registers → LooksFrom m i → stack_facts.Facts z a t m → Hands a t (holding_only held) → (wish : Option ℕ) → goes_on m.stage ≡ true → stack.wish_of m.stage ≡ wish → ScanStageFacts z a t held m (by_wish z.arena.layout held wish)
  wishes t m i held well are from f hands None on wish = (f, stores_at m.stage on wish, hands)
  wishes t m i held well are from f hands (Some reference) on wish =
      let known = k.stacks.wishes z a t m reference well f wish in
      let same : reference_in z.arena.layout reference ≡ reference = wish_is m i reference are from known.some wish in
      (record { scans = f; wish = wish ∙ ap (λ (r : ℕ). Some r) (sym same) }, k.shade.begins z a t nothing (reference_in z.arena.layout reference) held (rw same known.some) (ap (λ (r : ℕ). t.since (t.extents.base (r - 1))) same ∙ known.known) hands)

  -- where it begins, in this very state
  pub scan_begins : (seat g cycle : ℕ) (registers : List Value) (held : Option Held) → seat ≡ a → cycle ≡ z.number → stack_facts.Begins z a s g → stack_facts.AreRegisters s.extents.base (s.registers g) registers → Hands a s (holding_only held) → ScanFacts z a s g (opening z.arena.layout seat g cycle registers held)
  scan_begins seat g cycle registers held seat_is number may are hands = record {
    seat_is = seat_is;
    of = refl;
    stage_is = wishes s (stack.opening g cycle registers) 0 held good are refl facts hands (stack.wish_of (stack.opening g cycle registers).stage) (begins_going g cycle registers) refl;
  } where
    facts : stack_facts.Facts z a s (stack.opening g cycle registers)
    facts = subst (λ (c : ℕ). stack_facts.Facts z a s (stack.opening g c registers)) (sym number) (k.stacks.begins z a s g registers good may are)

  module _ (g : ℕ) (m : StackMarking) (seat_is : m.seat ≡ a) (of : m.scan.goroutine ≡ g) where
    shaded_then : (t : Shared) (sh : shade.Shading) (n : ℕ) → Good z t → Keeps z a s t → ShadesWish z a s m.scan sh.reference → (out : Option Shaded) → shade.gives sh n ≡ out → shade_facts.Facts z a t nothing (shade.goes sh n) → ScanFacts z a t g (after_shade z.arena.layout m (shade.goes sh n) out)
    shaded_then t sh n well kept w None e f = record {
      seat_is = seat_is;
      of = of;
      stage_is = (record { scans = k.stacks.lasts z a s t m.scan kept w.scans; wish = w.wish ∙ ap (λ (r : ℕ). Some r) (sym (k.shade.same sh n)) }, f);
    }
    shaded_then t sh n well kept w (Some Shaded.Done) e f =
        let ended : shade_facts.ObjectIsShaded a t nothing (shade.goes sh n) = k.shade.ends z a t nothing sh n e f in
        let wish : stack.wish_of m.scan.stage ≡ Some (shade.goes sh n).reference = w.wish ∙ ap (λ (r : ℕ). Some r) (sym (k.shade.same sh n)) in
        let told : stack_facts.Facts z a t (stack.told_shaded m.scan) = k.stacks.told z a t m.scan (shade.goes sh n).reference (k.stacks.lasts z a s t m.scan kept w.scans) wish (subst (λ (x : ℕ). IsMarked t.colour x) (sym ended.marked.base) ended.marked.colour) in
        let from = told_from m.scan.registers m.scan.stage sh.reference w.wish in
        record {
          seat_is = seat_is;
          of = of;
          stage_is = wishes t (stack.told_shaded m.scan) from.0 (shade.goes sh n).held well w.scans.registers_are from.1 told ended.hands (stack.wish_of (stack.told_shaded m.scan).stage) (told_going m.scan (waits_then m.scan.stage (shade.goes sh n).reference wish)) refl;
        }
    shaded_then t sh n well kept w (Some Shaded.WantsRoom) e f =
        let waits : shade_facts.WaitsForRoom a t nothing (shade.goes sh n) = k.shade.wants z a t nothing sh n e f in
        let found : buffer_facts.RoomFacts z a t (pending (shade.goes sh n).reference) (room.opening a (shade.goes sh n).held) = (k.buffers.begin z a t (pending (shade.goes sh n).reference) (shade.goes sh n).held waits.hands).finds in
        record {
          seat_is = seat_is;
          of = of;
          stage_is = (
            record { scans = k.stacks.lasts z a s t m.scan kept w.scans; wish = w.wish ∙ ap (λ (r : ℕ). Some r) (sym (k.shade.same sh n)) },
            record { some = waits.some; marked = waits.marked },
            subst (λ (b : ℕ). buffer_facts.RoomFacts z a t (pending (shade.goes sh n).reference) (room.opening b (shade.goes sh n).held)) (sym seat_is) found,
          );
        }

    abbrev Leads : MarkStackStage → Type 0
    Leads p = Steps z a s (asks_at m p) (λ t. Comes z a s t g (goes_at z.arena.layout m p (s.words (cell_of (asks_at m p)))) (given (goes_at z.arena.layout m p (s.words (cell_of (asks_at m p)))).stage))

    goes_so : (t : Shared) (n : StackMarking) → given n.stage ≡ None → Keeps z a s t × ScanFacts z a t g n → Comes z a s t g n (given n.stage)
    goes_so t n on h = subst (λ (o : Option (Unit {0})). Comes z a s t g n o) (sym on) h

    shades : (sh : shade.Shading) → ShadesWish z a s m.scan sh.reference → shade_facts.Facts z a s nothing sh → Leads (Shading sh)
    shades sh w f =
        let n : ℕ = s.words (cell_of (shade.asks sh)) in
        landing z a s (effect s.words (shade.asks sh)) (λ t. Keeps z a s t × shade_facts.Facts z a t nothing (shade.goes sh n)) (λ t. let to = after_shade z.arena.layout m (shade.goes sh n) (shade.gives sh n) in Comes z a s t g to (given to.stage))
        (λ t went h. goes_so t _ (shaded_on z.arena.layout m (shade.goes sh n) (shade.gives sh n)) (h.0, shaded_then t sh n (k.steps z a s t good went).good h.0 w (shade.gives sh n) refl h.1))
        (k.shade.keeps.own_step z a s nothing sh good objects f)

    -- the search for room
    found_then : (t : Shared) (sh : shade.Shading) (r : room.RoomFinding) (n : ℕ) → Keeps z a s t → ShadesWish z a s m.scan sh.reference → LooksForRoom s sh.reference → (out : Option Held) → room.gives z.arena.layout r n ≡ out → buffer_facts.RoomFacts z a s (pending sh.reference) r → buffer_facts.RoomFacts z a t (pending sh.reference) (room.goes z.arena.layout r n) → ScanFacts z a t g (after_room m sh (room.goes z.arena.layout r n) out)
    found_then t sh r n kept w looks out e was f = grind (arith, k.shade.shaded z a s t (shade.object_of sh.reference) kept looks.marked)

    finds : (sh : shade.Shading) (r : room.RoomFinding) → ShadesWish z a s m.scan sh.reference → LooksForRoom s sh.reference → buffer_facts.RoomFacts z a s (pending sh.reference) r → Leads (FindRoom sh r)
    finds sh r w looks f =
        let n : ℕ = s.words (cell_of (room.asks r)) in
        landing z a s (effect s.words (room.asks r)) (λ t. Keeps z a s t × buffer_facts.RoomFacts z a t (pending sh.reference) (room.goes z.arena.layout r n)) (λ t. let to = after_room m sh (room.goes z.arena.layout r n) (room.gives z.arena.layout r n) in Comes z a s t g to (given to.stage))
        (λ t went h. goes_so t _ (found_on m sh (room.goes z.arena.layout r n) (room.gives z.arena.layout r n)) (h.0, found_then t sh r n h.0 w looks (room.gives z.arena.layout r n) refl f h.1))
        (k.buffers.finds.own_step z a s (pending sh.reference) r good objects f)

    stores : stack_facts.Facts z a s m.scan → m.scan.stage ≡ StackStage.Store → Hands a s (holding_only m.held) → Leads Store
    stores f is x = landing z a s (effect s.words (stack.asks m.scan)) (λ t. t ≡ moved z a s (ScanStack m.scan.goroutine)) (λ t. Scanned z a s t g m.held)
        (λ t went e. record { own = subst (λ (h : ℕ). IsOf z.arena a h) of f.own; goes_on = subst (λ (h : ℕ). s.words (Cell.Scanned h) ≢ END) of f.goes_on; then = e ∙ ap (λ (h : ℕ). moved z a s (ScanStack h)) of; hands = subst (λ (u : Shared). Hands a u (holding_only m.held)) (sym e) ((k.follow z a s (holding_only m.held) good x).scanned_stack m.scan.goroutine) })
        (k.stacks.own_step z a s m.scan good f is)

    scans_at : (p : MarkStackStage) → ScanStageFacts z a s m.held m.scan p → Leads p
    scans_at p x = grind (arith, finds, shades, stores)

  pub scans_on : (g : ℕ) (m : StackMarking) → ScanFacts z a s g m → Steps z a s (asks m) (λ t. Comes z a s t g (goes z.arena.layout m (s.words (cell_of (asks m)))) (gives z.arena.layout m (s.words (cell_of (asks m)))))
  scans_on g m f = scans_at g m f.seat_is f.of m.stage f.stage_is

wish_lasts : (k : Known) (z : Cycle) (a : ℕ) (s t : Shared) (m : stack.StackScan) (reference : ℕ) → Others z a s t → ShadesWish z a s m reference → ShadesWish z a t m reference
wish_lasts k z a s t m reference o w = record { scans = k.stacks.lasts z a s t m o.keeps w.scans; wish = w.wish }

stage_lasts : (k : Known) (z : Cycle) (a : ℕ) (s t : Shared) (held : Option Held) (m : stack.StackScan) (p : MarkStackStage) → Others z a s t → ScanStageFacts z a s held m p → ScanStageFacts z a t held m p
stage_lasts k z a s t held m (Shading sh) o x = (wish_lasts k z a s t m sh.reference o x.0, k.shade.keeps.lasts z a s t nothing sh o x.1)
stage_lasts k z a s t held m (FindRoom sh r) o x = (wish_lasts k z a s t m sh.reference o x.0, record { some = x.1.some; marked = k.shade.shaded z a s t (shade.object_of sh.reference) o.keeps x.1.marked }, k.buffers.finds.lasts z a s t (pending sh.reference) r o x.2)
stage_lasts k z a s t held m Store o x = (k.stacks.lasts z a s t m o.keeps x.0, x.1, k.last z a s t (holding_only held) o x.2)
stage_lasts k z a s t held m Ended o x = x

pub scans_last : (k : Known) (z : Cycle) (a : ℕ) (s t : Shared) (g : ℕ) (m : StackMarking) → Others z a s t → ScanFacts z a s g m → ScanFacts z a t g m
scans_last k z a s t g m o f = grind (arith, stage_lasts)
