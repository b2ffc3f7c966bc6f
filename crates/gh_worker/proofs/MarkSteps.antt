-- While marking is on a worker's steps are moves that its seat may make: by its stages.
use Rattle.std.proofs.Common.{◌≡◌, ◌≢◌, ℕ, ◌+◌, ◌-◌, ◌*◌, ◌<◌, ◌≤◌, Bool, true, false, cond, eqb, ltb, Option, Some, None, refl, sym, ap, subst, ◌∙◌, arith, eqb-true, eq-eqb, ltb-true, ltb-false}
use Rattle.std.proofs.Math.Nat.{mod-eq_of_lt}
use Rattle.gh_worker.proofs.Vocabulary.{Add, after_give, after_global, after_page, after_resume, after_scan, after_take, Ask, asks_at, at_stage, by_phase, by_work, Cell, cell_of, claim_at, ClaimGlobal, ClaimOf, counted, Cycle, done_with, EarnStage, effect, Facts, gives_back, goes_at, Good, handed_over, Hands, HasInHand, Held, held_at, in_hand, InHand, IsQuietInMarking, Keeps, KnowsObject, KnowsObjects, landing, landing_on, Lands, lands_by, lands_still, Layout, Load, moved, NoClaim, nothing, Others, page_done, page_of, PageWord, PassGlobals, Phase, phase_of, put, Quiet, ReadGlobal, ReadOf, Resumed, ResumeStage, ScanGlobal, seats_of, Shared, StageFacts, Steps, stops_at, Store, sweep_at, Went, WorkerStage, Working, WorksByMoves}
use Rattle.gh_credit.specs.Earning as earn
use Rattle.gh_phase.specs.Listing as resume
use Rattle.gh_scan.specs.Facts as scan_facts
use Rattle.gh_scan.specs.Listing as scan
use Rattle.gh_shade.specs.Listing as shade
use Rattle.gh_wbuf.specs.BufferGiving as give
use Rattle.gh_wbuf.specs.EntryTaking as take
use Rattle.gh_wbuf.specs.Facts as buffer_facts
use Rattle.gh_sweep.specs.Listing as sweep
use Rattle.gh_worker.proofs.MarkShades.{finds, Known, seen-lasts, shades}
use Rattle.gh_marks.specs.Colours.{seen_word}
use Rattle.gh_marks.specs.Moves.{seen_some}
use Rattle.gh_base.specs.declared.pack.PageWord.TheVariants.{Body, Free, Head}
use Rattle.gh_scan.specs.Listing.{reference_in}
use Rattle.gh_scan.specs.declared.scan.ScanStage.{ScanStage}

module _ (k : Known) (z : Cycle) (a : ℕ) (s : Shared) (g : Good z s) (objects : KnowsObjects z s) (w : Working) (seat_is : w.seat ≡ a) (seat_in : a < seats_of z.arena.layout) where
  abbrev l : Layout
  l = z.arena.layout

  abbrev Leads : Ask → Working → Type 0
  Leads ask n = Steps z a s ask (λ t. Facts z a t n)

  -- it lands where it is, with the facts of the next stage
  still : (c : Cell) (n : Working) → Facts z a s n → Leads (Load c) n
  still c n f = lands_still z a s s.words (λ t. Facts z a t n) refl f

  -- the same worker, with another buffer, at another stage
  same : (t : Shared) (held : Option Held) (marks : ℕ) (stage : WorkerStage) → StageFacts z a t held stage → Facts z a t (record w { held = held; marks = marks; stage = stage })
  same t held marks stage f = record { seat_is = seat_is; seat_in = seat_in; stage_is = f }

  -- the phase
  backs : (t : Shared) (number : ℕ) (held : Option Held) → w.held ≡ held → Hands a t (in_hand held NoClaim) → StageFacts z a t w.held (gives_back w number held)
  backs t number held e x = grind arith

  stops : (number : ℕ) → Hands a s (in_hand w.held NoClaim) → StageFacts z a s w.held (stops_at w number w.held)
  stops number x = grind arith

  phases : (number : ℕ) (phase : Phase) → Hands a s (in_hand w.held NoClaim) → StageFacts z a s w.held (by_phase w number phase)
  phases number phase x = grind arith

  load-phase : Hands a s (in_hand w.held NoClaim) → Leads (Load Cell.Phase) (goes_at l w WorkerStage.LoadPhase (s.words Cell.Phase))
  load-phase x = still Cell.Phase (goes_at l w WorkerStage.LoadPhase (s.words Cell.Phase)) (same s w.held w.marks (by_phase w (phase_of (s.words Cell.Phase)).stops (phase_of (s.words Cell.Phase)).phase) (phases (phase_of (s.words Cell.Phase)).stops (phase_of (s.words Cell.Phase)).phase x))

  -- a page
  paged : (word : PageWord) → Hands a s (in_hand w.held NoClaim) → Facts z a s (after_page l w word)
  paged (Head h) x = by _ where
    by : (b : Bool) → Facts z a s (cond b (at_stage w (WorkerStage.Sweeping (sweep.opening w.page h))) (page_done l w))
    by true = same s w.held w.marks (WorkerStage.Sweeping (sweep.opening w.page h)) x
    by false = record { seat_is = seat_is; seat_in = seat_in; stage_is = x }
  paged Free x = record { seat_is = seat_is; seat_in = seat_in; stage_is = x }
  paged (Body b) x = record { seat_is = seat_is; seat_in = seat_in; stage_is = x }

  load-page : Hands a s (in_hand w.held NoClaim) → Leads (Load (Cell.Page w.page)) (goes_at l w WorkerStage.LoadPage (s.words (Cell.Page w.page)))
  load-page x = still (Cell.Page w.page) (after_page l w (page_of (s.words (Cell.Page w.page)))) (paged (page_of (s.words (Cell.Page w.page))) x)

  -- a buffer is given back
  gives : (m : give.BufferGiving) (number : ℕ) → buffer_facts.GiveFacts z a s nothing m → Leads (give.asks m) (goes_at l w (WorkerStage.GiveBack m number) (s.words (cell_of (give.asks m))))
  gives m number f = landing z a s (effect s.words (give.asks m)) (λ t. Keeps z a s t × buffer_facts.GiveFacts z a t nothing (give.goes m n)) (λ t. Facts z a t (after_give w (give.goes m n) number (give.gives m n)))
      (λ t w h. then t h.1 (give.gives m n))
      (k.buffers.gives.own_step z a s nothing m g objects f) where
        n : ℕ
        n = s.words (cell_of (give.asks m))

        then : (t : Shared) → buffer_facts.GiveFacts z a t nothing (give.goes m n) → (out : Option (Unit {0})) → Facts z a t (after_give w (give.goes m n) number out)
        then t f None = same t w.held w.marks (WorkerStage.GiveBack (give.goes m n) number) f
        then t f (Some x) = record { seat_is = seat_is; seat_in = seat_in; stage_is = (f.hands, refl) }

  -- a step that marking does not read
  quiet-step : (hand : InHand) (step : Ask) (n : Working) → IsQuietInMarking s step → Hands a s hand → ((t : Shared) → Hands a t hand → Facts z a t n) → Leads step n
  quiet-step hand step n may x f = lands_by z a s (effect s.words step) (λ t. Facts z a t n) (Quiet step) may refl (f (moved z a s (Quiet step)) ((k.follow z a s hand g x).quiet step may))

  -- what is scanned is handed over
  earns-to : (m : earn.Earning) (p : EarnStage) (stage : WorkerStage) → Hands a s (in_hand w.held NoClaim) → ((t : Shared) → Hands a t (in_hand w.held NoClaim) → StageFacts z a t w.held stage) → Leads (earn.asks_at m p) (handed_over w stage)
  earns-to m p stage x f = quiet-step (in_hand w.held NoClaim) (earn.asks_at m p) (handed_over w stage) (quiet p) x (λ t h. record { seat_is = seat_is; seat_in = seat_in; stage_is = f t h }) where
    quiet : (q : EarnStage) → IsQuietInMarking s (earn.asks_at m q)
    quiet EarnStage.Add = tt
    quiet EarnStage.Ended = tt

  earns : (m : earn.Earning) → Hands a s (in_hand w.held NoClaim) → Leads (earn.asks m) (goes_at l w (WorkerStage.Earning m) (s.words (cell_of (earn.asks m))))
  earns m x = grind (arith, earns-to)

  earns-at-stop : (m : earn.Earning) (number : ℕ) → Hands a s (in_hand w.held NoClaim) → Leads (earn.asks m) (goes_at l w (WorkerStage.EarningAtStop m number) (s.words (cell_of (earn.asks m))))
  earns-at-stop m number x = grind (arith, backs, earns-to)

  -- a stop is acknowledged

  resumes : (r : resume.Resuming) (p : ResumeStage) → (n : Working) → Hands a s nothing → ((t : Shared) → Hands a t nothing → Facts z a t n) → Leads (resume.asks_at r p) n
  resumes r ResumeStage.Acknowledge n x f = quiet-step nothing (Store (Cell.Ack r.seat) r.stops) n tt x f
  resumes r ResumeStage.LoadPhase n x f = still Cell.Phase n (f s x)
  resumes r ResumeStage.LoadGeneration n x f = still Cell.Gen n (f s x)
  resumes r ResumeStage.LoadBegun n x f = still Cell.Begun n (f s x)
  resumes r (ResumeStage.Ended another) n x f = still Cell.Touch n (f s x)

  resumed : (r : resume.Resuming) (out : Option Resumed) (t : Shared) → w.held ≡ None → Hands a t nothing → Facts z a t (after_resume w r out)
  resumed r out t e x = grind arith

  -- an object is taken
  taken-then : (t : Shared) → Good z t → (m : take.EntryTaking) (out : Option (Option ℕ)) → buffer_facts.TakeComes z a t nothing out m → Facts z a t (after_take w m out)
  taken-then t good m out f = grind arith

  takes : (m : take.EntryTaking) → buffer_facts.TakeFacts z a s nothing m → Leads (take.asks m) (goes_at l w (WorkerStage.Taking m) (s.words (cell_of (take.asks m))))
  takes m f =
      let n : ℕ = s.words (cell_of (take.asks m)) in
      landing z a s (effect s.words (take.asks m)) (λ t. Keeps z a s t × buffer_facts.TakeComes z a t nothing (take.gives z.arena.layout m n) (take.goes z.arena.layout m n)) (λ t. Facts z a t (after_take w (take.goes z.arena.layout m n) (take.gives z.arena.layout m n)))
      (λ t v h. taken-then t (k.steps z a s t g v).good (take.goes z.arena.layout m n) (take.gives z.arena.layout m n) h.1)
      (k.buffers.takes.own_step z a s nothing m g objects f)

  -- so many words are scanned, and nothing but this buffer is in hand
  done : (t : Shared) (held : Option Held) (words : ℕ) → Hands a t (in_hand held NoClaim) → Facts z a t (done_with w held words)
  done t held words x = record {
    seat_is = seat_is;
    seat_in = seat_in;
    stage_is = by_work (StageFacts z a t held) (counted w.scan_work words) x x;
  }

  scanned-then : (t : Shared) (m : scan.Scanning) (n : ℕ) (out : Option ℕ) → scan.gives z.arena.layout m n ≡ out → scan_facts.Facts z a t nothing (scan.goes z.arena.layout m n) → Facts z a t (after_scan w (scan.goes z.arena.layout m n) out)
  scanned-then t m n out e f = grind arith

  scans : (m : scan.Scanning) → scan_facts.Facts z a s nothing m → Leads (scan.asks z.arena.layout m) (goes_at l w (WorkerStage.Scanning m) (s.words (cell_of (scan.asks z.arena.layout m))))
  scans m f =
      let n : ℕ = s.words (cell_of (scan.asks z.arena.layout m)) in
      landing z a s (effect s.words (scan.asks z.arena.layout m)) (λ t. Keeps z a s t × scan_facts.Facts z a t nothing (scan.goes z.arena.layout m n)) (λ t. Facts z a t (after_scan w (scan.goes z.arena.layout m n) (scan.gives z.arena.layout m n)))
      (λ t v h. scanned-then t m n (scan.gives z.arena.layout m n) refl h.1)
      (k.scan.keeps.own_step z a s nothing m g objects f)

  -- the cursor
  load-cursor : Hands a s (in_hand w.held NoClaim) → Leads (Load Cell.Gcur) (goes_at l w WorkerStage.LoadCursor (s.words Cell.Gcur))
  load-cursor x = by (ltb (s.words Cell.Gcur) l.globals) refl where
    first : (b : Bool) → s.passed a ≡ b → s.words Cell.Gcur < l.globals → s.passed a ≡ false
    first b e lt = grind arith

    by : (b : Bool) → ltb (s.words Cell.Gcur) l.globals ≡ b → Leads (Load Cell.Gcur) (at_stage w (cond b WorkerStage.Claim WorkerStage.LoadPhase))
    by true e = still Cell.Gcur (at_stage w WorkerStage.Claim) (same s w.held w.marks WorkerStage.Claim (first (s.passed a) refl (ltb-true _ _ e), x))
    by false e = still Cell.Gcur (at_stage w WorkerStage.LoadPhase) (same s w.held w.marks WorkerStage.LoadPhase x)

  claims : s.passed a ≡ false → Hands a s (in_hand w.held NoClaim) → Leads (Add Cell.Gcur 1) (goes_at l w WorkerStage.Claim (s.words Cell.Gcur))
  claims first x = by (ltb c l.globals) refl where
    c : ℕ
    c = s.words Cell.Gcur

    sum : put s.words Cell.Gcur (c + 1) ≡ effect s.words (Add Cell.Gcur 1)
    sum = ap (λ (n : ℕ). put s.words Cell.Gcur n) (sym (mod-eq_of_lt (k.small z s g)))

    by : (b : Bool) → ltb c l.globals ≡ b → Leads (Add Cell.Gcur 1) (at_stage w (cond b (WorkerStage.LoadGlobal c) WorkerStage.LoadPhase))
    by true e =
        let inside : c < l.globals = ltb-true _ _ e in
        lands_by z a s (effect s.words (Add Cell.Gcur 1)) (λ t. Facts z a t (at_stage w (WorkerStage.LoadGlobal c))) (ClaimGlobal c) (refl, inside) sum
        (same (moved z a s (ClaimGlobal c)) w.held w.marks (WorkerStage.LoadGlobal c) (inside, (k.follow z a s (in_hand w.held NoClaim) g x).claimed c (refl, inside) refl))
    by false e =
        let behind : l.globals ≤ c = ltb-false _ _ e in
        lands_by z a s (effect s.words (Add Cell.Gcur 1)) (λ t. Facts z a t (at_stage w WorkerStage.LoadPhase)) (PassGlobals c) (record { at = refl; behind = behind; seat = seat_in; first = first }) sum
        (same (moved z a s (PassGlobals c)) w.held w.marks WorkerStage.LoadPhase ((k.follow z a s (in_hand w.held NoClaim) g x).passed c))

  -- a global is read
  abbrev read : ℕ → Shared
  read i = moved z a s (ReadGlobal i)

  read-global : (i : ℕ) → Hands a s (in_hand w.held (ClaimOf i)) → Leads (Load (Cell.Global i)) (after_global l w (s.words (Cell.Global i)))
  read-global i x = landing_on z a s s.words (λ t. Hands a t (in_hand w.held (ReadOf i (seen_word s.extents.base v))) × (t ≡ moved z a s (ReadGlobal i))) (λ t. Facts z a t (after_global l w v))
      (λ t went h. subst (λ (u : Shared). Lands z a u u.words (λ t. Facts z a t (after_global l w v))) (sym h.1) (then (k.steps z a s (moved z a s (ReadGlobal i)) g (subst (Went z a s) h.1 went)).good))
      (lands_by z a s s.words (λ t. Hands a t (in_hand w.held (ReadOf i (seen_word s.extents.base v))) × (t ≡ moved z a s (ReadGlobal i))) (ReadGlobal i) ((x.has.is_claimed i).0 refl) refl (reads, refl)) where
        v : ℕ
        v = s.words (Cell.Global i)

        reads : Hands a (read i) (in_hand w.held (ReadOf i (seen_word s.extents.base v)))
        reads = (k.follow z a s (in_hand w.held (ClaimOf i)) g x).read i refl

        then : Good z (read i) → Lands z a (read i) (read i).words (λ u. Facts z a u (after_global l w v))
        then good = by (eqb v 0) refl where
          by : (b : Bool) → eqb v 0 ≡ b → Lands z a (read i) (read i).words (λ u. Facts z a u (cond b (done_with w w.held 1) (at_stage w (WorkerStage.Shading (shade.opening (reference_in l v) w.held)))))
          by true e = lands_by z a (read i) (read i).words (λ u. Facts z a u (done_with w w.held 1)) (ScanGlobal i (seen_word s.extents.base v)) ((reads.has.is_read i (seen_word s.extents.base v)).0 refl, λ o p. absurd (nil o (eqb-true _ _ e) p)) refl
              (done (moved z a (read i) (ScanGlobal i (seen_word s.extents.base v))) w.held 1 ((k.follow z a (read i) (in_hand w.held (ReadOf i (seen_word s.extents.base v))) good reads).scanned i (seen_word s.extents.base v) refl)) where
                nil : (o : ℕ) → v ≡ 0 → seen_word s.extents.base v ≡ o + 1 → ⊥
                nil o e p = let none : seen_word s.extents.base v ≡ 0 = ap (seen_word s.extents.base) e in omega (arith, none, p)
          by false e =
              let some : v ≢ 0 = λ n. absurd (cc (e, eq-eqb _ _ n)) in
              let is : v ≡ (v - 1) + 1 = omega arith in
              let known : s.since (s.extents.base (v - 1)) ≡ true = g.values.globals i (s.extents.base (v - 1)) (seen_some s.extents.base v (omega (arith, some))) in
              let whole : v - 1 ≡ s.extents.base (v - 1) = (objects (s.extents.base (v - 1)) known).base_is (v - 1) refl in
              let there : KnowsObject z.arena.layout.pages _ _ s.extents (v - 1) = objects (v - 1) (ap s.since whole ∙ known) in
              let within : v - 1 < 1024 * z.arena.layout.pages = omega (arith, there.within, there.some) in
              let reference : reference_in l v ≡ v = ap (λ (n : ℕ). n + 1) (mod-eq_of_lt within) ∙ sym is in
              let value : seen_word s.extents.base v ≡ seen_word s.extents.base (reference_in l v) = ap (seen_word s.extents.base) (sym reference) in
              lands_still z a (read i) (read i).words (λ u. Facts z a u (at_stage w (WorkerStage.Shading (shade.opening (reference_in l v) w.held)))) refl
              (same (read i) w.held w.marks (WorkerStage.Shading (shade.opening (reference_in l v) w.held)) (i, seen_word s.extents.base v, value, k.shade.begins z a (read i) (in_hand None (ReadOf i (seen_word s.extents.base v))) (reference_in l v) w.held (omega arith) (ap (λ (n : ℕ). s.since (s.extents.base (n - 1))) reference ∙ known) reads))

  leaves : Hands a s (in_hand w.held NoClaim) → Steps z a s (asks_at l w WorkerStage.Leave) (λ t. Facts z a t (goes_at l w WorkerStage.Leave (s.words (cell_of (asks_at l w WorkerStage.Leave)))))
  leaves x = lands_by z a s (effect s.words (asks_at l w WorkerStage.Leave)) (λ t. Facts z a t (at_stage w WorkerStage.Done)) (Quiet (asks_at l w WorkerStage.Leave)) tt refl
      (record { seat_is = seat_is; seat_in = seat_in; stage_is = (k.follow z a s (in_hand w.held NoClaim) g x).quiet (asks_at l w WorkerStage.Leave) tt })

  own-at : (p : WorkerStage) → sweep_at p ≡ None → StageFacts z a s w.held p → Steps z a s (asks_at l w p) (λ t. Facts z a t (goes_at l w p (s.words (cell_of (asks_at l w p)))))
  own-at WorkerStage.LoadPhase e x = load-phase x
  own-at WorkerStage.LoadPage e x = load-page x
  own-at (WorkerStage.Sweeping sw) e x = absurd cc
  own-at (WorkerStage.EarningAtStop m number) e x = earns-at-stop m number x
  own-at (WorkerStage.GiveBack m number) e x = gives m number x
  own-at (WorkerStage.Resuming r) e x =
      let n : ℕ = s.words (cell_of (resume.asks r)) in
      resumes r r.stage (goes_at l w (WorkerStage.Resuming r) n) x.0 (λ t h. resumed (resume.goes r n) (resume.gives r n) t x.1 h)
  own-at (WorkerStage.Taking m) e x = takes m x
  own-at (WorkerStage.Scanning m) e x = scans m x
  own-at (WorkerStage.Earning m) e x = earns m x
  own-at WorkerStage.LoadCursor e x = load-cursor x
  own-at WorkerStage.Claim e x = claims x.0 x.1
  own-at (WorkerStage.LoadGlobal i) e x = read-global i x.1
  own-at (WorkerStage.Shading sh) e x = shades k z a s g objects w seat_is seat_in sh x.0 x.1 x.2 x.3
  own-at (WorkerStage.FindRoom sh r) e x = finds k z a s g objects w seat_is seat_in sh r x.0 x.1 x.2
  own-at WorkerStage.Leave e x = leaves x
  own-at WorkerStage.Done e x = still Cell.Touch (at_stage w WorkerStage.Done) (record { seat_is = seat_is; seat_in = seat_in; stage_is = x })

stage-lasts : (k : Known) (z : Cycle) (a : ℕ) (s t : Shared) (held : Option Held) (p : WorkerStage) → Others z a s t → StageFacts z a s held p → StageFacts z a t held p
stage-lasts k z a s t held (WorkerStage.GiveBack m number) o x = k.buffers.gives.lasts z a s t nothing m o x
stage-lasts k z a s t held (WorkerStage.Resuming r) o x = (k.last z a s t nothing o x.0, x.1)
stage-lasts k z a s t held (WorkerStage.Taking m) o x = k.buffers.takes.lasts z a s t nothing m o x
stage-lasts k z a s t held (WorkerStage.Scanning m) o x = k.scan.keeps.lasts z a s t nothing m o x
stage-lasts k z a s t held WorkerStage.Claim o x = (o.passes ∙ x.0, k.last z a s t (in_hand held NoClaim) o x.1)
stage-lasts k z a s t held (WorkerStage.LoadGlobal i) o x = (x.0, k.last z a s t (in_hand held (ClaimOf i)) o x.1)
stage-lasts k z a s t held (WorkerStage.Shading sh) o x = (x.0, x.1, seen-lasts k z a s t sh (in_hand None (claim_at x.0 x.1 sh.stage)) x.1 o.keeps x.3 x.2, k.shade.keeps.lasts z a s t (in_hand None (claim_at x.0 x.1 sh.stage)) sh o x.3)
stage-lasts k z a s t held (WorkerStage.FindRoom sh r) o x = (x.0, k.shade.shaded z a s t (shade.object_of sh.reference) o.keeps x.1, k.buffers.finds.lasts z a s t (record nothing { pending = Some (shade.object_of sh.reference) }) r o x.2)
stage-lasts k z a s t held _ o x = k.last z a s t (in_hand held NoClaim) o x

module _ (z : Cycle) (a : ℕ) (s : Shared) (held : Option Held) where
  hand-scanned : (m : scan.Scanning) (p : ScanStage) → scan_facts.StageFacts z a s nothing m p → HasInHand a s (scan.held_at m.held p)
  hand-scanned m p x = grind arith

  hand-at : (p : WorkerStage) → StageFacts z a s held p → HasInHand a s (held_at held p)
  hand-at (WorkerStage.GiveBack g number) x = record { hand = _; has = x.hands; held_is = refl }
  hand-at (WorkerStage.Resuming r) x = record { hand = nothing; has = x.0; held_is = sym x.1 }
  hand-at (WorkerStage.Taking t) x = record { hand = _; has = x.hands; held_is = refl }
  hand-at (WorkerStage.Scanning m) x = hand-scanned m m.stage x.stage_is
  hand-at WorkerStage.Claim x = record { hand = _; has = x.1; held_is = refl }
  hand-at (WorkerStage.LoadGlobal i) x = record { hand = _; has = x.1; held_is = refl }
  hand-at (WorkerStage.Shading sh) x = record { hand = _; has = x.3.hands; held_is = refl }
  hand-at (WorkerStage.FindRoom sh r) x = record { hand = _; has = x.2.hands; held_is = refl }
  hand-at _ x = record { hand = _; has = x; held_is = refl }

pub works-by-moves : Known → WorksByMoves
works-by-moves k = record {
  begins = λ z a s seat x. record { seat_is = refl; seat_in = seat; stage_is = x };
  own_step = λ z a s w g objects e f. own-at k z a s g objects w f.seat_is f.seat_in w.stage e f.stage_is;
  holds = λ z a s w f. hand-at z a s w.held w.stage f.stage_is;
  lasts = λ z a s t w o f. record { seat_is = f.seat_is; seat_in = f.seat_in; stage_is = stage-lasts k z a s t w.held w.stage o f.stage_is };
}
