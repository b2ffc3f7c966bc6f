-- While marking is on an assist's steps are moves that its seat may make. Of the moves and of its routines it is known what their laws say.
use Rattle.std.proofs.Common.{◌≡◌, ℕ, false, Option, refl, arith}
use Rattle.gh_assist.proofs.Vocabulary.{Assisting, AssistStage, Held}
use Rattle.gh_base.specs.declared.cell.Ask.{Ask}
use Rattle.gh_base.specs.declared.cell.Ask.TheVariants.{Load}
use Rattle.gh_base.specs.declared.cell.Cell.{Cell}
use Rattle.gh_base.specs.Steps.{cell_of, effect}
use Rattle.gh_credit.specs.declared.draw.DrawStage.{DrawStage}
use Rattle.gh_credit.specs.Drawing as draw
use Rattle.gh_marks.specs.Colours.{Cycle, Shared}
use Rattle.gh_marks.specs.Good.{Good}
use Rattle.gh_marks.specs.Knows.{KnowsObjects}
use Rattle.gh_marks.specs.Laws.{EachHandFollows, EachHandLasts, EachOwnMoveLeaves, EachStepGoesByMoves, WhatIsKeptGoesOn}
use Rattle.gh_marks.specs.Moves.{IsQuietInMarking, Keeps, landing, lands_by, lands_still, moved, Others, Quiet, Steps}
use Rattle.gh_marks.specs.Seats.{Hands, nothing}
use Rattle.gh_scan.specs.Facts as scan_facts
use Rattle.gh_scan.specs.Listing as scan
use Rattle.gh_wbuf.specs.EntryTaking as take
use Rattle.gh_wbuf.specs.Facts as buffer_facts
use Rattle.gh_wbuf.specs.Facts.{holding}
use Rattle.gh_assist.specs.Facts.{AssistsByMoves, Facts, StageFacts}
use Rattle.gh_assist.specs.Listing as assist
use Rattle.gh_assist.proofs.Choices.{by_owes}

pub record Known : Type 0 where
  pub last : EachHandLasts
  pub follow : EachHandFollows
  pub leave : EachOwnMoveLeaves
  pub go_on : WhatIsKeptGoesOn
  pub steps : EachStepGoesByMoves
  pub buffers : buffer_facts.BuffersPassByMoves
  pub scan : scan_facts.ScansByMoves

module _ (k : Known) (z : Cycle) (a : ℕ) where
  -- where it goes on with its buffer alone in hand
  module _ (t : Shared) (x : Assisting) (seat_is : x.seat ≡ a) (h : Hands a t (holding nothing x.held)) where
    at_stage : (stage : AssistStage) → StageFacts z a t x.held stage → Facts z a t (assist.at_stage x stage)
    at_stage stage f = record { seat_is = seat_is; stage_is = f }

    owes : Facts z a t (assist.draws_if_owed x)
    owes = by_owes (Facts z a t) x (λ e. at_stage AssistStage.Ended h) (at_stage (AssistStage.Drawing (draw.opening x.owed)) h)

  module _ (s : Shared) (good : Good z s) (objects : KnowsObjects z s) where
    abbrev Leads : Ask → Assisting → Type 0
    Leads ask n = Steps z a s ask (λ t. Keeps z a s t × Facts z a t n)

    -- it lands where it is, with the facts of the next stage
    still : (c : Cell) (n : Assisting) → Facts z a s n → Leads (Load c) n
    still c n f = lands_still z a s s.words (λ t. Keeps z a s t × Facts z a t n) refl ((k.go_on z a).stays s, f)

    -- a step that marking does not read
    quiet_step : (held : Option Held) (step : Ask) (n : Assisting) → IsQuietInMarking s step → Hands a s (holding nothing held) → ((t : Shared) → Hands a t (holding nothing held) → Facts z a t n) → Leads step n
    quiet_step held step n may h f = lands_by z a s (effect s.words step) (λ t. Keeps z a s t × Facts z a t n) (Quiet step) may refl
        (k.leave z a s (Quiet step) good may tt, f (moved z a s (Quiet step)) ((k.follow z a s (holding nothing held) good h).quiet step may))

    module _ (x : Assisting) (seat_is : x.seat ≡ a) where
      -- it draws on the bank
      bank_is_aside : (d : draw.Drawing) (p : DrawStage) → IsQuietInMarking s (draw.asks_at d p)
      bank_is_aside d p = grind arith

      drawn_then : (t : Shared) (d : draw.Drawing) (out : Option ℕ) → Hands a t (holding nothing x.held) → Facts z a t (assist.after_draw x d out)
      drawn_then t d out h = grind arith

      draws : (d : draw.Drawing) → Hands a s (holding nothing x.held) → Leads (draw.asks d) (assist.goes_at z.arena.layout x (AssistStage.Drawing d) (s.words (cell_of (draw.asks d))))
      draws d h =
          let n : ℕ = s.words (cell_of (draw.asks d)) in
          quiet_step x.held (draw.asks d) (assist.after_draw x (draw.goes d n) (draw.gives d n)) (bank_is_aside d d.stage) h (λ t h. drawn_then t (draw.goes d n) (draw.gives d n) h)

      -- it takes an object
      taken_then : (t : Shared) → Good z t → (m : take.EntryTaking) (out : Option (Option ℕ)) → buffer_facts.TakeComes z a t nothing out m → Facts z a t (assist.after_take x m out)
      taken_then t well m out f = grind arith

      takes : (m : take.EntryTaking) → buffer_facts.TakeFacts z a s nothing m → Leads (take.asks m) (assist.goes_at z.arena.layout x (AssistStage.Taking m) (s.words (cell_of (take.asks m))))
      takes m f =
          let n : ℕ = s.words (cell_of (take.asks m)) in
          landing z a s (effect s.words (take.asks m)) (λ t. Keeps z a s t × buffer_facts.TakeComes z a t nothing (take.gives z.arena.layout m n) (take.goes z.arena.layout m n)) (λ t. Keeps z a s t × Facts z a t (assist.after_take x (take.goes z.arena.layout m n) (take.gives z.arena.layout m n)))
          (λ t went h. (h.0, taken_then t (k.steps z a s t good went).good (take.goes z.arena.layout m n) (take.gives z.arena.layout m n) h.1))
          (k.buffers.takes.own_step z a s nothing m good objects f)

      scanned_then : (t : Shared) (m : scan.Scanning) (n : ℕ) (out : Option ℕ) → scan.gives z.arena.layout m n ≡ out → scan_facts.Facts z a t nothing (scan.goes z.arena.layout m n) → Facts z a t (assist.after_scan x (scan.goes z.arena.layout m n) out)
      scanned_then t m n out e f = grind arith

      scans : (m : scan.Scanning) → scan_facts.Facts z a s nothing m → Leads (scan.asks z.arena.layout m) (assist.goes_at z.arena.layout x (AssistStage.Scanning m) (s.words (cell_of (scan.asks z.arena.layout m))))
      scans m f =
          let n : ℕ = s.words (cell_of (scan.asks z.arena.layout m)) in
          landing z a s (effect s.words (scan.asks z.arena.layout m)) (λ t. Keeps z a s t × scan_facts.Facts z a t nothing (scan.goes z.arena.layout m n)) (λ t. Keeps z a s t × Facts z a t (assist.after_scan x (scan.goes z.arena.layout m n) (scan.gives z.arena.layout m n)))
          (λ t went h. (h.0, scanned_then t m n (scan.gives z.arena.layout m n) refl h.1))
          (k.scan.keeps.own_step z a s nothing m good objects f)

      own_at : (p : AssistStage) → StageFacts z a s x.held p → Leads (assist.asks_at z.arena.layout p) (assist.goes_at z.arena.layout x p (s.words (cell_of (assist.asks_at z.arena.layout p))))
      own_at AssistStage.LoadWork h = still Cell.Work (assist.at_stage x (AssistStage.LoadSlack (assist.work_in (s.words Cell.Work)))) (record { seat_is = seat_is; stage_is = h })
      own_at (AssistStage.LoadSlack work) h = still Cell.Slack (assist.with_debt x work (s.words Cell.Slack)) (owes s (assist.owing x work (s.words Cell.Slack)) seat_is h)
      own_at (AssistStage.Drawing d) h = draws d h
      own_at (AssistStage.Taking m) f = takes m f
      own_at (AssistStage.Scanning m) f = scans m f.1
      own_at AssistStage.Ended h = still Cell.Touch (assist.at_stage x AssistStage.Ended) (record { seat_is = seat_is; stage_is = h })

  stage_lasts : (s t : Shared) (held : Option Held) (p : AssistStage) → Others z a s t → StageFacts z a s held p → StageFacts z a t held p
  stage_lasts s t held (AssistStage.Taking m) o f = k.buffers.takes.lasts z a s t nothing m o f
  stage_lasts s t held (AssistStage.Scanning m) o f = (f.0, k.scan.keeps.lasts z a s t nothing m o f.1)
  stage_lasts s t held _ o h = k.last z a s t (holding nothing held) o h

  ends_at : (s : Shared) (held : Option Held) (p : AssistStage) → assist.is_busy p ≡ false → StageFacts z a s held p → Hands a s (holding nothing held)
  ends_at s held p e h = grind arith

pub assists_by_moves : Known → AssistsByMoves
assists_by_moves k = record {
  begins = λ z a s held bytes owed spent h. record { seat_is = refl; stage_is = h };
  own_step = λ z a s x good objects f. own_at k z a s good objects x f.seat_is x.stage f.stage_is;
  lasts = λ z a s t x o f. record { seat_is = f.seat_is; stage_is = stage_lasts k z a s t x.held x.stage o f.stage_is };
  ends = λ z a s x e f. ends_at k z a s x.held x.stage e f.stage_is;
}
