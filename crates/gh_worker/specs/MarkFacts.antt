-- What is known of a worker at each stage while marking is on, and what each step of its own is then. At each stage it has in hand what the stage says and nothing else, so at a stop, with its buffer given back, it has nothing.
use Rattle.std.specs.Prelude.{◌≡◌, ℕ, ◌<◌, ◌≤◌, false, Option, Some, None}
use Rattle.gh_worker.specs.Vocabulary.{cell_of, ClaimOf, Cycle, Hands, Held, InHand, NoClaim, nothing, ReadOf, seats_of, Shared, WorkerStage}
use Rattle.gh_marks.specs.Colours.{seen_word}
use Rattle.gh_marks.specs.Good.{Good}
use Rattle.gh_marks.specs.Knows.{KnowsObjects}
use Rattle.gh_marks.specs.Moves.{Others, Steps}
use Rattle.gh_marks.specs.Seats.{Claim}
use Rattle.gh_scan.specs.Facts as scan_facts
use Rattle.gh_shade.specs.declared.shade.ShadeStage.{ShadeStage}
use Rattle.gh_shade.specs.Facts as shade_facts
use Rattle.gh_shade.specs.Listing as shade
use Rattle.gh_wbuf.specs.Facts as buffer_facts
use Rattle.gh_worker.specs.Listing.{Working, asks, goes, held_at, opening, sweep_in}

-- What it has in hand: a buffer, and a global.
abbrev pub in_hand : Option Held → Claim → InHand
in_hand held claim = record nothing { held = held; claim = claim }

-- a global is the worker's until what is seen of its value is marked
abbrev pub claim_at : (i value : ℕ) → ShadeStage → Claim
claim_at i value ShadeStage.LoadPage = ReadOf i value
claim_at i value (ShadeStage.SetMark noscan) = ReadOf i value
claim_at i value ShadeStage.WaitForRoom = NoClaim
claim_at i value ShadeStage.Enter = NoClaim
claim_at i value ShadeStage.Ended = NoClaim

-- what is known at each stage: at most of them no more than what it has in hand
abbrev pub StageFacts : Cycle → (a : ℕ) → Shared → Option Held → WorkerStage → Type 0
StageFacts z a s held (WorkerStage.GiveBack g stops) = buffer_facts.GiveFacts z a s nothing g
StageFacts z a s held (WorkerStage.Resuming r) = Hands a s nothing × (held ≡ None)
StageFacts z a s held (WorkerStage.Taking t) = buffer_facts.TakeFacts z a s nothing t
StageFacts z a s held (WorkerStage.Scanning m) = scan_facts.Facts z a s nothing m
StageFacts z a s held WorkerStage.Claim = (s.passed a ≡ false) × Hands a s (in_hand held NoClaim)
StageFacts z a s held (WorkerStage.LoadGlobal i) = (i < z.arena.layout.globals) × Hands a s (in_hand held (ClaimOf i))
StageFacts z a s held (WorkerStage.Shading sh) = (i : ℕ) × (value : ℕ) × (value ≡ seen_word s.extents.base sh.reference) × shade_facts.Facts z a s (in_hand None (claim_at i value sh.stage)) sh
StageFacts z a s held (WorkerStage.FindRoom sh r) = (1 ≤ sh.reference) × shade_facts.HasBoth s (shade.object_of sh.reference) × buffer_facts.RoomFacts z a s (record nothing { pending = Some (shade.object_of sh.reference) }) r
StageFacts z a s held _ = Hands a s (in_hand held NoClaim)

pub record Facts (z : Cycle) (a : ℕ) (s : Shared) (w : Working) : Type 0 where
  pub seat_is : w.seat ≡ a
  pub seat_in : a < seats_of z.arena.layout
  pub stage_is : StageFacts z a s w.held w.stage

-- it has something in hand, and that is this buffer, if any
pub record HasInHand (a : ℕ) (s : Shared) (held : Option Held) : Type 0 where
  pub hand : InHand
  pub has : Hands a s hand
  pub held_is : hand.held ≡ held

pub record WorksByMoves : Type 0 where
  pub begins : (z : Cycle) (a : ℕ) (s : Shared) → a < seats_of z.arena.layout → Hands a s nothing → Facts z a s (opening a)
  -- none sweeps while marking is on
  pub own_step : (z : Cycle) (a : ℕ) (s : Shared) (w : Working) → Good z s → KnowsObjects z s → sweep_in w ≡ None → Facts z a s w → Steps z a s (asks z.arena.layout w) (λ t. Facts z a t (goes z.arena.layout w (s.words (cell_of (asks z.arena.layout w)))))
  pub lasts : (z : Cycle) (a : ℕ) (s t : Shared) (w : Working) → Others z a s t → Facts z a s w → Facts z a t w
  -- the buffer that it has in hand is the one that it holds
  pub holds : (z : Cycle) (a : ℕ) (s : Shared) (w : Working) → Facts z a s w → HasInHand a s (held_at w.held w.stage)
