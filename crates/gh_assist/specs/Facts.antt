-- What is known of an assist at each stage while marking is on: it has in hand what its routine has, and nothing else; between two of them its buffer alone.
use Rattle.std.specs.Prelude.{◌≡◌, ℕ, false, true, Option}
use Rattle.gh_assist.specs.Vocabulary.{AssistStage, cell_of, Held, Scanning, Taking}
use Rattle.gh_assist.specs.Listing.{asks, Assisting, goes, is_busy, opening}
use Rattle.gh_marks.specs.Colours.{Cycle, Shared}
use Rattle.gh_marks.specs.Good.{Good}
use Rattle.gh_marks.specs.Knows.{KnowsObjects}
use Rattle.gh_marks.specs.Moves.{Keeps, Others, Steps}
use Rattle.gh_marks.specs.Seats.{Hands, nothing}
use Rattle.gh_scan.specs.Facts as scan_facts
use Rattle.gh_scan.specs.Listing as scan
use Rattle.gh_wbuf.specs.Facts as buffer_facts
use Rattle.gh_wbuf.specs.Facts.{holding}

abbrev pub StageFacts : Cycle → (a : ℕ) → Shared → Option Held → AssistStage → Type 0
StageFacts z a s held (Taking t) = buffer_facts.TakeFacts z a s nothing t
StageFacts z a s held (Scanning m) = (scan.is_busy m.stage ≡ true) × scan_facts.Facts z a s nothing m
StageFacts z a s held _ = Hands a s (holding nothing held)

-- it is this seat's
pub record Facts (z : Cycle) (a : ℕ) (s : Shared) (x : Assisting) : Type 0 where
  pub seat_is : x.seat ≡ a
  pub stage_is : StageFacts z a s x.held x.stage

pub record AssistsByMoves : Type 0 where
  -- it begins with the buffer that its seat holds
  pub begins : (z : Cycle) (a : ℕ) (s : Shared) (held : Option Held) (bytes owed spent : ℕ) → Hands a s (holding nothing held) → Facts z a s (opening a held bytes owed spent)
  -- a step of its own is made of moves that its seat may make, leaves all that its caller knows, and the facts of the next stage hold then
  pub own_step : (z : Cycle) (a : ℕ) (s : Shared) (x : Assisting) → Good z s → KnowsObjects z s → Facts z a s x → Steps z a s (asks z.arena.layout x) (λ t. Keeps z a s t × Facts z a t (goes z.arena.layout x (s.words (cell_of (asks z.arena.layout x)))))
  pub lasts : (z : Cycle) (a : ℕ) (s t : Shared) (x : Assisting) → Others z a s t → Facts z a s x → Facts z a t x
  -- where it has ended its seat has its buffer in hand, and nothing else
  pub ends : (z : Cycle) (a : ℕ) (s : Shared) (x : Assisting) → is_busy x.stage ≡ false → Facts z a s x → Hands a s (holding nothing x.held)
