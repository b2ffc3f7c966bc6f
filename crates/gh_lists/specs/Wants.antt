-- The requests for cycles over every legal list: as many cycles are opened as are asked for, and the last; and how few these are.
use Rattle.std.specs.Prelude.{◌≡◌, ℕ, zero, suc, ◌+◌, ◌*◌, ◌≤◌, ◌<◌, ◌⊎◌, Bool, true, false, List, Some}
use Rattle.gh_lists.specs.Vocabulary.{acks_of, Actor, Arena, bit, Cell, ClearWant, Coordinating, CoordStage, Entry, Layout, Legal, LoadAck, LoadWant, MOST_STATEMENTS, Op, Open, Processor, Setting, state_of, Stop, words_after}
use Rattle.gh_lists.specs.Handshake.{those, Setup}
use Rattle.gh_lists.specs.Numbers.{asked_in, IsFew, opened_in}
use Rattle.gh_lists.specs.Processors.{asked_by, asks_collector, may_begin as may_begin_at}
use Rattle.gh_coord.specs.declared.open.OpenStage.{OpenStage}

-- it looks whether a cycle is to be opened
abbrev pub IsIdle : CoordStage → Type 0
IsIdle (LoadAck i) = Unit {0}
IsIdle LoadWant = Unit {0}
IsIdle _ = ⊥

-- it stops the world for a cycle, up to the store that clears the request
abbrev pub IsToOpen : CoordStage → Type 0
IsToOpen (Stop st) = Unit {0}
IsToOpen (Open o) = o.stage ≡ ClearWant
IsToOpen _ = ⊥

-- the last cycle is opened, which nobody has to ask for: 1, or 0
abbrev pub opened_last : (is_last : Bool) → OpenStage → ℕ
opened_last is_last ClearWant = 0
opened_last is_last _ = bit is_last

abbrev pub last_at : (is_last : Bool) → CoordStage → ℕ
last_at is_last (LoadAck i) = 0
last_at is_last LoadWant = 0
last_at is_last (Stop st) = 0
last_at is_last (Open o) = opened_last is_last o.stage
last_at is_last _ = bit is_last

-- What every legal list keeps.
pub record CountsWants (s : Setting Actor Op) (es : List (Entry Op)) (c : Coordinating) : Type 0 where
  pub word : words_after s.opening es Cell.Want ≤ 1
  -- each cycle was asked for, but the last; and so is the one that the word asks for now
  pub enough : opened_in es + words_after s.opening es Cell.Want ≤ asked_in es + last_at c.is_last c.stage
  pub idle : IsIdle c.stage → c.is_last ≡ false
  pub wanted : IsToOpen c.stage → (c.is_last ≡ true) ⊎ (words_after s.opening es Cell.Want ≡ 1)

abbrev pub EveryListCountsWants : Type 0
EveryListCountsWants = (setup : Setup) (es : List (Entry Op)) (c : Coordinating) →
    Legal (those setup) es → state_of (those setup).kind (acks_of setup.layout) es ≡ Actor.Leads c → CountsWants (those setup) es c

-- How few cycles there are.

-- the sum of the first n
abbrev pub total : (ℕ → ℕ) → (n : ℕ) → ℕ
total f zero = 0
total f (suc n) = total f n + f n

-- a goroutine that may begin a `new` or a `gc` is of this seat, and has more of them than have begun
pub record MayAsk (seat_of counts : ℕ → ℕ) (goroutines a : ℕ) (es : List (Entry Op)) (g : ℕ) : Type 0 where
  pub there : g < goroutines
  pub of : seat_of g ≡ a
  pub more : asked_by g es < counts g

-- which operations may begin
pub record BeginsFew (l : Layout) (may_begin : ℕ → List (Entry Op) → Op → Bool) (seat_of counts : ℕ → ℕ) : Type 0 where
  pub few : (a : ℕ) (es : List (Entry Op)) (o : Op) (g : ℕ) → may_begin a es o ≡ true → asks_collector g (Some o) ≡ true → MayAsk seat_of counts l.goroutines a es g
  -- and how many of those there are
  pub counts_fit : total counts l.goroutines ≤ MOST_STATEMENTS

-- Each statement that may ask for a cycle asks for two at the most: a `new` where its first search found nothing, and where it saw the trigger reached. So no more cycles are opened than twice as many, and the last.
pub record AreFew (counts : ℕ → ℕ) (l : Layout) (es : List (Entry Op)) : Type 0 where
  pub asked : asked_in es ≤ 2 * total counts l.goroutines
  pub opened : opened_in es ≤ 2 * total counts l.goroutines + 1
  pub few : IsFew es

abbrev pub CyclesAreFew : Type 0
CyclesAreFew = (setup : Setup) (seat_of counts : ℕ → ℕ) → BeginsFew setup.layout setup.may seat_of counts →
    (es : List (Entry Op)) → Legal (those setup) es → AreFew counts setup.layout es

-- so it is where a goroutine has its count of statements
abbrev pub ProcessorsBeginFew : Type 0
ProcessorsBeginFew = (z : Arena) (counts : ℕ → ℕ) (at : ℕ → List (Entry Op) → Processor) → total counts z.layout.goroutines ≤ MOST_STATEMENTS → BeginsFew z.layout (λ a es o. may_begin_at z counts a (at a es) es o) z.seat_of counts
