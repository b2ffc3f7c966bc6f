-- The words of the stacks, and workers at rest, over every legal list of all actors.
use Rattle.std.specs.Prelude.{◌≡◌, ℕ, ◌≤◌, ◌⊎◌, List, ◌∷◌}
use Rattle.gh_lists.specs.Vocabulary.{acks_of, Actor, Cell, Coordinating, END, Entry, IsCalm, Legal, Op, Setting, state_of, Words, words_after}
use Rattle.gh_coord.specs.Handshake as leading
use Rattle.gh_worker.specs.Listing.{Working}
use Rattle.gh_lists.specs.Handshake.{those, Setup}
use Rattle.gh_lists.specs.Numbers.{IsFew}

-- each stack's goroutine has ended, or its number is that of a cycle that has begun
abbrev pub StacksAreNumbered : Words → Type 0
StacksAreNumbered words = (g : ℕ) → (words (Cell.Scanned g) ≡ END) ⊎ (words (Cell.Scanned g) ≤ words Cell.Begun)

-- A step leaves a stack's word, or writes the number of an end, or that of the cycle that has begun last.
abbrev pub StackGoes : (before after : Words) (g : ℕ) → Type 0
StackGoes before after g = (after (Cell.Scanned g) ≡ before (Cell.Scanned g)) ⊎ ((after (Cell.Scanned g) ≡ END) ⊎ (after (Cell.Scanned g) ≡ before Cell.Begun))

-- while no cycle is marked, workers are at rest
abbrev pub WorkersRest : Setting Actor Op → List (Entry Op) → Type 0
WorkersRest s es = (c : Coordinating) (a : ℕ) (w : Working) → state_of s.kind (acks_of s.layout) es ≡ Actor.Leads c → (leading.Marks c.stage → ⊥) → state_of s.kind a es ≡ Actor.Marks w → IsCalm w

abbrev pub EveryListNumbersStacks : Type 0
EveryListNumbersStacks = (setup : Setup) (es : List (Entry Op)) →
    Legal (those setup) es → IsFew es → StacksAreNumbered (words_after (those setup).opening es)

abbrev pub EveryStepNumbersStacks : Type 0
EveryStepNumbersStacks = (setup : Setup) (e : Entry Op) (es : List (Entry Op)) →
    Legal (those setup) (e ∷ es) → IsFew (e ∷ es) → (g : ℕ) → StackGoes (words_after (those setup).opening es) (words_after (those setup).opening (e ∷ es)) g

abbrev pub EveryListRestsWorkers : Type 0
EveryListRestsWorkers = (setup : Setup) (es : List (Entry Op)) → Legal (those setup) es → WorkersRest (those setup) es
