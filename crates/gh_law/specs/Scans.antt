-- That a stack is scanned at most once in a cycle, in every legal list of steps of all actors, and where that is.
use Rattle.std.specs.Prelude.{◌≡◌, ◌≢◌, ℕ, ◌%◌, List, ◌∷◌}
use Rattle.gh_law.specs.Vocabulary.{arena_of, Cell, Coordinating, END, Entry, first_words, IsLedBy, IsStartOf, Op, Setup, Store, words_after}
use Rattle.gh_coord.specs.Handshake as leading

-- With this entry the stack of goroutine g is scanned in cycle k: the cycle's number is stored into the stack's word. (What is stored where a goroutine ends is the number of no cycle.)
abbrev pub ScansIn : (k g : ℕ) → Entry Op → Type 0
ScansIn k g e = (e.ask ≡ Store (Cell.Scanned g) k) × (k ≢ END)

module _ (setup : Setup) where
  -- Of every start of the list whose newest entry scans a stack.
  pub record ScansOnce (es : List (Entry Op)) : Type 0 where
    -- the cycle is the one that has begun last
    pub of_cycle : (e : Entry Op) (before : List (Entry Op)) (k g : ℕ) → IsStartOf (e ∷ before) es → ScansIn k g e → words_after (first_words setup) before Cell.Begun ≡ k
    -- which is marked then
    pub marked : (e : Entry Op) (before : List (Entry Op)) (k g : ℕ) → IsStartOf (e ∷ before) es → ScansIn k g e → (c : Coordinating) → IsLedBy (arena_of setup.shapes setup.layout) setup.pacing setup.may before c → leading.Marks c.stage
    -- the goroutine's own processor scans
    pub its_own : (e : Entry Op) (before : List (Entry Op)) (k g : ℕ) → IsStartOf (e ∷ before) es → ScansIn k g e → e.actor ≡ g % setup.layout.procs
    -- no two entries scan one stack in one cycle
    pub once : (e f : Entry Op) (before earlier : List (Entry Op)) (k g : ℕ) → IsStartOf (e ∷ before) es → IsStartOf (f ∷ earlier) before → ScansIn k g e → ScansIn k g f → ⊥
