-- Where the coordinator ends a cycle's marking it has found, in a stopped world, that nothing is left to mark: said by the words, whatever it is told.
use Rattle.std.specs.Prelude.{◌≡◌, ◌≢◌, ℕ, ◌+◌, ◌<◌, ◌≤◌, ◌⊎◌}
use Rattle.gh_coord.specs.Vocabulary.{Ack, Ask, Bank, Buffer, buffer_of, buffers_of, BufferWord, Cell, Gcur, Gen, GONE, Layout, Load, phase_word, Scanned, steps_of, Store, told}
use Rattle.gh_base.specs.declared.cell.Cell.TheVariants.{Phase}
use Rattle.gh_base.specs.declared.pack.Phase.TheVariants as phase
use Rattle.gh_coord.specs.Listing.{asks, Coordinating, opening}
use Rattle.gh_coord.specs.Sound.{listing}

-- the step writes no word but the bank of credit
abbrev pub LeavesMarks : Ask → Type 0
LeavesMarks (Load at) = Unit {0}
LeavesMarks (Store Bank v) = Unit {0}
LeavesMarks _ = ⊥

-- nothing is left to whoever takes the buffer: somebody holds it, or it has no entry
abbrev pub HasNothingLeft : BufferWord → Type 0
HasNothingLeft b = (b.holder ≢ 0) ⊎ (b.count ≡ 0)

module _ (l : Layout) (seat gogc minheap room : ℕ) (found : ℕ → ℕ) where
  -- after n steps
  abbrev pub state : ℕ → Coordinating
  state n = told (steps_of l (listing l)) (opening l seat gogc minheap room) found n

  -- from the one step on, and before the other, it has loaded this word, and what it found is so
  pub record Finds (first last : ℕ) (at : Cell) (IsSo : ℕ → Type 0) : Type 0 where
    pub by : ℕ
    pub is_behind : first ≤ by
    pub is_before : by < last
    pub loads : asks l (state by) ≡ Load at
    pub is_so : IsSo (found by)

  pub record NothingIsLeft (n : ℕ) : Type 0 where
    -- the step that told the world to stop, the last that did, and the one by which all were found to have acknowledged it, or to be gone
    pub stop : ℕ
    pub stopped : ℕ
    pub is_before : stop < n
    pub stops : asks l (state stop) ≡ Store Phase (phase_word (record { stops = (state n).stops; phase = phase.Stop }))
    pub acknowledged : (i : ℕ) → i < l.procs + l.workers → Finds stop stopped (Ack i) (λ v. (v ≡ (state n).stops) ⊎ (v ≡ GONE))
    -- behind that the cursor is past the globals, each stack is scanned in this cycle or has ended, and no buffer has anything left
    pub globals : Finds stopped n Gcur (λ v. l.globals ≤ v)
    pub stacks : (g : ℕ) → g < l.goroutines → Finds stopped n (Scanned g) (λ v. (state n).begun ≤ v)
    pub buffers : (i : ℕ) → i < buffers_of l → Finds stopped n (Buffer i) (λ v. HasNothingLeft (buffer_of v))
    pub leaves : (m : ℕ) → stop < m → m < n → LeavesMarks (asks l (state m))

-- the step that ends marking stores the next sweep generation
abbrev pub EndsWithNothingLeft : Type 0
EndsWithNothingLeft = (l : Layout) (seat gogc minheap room : ℕ) (found : ℕ → ℕ) (n generation : ℕ) →
    asks l (state l seat gogc minheap room found n) ≡ Store Gen generation → NothingIsLeft l seat gogc minheap room found n
