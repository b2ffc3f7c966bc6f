-- What the heap and marking are to each other while a cycle is marked: of registers.
use Rattle.std.specs.Prelude.{◌≡◌, ℕ, ◌<◌, false}
use Rattle.gh_cycle.specs.Vocabulary.{Arena, Heap, Marking, REGISTERS}
use Rattle.gh_cycle.specs.Opening.{RegistersAre, reference_of}

-- the registers of goroutines that go on are as marking has them
abbrev pub RegistersFit : Arena → Heap → Marking → Type 0
RegistersFit z h s = (g d : ℕ) → g < z.layout.goroutines → d < REGISTERS → h.ever.ended g ≡ false → s.registers g d ≡ reference_of h.place (h.ever.register g d)

abbrev pub OpenedRegistersFit : Type 0
OpenedRegistersFit = (z : Arena) (h : Heap) (s : Marking) → RegistersAre h s → RegistersFit z h s
