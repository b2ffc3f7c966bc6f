-- The moves by which an actor changes the shared state of marking, when it may make them, and what they leave to the others.
use Rattle.std.proofs.Common.{ap, arith, eq-eqb, eqb, eqb-true, refl, sym, ◌∙◌, ◌≡◌, ◌≢◌, ℕ, ◌+◌, ◌*◌, ◌-◌, ◌/◌, ◌%◌, ◌^◌, ◌<◌, ◌≤◌, ◌⊎◌, ◌↔◌, Bool, true, false, bit_or}
use Rattle.gh_marks.specs.Vocabulary.{alloc_words, Ask, buffer_word, Cell, cell_of, effect, END, ENTRIES, holder_in, IsOf, mark_words, put, REGISTERS, Row, row_bit, seats_of, Words}
use Rattle.gh_heap.specs.Moves.{update, update_at}
use Rattle.gh_marks.specs.Colours.{Black, Buffered, Claimed, Cycle, Extents, HasMark, IsClean, IsMarked, IsPointer, IsSince, Pending, Placing, Read, Scanned, seen_field, seen_global, seen_word, Shared, Taken, White}

-- A change of the shared state by a step, words and ghosts together. A step is one move or two.
pub data Move : Type 0 where
  -- a step that changes no word which marking reads
  Quiet : (step : Ask) → Move
  -- A mark bit is set. It was clear, and the object is pending then, or black at once where it has no pointer fields; or it was set before.
  Shade : (o : ℕ) → Move
  ShadeFlat : (o : ℕ) → Move
  ShadeAgain : (o : ℕ) → Move
  -- a buffer that nobody holds is taken, and one is given back with its count
  TakeBuffer : (b : ℕ) → Move
  GiveBuffer : (b : ℕ) → Move
  -- the pending object becomes the last entry of the held buffer, and its last entry is taken out to be scanned
  Enter : (b o : ℕ) → Move
  TakeEntry : (b o : ℕ) → Move
  -- all pointer fields of the taken object are scanned
  Blacken : (o : ℕ) → Move
  -- a heap word, or a global, takes a value behind the write barrier
  PutField : (x value : ℕ) → Move
  PutGlobal : (i value : ℕ) → Move
  -- the cursor is raised: past a global, or past the last one; a claimed global is read, and what was read there is shaded
  ClaimGlobal : (i : ℕ) → Move
  PassGlobals : (i : ℕ) → Move
  ReadGlobal : (i : ℕ) → Move
  ScanGlobal : (i value : ℕ) → Move
  -- a register takes a value; a stack is scanned; a goroutine ends
  SetRegister : (g d value : ℕ) → Move
  ScanStack : (g : ℕ) → Move
  EndStack : (g : ℕ) → Move
  -- A new object: its mark bit is set while its slot is empty, and then its alloc bit, with its words as these say; and register d of goroutine g names it.
  Reserve : (o : ℕ) → Move
  Place : (o size : ℕ) → (pointer : ℕ → Bool) → (noscan : Bool) → (g d : ℕ) → Move

-- Rows that marking does not read. A heap word may change in a step of this kind where it is no pointer field of an object that is known: in a slot that is being cleared, and where a field holds a number.
abbrev pub IsAside : Shared → Cell → Type 0
IsAside s (Cell.Mark i) = ⊥
IsAside s (Cell.Alloc i) = ⊥
IsAside s (Cell.Field x) = (o k : ℕ) → s.known o ≡ true → IsPointer s.extents o k → x ≢ o + k
IsAside s (Cell.Global i) = ⊥
IsAside s Cell.Gcur = ⊥
IsAside s (Cell.Buffer b) = ⊥
IsAside s (Cell.Entry b j) = ⊥
IsAside s (Cell.Scanned g) = ⊥
IsAside s _ = Unit {0}

abbrev pub IsQuietInMarking : Shared → Ask → Type 0
IsQuietInMarking s (Ask.Load c) = Unit {0}
IsQuietInMarking s step = IsAside s (cell_of step)

-- the bit of heap word o in its word of a row
abbrev pub with_bit : (word o : ℕ) → ℕ
with_bit word o = bit_or word (2 ^ (o % 64))

abbrev pub set_mark : Words → (o : ℕ) → Words
set_mark words o = put words (Cell.Mark (o / 64)) (with_bit (words (Cell.Mark (o / 64))) o)

abbrev pub set_alloc : Words → (o : ℕ) → Words
set_alloc words o = put words (Cell.Alloc (o / 64)) (with_bit (words (Cell.Alloc (o / 64))) o)

abbrev pub with_extent : Extents → (o size : ℕ) → (pointer : ℕ → Bool) → (noscan : Bool) → Extents
with_extent e o size pointer noscan = record { base = e.base; size = update e.size o size; pointer = update e.pointer o pointer; noscan = update e.noscan o noscan }

abbrev pub moved : Cycle → (a : ℕ) → Shared → Move → Shared
moved z a s (Quiet step) = record s { words = effect s.words step }
moved z a s (Shade o) = record s { words = set_mark s.words o; colour = update s.colour o (Pending a) }
moved z a s (ShadeFlat o) = record s { words = set_mark s.words o; colour = update s.colour o Black }
moved z a s (ShadeAgain o) = record s { words = set_mark s.words o }
moved z a s (TakeBuffer b) = record s { words = put s.words (Cell.Buffer b) (buffer_word (record { count = s.filled b; holder = a + 1 })) }
moved z a s (GiveBuffer b) = record s { words = put s.words (Cell.Buffer b) (s.filled b) }
moved z a s (Enter b o) = record s { words = put s.words (Cell.Entry b (s.filled b)) (o + 1); colour = update s.colour o (Buffered b (s.filled b)); filled = update s.filled b (s.filled b + 1) }
moved z a s (TakeEntry b o) = record s { colour = update s.colour o (Taken a); filled = update s.filled b (s.filled b - 1) }
moved z a s (Blacken o) = record s { colour = update s.colour o Black }
moved z a s (PutField x value) = record s { words = put s.words (Cell.Field x) value }
moved z a s (PutGlobal i value) = record s { words = put s.words (Cell.Global i) value }
moved z a s (ClaimGlobal i) = record s { words = put s.words Cell.Gcur (i + 1); progress = update s.progress i (Claimed a) }
moved z a s (PassGlobals i) = record s { words = put s.words Cell.Gcur (i + 1); passed = update s.passed a true }
moved z a s (ReadGlobal i) = record s { progress = update s.progress i (Read a (seen_global s i)) }
moved z a s (ScanGlobal i value) = record s { progress = update s.progress i Scanned }
moved z a s (SetRegister g d value) = record s { registers = update_at s.registers g d value }
moved z a s (ScanStack g) = record s { words = put s.words (Cell.Scanned g) z.number }
moved z a s (EndStack g) = record s { words = put s.words (Cell.Scanned g) END; registers = update s.registers g (λ d. 0) }
moved z a s (Reserve o) = record s { words = set_mark s.words o; colour = update s.colour o (Placing a) }
moved z a s (Place o size pointer noscan g d) = record s {
  words = set_alloc s.words o;
  registers = update_at s.registers g d (o + 1);
  colour = update s.colour o Black;
  known = update s.known o true;
  since = update s.since o true;
  extents = with_extent s.extents o size pointer noscan;
}

-- When a seat may make the move.

abbrev pub HasBuffer : (a : ℕ) → Shared → (b : ℕ) → Type 0
HasBuffer a s b = holder_in (s.words (Cell.Buffer b)) ≡ a + 1

-- the object is white and one of the cycle
pub record MayShade (s : Shared) (o : ℕ) : Type 0 where
  pub white : row_bit (mark_words s.words) o ≡ 0
  pub since : s.since o ≡ true

pub record MayEnter (a : ℕ) (s : Shared) (b o : ℕ) : Type 0 where
  pub held : HasBuffer a s b
  pub room : s.filled b < ENTRIES
  pub pending : s.colour o ≡ Pending a

pub record MayTakeEntry (a : ℕ) (s : Shared) (b o : ℕ) : Type 0 where
  pub held : HasBuffer a s b
  pub some : 0 < s.filled b
  pub entry : s.words (Cell.Entry b (s.filled b - 1)) ≡ o + 1

-- A store behind the write barrier. The word that it overwrites was shaded before, so that it cuts no path to a white object; and so was the value, so that nothing which is scanned comes to name a white object.
pub record BehindBarrier (s : Shared) (was value : ℕ) : Type 0 where
  pub old : IsClean s.colour was
  pub new : IsClean s.colour value
  pub since : IsSince s.since value

-- a seat that has not done so in this cycle
pub record MayPassGlobals (z : Cycle) (a : ℕ) (s : Shared) (i : ℕ) : Type 0 where
  pub at : s.words Cell.Gcur ≡ i
  pub behind : z.arena.layout.globals ≤ i
  pub seat : a < seats_of z.arena.layout
  pub first : s.passed a ≡ false

-- What a goroutine can bring into a register: what names no object; what another of its registers holds; a pointer field of an object that one of them names; a global. A new object it gets where that is placed.
pub data MayBring (z : Cycle) (s : Shared) (g : ℕ) : (value : ℕ) → Type 0 where
  from_nothing : MayBring z s g 0
  from_register : (r : ℕ) → r < REGISTERS → MayBring z s g (s.registers g r)
  from_field : (r o k : ℕ) → r < REGISTERS → s.registers g r ≡ o + 1 → IsPointer s.extents o k → MayBring z s g (seen_field s (o + k))
  from_global : (i : ℕ) → i < z.arena.layout.globals → MayBring z s g (seen_global s i)

-- a register of a goroutine that goes on, and what that can bring into it
pub record MaySetRegister (z : Cycle) (a : ℕ) (s : Shared) (g value : ℕ) : Type 0 where
  pub own : IsOf z.arena a g
  pub goes_on : s.words (Cell.Scanned g) ≢ END
  pub comes : MayBring z s g value
  pub since : IsSince s.since value

-- each register was shaded, by a scan in which no statement of the goroutine ran
pub record MayScanStack (z : Cycle) (a : ℕ) (s : Shared) (g : ℕ) : Type 0 where
  pub own : IsOf z.arena a g
  pub goes_on : s.words (Cell.Scanned g) ≢ END
  pub clean : (d : ℕ) → d < REGISTERS → IsClean s.colour (s.registers g d)

-- a white heap word in an empty slot
pub record MayReserve (s : Shared) (o : ℕ) : Type 0 where
  pub white : s.colour o ≡ White
  pub empty : row_bit (alloc_words s.words) o ≢ 1

-- Its slot is marked, lies in the heap, begins with its first word, and its pointer fields are clear; and a goroutine that goes on has it in a register.
pub record MayPlace (z : Cycle) (a : ℕ) (s : Shared) (o size : ℕ) (pointer : ℕ → Bool) (g d : ℕ) : Type 0 where
  pub own : IsOf z.arena a g
  pub goes_on : s.words (Cell.Scanned g) ≢ END
  pub register : d < REGISTERS
  pub reserved : s.colour o ≡ Placing a
  pub within : size ≤ 1024 * z.arena.layout.pages
  pub base : s.extents.base o ≡ o
  pub clear : (k : ℕ) → k < size → pointer k ≡ true → s.words (Cell.Field (o + k)) ≡ 0

abbrev pub May : Cycle → (a : ℕ) → Shared → Move → Type 0
May z a s (Quiet step) = IsQuietInMarking s step
May z a s (Shade o) = MayShade s o × (s.extents.noscan o ≡ false)
May z a s (ShadeFlat o) = MayShade s o × (s.extents.noscan o ≡ true)
May z a s (ShadeAgain o) = HasMark (mark_words s.words) o
May z a s (TakeBuffer b) = holder_in (s.words (Cell.Buffer b)) ≡ 0
May z a s (GiveBuffer b) = HasBuffer a s b
May z a s (Enter b o) = MayEnter a s b o
May z a s (TakeEntry b o) = MayTakeEntry a s b o
May z a s (Blacken o) = (s.colour o ≡ Taken a) × ((k : ℕ) → IsPointer s.extents o k → IsClean s.colour (seen_field s (o + k)))
May z a s (PutField x value) = BehindBarrier s (seen_field s x) (seen_word s.extents.base value)
May z a s (PutGlobal i value) = BehindBarrier s (seen_global s i) (seen_word s.extents.base value)
May z a s (ClaimGlobal i) = (s.words Cell.Gcur ≡ i) × (i < z.arena.layout.globals)
May z a s (PassGlobals i) = MayPassGlobals z a s i
May z a s (ReadGlobal i) = s.progress i ≡ Claimed a
May z a s (ScanGlobal i value) = (s.progress i ≡ Read a value) × IsClean s.colour (seen_global s i)
May z a s (SetRegister g d value) = MaySetRegister z a s g value
May z a s (ScanStack g) = MayScanStack z a s g
May z a s (EndStack g) = IsOf z.arena a g
May z a s (Reserve o) = MayReserve s o
May z a s (Place o size pointer noscan g d) = MayPlace z a s o size pointer g d

-- what is seen of a reference
pub seen_some : (base : Row) (r : ℕ) → 1 ≤ r → seen_word base r ≡ base (r - 1) + 1
seen_some base r some = by (eqb r 0) refl where
  by : (b : Bool) → eqb r 0 ≡ b → seen_word base r ≡ base (r - 1) + 1
  by true e = let none : r ≡ 0 = eqb-true r 0 e in absurd (omega (arith, none, some))
  by false e = rw e refl

-- where each object is named by its first word alone, what is seen of a word is the word
pub seen_is : (base : Row) → ((x : ℕ) → base x ≡ x) → (w : ℕ) → seen_word base w ≡ w
seen_is base is w = by (eqb w 0) refl where
  by : (b : Bool) → eqb w 0 ≡ b → seen_word base w ≡ w
  by true e = let none : w ≡ 0 = eqb-true w 0 e in ap (seen_word base) none ∙ sym none
  by false e =
      let some : w ≢ 0 = λ z. absurd (cc (e, eq-eqb w 0 z)) in
      let seen : seen_word base w ≡ base (w - 1) + 1 = rw e refl in
      omega (arith, seen, is (w - 1), some)

-- What moves leave.

-- the words of an object are said as before
pub record SameExtent (e f : Extents) (o : ℕ) : Type 0 where
  pub size : f.size o ≡ e.size o
  pub pointer : f.pointer o ≡ e.pointer o
  pub noscan : f.noscan o ≡ e.noscan o

-- What moves leave of what a seat knows: marks grow, a word that changes is clean then, and the stacks of its goroutines stay. The moves of all others leave it, and so do those of the seat itself that change no stack.
pub record Keeps (z : Cycle) (a : ℕ) (s t : Shared) : Type 0 where
  pub marks : (o : ℕ) → HasMark (mark_words s.words) o → HasMark (mark_words t.words) o
  pub colours : (o : ℕ) → IsMarked s.colour o → IsMarked t.colour o
  pub known : (o : ℕ) → s.known o ≡ true → t.known o ≡ true
  pub since : (o : ℕ) → s.since o ≡ true → t.since o ≡ true
  pub extents : (o : ℕ) → s.since o ≡ true → SameExtent s.extents t.extents o
  pub known_extents : (o : ℕ) → s.known o ≡ true → SameExtent s.extents t.extents o
  pub fields : (o k : ℕ) → s.since o ≡ true → IsPointer s.extents o k → (seen_field t (o + k) ≡ seen_field s (o + k)) ⊎ IsClean t.colour (seen_field t (o + k))
  pub globals : (i : ℕ) → (seen_global t i ≡ seen_global s i) ⊎ IsClean t.colour (seen_global t i)
  -- the object that a heap word lies in, where it is one of the cycle
  pub bases : (x : ℕ) → s.since (s.extents.base x) ≡ true → t.extents.base x ≡ s.extents.base x
  pub registers : (g d : ℕ) → IsOf z.arena a g → t.registers g d ≡ s.registers g d
  pub stacks : (g : ℕ) → IsOf z.arena a g → t.words (Cell.Scanned g) ≡ s.words (Cell.Scanned g)

-- What the moves of all others leave to a seat: that, and what it has in hand.
pub record Others (z : Cycle) (a : ℕ) (s t : Shared) : Type 0 where
  pub keeps : Keeps z a s t
  pub pending : (o : ℕ) → (s.colour o ≡ Pending a) ↔ (t.colour o ≡ Pending a)
  pub taken : (o : ℕ) → (s.colour o ≡ Taken a) ↔ (t.colour o ≡ Taken a)
  pub placing : (o : ℕ) → (s.colour o ≡ Placing a) ↔ (t.colour o ≡ Placing a)
  pub claimed : (i : ℕ) → (s.progress i ≡ Claimed a) ↔ (t.progress i ≡ Claimed a)
  pub read : (i value : ℕ) → (s.progress i ≡ Read a value) ↔ (t.progress i ≡ Read a value)
  pub held : (b : ℕ) → HasBuffer a s b ↔ HasBuffer a t b
  pub filled : (b : ℕ) → HasBuffer a s b → t.filled b ≡ s.filled b
  pub passes : t.passed a ≡ s.passed a

-- the move changes no stack
abbrev pub LeavesStacks : Move → Type 0
LeavesStacks (SetRegister g d value) = ⊥
LeavesStacks (ScanStack g) = ⊥
LeavesStacks (EndStack g) = ⊥
LeavesStacks (Place o size pointer noscan g d) = ⊥
LeavesStacks _ = Unit {0}

-- what was dead when the cycle began, and is placed still
pub record IsDead (s : Shared) (o : ℕ) : Type 0 where
  pub placed : row_bit (alloc_words s.words) o ≡ 1
  pub dead : s.since o ≡ false

-- what is placed and not known: nothing brings it back
pub record IsUnknown (s : Shared) (o : ℕ) : Type 0 where
  pub placed : row_bit (alloc_words s.words) o ≡ 1
  pub unknown : s.known o ≡ false

-- moves of seat a lead from the one state to the other
pub data Went (z : Cycle) (a : ℕ) (s : Shared) : Shared → Type 0 where
  stays : Went z a s s
  goes : (t : Shared) (m : Move) → Went z a s t → May z a t m → Went z a s (moved z a t m)

-- The step that a seat asks for is made of moves that it may make, and this holds then.
pub record Lands (z : Cycle) (a : ℕ) (s : Shared) (words : Words) (Then : Shared → Type 0) : Type 0 where
  pub then : Shared
  pub went : Went z a s then
  pub words_are : then.words ≡ words
  pub after : Then then

abbrev pub Steps : Cycle → (a : ℕ) → Shared → Ask → (Shared → Type 0) → Type 0
Steps z a s step Then = Lands z a s (effect s.words step) Then

-- by no move, where the step changes no word, and by one
pub lands_still : (z : Cycle) (a : ℕ) (s : Shared) (words : Words) (Then : Shared → Type 0) → s.words ≡ words → Then s → Lands z a s words Then
lands_still z a s words Then same h = record { then = s; went = stays; words_are = same; after = h }

pub lands_by : (z : Cycle) (a : ℕ) (s : Shared) (words : Words) (Then : Shared → Type 0) (m : Move) → May z a s m → (moved z a s m).words ≡ words → Then (moved z a s m) → Lands z a s words Then
lands_by z a s words Then m may same h = record { then = moved z a s m; went = goes s m stays may; words_are = same; after = h }

-- what follows from what holds then
pub landing : (z : Cycle) (a : ℕ) (s : Shared) (words : Words) (Then So : Shared → Type 0) → ((t : Shared) → Went z a s t → Then t → So t) → Lands z a s words Then → Lands z a s words So
landing z a s words Then So f l = record { then = l.then; went = l.went; words_are = l.words_are; after = f l.then l.went l.after }

-- moves that follow on others
pub went_then : (z : Cycle) (a : ℕ) (s t u : Shared) → Went z a s t → Went z a t u → Went z a s u
went_then z a s t u w stays = w
went_then z a s t u w (goes v m x may) = goes v m (went_then z a s t v w x) may

-- and a step whose moves further ones follow on, which change no word
pub landing_on : (z : Cycle) (a : ℕ) (s : Shared) (words : Words) (Then So : Shared → Type 0) → ((t : Shared) → Went z a s t → Then t → Lands z a t t.words So) → Lands z a s words Then → Lands z a s words So
landing_on z a s words Then So f l = grind (arith, went_then)
