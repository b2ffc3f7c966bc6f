-- What each move does to a group: to the objects, to the entries of buffers, to the globals, to values and to the stacks.
use Rattle.std.proofs.Common.{◌≡◌, ◌≢◌, ℕ, Bool, true, false, ap, ◌∙◌, inl, inr, arith}
use Rattle.gh_marks.proofs.Vocabulary.{Buffered, Colour, CursorGood, END, EntriesGood, eqb_tells, Extents, IsGrey, IsMarked, IsShaded, IsSince, ObjectsGood, Placing, Progress, Row, row_bit, StacksGood, update, update_at, ValuesGood}
use Rattle.gh_marks.proofs.Bits.{clean-grows}

-- an object takes another colour
pub objects-coloured : (alloc : Row) (colour : ℕ → Colour) (known since : ℕ → Bool) (e : Extents) (o : ℕ) (c : Colour) → (IsShaded c → since o ≡ true) → (IsGrey c → e.noscan o ≡ false) → ((a : ℕ) → c ≡ Placing a → row_bit alloc o ≢ 1) →
    ObjectsGood alloc colour known since e → ObjectsGood alloc (update colour o c) known since e
objects-coloured alloc colour known since e o c a b d g = record {
  placed = g.placed;
  bases = g.bases;
  of_cycle = g.of_cycle;
  shaded = λ p h. elim (eqb_tells o p) [ inl y ↦ rw (← y.1) (a (rw (y.0) at h)) | inr n ↦ g.shaded p (rw (n.0) at h) ];
  grey = λ p h. elim (eqb_tells o p) [ inl y ↦ rw (← y.1) (b (rw (y.0) at h)) | inr n ↦ g.grey p (rw (n.0) at h) ];
  placing = λ p x h. elim (eqb_tells o p) [ inl y ↦ rw (← y.1) (d x (rw (y.0) at h)) | inr n ↦ g.placing p x (rw (n.0) at h) ];
}

-- that of a shaded object of the cycle
pub objects-shaded : (alloc : Row) (colour : ℕ → Colour) (known since : ℕ → Bool) (e : Extents) (o : ℕ) (c : Colour) → since o ≡ true → IsShaded c → (IsGrey c → e.noscan o ≡ false) → ObjectsGood alloc colour known since e → ObjectsGood alloc (update colour o c) known since e
objects-shaded alloc colour known since e o c of h b g = grind (arith, objects-coloured)

-- the entries, where an object moves that is in no buffer, and will be in none
pub entries-apart : (entries : ℕ → Row) (filled : Row) (colour : ℕ → Colour) (o : ℕ) (c : Colour) → ((b j : ℕ) → colour o ≢ Buffered b j) → ((b j : ℕ) → c ≢ Buffered b j) → EntriesGood entries filled colour → EntriesGood entries filled (update colour o c)
entries-apart entries filled colour o c was is g = record {
  some = g.some;
  entered = λ b j p h e. elim (eqb_tells o p) [ inl y ↦ absurd (was b j (ap colour y.1 ∙ g.entered b j p h e)) | inr n ↦ rw (n.0) (g.entered b j p h e) ];
  buffered = λ p b j h. elim (eqb_tells o p) [ inl y ↦ absurd (is b j (rw (y.0) at h)) | inr n ↦ g.buffered p b j (rw (n.0) at h) ];
}

-- the globals, where marks grow
pub cursor-grows : (globals gcur : ℕ) (global : Row) (progress : ℕ → Progress) (m n : ℕ → Colour) → ((o : ℕ) → IsMarked m o → IsMarked n o) → CursorGood globals gcur global progress m → CursorGood globals gcur global progress n
cursor-grows globals gcur global progress m n grow g = record {
  untouched = g.untouched;
  ahead = g.ahead;
  read = λ i a v h. elim (g.read i a v h) [ inl e ↦ inl e | inr c ↦ inr (clean-grows m n (global i) grow c) ];
}

-- a register takes what is of the cycle
pub values-set : (e : Extents) (field global : Row) (registers : ℕ → Row) (known since : ℕ → Bool) (h d v : ℕ) → IsSince since v → ValuesGood e field global registers known since → ValuesGood e field global (update_at registers h d v) known since
values-set e field global registers known since h d v of g = record {
  known_fields = g.known_fields;
  fields = g.fields;
  globals = g.globals;
  stacks = λ f q o e. elim (eqb_tells h f) [
    | inr n ↦ g.stacks f q o (rw (n.0) at e)
    | inl y ↦ elim (eqb_tells d q) [ inr n ↦ g.stacks f q o (rw (y.0, n.0) at e) | inl w ↦ of o (rw (y.0, w.0) at e) ]
  ];
}

-- and its goroutine goes on
pub stacks-set : (number : ℕ) (scanned : Row) (registers : ℕ → Row) (h d v : ℕ) → scanned h ≢ END → StacksGood number scanned registers → StacksGood number scanned (update_at registers h d v)
stacks-set number scanned registers h d v on g = record {
  over = λ f q end. elim (eqb_tells h f) [ inr n ↦ rw (n.0) (g.over f q end) | inl y ↦ absurd (on (rw (y.1) end)) ];
  most = g.most;
}
