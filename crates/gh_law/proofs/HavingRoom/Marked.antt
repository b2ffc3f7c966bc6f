-- While a cycle is marked: an object is an entry of one buffer at most and has an address of its own, and each actor holds one buffer at most. So there is a buffer with room that nobody holds.
use Rattle.std.proofs.Common.{◌≡◌, ℕ, ◌+◌, ◌-◌, ◌*◌, ◌<◌, ◌≤◌, Bool, true, false, ltb, refl, sym, ap, subst, ◌∙◌, arith, List, Option}
use Rattle.gh_law.proofs.Vocabulary.{acks_of, Actor, actors, AllStands, AreDistinct, Arena, AreOfSeats, Buffered, Buffers, buffers_as_held, BuffersHaveRoom, Colour, Coordinating, Entry, Held, HoldsBuffer, IsLed, IsSeated, IsShaded, Marking, nat_tests, Op, processor_kind, RoomStands, seated, seats_of, Setup, state_of, words}
use Rattle.gh_coord.specs.Handshake as leading
use Rattle.gh_holds.specs.Below.{CycleIsDrawn}
use Rattle.gh_law.proofs.HavingRoom.Hands.{processor_has, worker_has}

-- a buffered object is of the cycle
is_shaded : (c : Colour) (b j : ℕ) → c ≡ Buffered b j → IsShaded c
is_shaded c b j is = subst IsShaded (sym is) tt

module _ (setup : Setup) (es : List (Entry Op)) (c : Coordinating) (d : CycleIsDrawn setup es c) where
  abbrev s : Marking
  s = d.shared

  abbrev grey : Buffers
  grey = buffers_as_held d.shared.words d.shared.filled

  -- the object that an entry names
  abbrev object : (b j : ℕ) → ℕ
  object b j = grey.entries b j - 1

  names : (b j : ℕ) → j < grey.filled b → grey.entries b j ≡ object b j + 1
  names b j lt = let some : 0 < grey.entries b j = d.tied.of_heap.good.entries.some b j lt in omega (arith, some)

  entered : (b j : ℕ) → j < grey.filled b → s.colour (object b j) ≡ Buffered b j
  entered b j lt = d.tied.of_heap.good.entries.entered b j (object b j) lt (names b j lt)

  pages_are : d.cycle.arena.layout.pages ≡ setup.layout.pages
  pages_are = ap (λ (z : Arena). z.layout.pages) d.is.arena_is

  -- it lies in the heap
  within : (b j : ℕ) → j < grey.filled b → grey.entries b j ≤ 1024 * setup.layout.pages
  within b j lt =
      let known = d.tied.of_heap.objects (object b j) (d.tied.of_heap.good.objects.shaded (object b j) (is_shaded (s.colour (object b j)) b j (entered b j lt))) in
      let ends : object b j + s.extents.size (object b j) ≤ 1024 * setup.layout.pages = subst (λ (n : ℕ). object b j + s.extents.size (object b j) ≤ 1024 * n) pages_are known.within in
      let some : 0 < s.extents.size (object b j) = known.some in
      let is = names b j lt in
      omega (arith, ends, some, is)

  -- and is no other entry
  both : (b j x k : ℕ) → j < grey.filled b → k < grey.filled x → grey.entries b j ≡ grey.entries x k → Buffered b j ≡ Buffered x k
  both b j x k of_b of_x same = sym (entered b j of_b) ∙ (ap (λ (e : ℕ). s.colour (e - 1)) same ∙ entered x k of_x)

  distinct : AreDistinct (1024 * setup.layout.pages) grey
  distinct = grind (arith, both, within)

  abbrev Has : ℕ → Type 0
  Has a = (held : Option Held) × HoldsBuffer grey a held

  works : (a : ℕ) → setup.layout.procs ≤ a → a < acks_of setup.layout → Has a
  works a from below = go (state_of (actors setup) a es) refl (seated setup es a) where
    go : (x : Actor) → state_of (actors setup) a es ≡ x → IsSeated setup.layout a x → Has a
    go (Actor.Runs m) is at = absurd (omega (arith, from, at))
    go (Actor.Marks w) is at = worker_has d.cycle a s w (d.tied.workers a w below is)
    go (Actor.Leads y) is at = absurd (omega (arith, below, at))

  each : (a : ℕ) → a < seats_of setup.layout → Has a
  each a lt = go (ltb a setup.layout.procs) (ltb a (acks_of setup.layout)) refl refl where
    go : (b t : Bool) → ltb a setup.layout.procs ≡ b → ltb a (acks_of setup.layout) ≡ t → Has a
    go true t e f = processor_has d.cycle a s (state_of (processor_kind setup.shapes setup.layout) a es) (d.tied.processors a (grind (arith, nat_tests, e)))
    go false true e f = works a (grind (arith, nat_tests, e)) (grind (arith, nat_tests, f))
    go false false e f = (_, (d.tied.others a (grind (arith, nat_tests, f))).holds)

  of_seats : AreOfSeats (seats_of setup.layout) grey
  of_seats = record { each = each; others = λ a le. (d.tied.others a (omega (arith, le))).holds }

  pub drawn_has_room : BuffersHaveRoom → RoomStands setup.layout (words setup es)
  drawn_has_room law = grind (arith, distinct, of_seats)

pub marked_has_room : BuffersHaveRoom → (setup : Setup) (es : List (Entry Op)) (c : Coordinating) → AllStands setup es → IsLed setup es c → leading.Marks c.stage → RoomStands setup.layout (words setup es)
marked_has_room law setup es c all led on = drawn_has_room setup es c (all.drawn c led on) law
