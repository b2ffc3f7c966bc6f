-- The scan of a stack with the shading changes no word that a right guards, and asks for words that there are.
use Rattle.std.proofs.Common.{◌≡◌, ℕ, ◌<◌, List, Option, Some, None, refl, arith}
use Rattle.gh_mutator_heap.proofs.Vocabulary.{cell_of, Held, InRange, IsHeld, IsQuiet, Layout, MarkStackStageWithin, ScansWithin, seats_of, Shaded, SoundRoomFinding, Value}
use Rattle.gh_shade.specs.Listing as shade
use Rattle.gh_shade.specs.Sound.{SoundShading}
use Rattle.gh_wbuf.specs.RoomFinding as room
use Rattle.gh_poll.specs.declared.mark_stack.MarkStackStage.{MarkStackStage}
use Rattle.gh_poll.specs.declared.mark_stack.MarkStackStage.TheVariants.{Shading, FindRoom, Store, Ended}
use Rattle.gh_poll.specs.MarkStack as mark
use Rattle.gh_mutator_heap.proofs.Holding.Ranges.{Given, room_gives, room_goes}

-- It changes no word that a right guards.

pub scan_quiet : (m : mark.StackMarking) → IsQuiet (mark.asks m)
scan_quiet m = grind arith

-- Shading.

shade_goes : (l : Layout) (s : shade.Shading) (found : ℕ) → SoundShading l s → SoundShading l (shade.goes s found)
shade_goes l s found f = grind arith

told_room : (l : Layout) (s : shade.Shading) (h : Held) → SoundShading l s → Given l h → SoundShading l (shade.told_room s h)
told_room l s h f g = record { reference = f.reference; held = g.fits; stage = g.few }

-- The scan.

wish_within : (l : Layout) (held : Option Held) → IsHeld l held → (wish : Option ℕ) → MarkStackStageWithin l (mark.by_wish l held wish)
wish_within l held is wish = grind arith

pub scan_begins : (l : Layout) (seat g cycle : ℕ) (registers : List Value) (held : Option Held) → seat < seats_of l → g < l.goroutines → IsHeld l held → ScansWithin l (mark.opening l seat g cycle registers held)
scan_begins l seat g cycle registers held few there is = grind arith

module _ (l : Layout) (m : mark.StackMarking) (now : ScansWithin l m) where
  scan_at : (q : MarkStackStage) → MarkStackStageWithin l q → ScansWithin l (mark.at_stage m q)
  scan_at q f = record { seat = now.seat; goroutine = now.goroutine; held = now.held; stage = f }

  shaded_then : (s : shade.Shading) → SoundShading l s → (out : Option Shaded) → ScansWithin l (mark.after_shade l m s out)
  shaded_then s f out = grind (arith, scan_at, wish_within)

  found_then : (s : shade.Shading) (r : room.RoomFinding) (found : ℕ) → SoundShading l s → SoundRoomFinding l r → (out : Option Held) → room.gives l r found ≡ out → ScansWithin l (mark.after_room m s (room.goes l r found) out)
  found_then s r found f g None e = scan_at (FindRoom s (room.goes l r found)) (f, room_goes l r found g)
  found_then s r found f g (Some h) e = scan_at (Shading (shade.told_room s h)) (told_room l s h f (room_gives l r found h g e))

  scan_goes_at : (q : MarkStackStage) (found : ℕ) → MarkStackStageWithin l q → ScansWithin l (mark.goes_at l m q found)
  scan_goes_at (Shading s) found f = shaded_then (shade.goes s found) (shade_goes l s found f) (shade.gives s found)
  scan_goes_at (FindRoom s r) found f = found_then s r found f.0 f.1 (room.gives l r found) refl
  scan_goes_at Store found f = scan_at Ended tt
  scan_goes_at Ended found f = scan_at Ended tt

pub scan_goes : (l : Layout) (m : mark.StackMarking) (found : ℕ) → ScansWithin l m → ScansWithin l (mark.goes l m found)
scan_goes l m found f = grind (arith, scan_goes_at)

pub scan_within : (l : Layout) (m : mark.StackMarking) → ScansWithin l m → InRange l (cell_of (mark.asks m))
scan_within l m f = grind arith
