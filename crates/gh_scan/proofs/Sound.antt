-- The scan of an object stays sound, and its steps lie in the heap: by its stages. Of shading and of the search for room it is known that they are routines.
use Rattle.std.proofs.Common.{◌≡◌, ℕ, ◌+◌, ◌-◌, ◌^◌, ◌<◌, ◌≤◌, Bool, true, false, cond, Option, Some, refl, arith}
use Rattle.std.proofs.lemmas.Bool.Decides.{nat_tests}
use Rattle.gh_scan.proofs.Vocabulary.{after_room, after_shade, at_next, behind, bit_says_pointer, Done, end, FindRoom, FitsPage, goes_at, Held, Layout, listing, LoadBitmap, LoadField, LoadPage, next_from, page_of, PageWord, Scanning, ScanStage, Shaded, Shading, slot_in, slot_of}
use Rattle.gh_base.specs.Machines.{IsRoutine}
use Rattle.gh_scan.specs.Sound.{SoundScanning, SoundStage}
use Rattle.gh_scan.proofs.Order.{Between, next_between}
use Rattle.gh_shade.specs.declared.shade.ShadeStage.TheVariants.{WaitForRoom}
use Rattle.gh_shade.specs.Listing as shade
use Rattle.gh_shade.specs.Sound.{SoundShading}
use Rattle.gh_wbuf.specs.RoomFinding as room
use Rattle.gh_wbuf.specs.Sound.{SoundRoomFinding}

few_words : ((c : ℕ) → c < 25 → slot_of c ≤ 32768) → (page : PageWord) → FitsPage page → slot_in page < 2 ^ 23
few_words greatest page fits = grind arith

module _ (l : Layout) where
  behind_sound : (s : Scanning) → SoundScanning l s → SoundScanning l (behind s)
  behind_sound s x = by (next_from s.bits (end s) (s.at + 1)) (next_between (s.at + 1) s.bits (end s - (s.at + 1)) (s.at + 1) (omega arith)) where
    by : (next : Option ℕ) → Between (s.at + 1) ((s.at + 1) + (end s - (s.at + 1))) next → SoundScanning l (at_next s next)
    by next b = grind arith

  shaded : (s : Scanning) (sh : shade.Shading) (out : Option Shaded) → SoundScanning l s → SoundShading l sh → shade.given sh ≡ out → SoundScanning l (after_shade s sh out)
  shaded s sh (Some Done) x sound e = behind_sound (record s { held = sh.held }) (record { seat = x.seat; reference = x.reference; held = sound.held; slot = x.slot; at = x.at; stage = x.stage })
  shaded s sh _ x sound e = grind arith

  found_room : (s : Scanning) (sh : shade.Shading) (r : room.RoomFinding) (out : Option Held) → SoundScanning l s → SoundShading l sh → sh.stage ≡ WaitForRoom → SoundRoomFinding l r → room.given r ≡ out → SoundScanning l (after_room s sh r out)
  found_room s sh r out x shading waits sound e = grind (arith, nat_tests)

  found_bits : (s : Scanning) (found : ℕ) (b : Bool) → SoundScanning l s → SoundScanning l (cond b (record s { bits = found; stage = LoadField }) (behind (record s { bits = found })))
  found_bits s found true x = grind arith
  found_bits s found false x = behind_sound (record s { bits = found }) (record { seat = x.seat; reference = x.reference; held = x.held; slot = x.slot; at = x.at; stage = x.stage })

  module _ (greatest : (c : ℕ) → c < 25 → slot_of c ≤ 32768) (reads : (word : ℕ) → word < 2 ^ 64 → FitsPage (page_of word)) (shades : IsRoutine l (shade.listing l)) (rooms : IsRoutine l (room.listing l)) where
    keeps_at : (s : Scanning) (p : ScanStage) (found : ℕ) → found < 2 ^ 64 → SoundScanning l s → SoundStage l p → SoundScanning l (goes_at l s p found)
    keeps_at s LoadPage found few x at = let words : slot_in (page_of found) < 2 ^ 23 = few_words greatest (page_of found) (reads found few) in grind arith
    keeps_at s LoadBitmap found few x at = found_bits s found (bit_says_pointer found s.at) x
    keeps_at s LoadField found few x at = grind (arith, behind_sound)
    keeps_at s (Shading sh) found few x at = shaded s (shade.goes sh found) _ x (shades.keeps sh found few at.sound at.busy) refl
    keeps_at s (FindRoom sh r) found few x at = found_room s sh (room.goes l r found) _ x at.shade at.waits (rooms.keeps r found few at.runs.sound at.runs.busy) refl
    keeps_at s _ found few x at = grind arith

    pub is_routine : IsRoutine l (listing l)
    is_routine = let fit = l.limits.pages_fit.0 in grind (arith, keeps_at)
