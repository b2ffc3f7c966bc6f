-- The writing of a pointer asks for words that there are, by its stages.
use Rattle.std.proofs.Common.{◌≡◌, ℕ, true, Option, refl, arith}
use Rattle.gh_barrier.proofs.Vocabulary.{after_new, after_old, asks_at, cell_at, cell_of, Ended, FitsPointer, goes_at, Held, held_at, InRange, Layout, listing, LoadOld, read_as, Shaded, ShadeNew, ShadeOld, shades_old, SoundShading, SoundStage, SoundWriting, Store, writes, WriteStage, Writing}
use Rattle.gh_base.specs.Blind.{is_store}
use Rattle.gh_base.specs.Footprints.{FootprintsHold, Writes}
use Rattle.gh_base.specs.Holding.{IsHeld}
use Rattle.gh_base.specs.Machines.{IsRoutine}
use Rattle.gh_shade.specs.Listing as shade
use Rattle.gh_barrier.specs.Within.{WritingIsWithin}

module _ (l : Layout) where
  shade-goes : (s : shade.Shading) (found : ℕ) → SoundShading l s → SoundShading l (shade.goes s found)
  shade-goes s found f = grind arith

  -- what a word names
  read-fits : (found : ℕ) → FitsPointer l (read_as l found)
  read-fits found = grind arith

  module _ (w : Writing) (now : SoundWriting l w) where
    old-then : (old : Option ℕ) → FitsPointer l old → SoundWriting l (shades_old w old)
    old-then old f = grind arith

    after-old : (sh : shade.Shading) (out : Option Shaded) → shade.given sh ≡ out → SoundShading l sh → SoundWriting l (after_old w sh out)
    after-old sh out e f = grind arith

    after-new : (sh : shade.Shading) (out : Option Shaded) → shade.given sh ≡ out → SoundShading l sh → SoundWriting l (after_new w sh out)
    after-new sh out e f = grind arith

    goes-at : (q : WriteStage) (found : ℕ) → SoundStage l q → SoundWriting l (goes_at l w q found)
    goes-at LoadOld found f = old-then (read_as l found) (read-fits found)
    goes-at (ShadeOld sh) found f = after-old (shade.goes sh found) _ refl (shade-goes sh found f.sound)
    goes-at (ShadeNew sh) found f = after-new (shade.goes sh found) _ refl (shade-goes sh found f.sound)
    goes-at Store found f = grind arith
    goes-at Ended found f = grind arith

  within-at : (w : Writing) (q : WriteStage) → InRange l (cell_at w.at) → SoundStage l q → InRange l (cell_of (asks_at w q))
  within-at w q there f = grind arith

  holds-at : (held : Option Held) (q : WriteStage) → IsHeld l held → SoundStage l q → IsHeld l (held_at held q)
  holds-at held q is f = grind arith

  blind-at : (w : Writing) (q : WriteStage) (found other : ℕ) → is_store (asks_at w q) ≡ true → goes_at l w q found ≡ goes_at l w q other
  blind-at w q found other e = grind arith

pub is-within : WritingIsWithin
is-within = record {
  begins = λ l at pointer held there fits is. record { cell = there; pointer = fits; held = is; stage = tt };
  goes_on = λ l w found f. goes-at l w f w.stage found f.stage;
  within = λ l w f. within-at l w w.stage f.cell f.stage;
  holds = λ l w f. holds-at l w.held w.stage f.held f.stage;
}

module _ (footprints : FootprintsHold) (shading : (l : Layout) → IsRoutine l (shade.listing l)) where
  writes-at : (l : Layout) (w : Writing) (q : WriteStage) → Writes writes (asks_at w q)
  writes-at l w (ShadeOld sh) = footprints.among shade.writes writes _ refl ((shading l).writes sh)
  writes-at l w (ShadeNew sh) = footprints.among shade.writes writes _ refl ((shading l).writes sh)
  writes-at l w q = grind arith

  pub is-routine : (l : Layout) → IsRoutine l (listing l)
  is-routine l = record {
    keeps = λ w found few x busy. is-within.goes_on l w found x;
    within = λ w x busy. is-within.within l w x;
    writes = λ w. writes-at l w w.stage;
    blind = λ w found other e. blind-at l w w.stage found other e;
  }
