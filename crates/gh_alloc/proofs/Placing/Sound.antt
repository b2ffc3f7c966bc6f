-- The making of an object keeps its numbers in their limits, and each of its steps lies in the heap: by its stages.
use Rattle.std.proofs.Common.{◌≡◌, ℕ, ◌+◌, ◌*◌, ◌^◌, ◌<◌, ◌≤◌, Bool, cond, is_none, refl, arith}
use Rattle.gh_alloc.proofs.Vocabulary.{Bits, filled, FitsSpanHead, IsRoutine, Layout, nat_tests, PlaceStage, Placing}
use Rattle.gh_bitmap.specs.SetPointers as bits
use Rattle.gh_central.specs.GiveBack as give
use Rattle.gh_alloc.specs.Place.{goes_at, listing}
use Rattle.gh_alloc.specs.PlaceSound.{IsStage}

bits_kept : (l : Layout) (p : Placing) (s : bits.PointerSetting) (b : Bool) → is_none (bits.given s) ≡ b → (bits.listing l).sound s → IsStage l p.slot (cond b (Bits s) (filled p.marking))
bits_kept l p s b e y = grind arith

keeps_at : (l : Layout) → IsRoutine l (bits.listing l) → (p : Placing) (q : PlaceStage) (found : ℕ) → 1 ≤ p.slot → p.at + p.slot ≤ 1024 * l.pages → FitsSpanHead p.span → found < 2 ^ 64 → IsStage l p.slot q → IsStage l p.slot (goes_at p q found)
keeps_at l pointers p (Bits s) found some within span w y = bits_kept l p (bits.goes s found) _ refl (pointers.keeps s found w y.sound y.busy)
keeps_at l pointers p q found some within span w y = grind (arith, nat_tests)

pub is_routine : (l : Layout) → IsRoutine l (bits.listing l) → IsRoutine l (give.listing l) → IsRoutine l (listing l)
is_routine l pointers gives = grind (arith, keeps_at)
