-- What the runs of moves leave that belong together: a write with its barrier, and the scan of an object and of a stack.
use Rattle.std.specs.Prelude.{ℕ, zero, suc, List, [], ◌∷◌, ◌++◌, Option, None}
use Rattle.gh_tri.specs.declared.Move.{Move}
use Rattle.gh_tri.specs.declared.Move.TheVariants.{ScanField, Blacken, ScanRegister}
use Rattle.gh_tri.specs.Tricolour.{Tricolour, put2, put3, shaded}

-- the picture once the object that a value names is shaded
abbrev pub shades : Tricolour → Option ℕ → Tricolour
shades p v = record p { colour = shaded p.colour v }

-- A write with its barrier: the old value and then the new one are shaded, and the field has the new value.
abbrev pub written_with_barrier : Tricolour → ℕ → ℕ → ℕ → Option ℕ → Tricolour
written_with_barrier p s o f new =
    record p {
      colour = shaded (shaded p.colour (p.value o f)) new;
      value = put2 p.value o f new;
      read = put3 p.read s o f None;
    }

-- the scans of the first n fields of an object, in order
abbrev pub field_scans : ℕ → ℕ → List Move
field_scans o zero = []
field_scans o (suc n) = field_scans o n ++ ScanField o n ∷ []

-- the scan of an object with n fields: each field, and then it is black
abbrev pub object_scan : ℕ → ℕ → List Move
object_scan o n = field_scans o n ++ Blacken o ∷ []

-- the scans of the first n registers of a stack, in order
abbrev pub register_scans : ℕ → ℕ → List Move
register_scans s zero = []
register_scans s (suc n) = register_scans s n ++ ScanRegister s n ∷ []
