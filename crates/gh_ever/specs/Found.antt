-- What is found without a walk: a place's cell, and the type of an object.
use Rattle.std.specs.Prelude.{◌≡◌, ℕ, suc, Bool, ◌==◌, ◌&&◌, if◌then◌else◌, List, [], ◌∷◌, ◌++◌, Option, Some, None}
use Rattle.std.specs.Hash as writes
use Rattle.std.specs.Option.{option_map}
use Rattle.gh_ever.specs.Vocabulary.{Cell, Field, get, Global, HashMap, Name, Object, Place, Register}
use Rattle.gh_ever.specs.Cells.{same_place}
use Rattle.gh_ever.specs.Objects.{kind_of}

-- what a hasher is given of a place
abbrev pub place_writes : Place → writes.HashWrites
place_writes (Global k) = writes.u32 k
place_writes (Register g d) = writes.u32 g ++ writes.u32 d
place_writes (Field n k) = writes.u32 n.g ++ writes.u32 n.k ++ writes.u32 k

-- which cell is the place's, if one is
abbrev pub index_of : List Cell → Place → Option ℕ
index_of [] place = None
index_of (c ∷ cs) place = if same_place place c.place then Some 0 else option_map suc (index_of cs place)

-- names as pairs of numbers
abbrev pub same_pair : ℕ × ℕ → ℕ × ℕ → Bool
same_pair a b = (a.0 == b.0) && (a.1 == b.1)

module _ {S : Type 0} where
  -- the map has the cell of each place
  abbrev pub FindsCells : HashMap Place ℕ S → List Cell → Type 0
  FindsCells places cells = (p : Place) → get same_place places p ≡ index_of cells p

  -- the map has the type of each object
  abbrev pub FindsKinds : HashMap (ℕ × ℕ) ℕ S → List Object → Type 0
  FindsKinds kinds objects = (n : Name) → get same_pair kinds (n.g, n.k) ≡ kind_of objects n
