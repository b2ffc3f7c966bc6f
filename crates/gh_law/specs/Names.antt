-- Names among names.
use Rattle.std.specs.Prelude.{◌≡◌, ◌⊎◌, List, [], ◌∷◌}
use Rattle.gh_law.specs.Vocabulary.{Name}

-- the name is among these
abbrev pub IsAmong : Name → List Name → Type 0
IsAmong n [] = ⊥
IsAmong n (m ∷ more) = (n ≡ m) ⊎ IsAmong n more
