-- How keywords, registers, numbers and names are spelled.
use Rattle.std.specs.Prelude.{ℕ, ◌+◌, ◌-◌, ◌*◌, ◌^◌, ◌==◌, ◌&&◌, ◌||◌, Bool, false, if◌then◌else◌, nat_lt, nat_le, List, [], ◌∷◌, length, Option, Some, None, codes}
use Rattle.gh_script.specs.Vocabulary.{bytes_eq, Key, list_all, option_map, Setting}

-- the settings by name
unfoldable pub setting_named : List ℕ → Option Setting
setting_named word =
    if bytes_eq word (codes "procs") then Some Setting.Procs else
    (if bytes_eq word (codes "workers") then Some Setting.Workers else
    (if bytes_eq word (codes "arena") then Some Setting.Arena else
    (if bytes_eq word (codes "globals") then Some Setting.Globals else
    (if bytes_eq word (codes "gogc") then Some Setting.Gogc else
    (if bytes_eq word (codes "minheap") then Some Setting.Minheap else None)))))

-- types, and where a goroutine or a repetition begins and ends
unfoldable pub block_key_of : List ℕ → Option Key
block_key_of word =
    if bytes_eq word (codes "type") then Some Key.Type else
    (if bytes_eq word (codes "go") then Some Key.Go else
    (if bytes_eq word (codes "repeat") then Some Key.Repeat else
    (if bytes_eq word (codes "end") then Some Key.End else None)))

-- statements
unfoldable pub statement_key_of : List ℕ → Option Key
statement_key_of word =
    if bytes_eq word (codes "new") then Some Key.New else
    (if bytes_eq word (codes "load") then Some Key.Load else
    (if bytes_eq word (codes "store") then Some Key.Store else
    (if bytes_eq word (codes "gload") then Some Key.GetGlobal else
    (if bytes_eq word (codes "gstore") then Some Key.SetGlobal else
    (if bytes_eq word (codes "int") then Some Key.Int else
    (if bytes_eq word (codes "move") then Some Key.Move else
    (if bytes_eq word (codes "nil") then Some Key.Nil else
    (if bytes_eq word (codes "gc") then Some Key.Gc else None))))))))

-- the first that is there
abbrev pub first_some : Option Key → Option Key → Option Key
first_some None other = other
first_some (Some key) other = Some key

-- what a line is, as its first word says
unfoldable pub key_of : List ℕ → Option Key
key_of word = first_some (option_map Key.Setting (setting_named word)) (first_some (block_key_of word) (statement_key_of word))

abbrev pub is_digit : ℕ → Bool
is_digit c = nat_le 48 c && nat_le c 57

-- a lower-case letter
abbrev pub is_letter : ℕ → Bool
is_letter c = nat_le 97 c && nat_le c 122

-- the register that a word names: r0 to r15
unfoldable pub register_named : List ℕ → Option ℕ
register_named [] = None
register_named (r ∷ []) = None
register_named (r ∷ d ∷ []) = if r == 114 && is_digit d then Some (d - 48) else None
register_named (r ∷ t ∷ d ∷ []) = if r == 114 && t == 49 && nat_le 48 d && nat_le d 53 then Some (10 + (d - 48)) else None
register_named (r ∷ t ∷ d ∷ e ∷ more) = None

-- the number that digits spell behind the number before them
unfoldable pub value_from : ℕ → List ℕ → ℕ
value_from before [] = before
value_from before (c ∷ cs) = value_from (10 * before + (c - 48)) cs

-- the number that a word of digits spells, where it is below 2 ^ 64
unfoldable pub digits_value_of : List ℕ → Option ℕ
digits_value_of word = if list_all is_digit word && nat_lt (value_from 0 word) (2 ^ 64) then Some (value_from 0 word) else None

-- a number is 1 to 20 decimal digits, up to 2 ^ 64 - 1
unfoldable pub number_spelled : List ℕ → Option ℕ
number_spelled word = if length word == 0 || nat_lt 20 (length word) then None else digits_value_of word

abbrev pub is_name_byte : ℕ → Bool
is_name_byte c = is_letter c || is_digit c

-- a name has 1 to 16 letters and digits, a letter first
unfoldable pub is_name : List ℕ → Bool
is_name [] = false
is_name (c ∷ cs) = is_letter c && nat_lt (length cs) 16 && list_all is_name_byte cs
