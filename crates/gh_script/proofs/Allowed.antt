-- What holds of a line that meets no cause.
use Rattle.std.proofs.Common.{◌≡◌, ℕ, ◌^◌, ◌<◌, ◌≤◌, Bool, true, false, not, cond, eqb, ltb, ◌||◌, List, [], length, Option, Some, None, refl, arith, unwrap_or, is_none}
use Rattle.std.proofs.lemmas.Bool.{ltb-false, leb-false}
use Rattle.gh_script.proofs.Vocabulary.{bytes_eq, cause_at, Draft, fits_limits, globals_in, is_limit_fault, is_name, is_nesting_fault, is_number_fault, is_twice_fault, is_unknown_fault, is_word_fault, IsSound, Key, least, Limit, most, Nesting, Number, number_in, position-Some, Sentence, Setting, Twice, type_of, Unknown, Word}

-- no test of the table passes
pub record Allowed (draft : Draft) (key : Key) (line : Sentence) : Type 0 where
  pub word : is_word_fault key line ≡ false
  pub number : is_number_fault key line ≡ false
  pub limit : is_limit_fault draft key line ≡ false
  pub twice : is_twice_fault draft key line ≡ false
  pub unknown : is_unknown_fault draft key line ≡ false
  pub nesting : is_nesting_fault draft key ≡ false

record Six (a b c d e f : Bool) : Type 0 where
  one : a ≡ false
  two : b ≡ false
  three : c ≡ false
  four : d ≡ false
  five : e ≡ false
  six : f ≡ false

none_of : (a b c d e f : Bool) → cond a (Some Word) (cond b (Some Number) (cond c (Some Limit) (cond d (Some Twice) (cond e (Some Unknown) (cond f (Some Nesting) None))))) ≡ None → Six a b c d e f
none_of a b c d e f h = grind arith

pub allowed : (draft : Draft) (key : Key) (line : Sentence) → cause_at draft key line ≡ None → Allowed draft key line
unfolding cause_at
allowed draft key line h =
    let s = none_of (is_word_fault key line) (is_number_fault key line) (is_limit_fault draft key line) (is_twice_fault draft key line) (is_unknown_fault draft key line) (is_nesting_fault draft key) h in
    record { word = s.one; number = s.two; limit = s.three; twice = s.four; unknown = s.five; nesting = s.six }

pub left_false : (a b : Bool) → (a || b) ≡ false → a ≡ false
left_false a b h = grind arith

pub right_false : (a b : Bool) → (a || b) ≡ false → b ≡ false
right_false a b h = grind arith

pub not_false : (a : Bool) → not a ≡ false → a ≡ true
not_false a h = grind arith

pub setting_small : (draft : Draft) (key : Key) (line : Sentence) (x : Setting) → cause_at draft key line ≡ None → key ≡ Key.Setting x → (least x ≤ number_in line.second) × (number_in line.second ≤ most x)
setting_small draft key line x h e =
    let a = allowed draft (Key.Setting x) line (rw e at h) in
    (ltb-false (number_in line.second) (least x) (left_false _ _ a.limit), ltb-false (most x) (number_in line.second) (right_false (ltb (number_in line.second) (least x)) _ a.limit))

most_small : (x : Setting) → most x ≤ 8388608
most_small x = grind arith

pub setting_fits : (draft : Draft) (key : Key) (line : Sentence) (x : Setting) → cause_at draft key line ≡ None → key ≡ Key.Setting x → number_in line.second < 2 ^ 32
setting_fits draft key line x h e = omega (arith, setting_small draft key line x h e, most_small x)

pub load_small : (draft : Draft) (key : Key) (line : Sentence) → cause_at draft key line ≡ None → key ≡ Key.Load → number_in line.fourth ≤ 65535
load_small draft key line h e = let a = allowed draft Key.Load line (rw e at h) in ltb-false 65535 (number_in line.fourth) a.limit

pub store_small : (draft : Draft) (key : Key) (line : Sentence) → cause_at draft key line ≡ None → key ≡ Key.Store → number_in line.third ≤ 65535
store_small draft key line h e = let a = allowed draft Key.Store line (rw e at h) in ltb-false 65535 (number_in line.third) a.limit

pub get_small : (draft : Draft) (key : Key) (line : Sentence) → cause_at draft key line ≡ None → key ≡ Key.GetGlobal → number_in line.third < globals_in draft.given
get_small draft key line h e = let a = allowed draft Key.GetGlobal line (rw e at h) in leb-false (globals_in draft.given) (number_in line.third) a.limit

pub set_small : (draft : Draft) (key : Key) (line : Sentence) → cause_at draft key line ≡ None → key ≡ Key.SetGlobal → number_in line.second < globals_in draft.given
set_small draft key line h e = let a = allowed draft Key.SetGlobal line (rw e at h) in leb-false (globals_in draft.given) (number_in line.second) a.limit

-- the limit of a setting, given or not
globals_few : (globals : Option ℕ) → ((n : ℕ) → globals ≡ Some n → (1 ≤ n) × (n ≤ 256)) → unwrap_or globals 1 ≤ 256
globals_few globals h = grind arith

pub globals_in-le : (draft : Draft) → IsSound draft → globals_in draft.given ≤ 256
globals_in-le draft sound = globals_few draft.given.globals (sound.given Setting.Globals)

pub type_fits : (draft : Draft) (key : Key) (line : Sentence) → cause_at draft key line ≡ None → key ≡ Key.Type → fits_limits line.third ≡ true
type_fits draft key line h e = let a = allowed draft Key.Type line (rw e at h) in not_false (fits_limits line.third) (left_false _ _ a.limit)

pub type_few : (draft : Draft) (key : Key) (line : Sentence) → cause_at draft key line ≡ None → key ≡ Key.Type → length draft.names < 64
type_few draft key line h e = let a = allowed draft Key.Type line (rw e at h) in leb-false 64 (length draft.names) (right_false (not (fits_limits line.third)) _ a.limit)

pub times_fit : (draft : Draft) (key : Key) (line : Sentence) → cause_at draft key line ≡ None → key ≡ Key.Repeat → (1 ≤ number_in line.second) × (number_in line.second ≤ 200000)
times_fit draft key line h e =
    let a = allowed draft Key.Repeat line (rw e at h) in
    (ltb-false (number_in line.second) 1 (left_false (ltb (number_in line.second) 1) (ltb 200000 (number_in line.second)) a.limit), ltb-false 200000 (number_in line.second) (right_false (ltb (number_in line.second) 1) (ltb 200000 (number_in line.second)) a.limit))

pub name_fits : (draft : Draft) (key : Key) (line : Sentence) → cause_at draft key line ≡ None → key ≡ Key.Go → is_name line.second ≡ true
name_fits draft key line h e =
    let a = allowed draft Key.Go line (rw e at h) in not_false (is_name line.second) (right_false (not (eqb line.count 2)) _ a.word)

place_below : (names : List (List ℕ)) (word : List ℕ) (o : Option ℕ) → type_of names word ≡ o → is_none o ≡ false → unwrap_or o 0 < length names
unfolding type_of
place_below names word None h some = absurd cc
place_below names word (Some t) h some = (position-Some (λ name. bytes_eq name word) names t [] h).0

pub type_of-lt : (draft : Draft) (key : Key) (line : Sentence) → cause_at draft key line ≡ None → key ≡ Key.New → unwrap_or (type_of draft.names line.third) 0 < length draft.names
type_of-lt draft key line h e =
    let a = allowed draft Key.New line (rw e at h) in place_below draft.names line.third (type_of draft.names line.third) refl a.unknown
