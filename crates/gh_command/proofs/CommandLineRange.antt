-- The numbers of a line that is taken are in their ranges.
use Rattle.std.proofs.Common.{◌≡◌, ◌≤◌, ◌||◌, ◌++◌, ℕ, Bool, true, false, not, refl, ap, subst, List, [], ◌∷◌, Option, Some, None, codes, arith, find, if◌then◌else◌, option_and_then, option_map}
use Rattle.gh_command.proofs.Vocabulary.{asked_for, begun, budget, bytes_eq, bytes_eq-Decides, Choice, choices, chosen, command_line, ended, flag_value, Gen, is_chosen, is_end, is_flag, is_number_in, is_value, Line, LineOption, long_of, next, no_options, number_said, option_or, option_takes, plain_of, Reading, Replay, replay_by, replay_of, replay_options, Run, script_asked_for, script_by, script_options, seed, size, Soak, Text, Turn, u64_of, Verify, with_choice, with_flag}

-- ---- each choice is a flag, or of a value that its option takes

module _ (options : List LineOption) where
  abbrev pub fits : Text → Text → Bool
  fits name value = is_flag options name || option_takes options name value

  abbrev pub Taken : List Choice → Type 0
  Taken [] = Unit {0}
  Taken (c ∷ made) = (fits c.0 c.1 ≡ true) × Taken made

  abbrev pub TakenBy : Option (List Choice) → Type 0
  TakenBy None = Unit {0}
  TakenBy (Some made) = Taken made

  abbrev TakenIn : Option Reading → Type 0
  TakenIn None = Unit {0}
  TakenIn (Some reading) = Taken reading.0

  fits_taken : (b c : Bool) → c ≡ true → (b || c) ≡ true
  fits_taken b c e = grind arith

  taken_more : (made : List Choice) (n v : Text) → Taken made → fits n v ≡ true → Taken (made ++ (n, v) ∷ [])
  taken_more [] n v t e = (e, tt)
  taken_more (c ∷ made) n v t e = (t.0, taken_more made n v t.1 e)

  taken_choice : (made : List Choice) (n v : Text) → Taken made → TakenBy (with_choice options made n v)
  taken_choice made n v t = grind (arith, fits_taken, taken_more)

  taken_flag : (made : List Choice) (n : Text) → is_flag options n ≡ true → Taken made → TakenBy (with_flag made n)
  taken_flag made n is t = go (not (is_chosen n made))
    where
      go : (a : Bool) → TakenBy (if a then Some (made ++ (n, flag_value) ∷ []) else None)
      go true = taken_more made n flag_value t (ap (λ (b : Bool). b || option_takes options n flag_value) is)
      go false = tt

  taken_settled : (o : Option (List Choice)) → TakenBy o → TakenIn (option_map (λ (made : List Choice). (made, None)) o)
  taken_settled o t = grind arith

  taken_begun : (made : List Choice) (l : Option (Text × Option Text)) → Taken made → TakenIn (option_and_then (begun options made) l)
  taken_begun made None t = tt
  taken_begun made (Some (n, None)) t = go (is_flag options n) refl
    where
      go : (b : Bool) → is_flag options n ≡ b → TakenIn (if b then option_map (λ (made : List Choice). (made, None)) (with_flag made n) else Some (made, Some n))
      go true is = taken_settled (with_flag made n) (taken_flag made n is t)
      go false is = t
  taken_begun made (Some (n, Some v)) t = taken_settled (with_choice options made n v) (taken_choice made n v t)

  taken_next : (made : List Choice) (waiting : Option Text) (word : Text) → Taken made → TakenIn (next options made waiting word)
  taken_next made None word t = taken_begun made (long_of word) t
  taken_next made (Some n) word t = go (is_value word)
    where
      go : (b : Bool) → TakenIn (if b then option_map (λ (made : List Choice). (made, None)) (with_choice options made n word) else None)
      go true = taken_settled (with_choice options made n word) (taken_choice made n word t)
      go false = tt

  taken_ended : (made : List Choice) (waiting : Option Text) → Taken made → TakenBy (ended options made waiting)
  taken_ended made waiting t = grind arith

  abbrev Keeps : List Text → Type 0
  Keeps words = (made : List Choice) (waiting : Option Text) → Taken made → TakenBy (choices options made waiting words)

  taken_word : (word : Text) (rest : List Text) → Keeps rest → Keeps (word ∷ rest)
  taken_word word rest keeps made waiting t = go (bytes_eq word (codes "--")) (is_end rest) (next options made waiting word) (taken_next made waiting word t)
    where
      go : (e l : Bool) (o : Option Reading) → TakenIn o
          → TakenBy (if e then (if l then ended options made waiting else None) else option_and_then (λ (reading : Reading). choices options reading.0 reading.1 rest) o)
      go e l o n = grind arith

  pub taken_words : (words : List Text) → Keeps words
  taken_words [] = taken_ended
  taken_words (word ∷ rest) = taken_word word rest (taken_words rest)

  -- the value of an option is one that it takes
  pub chosen_fits : (name : Text) (made : List Choice) (v : Text) → Taken made → chosen name made ≡ Some v → fits name v ≡ true
  chosen_fits name [] v t e = absurd cc
  chosen_fits name (c ∷ made) v t e = go (bytes_eq c.0 name) refl (chosen_fits name made v t.1)
    where
      go : (b : Bool) → bytes_eq c.0 name ≡ b → (chosen name made ≡ Some v → fits name v ≡ true) → fits name v ≡ true
      go true b ih =
          let is : c.1 ≡ v = let f : Some c.1 ≡ Some v = subst (λ (o : Option Choice). option_map (λ (d : Choice). d.1) o ≡ Some v) (first b) e in cc in
          subst (λ (u : Text). fits name u ≡ true) is (subst (λ (n : Text). fits n c.1 ≡ true) ((bytes_eq-Decides c.0 name).0 b) t.0)
        where
          first : bytes_eq c.0 name ≡ true → find (λ (d : Choice). bytes_eq d.0 name) (c ∷ made) ≡ Some c
          first b = rw b refl
      go false b ih = ih (subst (λ (o : Option Choice). option_map (λ (d : Choice). d.1) o ≡ Some v) (later b) e)
        where
          later : bytes_eq c.0 name ≡ false → find (λ (d : Choice). bytes_eq d.0 name) (c ∷ made) ≡ find (λ (d : Choice). bytes_eq d.0 name) made
          later b = rw b refl

-- ---- the numbers

abbrev IsIn : ℕ → ℕ → ℕ → Type 0
IsIn least most n = (least ≤ n) × (n ≤ most)

-- all that an option may be given is in its range
abbrev AllIn : ℕ → ℕ → Option Text → Type 0
AllIn least most o = (v : Text) → o ≡ Some v → is_number_in least most v ≡ true

said_in_range : (least most : ℕ) (o d : Option Text) (n : ℕ) → AllIn least most o → AllIn least most d → option_and_then u64_of (option_or o d) ≡ Some n → IsIn least most n
said_in_range least most o d n chosen default u = grind arith

budget_default : AllIn 1 1000000000 budget.default
budget_default v e = let is : codes "50000000" ≡ v = cc in subst (λ (w : Text). is_number_in 1 1000000000 w ≡ true) is refl

no_default : (least most : ℕ) → AllIn least most None
no_default least most v e = absurd cc

-- ---- the lines

abbrev pub IsInRange : Option Line → Type 0
IsInRange (Some (Replay plan n check)) = IsIn 1 1000000000 n
IsInRange (Some (Gen drawn n)) = IsIn 4 200000 n
IsInRange (Some (Soak drawn n)) = IsIn 4 200000 n
IsInRange _ = Unit {0}

replay_in : (turns drawn : Option ℕ) (list : Option (List Turn)) (given : Bool) → ((n : ℕ) → turns ≡ Some n → IsIn 1 1000000000 n) → IsInRange (replay_by turns drawn list given)
replay_in turns drawn list given is = grind arith

gen_in : (drawn many : Option ℕ) → ((n : ℕ) → many ≡ Some n → IsIn 4 200000 n) → IsInRange (script_by Gen drawn many)
gen_in drawn many is = grind arith

soak_in : (drawn many : Option ℕ) → ((n : ℕ) → many ≡ Some n → IsIn 4 200000 n) → IsInRange (script_by Soak drawn many)
soak_in drawn many is = grind arith

run_asked : (o : Option (List Choice)) → IsInRange (option_and_then (plain_of Run) o)
run_asked o = grind arith

verify_asked : (o : Option (List Choice)) → IsInRange (option_and_then (plain_of Verify) o)
verify_asked o = grind arith

replay_asked : (o : Option (List Choice)) → TakenBy replay_options o → IsInRange (option_and_then replay_of o)
replay_asked None t = tt
replay_asked (Some made) t =
    replay_in (number_said budget made) (number_said seed made) _ _
    (λ n is. said_in_range 1 1000000000 (chosen (codes "budget") made) budget.default n (λ v e. chosen_fits replay_options (codes "budget") made v t e) budget_default is)

size_said : (made : List Choice) → Taken script_options made → (n : ℕ) → number_said size made ≡ Some n → IsIn 4 200000 n
size_said made t n is = said_in_range 4 200000 (chosen (codes "size") made) None n (λ v e. chosen_fits script_options (codes "size") made v t e) (no_default 4 200000) is

gen_asked : (o : Option (List Choice)) → TakenBy script_options o → IsInRange (option_and_then (script_asked_for Gen) o)
gen_asked None t = tt
gen_asked (Some made) t = gen_in (number_said seed made) (number_said size made) (size_said made t)

soak_asked : (o : Option (List Choice)) → TakenBy script_options o → IsInRange (option_and_then (script_asked_for Soak) o)
soak_asked None t = tt
soak_asked (Some made) t = soak_in (number_said seed made) (number_said size made) (size_said made t)

pub numbers_in_range : (words : List Text) → IsInRange (command_line words)
numbers_in_range [] = tt
numbers_in_range (program ∷ []) = tt
numbers_in_range (program ∷ name ∷ words) = go (bytes_eq name (codes "run")) (bytes_eq name (codes "replay")) (bytes_eq name (codes "gen")) (bytes_eq name (codes "soak")) (bytes_eq name (codes "verify"))
  where
    go : (a b c d e : Bool)
        → IsInRange (if a then asked_for no_options (plain_of Run) words
        else (if b then asked_for replay_options replay_of words
        else (if c then asked_for script_options (script_asked_for Gen) words
        else (if d then asked_for script_options (script_asked_for Soak) words else (if e then asked_for no_options (plain_of Verify) words else None)))))
    go true b c d e = run_asked (choices no_options [] None words)
    go false true c d e = replay_asked (choices replay_options [] None words) (taken_words replay_options words [] None tt)
    go false false true d e = gen_asked (choices script_options [] None words) (taken_words script_options words [] None tt)
    go false false false true e = soak_asked (choices script_options [] None words) (taken_words script_options words [] None tt)
    go false false false false true = verify_asked (choices no_options [] None words)
    go false false false false false = tt
