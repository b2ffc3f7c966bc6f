-- The subcommands, and what is found of the choices of each.
use Rattle.std.proofs.Common.{◌≡◌, ◌∙◌, ℕ, Bool, refl, ap, ap₂, List, Option, Some, None, codes, arith, option_and_then, slice_get}
use Rattle.gh_command.proofs.Vocabulary.{budget, Choice, chosen, first_of, found_check, found_list, found_plain, found_replay, found_script, is_given, Line, LineOption, list_said, no_options, number_said, one_of, option_or, plain_of, replay_by, replay_of, replay_options, Row, row_text, script_asked_for, script_by, script_options, seed, Text, Turn, u64_of}
use Rattle.gh_command.proofs.CommandLineEnd.{IsRead, Sub, default_named, defaulted, found_defaulted}
use Rattle.gh_command.proofs.CommandLineRows.{read_made, rows_made}

-- `run` and `verify`
abbrev pub plain_sub : Text → Line → Sub
plain_sub name line = record { name = name; options = no_options; found = found_plain line; of = plain_of line }

abbrev pub replay_sub : Sub
replay_sub = record { name = codes "replay"; options = replay_options; found = found_replay; of = replay_of }

-- `gen` and `soak`
abbrev pub script_sub : Text → (ℕ → ℕ → Line) → Sub
script_sub name does = record { name = name; options = script_options; found = found_script does; of = script_asked_for does }

-- ---- what is found of an option

one_found : (options : List LineOption) (name : Text) (made : List Choice)
    → one_of name (defaulted options (rows_made made)) ≡ option_or (chosen name made) (option_and_then row_text (default_named name options))
one_found options name made = ap (option_and_then row_text) (found_defaulted name options (rows_made made)) ∙ read_made row_text (λ s id v. refl) name made (default_named name options)

first_found : (options : List LineOption) (name : Text) (made : List Choice)
    → first_of name (defaulted options (rows_made made)) ≡ option_or (chosen name made) (option_and_then (λ r. slice_get r.values 0) (default_named name options))
first_found options name made =
    ap (option_and_then (λ (r : Row). slice_get r.values 0)) (found_defaulted name options (rows_made made))
    ∙ read_made (λ (r : Row). slice_get r.values 0) (λ s id v. refl) name made (default_named name options)

-- a flag that is not chosen stands for `false`, which says that it is not given
given_default : (o : Option Text) → is_given (option_or o (Some (codes "false"))) ≡ is_given (option_or o None)
given_default o = grind arith

-- ---- what is found of a line

pub plain_read : (name : Text) (line : Line) → IsRead (plain_sub name line)
plain_read name line = record { fitting = refl; same = λ made. refl }

found_replay_is : (made : List Choice) → found_replay (defaulted replay_options (rows_made made)) ≡ replay_of made
found_replay_is made =
    ap₂ (λ (turns drawn : Option ℕ). replay_by turns drawn (found_list rows) (found_check rows))
    (ap (option_and_then u64_of) (one_found replay_options (codes "budget") made)) (ap (option_and_then u64_of) (one_found replay_options (codes "seed") made))
    ∙ ap₂ (λ (turns : Option (List Turn)) (given : Bool). replay_by (number_said budget made) (number_said seed made) turns given)
    (ap list_said (first_found replay_options (codes "list") made)) (ap is_given (first_found replay_options (codes "check") made) ∙ given_default (chosen (codes "check") made))
  where
    rows : List Row
    rows = defaulted replay_options (rows_made made)

pub replay_read : IsRead replay_sub
replay_read = grind (arith, found_replay_is)

pub script_read : (name : Text) (does : ℕ → ℕ → Line) → IsRead (script_sub name does)
script_read name does = record {
  fitting = refl;
  same = λ made.
      ap₂ (λ (drawn size : Option ℕ). script_by does drawn size)
      (ap (option_and_then u64_of) (one_found script_options (codes "seed") made)) (ap (option_and_then u64_of) (one_found script_options (codes "size") made));
}
