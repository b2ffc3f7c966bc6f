use Rattle.std.proofs.Common.{◌≡◌, ◌∙◌, ℕ, List, Some, None, ap, codes, sym, option_map}
use Rattle.gh_command.proofs.Vocabulary.{Bor, first_of, first_value-rows, found_of, is_given, rows_of}
use Rattle.gh_command.proofs.line.check_in.Goals as goal

pub returns-in-Some : goal.returns-in-Some
returns-in-Some c =
    let first : first_of (codes "check") (rows_of (found_of c.args.found.now)) ≡ Some c.in-Some.value.now =
    sym (first_value-rows (found_of c.args.found.now) (codes "check")) ∙ sym c.get_str.ensures ∙ ap (option_map (λ (s : Bor (List ℕ)). s.now)) c.in-Some.is in
    c.eq.ensures ∙ sym (ap is_given first)

pub returns-in-None : goal.returns-in-None
returns-in-None c =
    let none : first_of (codes "check") (rows_of (found_of c.args.found.now)) ≡ None =
    sym (first_value-rows (found_of c.args.found.now) (codes "check")) ∙ sym c.get_str.ensures ∙ ap (option_map (λ (s : Bor (List ℕ)). s.now)) c.in-None.is in
    sym (ap is_given none)
