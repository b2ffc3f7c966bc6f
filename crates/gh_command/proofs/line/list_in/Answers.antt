use Rattle.std.proofs.Common.{◌≡◌, ◌∙◌, ℕ, List, IfOk, Option, Some, None, ap, codes, subst, sym, option_map}
use Rattle.gh_command.proofs.Vocabulary.{Bor, first_of, first_value-rows, found_of, list_said, rows_of, Turn}
use Rattle.gh_command.proofs.line.list_in.Goals as goal

-- src/line.rt:79:1
pub returns-in-Some : goal.returns-in-Some
returns-in-Some c =
    let first : first_of (codes "list") (rows_of (found_of c.args.found.now)) ≡ Some c.in-Some.text.now =
    sym (first_value-rows (found_of c.args.found.now) (codes "list")) ∙ sym c.get_str.ensures ∙ ap (option_map (λ (s : Bor (List ℕ)). s.now)) c.in-Some.is in
    subst (λ (l : Option (List Turn)). IfOk c.parse_list.result (λ list. option_map (λ turns. turns.items) list ≡ l)) (sym (ap list_said first)) c.parse_list.ensures

-- src/line.rt:80:1
pub returns-in-None : goal.returns-in-None
returns-in-None c =
    let none : first_of (codes "list") (rows_of (found_of c.args.found.now)) ≡ None =
    sym (first_value-rows (found_of c.args.found.now) (codes "list")) ∙ sym c.get_str.ensures ∙ ap (option_map (λ (s : Bor (List ℕ)). s.now)) c.in-None.is in
    ap (λ (xs : List Turn). Some xs) c.new.ensures.items ∙ sym (ap list_said none)
