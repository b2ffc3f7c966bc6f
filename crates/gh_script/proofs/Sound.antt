-- Each line that is read keeps the draft sound.
use Rattle.std.proofs.Common.{◌≡◌, ℕ, ◌+◌, ◌-◌, ◌^◌, ◌<◌, ◌≤◌, Bool, true, false, not, cond, eqb, ltb, leb, ◌&&◌, ◌||◌, List, [], ◌∷◌, ◌++◌, length, take, drop, Option, Some, None, Result, Ok, refl, sym, ap, ◌∙◌, subst, arith, inl, inr, ◌⊎◌, unwrap_or, is_some, All, ◌≢◌, sum_by, leb-true, leb-false}
use Rattle.gh_script.proofs.Vocabulary.{All-append, All-cons, All-drop, All-head, All-nil, All-push, All-take, all_pairs_push, are_letters, are_too_many, AreNamedApart, AreOpenStatements, AreStatements, block_ended, bytes_eq, bytes_eq-Decides, cause_at, continued, digits_value_of, Draft, fields_of, finished_goroutine, FitsShape, Given, given_at, globals_in, Goroutine, goroutines_begun, has_goroutine, is_digit, is_name, is_skipped, is_too_long, IsNamed, IsNewName, IsOpenNamed, IsPacked, IsSound, IsStatement, just_begun, kept, Key, key_of, length_push, list_all, list_any, nil_from_length, number_in, number_spelled, Open, option_and_then, option_map, option_to_list, read_cause, read_key, read_line, register_in, register_named, Repeat, repeat, Sentence, Setting, shape_with, statement_of, statements_in, Stmt, sum_by-append, value_from, Why, with_closed, with_given, with_repeat, with_statement, written_out}
use Rattle.gh_script.proofs.Allowed.{allowed, left_false, right_false, not_false, setting_small, load_small, store_small, get_small, set_small, type_fits, type_few, type_of-lt}
use Rattle.gh_script.proofs.Names.{and_right}
use Rattle.gh_script.proofs.Repeated.{All-repeat}
use Rattle.gh_script.proofs.Written.{in_full}
use Rattle.gh_script.proofs.ShapeLaws.{FitsShape-text, IsPacked-shape_with}

-- ---- words

digit_small : (d n : ℕ) (b : Bool) → (b ≡ true → n < 16) → unwrap_or (cond b (Some n) None) 0 < 16
digit_small d n b h = grind arith

register_small : (word : List ℕ) → register_in word < 16
unfolding register_named
register_small (r ∷ d ∷ []) = digit_small d (d - 48) (eqb r 114 && is_digit d) (λ h. omega (arith, leb-true d 57 (and_right (leb 48 d) (leb d 57) (and_right (eqb r 114) (is_digit d) h))))
register_small (r ∷ t ∷ d ∷ []) = digit_small d (10 + (d - 48)) (((eqb r 114 && eqb t 49) && leb 48 d) && leb d 53) (λ h. omega (arith, leb-true d 53 (and_right ((eqb r 114 && eqb t 49) && leb 48 d) (leb d 53) h)))
register_small _ = omega arith

value_small : (limit v : ℕ) (b : Bool) → 0 < limit → unwrap_or (cond (b && ltb v limit) (Some v) None) 0 < limit
value_small limit v b pos = grind arith

none_or : (limit : ℕ) (b : Bool) (o : Option ℕ) → 0 < limit → unwrap_or o 0 < limit → unwrap_or (cond b None o) 0 < limit
none_or limit b o pos h = grind arith

number_small : (word : List ℕ) → number_in word < 2 ^ 64
unfolding number_spelled digits_value_of
number_small word = none_or (2 ^ 64) (eqb (length word) 0 || ltb 20 (length word)) (cond (list_all is_digit word && ltb (value_from 0 word) (2 ^ 64)) (Some (value_from 0 word)) None) (omega arith) (value_small (2 ^ 64) (value_from 0 word) (list_all is_digit word) (omega arith))

-- ---- statements

single : (P : Stmt → Type 0) (s : Stmt) → P s → All P (s ∷ [])
single P s h = All-cons P s [] h (All-nil P)

statement_keeps : (draft : Draft) (key : Key) (line : Sentence) → cause_at draft key line ≡ None → All (IsStatement (globals_in draft.given) (length draft.names)) (option_to_list (statement_of draft.names key line))
statement_keeps draft Key.New line h = single (IsStatement (globals_in draft.given) (length draft.names)) _ (register_small line.second, type_of-lt draft Key.New line h refl)
statement_keeps draft Key.Load line h = single (IsStatement (globals_in draft.given) (length draft.names)) _ (register_small line.second, register_small line.third, load_small draft Key.Load line h refl)
statement_keeps draft Key.Store line h = single (IsStatement (globals_in draft.given) (length draft.names)) _ (register_small line.second, store_small draft Key.Store line h refl, register_small line.fourth)
statement_keeps draft Key.GetGlobal line h = single (IsStatement (globals_in draft.given) (length draft.names)) _ (register_small line.second, get_small draft Key.GetGlobal line h refl)
statement_keeps draft Key.SetGlobal line h = single (IsStatement (globals_in draft.given) (length draft.names)) _ (set_small draft Key.SetGlobal line h refl, register_small line.third)
statement_keeps draft Key.Int line h = single (IsStatement (globals_in draft.given) (length draft.names)) _ (register_small line.second, number_small line.third)
statement_keeps draft Key.Move line h = single (IsStatement (globals_in draft.given) (length draft.names)) _ (register_small line.second, register_small line.third)
statement_keeps draft Key.Nil line h = single (IsStatement (globals_in draft.given) (length draft.names)) _ (register_small line.second)
statement_keeps draft Key.Gc line h = single (IsStatement (globals_in draft.given) (length draft.names)) _ tt
statement_keeps draft key line h = All-nil (IsStatement (globals_in draft.given) (length draft.names))

-- ---- settings

given_cases : (given : Given) (x : Setting) (n : ℕ) (y : Setting) (m : ℕ) → given_at (with_given given x n) y ≡ Some m → ((y ≡ x) × (n ≡ m)) ⊎ (given_at given y ≡ Some m)
given_cases given x n y m h = grind arith

-- ---- before the first goroutine

pub record Unbegun (draft : Draft) : Type 0 where
  pub closed : draft.closed ≡ []
  pub current : option_to_list draft.current ≡ []

unbegun : (draft : Draft) → leb 1 (goroutines_begun draft) ≡ false → Unbegun draft
unbegun draft h =
    let none : goroutines_begun draft < 1 = leb-false 1 (goroutines_begun draft) h in
    record { closed = nil_from_length draft.closed (omega arith); current = nil_from_length (option_to_list draft.current) (omega arith) }

-- ---- one line

set_sound : (draft : Draft) (x : Setting) (line : Sentence) → IsSound draft → cause_at draft (Key.Setting x) line ≡ None → IsSound (continued draft (Key.Setting x) line)
unfolding continued
set_sound draft x line s h =
    let a = allowed draft (Key.Setting x) line h in
    let u = unbegun draft a.nesting in
    let n = number_in line.second in
    let limits = setting_small draft (Key.Setting x) line x h refl in
    let good = AreStatements (globals_in (with_given draft.given x n)) (length draft.names) in
    record {
      given = λ y m e. elim (given_cases draft.given x n y m e) [
        | inl same ↦ rw (same.0, ← same.1) limits
        | inr before ↦ s.given y m before
      ];
      types = s.types;
      named = s.named;
      shapes_fit = s.shapes_fit;
      shapes_packed = s.shapes_packed;
      goroutines = s.goroutines;
      closed_names = s.closed_names;
      open_names = s.open_names;
      names_apart = s.names_apart;
      open_apart = s.open_apart;
      statements = rw u.closed (All-nil (AreStatements (globals_in (with_given draft.given x (number_in line.second))) (length draft.names)));
      open_statements = rw u.current (All-nil (AreOpenStatements (globals_in (with_given draft.given x (number_in line.second))) (length draft.names)));
      few_statements = s.few_statements;
    }

type_sound : (draft : Draft) (line : Sentence) → IsSound draft → cause_at draft Key.Type line ≡ None → IsSound (continued draft Key.Type line)
unfolding continued
type_sound draft line s h =
    let a = allowed draft Key.Type line h in
    let u = unbegun draft a.nesting in
    let letters = not_false (are_letters line.third) (right_false (not (is_name line.second)) (not (are_letters line.third)) (right_false (not (eqb line.count 3)) _ a.word)) in
    let shape = FitsShape-text line.third letters (type_fits draft Key.Type line h refl) in
    let few = type_few draft Key.Type line h refl in
    record {
      given = s.given;
      types = omega (arith, length_push draft.names line.second);
      named = length_push draft.shapes (shape_with (fields_of line.third)) ∙ ap (λ (n : ℕ). n + 1) s.named ∙ sym (length_push draft.names line.second);
      shapes_fit = All-push FitsShape draft.shapes (shape_with (fields_of line.third)) s.shapes_fit shape;
      shapes_packed = All-push IsPacked draft.shapes (shape_with (fields_of line.third)) s.shapes_packed (IsPacked-shape_with (fields_of line.third));
      goroutines = s.goroutines;
      closed_names = s.closed_names;
      open_names = s.open_names;
      names_apart = s.names_apart;
      open_apart = s.open_apart;
      statements = rw u.closed (All-nil (AreStatements (globals_in draft.given) (length (draft.names ++ line.second ∷ []))));
      open_statements = rw u.current (All-nil (AreOpenStatements (globals_in draft.given) (length (draft.names ++ line.second ∷ []))));
      few_statements = s.few_statements;
    }

-- a name that has not begun differs from those that have ended
differs : (word : List ℕ) (closed : List Goroutine) → list_any (λ g. bytes_eq g.name word) closed ≡ false → All (λ other. other.name ≢ word) closed
differs word [] h = All-nil (λ other. other.name ≢ word)
differs word (g ∷ gs) h =
    All-cons (λ other. other.name ≢ word) g gs (λ same. let is : bytes_eq g.name word ≡ true = (bytes_eq-Decides g.name word).1 same in let not : bytes_eq g.name word ≡ false = left_false (bytes_eq g.name word) (list_any (λ g. bytes_eq g.name word) gs) h in cc)
    (differs word gs (right_false (bytes_eq g.name word) (list_any (λ g. bytes_eq g.name word) gs) h))

new_name : (draft : Draft) (word : List ℕ) → has_goroutine draft word ≡ false → All (λ other. other.name ≢ word) draft.closed
unfolding has_goroutine
new_name draft word h = differs word draft.closed (left_false (list_any (λ g. bytes_eq g.name word) draft.closed) (list_any (λ g. bytes_eq g.name word) (option_to_list draft.current)) h)

none_open : (o : Option Open) → is_some o ≡ false → length (option_to_list o) ≡ 0
none_open o h = grind arith

begin_sound : (draft : Draft) (line : Sentence) → IsSound draft → cause_at draft Key.Go line ≡ None → IsSound (continued draft Key.Go line)
unfolding continued
begin_sound draft line s h =
    let a = allowed draft Key.Go line h in
    let few : goroutines_begun draft < 32 = leb-false 32 (goroutines_begun draft) a.limit in
    let none = none_open draft.current a.nesting in
    let name = not_false (is_name line.second) (right_false (not (eqb line.count 2)) (not (is_name line.second)) a.word) in
    record {
      given = s.given;
      types = s.types;
      named = s.named;
      shapes_fit = s.shapes_fit;
      shapes_packed = s.shapes_packed;
      goroutines = omega arith;
      closed_names = s.closed_names;
      open_names = All-cons IsOpenNamed (just_begun line.second) [] name (All-nil IsOpenNamed);
      names_apart = s.names_apart;
      open_apart = All-cons (IsNewName draft.closed) (just_begun line.second) [] (new_name draft line.second a.twice) (All-nil (IsNewName draft.closed));
      statements = s.statements;
      open_statements = All-cons (AreOpenStatements (globals_in draft.given) (length draft.names)) (just_begun line.second) [] (All-nil (IsStatement (globals_in draft.given) (length draft.names))) (All-nil (AreOpenStatements (globals_in draft.given) (length draft.names)));
      few_statements = s.few_statements;
    }

-- ---- the open goroutine

-- what the open goroutine keeps
record Keeps (globals types : ℕ) (closed : List Goroutine) (g : Open) : Type 0 where
  name : IsOpenNamed g
  apart : IsNewName closed g
  said : AreOpenStatements globals types g

keeps : (draft : Draft) (g : Open) → IsSound draft → draft.current ≡ Some g → Keeps (globals_in draft.given) (length draft.names) draft.closed g
keeps draft g s e =
    let one : option_to_list draft.current ≡ g ∷ [] = ap option_to_list e in
    record {
      name = All-head IsOpenNamed g [] (subst (All IsOpenNamed) one s.open_names);
      apart = All-head (IsNewName draft.closed) g [] (subst (All (IsNewName draft.closed)) one s.open_apart);
      said = All-head (AreOpenStatements (globals_in draft.given) (length draft.names)) g [] (subst (All (AreOpenStatements (globals_in draft.given) (length draft.names))) one s.open_statements);
    }

-- the open goroutine is another, or still none
changed : (draft : Draft) (current : Option Open) → IsSound draft → length (option_to_list current) ≡ length (option_to_list draft.current)
    → ((g : Open) → current ≡ Some g → Keeps (globals_in draft.given) (length draft.names) draft.closed g) → IsSound (record draft { current = current })
changed draft None s count k = record {
  given = s.given;
  types = s.types;
  named = s.named;
  shapes_fit = s.shapes_fit;
  shapes_packed = s.shapes_packed;
  goroutines = omega (arith, count, s.goroutines);
  closed_names = s.closed_names;
  open_names = All-nil IsOpenNamed;
  names_apart = s.names_apart;
  open_apart = All-nil (IsNewName draft.closed);
  statements = s.statements;
  open_statements = All-nil (AreOpenStatements (globals_in draft.given) (length draft.names));
  few_statements = s.few_statements;
}
changed draft (Some g) s count k =
    let kept = k g refl in
    record {
      given = s.given;
      types = s.types;
      named = s.named;
      shapes_fit = s.shapes_fit;
      shapes_packed = s.shapes_packed;
      goroutines = omega (arith, count, s.goroutines);
      closed_names = s.closed_names;
      open_names = All-cons IsOpenNamed g [] kept.name (All-nil IsOpenNamed);
      names_apart = s.names_apart;
      open_apart = All-cons (IsNewName draft.closed) g [] kept.apart (All-nil (IsNewName draft.closed));
      statements = s.statements;
      open_statements = All-cons (AreOpenStatements (globals_in draft.given) (length draft.names)) g [] kept.said (All-nil (AreOpenStatements (globals_in draft.given) (length draft.names)));
      few_statements = s.few_statements;
    }

kept_all : (P : Stmt → Type 0) (ss : List Stmt) (b : Bool) → All P ss → All P (unwrap_or (cond b None (Some ss)) [])
kept_all P ss b h = grind arith

All-kept : (P : Stmt → Type 0) (ss : List Stmt) → All P ss → All P (unwrap_or (kept ss) [])
unfolding kept
All-kept P ss h = kept_all P ss (ltb 200000 (length ss)) h

said_all : (P : Stmt → Type 0) (o : Option (List Stmt)) (statement : Option Stmt) → All P (unwrap_or o []) → All P (option_to_list statement) → All P (unwrap_or (option_and_then (λ ss. kept (ss ++ option_to_list statement)) o) [])
said_all P None statement h new = h
said_all P (Some ss) statement h new = All-kept P (ss ++ option_to_list statement) (All-append P ss (option_to_list statement) h new)

All-written_out : (P : Stmt → Type 0) (innermost : Repeat) (ss : List Stmt) → All P ss → All P (unwrap_or (written_out innermost ss) [])
unfolding written_out
All-written_out P innermost ss h =
    All-kept P (in_full innermost ss) (All-append P (take innermost.start ss) (repeat innermost.times (drop innermost.start ss)) (All-take P innermost.start ss h) (All-repeat P innermost.times (drop innermost.start ss) (All-drop P innermost.start ss h)))

closed_all : (P : Stmt → Type 0) (o : Option (List Stmt)) (innermost : Repeat) → All P (unwrap_or o []) → All P (unwrap_or (option_and_then (written_out innermost) o) [])
closed_all P None innermost h = h
closed_all P (Some ss) innermost h = All-written_out P innermost ss h

closed_said : (P : Stmt → Type 0) (g : Open) (repeats : List Repeat) → All P (unwrap_or g.statements []) → All P (unwrap_or (with_closed g repeats).statements [])
closed_said P g [] h = h
closed_said P g (innermost ∷ others) h = closed_all P g.statements innermost h

closed_name : (g : Open) (repeats : List Repeat) → (with_closed g repeats).name ≡ g.name
closed_name g repeats = grind arith

same_count : (f : Open → Open) (o : Option Open) → length (option_to_list (option_map f o)) ≡ length (option_to_list o)
same_count f o = grind arith

mapped : (f : Open → Open) (o : Option Open) (g : Open) → option_map f o ≡ Some g → (h : Open) × (o ≡ Some h) × (f h ≡ g)
mapped f o g e = grind arith

say_sound : (draft : Draft) (key : Key) (line : Sentence) → IsSound draft → cause_at draft key line ≡ None
    → IsSound (record draft { current = option_map (with_statement (statement_of draft.names key line)) draft.current })
say_sound draft key line s h =
    let P = IsStatement (globals_in draft.given) (length draft.names) in
    let f = with_statement (statement_of draft.names key line) in
    changed draft (option_map (with_statement (statement_of draft.names key line)) draft.current) s (same_count (with_statement (statement_of draft.names key line)) draft.current) (λ g e.
    let w = mapped (with_statement (statement_of draft.names key line)) draft.current g e in
    let k = keeps draft w.0 s w.1 in
    subst (Keeps (globals_in draft.given) (length draft.names) draft.closed) w.2
    (record { name = k.name; apart = k.apart; said = said_all (IsStatement (globals_in draft.given) (length draft.names)) w.0.statements (statement_of draft.names key line) k.said (statement_keeps draft key line h) }))

repeat_sound : (draft : Draft) (times : ℕ) → IsSound draft → IsSound (record draft { current = option_map (with_repeat times) draft.current })
repeat_sound draft times s = grind (arith, changed, keeps, mapped, same_count)

-- ---- `end`

few_in : (closed : List Goroutine) (o : Option (List Stmt)) → are_too_many closed o ≡ false → sum_by statements_in closed + length (unwrap_or o []) ≤ 200000
few_in closed o h = grind arith

close_sound : (draft : Draft) (g : Open) → IsSound draft → draft.current ≡ Some g → are_too_many draft.closed g.statements ≡ false → IsSound (record draft { closed = draft.closed ++ finished_goroutine g ∷ []; current = None })
close_sound draft g s e few =
    let k = keeps draft g s e in
    let total = few_in draft.closed g.statements few in
    let one : length (option_to_list draft.current) ≡ 1 = ap (λ (o : Option Open). length (option_to_list o)) e in
    record {
      given = s.given;
      types = s.types;
      named = s.named;
      shapes_fit = s.shapes_fit;
      shapes_packed = s.shapes_packed;
      goroutines = omega (arith, length_push draft.closed (finished_goroutine g), s.goroutines, one);
      closed_names = All-push IsNamed draft.closed (finished_goroutine g) s.closed_names k.name;
      open_names = All-nil IsOpenNamed;
      names_apart = all_pairs_push AreNamedApart draft.closed (finished_goroutine g) s.names_apart k.apart;
      open_apart = All-nil (IsNewName (draft.closed ++ finished_goroutine g ∷ []));
      statements = All-push (AreStatements (globals_in draft.given) (length draft.names)) draft.closed (finished_goroutine g) s.statements k.said;
      open_statements = All-nil (AreOpenStatements (globals_in draft.given) (length draft.names));
      few_statements = omega (arith, sum_by-append statements_in draft.closed (finished_goroutine g ∷ []), total);
    }

end_by : (draft : Draft) (g : Open) (none : Bool) → IsSound draft → draft.current ≡ Some g → (none && are_too_many draft.closed g.statements) ≡ false
    → IsSound (cond none (record draft { closed = draft.closed ++ finished_goroutine g ∷ []; current = None }) (record draft { current = Some (with_closed g g.repeats) }))
end_by draft g true s e h = close_sound draft g s e h
end_by draft g false s e h =
    let k = keeps draft g s e in
    changed draft (Some (with_closed g g.repeats)) s (sym (ap (λ (o : Option Open). length (option_to_list o)) e)) (λ other same.
    let is : with_closed g g.repeats ≡ other = cc in
    subst (Keeps (globals_in draft.given) (length draft.names) draft.closed) is (record {
      name = ap is_name (closed_name g g.repeats) ∙ k.name;
      apart = subst (λ (n : List ℕ). All (λ other. other.name ≢ n) draft.closed) (sym (closed_name g g.repeats)) k.apart;
      said = closed_said (IsStatement (globals_in draft.given) (length draft.names)) g g.repeats k.said;
    }))

end_sound : (draft : Draft) (current : Option Open) → IsSound draft → draft.current ≡ current → is_too_long draft.closed current ≡ false → IsSound (block_ended draft current)
end_sound draft None s e h = s
end_sound draft (Some g) s e h = end_by draft g (eqb (length g.repeats) 0) s e h

IsSound-continued : (draft : Draft) (key : Key) (line : Sentence) → IsSound draft → cause_at draft key line ≡ None → IsSound (continued draft key line)
unfolding continued
IsSound-continued draft (Key.Setting x) line s h = set_sound draft x line s h
IsSound-continued draft Key.Type line s h = type_sound draft line s h
IsSound-continued draft Key.Go line s h = begin_sound draft line s h
IsSound-continued draft Key.Repeat line s h = repeat_sound draft (number_in line.second) s
IsSound-continued draft Key.End line s h = end_sound draft draft.current s refl (allowed draft Key.End line h).limit
IsSound-continued draft key line s h = say_sound draft key line s h

cause_sound : (draft new : Draft) (key : Key) (line : Sentence) (cause : Option Why) → IsSound draft → cause_at draft key line ≡ cause → read_cause draft key line cause ≡ Ok new → IsSound new
cause_sound draft new key line None s h e = let same : continued draft key line ≡ new = cc in subst IsSound same (IsSound-continued draft key line s h)
cause_sound draft new key line (Some why) s h e = absurd cc

key_sound : (draft new : Draft) (key : Option Key) (line : Sentence) → IsSound draft → read_key draft key line ≡ Ok new → IsSound new
key_sound draft new None line s e = absurd cc
key_sound draft new (Some key) line s e = cause_sound draft new key line (cause_at draft key line) s refl e

skip_sound : (draft new : Draft) (read : Result Draft Why) (skipped : Bool) → IsSound draft → (read ≡ Ok new → IsSound new) → cond skipped (Ok draft) read ≡ Ok new → IsSound new
skip_sound draft new read skipped s h e = grind arith

pub IsSound-read_line : (draft new : Draft) (line : Sentence) → IsSound draft → read_line draft line ≡ Ok new → IsSound new
unfolding read_line
IsSound-read_line draft new line sound h = skip_sound draft new (read_key draft (key_of line.first) line) (is_skipped line) sound (key_sound draft new (key_of line.first) line sound) h
