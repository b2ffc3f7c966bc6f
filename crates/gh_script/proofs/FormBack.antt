-- A text that has the form of a script spells it: each of its lines is taken in its turn.
use Rattle.std.proofs.Common.{◌≡◌, ℕ, zero, suc, ◌+◌, ◌<◌, ◌≤◌, Bool, true, false, not, cond, eqb, leb, ◌&&◌, List, [], ◌∷◌, ◌++◌, length, map, Option, Some, None, Result, Ok, refl, sym, ap, ◌∙◌, subst, append_assoc, arith, get_or, All, is_some, fold, ◌≢◌, AllPairs, sum_by, le-ltb, append-nil, length-append}
use Rattle.gh_script.proofs.Vocabulary.{All-head, All-tail, are_too_many, AreApart, AreNamedApart, blank_draft, Block, bytes_eq, bytes_eq-Decides, cause_at, continued, Draft, fields_of, fits_limits, flat_map, get_or_append_left, get_or_at, Given, given_at, given_by_key, go_on, Goroutine, goroutine_by, goroutines_begun, has_goroutine, HasForm, inside, is_skipped, IsBlock, IsHead, IsHeadKey, IsRoutine, IsTaken, IsTakenAs, kept, Key, key_of, length-map, length_push, lines_in, lines_of, list_any, lt-leb, names_by, Nothing, number_in, Open, option_map, option_to_list, position_or_len, position_or_len_is, Program, program_in, read_end, read_key, read_line, read_lines, Repeat, repeat, Repeated, Routine, routine_lines, said_in, Say, sayings, ScriptFault, Sentence, Setting, Settings, settings_by, settings_in, Shape, shape_with, shapes_by, Spells, statement_by_key, statement_of, statements_by, statements_in, Stmt, sum_by-append, then_end, type_of, with_given, with_statement, written_out}
use Rattle.gh_script.proofs.Allowed.{allowed, left_false, times_fit}
use Rattle.gh_script.proofs.Written.{kept_some, written_behind, some_repeat, ended_repeat}
use Rattle.gh_script.proofs.Readings.{reading_of-text}
use Rattle.gh_script.proofs.FormSaid.{cause_none, or_false, none_given}

-- each line is taken in its turn
abbrev Steps : Draft → List Sentence → Draft → Type 0
Steps draft [] new = draft ≡ new
Steps draft (l ∷ ls) new = (key : Key) × (key_of l.first ≡ Some key) × (cause_at draft key l ≡ None) × Steps (continued draft key l) ls new

Steps-append : (draft mid new : Draft) (xs ys : List Sentence) → Steps draft xs mid → Steps mid ys new → Steps draft (xs ++ ys) new
Steps-append draft mid new [] ys s t = subst (λ (d : Draft). Steps d ys new) (sym s) t
Steps-append draft mid new (x ∷ xs) ys s t = (s.0, s.1, s.2, Steps-append (continued draft s.0 x) mid new xs ys s.3 t)

one_line : (draft new : Draft) (n : ℕ) (line : Sentence) (lines : List (List ℕ)) (skipped : Bool) → Steps draft (cond (not skipped) (line ∷ sayings lines) (sayings lines)) new
    → ((next : Draft) → Steps next (sayings lines) new → read_lines next (n + 1) lines ≡ Ok new)
    → go_on (λ next. read_lines next (n + 1) lines) (n + 1) (cond skipped (Ok draft) (read_key draft (key_of line.first) line)) ≡ Ok new
one_line draft new n line lines skipped s rest = grind arith

unfold_line : (draft : Draft) (line : Sentence) → read_line draft line ≡ cond (is_skipped line) (Ok draft) (read_key draft (key_of line.first) line)
unfolding read_line
unfold_line draft line = refl

Steps-read : (draft new : Draft) (n : ℕ) (lines : List (List ℕ)) → Steps draft (sayings lines) new → read_lines draft n lines ≡ Ok new
unfolding read_lines sayings
Steps-read draft new n [] s = ap (λ (d : Draft). Ok d) s
Steps-read draft new n (line ∷ lines) s =
    ap (go_on (λ next. read_lines next (n + 1) lines) (n + 1)) (unfold_line draft (said_in line))
    ∙ one_line draft new n (said_in line) lines (is_skipped (said_in line)) s (λ next t. Steps-read next new (n + 1) lines t)

-- ---- the head

-- the draft when the rest of the head is read
abbrev head_end : Draft → List Sentence → Draft
head_end draft rest = record draft { given = fold (λ given line. given_by_key given line (key_of line.first)) draft.given rest; names = draft.names ++ names_by rest; shapes = draft.shapes ++ shapes_by rest }

record Ready (draft : Draft) (rest : List Sentence) : Type 0 where
  heads : All IsHead rest
  taken : All (IsTaken blank_draft) rest
  once : AllPairs AreApart rest
  fresh : All (λ line. (x : Setting) → key_of line.first ≡ Some (Key.Setting x) → is_some (given_at draft.given x) ≡ false) rest
  apart : AllPairs (λ a b. a ≢ b) (draft.names ++ names_by rest)
  few : length (draft.names ++ names_by rest) ≤ 64
  begun : goroutines_begun draft ≡ 0

other_fresh : (given : Given) (x : Setting) (n : ℕ) (y : Setting) → (x ≡ y → ⊥) → is_some (given_at given y) ≡ false → is_some (given_at (with_given given x n) y) ≡ false
other_fresh given x n y h e = grind arith

pairs_tail : {X : Type 0} (R : X → X → Type 0) (x : X) (xs : List X) → AllPairs R (x ∷ xs) → AllPairs R xs
pairs_tail R x xs h = λ i j d lt below. h (suc i) (suc j) d (omega arith) (omega arith)

pairs_head : {X : Type 0} (R : X → X → Type 0) (x : X) (xs : List X) → AllPairs R (x ∷ xs) → All (R x) xs
pairs_head R x xs h = λ k d lt. h 0 (suc k) d (omega arith) (omega arith)

test_false : (a b : List ℕ) (t : Bool) → bytes_eq a b ≡ t → a ≢ b → bytes_eq a b ≡ false
test_false a b true e ne = absurd (ne ((bytes_eq-Decides a b).0 e))
test_false a b false e ne = e

-- a name that differs from each type's has no type
no_type_of : (names : List (List ℕ)) (word : List ℕ) → ((k : ℕ) (d : List ℕ) → k < length names → get_or names k d ≢ word) → is_some (type_of names word) ≡ false
unfolding type_of
no_type_of names word h =
    let none : position_or_len (λ name. bytes_eq name word) names ≡ length names =
    position_or_len_is (λ name. bytes_eq name word) names (length names) [] (omega arith) (λ k lt. test_false (get_or names k []) word (bytes_eq (get_or names k []) word) refl (h k [] lt)) (λ lt. absurd (omega arith)) in
    rw (none, le-ltb (length names) (length names) (omega arith)) refl

new_name : (names more : List (List ℕ)) (word : List ℕ) → AllPairs (λ a b. a ≢ b) (names ++ word ∷ more) → (k : ℕ) (d : List ℕ) → k < length names → get_or names k d ≢ word
new_name names more word apart k d lt same =
    let one : get_or (names ++ word ∷ more) k d ≡ get_or names k d = get_or_append_left names (word ∷ more) d k lt in
    let two : get_or (names ++ word ∷ more) (length names) d ≡ word = get_or_at names word more d (length names) refl in
    apart k (length names) d lt (omega (arith, length-append names (word ∷ more))) (one ∙ same ∙ sym two)

names_set : (x : Setting) (l : Sentence) (ls : List Sentence) → key_of l.first ≡ Some (Key.Setting x) → names_by (l ∷ ls) ≡ names_by ls
names_set x l ls e = rw e refl

shapes_set : (x : Setting) (l : Sentence) (ls : List Sentence) → key_of l.first ≡ Some (Key.Setting x) → shapes_by (l ∷ ls) ≡ shapes_by ls
shapes_set x l ls e = rw e refl

names_type : (l : Sentence) (ls : List Sentence) → key_of l.first ≡ Some Key.Type → names_by (l ∷ ls) ≡ l.second ∷ names_by ls
names_type l ls e = rw e refl

shapes_type : (l : Sentence) (ls : List Sentence) → key_of l.first ≡ Some Key.Type → shapes_by (l ∷ ls) ≡ shape_with (fields_of l.third) ∷ shapes_by ls
shapes_type l ls e = rw e refl

abbrev gives : Given → Sentence → Given
gives given line = given_by_key given line (key_of line.first)

abbrev made : Draft → Given → List (List ℕ) → List Shape → Draft
made draft given names shapes = record draft { given = given; names = names; shapes = shapes }

made_same : (draft : Draft) (g h : Given) (ns ms : List (List ℕ)) (ss ts : List Shape) → g ≡ h → ns ≡ ms → ss ≡ ts → made draft g ns ss ≡ made draft h ms ts
made_same draft g h ns ms ss ts p q r = ap (λ (x : Given). made draft x ns ss) p ∙ ap (λ (x : List (List ℕ)). made draft h x ss) q ∙ ap (λ (x : List Shape). made draft h ms x) r

set_step : (draft : Draft) (x : Setting) (l : Sentence) (ls : List Sentence) → key_of l.first ≡ Some (Key.Setting x) → Ready draft (l ∷ ls) → ((next : Draft) → Ready next ls → Steps next ls (head_end next ls)) → Steps draft (l ∷ ls) (head_end draft (l ∷ ls))
unfolding continued
set_step draft x l ls e r rest =
    let a = allowed blank_draft (Key.Setting x) l (All-head (IsTaken blank_draft) l ls r.taken (Key.Setting x) e) in
    let c : cause_at draft (Key.Setting x) l ≡ None = cause_none draft (Key.Setting x) l (record {
      word = a.word;
      number = a.number;
      limit = a.limit;
      twice = All-head (λ line. (y : Setting) → key_of line.first ≡ Some (Key.Setting y) → is_some (given_at draft.given y) ≡ false) l ls r.fresh x e;
      unknown = refl;
      nesting = lt-leb 1 (goroutines_begun draft) (omega (arith, r.begun));
    }) in
    let n = number_in l.second in
    let same : head_end (continued draft (Key.Setting x) l) ls ≡ head_end draft (l ∷ ls) =
    made_same draft (fold gives (with_given draft.given x (number_in l.second)) ls) (fold gives draft.given (l ∷ ls)) (draft.names ++ names_by ls) (draft.names ++ names_by (l ∷ ls)) (draft.shapes ++ shapes_by ls) (draft.shapes ++ shapes_by (l ∷ ls))
    (ap (λ (g : Given). fold gives g ls) (sym (ap (given_by_key draft.given l) e)))
    (ap (λ (ns : List (List ℕ)). draft.names ++ ns) (sym (names_set x l ls e)))
    (ap (λ (ss : List Shape). draft.shapes ++ ss) (sym (shapes_set x l ls e))) in
    let ready : Ready (continued draft (Key.Setting x) l) ls = record {
      heads = All-tail IsHead l ls r.heads;
      taken = All-tail (IsTaken blank_draft) l ls r.taken;
      once = pairs_tail AreApart l ls r.once;
      fresh = λ k d lt y f. other_fresh draft.given x (number_in l.second) y
          (λ equal. pairs_head AreApart l ls r.once k d lt y (e ∙ ap (λ (z : Setting). Some (Key.Setting z)) equal) f)
          (All-tail (λ line. (z : Setting) → key_of line.first ≡ Some (Key.Setting z) → is_some (given_at draft.given z) ≡ false) l ls r.fresh k d lt y f);
      apart = subst (λ (ns : List (List ℕ)). AllPairs (λ a b. a ≢ b) (draft.names ++ ns)) (names_set x l ls e) r.apart;
      few = subst (λ (ns : List (List ℕ)). length (draft.names ++ ns) ≤ 64) (names_set x l ls e) r.few;
      begun = r.begun;
    } in
    (Key.Setting x, e, c, subst (λ (d : Draft). Steps (continued draft (Key.Setting x) l) ls d) same (rest (continued draft (Key.Setting x) l) ready))

type_step : (draft : Draft) (l : Sentence) (ls : List Sentence) → key_of l.first ≡ Some Key.Type → Ready draft (l ∷ ls) → ((next : Draft) → Ready next ls → Steps next ls (head_end next ls)) → Steps draft (l ∷ ls) (head_end draft (l ∷ ls))
unfolding continued
type_step draft l ls e r rest =
    let a = allowed blank_draft Key.Type l (All-head (IsTaken blank_draft) l ls r.taken Key.Type e) in
    let apart : AllPairs (λ a b. a ≢ b) (draft.names ++ l.second ∷ names_by ls) = subst (λ (ns : List (List ℕ)). AllPairs (λ a b. a ≢ b) (draft.names ++ ns)) (names_type l ls e) r.apart in
    let few : length (draft.names ++ l.second ∷ names_by ls) ≤ 64 = subst (λ (ns : List (List ℕ)). length (draft.names ++ ns) ≤ 64) (names_type l ls e) r.few in
    let below : length draft.names < 64 = omega (arith, length-append draft.names (l.second ∷ names_by ls)) in
    let c : cause_at draft Key.Type l ≡ None = cause_none draft Key.Type l (record {
      word = a.word;
      number = a.number;
      limit = or_false (not (fits_limits l.third)) (leb 64 (length draft.names)) (left_false (not (fits_limits l.third)) _ a.limit) (lt-leb 64 (length draft.names) below);
      twice = no_type_of draft.names l.second (new_name draft.names (names_by ls) l.second apart);
      unknown = refl;
      nesting = lt-leb 1 (goroutines_begun draft) (omega (arith, r.begun));
    }) in
    let names : (draft.names ++ l.second ∷ []) ++ names_by ls ≡ draft.names ++ l.second ∷ names_by ls = append_assoc draft.names (l.second ∷ []) (names_by ls) in
    let same : head_end (continued draft Key.Type l) ls ≡ head_end draft (l ∷ ls) =
    made_same draft (fold gives draft.given ls) (fold gives draft.given (l ∷ ls)) ((draft.names ++ l.second ∷ []) ++ names_by ls) (draft.names ++ names_by (l ∷ ls))
    ((draft.shapes ++ shape_with (fields_of l.third) ∷ []) ++ shapes_by ls) (draft.shapes ++ shapes_by (l ∷ ls))
    (ap (λ (g : Given). fold gives g ls) (sym (ap (given_by_key draft.given l) e)))
    (names ∙ ap (λ (ns : List (List ℕ)). draft.names ++ ns) (sym (names_type l ls e)))
    (append_assoc draft.shapes (shape_with (fields_of l.third) ∷ []) (shapes_by ls) ∙ ap (λ (ss : List Shape). draft.shapes ++ ss) (sym (shapes_type l ls e))) in
    let ready : Ready (continued draft Key.Type l) ls = record {
      heads = All-tail IsHead l ls r.heads;
      taken = All-tail (IsTaken blank_draft) l ls r.taken;
      once = pairs_tail AreApart l ls r.once;
      fresh = All-tail (λ line. (z : Setting) → key_of line.first ≡ Some (Key.Setting z) → is_some (given_at draft.given z) ≡ false) l ls r.fresh;
      apart = subst (λ (ns : List (List ℕ)). AllPairs (λ a b. a ≢ b) ns) (sym names) apart;
      few = subst (λ (ns : List (List ℕ)). length ns ≤ 64) (sym names) few;
      begun = r.begun;
    } in
    (Key.Type, e, c, subst (λ (d : Draft). Steps (continued draft Key.Type l) ls d) same (rest (continued draft Key.Type l) ready))

head_by_key : (draft : Draft) (l : Sentence) (ls : List Sentence) (key : Option Key) → key_of l.first ≡ key → IsHeadKey key → Ready draft (l ∷ ls) → ((next : Draft) → Ready next ls → Steps next ls (head_end next ls)) → Steps draft (l ∷ ls) (head_end draft (l ∷ ls))
head_by_key draft l ls None e h r rest = absurd h
head_by_key draft l ls (Some (Key.Setting x)) e h r rest = set_step draft x l ls e r rest
head_by_key draft l ls (Some Key.Type) e h r rest = type_step draft l ls e r rest
head_by_key draft l ls (Some key) e h r rest = absurd h

head_steps : (draft : Draft) (rest : List Sentence) → Ready draft rest → Steps draft rest (head_end draft rest)
head_steps draft [] r = made_same draft draft.given draft.given draft.names (draft.names ++ []) draft.shapes (draft.shapes ++ []) refl (sym (append-nil draft.names)) (sym (append-nil draft.shapes))
head_steps draft (l ∷ ls) r = head_by_key draft l ls (key_of l.first) refl (All-head IsHead l ls r.heads) r (λ next ready. head_steps next ls ready)

-- ---- blocks

-- a goroutine is open, with these statements and these open `repeat`s
abbrev at : Draft → List ℕ → List Stmt → List Repeat → Draft
at draft name ss repeats = record draft { current = Some (record { name = name; statements = Some ss; repeats = repeats }) }

-- one statement
say_step : (draft : Draft) (name : List ℕ) (ss : List Stmt) (repeats : List Repeat) (key : Key) (l : Sentence) → key_of l.first ≡ Some key → cause_at (at draft name ss repeats) key l ≡ None
    → continued (at draft name ss repeats) key l ≡ record draft { current = option_map (with_statement (statement_of draft.names key l)) (at draft name ss repeats).current }
    → length (ss ++ option_to_list (statement_by_key draft.names l (key_of l.first))) ≤ 200000
    → Steps (at draft name ss repeats) (l ∷ []) (at draft name (ss ++ option_to_list (statement_by_key draft.names l (key_of l.first))) repeats)
say_step draft name ss repeats key l e c next few =
    let same : statement_by_key draft.names l (key_of l.first) ≡ statement_of draft.names key l = ap (statement_by_key draft.names l) e in
    let all : kept (ss ++ option_to_list (statement_of draft.names key l)) ≡ Some (ss ++ option_to_list (statement_by_key draft.names l (key_of l.first))) =
    ap (λ (o : Option Stmt). kept (ss ++ option_to_list o)) (sym same) ∙ kept_some (ss ++ option_to_list (statement_by_key draft.names l (key_of l.first))) few in
    (key, e, c, next ∙ ap (λ (o : Option (List Stmt)). record draft { current = Some (record { name = name; statements = o; repeats = repeats }) }) all)

say_by_key : (draft : Draft) (name : List ℕ) (ss : List Stmt) (repeats : List Repeat) (l : Sentence) (key : Option Key) (s : Stmt) → key_of l.first ≡ key → statement_by_key draft.names l key ≡ Some s → IsTaken (inside draft.given draft.names) l
    → length (ss ++ option_to_list (statement_by_key draft.names l (key_of l.first))) ≤ 200000
    → Steps (at draft name ss repeats) (l ∷ []) (at draft name (ss ++ option_to_list (statement_by_key draft.names l (key_of l.first))) repeats)
unfolding continued
say_by_key draft name ss repeats l None s e is t few = absurd cc
say_by_key draft name ss repeats l (Some (Key.Setting x)) s e is t few = absurd cc
say_by_key draft name ss repeats l (Some Key.Type) s e is t few = absurd cc
say_by_key draft name ss repeats l (Some Key.Go) s e is t few = absurd cc
say_by_key draft name ss repeats l (Some Key.Repeat) s e is t few = absurd cc
say_by_key draft name ss repeats l (Some Key.End) s e is t few = absurd cc
say_by_key draft name ss repeats l (Some Key.New) s e is t few =
    let a = allowed (inside draft.given draft.names) Key.New l (t Key.New e) in
    say_step draft name ss repeats Key.New l e (cause_none (at draft name ss repeats) Key.New l (record { word = a.word; number = a.number; limit = a.limit; twice = a.twice; unknown = a.unknown; nesting = refl })) refl few
say_by_key draft name ss repeats l (Some Key.Load) s e is t few =
    let a = allowed (inside draft.given draft.names) Key.Load l (t Key.Load e) in
    say_step draft name ss repeats Key.Load l e (cause_none (at draft name ss repeats) Key.Load l (record { word = a.word; number = a.number; limit = a.limit; twice = a.twice; unknown = a.unknown; nesting = refl })) refl few
say_by_key draft name ss repeats l (Some Key.Store) s e is t few =
    let a = allowed (inside draft.given draft.names) Key.Store l (t Key.Store e) in
    say_step draft name ss repeats Key.Store l e (cause_none (at draft name ss repeats) Key.Store l (record { word = a.word; number = a.number; limit = a.limit; twice = a.twice; unknown = a.unknown; nesting = refl })) refl few
say_by_key draft name ss repeats l (Some Key.GetGlobal) s e is t few =
    let a = allowed (inside draft.given draft.names) Key.GetGlobal l (t Key.GetGlobal e) in
    say_step draft name ss repeats Key.GetGlobal l e (cause_none (at draft name ss repeats) Key.GetGlobal l (record { word = a.word; number = a.number; limit = a.limit; twice = a.twice; unknown = a.unknown; nesting = refl })) refl few
say_by_key draft name ss repeats l (Some Key.SetGlobal) s e is t few =
    let a = allowed (inside draft.given draft.names) Key.SetGlobal l (t Key.SetGlobal e) in
    say_step draft name ss repeats Key.SetGlobal l e (cause_none (at draft name ss repeats) Key.SetGlobal l (record { word = a.word; number = a.number; limit = a.limit; twice = a.twice; unknown = a.unknown; nesting = refl })) refl few
say_by_key draft name ss repeats l (Some Key.Int) s e is t few =
    let a = allowed (inside draft.given draft.names) Key.Int l (t Key.Int e) in
    say_step draft name ss repeats Key.Int l e (cause_none (at draft name ss repeats) Key.Int l (record { word = a.word; number = a.number; limit = a.limit; twice = a.twice; unknown = a.unknown; nesting = refl })) refl few
say_by_key draft name ss repeats l (Some Key.Move) s e is t few =
    let a = allowed (inside draft.given draft.names) Key.Move l (t Key.Move e) in
    say_step draft name ss repeats Key.Move l e (cause_none (at draft name ss repeats) Key.Move l (record { word = a.word; number = a.number; limit = a.limit; twice = a.twice; unknown = a.unknown; nesting = refl })) refl few
say_by_key draft name ss repeats l (Some Key.Nil) s e is t few =
    let a = allowed (inside draft.given draft.names) Key.Nil l (t Key.Nil e) in
    say_step draft name ss repeats Key.Nil l e (cause_none (at draft name ss repeats) Key.Nil l (record { word = a.word; number = a.number; limit = a.limit; twice = a.twice; unknown = a.unknown; nesting = refl })) refl few
say_by_key draft name ss repeats l (Some Key.Gc) s e is t few =
    let a = allowed (inside draft.given draft.names) Key.Gc l (t Key.Gc e) in
    say_step draft name ss repeats Key.Gc l e (cause_none (at draft name ss repeats) Key.Gc l (record { word = a.word; number = a.number; limit = a.limit; twice = a.twice; unknown = a.unknown; nesting = refl })) refl few

opens_none : (draft : Draft) (name : List ℕ) (ss : List Stmt) (repeats : List Repeat) (l : Sentence) → cause_at (inside draft.given draft.names) Key.Repeat l ≡ None → length repeats < 8 → cause_at (at draft name ss repeats) Key.Repeat l ≡ None
opens_none draft name ss repeats l c few =
    let a = allowed (inside draft.given draft.names) Key.Repeat l c in
    cause_none (at draft name ss repeats) Key.Repeat l (record { word = a.word; number = a.number; limit = a.limit; twice = refl; unknown = refl; nesting = lt-leb 8 (length repeats) few })

closes_none : (draft : Draft) (name : List ℕ) (ss : List Stmt) (innermost : Repeat) (others : List Repeat) (l : Sentence) → cause_at (inside draft.given draft.names) Key.End l ≡ None → cause_at (at draft name ss (innermost ∷ others)) Key.End l ≡ None
closes_none draft name ss innermost others l c =
    let a = allowed (inside draft.given draft.names) Key.End l c in
    cause_none (at draft name ss (innermost ∷ others)) Key.End l (record { word = a.word; number = a.number; limit = ap (λ (b : Bool). b && are_too_many draft.closed (Some ss)) (some_repeat innermost others); twice = refl; unknown = refl; nesting = refl })

closes_step : (draft : Draft) (name : List ℕ) (front body : List Stmt) (times : ℕ) (others : List Repeat) (l : Sentence) → IsTakenAs (inside draft.given draft.names) Key.End l → length (front ++ repeat times body) ≤ 200000
    → Steps (at draft name (front ++ body) (record { start = length front; times = times } ∷ others)) (l ∷ []) (at draft name (front ++ repeat times body) others)
unfolding continued
closes_step draft name front body times others l t few =
    let innermost : Repeat = record { start = length front; times = times } in
    let g : Open = record { name = name; statements = Some (front ++ body); repeats = innermost ∷ others } in
    let d : Draft = at draft name (front ++ body) (innermost ∷ others) in
    let written : written_out innermost (front ++ body) ≡ Some (front ++ repeat times body) = written_behind front body times ∙ kept_some (front ++ repeat times body) few in (
      Key.End,
      t.0,
      closes_none draft name (front ++ body) innermost others l t.1,
      ended_repeat d g innermost others refl ∙ ap (λ (o : Option (List Stmt)). record draft { current = Some (record { name = name; statements = o; repeats = others }) }) written,
    )

-- a body that stands at least once isn't longer than its repetitions
repeat_longer : (times : ℕ) (body : List Stmt) → 1 ≤ times → length body ≤ length (repeat times body)
repeat_longer zero body h = absurd (omega arith)
repeat_longer (suc n) body h = omega (arith, length-append body (repeat n body))

block_steps : (draft : Draft) (name : List ℕ) (ss : List Stmt) (repeats : List Repeat) (around : ℕ) (block : Block) → around ≡ length repeats → IsBlock draft.given draft.names around block → length ss + length (statements_by draft.names block) ≤ 200000
    → Steps (at draft name ss repeats) (lines_in block) (at draft name (ss ++ statements_by draft.names block) repeats)
unfolding continued
block_steps draft name ss repeats around Nothing e h few = ap (λ (l : List Stmt). at draft name l repeats) (sym (append-nil ss))
block_steps draft name ss repeats around (Say before line) e h few =
    let more = length-append (statements_by draft.names before) (option_to_list (statement_by_key draft.names line (key_of line.first))) in
    let all : (ss ++ statements_by draft.names before) ++ option_to_list (statement_by_key draft.names line (key_of line.first)) ≡ ss ++ statements_by draft.names (Say before line) =
    append_assoc ss (statements_by draft.names before) (option_to_list (statement_by_key draft.names line (key_of line.first))) in
    let count : length ((ss ++ statements_by draft.names before) ++ option_to_list (statement_by_key draft.names line (key_of line.first))) ≤ 200000 =
    omega (arith, ap length all, length-append ss (statements_by draft.names (Say before line)), few) in
    Steps-append (at draft name ss repeats) (at draft name (ss ++ statements_by draft.names before) repeats) (at draft name (ss ++ statements_by draft.names (Say before line)) repeats) (lines_in before) (line ∷ [])
    (block_steps draft name ss repeats around before e h.0 (omega (arith, more, few)))
    (subst (λ (l : List Stmt). Steps (at draft name (ss ++ statements_by draft.names before) repeats) (line ∷ []) (at draft name l repeats)) all
    (say_by_key draft name (ss ++ statements_by draft.names before) repeats line (key_of line.first) h.1.0 refl h.1.1 h.2 count))
block_steps draft name ss repeats around (Repeated before opens body closes) e h few =
    let front : List Stmt = ss ++ statements_by draft.names before in
    let innermost : Repeat = record { start = length front; times = number_in opens.second } in
    let some = times_fit (inside draft.given draft.names) Key.Repeat opens h.1.1 refl in
    let longer = repeat_longer (number_in opens.second) (statements_by draft.names body) some.0 in
    let split = length-append (statements_by draft.names before) (repeat (number_in opens.second) (statements_by draft.names body)) in
    let fronts = length-append ss (statements_by draft.names before) in
    let all : front ++ repeat (number_in opens.second) (statements_by draft.names body) ≡ ss ++ statements_by draft.names (Repeated before opens body closes) =
    append_assoc ss (statements_by draft.names before) (repeat (number_in opens.second) (statements_by draft.names body)) in
    let whole = length-append front (repeat (number_in opens.second) (statements_by draft.names body)) in
    let ends = closes_step draft name front (statements_by draft.names body) (number_in opens.second) repeats closes h.4 (omega (arith, whole, fronts, split, few)) in
    Steps-append (at draft name ss repeats) (at draft name front repeats) (at draft name (ss ++ statements_by draft.names (Repeated before opens body closes)) repeats) (lines_in before) (opens ∷ (lines_in body ++ closes ∷ []))
    (block_steps draft name ss repeats around before e h.0 (omega (arith, split, few))) (
      Key.Repeat,
      h.1.0,
      opens_none draft name front repeats opens h.1.1 (omega (arith, h.2, e)),
      Steps-append (at draft name front (innermost ∷ repeats)) (at draft name (front ++ statements_by draft.names body) (innermost ∷ repeats)) (at draft name (ss ++ statements_by draft.names (Repeated before opens body closes)) repeats) (lines_in body) (closes ∷ [])
          (block_steps draft name front (innermost ∷ repeats) (around + 1) body (omega (arith, e)) h.3 (omega (arith, longer, fronts, split, few)))
          (subst (λ (l : List Stmt). Steps (at draft name (front ++ statements_by draft.names body) (innermost ∷ repeats)) (closes ∷ []) (at draft name l repeats)) all ends),
    )

-- ---- goroutines

-- a name that differs from those of the goroutines is none of theirs
not_among : (closed : List Goroutine) (word : List ℕ) → All (λ g. g.name ≢ word) closed → list_any (λ g. bytes_eq g.name word) closed ≡ false
not_among [] word h = refl
not_among (g ∷ gs) word h =
    or_false (bytes_eq g.name word) (list_any (λ g. bytes_eq g.name word) gs) (test_false g.name word (bytes_eq g.name word) refl (All-head (λ g. g.name ≢ word) g gs h)) (not_among gs word (All-tail (λ g. g.name ≢ word) g gs h))

name_free : (draft : Draft) (word : List ℕ) → draft.current ≡ None → All (λ g. g.name ≢ word) draft.closed → has_goroutine draft word ≡ false
unfolding has_goroutine
name_free draft word e h = or_false (list_any (λ g. bytes_eq g.name word) draft.closed) (list_any (λ g. bytes_eq g.name word) (option_to_list draft.current)) (not_among draft.closed word h) (ap (λ (o : Option Open). list_any (λ g. bytes_eq g.name word) (option_to_list o)) e)

-- each earlier goroutine has another name than this one
earlier_apart : (before : List Goroutine) (g : Goroutine) (others : List Goroutine) → AllPairs AreNamedApart (before ++ g ∷ others) → All (λ h. h.name ≢ g.name) before
earlier_apart before g others apart k d lt same =
    let one : get_or (before ++ g ∷ others) k d ≡ get_or before k d = get_or_append_left before (g ∷ others) d k lt in
    let two : get_or (before ++ g ∷ others) (length before) d ≡ g = get_or_at before g others d (length before) refl in
    apart k (length before) d lt (omega (arith, length-append before (g ∷ others))) (ap (λ (x : Goroutine). x.name) one ∙ same ∙ sym (ap (λ (x : Goroutine). x.name) two))

-- with one more goroutine
abbrev with_routine : Draft → Goroutine → Draft
with_routine draft g = record draft { closed = draft.closed ++ g ∷ []; current = None }

routine_steps : (draft : Draft) (r : Routine) → draft.current ≡ None → IsRoutine draft.given draft.names r → length draft.closed < 32 → All (λ g. g.name ≢ r.go.second) draft.closed
    → sum_by statements_in draft.closed + length (statements_by draft.names r.block) ≤ 200000 → Steps draft (routine_lines r) (with_routine draft (goroutine_by draft.names r))
unfolding continued
routine_steps draft r e h few apart total =
    let a = allowed blank_draft Key.Go r.go h.begins.1 in
    let begun : goroutines_begun draft < 32 = omega (arith, few, ap (λ (o : Option Open). length (option_to_list o)) e) in
    let goes : cause_at draft Key.Go r.go ≡ None = cause_none draft Key.Go r.go (record { word = a.word; number = a.number; limit = lt-leb 32 (goroutines_begun draft) begun; twice = name_free draft r.go.second e apart; unknown = refl; nesting = ap is_some e }) in
    let b = allowed (inside draft.given draft.names) Key.End r.last h.ends.1 in
    let d : Draft = at draft r.go.second (statements_by draft.names r.block) [] in
    let ends : cause_at d Key.End r.last ≡ None =
    cause_none d Key.End r.last (record { word = b.word; number = b.number; limit = le-ltb 200000 (sum_by statements_in draft.closed + length (statements_by draft.names r.block)) total; twice = refl; unknown = refl; nesting = refl }) in (
      Key.Go,
      h.begins.0,
      goes,
      Steps-append (at draft r.go.second [] []) d (with_routine draft (goroutine_by draft.names r)) (lines_in r.block) (r.last ∷ [])
          (block_steps draft r.go.second [] [] 0 r.block refl h.block (omega (arith, total)))
          (Key.End, h.ends.0, ends, refl),
    )

routines_steps : (draft : Draft) (names : List (List ℕ)) (routines : List Routine) → draft.names ≡ names → draft.current ≡ None → All (IsRoutine draft.given draft.names) routines → length draft.closed + length routines ≤ 32
    → AllPairs AreNamedApart (draft.closed ++ map (goroutine_by names) routines) → sum_by statements_in (draft.closed ++ map (goroutine_by names) routines) ≤ 200000
    → Steps draft (flat_map routine_lines routines) (record draft { closed = draft.closed ++ map (goroutine_by names) routines; current = None })
routines_steps draft names [] n e h few apart total = ap (λ (o : Option Open). record draft { current = o }) e ∙ ap (λ (l : List Goroutine). record draft { closed = l; current = None }) (sym (append-nil draft.closed))
routines_steps draft names (r ∷ rs) n e h few apart total =
    let same : goroutine_by draft.names r ≡ goroutine_by names r = ap (λ (l : List (List ℕ)). goroutine_by l r) n in
    let all : (draft.closed ++ goroutine_by draft.names r ∷ []) ++ map (goroutine_by names) rs ≡ draft.closed ++ map (goroutine_by names) (r ∷ rs) =
    append_assoc draft.closed (goroutine_by draft.names r ∷ []) (map (goroutine_by names) rs) ∙ ap (λ (x : Goroutine). draft.closed ++ x ∷ map (goroutine_by names) rs) same in
    let first = sum_by-append statements_in draft.closed (map (goroutine_by names) (r ∷ rs)) in
    let head : sum_by statements_in (map (goroutine_by names) (r ∷ rs)) ≡ length (statements_by names r.block) + sum_by statements_in (map (goroutine_by names) rs) =
    sum_by-append statements_in (goroutine_by names r ∷ []) (map (goroutine_by names) rs) ∙ omega arith in
    let size : length (statements_by draft.names r.block) ≡ length (statements_by names r.block) = ap (λ (l : List (List ℕ)). length (statements_by l r.block)) n in
    let one = routine_steps draft r e (All-head (IsRoutine draft.given draft.names) r rs h) (omega (arith, few)) (earlier_apart draft.closed (goroutine_by names r) (map (goroutine_by names) rs) apart) (omega (arith, first, head, size, total)) in
    let rest = routines_steps (with_routine draft (goroutine_by draft.names r)) names rs n refl (All-tail (IsRoutine draft.given draft.names) r rs h) (omega (arith, few, length_push draft.closed (goroutine_by draft.names r)))
    (subst (AllPairs AreNamedApart) (sym all) apart) (subst (λ (l : List Goroutine). sum_by statements_in l ≤ 200000) (sym all) total) in
    Steps-append draft (with_routine draft (goroutine_by draft.names r)) (record draft { closed = draft.closed ++ map (goroutine_by names) (r ∷ rs); current = None }) (routine_lines r) (flat_map routine_lines rs) one
    (subst (λ (l : List Goroutine). Steps (with_routine draft (goroutine_by draft.names r)) (flat_map routine_lines rs) (record draft { closed = l; current = None })) all rest)

-- ---- the whole text

ready_blank : (text : List ℕ) (p : Program) (f : HasForm text p) → Ready blank_draft f.head
ready_blank text p f = record {
  heads = f.heads;
  taken = f.heads_taken;
  once = f.once;
  fresh = λ k d lt x e. none_given x;
  apart = f.names_apart;
  few = f.few_types;
  begun = omega arith;
}

-- the draft when all is read
abbrev at_end : List Sentence → List Routine → Draft
at_end head routines = record {
  given = settings_by head;
  names = names_by head;
  shapes = shapes_by head;
  closed = map (goroutine_by (names_by head)) routines;
  current = None;
}

all_steps : (text : List ℕ) (p : Program) (f : HasForm text p) → Steps blank_draft (f.head ++ flat_map routine_lines f.routines) (at_end f.head f.routines)
all_steps text p f =
    Steps-append blank_draft (head_end blank_draft f.head) (at_end f.head f.routines) f.head (flat_map routine_lines f.routines) (head_steps blank_draft f.head (ready_blank text p f))
    (routines_steps (head_end blank_draft f.head) (names_by f.head) f.routines refl refl f.right (omega (arith, f.few_goroutines)) (subst (AllPairs AreNamedApart) f.goroutines f.goroutines_apart) (subst (λ (l : List Goroutine). sum_by statements_in l ≤ 200000) f.goroutines f.few_statements))

some_listed : (closed : List Goroutine) → 1 ≤ length closed → eqb (length closed) 0 ≡ false
some_listed closed h = grind arith

ended_well : (n : ℕ) (head : List Sentence) (routines : List Routine) → 1 ≤ length routines → read_end n (at_end head routines) ≡ Ok (program_in (at_end head routines))
unfolding read_end
ended_well n head routines some = rw (some_listed (map (goroutine_by (names_by head)) routines) (omega (arith, length-map routines (goroutine_by (names_by head)), some))) refl

abbrev program : Settings → List Shape → List Goroutine → Program
program settings shapes goroutines = record { settings = settings; shapes = shapes; goroutines = goroutines }

abbrev ok_program : Program → Result Program ScriptFault
ok_program p = Ok p

program_same : (p : Program) (settings : Settings) (shapes : List Shape) (goroutines : List Goroutine) → p.settings ≡ settings → p.shapes ≡ shapes → p.goroutines ≡ goroutines → record { settings = settings; shapes = shapes; goroutines = goroutines } ≡ p
program_same p settings shapes goroutines a b c =
    ap (λ (s : Settings). program s shapes goroutines) (sym a) ∙ ap (λ (s : List Shape). program p.settings s goroutines) (sym b) ∙ ap (λ (s : List Goroutine). program p.settings p.shapes s) (sym c)

pub Spells-HasForm : (text : List ℕ) (p : Program) → HasForm text p → Spells text p
Spells-HasForm text p f =
    let steps : Steps blank_draft (sayings (lines_of text)) (at_end f.head f.routines) = subst (λ (ls : List Sentence). Steps blank_draft ls (at_end f.head f.routines)) (sym f.lines) (all_steps text p f) in
    let read = Steps-read blank_draft (at_end f.head f.routines) 0 (lines_of text) steps in
    let same = program_same p (settings_in (settings_by f.head)) (shapes_by f.head) (map (goroutine_by (names_by f.head)) f.routines) f.settings f.shapes f.goroutines in
    reading_of-text text f.size f.characters ∙ ap (then_end (length (lines_of text))) read ∙ ended_well (length (lines_of text)) f.head f.routines f.some_goroutine ∙ ap ok_program same
