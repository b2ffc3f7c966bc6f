-- What the lines so far say of a script: its head, the goroutines that have ended, and one that is open.
use Rattle.std.proofs.Common.{◌≡◌, ℕ, ◌<◌, ◌≤◌, Bool, true, false, not, cond, ◌||◌, List, [], ◌∷◌, ◌++◌, length, map, Option, Some, None, refl, sym, ap, ◌∙◌, subst, ◌⊎◌, All, is_some, fold, ◌≢◌, AllPairs, arith}
use Rattle.gh_script.proofs.Vocabulary.{AreApart, blank_draft, Block, cause_at, Draft, fits_limits, flat_map, Given, given_at, goroutine_by, has_goroutine, inside, is_limit_fault, is_nesting_fault, is_number_fault, is_twice_fault, is_type_key, is_unknown_fault, is_word_fault, IsBlock, IsHead, IsRoutine, IsTaken, IsTakenAs, Key, key_of, Limit, lines_in, names_by, Nesting, nothing_given, Number, number_in, Open, Repeat, Routine, routine_lines, Sentence, Setting, settings_by, shapes_by, statements_by, Stmt, Twice, type_of, types_in, Unknown, Word}
use Rattle.gh_script.proofs.Allowed.{Allowed, allowed, left_false}

-- ---- lines taken alone

taken_none : (a b c d e f : Bool) → a ≡ false → b ≡ false → c ≡ false → d ≡ false → e ≡ false → f ≡ false
    → cond a (Some Word) (cond b (Some Number) (cond c (Some Limit) (cond d (Some Twice) (cond e (Some Unknown) (cond f (Some Nesting) None))))) ≡ None
taken_none a b c d e f p q r s t u = grind arith

pub cause_none : (draft : Draft) (key : Key) (line : Sentence) → Allowed draft key line → cause_at draft key line ≡ None
unfolding cause_at
cause_none draft key line a = taken_none (is_word_fault key line) (is_number_fault key line) (is_limit_fault draft key line) (is_twice_fault draft key line) (is_unknown_fault draft key line) (is_nesting_fault draft key) a.word a.number a.limit a.twice a.unknown a.nesting

abbrev pub some_key : Key → Option Key
some_key key = Some key

same_key : (a b : Key) → some_key a ≡ some_key b → a ≡ b
same_key a b e = cc

pub taken_by : (draft : Draft) (line : Sentence) (key : Key) → key_of line.first ≡ Some key → cause_at draft key line ≡ None → IsTaken draft line
taken_by draft line key h c k e = subst (λ (z : Key). cause_at draft z line ≡ None) (same_key key k (sym h ∙ e)) c

pub none_given : (x : Setting) → is_some (given_at nothing_given x) ≡ false
none_given x = grind arith

no_types : (word : List ℕ) → is_some (type_of [] word) ≡ false
unfolding type_of
no_types word = refl

no_goroutines : (word : List ℕ) → has_goroutine blank_draft word ≡ false
unfolding has_goroutine
no_goroutines word = refl

pub or_false : (a b : Bool) → a ≡ false → b ≡ false → (a || b) ≡ false
or_false a b p q = grind arith

pub alone_set : (draft : Draft) (x : Setting) (line : Sentence) → cause_at draft (Key.Setting x) line ≡ None → cause_at blank_draft (Key.Setting x) line ≡ None
alone_set draft x line c =
    let a = allowed draft (Key.Setting x) line c in
    cause_none blank_draft (Key.Setting x) line (record { word = a.word; number = a.number; limit = a.limit; twice = none_given x; unknown = refl; nesting = refl })

pub alone_type : (draft : Draft) (line : Sentence) → cause_at draft Key.Type line ≡ None → cause_at blank_draft Key.Type line ≡ None
alone_type draft line c =
    let a = allowed draft Key.Type line c in
    cause_none blank_draft Key.Type line (record { word = a.word; number = a.number; limit = or_false (not (fits_limits line.third)) false (left_false _ _ a.limit) refl; twice = no_types line.second; unknown = refl; nesting = refl })

pub alone_go : (draft : Draft) (line : Sentence) → cause_at draft Key.Go line ≡ None → cause_at blank_draft Key.Go line ≡ None
alone_go draft line c =
    let a = allowed draft Key.Go line c in
    cause_none blank_draft Key.Go line (record { word = a.word; number = a.number; limit = refl; twice = no_goroutines line.second; unknown = refl; nesting = refl })

pub inside_none : (draft : Draft) (key : Key) (line : Sentence) → Allowed draft key line → is_limit_fault (inside draft.given draft.names) key line ≡ false → is_twice_fault (inside draft.given draft.names) key line ≡ false
    → is_unknown_fault (inside draft.given draft.names) key line ≡ false → is_nesting_fault (inside draft.given draft.names) key ≡ false → cause_at (inside draft.given draft.names) key line ≡ None
inside_none draft key line a l t u n = cause_none (inside draft.given draft.names) key line (record { word = a.word; number = a.number; limit = l; twice = t; unknown = u; nesting = n })

pub inside_end : (draft : Draft) (line : Sentence) → cause_at draft Key.End line ≡ None → cause_at (inside draft.given draft.names) Key.End line ≡ None
inside_end draft line c =
    let a = allowed draft Key.End line c in
    inside_none draft Key.End line a refl a.twice a.unknown refl

pub inside_repeat : (draft : Draft) (line : Sentence) → cause_at draft Key.Repeat line ≡ None → cause_at (inside draft.given draft.names) Key.Repeat line ≡ None
inside_repeat draft line c =
    let a = allowed draft Key.Repeat line c in
    inside_none draft Key.Repeat line a a.limit a.twice a.unknown refl

-- ---- lists with one more line

pub fold_push : {A B : Type 0} (f : B → A → B) (a : B) (xs : List A) (x : A) → fold f a (xs ++ x ∷ []) ≡ f (fold f a xs) x
fold_push f a [] x = refl
fold_push f a (y ∷ ys) x = fold_push f (f a y) ys x

filter_step : (x : Sentence) (y : Sentence) (more some : List Sentence) (b : Bool) → more ≡ some ++ x ∷ [] → cond b (y ∷ more) more ≡ cond b (y ∷ some) some ++ x ∷ []
filter_step x y more some b e = grind arith

pub types_push : (lines : List Sentence) (line : Sentence) → is_type_key (key_of line.first) ≡ true → types_in (lines ++ line ∷ []) ≡ types_in lines ++ line ∷ []
types_push [] line h = rw h refl
types_push (l ∷ ls) line h = filter_step line l (types_in (ls ++ line ∷ [])) (types_in ls) (is_type_key (key_of l.first)) (types_push ls line h)

other_step : (y : Sentence) (more some : List Sentence) (b : Bool) → more ≡ some → cond b (y ∷ more) more ≡ cond b (y ∷ some) some
other_step y more some b e = grind arith

pub types_push_other : (lines : List Sentence) (line : Sentence) → is_type_key (key_of line.first) ≡ false → types_in (lines ++ line ∷ []) ≡ types_in lines
types_push_other [] line h = rw h refl
types_push_other (l ∷ ls) line h = other_step l (types_in (ls ++ line ∷ [])) (types_in ls) (is_type_key (key_of l.first)) (types_push_other ls line h)

-- ---- what is said so far

-- the setting of the line was given
abbrev pub IsSeen : Given → Sentence → Type 0
IsSeen given line = (x : Setting) → key_of line.first ≡ Some (Key.Setting x) → is_some (given_at given x) ≡ true

-- the draft has the settings and types of the head
pub record Told (draft : Draft) (head : List Sentence) : Type 0 where
  pub heads : All IsHead head
  pub taken : All (IsTaken blank_draft) head
  pub few : length (names_by head) ≤ 64
  pub once : AllPairs AreApart head
  pub seen : All (IsSeen draft.given) head
  pub apart : AllPairs (λ a b. a ≢ b) (names_by head)
  pub given : draft.given ≡ settings_by head
  pub names : draft.names ≡ names_by head
  pub shapes : draft.shapes ≡ shapes_by head

pub inside_told : (draft : Draft) (head : List Sentence) (key : Key) (line : Sentence) → Told draft head → cause_at (inside draft.given draft.names) key line ≡ None → cause_at (inside (settings_by head) (names_by head)) key line ≡ None
inside_told draft head key line t c =
    sym (ap (λ (g : Given). cause_at (inside g draft.names) key line) t.given ∙ ap (λ (ns : List (List ℕ)). cause_at (inside (settings_by head) ns) key line) t.names) ∙ c

-- a `repeat` that is open: the block before it, and its line
pub record Frame : Type 0 where
  pub before : Block
  pub opens : Sentence

-- the lines of a goroutine so far, where these `repeat`s are open, innermost first, and the block stands in the innermost
abbrev pub lines_within : List Frame → Block → List Sentence
lines_within [] block = lines_in block
lines_within (f ∷ fs) block = lines_within fs f.before ++ f.opens ∷ lines_in block

-- its statements so far, the body of each open `repeat` once
abbrev pub statements_within : List (List ℕ) → List Frame → Block → List Stmt
statements_within names [] block = statements_by names block
statements_within names (f ∷ fs) block = statements_within names fs f.before ++ statements_by names block

abbrev pub repeats_by : List (List ℕ) → List Frame → List Repeat
repeats_by names [] = []
repeats_by names (f ∷ fs) = record { start = length (statements_within names fs f.before); times = number_in f.opens.second } ∷ repeats_by names fs

abbrev pub AreFrames : Given → List (List ℕ) → List Frame → Type 0
AreFrames given names [] = Unit {0}
AreFrames given names (f ∷ fs) = IsBlock given names (length fs) f.before × IsTakenAs (inside given names) Key.Repeat f.opens × (length fs < 8) × AreFrames given names fs

abbrev pub open_by : List (List ℕ) → Sentence → List Frame → Block → Open
open_by names go frames block = record { name = go.second; statements = Some (statements_within names frames block); repeats = repeats_by names frames }

-- no goroutine is open
pub record Between (said : List Sentence) (draft : Draft) : Type 0 where
  pub head : List Sentence
  pub routines : List Routine
  pub lines : said ≡ head ++ flat_map routine_lines routines
  pub told : Told draft head
  pub right : All (IsRoutine (settings_by head) (names_by head)) routines
  pub closed : draft.closed ≡ map (goroutine_by (names_by head)) routines
  pub current : draft.current ≡ None

-- a goroutine is open
pub record Running (said : List Sentence) (draft : Draft) : Type 0 where
  pub head : List Sentence
  pub routines : List Routine
  pub go : Sentence
  pub frames : List Frame
  pub block : Block
  pub lines : said ≡ head ++ (flat_map routine_lines routines ++ go ∷ lines_within frames block)
  pub told : Told draft head
  pub right : All (IsRoutine (settings_by head) (names_by head)) routines
  pub begins : IsTakenAs blank_draft Key.Go go
  pub outer : AreFrames (settings_by head) (names_by head) frames
  pub inner : IsBlock (settings_by head) (names_by head) (length frames) block
  pub closed : draft.closed ≡ map (goroutine_by (names_by head)) routines
  pub current : draft.current ≡ Some (open_by (names_by head) go frames block)

-- a goroutine is open that has too many statements
pub record Lost (draft : Draft) : Type 0 where
  pub g : Open
  pub current : draft.current ≡ Some g
  pub none : g.statements ≡ None

abbrev pub Story : List Sentence → Draft → Type 0
Story said draft = Between said draft ⊎ (Running said draft ⊎ Lost draft)
