-- A text that spells a program has the form of a script: its lines one after the other, and its end.
use Rattle.std.proofs.Common.{◌≡◌, ℕ, ◌+◌, ◌≤◌, Bool, true, false, not, cond, eqb, ltb, List, [], ◌∷◌, ◌++◌, length, map, Option, Some, None, Result, Ok, Err, refl, sym, ap, ◌∙◌, subst, append_assoc, arith, inl, inr, is_some, append-nil}
use Rattle.gh_script.proofs.Vocabulary.{All-nil, blank_draft, cases_lt, cause_at, continued, Draft, go_on, goroutine_by, HasForm, is_skipped, is_utf8, IsHead, IsRoutine, IsTaken, Key, key_of, length-map, line_fault, lines_of, Missing, most_bytes, names_by, Nesting, nothing_given, Program, program_in, read_cause, read_end, read_key, read_line, read_lines, reading_of, said_in, sayings, ScriptFault, Sentence, settings_in, Size, Spells, then_end, Utf8, Why}
use Rattle.gh_script.proofs.Formed.{WellFormed-Spells}
use Rattle.gh_script.proofs.Readings.{reading_of-long, reading_of-bytes}
use Rattle.gh_script.proofs.FormSaid.{Between, IsSeen, Story}
use Rattle.gh_script.proofs.FormHead.{between_step}
use Rattle.gh_script.proofs.FormOpen.{lost_step, running_step}

step : (said : List Sentence) (draft : Draft) (key : Key) (line : Sentence) → Story said draft → cause_at draft key line ≡ None → key_of line.first ≡ Some key → Story (said ++ line ∷ []) (continued draft key line)
step said draft key line (inl h) c e = between_step said draft key line h c e
step said draft key line (inr (inl h)) c e = running_step said draft key line h c e
step said draft key line (inr (inr h)) c e = inr (inr (lost_step draft key line h c))

-- ---- lines

cause_story : (said : List Sentence) (draft new : Draft) (key : Key) (line : Sentence) (cause : Option Why) → Story said draft → cause_at draft key line ≡ cause → key_of line.first ≡ Some key → read_cause draft key line cause ≡ Ok new → Story (said ++ line ∷ []) new
cause_story said draft new key line None s c e r = let same : continued draft key line ≡ new = cc in subst (Story (said ++ line ∷ [])) same (step said draft key line s c e)
cause_story said draft new key line (Some why) s c e r = absurd cc

key_story : (said : List Sentence) (draft new : Draft) (key : Option Key) (line : Sentence) → Story said draft → key_of line.first ≡ key → read_key draft key line ≡ Ok new → Story (said ++ line ∷ []) new
key_story said draft new None line s e r = absurd cc
key_story said draft new (Some key) line s e r = cause_story said draft new key line (cause_at draft key line) s refl e r

-- the lines that say something, with one line in front
line_story : (said others : List Sentence) (draft new : Draft) (line : Sentence) (skipped : Bool) → Story said draft → cond skipped (Ok draft) (read_key draft (key_of line.first) line) ≡ Ok new
    → (ahead : List Sentence) × Story ahead new × (ahead ++ others ≡ said ++ cond (not skipped) (line ∷ others) others)
line_story said others draft new line true s r = let same : draft ≡ new = cc in (said, subst (Story said) same s, refl)
line_story said others draft new line false s r = (said ++ line ∷ [], key_story said draft new (key_of line.first) line s refl r, append_assoc said (line ∷ []) others)

go_story : (said others all : List Sentence) (draft new : Draft) (n : ℕ) (lines : List (List ℕ)) (read : Result Draft Why)
    → ((next : Draft) → read ≡ Ok next → read_lines next (n + 1) lines ≡ Ok new → Story all new)
    → go_on (λ next. read_lines next (n + 1) lines) (n + 1) read ≡ Ok new → Story all new
go_story said others all draft new n lines (Ok next) rest r = rest next refl r
go_story said others all draft new n lines (Err why) rest r = absurd cc

unfold_line : (draft : Draft) (line : Sentence) → read_line draft line ≡ cond (is_skipped line) (Ok draft) (read_key draft (key_of line.first) line)
unfolding read_line
unfold_line draft line = refl

Story-read_lines : (said : List Sentence) (draft new : Draft) (n : ℕ) (lines : List (List ℕ)) → Story said draft → read_lines draft n lines ≡ Ok new → Story (said ++ sayings lines) new
unfolding read_lines sayings
Story-read_lines said draft new n [] s r = let same : draft ≡ new = cc in subst (λ (l : List Sentence). Story l new) (sym (append-nil said)) (subst (Story said) same s)
Story-read_lines said draft new n (line ∷ lines) s r =
    go_story said (sayings lines) (said ++ sayings (line ∷ lines)) draft new n lines (read_line draft (said_in line))
    (λ next e rest.
    let w = line_story said (sayings lines) draft next (said_in line) (is_skipped (said_in line)) s (sym (unfold_line draft (said_in line)) ∙ e) in
    subst (λ (l : List Sentence). Story l new) w.2 (Story-read_lines w.0 next new (n + 1) lines w.1 rest))
    r

-- ---- the text's end

ends_between : (said : List Sentence) (draft : Draft) (n : ℕ) (p : Program) → Story said draft
    → cond (is_some draft.current) (Err (line_fault n Nesting)) (cond (eqb (length draft.closed) 0) (Err (line_fault 0 Missing)) (Ok (program_in draft))) ≡ Ok p → Between said draft × (program_in draft ≡ p)
ends_between said draft n p h r = grind arith

-- all goroutines have ended, and this is the program
record Finished (lines : List Sentence) (p : Program) : Type 0 where
  draft : Draft
  over : Between lines draft
  same : program_in draft ≡ p

end_told : (lines : List Sentence) (draft : Draft) (n : ℕ) (p : Program) → Story lines draft → read_end n draft ≡ Ok p → Finished lines p
unfolding read_end
end_told lines draft n p s h = let c = ends_between lines draft n p s h in record { draft = draft; over = c.0; same = c.1 }

then_told : (lines : List Sentence) (n : ℕ) (read : Result Draft ScriptFault) (p : Program) → ((draft : Draft) → read ≡ Ok draft → Story lines draft) → then_end n read ≡ Ok p → Finished lines p
then_told lines n (Ok draft) p s h = end_told lines draft n p (s draft refl) h
then_told lines n (Err f) p s h = absurd cc

text_told : (lines : List Sentence) (long bytes : Bool) (n : ℕ) (read : Result Draft ScriptFault) (p : Program) → ((draft : Draft) → read ≡ Ok draft → Story lines draft)
    → cond long (Err (line_fault 0 Size)) (cond bytes (Err (line_fault 0 Utf8)) (then_end n read)) ≡ Ok p → Finished lines p
text_told lines long bytes n read p s h = grind (arith, then_told)

pub start : Story [] blank_draft
start = inl (record {
  head = [];
  routines = [];
  lines = refl;
  told = record { heads = All-nil IsHead; taken = All-nil (IsTaken blank_draft); few = omega arith; once = λ i j d lt below. absurd (omega arith); seen = All-nil (IsSeen nothing_given); apart = λ i j d lt below. absurd (omega arith); given = refl; names = refl; shapes = refl };
  right = All-nil (IsRoutine nothing_given []);
  closed = refl;
  current = refl;
})

told_of : (text : List ℕ) (p : Program) → Spells text p → Finished (sayings (lines_of text)) p
unfolding reading_of
told_of text p h =
    text_told (sayings (lines_of text)) (ltb most_bytes (length text)) (not (is_utf8 text)) (length (lines_of text)) (read_lines blank_draft 0 (lines_of text)) p
    (λ draft e. Story-read_lines [] blank_draft draft 0 (lines_of text) start e) h

size_of : (text : List ℕ) (p : Program) → Spells text p → length text ≤ 4194304
size_of text p h = elim (cases_lt 4194304 (length text)) [
  | inl lt ↦ absurd (let q = sym h ∙ reading_of-long text lt in cc)
  | inr le ↦ le
]

characters_of : (text : List ℕ) (p : Program) (b : Bool) → length text ≤ 4194304 → Spells text p → is_utf8 text ≡ b → is_utf8 text ≡ true
characters_of text p true le h e = e
characters_of text p false le h e = absurd (let q = sym h ∙ reading_of-bytes text le e in cc)

pub HasForm-Spells : (text : List ℕ) (p : Program) → Spells text p → HasForm text p
HasForm-Spells text p h =
    let t = told_of text p h in
    let o = t.over in
    let formed = WellFormed-Spells text p h in
    let goroutines : p.goroutines ≡ map (goroutine_by (names_by o.head)) o.routines = ap (λ (q : Program). q.goroutines) (sym t.same) ∙ o.closed in
    let count : length p.goroutines ≡ length o.routines = ap length goroutines ∙ length-map o.routines (goroutine_by (names_by o.head)) in
    record {
      size = size_of text p h;
      characters = characters_of text p (is_utf8 text) (size_of text p h) h refl;
      head = o.head;
      routines = o.routines;
      lines = o.lines;
      heads = o.told.heads;
      heads_taken = o.told.taken;
      once = o.told.once;
      names_apart = o.told.apart;
      few_types = o.told.few;
      right = o.right;
      some_goroutine = subst (λ (n : ℕ). 1 ≤ n) count formed.some_goroutine;
      few_goroutines = subst (λ (n : ℕ). n ≤ 32) count formed.few_goroutines;
      goroutines_apart = formed.names_apart;
      few_statements = formed.few_statements;
      settings = ap (λ (q : Program). q.settings) (sym t.same) ∙ ap settings_in o.told.given;
      shapes = ap (λ (q : Program). q.shapes) (sym t.same) ∙ o.told.shapes;
      goroutines = ap (λ (q : Program). q.goroutines) (sym t.same) ∙ o.closed;
    }
