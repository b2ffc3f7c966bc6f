-- A text that spells a program spells a well-formed one; each text has one reading.
use Rattle.std.proofs.Common.{◌≡◌, ℕ, ◌+◌, ◌*◌, ◌<◌, ◌≤◌, Bool, true, false, cond, eqb, ltb, not, List, [], ◌∷◌, length, take, Option, Some, Result, Ok, Err, refl, sym, ap, subst, arith, inl, inr, ◌⊎◌, unwrap_or, All, is_some, IfOk, lt-ltb, take_all, length-take-le}
use Rattle.gh_script.proofs.Vocabulary.{Arena, AreStatements, AreWithin, blank_draft, cases_lt, Draft, EndsAsRead, eqb-false, Given, given_at, Globals, globals_in, go_on, Gogc, is_utf8, IsSound, least, line_fault, lines_of, Minheap, Missing, most, most_bytes, Nesting, ParseError, Procs, Program, program_in, read_end, read_line, read_lines, reading_of, Refused, ScriptFault, sentence_of, Setting, Settings, settings_in, Size, Spells, then_end, Utf8, WellFormed, Why, words_of, Workers}
use Rattle.gh_script.proofs.ShapeLaws.{All-ShapesFit}
use Rattle.gh_script.proofs.Sound.{IsSound-read_line}

pub IsSound-blank : IsSound blank_draft
IsSound-blank = grind arith

line_sound : (draft new : Draft) (n : ℕ) (lines : List (List ℕ)) (read : Result Draft Why) → (lines_sound : (next : Draft) → read ≡ Ok next → read_lines next (n + 1) lines ≡ Ok new → IsSound new)
    → go_on (λ next. read_lines next (n + 1) lines) (n + 1) read ≡ Ok new → IsSound new
line_sound draft new n lines read rest h = grind arith

IsSound-read_lines : (draft new : Draft) (n : ℕ) (lines : List (List ℕ)) → IsSound draft → read_lines draft n lines ≡ Ok new → IsSound new
unfolding read_lines
IsSound-read_lines draft new n [] s h = let same : draft ≡ new = cc in subst IsSound same s
IsSound-read_lines draft new n (line ∷ lines) s h =
    line_sound draft new n lines (read_line draft (sentence_of (words_of line))) (λ next e rest. IsSound-read_lines next new (n + 1) lines (IsSound-read_line draft next (sentence_of (words_of line)) s e) rest) h

within : (o : Option ℕ) (d lo hi : ℕ) → ((n : ℕ) → o ≡ Some n → (lo ≤ n) × (n ≤ hi)) → lo ≤ d → d ≤ hi → (lo ≤ unwrap_or o d) × (unwrap_or o d ≤ hi)
within o d lo hi h low high = grind arith

AreWithin-settings_in : (given : Given) → ((x : Setting) (n : ℕ) → given_at given x ≡ Some n → (least x ≤ n) × (n ≤ most x)) → AreWithin (settings_in given)
AreWithin-settings_in given h =
    let arena = within given.arena 256 16 1024 (h Arena) (omega arith) (omega arith) in
    record {
      procs = within given.procs 1 1 8 (h Procs) (omega arith) (omega arith);
      workers = within given.workers 1 1 4 (h Workers) (omega arith) (omega arith);
      arena = arena;
      globals = within given.globals 1 1 256 (h Globals) (omega arith) (omega arith);
      gogc = within given.gogc 100 0 1000 (h Gogc) (omega arith) (omega arith);
      minheap = within given.minheap (2048 * unwrap_or given.arena 256) 0 8388608 (h Minheap) (omega arith) (omega (arith, arena));
    }

pub formed : (draft : Draft) → IsSound draft → 1 ≤ length draft.closed → WellFormed (program_in draft)
formed draft s some = record {
  settings = AreWithin-settings_in draft.given s.given;
  types = omega (arith, s.types, s.named);
  shapes_fit = All-ShapesFit draft.shapes s.shapes_fit;
  shapes_packed = s.shapes_packed;
  some_goroutine = some;
  few_goroutines = omega (arith, s.goroutines);
  names = s.closed_names;
  names_apart = s.names_apart;
  statements = subst (λ (n : ℕ). All (AreStatements (globals_in draft.given) n) draft.closed) (sym s.named) s.statements;
  few_statements = s.few_statements;
}

end_formed : (draft : Draft) (n : ℕ) (running none : Bool) (p : Program) → IsSound draft → (none ≡ false → 1 ≤ length draft.closed)
    → cond running (Err (line_fault n Nesting)) (cond none (Err (line_fault 0 Missing)) (Ok (program_in draft))) ≡ Ok p → WellFormed p
end_formed draft n true none p s some h = absurd cc
end_formed draft n false true p s some h = absurd cc
end_formed draft n false false p s some h = let same : program_in draft ≡ p = cc in subst WellFormed same (formed draft s (some refl))

some_closed : (n : ℕ) → eqb n 0 ≡ false → 1 ≤ n
some_closed n h = let ne : n ≡ 0 → ⊥ = eqb-false n 0 h in omega arith

-- what the end of a text makes of its draft
pub finished : (draft d : Draft) (settings : Settings) (n : ℕ) → draft ≡ d → settings ≡ settings_in d.given → IsSound draft → n ≡ length d.closed → eqb n 0 ≡ false
    → WellFormed (record { settings = settings; shapes = d.shapes; goroutines = d.closed })
finished draft d settings n same given sound long some = grind (arith, formed, some_closed)

WellFormed-read_end : (draft : Draft) (n : ℕ) (p : Program) → IsSound draft → read_end n draft ≡ Ok p → WellFormed p
unfolding read_end
WellFormed-read_end draft n p s h = end_formed draft n (is_some draft.current) (eqb (length draft.closed) 0) p s (some_closed (length draft.closed)) h

then_formed : (n : ℕ) (read : Result Draft ScriptFault) (p : Program) → ((draft : Draft) → read ≡ Ok draft → IsSound draft) → then_end n read ≡ Ok p → WellFormed p
then_formed n (Ok draft) p s h = WellFormed-read_end draft n p (s draft refl) h
then_formed n (Err f) p s h = absurd cc

text_formed : (long bytes : Bool) (n : ℕ) (read : Result Draft ScriptFault) (p : Program) → ((draft : Draft) → read ≡ Ok draft → IsSound draft)
    → cond long (Err (line_fault 0 Size)) (cond bytes (Err (line_fault 0 Utf8)) (then_end n read)) ≡ Ok p → WellFormed p
text_formed true bytes n read p s h = absurd cc
text_formed false true n read p s h = absurd cc
text_formed false false n read p s h = then_formed n read p s h

pub WellFormed-Spells : (text : List ℕ) (p : Program) → Spells text p → WellFormed p
unfolding reading_of
WellFormed-Spells text p h =
    text_formed (ltb most_bytes (length text)) (not (is_utf8 text)) (length (lines_of text)) (read_lines blank_draft 0 (lines_of text)) p (λ draft e. IsSound-read_lines blank_draft draft 0 (lines_of text) IsSound-blank e) h

pub Ends-formed : (text : List ℕ) (r : Result Program ParseError) → EndsAsRead r (reading_of text) → IfOk r WellFormed
Ends-formed text (Ok p) h = WellFormed-Spells text p h
Ends-formed text (Err e) h = tt

reads : (r : Result Program ScriptFault) (whole : Result Program ScriptFault) → whole ≡ r → ((p : Program) × (whole ≡ Ok p)) ⊎ ((line : ℕ) × (why : Why) × (whole ≡ Err (line_fault line why)))
reads (Ok p) whole h = inl (p, h)
reads (Err f) whole h = inr (f.line, f.why, h)

pub some_reading : (text : List ℕ) → ((p : Program) × Spells text p) ⊎ ((line : ℕ) × (why : Why) × Refused text line why)
some_reading text = reads (reading_of text) (reading_of text) refl

cut_long : (text : List ℕ) → most_bytes < length text → reading_of (take (most_bytes + 1) text) ≡ reading_of text
unfolding reading_of
cut_long text h =
    let whole : ltb most_bytes (length text) ≡ true = lt-ltb most_bytes (length text) h in
    let cut : length (take (most_bytes + 1) text) ≡ most_bytes + 1 = length-take-le (most_bytes + 1) text (omega arith) in
    let long : ltb most_bytes (length (take (most_bytes + 1) text)) ≡ true = rw cut refl in
    rw (whole, long) refl

-- a text is read as far as the first byte that is too many
pub cut_reading : (text : List ℕ) → reading_of (take (most_bytes + 1) text) ≡ reading_of text
cut_reading text = elim (cases_lt most_bytes (length text)) [
  | inl long ↦ cut_long text long
  | inr short ↦ ap reading_of (take_all (most_bytes + 1) text (omega arith))
]
