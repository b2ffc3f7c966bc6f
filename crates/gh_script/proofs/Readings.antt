-- What is read of a text as a whole.
use Rattle.std.proofs.Common.{◌≡◌, ℕ, ◌<◌, ◌≤◌, Bool, true, false, List, length, Option, Some, Result, Ok, Err, refl, sym, ap, ◌∙◌, arith, unwrap_or}
use Rattle.std.proofs.lemmas.Bool.{lt-ltb, le-ltb}
use Rattle.gh_script.proofs.Vocabulary.{blank_draft, Draft, EndsAsRead, is_utf8, IsSound, IsUtf8, IsUtf8-from_is_utf8, line_fault, lines_of, ParseError, Program, read_end, read_lines, reading_of, ReadsAll, ScriptFault, Setting, Size, then_end, Utf8}

not_true : (b : Bool) → (b ≡ true → ⊥) → false ≡ b
not_true b h = grind arith

pub is_utf8-not : (bytes : List ℕ) → (IsUtf8 bytes → ⊥) → false ≡ is_utf8 bytes
is_utf8-not bytes h = not_true (is_utf8 bytes) (λ e. h (IsUtf8-from_is_utf8 bytes e))

pub reading_of-long : (text : List ℕ) → 4194304 < length text → reading_of text ≡ Err (line_fault 0 Size)
unfolding reading_of
reading_of-long text h = rw (lt-ltb 4194304 (length text) h) refl

pub reading_of-bytes : (text : List ℕ) → length text ≤ 4194304 → is_utf8 text ≡ false → reading_of text ≡ Err (line_fault 0 Utf8)
unfolding reading_of
reading_of-bytes text h e = rw (le-ltb 4194304 (length text) h, e) refl

pub reading_of-text : (text : List ℕ) → length text ≤ 4194304 → is_utf8 text ≡ true → reading_of text ≡ then_end (length (lines_of text)) (read_lines blank_draft 0 (lines_of text))
unfolding reading_of
reading_of-text text h e = rw (le-ltb 4194304 (length text) h, e) refl

-- a line was refused
pub Ends-refused : (e : ParseError) (new : Draft) (n : ℕ) (read : Result Draft ScriptFault) (whole : Result Program ScriptFault) → ReadsAll (Err e) new n read → whole ≡ then_end n read → EndsAsRead (Err e) whole
Ends-refused e new n read whole h e2 = grind arith

-- all lines were read
pub Ends-read : (result : Result Program ParseError) (new : Draft) (n count : ℕ) (read : Result Draft ScriptFault) (whole : Result Program ScriptFault) → ReadsAll (Ok count) new n read → whole ≡ then_end n read
    → EndsAsRead result (read_end count new) → EndsAsRead result whole
Ends-read result new n count read whole h e end =
    let same : whole ≡ read_end count new = e ∙ ap (then_end n) h.0 ∙ ap (λ (k : ℕ). read_end k new) (sym h.1) in
    rw same end

arena_few : (arena : Option ℕ) → ((n : ℕ) → arena ≡ Some n → (16 ≤ n) × (n ≤ 1024)) → unwrap_or arena 256 ≤ 1024
arena_few arena h = grind arith

pub arena-le : (draft : Draft) → IsSound draft → unwrap_or draft.given.arena 256 ≤ 1024
arena-le draft sound = arena_few draft.given.arena (sound.given Setting.Arena)

pub reading_of-from : (text : List ℕ) (blank : Draft) → length text ≤ 4194304 → is_utf8 text ≡ true → blank ≡ blank_draft → reading_of text ≡ then_end (length (lines_of text)) (read_lines blank 0 (lines_of text))
reading_of-from text blank h e same = rw same (reading_of-text text h e)
