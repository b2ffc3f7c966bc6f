-- A script that is made without a text is well-formed, unless there is a cause to refuse it.
use Rattle.std.proofs.Common.{◌≡◌, ◌≢◌, ℕ, ◌+◌, ◌/◌, ◌%◌, ◌^◌, ◌<◌, ◌≤◌, Bool, true, false, cond, eqb, leb, ltb, not, ◌&&◌, ◌||◌, List, [], ◌∷◌, ◌++◌, length, get_or, drop, map, replicate, append_assoc, zero, suc, Option, Some, None, Ok, refl, sym, ap, subst, ◌∙◌, arith, inl, inr, All, AllPairs, decimal, codes}
use Rattle.std.proofs.lemmas.Bool.{leb-true}
use Rattle.std.proofs.lemmas.Fmt.{decimal_is_IsNumeral, decimal_step}
use Rattle.std.specs.Str.Parse.{digits_value}
use Rattle.std.proofs.lemmas.List.{length-append, append-nil}
use Rattle.std.proofs.lemmas.List.Elements.{All-replicate}
use Rattle.std.proofs.lemmas.List.Kept.{AllPairs-cons}
use Rattle.gh_script.proofs.Vocabulary.{All-append, All-cons, All-nil, are_counts, are_letters, AreNamedApart, AreStatements, AreWithin, Arena, at_drop_all, at_drop_more, cases_lt, decimal_digit, fits_limits, FitsShape, generated_name, Globals, Gogc, Goroutine, is_name, is_name_byte, IsNamed, IsPacked, IsStatement, length-map, length-replicate, Limit, line_fault, Minheap, Missing, Number, ParseError, Procs, ScriptFault, Settings, Shape, statements_in, Stmt, sum_by, sum_by-cons, Unknown, WellFormed, Why, Word, Workers}
use Rattle.gh_script.specs.declared.made.Wishes.{Wishes}
use Rattle.gh_script.specs.declared.statement.Stmt.TheVariants.{New, Gc}
use Rattle.gh_script.specs.Made.{first_cause, is_within, IsMade, shape_spelled, StopsFor}
unfoldable use Rattle.gh_script.specs.Made.{are_within, asking, asking_from, goroutine_cause, goroutines_cause, made_cause, made_program, type_cause, types_cause}
use Rattle.gh_script.proofs.Names.{and_left, and_right}
use Rattle.gh_script.proofs.ShapeLaws.{All-ShapesFit, FitsShape-text, IsPacked-shape_with}

-- ---- causes

pub no_cause : (a b : Option Why) → first_cause a b ≡ None → (a ≡ None) × (b ≡ None)
no_cause None b h = (refl, h)
no_cause (Some why) b h = absurd cc

-- a type that is let through
record Allowed (i : ℕ) (word : List ℕ) : Type 0 where
  letters : are_letters word ≡ true
  limits : fits_limits word ≡ true
  few : i < 64

letters_first : (letters counts fits many : Bool) → cond (not letters) (Some Word) (cond (not counts) (Some Number) (cond (not fits || many) (Some Limit) None)) ≡ None → letters ≡ true
letters_first letters counts fits many h = grind arith

limits_last : (letters counts fits many : Bool) → cond (not letters) (Some Word) (cond (not counts) (Some Number) (cond (not fits || many) (Some Limit) None)) ≡ None → fits ≡ true
limits_last letters counts fits many h = grind arith

not_many : (letters counts fits : Bool) (i : ℕ) → cond (not letters) (Some Word) (cond (not counts) (Some Number) (cond (not fits || leb 64 i) (Some Limit) None)) ≡ None → i < 64
not_many letters counts fits i h = grind arith

allowed : (i : ℕ) (word : List ℕ) → type_cause i word ≡ None → Allowed i word
unfolding type_cause
allowed i word h = record {
  letters = letters_first (are_letters word) (are_counts word) (fits_limits word) (leb 64 i) h;
  limits = limits_last (are_letters word) (are_counts word) (fits_limits word) (leb 64 i) h;
  few = not_many (are_letters word) (are_counts word) (fits_limits word) i h;
}

-- a type that is let through may have its shape
pub may_have_shape : (i : ℕ) (word : List ℕ) → type_cause i word ≡ None → fits_limits word ≡ true
may_have_shape i word h = (allowed i word h).limits

-- ---- types

few_types : (i : ℕ) (words : List (List ℕ)) → i ≤ 64 → types_cause i words ≡ None → i + length words ≤ 64
unfolding types_cause
few_types i [] le h = omega arith
few_types i (word ∷ words) le h =
    let both = no_cause (type_cause i word) (types_cause (i + 1) words) h in
    let one = (allowed i word both.0).few in
    omega (arith, few_types (i + 1) words (omega arith) both.1)

shapes_fit : (i : ℕ) (words : List (List ℕ)) → types_cause i words ≡ None → All FitsShape (map shape_spelled words)
unfolding types_cause
shapes_fit i [] h = All-nil FitsShape
shapes_fit i (word ∷ words) h =
    let both = no_cause (type_cause i word) (types_cause (i + 1) words) h in
    let one = allowed i word both.0 in
    All-cons FitsShape (shape_spelled word) (map shape_spelled words) (FitsShape-text word one.letters one.limits) (shapes_fit (i + 1) words both.1)

shapes_packed : (words : List (List ℕ)) → All IsPacked (map shape_spelled words)
shapes_packed [] = All-nil IsPacked
shapes_packed (word ∷ words) = All-cons IsPacked (shape_spelled word) (map shape_spelled words) (IsPacked-shape_with _) (shapes_packed words)

-- ---- names

digit_byte : (n : ℕ) → n < 10 → is_name_byte (48 + n) ≡ true
digit_byte n h = grind arith

two_digits : (n : ℕ) → 10 ≤ n → n < 32 → decimal n ≡ (48 + n / 10) ∷ (48 + n % 10) ∷ []
two_digits n ge lt = decimal_step n ge (omega arith) ∙ ap (λ (ds : List ℕ). ds ++ ((48 + n % 10) ∷ [])) (decimal_digit (n / 10) (omega arith))

one_named : (d : ℕ) → d < 10 → is_name (codes "g" ++ ((48 + d) ∷ [])) ≡ true
unfolding is_name
one_named d h = rw (digit_byte d h) refl

two_named : (d e : ℕ) → d < 10 → e < 10 → is_name (codes "g" ++ ((48 + d) ∷ (48 + e) ∷ [])) ≡ true
unfolding is_name
two_named d e h k = rw (digit_byte d h, digit_byte e k) refl

is_named : (g : ℕ) → g < 32 → is_name (generated_name g) ≡ true
is_named g lt = elim (cases_lt g 10) [
  | inl one ↦ subst (λ (ds : List ℕ). is_name (codes "g" ++ ds) ≡ true) (sym (decimal_digit g one)) (one_named g one)
  | inr two ↦ subst (λ (ds : List ℕ). is_name (codes "g" ++ ds) ≡ true) (sym (two_digits g two lt)) (two_named (g / 10) (g % 10) (omega arith) (omega arith))
]

digits_same : (g h : ℕ) → generated_name g ≡ generated_name h → decimal g ≡ decimal h
digits_same g h same = ap (λ (name : List ℕ). drop 1 name) same

same_number : (g h : ℕ) → g < 2 ^ 64 → h < 2 ^ 64 → generated_name g ≡ generated_name h → g ≡ h
same_number g h small other same = sym (decimal_is_IsNumeral g small).1 ∙ ap (λ (ds : List ℕ). digits_value 10 ds) (digits_same g h same) ∙ (decimal_is_IsNumeral h other).1

-- ---- goroutines

length-asking_from : (g : ℕ) (ws : List Wishes) → length (asking_from g ws) ≡ length ws
unfolding asking_from
length-asking_from g [] = refl
length-asking_from g (w ∷ ws) = ap suc (length-asking_from (g + 1) ws)

statements_asked : (g : ℕ) (w : Wishes) → statements_in (asking g w) ≡ w.news + w.gcs
unfolding asking
statements_asked g w = omega (arith, length-append (replicate w.news (New 0 0)) (replicate w.gcs Gc), length-replicate w.news (New 0 0), length-replicate w.gcs Gc)

-- a goroutine that is let through
record Goes (types g before : ℕ) (w : Wishes) : Type 0 where
  few : g < 32
  typed : 0 < w.news → 0 < types
  within : before + (w.news + w.gcs) ≤ 200000

goes_few : (g news types all : ℕ) → cond (leb 32 g || ltb 200000 news) (Some Limit) (cond (ltb 0 news && eqb types 0) (Some Unknown) (cond (ltb 200000 all) (Some Limit) None)) ≡ None → g < 32
goes_few g news types all h = grind arith

goes_typed : (g news types all : ℕ) → cond (leb 32 g || ltb 200000 news) (Some Limit) (cond (ltb 0 news && eqb types 0) (Some Unknown) (cond (ltb 200000 all) (Some Limit) None)) ≡ None → 0 < news → 0 < types
goes_typed g news types all h some = grind arith

goes_within : (g news types all : ℕ) → cond (leb 32 g || ltb 200000 news) (Some Limit) (cond (ltb 0 news && eqb types 0) (Some Unknown) (cond (ltb 200000 all) (Some Limit) None)) ≡ None → all ≤ 200000
goes_within g news types all h = grind arith

goes : (types g before : ℕ) (w : Wishes) → goroutine_cause types g before w ≡ None → Goes types g before w
unfolding goroutine_cause
goes types g before w h = record {
  few = goes_few g w.news types (before + (w.news + w.gcs)) h;
  typed = goes_typed g w.news types (before + (w.news + w.gcs)) h;
  within = goes_within g w.news types (before + (w.news + w.gcs)) h;
}

pub small : (types g before : ℕ) (w : Wishes) → goroutine_cause types g before w ≡ None → g < 32
small types g before w h = (goes types g before w h).few

-- so many statements are let through
pub stays_within : (types g before : ℕ) (w : Wishes) → goroutine_cause types g before w ≡ None → before + (w.news + w.gcs) ≤ 200000
stays_within types g before w h = (goes types g before w h).within

few_goroutines : (types g before : ℕ) (ws : List Wishes) → g ≤ 32 → goroutines_cause types g before ws ≡ None → g + length ws ≤ 32
unfolding goroutines_cause
few_goroutines types g before [] le h = omega arith
few_goroutines types g before (w ∷ ws) le h =
    let both = no_cause (goroutine_cause types g before w) (goroutines_cause types (g + 1) (before + (w.news + w.gcs)) ws) h in
    let one = (goes types g before w both.0).few in
    omega (arith, few_goroutines types (g + 1) (before + (w.news + w.gcs)) ws (omega arith) both.1)

few_statements : (types g before : ℕ) (ws : List Wishes) → before ≤ 200000 → goroutines_cause types g before ws ≡ None → before + sum_by statements_in (asking_from g ws) ≤ 200000
unfolding goroutines_cause asking_from
few_statements types g before [] le h = omega arith
few_statements types g before (w ∷ ws) le h =
    let both = no_cause (goroutine_cause types g before w) (goroutines_cause types (g + 1) (before + (w.news + w.gcs)) ws) h in
    let one = (goes types g before w both.0).within in
    omega (arith, few_statements types (g + 1) (before + (w.news + w.gcs)) ws one both.1, sum_by-cons statements_in (asking g w) (asking_from (g + 1) ws), statements_asked g w)

name_asked : (g : ℕ) (w : Wishes) → (asking g w).name ≡ generated_name g
unfolding asking
name_asked g w = refl

all_named : (g : ℕ) (ws : List Wishes) → g + length ws ≤ 32 → All IsNamed (asking_from g ws)
unfolding asking_from
all_named g [] le = All-nil IsNamed
all_named g (w ∷ ws) le = All-cons IsNamed (asking g w) (asking_from (g + 1) ws) (subst (λ (name : List ℕ). is_name name ≡ true) (sym (name_asked g w)) (is_named g (omega arith))) (all_named (g + 1) ws (omega arith))

apart : (h g : ℕ) (v w : Wishes) → h < g → g < 32 → AreNamedApart (asking h v) (asking g w)
apart h g v w lt few same =
    let equal : h ≡ g = same_number h g (omega arith) (omega arith) (sym (name_asked h v) ∙ same ∙ name_asked g w) in
    omega arith

apart_from_all : (h g : ℕ) (v : Wishes) (ws : List Wishes) → h < g → g + length ws ≤ 32 → All (AreNamedApart (asking h v)) (asking_from g ws)
unfolding asking_from
apart_from_all h g v [] lt le = All-nil (AreNamedApart (asking h v))
apart_from_all h g v (w ∷ ws) lt le = All-cons (AreNamedApart (asking h v)) (asking g w) (asking_from (g + 1) ws) (apart h g v w lt (omega arith)) (apart_from_all h (g + 1) v ws (omega arith) (omega arith))

none_apart : AllPairs AreNamedApart []
none_apart i j d lt below = absurd (omega arith)

all_apart : (g : ℕ) (ws : List Wishes) → g + length ws ≤ 32 → AllPairs AreNamedApart (asking_from g ws)
unfolding asking_from
all_apart g [] le = none_apart
all_apart g (w ∷ ws) le = AllPairs-cons AreNamedApart (asking g w) (asking_from (g + 1) ws) (apart_from_all g (g + 1) w ws (omega arith) (omega arith)) (all_apart (g + 1) ws (omega arith))

-- ---- statements

repeated : (P : Stmt → Type 0) (n : ℕ) (s : Stmt) → (0 < n → P s) → All P (replicate n s)
repeated P zero s h = All-nil P
repeated P (suc n) s h = All-replicate P (suc n) s (h (omega arith))

one_asks : (globals types g before : ℕ) (w : Wishes) → Goes types g before w → AreStatements globals types (asking g w)
unfolding asking
one_asks globals types g before w h =
    All-append (IsStatement globals types) (replicate w.news (New 0 0)) (replicate w.gcs Gc)
    (repeated (IsStatement globals types) w.news (New 0 0) (λ some. (omega arith, h.typed some)))
    (repeated (IsStatement globals types) w.gcs Gc (λ some. tt))

all_ask : (globals types g before : ℕ) (ws : List Wishes) → goroutines_cause types g before ws ≡ None → All (AreStatements globals types) (asking_from g ws)
unfolding goroutines_cause asking_from
all_ask globals types g before [] h = All-nil (AreStatements globals types)
all_ask globals types g before (w ∷ ws) h =
    let both = no_cause (goroutine_cause types g before w) (goroutines_cause types (g + 1) (before + (w.news + w.gcs)) ws) h in
    All-cons (AreStatements globals types) (asking g w) (asking_from (g + 1) ws) (one_asks globals types g before w (goes types g before w both.0)) (all_ask globals types (g + 1) (before + (w.news + w.gcs)) ws both.1)

-- ---- settings

both_within : (low high n : ℕ) → (leb low n && leb n high) ≡ true → (low ≤ n) × (n ≤ high)
both_within low high n h = (leb-true low n (and_left (leb low n) (leb n high) h), leb-true n high (and_right (leb low n) (leb n high) h))

six : (a b c d e f : Bool) → (a && (b && (c && (d && (e && f))))) ≡ true → (a ≡ true) × (b ≡ true) × (c ≡ true) × (d ≡ true) × (e ≡ true) × (f ≡ true)
six true true true true true true h = (refl, refl, refl, refl, refl, refl)
six false b c d e f h = absurd cc
six true false c d e f h = absurd cc
six true true false d e f h = absurd cc
six true true true false e f h = absurd cc
six true true true true false f h = absurd cc
six true true true true true false h = absurd cc

AreWithin-are_within : (s : Settings) → are_within s ≡ true → AreWithin s
unfolding are_within
AreWithin-are_within s h =
    let all = six (is_within Procs s.procs) (is_within Workers s.workers) (is_within Arena s.arena) (is_within Globals s.globals) (is_within Gogc s.gogc) (is_within Minheap s.minheap) h in
    record {
      procs = both_within 1 8 s.procs all.0;
      workers = both_within 1 4 s.workers all.1;
      arena = both_within 16 1024 s.arena all.2;
      globals = both_within 1 256 s.globals all.3;
      gogc = both_within 0 1000 s.gogc all.4;
      minheap = both_within 0 8388608 s.minheap all.5;
    }

-- ---- all of it

some_there : (n : ℕ) → eqb n 0 ≡ false → 1 ≤ n
some_there n h = grind arith

made_of : (settings : Settings) (words : List (List ℕ)) (ws : List Wishes) → are_within settings ≡ true → types_cause 0 words ≡ None → goroutines_cause (length words) 0 0 ws ≡ None → 1 ≤ length ws
    → WellFormed (record { settings = settings; shapes = map shape_spelled words; goroutines = asking_from 0 ws })
made_of settings words ws fit types go some =
    let few = few_types 0 words (omega arith) types in
    let few_go = few_goroutines (length words) 0 0 ws (omega arith) go in
    let many = length-map words shape_spelled in
    record {
      settings = AreWithin-are_within settings fit;
      types = omega (arith, few, many);
      shapes_fit = All-ShapesFit (map shape_spelled words) (shapes_fit 0 words types);
      shapes_packed = shapes_packed words;
      some_goroutine = omega (arith, length-asking_from 0 ws, some);
      few_goroutines = omega (arith, length-asking_from 0 ws, few_go);
      names = all_named 0 ws few_go;
      names_apart = all_apart 0 ws few_go;
      statements = subst (λ (n : ℕ). All (AreStatements settings.globals n) (asking_from 0 ws)) (sym many) (all_ask settings.globals (length words) 0 0 ws go);
      few_statements = omega (arith, few_statements (length words) 0 0 ws (omega arith) go);
    }

pub made_formed : (settings : Settings) (words : List (List ℕ)) (ws : List Wishes) (shapes : List Shape) (goroutines : List Goroutine) (types n : ℕ) → are_within settings ≡ true → types_cause 0 words ≡ None → types ≡ length words
    → goroutines_cause types 0 0 ws ≡ None → shapes ≡ map shape_spelled words → goroutines ≡ asking_from 0 ws → n ≡ length goroutines → eqb n 0 ≡ false → WellFormed (record { settings = settings; shapes = shapes; goroutines = goroutines })
made_formed settings words ws shapes goroutines types n fit none many go are all is some =
    let long : length goroutines ≡ length ws = ap length all ∙ length-asking_from 0 ws in
    let there = some_there n some in
    subst (λ (l : List Shape). WellFormed (record { settings = settings; shapes = l; goroutines = goroutines })) (sym are)
    (subst (λ (l : List Goroutine). WellFormed (record { settings = settings; shapes = map shape_spelled words; goroutines = l })) (sym all)
    (made_of settings words ws fit none (subst (λ (m : ℕ). goroutines_cause m 0 0 ws ≡ None) many go) (omega arith)))

-- ---- what is answered

pub stops_settings : (s : Settings) (words : List (List ℕ)) (ws : List Wishes) (fault : ScriptFault) → are_within s ≡ false → fault ≡ line_fault 0 Limit → StopsFor (ParseError.Script fault) (made_cause s words ws)
unfolding made_cause
stops_settings s words ws fault h is = rw is (rw h refl, refl)

pub stops_types : (s : Settings) (words : List (List ℕ)) (ws : List Wishes) (e : ParseError) → are_within s ≡ true → StopsFor e (types_cause 0 words) → StopsFor e (made_cause s words ws)
unfolding made_cause
stops_types s words ws ParseError.NoMemory fit h = tt
stops_types s words ws (ParseError.Script fault) fit h = (rw (fit, h.0) refl, h.1)

pub stops_goroutines : (s : Settings) (words : List (List ℕ)) (ws : List Wishes) (e : ParseError) (types : ℕ) → are_within s ≡ true → types_cause 0 words ≡ None → types ≡ length words → StopsFor e (goroutines_cause types 0 0 ws)
    → StopsFor e (made_cause s words ws)
unfolding made_cause
stops_goroutines s words ws ParseError.NoMemory types fit none many h = tt
stops_goroutines s words ws (ParseError.Script fault) types fit none many h =
    let go : goroutines_cause (length words) 0 0 ws ≡ Some fault.why = subst (λ (m : ℕ). goroutines_cause m 0 0 ws ≡ Some fault.why) many h.0 in
    (rw (fit, none, go) refl, h.1)

pub stops_missing : (s : Settings) (words : List (List ℕ)) (ws : List Wishes) (goroutines : List Goroutine) (fault : ScriptFault) (types n : ℕ) → are_within s ≡ true → types_cause 0 words ≡ None → types ≡ length words → goroutines_cause types 0 0 ws ≡ None
    → goroutines ≡ asking_from 0 ws → n ≡ length goroutines → eqb n 0 ≡ true → fault ≡ line_fault 0 Missing → StopsFor (ParseError.Script fault) (made_cause s words ws)
unfolding made_cause
stops_missing s words ws goroutines fault types n fit none many go all long empty is =
    let there : goroutines_cause (length words) 0 0 ws ≡ None = subst (λ (m : ℕ). goroutines_cause m 0 0 ws ≡ None) many go in
    let nothing : eqb (length ws) 0 ≡ true = ap (λ (m : ℕ). eqb m 0) (sym (long ∙ ap length all ∙ length-asking_from 0 ws)) ∙ empty in
    rw is (rw (fit, none, there, nothing) refl, refl)

pub is_made : (s : Settings) (words : List (List ℕ)) (ws : List Wishes) (shapes : List Shape) (goroutines : List Goroutine) (types n : ℕ) → are_within s ≡ true → types_cause 0 words ≡ None → types ≡ length words → goroutines_cause types 0 0 ws ≡ None
    → shapes ≡ map shape_spelled words → goroutines ≡ asking_from 0 ws → n ≡ length goroutines → eqb n 0 ≡ false → IsMade (Ok (record { settings = s; shapes = shapes; goroutines = goroutines })) (made_cause s words ws) (made_program s words ws)
unfolding made_cause made_program
is_made s words ws shapes goroutines types n fit none many go are all long some =
    let there : goroutines_cause (length words) 0 0 ws ≡ None = subst (λ (m : ℕ). goroutines_cause m 0 0 ws ≡ None) many go in
    let nothing : eqb (length ws) 0 ≡ false = ap (λ (m : ℕ). eqb m 0) (sym (long ∙ ap length all ∙ length-asking_from 0 ws)) ∙ some in
    (rw (fit, none, there, nothing) refl, rw (are, all) refl)

-- ---- loops

-- one type more is let through
pub type_more : {T : Type 0} (now : T → List ℕ) (ts : List T) (i : ℕ) (d : T) → i < length ts → type_cause i (now (get_or ts i d)) ≡ None → types_cause i (map now (drop i ts)) ≡ types_cause (i + 1) (map now (drop (i + 1) ts))
unfolding types_cause
type_more now ts i d lt h = at_drop_more (λ l. types_cause i (map now l)) ts i d lt ∙ ap (λ (one : Option Why). first_cause one (types_cause (i + 1) (map now (drop (i + 1) ts)))) h

-- one type is refused
pub type_stops : {T : Type 0} (now : T → List ℕ) (ts : List T) (i : ℕ) (d : T) (why : Why) → i < length ts → type_cause i (now (get_or ts i d)) ≡ Some why → types_cause i (map now (drop i ts)) ≡ Some why
unfolding types_cause
type_stops now ts i d why lt h = at_drop_more (λ l. types_cause i (map now l)) ts i d lt ∙ ap (λ (one : Option Why). first_cause one (types_cause (i + 1) (map now (drop (i + 1) ts)))) h

pub types_end : {T : Type 0} (now : T → List ℕ) (ts : List T) (i : ℕ) → length ts ≤ i → types_cause i (map now (drop i ts)) ≡ None
unfolding types_cause
types_end now ts i le = at_drop_all (λ l. types_cause i (map now l)) ts i le

pub goroutine_more : (types g before : ℕ) (ws : List Wishes) (d : Wishes) → g < length ws → goroutine_cause types g before (get_or ws g d) ≡ None
    → goroutines_cause types g before (drop g ws) ≡ goroutines_cause types (g + 1) (before + ((get_or ws g d).news + (get_or ws g d).gcs)) (drop (g + 1) ws)
unfolding goroutines_cause
goroutine_more types g before ws d lt h = at_drop_more (goroutines_cause types g before) ws g d lt ∙ ap (λ (one : Option Why). first_cause one (goroutines_cause types (g + 1) (before + ((get_or ws g d).news + (get_or ws g d).gcs)) (drop (g + 1) ws))) h

pub goroutine_stops : (types g before : ℕ) (ws : List Wishes) (d : Wishes) (why : Why) → g < length ws → goroutine_cause types g before (get_or ws g d) ≡ Some why → goroutines_cause types g before (drop g ws) ≡ Some why
unfolding goroutines_cause
goroutine_stops types g before ws d why lt h = at_drop_more (goroutines_cause types g before) ws g d lt ∙ ap (λ (one : Option Why). first_cause one (goroutines_cause types (g + 1) (before + ((get_or ws g d).news + (get_or ws g d).gcs)) (drop (g + 1) ws))) h

pub goroutines_end : (types g before : ℕ) (ws : List Wishes) → length ws ≤ g → goroutines_cause types g before (drop g ws) ≡ None
unfolding goroutines_cause
goroutines_end types g before ws le = at_drop_all (goroutines_cause types g before) ws g le

-- what was made so far and what is still to be made
pub shapes_more : {T : Type 0} (now : T → List ℕ) (ts : List T) (i : ℕ) (d : T) (made all : List Shape) (one : Shape) → i < length ts → one ≡ shape_spelled (now (get_or ts i d)) → made ++ map shape_spelled (map now (drop i ts)) ≡ all
    → (made ++ one ∷ []) ++ map shape_spelled (map now (drop (i + 1) ts)) ≡ all
shapes_more now ts i d made all one lt is so_far =
    append_assoc made (one ∷ []) (map shape_spelled (map now (drop (i + 1) ts)))
    ∙ ap (λ (s : Shape). made ++ s ∷ map shape_spelled (map now (drop (i + 1) ts))) is
    ∙ sym (at_drop_more (λ l. made ++ map shape_spelled (map now l)) ts i d lt) ∙ so_far

pub shapes_end : {T : Type 0} (now : T → List ℕ) (ts : List T) (i : ℕ) (made all : List Shape) → length ts ≤ i → made ++ map shape_spelled (map now (drop i ts)) ≡ all → made ≡ all
shapes_end now ts i made all le so_far = sym (append-nil made) ∙ sym (at_drop_all (λ l. made ++ map shape_spelled (map now l)) ts i le) ∙ so_far

pub asking_more : (ws : List Wishes) (g : ℕ) (d : Wishes) (made all : List Goroutine) (one : Goroutine) → g < length ws → one ≡ asking g (get_or ws g d) → made ++ asking_from g (drop g ws) ≡ all → (made ++ one ∷ []) ++ asking_from (g + 1) (drop (g + 1) ws) ≡ all
unfolding asking_from
asking_more ws g d made all one lt is so_far =
    append_assoc made (one ∷ []) (asking_from (g + 1) (drop (g + 1) ws))
    ∙ ap (λ (s : Goroutine). made ++ s ∷ asking_from (g + 1) (drop (g + 1) ws)) is
    ∙ sym (at_drop_more (λ l. made ++ asking_from g l) ws g d lt) ∙ so_far

pub asking_end : (ws : List Wishes) (g : ℕ) (made all : List Goroutine) → length ws ≤ g → made ++ asking_from g (drop g ws) ≡ all → made ≡ all
unfolding asking_from
asking_end ws g made all le so_far = sym (append-nil made) ∙ sym (at_drop_all (λ l. made ++ asking_from g l) ws g le) ∙ so_far

-- ---- a loop that stops

pub type_refused : {U : Type 0} (now : U → List ℕ) (ts : List U) (i : ℕ) (d : U) (e : ParseError) (whole : Option Why) → i < length ts → types_cause i (map now (drop i ts)) ≡ whole → StopsFor e (type_cause i (now (get_or ts i d))) → StopsFor e whole
type_refused now ts i d ParseError.NoMemory whole lt so_far h = tt
type_refused now ts i d (ParseError.Script fault) whole lt so_far h = (sym so_far ∙ type_stops now ts i d fault.why lt h.0, h.1)

pub goroutine_refused : (types g before : ℕ) (ws : List Wishes) (d : Wishes) (e : ParseError) (whole : Option Why) → g < length ws → goroutines_cause types g before (drop g ws) ≡ whole → StopsFor e (goroutine_cause types g before (get_or ws g d)) → StopsFor e whole
goroutine_refused types g before ws d ParseError.NoMemory whole lt so_far h = tt
goroutine_refused types g before ws d (ParseError.Script fault) whole lt so_far h = (sym so_far ∙ goroutine_stops types g before ws d fault.why lt h.0, h.1)
