-- Numbers read digit by digit.
use Rattle.std.proofs.Common.{◌≡◌, ℕ, ◌+◌, ◌-◌, ◌*◌, ◌^◌, ◌<◌, ◌≤◌, Bool, cond, ltb, ◌&&◌, List, [], ◌∷◌, length, get_or, drop, Option, Some, None, refl, sym, ◌∙◌, arith}
use Rattle.std.proofs.lemmas.Bool.{lt-ltb}
use Rattle.gh_script.proofs.Vocabulary.{at_drop_all, at_drop_more, digits_value_of, is_digit, list_all, value_from}

-- the number that digits spell behind a number, where each front of it is below the limit
unfoldable pub reads_from : ℕ → ℕ → List ℕ → Option ℕ
reads_from limit before [] = Some before
reads_from limit before (c ∷ cs) = cond (is_digit c && ltb (10 * before + (c - 48)) limit) (reads_from limit (10 * before + (c - 48)) cs) None

pub value_from-le : (before : ℕ) (cs : List ℕ) → before ≤ value_from before cs
unfolding value_from
value_from-le before [] = omega arith
value_from-le before (c ∷ cs) = omega (arith, value_from-le (10 * before + (c - 48)) cs)

past : (limit v : ℕ) (digits : Bool) → limit ≤ v → None ≡ cond (digits && ltb v limit) (Some v) None
past limit v digits h = grind arith

step : (limit next : ℕ) (cs : List ℕ) (digit : Bool) → (next < limit → reads_from limit next cs ≡ cond (list_all is_digit cs && ltb (value_from next cs) limit) (Some (value_from next cs)) None)
    → cond (digit && ltb next limit) (reads_from limit next cs) None ≡ cond ((digit && list_all is_digit cs) && ltb (value_from next cs) limit) (Some (value_from next cs)) None
step limit next cs digit rest = grind (arith, past, value_from-le)

pub reads_from-is : (limit before : ℕ) (cs : List ℕ) → before < limit → reads_from limit before cs ≡ cond (list_all is_digit cs && ltb (value_from before cs) limit) (Some (value_from before cs)) None
unfolding reads_from value_from
reads_from-is limit before [] lt = rw (lt-ltb before limit lt) refl
reads_from-is limit before (c ∷ cs) lt = step limit (10 * before + (c - 48)) cs (is_digit c) (reads_from-is limit (10 * before + (c - 48)) cs)

abbrev pub next_of : ℕ → ℕ → ℕ → Option ℕ
next_of limit before c = cond (is_digit c && ltb (10 * before + (c - 48)) limit) (Some (10 * before + (c - 48))) None

more : (digits : Bool) (next v : ℕ) (rest : Option ℕ) (limit : ℕ) (cs : List ℕ) → Some v ≡ cond digits (Some next) None → cond digits (reads_from limit next cs) None ≡ reads_from limit v cs
more digits next v rest limit cs e = grind arith

stops : (digits : Bool) (next : ℕ) (rest : Option ℕ) → None ≡ cond digits (Some next) None → cond digits rest None ≡ None
stops digits next rest e = grind arith

pub read_more : (limit before i v : ℕ) (cs : List ℕ) (total : Option ℕ) → i < length cs → Some v ≡ next_of limit before (get_or cs i 0) → reads_from limit before (drop i cs) ≡ total → reads_from limit v (drop (i + 1) cs) ≡ total
unfolding reads_from
read_more limit before i v cs total lt next so_far =
    let e = at_drop_more (reads_from limit before) cs i 0 lt in
    let c : ℕ = get_or cs i 0 in
    sym (more (is_digit c && ltb (10 * before + (c - 48)) limit) (10 * before + (c - 48)) v total limit (drop (i + 1) cs) next) ∙ sym e ∙ so_far

pub read_stops : (limit before i : ℕ) (cs : List ℕ) (total : Option ℕ) → i < length cs → None ≡ next_of limit before (get_or cs i 0) → reads_from limit before (drop i cs) ≡ total → None ≡ total
unfolding reads_from
read_stops limit before i cs total lt next so_far =
    let e = at_drop_more (reads_from limit before) cs i 0 lt in
    let c : ℕ = get_or cs i 0 in
    sym (stops (is_digit c && ltb (10 * before + (c - 48)) limit) (10 * before + (c - 48)) (reads_from limit (10 * before + (c - 48)) (drop (i + 1) cs)) next) ∙ sym e ∙ so_far

pub read_all : (limit before i : ℕ) (cs : List ℕ) (total : Option ℕ) → length cs ≤ i → reads_from limit before (drop i cs) ≡ total → Some before ≡ total
unfolding reads_from
read_all limit before i cs total le so_far = sym (at_drop_all (reads_from limit before) cs i le) ∙ so_far

pub digits_value_of-reads : (cs : List ℕ) → reads_from (2 ^ 64) 0 cs ≡ digits_value_of cs
unfolding digits_value_of
digits_value_of-reads cs = reads_from-is (2 ^ 64) 0 cs (omega arith)
