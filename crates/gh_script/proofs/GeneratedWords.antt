-- The lines of a generated script say its statements.
use Rattle.std.proofs.Common.{◌≡◌, ℕ, zero, suc, ◌+◌, ◌/◌, ◌%◌, ◌<◌, Bool, true, cond, List, [], ◌∷◌, ◌++◌, length, Some, refl, sym, ap, subst, arith, le-ltb, decimal, codes}
use Rattle.gh_script.proofs.Vocabulary.{block_key_of, decimal_digit, digits_value_of, generated_name, Given, inside, is_name, IsTaken, KeepsTo, Key, key_of, list_all, lt-leb, number_spelled, register_named, sentence_of, setting_named, statement_by, statement_by_key, statement_key_of, statement_words, Stmt, type_of, value_from}
use Rattle.gh_script.specs.declared.statement.Stmt.TheVariants.{New, Load, Store, GetGlobal, SetGlobal, Move, Nil}
use Rattle.gh_script.proofs.FormSaid.{cause_none, taken_by}
use Rattle.gh_script.proofs.Spelled.{is_plain, is_line, both_true, line_made}

-- ---- words with one digit

-- the words for a number of one digit: a register, the number and a goroutine's name
pub record OneDigit (n : ℕ) (digit : List ℕ) : Type 0 where
  pub register : register_named (codes "r" ++ digit) ≡ Some n
  pub number : number_spelled digit ≡ Some n
  pub register_plain : is_plain (codes "r" ++ digit) ≡ true
  pub number_plain : is_plain digit ≡ true
  pub register_long : length (codes "r" ++ digit) ≡ 2
  pub number_long : length digit ≡ 1
  pub name : is_name (codes "g" ++ digit) ≡ true
  pub name_plain : list_all is_plain (codes "go" ∷ (codes "g" ++ digit) ∷ []) ≡ true

digit_spelt : (n : ℕ) → n < 4 → OneDigit n ((48 + n) ∷ [])
unfolding register_named number_spelled digits_value_of value_from is_name
digit_spelt zero h = record { register = refl; number = refl; register_plain = refl; number_plain = refl; register_long = refl; number_long = refl; name = refl; name_plain = refl }
digit_spelt (suc zero) h = record { register = refl; number = refl; register_plain = refl; number_plain = refl; register_long = refl; number_long = refl; name = refl; name_plain = refl }
digit_spelt (suc (suc zero)) h = record { register = refl; number = refl; register_plain = refl; number_plain = refl; register_long = refl; number_long = refl; name = refl; name_plain = refl }
digit_spelt (suc (suc (suc zero))) h = record { register = refl; number = refl; register_plain = refl; number_plain = refl; register_long = refl; number_long = refl; name = refl; name_plain = refl }
digit_spelt (suc (suc (suc (suc n)))) h = absurd (omega arith)

pub one_digit : (n : ℕ) → n < 4 → OneDigit n (decimal n)
one_digit n h = subst (OneDigit n) (sym (decimal_digit n (omega arith))) (digit_spelt n h)

pub name_line : (i : ℕ) → i < 4 → is_line (codes "go" ∷ generated_name i ∷ []) ≡ true
name_line i h =
    let d = one_digit i h in
    let long : length (generated_name i) ≡ 2 = ap suc d.number_long in
    line_made (codes "go") (generated_name i ∷ []) d.name_plain (omega arith)

two_plain : (a b : List ℕ) → is_plain a ≡ true → is_plain b ≡ true → list_all is_plain (a ∷ b ∷ []) ≡ true
two_plain a b p q = both_true (is_plain a) (list_all is_plain (b ∷ [])) p (both_true (is_plain b) true q refl)

three_plain : (a b c : List ℕ) → is_plain a ≡ true → is_plain b ≡ true → is_plain c ≡ true → list_all is_plain (a ∷ b ∷ c ∷ []) ≡ true
three_plain a b c p q r = both_true (is_plain a) (list_all is_plain (b ∷ c ∷ [])) p (two_plain b c q r)

four_plain : (a b c d : List ℕ) → is_plain a ≡ true → is_plain b ≡ true → is_plain c ≡ true → is_plain d ≡ true → list_all is_plain (a ∷ b ∷ c ∷ d ∷ []) ≡ true
four_plain a b c d p q r s = both_true (is_plain a) (list_all is_plain (b ∷ c ∷ d ∷ [])) p (three_plain b c d q r s)

-- ---- statements

-- what the head of a generated script gives
abbrev pub given : Given
given = record { procs = Some 4; workers = Some 2; arena = Some 1024; globals = Some 4; gogc = Some 50; minheap = Some 65536 }

abbrev pub names : List (List ℕ)
names = codes "node" ∷ []

-- behind that head the line says the statement, and would be taken
pub record Says (line : List (List ℕ)) (statement : Stmt) : Type 0 where
  pub fits : is_line line ≡ true
  pub said : statement_by_key names (sentence_of line) (key_of (sentence_of line).first) ≡ Some statement
  pub taken : IsTaken (inside given names) (sentence_of line)

pub new_says : (d : ℕ) (rd : List ℕ) → register_named rd ≡ Some d → is_plain rd ≡ true → length rd ≡ 2 → Says (codes "new" ∷ rd ∷ codes "node" ∷ []) (New d 0)
unfolding key_of setting_named block_key_of statement_key_of type_of is_name
new_says d rd e p l = record {
  fits = line_made (codes "new") (rd ∷ codes "node" ∷ []) (three_plain (codes "new") rd (codes "node") refl p refl) (omega arith);
  said = rw e refl;
  taken = taken_by (inside given names) (sentence_of (codes "new" ∷ rd ∷ codes "node" ∷ [])) Key.New refl
      (cause_none (inside given names) Key.New (sentence_of (codes "new" ∷ rd ∷ codes "node" ∷ [])) (record { word = rw e refl; number = refl; limit = refl; twice = refl; unknown = refl; nesting = refl }));
}

pub store_says : (b k v : ℕ) (rb dk rv : List ℕ) → register_named rb ≡ Some b → number_spelled dk ≡ Some k → register_named rv ≡ Some v → is_plain rb ≡ true → is_plain dk ≡ true → is_plain rv ≡ true
    → length rb ≡ 2 → length dk ≡ 1 → length rv ≡ 2 → k < 4 → Says (codes "store" ∷ rb ∷ dk ∷ rv ∷ []) (Store b k v)
unfolding key_of setting_named block_key_of statement_key_of
store_says b k v rb dk rv e f g p q r l m n few = record {
  fits = line_made (codes "store") (rb ∷ dk ∷ rv ∷ []) (four_plain (codes "store") rb dk rv refl p q r) (omega arith);
  said = rw (e, f, g) refl;
  taken = taken_by (inside given names) (sentence_of (codes "store" ∷ rb ∷ dk ∷ rv ∷ [])) Key.Store refl
      (cause_none (inside given names) Key.Store (sentence_of (codes "store" ∷ rb ∷ dk ∷ rv ∷ [])) (record { word = rw (e, g) refl; number = rw f refl; limit = rw f (le-ltb 65535 k (omega arith)); twice = refl; unknown = refl; nesting = refl }));
}

pub load_says : (d b k : ℕ) (rd rb dk : List ℕ) → register_named rd ≡ Some d → register_named rb ≡ Some b → number_spelled dk ≡ Some k → is_plain rd ≡ true → is_plain rb ≡ true → is_plain dk ≡ true
    → length rd ≡ 2 → length rb ≡ 2 → length dk ≡ 1 → k < 4 → Says (codes "load" ∷ rd ∷ rb ∷ dk ∷ []) (Load d b k)
unfolding key_of setting_named block_key_of statement_key_of
load_says d b k rd rb dk e f g p q r l m n few = record {
  fits = line_made (codes "load") (rd ∷ rb ∷ dk ∷ []) (four_plain (codes "load") rd rb dk refl p q r) (omega arith);
  said = rw (e, f, g) refl;
  taken = taken_by (inside given names) (sentence_of (codes "load" ∷ rd ∷ rb ∷ dk ∷ [])) Key.Load refl
      (cause_none (inside given names) Key.Load (sentence_of (codes "load" ∷ rd ∷ rb ∷ dk ∷ [])) (record { word = rw (e, f) refl; number = rw g refl; limit = rw g (le-ltb 65535 k (omega arith)); twice = refl; unknown = refl; nesting = refl }));
}

pub set_says : (k v : ℕ) (dk rv : List ℕ) → number_spelled dk ≡ Some k → register_named rv ≡ Some v → is_plain dk ≡ true → is_plain rv ≡ true → length dk ≡ 1 → length rv ≡ 2 → k < 4 → Says (codes "gstore" ∷ dk ∷ rv ∷ []) (SetGlobal k v)
unfolding key_of setting_named block_key_of statement_key_of
set_says k v dk rv e f p q l m few = record {
  fits = line_made (codes "gstore") (dk ∷ rv ∷ []) (three_plain (codes "gstore") dk rv refl p q) (omega arith);
  said = rw (e, f) refl;
  taken = taken_by (inside given names) (sentence_of (codes "gstore" ∷ dk ∷ rv ∷ [])) Key.SetGlobal refl
      (cause_none (inside given names) Key.SetGlobal (sentence_of (codes "gstore" ∷ dk ∷ rv ∷ [])) (record { word = rw f refl; number = rw e refl; limit = rw e (lt-leb 4 k few); twice = refl; unknown = refl; nesting = refl }));
}

pub get_says : (d k : ℕ) (rd dk : List ℕ) → register_named rd ≡ Some d → number_spelled dk ≡ Some k → is_plain rd ≡ true → is_plain dk ≡ true → length rd ≡ 2 → length dk ≡ 1 → k < 4 → Says (codes "gload" ∷ rd ∷ dk ∷ []) (GetGlobal d k)
unfolding key_of setting_named block_key_of statement_key_of
get_says d k rd dk e f p q l m few = record {
  fits = line_made (codes "gload") (rd ∷ dk ∷ []) (three_plain (codes "gload") rd dk refl p q) (omega arith);
  said = rw (e, f) refl;
  taken = taken_by (inside given names) (sentence_of (codes "gload" ∷ rd ∷ dk ∷ [])) Key.GetGlobal refl
      (cause_none (inside given names) Key.GetGlobal (sentence_of (codes "gload" ∷ rd ∷ dk ∷ [])) (record { word = rw e refl; number = rw f refl; limit = rw f (lt-leb 4 k few); twice = refl; unknown = refl; nesting = refl }));
}

pub move_says : (d s : ℕ) (rd rs : List ℕ) → register_named rd ≡ Some d → register_named rs ≡ Some s → is_plain rd ≡ true → is_plain rs ≡ true → length rd ≡ 2 → length rs ≡ 2 → Says (codes "move" ∷ rd ∷ rs ∷ []) (Move d s)
unfolding key_of setting_named block_key_of statement_key_of
move_says d s rd rs e f p q l m = record {
  fits = line_made (codes "move") (rd ∷ rs ∷ []) (three_plain (codes "move") rd rs refl p q) (omega arith);
  said = rw (e, f) refl;
  taken = taken_by (inside given names) (sentence_of (codes "move" ∷ rd ∷ rs ∷ [])) Key.Move refl
      (cause_none (inside given names) Key.Move (sentence_of (codes "move" ∷ rd ∷ rs ∷ [])) (record { word = rw (e, f) refl; number = refl; limit = refl; twice = refl; unknown = refl; nesting = refl }));
}

pub nil_says : (d : ℕ) (rd : List ℕ) → register_named rd ≡ Some d → is_plain rd ≡ true → length rd ≡ 2 → Says (codes "nil" ∷ rd ∷ []) (Nil d)
unfolding key_of setting_named block_key_of statement_key_of
nil_says d rd e p l = record {
  fits = line_made (codes "nil") (rd ∷ []) (two_plain (codes "nil") rd refl p) (omega arith);
  said = rw e refl;
  taken = taken_by (inside given names) (sentence_of (codes "nil" ∷ rd ∷ [])) Key.Nil refl
      (cause_none (inside given names) Key.Nil (sentence_of (codes "nil" ∷ rd ∷ [])) (record { word = rw e refl; number = refl; limit = refl; twice = refl; unknown = refl; nesting = refl }));
}

-- ---- the statement of a word

-- one of seven
one_of : (P : Stmt → Type 0) (b1 b2 b3 b4 b5 b6 : Bool) (s1 s2 s3 s4 s5 s6 s7 : Stmt) → P s1 → P s2 → P s3 → P s4 → P s5 → P s6 → P s7
    → P (cond b1 s1 (cond b2 s2 (cond b3 s3 (cond b4 s4 (cond b5 s5 (cond b6 s6 s7))))))
one_of P b1 b2 b3 b4 b5 b6 s1 s2 s3 s4 s5 s6 s7 p1 p2 p3 p4 p5 p6 p7 = grind arith

-- what holds of each kind of statement, holds of that of each word
pub each_statement : (P : Stmt → Type 0) (i word : ℕ) → P (New (word / 8 % 4) 0) → P (Store (word / 8 % 4) (word / 128 % 2) (word / 32 % 4)) → P (Load (word / 8 % 4) (word / 32 % 4) (word / 128 % 2))
    → P (SetGlobal i (word / 8 % 4)) → P (GetGlobal (word / 8 % 4) i) → P (Move (word / 8 % 4) (word / 32 % 4)) → P (Nil (word / 8 % 4)) → P (statement_by i word)
unfolding statement_by
each_statement P i word p1 p2 p3 p4 p5 p6 p7 = one_of P _ _ _ _ _ _ _ _ _ _ _ _ _ p1 p2 p3 p4 p5 p6 p7

abbrev pub IsSaid : Stmt → Type 0
IsSaid statement = Says (statement_words statement) statement

pub IsSaid-statement_by : (i word : ℕ) → i < 4 → IsSaid (statement_by i word)
unfolding statement_words
IsSaid-statement_by i word lt =
    let a = one_digit (word / 8 % 4) (omega arith) in
    let c = one_digit (word / 32 % 4) (omega arith) in
    let k = one_digit (word / 128 % 2) (omega arith) in
    let g = one_digit i lt in
    let small : word / 128 % 2 < 4 = omega arith in
    each_statement IsSaid i word
    (new_says _ _ a.register a.register_plain a.register_long)
    (store_says _ _ _ _ _ _ a.register k.number c.register a.register_plain k.number_plain c.register_plain a.register_long k.number_long c.register_long small)
    (load_says _ _ _ _ _ _ a.register c.register k.number a.register_plain c.register_plain k.number_plain a.register_long c.register_long k.number_long small)
    (set_says _ _ _ _ g.number a.register g.number_plain a.register_plain g.number_long a.register_long lt)
    (get_says _ _ _ _ a.register g.number a.register_plain g.number_plain a.register_long g.number_long lt)
    (move_says _ _ _ _ a.register c.register a.register_plain c.register_plain a.register_long c.register_long)
    (nil_says _ _ a.register a.register_plain a.register_long)

pub KeepsTo-statement_by : (i word : ℕ) → KeepsTo i (statement_by i word)
KeepsTo-statement_by i word = each_statement (KeepsTo i) i word refl tt tt refl refl tt tt
