-- The letters of a name as one number.
use Rattle.std.proofs.Common.{◌≡◌, ℕ, suc, ◌+◌, ◌-◌, ◌*◌, ◌^◌, ◌<◌, ◌≤◌, ◌&&◌, true, List, [], ◌∷◌, length, get_or, drop, refl, ap, ◌∙◌, arith}
use Rattle.std.proofs.Math.Nat.{pow-le-pow_right, pow-suc}
use Rattle.std.proofs.lemmas.Bool.{ltb-true}
use Rattle.std.proofs.Math.Seq.{drop-length}
use Rattle.std.proofs.lemmas.List.{drop_more}
use Rattle.gh_script.specs.Words.{is_letter, is_name, is_name_byte}
use Rattle.gh_dump.specs.Items.{letters_number}
use Rattle.std.specs.Prelude.{nat_lt}
use Rattle.std.specs.List.{list_all}
use Rattle.std.proofs.lemmas.Bool.Decides.{nat_tests}
use Rattle.gh_dump.proofs.Lists.{and_parts}

-- one letter more
pub one_more : (v b n : ℕ) → v < 256 ^ n → b < 256 → v * 256 + b < 256 ^ suc n
one_more v b n h l = rw (pow-suc 256 n) (omega (arith, h, l))

pub fits_more : (v b n : ℕ) → v < 256 ^ n → b < 256 → n < 16 → v * 256 + b < 2 ^ 128
fits_more v b n h l lt =
    let some : 0 < 256 = omega arith in
    let short : suc n ≤ 16 = omega arith in
    let top : 256 ^ suc n ≤ 256 ^ 16 = pow-le-pow_right some short in
    let more : v * 256 + b < 256 ^ suc n = one_more v b n h l in
    omega arith

pub letter_before : (xs : List ℕ) (v n : ℕ) → n < length xs → v ≡ letters_number (drop (n + 1) xs) → v * 256 + get_or xs n 0 ≡ letters_number (drop n xs)
unfolding letters_number
letter_before xs v n within same = rw (drop_more xs n 0 within) (omega (arith, same))

-- names differ where their letters do
byte_of : (c : ℕ) → is_name_byte c ≡ true → (0 < c) × (c < 256)
byte_of c h = grind (arith, nat_tests)

pub letters_apart : (a b : List ℕ) → list_all is_name_byte a ≡ true → list_all is_name_byte b ≡ true → letters_number a ≡ letters_number b → a ≡ b
unfolding letters_number
letters_apart [] [] h k e = refl
letters_apart [] (d ∷ ds) h k e = absurd (omega (arith, byte_of d (and_parts (is_name_byte d) (list_all is_name_byte ds) k).0))
letters_apart (c ∷ cs) [] h k e = absurd (omega (arith, byte_of c (and_parts (is_name_byte c) (list_all is_name_byte cs) h).0))
letters_apart (c ∷ cs) (d ∷ ds) h k e =
    let p = and_parts (is_name_byte c) (list_all is_name_byte cs) h in
    let q = and_parts (is_name_byte d) (list_all is_name_byte ds) k in
    let m = byte_of c p.0 in
    let n = byte_of d q.0 in
    let first : c ≡ d = omega (arith, m, n, e) in
    let rest : letters_number cs ≡ letters_number ds = omega (arith, m, n, e) in
    let others : cs ≡ ds = letters_apart cs ds p.1 q.1 rest in
    cc

name_letters : (a : List ℕ) → is_name a ≡ true → list_all is_name_byte a ≡ true
unfolding is_name
name_letters [] h = absurd (cc)
name_letters (c ∷ cs) h =
    let p = and_parts (is_letter c && nat_lt (length cs) 16) (list_all is_name_byte cs) h in
    let q = and_parts (is_letter c) (nat_lt (length cs) 16) p.0 in
    rw (q.0, p.1) refl

pub names_apart : (a b : List ℕ) → is_name a ≡ true → is_name b ≡ true → letters_number a ≡ letters_number b → a ≡ b
names_apart a b h k e = letters_apart a b (name_letters a h) (name_letters b k) e

-- a name has at most 16 letters
pub short_name : (a : List ℕ) → is_name a ≡ true → length a ≤ 16
unfolding is_name
short_name [] h = omega arith
short_name (c ∷ cs) h =
    let p = and_parts (is_letter c && nat_lt (length cs) 16) (list_all is_name_byte cs) h in
    let q = and_parts (is_letter c) (nat_lt (length cs) 16) p.0 in
    omega (arith, ltb-true (length cs) 16 q.1)

-- ---- the loop that goes over the letters from the last to the first

pub record Read (xs : List ℕ) (v left : ℕ) : Type 0 where
  pub within : left ≤ length xs
  pub value : v ≡ letters_number (drop left xs)
  pub short : v < 256 ^ (length xs - left)

pub read_none : (xs : List ℕ) → Read xs 0 (length xs)
unfolding letters_number
read_none xs =
    let none : length xs - length xs ≡ 0 = omega arith in
    record { within = omega arith; value = rw (drop-length xs) refl; short = rw none (omega arith) }

pub read_more : (xs : List ℕ) (v left b : ℕ) → Read xs v left → 0 < left → b ≡ get_or xs (left - 1) 0 → b < 256 → Read xs (v * 256 + b) (left - 1)
read_more xs v left b r some at byte =
    let within : left - 1 < length xs = omega (arith, r.within) in
    let next : left ≡ (left - 1) + 1 = omega arith in
    let same : v ≡ letters_number (drop ((left - 1) + 1) xs) = r.value ∙ ap (λ (n : ℕ). letters_number (drop n xs)) next in
    let more : length xs - (left - 1) ≡ suc (length xs - left) = omega (arith, r.within) in
    record {
      within = omega (arith, r.within);
      value = ap (λ (n : ℕ). v * 256 + n) at ∙ letter_before xs v (left - 1) within same;
      short = rw more (one_more v b (length xs - left) r.short byte);
    }

-- a letter more fits
pub read_fits : (xs : List ℕ) (v left b : ℕ) → length xs ≤ 16 → Read xs v left → 0 < left → b < 256 → v * 256 + b < 2 ^ 128
read_fits xs v left b short r some byte = fits_more v b (length xs - left) r.short byte (omega (arith, r.within))
