-- A table after a write to its list, and tables of which a row stands for a pair.
use Rattle.std.proofs.Common.{◌≡◌, ℕ, ◌+◌, ◌*◌, ◌<◌, ◌≤◌, sym, ◌∙◌, ap, inl, inr, List, length, get_or, arith, get_or-set_other, get_or-set_same}
use Rattle.std.proofs.lemmas.Bool.{cases_eq}
use Rattle.std.proofs.lemmas.Nat.{mul-le}
use Rattle.gh_tri.proofs.Vocabulary.{by_three, cases_lt, cells, fun_ext, get_or_past, nat_tests, put2, put3, put_row, same_from_place, set}
use Rattle.gh_tri.proofs.Tells.{put2-tells, put3-tells}

pub cells-in : {A : Type 0} (d : A) (n : ℕ) (xs : List A) (i j : ℕ) → j < n → cells d n xs i j ≡ get_or xs (i * n + j) d
cells-in d n xs i j lt = grind (arith, nat_tests)

pub cells-out : {A : Type 0} (d : A) (n : ℕ) (xs : List A) (i j : ℕ) → n ≤ j → cells d n xs i j ≡ d
cells-out d n xs i j le = grind (arith, nat_tests)

cells-set_same : {A : Type 0} (d : A) (n : ℕ) (xs : List A) (i j : ℕ) (x : A) → j < n → i * n + j < length xs → cells d n (set xs (i * n + j) x) i j ≡ x
cells-set_same d n xs i j x lt within = cells-in d n (set xs (i * n + j) x) i j lt ∙ get_or-set_same xs (i * n + j) x d within

put2-same : {A : Type 0} (f : ℕ → ℕ → A) (i j : ℕ) (x : A) → put2 f i j x i j ≡ x
put2-same f i j x = grind (arith, nat_tests)

cells-set_at : {A : Type 0} (d : A) (n : ℕ) (xs : List A) (i j : ℕ) (x : A) → j < n → i * n + j < length xs → (a b : ℕ) → cells d n (set xs (i * n + j) x) a b ≡ put2 (cells d n xs) i j x a b
cells-set_at d n xs i j x lt within a b = elim (put2-tells (cells d n xs) i j x a b) [
  | inl y ↦ ap (λ c. cells d n (set xs (i * n + j) x) c b) (sym y.0) ∙ (ap (cells d n (set xs (i * n + j) x) i) (sym y.1) ∙ (cells-set_same d n xs i j x lt within ∙ sym y.2))
  | inr keeps ↦ elim (cases_lt b n) [
    | inr out ↦ cells-out d n (set xs (i * n + j) x) a b out ∙ (sym (cells-out d n xs a b out) ∙ sym keeps)
    | inl inside ↦ elim (cases_eq (a * n + b) (i * n + j)) [
      | inr ne ↦ cells-in d n (set xs (i * n + j) x) a b inside ∙ (get_or-set_other xs (i * n + j) (a * n + b) x d ne ∙ (sym (cells-in d n xs a b inside) ∙ sym keeps))
      | inl e ↦ (let same : (a ≡ i) × (b ≡ j) = same_from_place a b i j n inside lt e in
          ap (λ c. cells d n (set xs (i * n + j) x) c b) same.0 ∙ (ap (cells d n (set xs (i * n + j) x) i) same.1 ∙ (cells-set_same d n xs i j x lt within ∙ (sym (put2-same (cells d n xs) i j x) ∙ (ap (put2 (cells d n xs) i j x i) (sym same.1) ∙ ap (λ c. put2 (cells d n xs) i j x c b) (sym same.0))))))
    ]
  ]
]

-- a write to the list is a write to the table
pub cells-set : {A : Type 0} (d : A) (n : ℕ) (xs : List A) (i j : ℕ) (x : A) → j < n → i * n + j < length xs → cells d n (set xs (i * n + j) x) ≡ put2 (cells d n xs) i j x
cells-set d n xs i j x lt within = grind (arith, cells-set_at)

-- a row that has the value everywhere already
pub put_row-idle : {A : Type 0} (f : ℕ → ℕ → A) (i : ℕ) (x : A) → ((b : ℕ) → f i b ≡ x) → f ≡ put_row f i x
put_row-idle f i x h = grind arith

-- a row past the table
pub cells-past : {A : Type 0} (d : A) (n rows : ℕ) (xs : List A) (i j : ℕ) → length xs ≡ rows * n → rows ≤ i → cells d n xs i j ≡ d
cells-past d n rows xs i j e le = elim (cases_lt j n) [
  | inr out ↦ cells-out d n xs i j out
  | inl inside ↦ cells-in d n xs i j inside ∙ get_or_past xs (i * n + j) d (omega (arith, mul-le rows n i n le (omega arith)))
]

-- a write where the row stands for two numbers
pub three-put : {A : Type 0} (d : A) (n : ℕ) (table : ℕ → ℕ → A) (i j k : ℕ) (x : A) → j < n → by_three d n (put2 table (i * n + j) k x) ≡ put3 (by_three d n table) i j k x
three-put d n table i j k x lt = fun_ext (λ a. fun_ext (λ b. fun_ext (λ c. at d n table i j k x lt a b c))) where
  in_n : {A : Type 0} (d : A) (n : ℕ) (table : ℕ → ℕ → A) (a b c : ℕ) → b < n → by_three d n table a b c ≡ table (a * n + b) c
  in_n d n table a b c lt = grind (arith, nat_tests)

  out_n : {A : Type 0} (d : A) (n : ℕ) (table : ℕ → ℕ → A) (a b c : ℕ) → n ≤ b → by_three d n table a b c ≡ d
  out_n d n table a b c le = grind (arith, nat_tests)

  same : {A : Type 0} (d : A) (n : ℕ) (table : ℕ → ℕ → A) (i j k : ℕ) (x : A) → j < n → by_three d n (put2 table (i * n + j) k x) i j k ≡ x
  same d n table i j k x lt = in_n d n (put2 table (i * n + j) k x) i j k lt ∙ put2-same table (i * n + j) k x

  put3-same : {A : Type 0} (f : ℕ → ℕ → ℕ → A) (i j k : ℕ) (x : A) → put3 f i j k x i j k ≡ x
  put3-same f i j k x = grind (arith, nat_tests)

  at : {A : Type 0} (d : A) (n : ℕ) (table : ℕ → ℕ → A) (i j k : ℕ) (x : A) → j < n → (a b c : ℕ) → by_three d n (put2 table (i * n + j) k x) a b c ≡ put3 (by_three d n table) i j k x a b c
  at d n table i j k x lt a b c = elim (put3-tells (by_three d n table) i j k x a b c) [
    | inl y ↦ ap (λ t. by_three d n (put2 table (i * n + j) k x) t b c) (sym y.0) ∙ (ap (λ t. by_three d n (put2 table (i * n + j) k x) i t c) (sym y.1) ∙ (ap (by_three d n (put2 table (i * n + j) k x) i j) (sym y.2) ∙ (same d n table i j k x lt ∙ sym y.3)))
    | inr keeps ↦ elim (cases_lt b n) [
      | inr out ↦ out_n d n (put2 table (i * n + j) k x) a b c out ∙ (sym (out_n d n table a b c out) ∙ sym keeps)
      | inl inside ↦ elim (put2-tells table (i * n + j) k x (a * n + b) c) [
        | inr e ↦ in_n d n (put2 table (i * n + j) k x) a b c inside ∙ (e ∙ (sym (in_n d n table a b c inside) ∙ sym keeps))
        | inl y ↦ (let one : (i ≡ a) × (j ≡ b) = same_from_place i j a b n lt inside y.0 in
            in_n d n (put2 table (i * n + j) k x) a b c inside ∙ (y.2 ∙ (sym (put3-same (by_three d n table) i j k x) ∙ (ap (λ t. put3 (by_three d n table) i j k x t j k) one.0 ∙ (ap (λ t. put3 (by_three d n table) i j k x a t k) one.1 ∙ ap (put3 (by_three d n table) i j k x a b) y.1)))))
      ]
    ]
  ]
