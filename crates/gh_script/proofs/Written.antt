-- The statements with the body of a `repeat` written out.
use Rattle.std.proofs.Common.{◌≡◌, ℕ, ◌+◌, ◌-◌, ◌*◌, ◌<◌, ◌≤◌, Bool, false, cond, eqb, List, [], ◌∷◌, ◌++◌, length, take, drop, Some, None, refl, sym, ap, ◌∙◌, arith, inl, inr, min}
use Rattle.std.proofs.lemmas.Bool.{lt-ltb, le-ltb}
use Rattle.std.proofs.lemmas.List.{take_all, length-append, length-take, length-drop}
use Rattle.gh_script.proofs.Vocabulary.{block_ended, cases_lt, Draft, drop-append_seam, drop_all, finished_goroutine, kept, Open, Repeat, repeat, Stmt, take-append_seam, with_closed, written_out}
use Rattle.gh_script.proofs.Repeated.{length-repeat}

pub kept_none : (ss : List Stmt) → 200000 < length ss → kept ss ≡ None
unfolding kept
kept_none ss h = rw (lt-ltb 200000 (length ss) h) refl

pub kept_some : (ss : List Stmt) → length ss ≤ 200000 → kept ss ≡ Some ss
unfolding kept
kept_some ss h = rw (le-ltb 200000 (length ss) h) refl

record SameParts (n s : ℕ) (ss : List Stmt) : Type 0 where
  front : take s ss ≡ take n ss
  behind : drop s ss ≡ drop n ss

same_parts : (n s : ℕ) (ss : List Stmt) → s ≡ min n (length ss) → SameParts n s ss
same_parts n s ss e = elim (cases_lt n (length ss)) [
  | inl lt ↦ let same : s ≡ n = omega arith in record { front = ap (λ (k : ℕ). take k ss) same; behind = ap (λ (k : ℕ). drop k ss) same }
  | inr le ↦ record { front = take_all s ss (omega arith) ∙ sym (take_all n ss le); behind = drop_all s ss (omega arith) ∙ sym (drop_all n ss le) }
]

abbrev pub in_full : Repeat → List Stmt → List Stmt
in_full innermost ss = take innermost.start ss ++ repeat innermost.times (drop innermost.start ss)

length_in_full : (innermost : Repeat) (ss : List Stmt) (s : ℕ) → s ≡ min innermost.start (length ss) → length (in_full innermost ss) ≡ s + innermost.times * (length ss - s)
length_in_full innermost ss s e =
    let p = same_parts innermost.start s ss e in
    let l : length (in_full innermost ss) ≡ length (take innermost.start ss) + length (repeat innermost.times (drop innermost.start ss)) = length-append (take innermost.start ss) (repeat innermost.times (drop innermost.start ss)) in
    let f : length (take innermost.start ss) ≡ s = sym (ap length p.front) ∙ omega (arith, length-take s ss) in
    let b : length (repeat innermost.times (drop innermost.start ss)) ≡ innermost.times * (length ss - s) =
    length-repeat innermost.times (drop innermost.start ss) ∙ ap (λ (k : ℕ). innermost.times * k) (sym (ap length p.behind) ∙ length-drop s ss) in
    omega arith

pub written_none : (innermost : Repeat) (ss : List Stmt) (s product total : ℕ) → s ≡ min innermost.start (length ss) → product ≡ min ((length ss - s) * innermost.times) 18446744073709551615
    → total ≡ min (product + s) 18446744073709551615 → 200000 < total → None ≡ written_out innermost ss
unfolding written_out
written_none innermost ss s product total e p t h = sym (kept_none (in_full innermost ss) (grind (arith, length_in_full innermost ss s e)))

pub written_some : (innermost : Repeat) (ss : List Stmt) (s product total : ℕ) (all : List Stmt) → s ≡ min innermost.start (length ss) → product ≡ min ((length ss - s) * innermost.times) 18446744073709551615
    → total ≡ min (product + s) 18446744073709551615 → total ≤ 200000 → all ≡ take s ss ++ repeat innermost.times (drop s ss) → Some all ≡ written_out innermost ss
unfolding written_out
written_some innermost ss s product total all e p t h a =
    let parts = same_parts innermost.start s ss e in
    let same : all ≡ in_full innermost ss = a ∙ ap (λ (l : List Stmt). l ++ repeat innermost.times (drop s ss)) parts.front ∙ ap (λ (l : List Stmt). take innermost.start ss ++ repeat innermost.times l) parts.behind in
    ap (λ (l : List Stmt). Some l) same ∙ sym (kept_some (in_full innermost ss) (grind (arith, length_in_full innermost ss s e)))

-- the body stands behind the statements before it
pub written_behind : (front body : List Stmt) (times : ℕ) → written_out (record { start = length front; times = times }) (front ++ body) ≡ kept (front ++ repeat times body)
unfolding written_out
written_behind front body times = rw (take-append_seam front body, drop-append_seam front body) refl

-- a list that begins with something isn't empty
pub some_repeat : (innermost : Repeat) (others : List Repeat) → eqb (length (innermost ∷ others)) 0 ≡ false
some_repeat innermost others = grind arith

-- `end` closes the innermost open `repeat`
pub ended_repeat : (draft : Draft) (g : Open) (innermost : Repeat) (others : List Repeat) → g.repeats ≡ innermost ∷ others → block_ended draft (Some g) ≡ record draft { current = Some (with_closed g (innermost ∷ others)) }
ended_repeat draft g innermost others e =
    ap (λ (l : List Repeat). cond (eqb (length l) 0) (record draft { closed = draft.closed ++ finished_goroutine g ∷ []; current = None }) (record draft { current = Some (with_closed g l) })) e
    ∙ ap (λ (b : Bool). cond b (record draft { closed = draft.closed ++ finished_goroutine g ∷ []; current = None }) (record draft { current = Some (with_closed g (innermost ∷ others)) })) (some_repeat innermost others)
