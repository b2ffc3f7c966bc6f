-- The first heap word for which something is loaded, word by word.
use Rattle.std.proofs.Common.{◌≡◌, ℕ, suc, ◌+◌, ◌-◌, ◌<◌, ◌≤◌, Bool, true, false, cond, Some, None, ap, ◌∙◌, arith}
use Rattle.gh_scan.proofs.Vocabulary.{is_loaded, next_from, next_in}

left_is : (end x : ℕ) → x < end → end - x ≡ suc (end - (x + 1))
left_is end x lt = omega arith

first_is : (bits end x : ℕ) → x < end → next_from bits end x ≡ cond (is_loaded bits x) (Some x) (next_from bits end (x + 1))
first_is bits end x lt = ap (λ (n : ℕ). next_in bits n x) (left_is end x lt)

pub next_hit : (bits end x : ℕ) → x < end → is_loaded bits x ≡ true → next_from bits end x ≡ Some x
next_hit bits end x lt e = first_is bits end x lt ∙ ap (λ (b : Bool). cond b (Some x) (next_from bits end (x + 1))) e

pub next_miss : (bits end x : ℕ) → x < end → is_loaded bits x ≡ false → next_from bits end x ≡ next_from bits end (x + 1)
next_miss bits end x lt e = first_is bits end x lt ∙ ap (λ (b : Bool). cond b (Some x) (next_from bits end (x + 1))) e

pub next_none : (bits end x : ℕ) → end ≤ x → next_from bits end x ≡ None
next_none bits end x le =
    let e : end - x ≡ 0 = omega arith in
    ap (λ (n : ℕ). next_in bits n x) e
