-- Credit is far from the end of its word: a cycle's words are few, and so are cycles.
use Rattle.std.proofs.Common.{ℕ, ◌+◌, ◌*◌, ◌^◌, ◌<◌, ◌≤◌, arith, List}
use Rattle.std.proofs.lemmas.Nat.{mul-le}
use Rattle.gh_law.proofs.Vocabulary.{AllStands, AreFew, Cell, Entry, IsInLimits, Layout, most_scanned, Op, scanned_in, Setup, total, words}
use Rattle.gh_base.specs.declared.limits.TheConstants.{MOST_STATEMENTS}
use Rattle.gh_lists.specs.Counting.{opened_in_stored}
use Rattle.gh_lists.specs.Steps as seats

-- in so many cycles at the most
few_in : (l : Layout) → IsInLimits l → (begun n : ℕ) → begun ≤ 2 * MOST_STATEMENTS + 1 → n ≤ begun * most_scanned l → n < 2 ^ 48
few_in l limits begun n few le =
    let pages = limits.pages_fit.1 in
    let globals = limits.globals_fit.1 in
    let all : most_scanned l ≤ 2097408 = omega (arith, pages, globals) in
    let most = mul-le begun (most_scanned l) 400001 2097408 (omega (arith, few)) all in
    omega (arith, le, most)

pub few_words : (setup : Setup) (counts : ℕ → ℕ) (es : List (Entry Op)) → IsInLimits setup.layout → total counts setup.layout.goroutines ≤ MOST_STATEMENTS → AllStands setup es → AreFew counts setup.layout es → scanned_in setup es < 2 ^ 48
few_words setup counts es limits fit all few =
    let led = seats.led_by setup es in
    let numbers = all.numbers led.lead led.led_by in
    let is = numbers.begun in
    let le = numbers.opened_first in
    let same = opened_in_stored es in
    let opened = few.opened in
    few_in setup.layout limits (words setup es Cell.Begun) (scanned_in setup es) (omega (arith, is, le, same, opened, fit)) all.scanned
