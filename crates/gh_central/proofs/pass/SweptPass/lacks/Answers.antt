use Rattle.std.proofs.Common.{◌≡◌, ◌+◌, ◌*◌, ◌-◌, ◌%◌, ℕ, sym, ap, ◌∙◌, arith, rules}
use Rattle.gh_central.proofs.Vocabulary.{slot_words_of, slots_of}
use Rattle.gh_central.proofs.Lacking.{none_lacking}
use Rattle.gh_central.proofs.pass.SweptPass.lacks.Goals as goal

pub returns-then-none_clear : goal.returns-then-none_clear
returns-then-none_clear c =
    let class = c.args.self.now.wanted.class in
    let page = c.args.page in
    let word = c.args.word in
    let slot : c.slot_words-slot.result ≡ slot_words_of class = search rules in
    let none = c.none_clear.ensures c.if-none_clear.true in
    sym (none_lacking (slot_words_of class) (slots_of class) (1024 * page) (16 * page + word) c.args.found (omega arith)
    (λ j low begins.
    let before : 64 * (16 * page + word) - 1024 * page + j ≡ 64 * word + j = omega arith in
    none j low (ap (λ (n : ℕ). (64 * word + j) % n) slot ∙ sym (ap (λ (n : ℕ). n % slot_words_of class) before) ∙ begins)))
