use Rattle.std.proofs.Common.{ℕ, ◌*◌, ◌-◌, length, take, drop, refl, ap, ◌∙◌}
use Rattle.gh_script.proofs.Vocabulary.{bits_as_number}
use Rattle.gh_script.proofs.Packing.{word_of-cut}
use Rattle.gh_script.proofs.shape_text.packed_word.Goals as goal

pub returns : goal.returns
returns c =
    let fields = c.args.fields.now in
    let n = 64 * c.args.i in
    word_of-cut fields (take (length fields - n) (drop n fields)) n _ refl (c.word_of_fields.ensures ∙ ap (λ (m : ℕ). bits_as_number (take m (take (length fields - n) (drop n fields)))) c.min.ensures)
