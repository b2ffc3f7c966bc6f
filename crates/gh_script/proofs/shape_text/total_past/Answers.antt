use Rattle.std.proofs.Common.{sym, ◌∙◌, ◌≡◌, arith}
use Rattle.gh_script.proofs.Vocabulary.{fields_in}
use Rattle.gh_script.specs.ShapeSaid.{item_seen}
use Rattle.gh_script.proofs.Items.{fits_behind-empty, fits_behind-wide, fits_behind-more}
use Rattle.gh_script.proofs.shape_text.total_past.Goals as goal

pub returns-then-fields-eq0 : goal.returns-then-fields-eq0
returns-then-fields-eq0 c = fits_behind-empty _ _ _ c.args.total c.in-Some.ensures (sym c.field_count-fields.ensures ∙ c.if-fields-eq0.true)

pub returns-then-fields-total : goal.returns-then-fields-total
returns-then-fields-total c =
    let n : c.field_count-fields.result ≡ fields_in (item_seen c.in-Some.item) = c.field_count-fields.ensures in
    fits_behind-wide _ _ _ c.args.total c.in-Some.ensures (omega arith)

pub returns-else-fields-total : goal.returns-else-fields-total
returns-else-fields-total c =
    let n : c.field_count-fields.result ≡ fields_in (item_seen c.in-Some.item) = c.field_count-fields.ensures in
    let e = fits_behind-more _ _ _ c.args.total c.in-Some.ensures (omega arith) (omega arith) in
    (omega arith, rw n e)
