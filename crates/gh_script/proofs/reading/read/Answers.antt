use Rattle.std.proofs.Common.{sym, ◌∙◌}
use Rattle.gh_script.proofs.Readings.{reading_of-long, reading_of-bytes, reading_of-from, Ends-refused, Ends-read}
use Rattle.gh_script.proofs.reading.read.Goals as goal

pub returns-then-text-gt-MOST_BYTES : goal.returns-then-text-gt-MOST_BYTES
returns-then-text-gt-MOST_BYTES c = reading_of-long c.args.text.now c.if-text-gt-MOST_BYTES.true

pub returns-then-not-is_text : goal.returns-then-not-is_text
returns-then-not-is_text c = reading_of-bytes c.args.text.now c.if-text-gt-MOST_BYTES.false (sym c.is_text.ensures ∙ c.if-not-is_text.true)

pub returns-in-Ok : goal.returns-in-Ok
returns-in-Ok c =
    let e = reading_of-from c.args.text.now c.blank-draft.result c.if-text-gt-MOST_BYTES.false (sym c.is_text.ensures ∙ c.if-not-is_text.false) c.blank-draft.ensures in
    Ends-read c.finish.result c.lines.new.draft _ c.in-Ok.count _ _ c.in-Ok.ensures.all e c.finish.ensures

pub returns-in-Err : goal.returns-in-Err
returns-in-Err c =
    let e = reading_of-from c.args.text.now c.blank-draft.result c.if-text-gt-MOST_BYTES.false (sym c.is_text.ensures ∙ c.if-not-is_text.false) c.blank-draft.ensures in
    Ends-refused c.in-Err.e c.lines.new.draft _ _ _ c.in-Err.ensures.all e
