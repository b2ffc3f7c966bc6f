use Rattle.std.proofs.Common.{◌+◌, sym, ◌∙◌}
use Rattle.gh_script.proofs.Vocabulary.{take_rest}
use Rattle.gh_script.proofs.Items.{items_of-other, items_of-kind}
use Rattle.gh_script.proofs.shape_text.item_at.Goals as goal

pub returns-then-not-is_kind : goal.returns-then-not-is_kind
returns-then-not-is_kind c = items_of-other c.args.word.now c.args.i c.requires (sym c.is_kind.ensures ∙ c.if-not-is_kind.true)

pub returns : goal.returns
returns c = items_of-kind c.args.word.now _ c.args.i c.kind_index.result c.requires (sym c.is_kind.ensures ∙ c.if-not-is_kind.false) (take_rest c.args.word.now (c.args.i + 1)) c.kind_index.ensures.at
