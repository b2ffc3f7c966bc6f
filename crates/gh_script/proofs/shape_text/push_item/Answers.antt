use Rattle.gh_script.proofs.Items.{spread-cons}
use Rattle.gh_script.proofs.shape_text.push_item.Goals as goal

pub returns-in_ok-push_fields-in-Some : goal.returns-in_ok-push_fields-in-Some
returns-in_ok-push_fields-in-Some c = spread-cons _ _ _ _ _ _ c.in-Some.ensures c.field_count.ensures c.in_ok-push_fields-in-Some.ensures
