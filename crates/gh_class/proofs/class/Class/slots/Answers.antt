use Rattle.std.proofs.Common.{◌≡◌, ◌*◌, ◌/◌, rules}
use Rattle.gh_class.specs.Classes.{slots_of}
use Rattle.gh_class.proofs.Table.{slots_of-least, slots_of-greatest}
use Rattle.gh_class.proofs.class.Class.slots.Goals as goal

pub returns-clause-value : goal.returns-clause-value
unfolding slots_of
returns-clause-value c = search rules

pub returns-clause-range : goal.returns-clause-range
unfolding slots_of
returns-clause-range c =
    let is : 8192 * c.pages.result / c.slot_bytes.result ≡ slots_of c.args.self.now = search rules in
    let among = c.pages.ensures.among in
    (rw is (slots_of-least _ among), rw is (slots_of-greatest _ among))
