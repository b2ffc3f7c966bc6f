use Rattle.std.proofs.Common.{◌≡◌, ◌/◌, ◌^◌, sym, ap, ◌∙◌, arith, bit_and, slice_index}
use Rattle.std.proofs.lemmas.Bool.{eqb-true}
use Rattle.gh_central.proofs.Vocabulary.{bit_not, slot_starts, w64}
use Rattle.gh_central.proofs.Starts.{all_set}
use Rattle.gh_central.proofs.slots.none_clear.Goals as goal

pub returns : goal.returns
returns c none j within other =
    let r = c.first_start.result in
    let zero : bit_and (bit_not w64 c.args.found / 2 ^ r) c.starts.result ≡ 0 = eqb-true _ _ none in
    let found : bit_and (bit_not w64 c.args.found / 2 ^ r) (slice_index slot_starts c.args.slot) ≡ 0 = sym (ap (bit_and (bit_not w64 c.args.found / 2 ^ r)) c.starts.ensures) ∙ zero in
    all_set c.args.slot c.args.before r c.args.found j c.requires (omega arith) c.first_start.ensures.below c.first_start.ensures.begins c.ranges.found.fits found within other
