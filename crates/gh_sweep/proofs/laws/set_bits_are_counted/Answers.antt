use Rattle.gh_sweep.proofs.Bits.{set_bits}
use Rattle.gh_sweep.proofs.laws.set_bits_are_counted.Goals as goal

pub returns : goal.returns
returns c = set_bits
