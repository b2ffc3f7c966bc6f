use Rattle.gh_bitmap.proofs.PointerReading.ReadBack.{reads}
use Rattle.gh_bitmap.proofs.laws.bits_are_read.Goals as goal

pub returns : goal.returns
returns c = reads
