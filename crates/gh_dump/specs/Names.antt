-- When names are equal, and what a hasher is given of one.
use Rattle.std.specs.Prelude.{Bool, ◌==◌, ◌&&◌, ◌++◌}
use Rattle.std.specs.Hash as writes
use Rattle.gh_dump.specs.Vocabulary.{Name}

abbrev pub same_name : Name → Name → Bool
same_name a b = (a.goroutine == b.goroutine) && (a.number == b.number)

abbrev pub name_writes : Name → writes.HashWrites
name_writes a = writes.u128 a.goroutine ++ writes.u32 a.number
