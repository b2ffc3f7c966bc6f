use Rattle.std.proofs.Common.{◌≡◌, ◌<◌, ◌≤◌, ◌*◌, ◌^◌, take, sum}
use Rattle.gh_ever.proofs.Vocabulary.{All}
use Rattle.gh_ever.proofs.opening.total_of.Given as goal

abbrev pub invariant-loop-count : goal.invariant-loop-count
invariant-loop-count l = record {
  total : l.total ≡ sum (take l.count-index l.counts.items);
  bound : l.total ≤ l.count-index * 4294967295;
  fits : All (λ n. n < 2 ^ 32) (take l.count-index l.counts.items);
}
