-- What a refusal says.
use Rattle.std.specs.Prelude.{ℕ, List, ⊤, vec_items}
use Rattle.gh_gate.specs.declared.job.Refused.{Refused}
use Rattle.gh_gate.specs.declared.job.Refused.TheVariants.{Thread, Memory}
use Rattle.gh_gate.specs.Counts.{Rose}

-- the jobs that are given back
abbrev pub given_back : {J : Type 0} → Refused J → List J
given_back (Thread jobs) = vec_items jobs
given_back (Memory jobs) = vec_items jobs

-- where it was for want of a thread, the count of faults rose
abbrev pub IsCounted : {J : Type 0} → Refused J → ℕ → ℕ → Type 0
IsCounted (Thread jobs) before after = Rose before after
IsCounted (Memory jobs) before after = ⊤
