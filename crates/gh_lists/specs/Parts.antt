-- The parts of a cycle: what the words and the coordinator's own numbers are in each, and how one leads to the next.
use Rattle.std.proofs.Common.{◌≡◌, ℕ, ◌+◌, ◌^◌, ◌≤◌, subst, arith}
use Rattle.gh_lists.specs.Vocabulary.{Begun, Checked, Coordinating, Counted, cycle_of, Ended, Kept, kept_with_cycle, next_generation, Part}
use Rattle.gh_base.specs.declared.pack.TallyWord.{TallyWord}
use Rattle.gh_lists.specs.Numbers.{ahead_at, generation_after, KeepsCycles}
use Rattle.gh_lists.specs.Frames.{CycleWords}
use Rattle.gh_lists.specs.Keeping.{one_more}

-- the coordinator's own numbers, and its list
pub record Own : Type 0 where
  pub begun : ℕ
  pub generation : ℕ
  pub cycles : Kept

abbrev pub own_counts : Coordinating → Own
own_counts c = record { begun = c.begun; generation = c.generation; cycles = c.cycles }

module _ (room : ℕ) where
  pub record At (opened : ℕ) (n : CycleWords) (c : Own) (part : Part) : Type 0 where
    pub opened_is : opened ≡ n.swept + (ahead_at part).opened
    pub begun_is : n.begun ≡ n.swept + (ahead_at part).begun
    pub gen_is : n.gen ≡ generation_after (n.swept + (ahead_at part).ended)
    pub number_is : c.begun ≡ n.swept + (ahead_at part).numbered
    pub generation_is : c.generation ≡ generation_after (n.swept + (ahead_at part).generation)
    pub keeps : KeepsCycles room (n.swept + (ahead_at part).kept) c.cycles

  module _ (opened : ℕ) (n : CycleWords) (c : Own) where
    pub to_checked : opened + 2 ≤ 2 ^ 33 → At opened n c Begun → At opened n (record c { generation = next_generation c.generation }) Checked
    to_checked few h = record {
      opened_is = h.opened_is;
      begun_is = h.begun_is;
      gen_is = h.gen_is;
      number_is = h.number_is;
      generation_is = let o = h.opened_is in let x = h.generation_is in omega (arith, few, o, x);
      keeps = h.keeps;
    }

    pub to_counted : (t : TallyWord) → At opened n c Ended → At opened n (record c { cycles = kept_with_cycle c.cycles (cycle_of c.begun t) }) Counted
    to_counted t h = record {
      opened_is = h.opened_is;
      begun_is = h.begun_is;
      gen_is = h.gen_is;
      number_is = h.number_is;
      generation_is = h.generation_is;
      keeps = subst (λ (many : ℕ). KeepsCycles room many (kept_with_cycle c.cycles (cycle_of c.begun t))) (omega arith) (one_more room (n.swept + 0) c.cycles (cycle_of c.begun t) h.keeps (let x = h.number_is in omega (arith, x)));
    }
