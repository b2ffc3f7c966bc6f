use Rattle.std.proofs.Common.{◌≡◌, ◌<◌, ◌≤◌, ℕ, ◌-◌, ◌++◌, true}
use Rattle.gh_world.proofs.Vocabulary.{actors_of, first_going, is_done, range_with_len, turn_from}
use Rattle.gh_world.proofs.world.World.turn_from.Given as goal

abbrev pub invariant-loop-a : goal.invariant-loop-a
invariant-loop-a l = record {
  from : l.fn.actor ≤ l.a;
  within : l.a ≤ actors_of l.self;
  so_far : turn_from (is_done l.self) (actors_of l.self) l.fn.actor ≡ first_going (is_done l.self) (range_with_len l.a (actors_of l.self - l.a) ++ range_with_len 0 l.fn.actor);
  done : (a : ℕ) → l.fn.actor ≤ a → a < l.a → is_done l.self a ≡ true;
}

abbrev pub invariant-loop-a-2 : goal.invariant-loop-a-2
invariant-loop-a-2 l = record {
  within : l.a ≤ l.fn.actor;
  so_far : turn_from (is_done l.self) (actors_of l.self) l.fn.actor ≡ first_going (is_done l.self) (range_with_len l.a (l.fn.actor - l.a));
  done : (a : ℕ) → l.fn.actor ≤ a → a < actors_of l.self → is_done l.self a ≡ true;
  low : (a : ℕ) → a < l.a → is_done l.self a ≡ true;
}
