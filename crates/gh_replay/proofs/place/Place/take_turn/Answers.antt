use Rattle.std.proofs.Common.{◌≡◌, ℕ, zero, suc, ◌-◌, ◌<◌, Bool, false, ◌++◌, Some, refl, ap, sym, ◌∙◌, arith}
use Rattle.gh_replay.proofs.Vocabulary.{first_going, range_with_len, seen_of, standing_at, turn_from, who_at}
use Rattle.gh_replay.proofs.Choosing.{is_there, none_left}
use Rattle.gh_replay.proofs.place.Place.take_turn.Goals as goal

first_turn : (ended : ℕ → Bool) (n a : ℕ) → a < n → ended a ≡ false → Some a ≡ turn_from ended n a
first_turn ended n a lt on = go (n - a) refl where
  go : (m : ℕ) → n - a ≡ m → Some a ≡ first_going ended (range_with_len a m ++ range_with_len 0 a)
  go zero is = absurd (omega (arith, lt, is))
  go (suc k) is = rw on refl

pub returns-then-self-clause-who : goal.returns-then-self-clause-who
returns-then-self-clause-who c =
    let r = c.requires.kept.rounds c.if-self.true in
    rw (r.items, r.drawn) (first_turn (seen_of c.args.world.now).ended (seen_of c.args.world.now).actors c.args.self.now.next c.requires.next (r.all c.args.self.now.next c.requires.next))

pub take_next-requires-clause-kept : goal.take_next-requires-clause-kept
take_next-requires-clause-kept c =
    let known = c.requires.kept in
    let now = c.pass_items.ensures in
    record { actors = now.actors ∙ known.actors; seats = known.seats; rounds = λ e. absurd (cc (c.if-self.false, sym now.rounds ∙ e)); some = rw now.drawn known.some }

pub returns-clause-going : goal.returns-clause-going
returns-clause-going c = is_there (seen_of c.args.world.now) (standing_at c.args.self.now) c.take_next.result c.requires.next (c.take_next.ensures.who ∙ ap (who_at (seen_of c.args.world.now)) c.pass_items.ensures.passed)

pub returns-clause-over : goal.returns-clause-over
returns-clause-over c = λ e a lt. none_left (seen_of c.args.world.now) (standing_at c.args.self.now) (sym (c.take_next.ensures.who ∙ ap (who_at (seen_of c.args.world.now)) c.pass_items.ensures.passed) ∙ e) a lt
