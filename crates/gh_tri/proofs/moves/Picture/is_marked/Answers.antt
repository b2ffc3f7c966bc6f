use Rattle.std.proofs.Common.{◌≡◌, ℕ, ◌≤◌, arith, true, nat_lt}
use Rattle.gh_tri.proofs.Vocabulary.{get_or_past, nat_tests, picture_of, White}
use Rattle.gh_tri.proofs.moves.Picture.is_marked.Goals as goal

past : (o n : ℕ) → n ≤ o → nat_lt o n ≡ true → ⊥
past o n le h = grind (arith, nat_tests)

pub returns-else-o-self : goal.returns-else-o-self
unfolding picture_of
returns-else-o-self c = (
  (λ t. absurd (past c.in-Some.o c.args.self.now.limit c.if-o-self.false t)),
  (λ m. absurd (m c.in-Some.o c.in-Some.is (get_or_past c.args.self.now.colours.items c.in-Some.o White (omega (arith, c.args.self.now.colour_count, c.if-o-self.false))))),
)
