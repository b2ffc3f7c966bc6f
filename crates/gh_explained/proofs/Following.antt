-- The turn behind the one that begins an operation, whatever the code does.
use Rattle.std.proofs.Common.{◌≡◌, ℕ, zero, suc, ◌+◌, ◌-◌, ◌≤◌, Bool, true, false, List, [], ◌∷◌, length, refl, subst, ◌∙◌, Some, arith, ◌⊎◌, inl, inr}
use Rattle.gh_explained.proofs.Vocabulary.{count-le, Follows, follows_run, has_one, has_turn, HasTurn, is_poll_due, is_run_due, IsPast, later, later_after, later_here, later_none, leave_is_begun, MayBeOver, Next, none_from, Op, op_due, over_here, over_next, passed, Program, Stands, to_come, turn_stands, turns_from}
use Rattle.gh_world.specs.Vocabulary.{work_of}

-- the first goroutine from g on that has a turn in round r
record First (p : Program) (a r g : ℕ) : Type 0 where
  h : ℕ
  low : g ≤ h
  stands : HasTurn p a r h
  turns : turns_from p a r g ≡ Op.Poll ∷ work_of p r h ∷ turns_from p a r (h + 1)

first_turn : (p : Program) (a r n g : ℕ) → g + n ≡ length p.goroutines → First p a r g ⊎ (turns_from p a r g ≡ [])
first_turn p a r zero g e = inr (none_from p a r g (omega (arith, e)))
first_turn p a r (suc n) g e = go (has_turn p a r g) refl (first_turn p a r n (g + 1) (omega (arith, e))) where
  go : (b : Bool) → has_turn p a r g ≡ b → First p a r (g + 1) ⊎ (turns_from p a r (g + 1) ≡ []) → First p a r g ⊎ (turns_from p a r g ≡ [])
  go true turn further = inl (record { h = g; low = omega arith; stands = turn_stands p a r g (omega (arith, e)) turn; turns = has_one p a r g (omega (arith, e)) turn })
  go false none further = elim further [
    | inl f ↦ let low = f.low in inl (record { h = f.h; low = omega (arith, low); stands = f.stands; turns = passed p a r g (omega (arith, e)) none ∙ f.turns })
    | inr rest ↦ inr (passed p a r g (omega (arith, e)) none ∙ rest)
  ]

-- the turn from goroutine g in round r on
pub record Coming (p : Program) (a r g : ℕ) : Type 0 where
  pub turn : Next
  pub come : to_come p a turn ≡ later p a r g
  pub stands : Stands p a turn
  pub over : (h : ℕ) → IsPast p r g h → MayBeOver p turn h
  pub going : leave_is_begun turn ≡ false
  pub no_run : is_run_due turn ≡ false

pub coming : (p : Program) (a r g : ℕ) → g ≤ length p.goroutines → Coming p a r g
coming p a r g le = elim (first_turn p a r (length p.goroutines - g) g (omega (arith, le))) [
  | inl f ↦ record { turn = Next.Poll r f.h; come = later_here p a r g f.h f.turns; stands = f.stands; over = λ k past. over_here p r g f.h k f.low past; going = refl; no_run = refl }
  | inr none ↦ elim (first_turn p a (r + 1) (length p.goroutines) 0 (omega arith)) [
    | inl f ↦ let live = f.stands.going in let most = count-le p f.h f.stands.there in record { turn = Next.Poll (r + 1) f.h; come = later_after p a r g f.h (omega (arith, live, most)) none f.turns; stands = f.stands; over = λ k past. over_next p r g f.h k past; going = refl; no_run = refl }
    | inr done ↦ record { turn = Next.Leave; come = later_none p a r g none done; stands = tt; over = λ k past. tt; going = refl; no_run = refl }
  ]
]

-- the turn behind the one that begins this operation
pub record Following (p : Program) (a : ℕ) (t : Next) (o : Op) : Type 0 where
  pub turn : Next
  pub follows : Follows p a t o turn
  pub polled : is_run_due turn ≡ is_poll_due t

pub following : (p : Program) (a : ℕ) (t : Next) (o : Op) → Stands p a t → op_due p t ≡ Some o → Following p a t o
following p a (Next.Poll r g) o stands due =
    let same : Op.Poll ≡ o = cc in
    subst (λ (x : Op). Following p a (Next.Poll r g) x) same (record { turn = Next.Run r g; follows = record { come = refl; stands = stands; over = λ h past. past; ends = λ h e. absurd cc; leaves = refl }; polled = refl })
following p a (Next.Run r g) o stands due =
    let here = stands.there in
    let c = coming p a r (g + 1) (omega (arith, here)) in
    record { turn = c.turn; follows = follows_run p a (Next.Run r g) r g o c.turn refl stands due c.come c.stands c.over c.going; polled = c.no_run }
following p a Next.Leave o stands due =
    let same : Op.Leave ≡ o = cc in
    subst (λ (x : Op). Following p a Next.Leave x) same (record { turn = Next.Over; follows = record { come = refl; stands = tt; over = λ h past. tt; ends = λ h e. absurd cc; leaves = refl }; polled = refl })
following p a Next.Over o stands due = absurd cc

-- what is due is the first that is to come
pub due_first : (p : Program) (a : ℕ) (t : Next) (o : Op) (rest : List Op) → to_come p a t ≡ o ∷ rest → op_due p t ≡ Some o
due_first p a t o rest e = grind arith
