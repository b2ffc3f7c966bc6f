-- Actors before their first steps.
use Rattle.std.proofs.Common.{◌≡◌, ◌∙◌, arith, ℕ, Bool, true, false, sym, refl, subst, nat_lt, if◌then◌else◌, List, []}
use Rattle.gh_shared.proofs.Vocabulary.{acks_of, actor_in, by, Carries, Coordinating, CoordinatorGoesOn, CountsFirst, HasNext, HasShapes, HeapActor, IsKeptByHandle, LaysOut, Leads, machine_actor, made_by, Marks, most_cycles, Mutating, nat_tests, one_carried, Op, opening, opening_processor, Planned, ProcessorRests, RestsIfProcessor, Runs, setting, View}
use Rattle.gh_base.specs.Reading.{read_replicate}
use Rattle.gh_coord.specs.Listing as coord
use Rattle.gh_mutator.specs.Mutating as mutating
use Rattle.gh_worker.specs.Listing as worker

-- what a hand is made of
pub record IsTied (a : ℕ) (m : HeapActor) (v : View Planned Op) : Type 0 where
  pub carries : Carries v a
  pub shapes : HasShapes v.plan m
  pub state : machine_actor m ≡ actor_in setting v a

abbrev first_leader : Planned → (a : ℕ) → Coordinating
first_leader p a = coord.opening p.layout a p.script.settings.gogc p.script.settings.minheap (most_cycles p.script)

module _ (p : Planned) (a : ℕ) where
  abbrev first_of : Bool → Bool → HeapActor
  first_of b c = if b then Runs (mutating.opening a p.script.shapes) else if c then Marks (worker.opening a) else Leads (first_leader p a)

pub opens_so : (p : Planned) (a : ℕ) (m : HeapActor) (v : View Planned Op) → v ≡ one_carried p a → m ≡ opening p a → IsTied a m v
opens_so p a m v view machine = grind arith

-- ---- what is kept of it

module _ (p : Planned) (a : ℕ) where
  rests_first : (b c : Bool) → nat_lt a p.layout.procs ≡ b → RestsIfProcessor p a (first_of p a b c) []
  rests_first true c lt m e =
      let here : ProcessorRests p a (mutating.opening a p.script.shapes) [] = record {
        seat = (grind (arith, nat_tests));
        idle = refl;
        leaves = refl;
        made = λ g. let none : made_by (opening_processor a) g ≡ 0 = read_replicate {A = ℕ} 32 g 0 in omega (arith, none);
      } in
      let same : mutating.opening a p.script.shapes ≡ m = cc in
      subst (λ (n : Mutating). ProcessorRests p a n []) same here
  rests_first false true lt m e = absurd cc
  rests_first false false lt m e = absurd cc

  goes_on_first : (b c : Bool) → CoordinatorGoesOn (first_of p a b c)
  goes_on_first true c x e = absurd cc
  goes_on_first false true x e = absurd cc
  goes_on_first false false x e =
      let same : first_leader p a ≡ x = cc in
      subst HasNext same refl

  pub kept_first : (procs : ℕ) (left : List ℕ) (over : List Bool) (gone : Bool) → CountsFirst p.script procs left over gone → LaysOut p.script p.layout → IsKeptByHandle p a (opening p a) [] procs left over gone
  kept_first procs left over gone is lays = record {
    counts = record {
      procs_are = is.procs_are ∙ sym lays.procs_are;
      many_left = is.many_left ∙ sym lays.goroutines_are;
      many_over = is.many_over ∙ sym lays.goroutines_are;
      each_left = λ g n e. let q = is.each_left g n e in omega (arith, q);
      each_over = is.each_over;
      has_gone = is.has_gone;
      few = omega (arith, is.few);
    };
    rests = rests_first (nat_lt a p.layout.procs) (nat_lt a (acks_of p.layout)) refl;
    goes_on = goes_on_first (nat_lt a p.layout.procs) (nat_lt a (acks_of p.layout));
  }

pub kept_so : (p : Planned) (a : ℕ) (m : HeapActor) (v : View Planned Op) (procs : ℕ) (left : List ℕ) (over : List Bool) (gone : Bool) → v ≡ one_carried p a → m ≡ opening p a → CountsFirst p.script procs left over gone → LaysOut p.script p.layout → IsKeptByHandle v.plan a m (by a v.log) procs left over gone
kept_so p a m v procs left over gone view machine is lays =
    subst (λ (n : HeapActor). IsKeptByHandle v.plan a n (by a v.log) procs left over gone) (sym machine) (subst (λ (u : View Planned Op). IsKeptByHandle u.plan a (opening p a) (by a u.log) procs left over gone) (sym view) (kept_first p a procs left over gone is lays))
