-- A `new` that asks for a cycle behind its object has seen the trigger reached: by the two steps of its processor before.
use Rattle.std.proofs.Common.{◌≡◌, ℕ, ◌==◌, Bool, true, false, cond, inl, inr, refl, sym, ap, subst, ◌∙◌, arith, List, [], ◌∷◌, Option}
use Rattle.gh_law.proofs.Vocabulary.{before_step, Entry, IsStartOf, Kind, Layout, nat_tests, Op, own, Processor, processor_kind, ProcessorWritesItsOwn, SawTriggerReached, Shape, started, state_of, Task}
use Rattle.gh_mutator.specs.Asking.{Compares, CountsUpTo, SawReached, SeesReached}

module _ (shapes : List Shape) (l : Layout) (writes : ProcessorWritesItsOwn) (a : ℕ) where
  abbrev k : Kind Processor Op
  k = processor_kind shapes l

  abbrev at : List (Entry Op) → Processor
  at es = state_of k a es

  -- No operation begins there, so the processor is as it was.

  looked : (m : Processor) (o : Option Op) (bytes : ℕ) → Compares (started k o m).task bytes → Compares m.task bytes
  looked m o bytes e = grind arith

  pub asked : (m : Processor) (o : Option Op) → SawReached (started k o m).task → SawReached m.task
  asked m o e = grind arith

  -- where it sees the trigger it compares these bytes
  seen_compares : (t : Task) (found bytes : ℕ) → SeesReached t found bytes → Compares t bytes
  seen_compares t found bytes sees = grind arith

  -- It counted its object with its last entry.
  record Counted (bytes : ℕ) (es : List (Entry Op)) : Type 0 where
    counts : Entry Op
    before : List (Entry Op)
    start : IsStartOf (counts ∷ before) es
    counted : CountsUpTo (before_step shapes l before counts).task counts.found bytes
    its_last : own a es ≡ counts ∷ own a before

  own_one : (e : Entry Op) (es : List (Entry Op)) (b : Bool) → (e.actor == a) ≡ b → own a (e ∷ es) ≡ cond b (e ∷ own a es) (own a es)
  own_one e es b is = ap (λ (c : Bool). cond c (e ∷ own a es) (own a es)) is

  abbrev behind : Entry Op → List (Entry Op) → Processor
  behind e es = k.takes (started k e.begun (at es)) e.found

  its_step : (e : Entry Op) (es : List (Entry Op)) → (e.actor == a) ≡ true → started k e.begun (at es) ≡ before_step shapes l es e
  its_step e es is = let same : e.actor ≡ a = grind (arith, nat_tests, is) in ap (λ (n : ℕ). started k e.begun (state_of k n es)) (sym same)

  counted : (es : List (Entry Op)) (bytes : ℕ) → Compares (at es).task bytes → Counted bytes es
  counted [] bytes e = absurd e
  counted (e ∷ es) bytes is = go (e.actor == a) refl (counted es bytes) is where
    go : (b : Bool) → (e.actor == a) ≡ b → (Compares (at es).task bytes → Counted bytes es) → Compares (cond b (behind e es) (at es)).task bytes → Counted bytes (e ∷ es)
    go true its h is = record {
      counts = e;
      before = es;
      start = inl refl;
      counted = subst (λ (m : Processor). CountsUpTo m.task e.found bytes) (its_step e es its) (writes.compares l shapes (started k e.begun (at es)) e.found bytes is);
      its_last = own_one e es true its;
    }
    go false other h is = let x = h is in record { counts = x.counts; before = x.before; start = inr x.start; counted = x.counted; its_last = own_one e es false other ∙ x.its_last }

  pub saw : (es : List (Entry Op)) → SawReached (at es).task → SawTriggerReached shapes l a es
  saw [] e = absurd e
  saw (e ∷ es) is = go (e.actor == a) refl (saw es) is where
    go : (b : Bool) → (e.actor == a) ≡ b → (SawReached (at es).task → SawTriggerReached shapes l a es) → SawReached (cond b (behind e es) (at es)).task → SawTriggerReached shapes l a (e ∷ es)
    go true its h is =
        let m : Processor = started k e.begun (at es) in
        let x = writes.saw l shapes m e.found is in
        let c = counted es x.0 (looked (at es) e.begun x.0 (seen_compares m.task e.found x.0 x.1)) in
        record {
          bytes = x.0;
          looks = e;
          between = es;
          looks_start = inl refl;
          sees = subst (λ (n : Processor). SeesReached n.task e.found x.0) (its_step e es its) x.1;
          counts = c.counts;
          before = c.before;
          counts_start = c.start;
          counted = c.counted;
          its_last = own_one e es true its ∙ ap (λ (fs : List (Entry Op)). e ∷ fs) c.its_last;
        }
    go false other h is =
        let x = h is in
        record { bytes = x.bytes; looks = x.looks; between = x.between; looks_start = inr x.looks_start; sees = x.sees; counts = x.counts; before = x.before; counts_start = x.counts_start; counted = x.counted; its_last = own_one e es false other ∙ x.its_last }
