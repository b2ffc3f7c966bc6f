-- A processor that is gone makes no step.
use Rattle.std.proofs.Common.{◌≡◌, ◌<◌, true, false, inl, inr, refl, sym, ap, subst, ◌∙◌, arith, List, ◌∷◌, Option, Some, None}
use Rattle.gh_holds.proofs.Vocabulary.{Actor, actors, Ask, asks, Awake, Begins, Cell, Entry, GONE, Gone, is_busy, is_busy_at, KeepsIt, Kind, Legal, ListsKnown, Op, Party, party_of, place_of, Processor, processor_at, processor_kind, run_started, runs_are, Setup, SoundPlace, Stage, stage_of, StageGoes, started, state_of, takes, those, words}
use Rattle.gh_lists.specs.Handshake as handshake

module _ (setup : Setup) (lists : ListsKnown setup)
    (e : Entry Op) (es : List (Entry Op)) (legal : Legal (those setup) (e ∷ es)) (lt : e.actor < setup.layout.procs) where
  abbrev all : Kind Actor Op
  all = actors setup

  keeps : KeepsIt (those setup) es
  keeps = lists.keeps es legal.0

  abbrev m : Processor
  m = processor_at setup es e.actor

  abbrev now : Processor
  now = started (processor_kind setup.shapes setup.layout) e.begun m

  at_is : state_of all e.actor es ≡ Actor.Runs m
  at_is = runs_are setup es e.actor lt

  sound : SoundPlace m
  sound = (subst (handshake.Sound setup.layout) at_is (keeps.shakes.all_sound e.actor (omega (arith, lt)))).place

  runs : is_busy_at now.task ≡ true
  runs = sym (ap is_busy (ap (started all e.begun) at_is ∙ run_started setup e.begun m)) ∙ legal.1.runs

  gone_goes : (party : Party) (stage : Stage) (to : Processor) → stage ≡ Gone → (x : Ask) → StageGoes e.found party stage x (party_of to) (stage_of to) → ⊥
  gone_goes party stage to is x goes = subst (λ (s : Stage). StageGoes e.found party s x (party_of to) (stage_of to)) is goes

  gone_begins : (o : Option Op) → e.begun ≡ o → stage_of m ≡ Gone → (stage_of now ≡ Gone) × SoundPlace now
  gone_begins None is gone = (ap (λ (x : Option Op). stage_of (started (processor_kind setup.shapes setup.layout) x m)) is ∙ gone, subst (λ (x : Option Op). SoundPlace (started (processor_kind setup.shapes setup.layout) x m)) (sym is) sound)
  gone_begins (Some o) is gone =
      let b = subst (λ (x : Option Op). Begins (those setup) e.actor es x) is legal.1.begins in
      let idle : is_busy_at m.task ≡ false = sym (ap is_busy at_is) ∙ b.0 in
      let begins = lists.known.places.begins_so setup.shapes setup.layout m o sound idle in
      let stage : stage_of ((processor_kind setup.shapes setup.layout).begins m o) ≡ Gone = elim begins [
        | inl same ↦ (let parts : stage_of ((processor_kind setup.shapes setup.layout).begins m o) ≡ stage_of m = cc in parts ∙ gone)
        | inr x ↦ absurd (let awake : stage_of m ≡ Awake = cc in let no : Awake ≡ Gone = sym awake ∙ gone in cc)
      ] in
      (ap (λ (x : Option Op). stage_of (started (processor_kind setup.shapes setup.layout) x m)) is ∙ stage, subst (λ (x : Option Op). SoundPlace (started (processor_kind setup.shapes setup.layout) x m)) (sym is) (lists.known.places.sound_begins setup.shapes setup.layout m o sound idle))

  -- who has said so is gone
  stage_gone : words setup es (Cell.Ack e.actor) ≡ GONE → stage_of m ≡ Gone
  stage_gone said = (keeps.shakes.gone e.actor (party_of m) (stage_of m) (omega (arith, lt)) (ap place_of at_is)).0 said

  pub gone_rests : words setup es (Cell.Ack e.actor) ≡ GONE → ⊥
  gone_rests said =
      let then = gone_begins e.begun refl (stage_gone said) in
      gone_goes (party_of now) (stage_of now) (takes setup.layout setup.shapes now e.found) then.0 (asks setup.layout now) (lists.known.places.takes_so setup.layout setup.shapes now e.found then.1 runs)
