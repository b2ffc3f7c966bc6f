-- A load of the phase that finds the world running finds the last phase that was no stop.
use Rattle.std.proofs.Common.{◌≡◌, ℕ, Bool, true, false, cond, sym, ap, ◌∙◌, Option, Some, None, arith}
use Rattle.gh_lists.specs.Vocabulary.{phase_of, phase_while, phase_word, run_word, RunPhase, stop_word}
use Rattle.gh_base.specs.declared.pack.Phase.{Phase}
use Rattle.gh_lists.specs.LemmaVocabulary.{PhaseWord, run_phase}

-- what a load of the phase tells
module _ (back : (p : PhaseWord) → phase_of (phase_word p) ≡ p) where
  ran : (phase : RunPhase) → run_phase (phase_while phase) ≡ Some phase
  ran phase = grind arith

  abbrev run_found : ℕ → Option RunPhase
  run_found word = run_phase (phase_of word).phase

  -- where the phase word is found to say that the world runs, it runs in the last phase that was no stop
  pub is_last : (stop : Bool) (stops : ℕ) (phase known : RunPhase) (word : ℕ) → word ≡ cond stop (stop_word stops) (run_word stops phase) → run_found word ≡ Some known → phase ≡ known
  is_last true stops phase known word e f =
      let none : run_found (stop_word stops) ≡ None = ap (λ (p : PhaseWord). run_phase p.phase) (back (record { stops = stops; phase = Phase.Stop })) in
      absurd (let x : Some known ≡ None = sym f ∙ (ap run_found e ∙ none) in cc)
  is_last false stops phase known word e f =
      let yes : run_found (run_word stops phase) ≡ Some phase = ap (λ (p : PhaseWord). run_phase p.phase) (back (record { stops = stops; phase = phase_while phase })) ∙ ran phase in
      let x : Some phase ≡ Some known = sym (ap run_found e ∙ yes) ∙ f in
      cc
