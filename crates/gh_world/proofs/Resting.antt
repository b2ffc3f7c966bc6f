-- In each legal list of a script the processors are at the first seats; who is at another begins nothing.
use Rattle.std.proofs.Common.{◌≡◌, ℕ, ◌<◌, ◌≤◌, true, ap, ◌∙◌, List, Option, None}
use Rattle.gh_world.proofs.Vocabulary.{Actor, actor_after, Begins, Entry, Kind, Layout, Legal, Op, opening_processor, Processor, processor_kind, Program, setting_of, setup_of, started, state_of}
use Rattle.gh_lists.specs.Handshake.{actors}
use Rattle.gh_lists.specs.Resting as resting
use Rattle.gh_lists.specs.Seats.{run_started}

module _ (p : Program) (l : Layout) where
  abbrev one : Kind Processor Op
  one = processor_kind p.shapes l

  abbrev all : Kind Actor Op
  all = actors (setup_of p l)

  pub is_processor : (a : ℕ) → a < l.procs → (es : List (Entry Op)) → actor_after p l es a ≡ Actor.Runs (state_of one a es)
  is_processor a lt es = resting.runs_are (setup_of p l) es a lt

  pub begun_is : (a : ℕ) → a < l.procs → (es : List (Entry Op)) (o : Option Op) → started all o (actor_after p l es a) ≡ Actor.Runs (started one o (state_of one a es))
  begun_is a lt es o = ap (λ (m : Actor). started all o m) (is_processor a lt es) ∙ run_started (setup_of p l) o (state_of one a es)

  pub other_none : (a : ℕ) (es : List (Entry Op)) (o : Option Op) → l.procs ≤ a → Begins (setting_of p l) a es o → all.busy (started all o (actor_after p l es a)) ≡ true → o ≡ None
  other_none a es o le begins runs = resting.begins_none (setup_of p l) a es o le begins runs

  -- at its seat a processor would rest
  pub rests : (a : ℕ) → l.procs ≤ a → (es : List (Entry Op)) → Legal (setting_of p l) es → state_of one a es ≡ opening_processor a
  rests a le es legal = resting.rests (setup_of p l) es legal a le
