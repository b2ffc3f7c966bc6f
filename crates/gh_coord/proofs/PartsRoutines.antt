-- The coordinator is a routine, and so is each part of it: by the stages.
use Rattle.std.proofs.Common.{◌≡◌, ℕ, ◌^◌, ◌<◌, Option, Some, None, refl, ◌∙◌, ap, arith, is_none}
use Rattle.gh_coord.proofs.Vocabulary.{asks_at, by_event, Coordinating, CoordStage, counted, FitsPage, goes, goes_at, Layout, Lost, nat_tests, PackedWordsAreReadBack, page_of, PageWord, PartsAreRoutines, SoundCoordinating, SoundStage, SweepAllStage, SweepEnd, Swept, TheCoordinatorIsARoutine, Writes, writes}
use Rattle.gh_base.specs.Cells.{InRange}
use Rattle.gh_base.specs.Machines.{IsRoutine, Runs}
use Rattle.gh_base.specs.Steps.{cell_of}
use Rattle.gh_coord.specs.Blind.{blind}
use Rattle.gh_coord.specs.Stopping as stop
use Rattle.gh_coord.specs.SweepingAll as all
use Rattle.gh_coord.specs.Watching as watch
use Rattle.gh_sweep.specs.declared.sweep.SweepStage.{SweepStage}
use Rattle.gh_sweep.specs.Listing as sweep
use Rattle.gh_sweep.specs.Sound as sweeps

-- a sweep stays at its page
pub page_stays : (sw : sweep.Sweeping) (stage : SweepStage) (found : ℕ) → (sweep.goes_at sw stage found).page ≡ sw.page
page_stays sw stage found = grind arith

module _ (l : Layout) (s : all.SweepingAll) (generation : s.generation < 2 ^ 34) where
  sound_behind : (page : ℕ) → all.Sound l (all.at_stage s (all.behind l page))
  sound_behind page = grind (arith, nat_tests)

  sound_load : (page : ℕ) (word : PageWord) → page < l.pages → FitsPage word → all.Sound l (all.after_load l s page word)
  sound_load page word low fits = grind (arith, nat_tests, sound_behind)

  sound_sweep : (page : ℕ) (sw : sweep.Sweeping) (out : Option SweepEnd) → page < l.pages → sw.page ≡ page → sweeps.Sound l sw → sweep.given sw ≡ out → all.Sound l (all.after_sweep l (all.at_stage s (SweepAllStage.Sweep page sw)) page out)
  sound_sweep page sw None low at sound e = record { generation = generation; page = (low, at); sweep = record { sound = sound; busy = ap is_none e } }
  sound_sweep page sw (Some Lost) low at sound e = record { generation = generation; page = low; sweep = tt }
  sound_sweep page sw (Some (Swept span)) low at sound e = sound_behind page

  sound_await : (page : ℕ) (word : PageWord) → page < l.pages → all.Sound l (all.after_await l s page word)
  sound_await page word low = grind (arith, nat_tests, sound_behind)

  module _ (words : PackedWordsAreReadBack) (is : IsRoutine l (sweep.listing l)) (found : ℕ) (fits : found < 2 ^ 64) where
    sound_at : (stage : SweepAllStage) → all.IsAtPage l stage → all.RunsSweep l stage → all.Sound l (all.goes_at l s stage found)
    sound_at (SweepAllStage.LoadPage page) at runs = sound_load page (page_of found) at (words.page_reads found fits)
    sound_at (SweepAllStage.Sweep page sw) at runs = sound_sweep page (sweep.goes sw found) (sweep.gives sw found) at.0 (page_stays sw sw.stage found ∙ at.1) (is.keeps sw found fits runs.sound runs.busy) refl
    sound_at (SweepAllStage.Await page) at runs = sound_await page (page_of found) at
    sound_at SweepAllStage.Ended at runs = record { generation = generation; page = tt; sweep = tt }

pub parts_are_routines : PackedWordsAreReadBack → ((l : Layout) → IsRoutine l (sweep.listing l)) → (l : Layout) → PartsAreRoutines l
parts_are_routines words sweeps_are l = record {
  stop = grind (arith, nat_tests);
  opens = grind (arith, nat_tests);
  watch = grind (arith, nat_tests);
  close = grind (arith, nat_tests);
  sweep = record {
    keeps = λ s found fits x busy. sound_at l s x.generation words (sweeps_are l) found fits s.stage x.page x.sweep;
    within = λ s x busy. grind arith;
    writes = λ s. grind arith;
    blind = λ s found other store. grind arith;
  };
  count = grind (arith, nat_tests);
  tell = grind (arith, nat_tests);
}

module _ (l : Layout) (is : PartsAreRoutines l) where
  within_at : (s : Coordinating) (p : CoordStage) → SoundStage l p → InRange l (cell_of (asks_at l s p))
  within_at s p sound = grind arith

  writes_at : (s : Coordinating) (p : CoordStage) → Writes writes (asks_at l s p)
  writes_at s p = grind arith

  module _ (found : ℕ) (fits : found < 2 ^ 64) where
    stop_on : (s : stop.Stopping) → Runs (stop.listing l) s → stop.Sound l (stop.goes l s found)
    stop_on s x = is.stop.keeps s found fits x.sound x.busy

    watch_on : (w : watch.Watching) → Runs (watch.listing l) w → watch.Sound l (watch.goes l w found)
    watch_on w x = is.watch.keeps w found fits x.sound x.busy

    sweep_on : (s : all.SweepingAll) → Runs (all.listing l) s → all.Sound l (all.goes l s found)
    sweep_on s x = is.sweep.keeps s found fits x.sound x.busy

    keeps_sound : (s : Coordinating) → SoundCoordinating l s → (p : CoordStage) → SoundStage l p → SoundCoordinating l (goes_at l s p found)
    keeps_sound s so p sound = by_event l s found (SoundCoordinating l) p (λ e may. grind (arith, stop_on, watch_on, sweep_on))

    pub sound_stays : (s : Coordinating) → SoundCoordinating l s → SoundCoordinating l (goes l s found)
    sound_stays s so = keeps_sound (counted s) (record { procs = so.procs; pages = so.pages; first_ack = so.first_ack; numbers = so.numbers; stage = so.stage }) s.stage so.stage

pub coordinator_is : ((l : Layout) → PartsAreRoutines l) → TheCoordinatorIsARoutine
coordinator_is parts l = record {
  keeps = λ s found fits sound busy. sound_stays l (parts l) found fits s sound;
  within = λ s sound busy. within_at l (parts l) s s.stage sound.stage;
  writes = λ s. writes_at l (parts l) s s.stage;
  blind = blind l;
}
