-- The coordinator's steps: where each leads, by the parts of a cycle.
use Rattle.std.proofs.Common.{◌≡◌, ℕ, ◌+◌, ◌^◌, ◌≤◌, true, refl, ap, Option, Some, None, arith}
use Rattle.gh_lists.proofs.Vocabulary.{after_check, after_close, after_count, after_open, after_tell, Ask, asks_at, At, at_stage, Begun, by_event, cell_of, Check, Checked, Close, CloseStage, Coordinating, CoordStage, Count, CycleWords, Done, effect, Ended, goes_at, is_busy, Layout, numbers_of, Open, opened_after, OpenStage, Own, own_counts, Part, part_of, Quiet, SoundAt, Tell, TellStage, to_checked, to_counted, watch_quiet, Words}
use Rattle.gh_coord.specs.Closing as close
use Rattle.gh_coord.specs.Counting as count
use Rattle.gh_coord.specs.Opening as opens_by
use Rattle.gh_coord.specs.Telling as tell
use Rattle.gh_coord.specs.Watching as watch
use Rattle.gh_coord.specs.declared.watch.Watched.TheVariants.{All, NotYet}
use Rattle.gh_coord.specs.declared.count.CountStage.{CountStage}
use Rattle.gh_coord.specs.declared.watch.Watched.{Watched}

-- what is to be told
abbrev pub Reads : Coordinating → CoordStage → Type 0
Reads c (Tell t) = t.cycle ≡ c.begun
Reads c _ = Unit {0}

module _ (room : ℕ) where
  pub record Is (opened : ℕ) (n : CycleWords) (c : Coordinating) (p : CoordStage) : Type 0 where
    pub at : At room opened n (own_counts c) (part_of p)
    pub reads : Reads c p

  module _ (opened : ℕ) (w : Words) (l : Layout) (s : Coordinating) (marks : ℕ) where
    -- with its steps counted
    abbrev u : Coordinating
    u = record s { marks = marks }

    abbrev n : CycleWords
    n = numbers_of w

    abbrev In : Part → Type 0
    In part = At room opened n (own_counts s) part

    abbrev Next : Ask → Coordinating → Type 0
    Next ask to = Is (opened_after ask opened) (numbers_of (effect w ask)) to to.stage

    -- with the numbers as they were
    keeps : (ask : Ask) (c : Own) (part : Part) → Quiet w ask → At room opened n c part → At room (opened_after ask opened) (numbers_of (effect w ask)) c part
    keeps ask c part q h = rw (q.opens_none opened, q.numbers) h

    -- a cycle is opened
    opening : (o : opens_by.CycleOpening) (p : OpenStage) (found : ℕ) → opens_by.is_busy p ≡ true → o.cycle ≡ s.begun → In (part_of (Open (record o { stage = p }))) →
        Next (opens_by.asks_at o p) (after_open (at_stage u (Open (opens_by.goes_at o p found))) (opens_by.given_at (opens_by.behind p)))
    opening o p found b e h = grind arith

    -- it is marked
    checking : (v next : watch.Watching) (out : Option Watched) → opened + 2 ≤ 2 ^ 33 → In Begun → Next (watch.asks l v) (after_check (at_stage u (Check next)) out)
    checking v next None few h = record { at = keeps (watch.asks l v) (own_counts s) Begun (watch_quiet w l v.stage) h; reads = tt }
    checking v next (Some All) few h = record { at = keeps (watch.asks l v) _ Checked (watch_quiet w l v.stage) (to_checked room opened n (own_counts s) few h); reads = tt }
    checking v next (Some NotYet) few h = record { at = keeps (watch.asks l v) (own_counts s) Begun (watch_quiet w l v.stage) h; reads = tt }

    -- its marking is ended
    closing : (c : close.Closing) (p : CloseStage) (found : ℕ) → close.is_busy p ≡ true → c.generation ≡ s.generation → In (part_of (Close (record c { stage = p }))) →
        Next (close.asks_at c p) (after_close (at_stage u (Close (close.goes_at c p found))) (close.given (close.goes_at c p found)))
    closing c p found b e h = grind arith

    -- what the sweep has counted is read, and told
    counting : (c : count.Counting) (p : CountStage) (found : ℕ) → count.is_busy p ≡ true → In Ended →
        Next (count.asks_at p) (after_count l (at_stage u (Count (count.goes_at c p found))) (count.given (count.goes_at c p found)))
    counting c CountStage.LoadTally found b h = record { at = h; reads = tt }
    counting c (CountStage.LoadLive t) found b h = record { at = to_counted room opened n (own_counts s) t h; reads = refl }
    counting c (CountStage.Ended x) found b h = absurd cc

    telling : (t : tell.Telling) (p : TellStage) → tell.is_busy p ≡ true → t.cycle ≡ s.begun → In (part_of (Tell (record t { stage = p }))) →
        Next (tell.asks_at t p) (after_tell (at_stage u (Tell (record t { stage = tell.behind t.is_last p }))) (tell.given_at (tell.behind t.is_last p)))
    telling t p b e h = grind arith

    open_cycle : (o : opens_by.CycleOpening) → SoundAt s (Open o) → o.cycle ≡ s.begun
    open_cycle o e = ap (λ (x : opens_by.CycleOpening). x.cycle) e.0

    close_generation : (c : close.Closing) → SoundAt s (Close c) → c.generation ≡ s.generation
    close_generation c e = ap (λ (x : close.Closing). x.generation) e

    pub goes_so : (p : CoordStage) (found : ℕ) → SoundAt s p → opened + 2 ≤ 2 ^ 33 → is_busy p ≡ true → found ≡ w (cell_of (asks_at l s p)) → Is opened n s p → Next (asks_at l s p) (goes_at l u p found)
    goes_so (Open o) found e few b f h = opening o o.stage found b (open_cycle o e) h.at
    goes_so (Check v) found e few b f h = checking v (watch.goes l v found) (watch.given (watch.goes l v found)) few h.at
    goes_so (Close c) found e few b f h = closing c c.stage found b (close_generation c e) h.at
    goes_so (Count c) found e few b f h = counting c c.stage found b h.at
    goes_so (Tell t) found e few b f h = telling t t.stage b h.reads h.at
    goes_so Done found e few b f h = absurd cc
    goes_so p found e few b f h = by_event l u found (Next (asks_at l s p)) p (λ x may. grind arith)
