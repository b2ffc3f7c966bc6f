-- What the coordinator's stage says while a cycle is marked: in its check, that the words which it has looked at are as wanted; and behind it, that all are. And where each step of it leads.
use Rattle.std.proofs.Common.{◌≡◌, ℕ, ◌+◌, ◌<◌, ◌≤◌, ◌==◌, Bool, true, false, cond, ltb, leb, not, ◌||◌, refl, sym, subst, arith, Option, ltb-false}
use Rattle.gh_marked.specs.Vocabulary.{after_check, after_close, after_open, Ask, asks_at, at_stage, buffer_of, buffers_of, Cell, cell_of, Coordinating, effect, goes_at, is_busy, IsBeginning, IsQuietInMarking, Layout, nat_tests, Shared, Words}
use Rattle.gh_coord.specs.Handshake.{close_post, Marks, post_at}
use Rattle.gh_coord.specs.Closing as close
use Rattle.gh_coord.specs.Events.{by_event}
use Rattle.gh_coord.specs.Opening as opens_by
use Rattle.gh_coord.specs.Watching as watch
use Rattle.gh_coord.specs.Watching.{cell_at, is_wanted, words_of}
use Rattle.gh_marked.specs.LemmaVocabulary.{All, Check, Close, CloseStage, CoordStage, Done, holder_in, NotYet, Open, OpenStage, RunPhase, Stopped, Watched, WatchStage}
use Rattle.gh_marked.specs.Beside.{LeavesHeap}
use Rattle.gh_coord.specs.Handshake as leading

-- all watched words are as wanted
pub record Found (l : Layout) (number : ℕ) (words : Words) : Type 0 where
  pub cursor : l.globals ≤ words Cell.Gcur
  pub stacks : (g : ℕ) → g < l.goroutines → number ≤ words (Cell.Scanned g)
  pub empty : (b : ℕ) → b < buffers_of l → holder_in (words (Cell.Buffer b)) ≡ 0 → (buffer_of (words (Cell.Buffer b))).count ≡ 0

module _ (l : Layout) (number : ℕ) (words : Words) where
  abbrev IsWanted : ℕ → Type 0
  IsWanted i = is_wanted l number (cell_at l i) (words (cell_at l i)) ≡ true

  abbrev pub StageSees : WatchStage → Type 0
  StageSees (WatchStage.Look i) = (j : ℕ) → j < i → IsWanted j
  StageSees (WatchStage.Ended w) = ⊥

  pub record Sees (w : watch.Watching) : Type 0 where
    pub cycle_is : w.cycle ≡ number
    pub stage_is : StageSees w.stage

  abbrev pub CheckedAt : CoordStage → Type 0
  CheckedAt (Check w) = Sees w
  CheckedAt (Close c) = Found l number words
  CheckedAt _ = Unit {0}

  -- by the numbers of the words
  module _ (seen : (j : ℕ) → j < words_of l → IsWanted j) where
    wanted_at : (j : ℕ) (c : Cell) → cell_at l j ≡ c → j < words_of l → is_wanted l number c (words c) ≡ true
    wanted_at j c e m = subst (λ (x : Cell). is_wanted l number x (words x) ≡ true) e (seen j m)

    stack_at : (g : ℕ) → g < l.goroutines → cell_at l (g + 1) ≡ Cell.Scanned g
    stack_at g m = grind arith

    buffer_at : (b : ℕ) → cell_at l (b + l.goroutines + 1) ≡ Cell.Buffer b
    buffer_at b = grind arith

    empty_so : (word : ℕ) → (not ((buffer_of word).holder == 0) || ((buffer_of word).count == 0)) ≡ true → holder_in word ≡ 0 → (buffer_of word).count ≡ 0
    empty_so word e h = grind arith

    pub all_found : Found l number words
    all_found = record {
      cursor = let yes : leb l.globals (words Cell.Gcur) ≡ true = wanted_at 0 Cell.Gcur refl (omega arith) in grind (arith, nat_tests);
      stacks = λ g m. let yes : leb number (words (Cell.Scanned g)) ≡ true = wanted_at (g + 1) (Cell.Scanned g) (stack_at g m) (omega arith) in grind (arith, nat_tests);
      empty = λ b m h. empty_so (words (Cell.Buffer b)) (wanted_at (b + l.goroutines + 1) (Cell.Buffer b) (buffer_at b) (omega arith)) h;
    }

-- a step that changes no word which marking reads, and none of pages, slots, pointer bits and the cursor
pub record IsLight (ask : Ask) : Type 0 where
  pub quiet : (s : Shared) → IsQuietInMarking s ask
  pub aside : LeavesHeap ask

-- What a step of the coordinator leads to: a cycle begins; or it goes on to be marked, with what the next stage says; or no cycle is marked then.
pub data CoordinatorGoes (l : Layout) (number : ℕ) (words : Words) (s : Coordinating) (p : CoordStage) (to : Coordinating) : Type 0 where
  begins : IsBeginning p → IsLight (asks_at l s p) → to.begun ≡ s.begun → CheckedAt l number (effect words (asks_at l s p)) to.stage → CoordinatorGoes l number words s p to
  goes_on : Marks p → IsLight (asks_at l s p) → to.begun ≡ s.begun → (CheckedAt l number words p → CheckedAt l number (effect words (asks_at l s p)) to.stage) → CoordinatorGoes l number words s p to
  leaves : (Marks to.stage → ⊥) → CoordinatorGoes l number words s p to

module _ (l : Layout) (number : ℕ) (words : Words) (s : Coordinating) (marks : ℕ) (number_is : s.begun ≡ number) where
  -- with its steps counted
  abbrev u : Coordinating
  u = record s { marks = marks }

  abbrev To : CoordStage → Coordinating → Type 0
  To p to = CoordinatorGoes l number words s p to

  opening : (o : opens_by.CycleOpening) (p : OpenStage) (found : ℕ) → o.stage ≡ p → opens_by.is_busy p ≡ true → To (Open o) (after_open (at_stage u (Open (opens_by.goes_at o p found))) (opens_by.given_at (opens_by.behind p)))
  opening o p found e b = grind arith

  watching_quiet : (p : WatchStage) → IsLight (watch.asks_at l p)
  watching_quiet p = grind arith

  -- one word more is as wanted
  one_more : (i : ℕ) → ((j : ℕ) → j < i → IsWanted l number words j) → IsWanted l number words i → (j : ℕ) → j < i + 1 → IsWanted l number words j
  one_more i before now j m = grind arith

  -- behind a look at word i
  abbrev behind_look : watch.Watching → (i : ℕ) → (b d : Bool) → watch.Watching
  behind_look w i b d = watch.at_stage w (cond b (cond d (WatchStage.Look (i + 1)) (WatchStage.Ended All)) (WatchStage.Ended NotYet))

  looking : (w : watch.Watching) (i found : ℕ) → w.stage ≡ WatchStage.Look i → w.cycle ≡ number → found ≡ words (cell_at l i) → StageSees l number words (WatchStage.Look i) →
      CheckedAt l number words (after_check (at_stage u (Check (watch.goes_at l w (WatchStage.Look i) found))) (watch.given (watch.goes_at l w (WatchStage.Look i) found))).stage
  looking w i found e c f seen = go (is_wanted l w.cycle (cell_at l i) found) (ltb (i + 1) (words_of l)) refl refl where
    wanted : is_wanted l w.cycle (cell_at l i) found ≡ true → IsWanted l number words i
    wanted y = subst (λ (n : ℕ). is_wanted l n (cell_at l i) (words (cell_at l i)) ≡ true) c (subst (λ (v : ℕ). is_wanted l w.cycle (cell_at l i) v ≡ true) f y)

    go : (b d : Bool) → is_wanted l w.cycle (cell_at l i) found ≡ b → ltb (i + 1) (words_of l) ≡ d → CheckedAt l number words (after_check (at_stage u (Check (behind_look w i b d))) (watch.given (behind_look w i b d))).stage
    go true true y x = record { cycle_is = c; stage_is = one_more i seen (wanted y) }
    go true false y x = all_found l number words (λ j m. one_more i seen (wanted y) j (let few : words_of l ≤ i + 1 = ltb-false _ _ x in omega arith))
    go false d y x = tt

  checking_begun : (w : watch.Watching) (out : Option Watched) → (after_check (at_stage u (Check w)) out).begun ≡ s.begun
  checking_begun w out = grind arith

  checking : (w : watch.Watching) (p : WatchStage) (found : ℕ) → w.stage ≡ p → watch.is_busy p ≡ true → found ≡ words (cell_of (watch.asks_at l p)) →
      To (Check w) (after_check (at_stage u (Check (watch.goes_at l w p found))) (watch.given (watch.goes_at l w p found)))
  checking w p found e b f = grind (arith, checking_begun, looking, watching_quiet)

  closing : (c : close.Closing) (p : CloseStage) (found : ℕ) → c.stage ≡ p → close.is_busy p ≡ true → To (Close c) (after_close (at_stage u (Close (close.goes_at c p found))) (close.given (close.goes_at c p found)))
  closing c p found e b = grind arith

  pub goes_so : (p : CoordStage) (found : ℕ) → is_busy p ≡ true → found ≡ words (cell_of (asks_at l s p)) → To p (goes_at l u p found)
  goes_so (Open o) found b f = opening o o.stage found refl b
  goes_so (Check w) found b f = checking w w.stage found refl b f
  goes_so (Close c) found b f = closing c c.stage found refl b
  goes_so Done found b f = absurd cc
  goes_so p found b f = by_event l u found (To p) p (λ e may. grind (arith, watching_quiet))

-- the world is stopped while marking is being ended
pub still_stopped : (p : CloseStage) → close.is_marking p ≡ true → close_post p ≡ Stopped RunPhase.Mark
still_stopped p on = grind arith

-- What a stage says while a cycle is marked lasts where the world is stopped, since no word changes then; at other stages it says nothing of words.
pub checked_lasts : (l : Layout) (number : ℕ) (words then : Words) (p : CoordStage) → Marks p → ((phase : RunPhase) → post_at p ≡ Stopped phase → then ≡ words) → CheckedAt l number words p → CheckedAt l number then p
checked_lasts l number words then (Check w) on still h = subst (λ (x : Words). CheckedAt l number x (Check w)) (sym (still RunPhase.Mark refl)) h
checked_lasts l number words then (Close c) on still h = subst (λ (x : Words). CheckedAt l number x (Close c)) (sym (still RunPhase.Mark (still_stopped c.stage on))) h
checked_lasts l number words then _ on still h = tt

-- where a cycle begins the world is stopped
pub begin_post : (p : CoordStage) → IsBeginning p → leading.post_at p ≡ Stopped RunPhase.Off
begin_post p b = grind arith
