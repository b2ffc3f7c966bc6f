-- What a processor's step does to the words of stacks, and that a calm one tells of no scan.
use Rattle.std.proofs.Common.{◌≡◌, ◌≢◌, ◌⊎◌, inl, ℕ, false, refl, sym, subst, List, Option, Some, None}
use Rattle.gh_marked.specs.Vocabulary.{Cell, effect, END, EndsStack, is_busy_at, IsSound, IsWrittenCalmly, Layout, MarksNothing, Op, Processor, processor_kind, Shape, started, Task, TellsScan, Words, WritesOf}
use Rattle.gh_base.specs.declared.cell.Ask.TheVariants.{Store}
use Rattle.gh_mutator.specs.Listing.{asks}
use Rattle.gh_marked.specs.Known.{Known}

-- What a step does to the word of a stack whose goroutine does not end with it: it leaves the word, and notes nothing; or it tells that the stack is scanned, of a goroutine that goes on, and notes that.
pub record LeavesStack (l : Layout) (words : Words) (m : Processor) (g : ℕ) : Type 0 where
  pub same : effect words (asks l m) (Cell.Scanned g) ≡ words (Cell.Scanned g)
  pub untold : (number : ℕ) → asks l m ≢ Store (Cell.Scanned g) number

pub record ScansStack (l : Layout) (words : Words) (m : Processor) (g : ℕ) : Type 0 where
  pub tells : TellsScan l m g
  pub number : m.poll.local.view.begun ≢ END
  pub goes_on : words (Cell.Scanned g) ≢ END

abbrev pub TellsStacks : Layout → Words → Processor → Type 0
TellsStacks l words m = (g : ℕ) → (m.task ≡ Task.End g → ⊥) → LeavesStack l words m g ⊎ ScansStack l words m g

-- A calm processor tells of no scan.
module _ (shapes : List Shape) (l : Layout) (known : Known) (begun : Option Op) (m : Processor) (sound : IsSound l m) (idle : (o : Op) → begun ≡ Some o → is_busy_at m.task ≡ false) (calm : MarksNothing m) where
  abbrev calm_begun : Processor
  calm_begun = started (processor_kind shapes l) begun m

  pub calm_now : MarksNothing calm_begun
  calm_now = go begun refl where
    go : (o : Option Op) → begun ≡ o → MarksNothing calm_begun
    go None x = subst (λ (y : Option Op). MarksNothing (started (processor_kind shapes l) y m)) (sym x) calm
    go (Some o) x = subst (λ (y : Option Op). MarksNothing (started (processor_kind shapes l) y m)) (sym x) (known.calm.begins shapes l m o sound.place (idle o x) calm)

  pub calm_word : (words : Words) (g : ℕ) → (calm_begun.task ≡ Task.End g → ⊥) → effect words (asks l calm_begun) (Cell.Scanned g) ≡ words (Cell.Scanned g)
  calm_word words g other = known.calm.leaves l calm_begun words (Cell.Scanned g) calm_now (λ (x : EndsStack l calm_begun g). other x.task_is)

  pub calm_tells : (words : Words) → TellsStacks l words calm_begun
  calm_tells words g other = inl (record { same = calm_word words g other; untold = λ number x. other (subst (WritesOf (IsWrittenCalmly l calm_begun)) x (known.calm.writes l calm_begun calm_now)).task_is })
