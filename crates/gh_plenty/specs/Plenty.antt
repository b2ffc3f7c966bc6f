-- Scripts for whose objects there is always room, also if none is ever freed.
use Rattle.std.specs.Prelude.{◌≡◌, ◌≢◌, ℕ, ◌+◌, ◌*◌, ◌<◌, ◌≤◌, Bool, true, false, List, [], ◌∷◌, length, slice_get, Some}
use Rattle.std.specs.List.{filter}
use Rattle.gh_base.specs.declared.layout.Layout.{Layout}
use Rattle.gh_base.specs.declared.machine.Entry.{Entry}
use Rattle.gh_base.specs.declared.operation.Op.{Op}
use Rattle.gh_base.specs.declared.shape.Shape.{Shape}
use Rattle.gh_base.specs.declared.value.Answer.TheVariants.{Full}
use Rattle.gh_class.specs.declared.class.SizeClass.TheVariants.{Small}
use Rattle.gh_class.specs.Classes.{pages_of, size_class_of, slots_of}
use Rattle.gh_lines.specs.Text.{Outcome}
use Rattle.gh_script.specs.declared.statement.Stmt.{Stmt}
use Rattle.gh_script.specs.declared.statement.Stmt.TheVariants.{New}
use Rattle.gh_script.specs.Generated.{generated_program}
use Rattle.gh_script.specs.Program.{Program, statements_of, WellFormed}
use Rattle.gh_lists.specs.Order.{acted_in, Answered}
use Rattle.gh_world.specs.Runs.{IsExplained}
use Rattle.gh_lists.specs.Wants.{total}
use Rattle.gh_world.specs.World.{LaysOut}

-- the statement makes an object
abbrev pub is_new_statement : Stmt → Bool
is_new_statement (New d t) = true
is_new_statement _ = false

-- how many objects goroutine g makes
abbrev pub objects_of : Program → (g : ℕ) → ℕ
objects_of p g = length (filter is_new_statement (statements_of p g))

-- and how many all goroutines make
abbrev pub all_objects : Program → ℕ
all_objects p = total (objects_of p) (length p.goroutines)

-- All objects are of one type. Their slots are of a size class of which a span has one page. The arena has more such slots than there are objects, and one span of each processor beside them.
pub record HasPlenty (p : Program) : Type 0 where
  pub shape : Shape
  pub type : p.shapes ≡ shape ∷ []
  pub class : ℕ
  pub small : size_class_of shape.words ≡ Small class
  pub one_page : pages_of class ≡ 1
  pub enough : all_objects p + p.settings.procs * slots_of class < p.settings.arena * slots_of class

-- no operation that acted in the list was answered `full`
abbrev pub NeverFull : Program → Layout → List (Entry Op) → Type 0
NeverFull p l es = (i : ℕ) (a : Answered) → slice_get (acted_in p.shapes l es) i ≡ Some a → a.answer ≢ Full

-- ---- laws

-- Whatever the script, and whatever whole run of it: where it has plenty, none was.
abbrev pub ScriptsWithPlentyAreNeverFull : Type 0
ScriptsWithPlentyAreNeverFull = (p : Program) (l : Layout) (es : List (Entry Op)) (o : Outcome) → WellFormed p → HasPlenty p → LaysOut p l → IsExplained p l es o → NeverFull p l es

-- So it is in each whole run of a generated script.
abbrev pub GeneratedScriptsAreNeverFull : Type 0
GeneratedScriptsAreNeverFull = (seed size : ℕ) (l : Layout) (es : List (Entry Op)) (o : Outcome) → size ≤ 200000 → LaysOut (generated_program seed size) l → IsExplained (generated_program seed size) l es o →
    NeverFull (generated_program seed size) l es
