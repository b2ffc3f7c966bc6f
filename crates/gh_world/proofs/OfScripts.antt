-- The lists of a script are lists of all actors, with few `new` and `gc`; so all stands after each, and there is room for their cycles.
use Rattle.std.proofs.Common.{◌≡◌, ◌≤◌, List, ap, ◌∙◌, arith, sum_by}
use Rattle.gh_world.proofs.Vocabulary.{AreFew, arena_of, CyclesAreFew, Entry, given_for, Layout, LaysOut, Legal, most_cycles, MOST_STATEMENTS, Op, processor_kind, ProcessorsBeginFew, Program, setting_of, setup_of, state_of, total, WellFormed, wishes_in, wishes_of}
use Rattle.gh_law.specs.Below.{ShapesAreGood}
use Rattle.gh_law.specs.Actors.{AllStands, EveryListOfActorsStands}
use Rattle.gh_lists.specs.Numbers.{opened_in}
use Rattle.gh_world.proofs.Wishing.{few_wishes, total_wishes}

pub shapes_good : (p : Program) → WellFormed p → ShapesAreGood p.shapes
shapes_good p formed = record { fit = λ t lt. formed.shapes_fit t lt; narrow = λ t i lt. (formed.shapes_packed t _ lt).narrow i }

module _ (p : Program) (l : Layout) (formed : WellFormed p) (out : LaysOut p l) where
  pub many_wishes : total (wishes_of p) l.goroutines ≡ sum_by wishes_in p.goroutines
  many_wishes = ap (total (wishes_of p)) out.goroutines_are ∙ total_wishes p.goroutines

  pub few_in_all : total (wishes_of p) l.goroutines ≤ MOST_STATEMENTS
  few_in_all = let many = many_wishes in let few = few_wishes p.goroutines in let most = formed.few_statements in omega (arith, many, few, most)

  pub all_stand : EveryListOfActorsStands → (es : List (Entry Op)) → Legal (setting_of p l) es → AllStands (setup_of p l) es
  all_stand every es legal = every (given_for p l) es (shapes_good p formed) l.limits few_in_all legal

  module _ (few : CyclesAreFew) (begins_few : ProcessorsBeginFew) where
    pub are_few : (es : List (Entry Op)) → Legal (setting_of p l) es → AreFew (wishes_of p) l es
    are_few es legal =
        few (setup_of p l) (arena_of p.shapes l).seat_of (wishes_of p)
        (begins_few (arena_of p.shapes l) (wishes_of p) (λ a es. state_of (processor_kind p.shapes l) a es) few_in_all) es legal

    pub have_room : (es : List (Entry Op)) → Legal (setting_of p l) es → opened_in es ≤ most_cycles p
    have_room es legal = let o = (are_few es legal).opened in let many = many_wishes in omega (arith, o, many)
