-- What a table is made for: a script, and the layout of its words.
use Rattle.std.proofs.Common.{arith}
use Rattle.gh_actor.specs.Vocabulary.{Actor, Layout, Op, opening, Program}
use Rattle.gh_base.specs.Lists.{Setting}
use Rattle.gh_base.specs.declared.limits.TheConstants.{LEAST_PAGES}
use Rattle.gh_lists.specs.declared.handshake.Actor.TheVariants.{Leads}
use Rattle.gh_world.specs.World.{setting_of}

pub record Planned : Type 0 where
  pub script : Program
  pub layout : Layout

-- its lists are those of the script's processors, workers and coordinator
abbrev pub setting : Planned → Setting Actor Op
setting p = setting_of p.script p.layout

-- ---- a plan of no table

pub nothing_planned : Planned
nothing_planned = record {
  script = grind arith;
  layout = record { opened = LEAST_PAGES; pages = LEAST_PAGES; globals = 1; procs = 1; workers = 1; goroutines = 1; limits = grind arith };
}

pub no_actor : Actor
no_actor = Leads (opening nothing_planned.layout 0 0 0 0)
