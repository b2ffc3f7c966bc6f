-- Each step of the processor is on a word that there is.
use Rattle.std.proofs.Common.{ℕ, ◌+◌, ◌*◌, ◌/◌, ◌%◌, ◌<◌, Option, arith}
use Rattle.gh_mutator_heap.proofs.Vocabulary.{Answer, Arena, asks_at, Assist, cell_of, FactsAt, for_whom, freeing_new, Global, GlobalFacts, GlobalStage, Good, HasAt, held_new, InRange, KnowsAt, KnowsNew, laying_new, Load, LoadStage, locked_new, mod-lt, NewFacts, NewStage, Processor, register_of, rest, Rights, Search, SeatFacts, Store, StoreFacts, StoreStage, Task, View, Wait, waiting, Want, Wanted, Within}
use Rattle.gh_mutator.specs.declared.new.NewStage.TheVariants.{Place}
use Rattle.gh_mutator.specs.Global as global
use Rattle.gh_mutator.specs.Load as load
use Rattle.gh_mutator.specs.New as new
use Rattle.gh_mutator.specs.Store as store
use Rattle.gh_mutator_heap.proofs.Owning.Known.{Known}
use Rattle.gh_mutator_heap.proofs.Owning.Parked.{stands_always}

module _ (k : Known) (z : Arena) (a : ℕ) (v : View) (m : Processor) (pending : Option Answer) (good : Good z v) (sits : SeatFacts z a m.poll) where
  some : 0 < z.layout.pages
  some = omega (arith, z.layout.limits.pages_fit.0)

  -- an index that is taken modulo the row's words
  heap : (x : ℕ) → x % (1024 * z.layout.pages) < 1024 * z.layout.pages
  heap x = let words : 0 < 1024 * z.layout.pages = omega (arith, some) in omega (arith, mod-lt x words)

  bits : (x : ℕ) → x % (16 * z.layout.pages) < 16 * z.layout.pages
  bits x = let words : 0 < 16 * z.layout.pages = omega (arith, some) in omega (arith, mod-lt x words)

  page : (x : ℕ) → x % z.layout.pages < z.layout.pages
  page x = omega (arith, mod-lt x some)

  load_within : (x : Load) (q : LoadStage) → InRange z.layout (cell_of (load.asks_at z.layout x q))
  load_within x q = grind arith

  store_within : (x : Store) (q : StoreStage) → StoreFacts z a v m.poll x pending q → InRange z.layout (cell_of (store.asks_at z.layout (register_of m x.g x.v) x q))
  store_within x StoreStage.NilBase h = tt
  store_within x StoreStage.Page h = page (x.at / 1024)
  store_within x StoreStage.Bits h = bits ((x.at + x.k) / 64)
  store_within x StoreStage.Field h = heap (x.at + x.k)
  store_within x (StoreStage.Writing w) h = k.within.within z.layout w h.3.within

  global_within : (x : Global) (q : GlobalStage) → GlobalFacts z a v m.poll x pending q → InRange z.layout (cell_of (global.asks_at z.layout (register_of m x.g x.r) x q))
  global_within x q h = grind arith

  new_within : (w : Wanted) (q : NewStage) → KnowsNew z a v m.poll q → Rights a v (locked_new m q) (held_new m w q) (laying_new q) (freeing_new q) → NewFacts z a v m w pending q → InRange z.layout (cell_of (new.asks_at z.layout m q))
  new_within w (Search waited q) knows right h = k.search.within z a v (rest m w) q good h.facts
  new_within w (Wait x) knows right h = k.waits.within z a v (waiting x m.poll) good (right, knows)
  new_within w (Place p) knows right h = k.place.within z a v (for_whom w) p good h.facts
  new_within w (Want n) knows right h = tt
  new_within w (Assist n x) knows right h = k.assists_within.within z.layout x h.1

  within-at : (q : Task) → KnowsAt z a v m.poll q → HasAt a v m q → FactsAt z a v m pending q → InRange z.layout (cell_of (asks_at z.layout m q))
  within-at q knows right h = grind (arith, global_within, load_within, new_within, store_within)

pub within : Known → Within
within k z a v m pending good fine = within-at k z a v m pending good (stands_always z a v m pending fine).sits m.task fine.knows fine.right fine.task
