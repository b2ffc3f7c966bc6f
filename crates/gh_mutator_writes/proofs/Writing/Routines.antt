-- Which rows the statements of a processor and its giving back write: by their stages.
use Rattle.std.proofs.Common.{◌≡◌, arith}
use Rattle.gh_mutator_writes.proofs.Vocabulary.{Cell, GiveStage, Global, GlobalStage, Layout, Load, Store, StoreStage, Value, WritesOf}
use Rattle.gh_barrier.specs.Listing as write
use Rattle.gh_wbuf.specs.BufferGiving as buffer
use Rattle.gh_poll.specs.Give as give
use Rattle.gh_mutator.specs.Global as global
use Rattle.gh_mutator.specs.Load as load
use Rattle.gh_mutator.specs.Store as store
use Rattle.gh_mutator_writes.proofs.Writing.Rows.{OfHeap, OfMarking}

-- a write marks, makes entries, and writes its cell
module _ (P : Cell → Type 0) (r : OfHeap P) where
  pub load_writes : (l : Layout) (x : Load) → WritesOf P (load.asks l x)
  load_writes l x = grind arith

  pub store_writes : (l : Layout) (held : Value) (x : Store) → ((w : write.Writing) → x.stage ≡ StoreStage.Writing w → OfMarking P) → WritesOf P (store.asks l held x)
  store_writes l held x k = grind arith

  pub global_writes : (l : Layout) (held : Value) (x : Global) → ((w : write.Writing) → x.stage ≡ GlobalStage.Writing w → OfMarking P) → WritesOf P (global.asks l held x)
  global_writes l held x k = grind arith

  -- the giving back of a buffer is a part of it
  pub gives_write : (g : give.Giving) (q : GiveStage) → ((b : buffer.BufferGiving) → q ≡ GiveStage.GiveBuffer b → WritesOf P (buffer.asks b)) → WritesOf P (give.asks_at g q)
  gives_write g q back = grind arith
