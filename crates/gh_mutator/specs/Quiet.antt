-- What a processor runs while it is awake writes no word of the handshake.
use Rattle.gh_mutator.specs.Vocabulary.{Assisting, Global, IsQuietInHandshake, Layout, Load, Placing, Register, Seeking, Store, Value}
use Rattle.gh_assist.specs.Listing as assist
use Rattle.gh_alloc.specs.Place as place
use Rattle.gh_alloc.specs.Search as search
use Rattle.gh_poll.specs.Give as give
use Rattle.gh_mutator.specs.Global as global
use Rattle.gh_mutator.specs.Load as load
use Rattle.gh_poll.specs.MarkStack as mark
use Rattle.gh_mutator.specs.Register as register
use Rattle.gh_mutator.specs.Store as store

pub record ProcessorIsQuiet : Type 0 where
  -- the parts of a poll and a leave
  pub gives_back : (g : give.Giving) → IsQuietInHandshake (give.asks g)
  pub marks_a_stack : (m : mark.StackMarking) → IsQuietInHandshake (mark.asks m)
  -- the statements
  pub loads : (l : Layout) (x : Load) → IsQuietInHandshake (load.asks l x)
  pub stores : (l : Layout) (held : Value) (x : Store) → IsQuietInHandshake (store.asks l held x)
  pub globals : (l : Layout) (held : Value) (x : Global) → IsQuietInHandshake (global.asks l held x)
  pub registers : (x : Register) → IsQuietInHandshake (register.asks x)
  pub searches : (l : Layout) (s : Seeking) → IsQuietInHandshake (search.asks l s)
  pub makes : (l : Layout) (p : Placing) → IsQuietInHandshake (place.asks l p)
  pub assists : (l : Layout) (x : Assisting) → IsQuietInHandshake (assist.asks l x)
