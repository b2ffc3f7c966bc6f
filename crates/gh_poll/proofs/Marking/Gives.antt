-- While marking is on, each step of the giving back is made of moves that its seat may make.
use Rattle.std.proofs.Common.{ℕ, ◌+◌, Bool, true, false, cond, eqb, List, [], ◌∷◌, drop, Option, Some, None, arith}
use Rattle.gh_poll.proofs.Vocabulary.{after_buffer, asks, CachedSpan, Cell, cell_of, Cycle, effect, Ended, first_cached, GiveBuffer, GiveFacts, GiveSpan, GiveStage, GiveStageFacts, Giving, giving_buffer, goes, goes_at, Good, Hands, head_store, Held, holding_only, Keeps, KnowsObjects, landing, Lock, nothing, Others, Shared, stage_from, Steps, Store, Swap, Unlock}
use Rattle.gh_wbuf.specs.BufferGiving as buffer
use Rattle.gh_wbuf.specs.Facts as buffer_facts
use Rattle.gh_poll.specs.Give.{asks_at, opening}
use Rattle.gh_poll.proofs.Marking.Known.{by_load, by_quiet, Known}

-- where it goes by what is cached, and by what is held
first_facts : (z : Cycle) (a : ℕ) (t : Shared) (held : Option Held) (class : ℕ) (spans : List (Option CachedSpan)) → Hands a t (holding_only held) → GiveStageFacts z a t held (first_cached class spans)
first_facts z a t held class [] x = x
first_facts z a t held class (Some s ∷ spans) x = x
first_facts z a t held class (None ∷ spans) x = first_facts z a t held (class + 1) spans x

module _ (k : Known) (z : Cycle) (a : ℕ) where
  buffer_facts_of : (t : Shared) (held : Option Held) → Hands a t (holding_only held) → GiveStageFacts z a t held (giving_buffer held)
  buffer_facts_of t held x = grind arith

  pub gives_begin : (t : Shared) (seat generation : ℕ) (cache : List (Option CachedSpan)) (held : Option Held) → Hands a t (holding_only held) → GiveFacts z a t (opening seat generation cache held)
  gives_begin t seat generation cache held x = grind arith

  module _ (s : Shared) (good : Good z s) (objects : KnowsObjects z s) where
    abbrev Leads : (m : Giving) → GiveStage → Type 0
    Leads m p = Steps z a s (asks_at m p) (λ t. Keeps z a s t × GiveFacts z a t (goes_at m p (s.words (cell_of (asks_at m p)))))

    module _ (m : Giving) where
      locks : Hands a s (holding_only m.held) → Leads m Lock
      locks x = by_quiet k z a s good (Swap Cell.Lock 0 (m.seat + 1)) (holding_only m.held) (λ t. Keeps z a s t × GiveFacts z a t (goes_at m Lock (s.words Cell.Lock))) tt x
          (λ t kept h. (kept, then t h (eqb (s.words Cell.Lock) 0))) where
            then : (t : Shared) → Hands a t (holding_only m.held) → (free : Bool) → GiveStageFacts z a t m.held (cond free (stage_from m.cache 0) Lock)
            then t h true = first_facts z a t m.held 0 (drop 0 m.cache) h
            then t h false = h

      buffer_then : (t : Shared) (b : buffer.BufferGiving) (n : ℕ) (out : Option (Unit {0})) → buffer_facts.GiveFacts z a t nothing (buffer.goes b n) → GiveFacts z a t (after_buffer m (buffer.goes b n) out)
      buffer_then t b n out f = grind arith

      gives_at : (p : GiveStage) → GiveStageFacts z a s m.held p → Leads m p
      gives_at Lock x = locks x
      gives_at (GiveSpan class c) x = by_quiet k z a s good (head_store m.generation class c) (holding_only m.held) (λ t. Keeps z a s t × GiveFacts z a t (goes_at m (GiveSpan class c) (s.words (Cell.Page c.head)))) tt x
          (λ t kept h. (kept, first_facts z a t m.held (class + 1) (drop (class + 1) m.cache) h))
      gives_at Unlock x = by_quiet k z a s good (Store Cell.Lock 0) (holding_only m.held) (λ t. Keeps z a s t × GiveFacts z a t (goes_at m Unlock (s.words Cell.Lock))) tt x
          (λ t kept h. (kept, buffer_facts_of t m.held h))
      gives_at (GiveBuffer b) x =
          let n : ℕ = s.words (cell_of (buffer.asks b)) in
          landing z a s (effect s.words (buffer.asks b)) (λ t. Keeps z a s t × buffer_facts.GiveFacts z a t nothing (buffer.goes b n)) (λ t. Keeps z a s t × GiveFacts z a t (after_buffer m (buffer.goes b n) (buffer.gives b n)))
          (λ t went h. (h.0, buffer_then t b n (buffer.gives b n) h.1))
          (k.buffers.gives.own_step z a s nothing b good objects x)
      gives_at Ended x = by_load k z a s good Cell.Touch (λ t. Keeps z a s t × GiveFacts z a t (goes_at m Ended (s.words Cell.Touch))) ((k.go_on z a).stays s, x)

    pub gives_on : (m : Giving) → GiveFacts z a s m → Steps z a s (asks m) (λ t. Keeps z a s t × GiveFacts z a t (goes m (s.words (cell_of (asks m)))))
    gives_on m f = grind (arith, gives_at)

  stage_lasts : (s t : Shared) (held : Option Held) (p : GiveStage) → Others z a s t → GiveStageFacts z a s held p → GiveStageFacts z a t held p
  stage_lasts s t held Lock o x = k.last z a s t (holding_only held) o x
  stage_lasts s t held (GiveSpan class c) o x = k.last z a s t (holding_only held) o x
  stage_lasts s t held Unlock o x = k.last z a s t (holding_only held) o x
  stage_lasts s t held (GiveBuffer b) o x = k.buffers.gives.lasts z a s t nothing b o x
  stage_lasts s t held Ended o x = (k.last z a s t nothing o x.0, x.1)

  pub gives_last : (s t : Shared) (m : Giving) → Others z a s t → GiveFacts z a s m → GiveFacts z a t m
  gives_last s t m o f = grind (arith, stage_lasts)
