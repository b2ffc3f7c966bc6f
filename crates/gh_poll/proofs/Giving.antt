-- What the giving back leaves, step by step.
use Rattle.std.proofs.Common.{◌≡◌, ℕ, ◌+◌, ◌/◌, Bool, true, false, cond, eqb, drop, Option, None, refl, sym, subst, arith}
use Rattle.gh_poll.proofs.Vocabulary.{after_buffer, buffer_fine, CachedSpan, Ended, first_fine, FitsCache, GiveBuffer, GiveSpan, GiveStage, Giving, giving_buffer, GivingFacts, goes, goes_at, Layout, Lock, none_cached, read_replicate, SoundCached, stage_from, Unlock}
use Rattle.gh_wbuf.specs.BufferGiving as buffer
use Rattle.gh_poll.specs.Give.{at_stage}

abbrev no_span : Option CachedSpan
no_span = None

pub none_fits : (l : Layout) → FitsCache l none_cached
none_fits l i = subst (SoundCached l.pages (i / 2)) (sym (read_replicate 50 i no_span)) tt

lock_fine : (g : Giving) (free : Bool) → GivingFacts (at_stage g (cond free (stage_from g.cache 0) Lock)) (cond free (stage_from g.cache 0) Lock)
lock_fine g true = first_fine (at_stage g (stage_from g.cache 0)) 0 (drop 0 g.cache)
lock_fine g false = tt

after_fine : (g : Giving) (b : buffer.BufferGiving) (out : Option (Unit {0})) → g.cache ≡ none_cached → GivingFacts (after_buffer g b out) (after_buffer g b out).stage
after_fine g b out e = grind arith

fine_at : (g : Giving) (stage : GiveStage) (w : ℕ) → GivingFacts g stage → GivingFacts (goes_at g stage w) (goes_at g stage w).stage
fine_at g Lock w k = lock_fine g (eqb w 0)
fine_at g (GiveSpan i s) w k = first_fine (at_stage g (stage_from g.cache (i + 1))) (i + 1) (drop (i + 1) g.cache)
fine_at g Unlock w k = buffer_fine (record g { cache = none_cached; stage = giving_buffer g.held }) g.held refl refl
fine_at g (GiveBuffer b) w k = after_fine g (buffer.goes b w) (buffer.gives b w) k
fine_at g Ended w k = k

pub goes_fine : (g : Giving) (w : ℕ) → GivingFacts g g.stage → GivingFacts (goes g w) (goes g w).stage
goes_fine g w k = grind (arith, fine_at)
