-- What a processor runs among a collector stays sound, and its steps lie in the heap: by the stages. Of its routines it is known that they are routines.
use Rattle.std.proofs.Common.{◌≡◌, ℕ, zero, suc, ◌+◌, ◌/◌, ◌^◌, ◌<◌, ◌≤◌, Bool, true, false, cond, eqb, List, [], ◌∷◌, drop, length, Option, Some, None, refl, sym, ap, subst, ◌∙◌, arith, is_none, slice_index_or}
use Rattle.std.proofs.lemmas.List.{drop-drop}
use Rattle.gh_poll.proofs.Vocabulary.{CachedSpan, first_cached, FitsCache, GiveStage, Giving, Held, IsHeld, IsRoutine, Layout, LeaveStage, nat_tests, pages_of, SoundBufferGiving, SoundCached, SoundGiving}
use Rattle.gh_class.specs.declared.class.TheConstants.{SPAN_CLASSES}
use Rattle.gh_wbuf.specs.BufferGiving as buffer
use Rattle.gh_poll.specs.Give as give
use Rattle.gh_poll.specs.GiveSound as gives
use Rattle.gh_poll.specs.Leave as leave
use Rattle.gh_poll.specs.LeaveSound as leaves
use Rattle.gh_poll.proofs.Giving.{none_fits}

-- ---- giving back

-- what stands at the head of the rest of a list
module _ (v : Option CachedSpan) (vs : List (Option CachedSpan)) where
  read_is : (i : ℕ) (xs : List (Option CachedSpan)) → drop i xs ≡ v ∷ vs → slice_index_or xs i None ≡ v
  read_is zero xs e = ap (λ (ys : List (Option CachedSpan)). slice_index_or ys 0 None) e
  read_is (suc i) [] e = absurd (cc)
  read_is (suc i) (x ∷ xs) e = read_is i xs e

  stands_within : (i : ℕ) (xs : List (Option CachedSpan)) → drop i xs ≡ v ∷ vs → i < length xs
  stands_within zero [] e = absurd (cc)
  stands_within zero (x ∷ xs) e = omega arith
  stands_within (suc i) [] e = absurd (cc)
  stands_within (suc i) (x ∷ xs) e = let less = stands_within i xs e in omega arith

  rest_is : (i : ℕ) (xs : List (Option CachedSpan)) → drop i xs ≡ v ∷ vs → drop (i + 1) xs ≡ vs
  rest_is i xs e = sym (drop-drop 1 i xs) ∙ ap (drop 1) e

module _ (l : Layout) (cache : List (Option CachedSpan)) (whole : length cache ≡ SPAN_CLASSES) (fits : FitsCache l cache) where
  first_sound : (class : ℕ) (spans : List (Option CachedSpan)) → drop class cache ≡ spans → gives.SoundStage l (first_cached class spans)
  first_sound class [] e = tt
  first_sound class (None ∷ spans) e = first_sound (class + 1) spans (rest_is None spans class cache e)
  first_sound class (Some s ∷ spans) e = record {
    among = subst (λ (n : ℕ). class < n) whole (stands_within (Some s) spans class cache e);
    span = subst (SoundCached l.pages (class / 2)) (read_is (Some s) spans class cache e) (fits class);
  }

pub buffer_opens : (l : Layout) (held : Option Held) → IsHeld l held → gives.SoundStage l (give.giving_buffer held)
buffer_opens l None fits = tt
buffer_opens l (Some h) fits = record { sound = fits; busy = refl }

-- the laws of what these routines run
pub record Routines (l : Layout) : Type 0 where
  pub buffers : IsRoutine l (buffer.listing l)
  -- a span has a page
  pub some_page : (c : ℕ) → c < 25 → 1 ≤ pages_of c

module _ (l : Layout) (k : Routines l) where
  give_at : (g : Giving) (p : GiveStage) → SoundGiving l g → gives.SoundStage l p → SoundGiving l (give.at_stage g p)
  give_at g p s h = record { seat = s.seat; generation = s.generation; room = s.room; cache = s.cache; held = s.held; stage = h }

  given_sound : (g : Giving) (b : buffer.BufferGiving) (out : Option (Unit {0})) → SoundGiving l g → SoundBufferGiving l b → buffer.given b ≡ out → SoundGiving l (give.after_buffer g b out)
  given_sound g b None s h e = give_at g (GiveStage.GiveBuffer b) s (record { sound = h; busy = ap is_none e })
  given_sound g b (Some x) s h e = record { seat = s.seat; generation = s.generation; room = s.room; cache = s.cache; held = tt; stage = tt }

  lock_sound : (g : Giving) (free : Bool) → SoundGiving l g → SoundGiving l (give.at_stage g (cond free (give.stage_from g.cache 0) GiveStage.Lock))
  lock_sound g true s = give_at g (give.stage_from g.cache 0) s (first_sound l g.cache s.room s.cache 0 (drop 0 g.cache) refl)
  lock_sound g false s = give_at g GiveStage.Lock s tt

  gives_at : (g : Giving) (p : GiveStage) (found : ℕ) → found < 2 ^ 64 → SoundGiving l g → gives.SoundStage l p → SoundGiving l (give.goes_at g p found)
  gives_at g GiveStage.Lock found few s h = lock_sound g (eqb found 0) s
  gives_at g (GiveStage.GiveSpan class c) found few s h = give_at g (give.stage_from g.cache (class + 1)) s (first_sound l g.cache s.room s.cache (class + 1) (drop (class + 1) g.cache) refl)
  gives_at g GiveStage.Unlock found few s h = record { seat = s.seat; generation = s.generation; room = refl; cache = none_fits l; held = s.held; stage = buffer_opens l g.held s.held }
  gives_at g (GiveStage.GiveBuffer b) found few s h = given_sound g (buffer.goes b found) (buffer.gives b found) s (k.buffers.keeps b found few h.sound h.busy) refl
  gives_at g GiveStage.Ended found few s h = give_at g GiveStage.Ended s tt

  span_within : (class : ℕ) (c : CachedSpan) → gives.FitsCachedSpan l class c → c.head < l.pages
  span_within class c h = let some = k.some_page (class / 2) (let among = h.among in omega arith) in let inside = h.span.0 in omega arith

  pub giving_is_a_routine : IsRoutine l (give.listing l)
  giving_is_a_routine = record {
    keeps = λ g found few s busy. gives_at g g.stage found few s s.stage;
    within = λ g s busy. grind (arith, nat_tests, span_within);
    writes = λ g. grind (arith, nat_tests);
    blind = λ g found other store. grind (arith, nat_tests);
  }

  -- ---- leaving

  leave_sound : (w : leave.Leaving) (g : Giving) (busy : Bool) → leaves.SoundLeaving l w → SoundGiving l g → give.is_busy g.stage ≡ busy → leaves.SoundLeaving l (leave.at_stage w (cond busy (LeaveStage.Giving g) LeaveStage.Leave))
  leave_sound w g true s h e = record { seat = s.seat; stage = record { sound = h; busy = e } }
  leave_sound w g false s h e = record { seat = s.seat; stage = tt }

  leaves_at : (w : leave.Leaving) (p : LeaveStage) (found : ℕ) → found < 2 ^ 64 → leaves.SoundLeaving l w → leaves.SoundStage l p → leaves.SoundLeaving l (leave.goes_at w p found)
  leaves_at w (LeaveStage.Giving g) found few s h = leave_sound w (give.goes g found) (give.is_busy (give.goes g found).stage) s (giving_is_a_routine.keeps g found few h.sound h.busy) refl
  leaves_at w LeaveStage.Leave found few s h = record { seat = s.seat; stage = tt }
  leaves_at w LeaveStage.Left found few s h = record { seat = s.seat; stage = tt }

  pub leaving_is_a_routine : IsRoutine l (leave.listing l)
  leaving_is_a_routine = record {
    keeps = λ w found few s busy. leaves_at w w.stage found few s s.stage;
    within = λ w s busy. let within = giving_is_a_routine.within in grind (arith, nat_tests);
    writes = λ w. let writes = giving_is_a_routine.writes in grind (arith, nat_tests);
    blind = λ w found other store. let blind = giving_is_a_routine.blind in grind (arith, nat_tests);
  }
