-- Own steps of a new object: the search for its slot, the wait for a cycle, and the making of it.
use Rattle.std.proofs.Common.{◌≡◌, ℕ, ◌+◌, ◌*◌, ◌^◌, ◌<◌, ◌≤◌, Bool, true, false, cond, List, get_or, refl, sym, ◌∙◌, ap, subst, Option, Some, None, is_none, arith}
use Rattle.std.proofs.lemmas.List.{set-get_or}
use Rattle.gh_mutator.proofs.Vocabulary.{after_assist, after_found, after_search, after_wait, Assist, Assisting, assisting, assists, at_poll, at_task, cache_span, cache_with, cached_in, CachedSpan, Found, is_made, IsRoutine, Large, Layout, LiesWithin, made_by, made_object, made_task, made_then, makes, marking_at, most_objects, Name, New, NewStage, next_of, Place, PlaceStage, Placing, placing, Polling, Processor, read_after_set, Search, search_wants, searches, Seeking, seeking, set, set_register, set_twice, Shape, shape_at, Small, Sought, Sound, SoundPolling, SoundSearch, SoundTask, SoundWaiting, SoundWanted, span_index, takes, Task, Value, Wait, wait_fits, wait_stacks, Waiting, waits, WaitState, Want, Wanted, wants}
use Rattle.gh_alloc.specs.Place as place
use Rattle.gh_alloc.specs.PlaceSound as place_fits
use Rattle.gh_alloc.specs.Search as search
use Rattle.gh_alloc.specs.SearchSound as search_fits
use Rattle.gh_assist.specs.Listing as assist
use Rattle.gh_assist.specs.Sound.{SoundAssisting}
use Rattle.gh_mutator.specs.New.{takes_at}
use Rattle.gh_poll.specs.Wait as wait
use Rattle.gh_mutator.specs.Vocabulary.{At, NoRoom}
use Rattle.gh_mutator.proofs.ClassFacts.{ClassLaws, sought_small}
use Rattle.gh_mutator.proofs.Opens.{assist_opens, place_opens, search_opens}
use Rattle.gh_mutator.proofs.Changes.{moved, polled, taken}

-- What the search keeps, and where the making of an object goes.

-- an object that is not made yet was not made before
unmade_before : (p : Placing) (q : PlaceStage) (found : ℕ) → is_made (place.goes_at p q found) ≡ false → is_made q ≡ false
unmade_before p q found e = grind arith

acts_unmade : (q : PlaceStage) → place.makes_its_object_at q ≡ true → is_made q ≡ false
acts_unmade q e = grind arith

made_after : (p : Placing) (q : PlaceStage) (found : ℕ) → place.makes_its_object_at q ≡ true → is_made (place.goes_at p q found) ≡ true
made_after p q found e = grind arith

-- a step of the making that goes further gives nothing
further_gives : (p : Placing) (q : PlaceStage) (found : ℕ) → place.goes_further_at p.marking q ≡ true → place.given_at (place.goes_at p q found) ≡ None
further_gives p q found e = grind arith

-- ---- its numbers stay in their ranges

-- it begins with the span that is cached for what is sought, and a span that is cached anew is cached
search_caches : (cache : List (Option CachedSpan)) (x : Sought) → cache_with cache x (cached_in cache x) ≡ cache
search_caches cache (Small c) = set-get_or cache (span_index c) None
search_caches cache (Large pages noscan) = refl

caches_on : (cache : List (Option CachedSpan)) (x : Sought) (c : Option CachedSpan) → cache_with (cache_with cache x c) x c ≡ cache_with cache x c
caches_on cache (Small k) c = set_twice cache (span_index k) c c
caches_on cache (Large pages noscan) c = refl

pub search_sound : (l : Layout) → ClassLaws → (shapes : List Shape) (m : Processor) (w : Wanted) → SoundPolling l m.poll → SoundWanted shapes w → SoundSearch l m.poll w (seeking m w)
search_sound l laws shapes m w fits wanted = record { runs = search_opens l laws m.poll w.sought fits wanted.sought; wanted = refl; cached = search_caches m.poll.local.cache w.sought }

-- the laws of what a new object runs
pub record NewLaws : Type 0 where
  pub classes : ClassLaws
  pub searches : (z : Layout) → IsRoutine z (search.listing z)
  pub makes : (z : Layout) → IsRoutine z (place.listing z)
  pub assists : (z : Layout) → IsRoutine z (assist.listing z)

-- the slot that the search has found lies in the arena
found_within : (l : Layout) (s : Seeking) (out : Found) → search_fits.Sound l s → search.given s ≡ Some out → LiesWithin l s.find.wanted out
found_within l s out h e = grind arith

-- its slot is one of few bytes
pub slot_bytes : ClassLaws → (shapes : List Shape) (w : Wanted) → SoundWanted shapes w → 8 * w.slot ≤ 2 ^ 31
slot_bytes laws shapes w wanted = omega (arith, wanted.words, sought_small laws w.sought wanted.sought)

module _ (l : Layout) (k : NewLaws) (shapes : List Shape) where
  -- the cached span has changed, and the task is not looked at
  recached : (m : Processor) (x : Sought) (c : Option CachedSpan) → Sound l shapes m → Sound l shapes (at_task (cache_span m x c) Task.Idle)
  recached m x c s = record { registers = s.registers; few = s.few; task = tt }

  -- once the search has found this
  found_on : (n : Processor) (w : Wanted) (waited : Bool) (out : Found) → n.poll.seat < l.procs → n.poll.local.view.generation < 2 ^ 34 → Sound l shapes (at_task n Task.Idle) → SoundWanted shapes w → LiesWithin l w.sought out → made_by n w.g < most_objects → Sound l shapes (after_found shapes n w waited out)
  found_on n w waited (At a) seat number s wanted within name =
      moved l shapes (at_task n Task.Idle) (makes w (placing shapes n w a)) s
      (wanted, place_opens l n.poll.seat n.poll.local.view.generation w.sought (shape_at shapes w.t) a w.slot (next_of n w) (marking_at n.poll) seat number wanted.sought wanted.slot (subst (λ (slot : ℕ). a + slot ≤ 1024 * l.pages) (sym wanted.words) within) wanted.register.0, λ e. name)
  found_on n w true NoRoom seat number s wanted within name = taken l shapes (at_task n Task.Idle) w.g w.d (Some Value.Nil) Task.Idle s tt tt
  found_on n w false NoRoom seat number s wanted within name = moved l shapes (at_task n Task.Idle) (waits w (wait.opening n.poll)) s (wanted, record { busy = refl; polls = tt }, name)

  search_on : (n : Processor) (w : Wanted) (waited : Bool) (x : Seeking) (out : Option Found) → n.poll.seat < l.procs → n.poll.local.view.generation < 2 ^ 34 → Sound l shapes (at_task n Task.Idle) → SoundWanted shapes w → made_by n w.g < most_objects → search_fits.Sound l x → x.find.wanted ≡ w.sought →
      cache_with n.poll.local.cache w.sought x.find.cached ≡ n.poll.local.cache → search.given x ≡ out → Sound l shapes (after_search shapes n w waited x out)
  search_on n w waited x None seat number s wanted name sound wants cached e = moved l shapes (at_task n Task.Idle) (searches w waited x) s (wanted, record { runs = record { sound = sound; busy = ap is_none e }; wanted = wants; cached = cached }, name)
  search_on n w waited x (Some out) seat number s wanted name sound wants cached e = found_on n w waited out seat number s wanted (subst (λ (v : Sought). LiesWithin l v out) wants (found_within l x out sound e)) name

  -- one object more
  counts : (m : Processor) (g i : ℕ) → Sound l shapes m → made_by m g < most_objects → get_or (set m.made g (made_by m g + 1)) i 0 ≤ most_objects
  counts m g i s few = read_after_set (λ n. n ≤ most_objects) m.made g i (made_by m g + 1) 0 (λ e. omega arith) (s.few i)

  made_sound : (m : Processor) (w : Wanted) (a : ℕ) (t : Task) → Sound l shapes m → a + 1 ≤ 1024 * l.pages → made_by m w.g < most_objects → SoundTask l shapes (set_register m w.g w.d (Value.Ref (a + 1))).poll (set m.made w.g (made_by m w.g + 1)) t → Sound l shapes (at_task (made_object m w a) t)
  made_sound m w a t s near few h =
      let n : Sound l shapes (at_task (set_register m w.g w.d (Value.Ref (a + 1))) Task.Idle) = taken l shapes m w.g w.d (Some (Value.Ref (a + 1))) Task.Idle s near tt in
      record { registers = n.registers; few = λ i. counts m w.g i s few; task = h }

  -- the assist behind it is sound
  then_sound : (p q : Polling) (made : List ℕ) (w : Wanted) (n : Name) → SoundPolling l p → SoundWanted shapes w → (marking : Bool) → SoundTask l shapes q made (cond marking (assists w n (assisting p w)) Task.Idle)
  then_sound p q made w n fits wanted true = (wanted, assist_opens l p w.slot fits (slot_bytes k.classes shapes w wanted), tt)
  then_sound p q made w n fits wanted false = tt

  place_on : (m : Processor) (w : Wanted) (made : Bool) (asks : Option Bool) (a : ℕ) (p : Placing) → Sound l shapes m → SoundPolling l m.poll → SoundWanted shapes w → place_fits.Sound l p → a + 1 ≤ 1024 * l.pages → place.given p ≡ asks → (made ≡ true → made_by m w.g < most_objects) → (made ≡ true → is_made p.stage ≡ true) → (made ≡ false → is_made p.stage ≡ false → made_by m w.g < most_objects) →
      Sound l shapes (at_task (cond made (made_object m w a) m) (made_task m.poll w p asks))
  place_on m w true None a p s fits wanted sound near asks few gone unmade = made_sound m w a (makes w p) s near (few refl) (wanted, record { sound = sound; busy = ap is_none asks }, λ e. absurd (cc (e, gone refl)))
  place_on m w true (Some true) a p s fits wanted sound near asks few gone unmade = made_sound m w a (wants w p.name) s near (few refl) (wanted, tt, tt)
  place_on m w true (Some false) a p s fits wanted sound near asks few gone unmade = made_sound m w a (made_then m.poll w p.name) s near (few refl) (then_sound m.poll (set_register m w.g w.d (Value.Ref (a + 1))).poll (set m.made w.g (made_by m w.g + 1)) w p.name fits wanted (marking_at m.poll))
  place_on m w false None a p s fits wanted sound near asks few gone unmade = moved l shapes m (makes w p) s (wanted, record { sound = sound; busy = ap is_none asks }, unmade refl)
  place_on m w false (Some true) a p s fits wanted sound near asks few gone unmade = moved l shapes m (wants w p.name) s (wanted, tt, tt)
  place_on m w false (Some false) a p s fits wanted sound near asks few gone unmade = moved l shapes m (made_then m.poll w p.name) s (then_sound m.poll m.poll m.made w p.name fits wanted (marking_at m.poll))

  -- after a step of the wait
  wait_on : (m : Processor) (w : Wanted) (x : Waiting) (out : Option (Unit {0})) → Sound l shapes m → SoundWanted shapes w → made_by m w.g < most_objects → x.poll.local.stacks ≡ m.poll.local.stacks → (out ≡ None → SoundWaiting x.poll x.wait) → SoundPolling l x.poll → Sound l shapes (after_wait m w x out)
  wait_on m w x None s wanted name stacks waits_on after = polled l shapes m x.poll (waits w x) s stacks (wanted, waits_on refl, name)
  wait_on m w x (Some y) s wanted name stacks waits_on after = polled l shapes m x.poll (searches w true (seeking (at_poll m x.poll) w)) s stacks (wanted, search_sound l k.classes shapes (at_poll m x.poll) w after wanted, name)

  polls_fit : (m : Processor) (w : Wanted) (x : Waiting) (out : Option (Unit {0})) → SoundPolling l (after_wait m w x out).poll → SoundPolling l x.poll
  polls_fit m w x None fits = fits
  polls_fit m w x (Some y) fits = fits

  -- after a step of the assist
  assist_on : (m : Processor) (w : Wanted) (n : Name) (x : Assisting) (out : Option (Unit {0})) → Sound l shapes m → SoundWanted shapes w → SoundAssisting l x → assist.given x ≡ out → Sound l shapes (after_assist m w n x out)
  assist_on m w n x out s wanted sound e = grind arith

  -- the step at this stage
  pub new_sound : (m : Processor) (w : Wanted) (x : NewStage) (found : ℕ) → found < 2 ^ 64 → SoundPolling l m.poll → ((y : WaitState) → x ≡ Wait y → SoundPolling l (takes_at l shapes m w x found).poll) → Sound l shapes m → SoundTask l shapes m.poll m.made (Task.New (record { wanted = w; stage = x })) → Sound l shapes (takes_at l shapes m w x found)
  new_sound m w (Search waited x) found few fits after s here =
      search_on (cache_span m w.sought (search.goes l x found).find.cached) w waited (search.goes l x found) (search.gives l x found) fits.seat fits.local.view.generation
      (recached m w.sought (search.goes l x found).find.cached s) here.0 here.2 ((k.searches l).keeps x found few here.1.runs.sound here.1.runs.busy) (search_wants l x found ∙ here.1.wanted)
      (caches_on m.poll.local.cache w.sought (search.goes l x found).find.cached) refl
  new_sound m w (Wait x) found few fits after s here =
      wait_on m w (wait.goes l (wait.waiting x m.poll) found) (wait.gives l (wait.waiting x m.poll) found) s here.0 here.2 (wait_stacks l (wait.waiting x m.poll) found) (wait_fits l (wait.waiting x m.poll) found) (polls_fit m w (wait.goes l (wait.waiting x m.poll) found) (wait.gives l (wait.waiting x m.poll) found) (after x refl))
  new_sound m w (Place p) found few fits after s here =
      place_on m w (place.makes_its_object p) (place.gives p found) p.at (place.goes p found) s fits here.0 ((k.makes l).keeps p found few here.1.sound here.1.busy) (omega (arith, here.1.sound.some, here.1.sound.within)) refl
      (λ e. here.2 (acts_unmade p.stage e)) (made_after p p.stage found) (λ e unmade. here.2 (unmade_before p p.stage found unmade))
  new_sound m w (Want n) found few fits after s here = moved l shapes m Task.Idle s tt
  new_sound m w (Assist n x) found few fits after s here =
      assist_on m w n (assist.goes l x found) (assist.gives l x found) s here.0 ((k.assists l).keeps x found few here.1.sound here.1.busy) refl

  pub take_sound : (m : Processor) (n : New) (found : ℕ) (next : Processor) → found < 2 ^ 64 → SoundPolling l m.poll → ((x : WaitState) → n.stage ≡ Wait x → SoundPolling l next.poll) → Sound l shapes m → m.task ≡ Task.New n → next ≡ takes l shapes m found → Sound l shapes next
  take_sound m n found next few fits after s at goes = grind (arith, new_sound)

module _ (l : Layout) (shapes : List Shape) where
  -- Where the making goes further, by a step that does not make the object, nothing else changes.
  pub makes_further : (m : Processor) (w : Wanted) (p q : Placing) (found : ℕ) → Sound l shapes m → m.task ≡ makes w p → place.goes_further p ≡ true → q ≡ place.goes p found → place_fits.Sound l q → Sound l shapes (at_task m (makes w q))
  makes_further m w p q found s at further goes sound =
      let here = subst (λ (t : Task). SoundTask l shapes m.poll m.made t) at s.task in
      let none = ap place.given goes ∙ further_gives p p.stage found further in
      moved l shapes m (makes w q) s (here.0, record { sound = sound; busy = ap is_none none }, λ e. here.2 (unmade_before p p.stage found (ap (λ (x : Placing). is_made x.stage) (sym goes) ∙ e)))

  -- Where the search goes on, the span that it has cached then is cached with the poll.
  pub going_on_sound : ((z : Layout) → IsRoutine z (search.listing z)) → (m : Processor) (w : Wanted) (waited : Bool) (x y : Seeking) (found : ℕ) → found < 2 ^ 64 → Sound l shapes m → m.task ≡ searches w waited x → y ≡ search.goes l x found → search.gives l x found ≡ None → Sound l shapes (at_task (cache_span m w.sought y.find.cached) (searches w waited y))
  going_on_sound q m w waited x y found few s at goes none =
      let here = subst (λ (t : Task). SoundTask l shapes m.poll m.made t) at s.task in
      let sound = (q l).keeps x found few here.1.runs.sound here.1.runs.busy in
      subst (λ (z : Seeking). Sound l shapes (at_task (cache_span m w.sought z.find.cached) (searches w waited z))) (sym goes)
      (record { registers = s.registers; few = s.few; task = (here.0, record { runs = record { sound = sound; busy = ap is_none none }; wanted = search_wants l x found ∙ here.1.wanted; cached = caches_on m.poll.local.cache w.sought (search.goes l x found).find.cached }, here.2) })

  -- Where that is the span that it had cached before, the poll stays.
  pub same_cached : (m : Processor) (w : Wanted) (waited : Bool) (x y : Seeking) → Sound l shapes m → m.task ≡ searches w waited x → y.find.cached ≡ x.find.cached → cache_span m w.sought y.find.cached ≡ m
  same_cached m w waited x y s at same =
      let here = subst (λ (t : Task). SoundTask l shapes m.poll m.made t) at s.task in
      ap (λ (c : List (Option CachedSpan)). at_poll m (record (m.poll) { local = record (m.poll.local) { cache = c } })) (ap (cache_with m.poll.local.cache w.sought) same ∙ here.1.cached)
