-- What the code knows of a task by how it is kept.
use Rattle.std.proofs.Common.{◌≡◌, ℕ, ◌^◌, ◌<◌, Bool, List, None, true, false, sym, ap, subst, ◌∙◌, arith, Option}
use Rattle.gh_mutator.proofs.Vocabulary.{acting, acts_at, answered, applied, as_global, at_poll, at_task, cache_span, CachedSpan, direct, follows, Global, global_of, Held, held_behind, is_made_further, is_making, is_point, IsRoutine, keeping, Layout, makes, New, NewStage, op_in, Place, Placing, Polling, Processor, register_of, Search, searches, Seeking, Shape, Sound, stage_of, Step, step, taking, Task, task_kept, TaskAt, Then, then_global, with_cached}
use Rattle.gh_mutator.specs.declared.global.Direct.{Direct}
use Rattle.gh_mutator.specs.declared.global.DirectStage.{DirectStage}
use Rattle.gh_mutator.specs.declared.task.LargeTask.{LargeTask}
use Rattle.gh_alloc.specs.Place as place
use Rattle.gh_alloc.specs.PlaceSound as place_fits
use Rattle.gh_alloc.specs.Search as search
use Rattle.gh_mutator.proofs.NewSteps.{going_on_sound, makes_further, same_cached}

-- an object is to be made: the large task that is kept is run
kept_new : (a : TaskAt) (k : LargeTask) (n : New) → is_making (task_kept a k) ≡ true → k ≡ LargeTask.New n → task_kept a k ≡ Task.New n
kept_new a k n making is = grind arith

pub new_is : (m : Processor) (a : TaskAt) (k : LargeTask) (n : New) → task_kept a k ≡ m.task → is_making m.task ≡ true → k ≡ LargeTask.New n → m.task ≡ Task.New n
new_is m a k n same making is = sym same ∙ kept_new a k n (ap is_making same ∙ making) is

-- a load or a store of a global without a write barrier leaves what a load or a store of one does
follows_global : (t : Then Direct) → follows direct t ≡ follows Task.Global (then_global t)
follows_global t = grind arith

applied_global : (m : Processor) (g d : ℕ) (s : Step Direct) → applied direct m g d s ≡ applied Task.Global m g d (as_global s)
applied_global m g d s = ap (λ (t : Task). at_task (taking m g d s.sets) t) (follows_global s.then)

pub answered_global : (t : Then Direct) → answered t ≡ answered (then_global t)
answered_global t = grind arith

-- it holds what it held
held_direct : (l : Layout) (held : Option Held) (stage : DirectStage) (found : ℕ) → held_behind l held (stage_of stage) found ≡ held
held_direct l held stage found = grind arith

pub direct_goes : (l : Layout) (m : Processor) (g d found : ℕ) (stage : DirectStage) (s : Step Direct) → applied direct m g d s ≡ applied Task.Global (keeping m (held_behind l m.poll.local.held (stage_of stage) found)) g d (as_global s)
direct_goes l m g d found stage s = applied_global m g d s ∙ ap (λ (h : Option Held). applied Task.Global (keeping m h) g d (as_global s)) (sym (held_direct l m.poll.local.held stage found))

-- the task is this one
pub direct_is : (m : Processor) (a : TaskAt) (k : LargeTask) (x : Direct) → task_kept a k ≡ m.task → a ≡ TaskAt.Direct x → m.task ≡ direct x
direct_is m a k x same is = sym same ∙ ap (λ (b : TaskAt). task_kept b k) is

-- its step is its point where it acts
point_at : (b : Bool) (x : Global) (stage : DirectStage) → is_point (acting b (op_in x (stage_of stage)) false) ≡ b
point_at b x stage = grind arith

pub point_direct : (l : Layout) (m : Processor) (x : Direct) (found : ℕ) → is_point (acts_at l m (direct x) found) ≡ (step l (register_of m x.g x.r) (global_of x) found).acts
point_direct l m x found = point_at (step l (register_of m x.g x.r) (global_of x) found).acts (global_of x) x.stage

-- The search that it runs, as it is kept, and where it has gone on.
module _ (l : Layout) (shapes : List Shape) (m : Processor) (a : TaskAt) (n : New) (waited : Bool) (x : Seeking) (s : Sound l shapes m) (large_at : a ≡ TaskAt.Large) (task_is : m.task ≡ task_kept a (LargeTask.New n)) (is : n.stage ≡ Search waited x) where
  on : m.task ≡ searches n.wanted waited x
  on = task_is ∙ ap (λ (b : TaskAt). task_kept b (LargeTask.New n)) large_at ∙ ap (λ (k : NewStage). Task.New (record { wanted = n.wanted; stage = k })) is

  abbrev kept_at : Processor → TaskAt → Seeking → Processor
  kept_at p b y = at_task p (task_kept b (LargeTask.New (record { wanted = n.wanted; stage = Search waited y })))

  module _ (q : (z : Layout) → IsRoutine z (search.listing z)) (y : Seeking) (found : ℕ) (few : found < 2 ^ 64) (goes : y ≡ search.goes l x found) (none : search.gives l x found ≡ None) where
    -- the span that it has cached then is cached with the poll
    cached_sound : Sound l shapes (kept_at (cache_span m n.wanted.sought y.find.cached) a y)
    cached_sound = subst (λ (b : TaskAt). Sound l shapes (kept_at (cache_span m n.wanted.sought y.find.cached) b y)) (sym large_at) (going_on_sound l shapes q m n.wanted waited x y found few s on goes none)

    pub caches_sound : (cached : Option CachedSpan) (p : Polling) → cached ≡ y.find.cached → p ≡ with_cached m.poll n.wanted.sought cached → Sound l shapes (kept_at (at_poll m p) a y)
    caches_sound cached p is_cached caches = subst (λ (b : Polling). Sound l shapes (kept_at (at_poll m b) a y)) (sym (caches ∙ ap (with_cached m.poll n.wanted.sought) is_cached)) cached_sound

    -- it is the one that it had cached before, and the poll stays
    pub kept_sound : y.find.cached ≡ x.find.cached → Sound l shapes (kept_at m a y)
    kept_sound same = subst (λ (p : Processor). Sound l shapes (kept_at p a y)) (same_cached l shapes m n.wanted waited x y s on same) cached_sound

  -- it has not gone on
  pub stays_sound : (y : Seeking) → y ≡ x → Sound l shapes (kept_at m a y)
  stays_sound y same =
      subst (λ (z : Seeking). Sound l shapes (kept_at m a z)) (sym same)
      (subst (λ (b : TaskAt). Sound l shapes (kept_at m b x)) (sym large_at) (subst (λ (t : Task). Sound l shapes (at_task m t)) on s))

-- The making of an object that it runs, as it is kept, by a step that goes further.
further_new : (t : Task) → is_made_further t ≡ true → is_making t ≡ true
further_new t e = grind arith

kept_large : (a : TaskAt) (n : New) → is_making (task_kept a (LargeTask.New n)) ≡ true → a ≡ TaskAt.Large
kept_large a n making = grind arith

module _ (l : Layout) (shapes : List Shape) (m : Processor) (a : TaskAt) (n : New) (p : Placing) (further : is_made_further m.task ≡ true) (task_is : m.task ≡ task_kept a (LargeTask.New n)) (is : n.stage ≡ Place p) where
  at_large : a ≡ TaskAt.Large
  at_large = kept_large a n (further_new (task_kept a (LargeTask.New n)) (ap is_made_further (sym task_is) ∙ further))

  makes_at : m.task ≡ makes n.wanted p
  makes_at = task_is ∙ ap (λ (b : TaskAt). task_kept b (LargeTask.New n)) at_large ∙ ap (λ (k : NewStage). Task.New (record { wanted = n.wanted; stage = k })) is

  pub makes_kept : (q : Placing) (found : ℕ) → q ≡ place.goes p found → place_fits.Sound l q → Sound l shapes m → Sound l shapes (at_task m (task_kept a (LargeTask.New (record { wanted = n.wanted; stage = Place q }))))
  makes_kept q found goes sound s =
      subst (λ (b : TaskAt). Sound l shapes (at_task m (task_kept b (LargeTask.New (record { wanted = n.wanted; stage = Place q }))))) (sym at_large)
      (makes_further l shapes m n.wanted p q found s makes_at (sym (ap is_made_further makes_at) ∙ further) goes sound)
