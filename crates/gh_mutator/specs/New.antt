-- A new object: the search for its slot, the wait for a cycle where there is none, the search once more, the making of the object in its slot, and behind that the request for a cycle where the heap then reaches the trigger, or the assist while marking is on. Its steps change what the processor alone knows and the number of objects too, so they are steps of the processor.
use Rattle.std.specs.Prelude.{ℕ, ◌+◌, ◌*◌, ◌/◌, Bool, true, false, if◌then◌else◌, List, slice_set, Option, Some, None}
use Rattle.gh_mutator.specs.Vocabulary.{Answer, Ask, Assist, Assisting, At, Cell, Found, Large, Layout, marking_at, Name, NewStage, NoRoom, Op, Place, PlaceStage, Placing, Polling, Search, Seeking, Shape, shape_at, size_class_of, SizeClass, slot_words, Small, Sought, Task, Value, Wait, Waiting, Want, Wanted, with_payment}
use Rattle.gh_mutator.specs.Processing.{Processor}
use Rattle.gh_assist.specs.Listing as assist
use Rattle.gh_base.specs.declared.pack.SpanHead.{SpanHead}
use Rattle.gh_alloc.specs.Place as place
use Rattle.gh_alloc.specs.Search as search
use Rattle.gh_mutator.specs.Processor.{at_poll, at_task, cache_span, cached_for, made_by, set_register}
use Rattle.gh_poll.specs.Wait as wait

abbrev pub op_of : Wanted → Op
op_of w = Op.New w.g w.d w.t

-- What is wanted.

-- what is sought for an object of a size class, whose slot has so many words
abbrev pub sought_by : SizeClass → (noscan : Bool) → (slot : ℕ) → Sought
sought_by (SizeClass.Small c) noscan slot = Small (record { class = c; noscan = noscan })
sought_by SizeClass.Large noscan slot = Large (slot / 1024) noscan

-- what is sought for an object of such a shape: a slot of its span class, or pages of its own
abbrev pub sought_for : Shape → Sought
sought_for shape = sought_by (size_class_of shape.words) shape.noscan (slot_words shape.words)

-- an object of type t for register d of goroutine g
abbrev pub wanted_of : List Shape → (g d t : ℕ) → Wanted
wanted_of shapes g d t = record { g = g; d = d; t = t; slot = slot_words (shape_at shapes t).words; sought = sought_for (shape_at shapes t) }

-- the name of the object that is being made
abbrev pub next_of : Processor → Wanted → Name
next_of m w = record { g = w.g; k = made_by m w.g }

-- what the first page of a large object's span says while it is being made
abbrev pub own_span : (seat generation : ℕ) → Sought → Option SpanHead
own_span seat generation (Small c) = None
own_span seat generation (Large pages noscan) = Some (record { class = SizeClass.Large; noscan = noscan; pages = pages; owner = seat + 1; number = generation })

-- the search for the slot
abbrev pub seeking : Processor → Wanted → Seeking
seeking m w = search.opening m.poll.seat m.poll.local.view.generation w.sought (cached_for m w.sought)

-- the making of the object in the slot at heap word a; while marking is on it is marked
abbrev pub placing : List Shape → Processor → Wanted → (a : ℕ) → Placing
placing shapes m w a = place.opening (shape_at shapes w.t) a w.slot (next_of m w) (own_span m.poll.seat m.poll.local.view.generation w.sought) (marking_at m.poll)

-- the object is made
abbrev pub is_made : PlaceStage → Bool
is_made (PlaceStage.Give g) = true
is_made PlaceStage.Count = true
is_made (PlaceStage.LoadTrigger bytes) = true
is_made (PlaceStage.Ended wants) = true
is_made _ = false

-- the search for this object, the wait between two searches, the making of it, and the request for a cycle behind that
abbrev pub searches : Wanted → (waited : Bool) → Seeking → Task
searches w waited s = Task.New (record { wanted = w; stage = Search waited s })

abbrev pub waits : Wanted → Waiting → Task
waits w x = Task.New (record { wanted = w; stage = Wait x.wait })

abbrev pub makes : Wanted → Placing → Task
makes w p = Task.New (record { wanted = w; stage = Place p })

abbrev pub wants : Wanted → Name → Task
wants w n = Task.New (record { wanted = w; stage = Want n })

abbrev pub assists : Wanted → Name → Assisting → Task
assists w n x = Task.New (record { wanted = w; stage = Assist n x })

-- the assist for the bytes of the object's slot, with the buffer that is held
abbrev pub assisting : Polling → Wanted → Assisting
assisting p w = assist.opening p.seat p.local.held (8 * w.slot) p.local.owed p.local.spent

-- The steps.

abbrev pub asks_at : Layout → Processor → NewStage → Ask
asks_at l m (Search waited s) = search.asks l s
asks_at l m (Wait x) = wait.asks (wait.waiting x m.poll)
asks_at l m (Place p) = place.asks l p
asks_at l m (Want n) = Ask.Or Cell.Want 1
asks_at l m (Assist n x) = assist.asks l x

abbrev pub searches_at : NewStage → Bool
searches_at (Search waited s) = true
searches_at _ = false

-- by the word found the search goes on in the cached span or in another, or to a further page
abbrev pub goes_further_at : Layout → NewStage → (found : ℕ) → Bool
goes_further_at l (Search waited s) found = search.goes_further_at l s.find s.stage found
goes_further_at l _ found = false

-- the object is being made, and the next step neither gives a span back nor is the last
abbrev pub is_made_further_at : NewStage → Bool
is_made_further_at (Place p) = place.goes_further p
is_made_further_at _ = false

-- the search has ended, and has found this: the object is made there; where there is no room, a cycle is waited for, and behind that the register is nil
abbrev pub after_found : List Shape → Processor → Wanted → (waited : Bool) → Found → Processor
after_found shapes m w waited (At a) = at_task m (makes w (placing shapes m w a))
after_found shapes m w true NoRoom = at_task (set_register m w.g w.d Value.Nil) Task.Idle
after_found shapes m w false NoRoom = at_task m (waits w (wait.opening m.poll))

-- after a step of the search, which is then s and has found this, if it has ended
abbrev pub after_search : List Shape → Processor → Wanted → (waited : Bool) → Seeking → Option Found → Processor
after_search shapes m w waited s None = at_task m (searches w waited s)
after_search shapes m w waited s (Some out) = after_found shapes m w waited out

-- after a step of the wait, which is then x, and has ended or not: once it has, the slot is searched for once more
abbrev pub after_wait : Processor → Wanted → Waiting → Option (Unit {0}) → Processor
after_wait m w x None = at_task (at_poll m x.poll) (waits w x)
after_wait m w x (Some y) = at_task (at_poll m x.poll) (searches w true (seeking (at_poll m x.poll) w))

-- the object is there: it is counted, and the register names it
abbrev pub made_object : Processor → Wanted → (a : ℕ) → Processor
made_object m w a = set_register (record m { made = slice_set m.made w.g (made_by m w.g + 1) }) w.g w.d (Value.Ref (a + 1))

-- the task once it is made and no cycle is asked for: while marking is on, as the processor knows, it assists
abbrev pub made_then : Polling → Wanted → Name → Task
made_then p w n = if marking_at p then assists w n (assisting p w) else Task.Idle

-- the task behind a step of the making, which is then x, and is over where it says whether a cycle is to be asked for
abbrev pub made_task : Polling → Wanted → Placing → (asks : Option Bool) → Task
made_task p w x None = makes w x
made_task p w x (Some true) = wants w x.name
made_task p w x (Some false) = made_then p w x.name

-- after that step, by which the object at heap word a is made or not
abbrev pub after_place : Processor → Wanted → (made : Bool) → (a : ℕ) → Placing → Processor
after_place m w made a p = at_task (if made then made_object m w a else m) (made_task m.poll w p (place.given p))

-- after a step of the assist, which is then x, and has ended or not
abbrev pub after_assist : Processor → Wanted → Name → Assisting → Option (Unit {0}) → Processor
after_assist m w n x None = at_task m (assists w n x)
after_assist m w n x (Some y) = at_task (at_poll m (with_payment m.poll x)) Task.Idle

-- the processor after the step; the cached span is what the search says
abbrev pub takes_at : Layout → List Shape → Processor → Wanted → NewStage → (found : ℕ) → Processor
takes_at l shapes m w (Search waited s) found = after_search shapes (cache_span m w.sought (search.goes l s found).find.cached) w waited (search.goes l s found) (search.gives l s found)
takes_at l shapes m w (Wait x) found = after_wait m w (wait.goes l (wait.waiting x m.poll) found) (wait.gives l (wait.waiting x m.poll) found)
takes_at l shapes m w (Place p) found = after_place m w (place.makes_its_object p) p.at (place.goes p found)
takes_at l shapes m w (Want n) found = at_task m Task.Idle
takes_at l shapes m w (Assist n x) found = after_assist m w n (assist.goes l x found) (assist.gives l x found)

-- the search behind the wait has found no room
abbrev pub refuses_behind_wait : (waited : Bool) → Option Found → Bool
refuses_behind_wait true (Some NoRoom) = true
refuses_behind_wait _ _ = false

-- what the statement is answered, if it ends with the step
abbrev pub answer_found : (waited : Bool) → Found → Option Answer
answer_found waited (At a) = None
answer_found true NoRoom = Some Answer.Full
answer_found false NoRoom = None

abbrev pub answer_search : (waited : Bool) → Option Found → Option Answer
answer_search waited None = None
answer_search waited (Some out) = answer_found waited out

abbrev pub answer_made : (marking : Bool) → Name → (asks : Option Bool) → Option Answer
answer_made marking n (Some false) = if marking then None else Some (Answer.Ref n)
answer_made marking n _ = None

abbrev pub answer_assist : Name → Option (Unit {0}) → Option Answer
answer_assist n None = None
answer_assist n (Some y) = Some (Answer.Ref n)

abbrev pub gives_at : Layout → (marking : Bool) → NewStage → (found : ℕ) → Option Answer
gives_at l marking (Search waited s) found = answer_search waited (search.gives l s found)
gives_at l marking (Wait x) found = None
gives_at l marking (Place p) found = answer_made marking p.name (place.gives p found)
gives_at l marking (Want n) found = Some (Answer.Ref n)
gives_at l marking (Assist n x) found = answer_assist n (assist.gives l x found)

-- the statement acts by the step, and whether it then found no room
abbrev pub acts_at : Layout → NewStage → (found : ℕ) → Bool
acts_at l (Search waited s) found = refuses_behind_wait waited (search.gives l s found)
acts_at l (Wait x) found = false
acts_at l (Place p) found = place.makes_its_object p
acts_at l (Want n) found = false
acts_at l (Assist n x) found = false

abbrev pub is_full_at : NewStage → Bool
is_full_at (Place p) = false
is_full_at (Want n) = false
is_full_at (Assist n x) = false
is_full_at _ = true

-- the operation, until it has acted
abbrev pub unacted : Wanted → NewStage → Option Op
unacted w (Place p) = if is_made p.stage then None else Some (op_of w)
unacted w (Want n) = None
unacted w (Assist n x) = None
unacted w _ = Some (op_of w)
