-- An assist runs while marking is on alone, and is sound: by the tasks of a processor.
use Rattle.std.proofs.Common.{◌≡◌, ℕ, Bool, List, Option, arith}
use Rattle.gh_mutator_writes.proofs.Vocabulary.{after_assist, after_gc, after_leave, after_poll, after_search, after_wait, Assist, Assisting, AssistsPay, follows, Found, Layout, Leaving, Name, NewStage, Op, Placing, Polling, Processor, processor_kind, Seeking, Shape, SoundAssist, SoundAssistAt, takes_at, Task, Then, Waiting, Wanted}
use Rattle.gh_mutator.specs.New as new

abbrev IsSoundAt : Processor → Type 0
IsSoundAt m = SoundAssist m.poll m.task

pub assist_begins : (shapes : List Shape) (z : Layout) (m : Processor) (o : Op) → SoundAssist m.poll m.task → IsSoundAt ((processor_kind shapes z).begins m o)
assist_begins shapes z m o s = grind arith

-- nor behind a step of anything but a new object
into_sound : {S : Type 0} (into : S → Task) (p : Polling) (then : Then S) → ((y : S) → SoundAssist p (into y)) → SoundAssist p (follows into then)
into_sound into p then sound = grind arith

gc_sound : (m : Processor) (g : ℕ) (w : Waiting) (out : Option (Unit {0})) → IsSoundAt (after_gc m g w out)
gc_sound m g w out = grind arith

poll_sound : (m : Processor) (p : Polling) (out : Option (Unit {0})) → IsSoundAt (after_poll m p out)
poll_sound m p out = grind arith

leave_sound : (m : Processor) (x : Leaving) (out : Option (Unit {0})) → IsSoundAt (after_leave m x out)
leave_sound m x out = grind arith

search_sound : (shapes : List Shape) (m : Processor) (w : Wanted) (waited : Bool) (s : Seeking) (out : Option Found) → IsSoundAt (after_search shapes m w waited s out)
search_sound shapes m w waited s out = grind arith

wait_sound : (m : Processor) (w : Wanted) (x : Waiting) (out : Option (Unit {0})) → IsSoundAt (after_wait m w x out)
wait_sound m w x out = grind arith

module _ (l : Layout) (pay : AssistsPay) where
  place_sound : (m : Processor) (w : Wanted) (made : Bool) (a : ℕ) (x : Placing) → IsSoundAt (new.after_place m w made a x)
  place_sound m w made a x = grind arith

  -- and by each step of its own
  assist_sound : (m : Processor) (w : Wanted) (n : Name) (x : Assisting) (out : Option (Unit {0})) → SoundAssistAt m.poll (Assist n x) → IsSoundAt (after_assist m w n x out)
  assist_sound m w n x out s = grind arith

  module _ (shapes : List Shape) (m : Processor) (found : ℕ) where
    new_sound : (w : Wanted) (q : NewStage) → SoundAssistAt m.poll q → IsSoundAt (new.takes_at l shapes m w q found)
    new_sound w q s = grind (arith, assist_sound, place_sound, search_sound, wait_sound)

    pub assist_takes : (t : Task) → t ≡ m.task → SoundAssist m.poll t → IsSoundAt (takes_at l shapes m t found)
    assist_takes t is s = grind (arith, gc_sound, into_sound, leave_sound, new_sound, poll_sound)
