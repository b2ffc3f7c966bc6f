-- Which words a whole processor writes, and what its step leaves: by its tasks.
use Rattle.std.proofs.Common.{◌≡◌, ℕ, List, refl, inl, arith}
use Rattle.gh_mutator_writes.proofs.Vocabulary.{asks, AssistsAreQuiet, IsWanting, IsWritten, Layout, LeaveStage, Leaving, MarkStackStage, NewStage, Polling, PollsSoundAt, PollStage, Processor, register_of, ResumeStage, ScansItsOwn, SoundAt, SoundNewAt, SoundScanAt, Task, Waiting, WaitsSoundAt, WaitStage, WaitState, Wanted, WritesOf}
use Rattle.gh_phase.specs.Listing as resume
use Rattle.gh_poll.specs.Give as give
use Rattle.gh_poll.specs.Leave as leave
use Rattle.gh_poll.specs.MarkStack as mark
use Rattle.gh_mutator.specs.New as new
use Rattle.gh_poll.specs.Poll as poll
use Rattle.gh_poll.specs.Wait as wait
use Rattle.gh_mutator_writes.proofs.Writing.Routines.{gives_write, global_writes, load_writes, store_writes}
use Rattle.gh_mutator_writes.proofs.Writing.Rows.{buffer_writes, OfHeap, OfMarking, room_writes}

heap_written : (l : Layout) (m : Processor) → OfHeap (IsWritten l m)
heap_written l m = record { lock = tt; page = λ i. tt; alloc = λ i. tt; bitmap = λ i. tt; birth = λ i. tt; field = λ i. tt; global = λ i. tt }

marking_written : (l : Layout) (m : Processor) → OfMarking (IsWritten l m)
marking_written l m = record { mark = λ i. tt; buffer = λ i. tt; entry = λ i j. tt }

gives_written : (l : Layout) (m : Processor) (g : give.Giving) → WritesOf (IsWritten l m) (give.asks g)
gives_written l m g = gives_write (IsWritten l m) (heap_written l m) g g.stage (λ b e. buffer_writes (IsWritten l m) (marking_written l m) b b.stage)

-- The processor polls.
module _ (l : Layout) (m : Processor) (is : asks l m ≡ poll.asks m.poll) where
  resume_writes : (r : resume.Resuming) (q : ResumeStage) → r.seat ≡ m.poll.seat → WritesOf (IsWritten l m) (resume.asks_at r q)
  resume_writes r q own = grind arith

  module _ (g : ℕ) (n : mark.StackMarking) (at : m.poll.stage ≡ PollStage.Marking g n) (s : ScansItsOwn l m.poll g n) where
    mark_writes : (q : MarkStackStage) → n.stage ≡ q → WritesOf (IsWritten l m) (mark.asks_at n q)
    mark_writes q e = grind arith

  polls_write : (q : PollStage) → m.poll.stage ≡ q → PollsSoundAt m.poll q → SoundScanAt l m.poll q → WritesOf (IsWritten l m) (poll.asks_at q)
  polls_write PollStage.LoadPhase at sound scan = tt
  polls_write (PollStage.Giving g stops) at sound scan = gives_written l m g
  polls_write (PollStage.Resuming r) at sound scan = resume_writes r r.stage sound.seat_is
  polls_write (PollStage.Marking g n) at sound scan = mark_writes g n at scan n.stage refl
  polls_write (PollStage.FindRoom r) at sound scan = room_writes (IsWritten l m) (marking_written l m) r
  polls_write PollStage.Ended at sound scan = tt

-- it waits
module _ (l : Layout) (m : Processor) (x : WaitState) (is : asks l m ≡ wait.asks (wait.waiting x m.poll)) (begins : x.stage ≡ WaitStage.Want → IsWanting m.task) (scan : SoundScanAt l m.poll m.poll.stage) where
  abbrev waits : Waiting
  waits = wait.waiting x m.poll

  wait_writes : (q : WaitStage) → x.stage ≡ q → WaitsSoundAt waits q → WritesOf (IsWritten l m) (wait.asks_at waits q)
  wait_writes q at sound = grind (arith, polls_write)

-- By its tasks.
abbrev pub running : Polling → List ℕ → Task → Processor
running p made t = record { poll = p; made = made; task = t }

module _ (l : Layout) (k : AssistsAreQuiet) (p : Polling) (made : List ℕ) (scan : SoundScanAt l p p.stage) where
  new_writes : (w : Wanted) (q : NewStage) → SoundNewAt p q → WritesOf (IsWritten l (running p made (Task.New (record { wanted = w; stage = q })))) (new.asks_at l (running p made (Task.New (record { wanted = w; stage = q }))) q)
  new_writes w q sound = grind arith

  leave_writes : (x : Leaving) (q : LeaveStage) → x.seat ≡ p.seat → WritesOf (IsWritten l (running p made (Task.Leave x))) (leave.asks_at x q)
  leave_writes x q own = grind arith

  pub writes_at : (t : Task) → SoundAt p t → WritesOf (IsWritten l (running p made t)) (asks l (running p made t))
  writes_at Task.Idle sound = tt
  writes_at Task.Left sound = tt
  writes_at (Task.Load x) sound = load_writes (IsWritten l (running p made (Task.Load x))) (heap_written l (running p made (Task.Load x))) l x
  writes_at (Task.Store x) sound = let m : Processor = running p made (Task.Store x) in store_writes (IsWritten l m) (heap_written l m) l (register_of m x.g x.v) x (λ w e. marking_written l m)
  writes_at (Task.Global x) sound = let m : Processor = running p made (Task.Global x) in global_writes (IsWritten l m) (heap_written l m) l (register_of m x.g x.r) x (λ w e. marking_written l m)
  writes_at (Task.Register x) sound = tt
  writes_at (Task.New x) sound = new_writes x.wanted x.stage sound
  writes_at (Task.Gc g x) sound = wait_writes l (running p made (Task.Gc g x)) x refl (λ e. inl e) scan x.stage refl sound.0.1
  writes_at Task.Poll sound = polls_write l (running p made Task.Poll) refl p.stage refl sound.sound.1 scan
  writes_at (Task.End g) sound = inl (record { task_is = refl; tells = refl })
  writes_at (Task.Leave x) sound = leave_writes x x.stage sound.seat_is
