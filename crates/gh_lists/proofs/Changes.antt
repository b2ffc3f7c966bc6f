-- The numbers of cycles along a list: each step leaves them, or it is the coordinator's that begins a cycle, ends its marking or tells that it is swept, and one number is one cycle later.
use Rattle.std.proofs.Common.{◌≡◌, suc, ◌+◌, refl, sym, ap, subst, ◌∙◌, arith, List, ◌∷◌}
use Rattle.gh_lists.proofs.Vocabulary.{all_quiet, Ask, At, begins, Cell, Change, Check, Checked, Close, CloseStage, CoordStage, Count, count_quiet, Counted, CycleWords, Done, effect, ends, Entry, IsFew, IsTelling, KeepsIt, Kind, Layout, leaves, leaves_numbers, Legal, LoadAck, LoadWant, MarkOn, numbers_of, Op, Open, Opened, opened_in, OpenStage, own_counts, Part, part_of, Processor, processor_kind, ProcessorWritesItsOwn, Rises, same, Setup, Spares, started, Stop, stop_quiet, StopAgain, Store, Sweep, Tell, tells, TellStage, Watch, watch_quiet, Words, worker_quiet, WorkersWriteTheirOwn}
use Rattle.gh_coord.specs.Closing as close
use Rattle.gh_coord.specs.Handshake as leading
use Rattle.gh_coord.specs.Listing as coord
use Rattle.gh_coord.specs.Opening as opens_by
use Rattle.gh_coord.specs.Telling as tell
use Rattle.gh_worker.specs.Listing as worker
use Rattle.gh_lists.proofs.CycleNumbers.Leading.{Is, Reads}
use Rattle.gh_lists.proofs.CycleNumbers.Lists.{holds}
use Rattle.gh_lists.specs.Steps as seats

spares : (ask : Ask) → ((w : Words) → numbers_of (effect w ask) ≡ numbers_of w) → Spares ask
spares ask h = record { gen = λ w. ap (λ (n : CycleWords). n.gen) (h w); begun = λ w. ap (λ (n : CycleWords). n.begun) (h w); swept = λ w. ap (λ (n : CycleWords). n.swept) (h w) }

-- what the coordinator's step is to the numbers
pub data Does (c : coord.Coordinating) (p : CoordStage) (ask : Ask) : Type 0 where
  spares_them : Spares ask → Does c p ask
  begins_it : part_of p ≡ Opened → ask ≡ Store Cell.Begun c.begun → Does c p ask
  ends_it : part_of p ≡ Checked → (x : close.Closing) → p ≡ Close x → x.stage ≡ CloseStage.StoreGen → ask ≡ Store Cell.Gen c.generation → Does c p ask
  tells_it : part_of p ≡ Counted → IsTelling p → ask ≡ Store Cell.Swept c.begun → Does c p ask

module _ (l : Layout) (c : coord.Coordinating) where
  opening : (o : opens_by.CycleOpening) (p : OpenStage) → o.cycle ≡ c.begun → Does c (Open (record o { stage = p })) (opens_by.asks_at o p)
  opening o p e = grind arith

  closing : (x : close.Closing) (p : CloseStage) → x.generation ≡ c.generation → Does c (Close (record x { stage = p })) (close.asks_at x p)
  closing x CloseStage.LoadBank e = spares_them (record { gen = λ w. refl; begun = λ w. refl; swept = λ w. refl })
  closing x CloseStage.ClearBank e = spares_them (record { gen = λ w. refl; begun = λ w. refl; swept = λ w. refl })
  closing x CloseStage.StoreGen e = ends_it refl (record x { stage = CloseStage.StoreGen }) refl refl (ap (Store Cell.Gen) e)
  closing x CloseStage.StorePhase e = spares_them (record { gen = λ w. refl; begun = λ w. refl; swept = λ w. refl })
  closing x CloseStage.Ended e = spares_them (record { gen = λ w. refl; begun = λ w. refl; swept = λ w. refl })

  telling : (t : tell.Telling) (p : TellStage) → t.cycle ≡ c.begun → Does c (Tell (record t { stage = p })) (tell.asks_at t p)
  telling t p e = grind arith

  does : (p : CoordStage) → leading.SoundAt c p → Reads c p → Does c p (coord.asks_at l c p)
  does (LoadAck i) s r = spares_them (record { gen = λ w. refl; begun = λ w. refl; swept = λ w. refl })
  does LoadWant s r = spares_them (record { gen = λ w. refl; begun = λ w. refl; swept = λ w. refl })
  does (Stop st) s r = spares_them (spares (coord.asks_at l c (Stop st)) (λ w. (stop_quiet w st st.stage).numbers))
  does (Open o) s r = opening o o.stage (ap (λ (x : opens_by.CycleOpening). x.cycle) s.0)
  does (Watch v) s r = spares_them (spares (coord.asks_at l c (Watch v)) (λ w. (watch_quiet w l v.stage).numbers))
  does (StopAgain st) s r = spares_them (spares (coord.asks_at l c (StopAgain st)) (λ w. (stop_quiet w st st.stage).numbers))
  does (Check v) s r = spares_them (spares (coord.asks_at l c (Check v)) (λ w. (watch_quiet w l v.stage).numbers))
  does MarkOn s r = spares_them (record { gen = λ w. refl; begun = λ w. refl; swept = λ w. refl })
  does (Close x) s r = closing x x.stage (ap (λ (y : close.Closing). y.generation) s)
  does (Sweep v) s r = spares_them (spares (coord.asks_at l c (Sweep v)) (λ w. (all_quiet w l v.stage).numbers))
  does (Count x) s r = spares_them (spares (coord.asks_at l c (Count x)) (λ w. (count_quiet w x.stage).numbers))
  does (Tell t) s r = telling t t.stage r
  does Done s r = spares_them (record { gen = λ w. refl; begun = λ w. refl; swept = λ w. refl })

module _ (setup : Setup)
    (writes : ProcessorWritesItsOwn) (works : WorkersWriteTheirOwn)
    (keeps : (es : List (Entry Op)) → Legal (seats.it setup) es → KeepsIt (seats.it setup) es) where
  abbrev k : Kind Processor Op
  k = processor_kind setup.shapes setup.layout

  abbrev words : List (Entry Op) → Words
  words es = seats.words setup es

  pub change : (e : Entry Op) (es : List (Entry Op)) → Legal (seats.it setup) (e ∷ es) → IsFew es → Change setup e es
  change e es legal few = by (seats.step setup e es writes legal (keeps es legal.0)) where
    by_lead : (c : coord.Coordinating) (x : seats.LeadsIt setup e es c) → Is setup.pacing.room (opened_in es) (numbers_of (words es)) c c.stage → Does c c.stage (coord.asks setup.layout c) → Change setup e es
    by_lead c x h (spares_them y) = same (subst Spares (sym x.asked) y)
    by_lead c x h (begins_it part ask) =
        let at = subst (λ (q : Part). At setup.pacing.room (opened_in es) (numbers_of (words es)) (own_counts c) q) part h.at in
        let value : c.begun ≡ suc (words es Cell.Begun) = let a = at.number_is in let b = at.begun_is in omega (arith, a, b) in
        begins (x.asked ∙ ask ∙ ap (Store Cell.Begun) value)
    by_lead c x h (ends_it part close_is stage_is stores ask) =
        let at = subst (λ (q : Part). At setup.pacing.room (opened_in es) (numbers_of (words es)) (own_counts c) q) part h.at in
        let value : c.generation ≡ words es Cell.Gen + 2 = let a = at.generation_is in let b = at.gen_is in omega (arith, a, b) in
        ends (record {
          lead = c;
          led = x.is;
          closing_it = close_is;
          at = stage_is;
          stores = stores;
          actor_is = x.seat;
          ask_is = x.asked ∙ ask ∙ ap (Store Cell.Gen) value;
          number = let a = at.number_is in let b = at.begun_is in omega (arith, a, b);
          gen = let a = at.number_is in let b = at.gen_is in omega (arith, a, b);
        })
    by_lead c x h (tells_it part at_it ask) =
        let at = subst (λ (q : Part). At setup.pacing.room (opened_in es) (numbers_of (words es)) (own_counts c) q) part h.at in
        let value : c.begun ≡ suc (words es Cell.Swept) = let a = at.number_is in omega (arith, a) in
        tells (record { lead = c; led = x.is; telling_it = at_it; actor_is = x.seat; ask_is = x.asked ∙ ask ∙ ap (Store Cell.Swept) value; number = value })

    by : seats.Step setup e es → Change setup e es
    by (seats.by_processor m x s) = same (subst Spares (sym x.asked) (spares (k.asks (started k e.begun m)) (λ w. (leaves w (k.asks (started k e.begun m)) (leaves_numbers writes setup.layout (started k e.begun m) x.sound_then)).numbers)))
    by (seats.by_worker v x s) = same (subst Spares (sym x.asked) (spares (worker.asks setup.layout v) (λ w. (worker_quiet w works setup.layout v x.sound_it x.busy).numbers)))
    by (seats.by_lead c x) =
        let h = holds setup writes works keeps es legal.0 few c x.is in
        by_lead c x h (does setup.layout c c.stage x.sound_it.1 h.reads)

  pub rise : (e : Entry Op) (es : List (Entry Op)) → Legal (seats.it setup) (e ∷ es) → IsFew es → Rises setup e es
  rise e es legal few = by (change e es legal few) where
    by : Change setup e es → Rises setup e es
    by h = grind arith
