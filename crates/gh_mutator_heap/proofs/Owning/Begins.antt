-- Where an operation begins, what is known of the processor is what its first stage says.
use Rattle.std.proofs.Common.{◌≡◌, ℕ, ◌-◌, ◌<◌, Bool, true, false, cond, None, refl, sym, ap, subst, arith}
use Rattle.gh_mutator_heap.proofs.Vocabulary.{Arena, Begins, begins, EverValue, GlobalFacts, GlobalStage, Good, GoroutineRuns, is_busy_at, is_mark, is_number, is_number_value, IsPlain, LoadFacts, MayBegin, Means, Name, names, Op, PointerCell, Polling, Processor, ProcessorFacts, register_of, REGISTERS, ShapesAreGood, StoreFacts, Task, Through, Value, View, wanted_of, written}
use Rattle.gh_mutator.specs.Global as global
use Rattle.gh_mutator.specs.Load as load
use Rattle.gh_mutator.specs.Serving.{has_left_at}
use Rattle.gh_mutator.specs.Store as store
use Rattle.gh_mutator_heap.proofs.Owning.Barrier.{begins_so, names_fit}
use Rattle.gh_mutator_heap.proofs.Owning.Known.{Known}
use Rattle.gh_mutator_heap.proofs.Owning.Objects.{register_reached}
use Rattle.gh_mutator_heap.proofs.Owning.Searching.{seek-begins}
use Rattle.gh_mutator_heap.proofs.Owning.Steady.{goroutine_few, HasCached, Steady}

module _ (z : Arena) (a : ℕ) (v : View) where
  plain : (g b : ℕ) (x : EverValue) → v.ever.register g b ≡ x → IsPlain x → IsPlain (v.ever.register g b)
  plain g b x is p = subst (λ (w : EverValue). IsPlain w) (sym is) p

  through : (g b : ℕ) (n : Name) (w : ℕ) → GoroutineRuns z v a g → b < REGISTERS → v.ever.register g b ≡ EverValue.Ref n → Means v.place v.ever.made (EverValue.Ref n) (Value.Ref w) → Through z a v g b (w - 1) n
  through g b n w r low is h = record { runs = r; register = low; names = ap names is; made = h.1; here = let at = h.0 in omega (arith, at) }

  begin_load : (g d b k : ℕ) (x : EverValue) (y : Value) → GoroutineRuns z v a g → d < REGISTERS → b < REGISTERS → v.ever.register g b ≡ x → Means v.place v.ever.made x y → LoadFacts z a v (load.begins g d b k y) None (load.begins g d b k y).stage
  begin_load g d b k EverValue.Nil Value.Nil r ld lb is h = (r, lb, plain g b EverValue.Nil is tt, refl)
  begin_load g d b k (EverValue.Int i) (Value.Int j) r ld lb is h = (r, lb, plain g b (EverValue.Int i) is tt, refl)
  begin_load g d b k (EverValue.Ref n) (Value.Ref w) r ld lb is h = record { n = n; through = through g b n w r lb is h; register = ld; unanswered = refl }
  begin_load g d b k EverValue.Nil (Value.Int j) r ld lb is h = absurd h
  begin_load g d b k EverValue.Nil (Value.Ref w) r ld lb is h = absurd h
  begin_load g d b k (EverValue.Int i) Value.Nil r ld lb is h = absurd h
  begin_load g d b k (EverValue.Int i) (Value.Ref w) r ld lb is h = absurd h
  begin_load g d b k (EverValue.Ref n) Value.Nil r ld lb is h = absurd h
  begin_load g d b k (EverValue.Ref n) (Value.Int j) r ld lb is h = absurd h

  begin_store : (p : Polling) (g b k u : ℕ) (x : EverValue) (y : Value) → GoroutineRuns z v a g → b < REGISTERS → u < REGISTERS → v.ever.register g b ≡ x → Means v.place v.ever.made x y → StoreFacts z a v p (store.begins g b k u y) None (store.begins g b k u y).stage
  begin_store p g b k u EverValue.Nil Value.Nil r lb lu is h = (r, lb, plain g b EverValue.Nil is tt, refl)
  begin_store p g b k u (EverValue.Int i) (Value.Int j) r lb lu is h = (r, lb, plain g b (EverValue.Int i) is tt, refl)
  begin_store p g b k u (EverValue.Ref n) (Value.Ref w) r lb lu is h = record { n = n; through = through g b n w r lb is h; register = lu; unanswered = refl }
  begin_store p g b k u EverValue.Nil (Value.Int j) r lb lu is h = absurd h
  begin_store p g b k u EverValue.Nil (Value.Ref w) r lb lu is h = absurd h
  begin_store p g b k u (EverValue.Int i) Value.Nil r lb lu is h = absurd h
  begin_store p g b k u (EverValue.Int i) (Value.Ref w) r lb lu is h = absurd h
  begin_store p g b k u (EverValue.Ref n) Value.Nil r lb lu is h = absurd h
  begin_store p g b k u (EverValue.Ref n) (Value.Int j) r lb lu is h = absurd h

  module _ (laws : Known) (good : Good z v) (m : Processor) (g k u : ℕ) (st : Steady z a v m) (runs : GoroutineRuns z v a g) (low : u < REGISTERS) (there : k < z.layout.globals) where
    abbrev held : Value
    held = register_of m g u

    abbrev means : EverValue → Value → Type 0
    means x y = Means v.place v.ever.made x y

    -- it is written behind the barrier while marking is on
    stores_so : is_number (v.ever.register g u) ≡ false → is_number_value held ≡ false → (b : Bool) →
        GlobalFacts z a v m.poll (record { g = g; r = u; k = k; stage = cond b (GlobalStage.Writing (written m.poll.local (PointerCell.Global k) held)) GlobalStage.Store }) None (cond b (GlobalStage.Writing (written m.poll.local (PointerCell.Global k) held)) GlobalStage.Store)
    stores_so number plain true =
        let fits = names_fit laws z v good (v.ever.register g u) held (register_reached v.ever g u runs.goes_on (v.ever.register g u) refl) (st.1.stands.registers g u runs.of low) in
        let begun = begins_so laws z.layout m.poll.local (PointerCell.Global k) held there fits st.1.stands.sits.held plain in
        (runs, low, there, number, begun, refl)
    stores_so number plain false = (runs, low, there, number, refl)

    begin_global : (x : EverValue) (y : Value) → held ≡ y → v.ever.register g u ≡ x → means x y → GlobalFacts z a v m.poll (global.begins_store m.poll.local g k u y) None (global.begins_store m.poll.local g k u y).stage
    begin_global EverValue.Nil Value.Nil e is h = subst (λ (y : Value). GlobalFacts z a v m.poll (record { g = g; r = u; k = k; stage = global.stores m.poll.local k y }) None (global.stores m.poll.local k y)) e (stores_so (ap is_number is) (ap is_number_value e) (is_mark m.poll.local.view.phase))
    begin_global (EverValue.Int n) (Value.Int w) e is h = (runs, ap is_number is, refl)
    begin_global (EverValue.Ref n) (Value.Ref w) e is h = subst (λ (y : Value). GlobalFacts z a v m.poll (record { g = g; r = u; k = k; stage = global.stores m.poll.local k y }) None (global.stores m.poll.local k y)) e (stores_so (ap is_number is) (ap is_number_value e) (is_mark m.poll.local.view.phase))
    begin_global EverValue.Nil (Value.Int w) e is h = absurd h
    begin_global EverValue.Nil (Value.Ref w) e is h = absurd h
    begin_global (EverValue.Int n) Value.Nil e is h = absurd h
    begin_global (EverValue.Int n) (Value.Ref w) e is h = absurd h
    begin_global (EverValue.Ref n) Value.Nil e is h = absurd h
    begin_global (EverValue.Ref n) (Value.Int w) e is h = absurd h

-- from rest
begins_idle : Known → (z : Arena) (a : ℕ) (v : View) (m : Processor) (o : Op) → Good z v → ShapesAreGood z.shapes → Steady z a v m → HasCached a v m → MayBegin z a v o → ProcessorFacts z a v (begins z.shapes m o) None
begins_idle k z a v m (Op.New g d t) good sg st right may =
    let sound = k.wants.sound z.shapes g d t sg.fit may.2 (goroutine_few z a g may.0.of, may.1) in
    seek-begins k z a v m (wanted_of z.shapes g d t) false sound.sought (record { runs = may.0; register = may.1; type = may.2; few = may.3; is = refl }) st right
begins_idle k z a v m (Op.Load g d b i) good sg st right may = record { counts = st.0; knows = st.1; right = right; task = begin_load z a v g d b i (v.ever.register g b) (register_of m g b) may.0 may.1 may.2 refl (st.1.stands.registers g b may.0.of may.2) }
begins_idle k z a v m (Op.Store g b i u) good sg st right may = record { counts = st.0; knows = st.1; right = right; task = begin_store z a v m.poll g b i u (v.ever.register g b) (register_of m g b) may.0 may.1 may.2 refl (st.1.stands.registers g b may.0.of may.1) }
begins_idle k z a v m (Op.GetGlobal g d i) good sg st right may = record { counts = st.0; knows = st.1; right = right; task = (may.0, may.1, may.2, refl) }
begins_idle k z a v m (Op.SetGlobal g i u) good sg st right may = record { counts = st.0; knows = st.1; right = right; task = begin_global z a v k good m g i u st may.0 may.1 may.2 (v.ever.register g u) (register_of m g u) refl refl (st.1.stands.registers g u may.0.of may.1) }
begins_idle k z a v m (Op.Int g d n) good sg st right may = record { counts = st.0; knows = st.1; right = right; task = (may.0, may.1, refl) }
begins_idle k z a v m (Op.Move g d r) good sg st right may = record { counts = st.0; knows = st.1; right = right; task = (may.0, may.1, may.2, refl) }
begins_idle k z a v m (Op.Nil g d) good sg st right may = record { counts = st.0; knows = st.1; right = right; task = (may.0, may.1, refl) }
begins_idle k z a v m (Op.Gc g) good sg st right may = let w = k.waits.begins z a v m.poll (right, st.1) in record { counts = st.0; knows = w.1; right = w.0; task = refl }
begins_idle k z a v m Op.Poll good sg st right may = let p = k.polls.begins z a v m.poll false (right, st.1) in record { counts = st.0; knows = p.1; right = p.0; task = refl }
begins_idle k z a v m (Op.End g) good sg st right may = record { counts = st.0; knows = st.1; right = right; task = (may, refl) }
begins_idle k z a v m Op.Leave good sg st right may = let x = k.leaves.begins z a v m.poll (right, st.1) in record { counts = st.0; knows = x.1; right = x.0; task = refl }

-- one that has left begins nothing
module _ (k : Known) (z : Arena) (a : ℕ) (v : View) (m : Processor) (o : Op) (good : Good z v) (sg : ShapesAreGood z.shapes) (fine : ProcessorFacts z a v m None) (may : has_left_at m.task ≡ false → MayBegin z a v o) where
  abbrev Begun : Bool → Type 0
  Begun left = ProcessorFacts z a v (cond left m (begins z.shapes m o)) None

  begun_idle : m.task ≡ Task.Idle → Begun false
  begun_idle e = grind (arith, begins_idle)

  begun_at : (q : Task) → m.task ≡ q → is_busy_at q ≡ false → Begun (has_left_at m.task)
  begun_at q e rest = grind (arith, begun_idle)

pub begins_well : Known → Begins
begins_well k z a v m o sg good fine rest may = begun_at k z a v m o good sg fine may m.task refl rest
