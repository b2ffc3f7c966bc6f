-- What a move of the one state does to which objects stand: one that comes to stand has a name that was not made before, and one that stands where its bit is still set stands there by the same name. And what that says of the cycle that ended last.
use Rattle.std.proofs.Common.{◌≡◌, ℕ, ◌+◌, ◌*◌, ◌/◌, ◌%◌, ◌^◌, ◌<◌, ◌⊎◌, min, true, cond, eqb, refl, sym, ap, subst, ◌∙◌, arith, inl, inr, List, ◌∷◌, bit_and}
use Rattle.gh_holds.proofs.Vocabulary.{alloc_at, alloc_words, Arena, Ask, birth_words, bit_at, bit_at-lt, bit_at_and, Cell, Coordinating, CycleEnd, effect, EndedSo, Entry, eqb_tells, Ever, ever, Good, HasEnded, Heap, IsAsItEnded, IsInCycle, IsLed, IsMade, IsNewThere, IsPlacedAt, Known, Load, marks_at, Name, next_name, Op, Row, row_bit, same_birth_same_name, Setup, State, StateGood, view, with_word, Words, words}
use Rattle.gh_heap.specs.Moves as heap
use Rattle.gh_state.specs.Moves as state
use Rattle.gh_sweep.specs.Moves as sweep
use Rattle.gh_holds.proofs.AllActors.Stood.{move_stays}

-- an object stands there that was not made by then
record IsNew (made : ℕ → ℕ) (v : Words) (x : ℕ) : Type 0 where
  pub name : Name
  pub not_yet : IsMade made name → ⊥
  pub few : name.k < 2 ^ 32
  pub placed : IsPlacedAt v name x

-- What stands then stood before, or is new; and a birth word stays where a bit was set.
record StandsSo (made : ℕ → ℕ) (w v : Words) : Type 0 where
  pub bits : (x : ℕ) → row_bit (alloc_words v) x ≡ 1 → (row_bit (alloc_words w) x ≡ 1) ⊎ IsNew made v x
  pub births : (x : ℕ) → row_bit (alloc_words w) x ≡ 1 → v (Cell.Birth x) ≡ w (Cell.Birth x)

-- one more is made
made_more : (f : ℕ → ℕ) (g : ℕ) (n : Name) → IsMade f n → n.k < cond (eqb n.g g) (f g + 1) (f n.g)
made_more f g n made = elim (eqb_tells n.g g) [
  | inl y ↦ let same : f n.g ≡ f g = ap f y.1 in rw (y.0) (omega (arith, same, made))
  | inr x ↦ rw (x.0) made
]

module _ (known : Known) where
  by_quiet : (ask : Ask) → heap.IsQuiet ask → (w : Words) (i : ℕ) → effect w ask (Cell.Alloc i) ≡ w (Cell.Alloc i)
  by_quiet ask is w i = grind arith

  same_bit : (p q : Row) → ((i : ℕ) → p i ≡ q i) → (x : ℕ) → row_bit p x ≡ row_bit q x
  same_bit p q same x = known.rows.bit_of p (x / 64) x refl ∙ ap (λ (v : ℕ). bit_at v (x % 64)) (same (x / 64)) ∙ sym (known.rows.bit_of q (x / 64) x refl)

  -- By a move over the heap.
  module _ (z : Arena) (a : ℕ) (h : Heap) (good : Good z (view h)) where
    abbrev after : heap.Move → Words
    after m = (heap.moved z a h m).words

    abbrev Came : Words → ℕ → Type 0
    Came v x = (row_bit (alloc_words h.words) x ≡ 1) ⊎ IsNew h.ever.made v x

    quiet_bits : (ask : Ask) → heap.IsQuiet ask → (x : ℕ) → row_bit (alloc_words (effect h.words ask)) x ≡ 1 → Came (effect h.words ask) x
    quiet_bits ask is x set = grind (arith, by_quiet, same_bit)

    -- the object that is made has the next name
    new_there : (at g d t : ℕ) → heap.May z a (view h) (heap.Make at g d t) → IsNew h.ever.made (after (heap.Make at g d t)) at
    new_there at g d t may = record {
      name = next_name h.ever g;
      not_yet = λ made. omega (arith, made);
      few = let few = may.few in omega (arith, few);
      placed = record { set = known.rows.sets_one (alloc_words h.words) at; says = may.ready.birth };
    }

    move_bits : (m : heap.Move) → heap.May z a (view h) m → (x : ℕ) → row_bit (alloc_words (after m)) x ≡ 1 → Came (after m) x
    move_bits (heap.Quiet step) may x set = quiet_bits step may x set
    move_bits (heap.Takes step g d value) may x set = quiet_bits step may.0 x set
    move_bits (heap.Ends step g) may x set = quiet_bits step may.0 x set
    move_bits (heap.Make at g d t) may x set = elim (eqb_tells at x) [
      | inl y ↦ inr (subst (IsNew h.ever.made (after (heap.Make at g d t))) y.1 (new_there at g d t may))
      | inr ne ↦ inl (sym (known.rows.sets_no_other (alloc_words h.words) at x ne.1) ∙ set)
    ]
    move_bits _ may x set = inl set

    -- whatever stands was made, and stays placed
    by_move : (m : heap.Move) → heap.May z a (view h) m → StandsSo h.ever.made h.words (after m)
    by_move m may = record {
      bits = move_bits m may;
      births = λ x set.
          let b = good.bits x set in
          (move_stays known.footprints known.rows z a h m may b.0 x (record { set = set; says = b.3 })).says ∙ sym b.3;
    }

  -- a word of alloc bits is cut: a bit that is set then was set
  cut_bits : (w : Words) (j marks : ℕ) (v : Words) → alloc_words v ≡ with_word (alloc_words w) j (bit_and (alloc_words w j) marks) → (x : ℕ) → row_bit (alloc_words v) x ≡ 1 → row_bit (alloc_words w) x ≡ 1
  cut_bits w j marks v is x set = elim (eqb_tells (x / 64) j) [
    | inl y ↦
        let cut : row_bit (with_word (alloc_words w) j (bit_and (alloc_words w j) marks)) x ≡ bit_at (bit_and (alloc_words w j) marks) (x % 64) = known.rows.bit_here (alloc_words w) j (bit_and (alloc_words w j) marks) x y.1 in
        let both : bit_at (bit_and (alloc_words w j) marks) (x % 64) ≡ min (bit_at (alloc_words w j) (x % 64)) (bit_at marks (x % 64)) = bit_at_and (alloc_words w j) marks (x % 64) in
        let low : bit_at (alloc_words w j) (x % 64) < 2 = bit_at-lt (alloc_words w j) (x % 64) in
        let was : row_bit (alloc_words w) x ≡ bit_at (alloc_words w j) (x % 64) = known.rows.bit_of (alloc_words w) j x y.1 in
        let now : row_bit (with_word (alloc_words w) j (bit_and (alloc_words w j) marks)) x ≡ 1 = ap (λ (r : Row). row_bit r x) (sym is) ∙ set in
        omega (arith, cut, both, low, was, now)
    | inr n ↦ sym (known.rows.bit_elsewhere (alloc_words w) j (bit_and (alloc_words w j) marks) x (λ q. n.1 (sym q))) ∙ ap (λ (r : Row). row_bit r x) (sym is) ∙ set
  ]

  module _ (z : Arena) (a : ℕ) (s : State) where
    abbrev made : ℕ → ℕ
    made = s.heap.ever.made

    same : (v : Words) → alloc_words v ≡ alloc_words s.heap.words → birth_words v ≡ birth_words s.heap.words → StandsSo made s.heap.words v
    same v allocs births = record { bits = λ x set. inl (ap (λ (r : Row). row_bit r x) (sym allocs) ∙ set); births = λ x set. ap (λ (r : Row). r x) births }

    by_sweep : (m : sweep.Move) → state.IsOfSweep m → StandsSo made s.heap.words (state.moved z a s (state.Sweep m)).heap.words
    by_sweep (sweep.Quiet (Load c)) of = same s.heap.words refl refl
    by_sweep (sweep.Starts p h) of = same _ refl refl
    by_sweep (sweep.Cuts p h i) of = record { bits = λ x set. inl (cut_bits s.heap.words (16 * p + i) (s.heap.words (Cell.Mark (16 * p + i))) (state.moved z a s (state.Sweep (sweep.Cuts p h i))).heap.words refl x set); births = λ x set. refl }
    by_sweep (sweep.Clears p h i) of = same _ refl refl
    by_sweep sweep.TellsTally of = same _ refl refl
    by_sweep sweep.TellsLive of = same _ refl refl
    by_sweep sweep.TellsHeap of = same _ refl refl
    by_sweep (sweep.Ends p h) of = same _ refl refl
    by_sweep _ of = absurd of

    -- By any move.
    module _ (good : StateGood z s) where
      stands_so : (m : state.Move) → state.May z a s m → StandsSo made s.heap.words (state.moved z a s m).heap.words
      stands_so (state.Deed m) may = by_move z a s.heap good.heap m may.may
      stands_so (state.Sweep m) may = by_sweep m may.of_sweep
      stands_so state.Count may = same _ refl refl

      -- what is of since then was so before, or is the object that was made
      came : (m : state.Move) → state.May z a s m → (x : ℕ) → (state.moved z a s m).since x ≡ true → (s.since x ≡ true) ⊎ IsNew made (state.moved z a s m).heap.words x
      came (state.Deed m) may x is = by m may.may is where
        by : (m : heap.Move) → heap.May z a (view s.heap) m → (state.moved z a s (state.Deed m)).since x ≡ true → (s.since x ≡ true) ⊎ IsNew made (heap.moved z a s.heap m).words x
        by (heap.Make at g d t) may is = elim (eqb_tells at x) [
          | inl y ↦ inr (subst (IsNew made (heap.moved z a s.heap (heap.Make at g d t)).words) y.1 (new_there z a s.heap good.heap at g d t may))
          | inr ne ↦ inl (rw (ne.0) at is)
        ]
        by _ may is = inl is
      came (state.Sweep m) may x is = inl (by m may.of_sweep is) where
        by : (m : sweep.Move) → state.IsOfSweep m → (state.moved z a s (state.Sweep m)).since x ≡ true → s.since x ≡ true
        by (sweep.Places y) of is = absurd of
        by _ of is = is
      came state.Count may x is = inl is

      -- what was made is made
      pub made_on : (m : state.Move) → (n : Name) → IsMade made n → IsMade (state.moved z a s m).heap.ever.made n
      made_on (state.Deed (heap.Make at g d t)) n is = made_more made g n is
      made_on (state.Deed _) n is = is
      made_on (state.Sweep m) n is = is
      made_on state.Count n is = is

      module _ (m : state.Move) (may : state.May z a s m) where
        abbrev t : State
        t = state.moved z a s m

        abbrev w : Words
        w = s.heap.words

        abbrev v : Words
        v = t.heap.words

        -- an object that was made before and stands then stood there
        pub back : (n : Name) (x : ℕ) → IsMade made n → IsPlacedAt v n x → IsPlacedAt w n x
        back n x is p = elim ((stands_so m may).bits x p.set) [
          | inl set ↦ record { set = set; says = sym ((stands_so m may).births x set) ∙ p.says }
          | inr new ↦
              let most = good.heap.names.few n.g in
              let few : n.k < 2 ^ 32 = omega (arith, is, most) in
              let one : new.name ≡ n = same_birth_same_name new.name n new.few few (sym new.placed.says ∙ p.says) in
              absurd (new.not_yet (subst (λ (y : Name). IsMade made y) (sym one) is))
        ]

        -- one that stood, where its bit is still set, stands there
        pub on : (n : Name) (x : ℕ) → IsPlacedAt w n x → row_bit (alloc_words v) x ≡ 1 → IsPlacedAt v n x
        on n x p set = record { set = set; says = (stands_so m may).births x p.set ∙ p.says }

        abbrev pub WasSince : ℕ → Type 0
        WasSince x = (s.since x ≡ true) × (row_bit (alloc_words w) x ≡ 1)

        abbrev pub IsNewHere : ℕ → Type 0
        IsNewHere x = (n : Name) × (IsMade made n → ⊥) × (n.k < 2 ^ 32) × IsPlacedAt v n x

        new_here : (x : ℕ) → IsNew made v x → WasSince x ⊎ IsNewHere x
        new_here x new = inr (new.name, new.not_yet, new.few, new.placed)

        -- one of since that stands was so before, or is new
        pub since : (x : ℕ) → t.since x ≡ true → row_bit (alloc_words v) x ≡ 1 → WasSince x ⊎ IsNewHere x
        since x is set = elim (came m may x is) [
          | inl was ↦ elim ((stands_so m may).bits x set) [ inl bit ↦ inl (was, bit) | inr new ↦ new_here x new ]
          | inr new ↦ new_here x new
        ]

-- What the state says of the end of a cycle stays: where it ended, what is of since and what slots are laid, the heap that never frees, and what is being freed.
pub record KeepsEnd (s t : State) : Type 0 where
  pub end : t.end ≡ s.end
  pub since : t.since ≡ s.since
  pub slot : t.slot ≡ s.slot
  pub ever : t.heap.ever ≡ s.heap.ever
  pub freeing : t.heap.freeing ≡ s.heap.freeing

pub as_it_ended : (s t : State) → KeepsEnd s t → IsAsItEnded s → IsAsItEnded t
as_it_ended s t k is = grind arith

module _ (z : Arena) (a : ℕ) (s : State) where
  pub end_stays : (m : state.Move) → (state.moved z a s m).end ≡ s.end
  end_stays m = grind arith

  -- by the moves of a sweep, and by a quiet step
  pub sweep_keeps_end : (m : sweep.Move) → state.IsOfSweep m → KeepsEnd s (state.moved z a s (state.Sweep m))
  sweep_keeps_end m of = grind arith

  pub quiet_keeps_end : (step : Ask) → KeepsEnd s (state.moved z a s (state.Deed (heap.Quiet step)))
  quiet_keeps_end step = grind arith

-- One entry more, whose step is this move.
module _ (setup : Setup) (e : Entry Op) (es : List (Entry Op)) where
  -- in the last cycle it is so before, and nothing of its end changes
  abbrev pub LastStays : (s t : State) → Type 0
  LastStays s t = (c : Coordinating) → IsLed setup (e ∷ es) c → c.is_last ≡ true →
      ((d : Coordinating) × IsLed setup es d × (d.is_last ≡ true)) × (ever setup (e ∷ es) ≡ ever setup es) × (IsAsItEnded s → IsAsItEnded t)

  module _ (k : ℕ) (s t : State) (last : LastStays s t) where
    pub in_cycle_on : IsInCycle setup es k → IsInCycle setup (e ∷ es) k
    in_cycle_on i = record { begun = i.begun; start = inr i.start; begins = i.begins; last = λ c led is. let x = last c led is in x.1 ∙ i.last x.0.0 x.0.1 x.0.2 }

  -- the state before the move and behind it is that of the lists
  pub record MovesBy (z : Arena) (a : ℕ) (s : State) (m : state.Move) : Type 0 where
    pub good : StateGood z s
    pub may : state.May z a s m
    pub words_were : s.heap.words ≡ words setup es
    pub words_are : (state.moved z a s m).heap.words ≡ words setup (e ∷ es)
    pub ever_was : s.heap.ever ≡ ever setup es
    pub ever_is : (state.moved z a s m).heap.ever ≡ ever setup (e ∷ es)

  module _ (known : Known) (z : Arena) (a : ℕ) (s : State) (m : state.Move) (moves : MovesBy z a s m) where
    abbrev then : State
    then = state.moved z a s m

    abbrev before : Words
    before = words setup es

    abbrev behind : Words
    behind = words setup (e ∷ es)

    -- of lists
    pub made_then : (n : Name) → IsMade (ever setup es).made n → IsMade (ever setup (e ∷ es)).made n
    made_then n is = grind (arith, made_on)

    pub placed_back : (n : Name) (x : ℕ) → IsMade (ever setup es).made n → IsPlacedAt behind n x → IsPlacedAt before n x
    placed_back n x is p = subst (λ (y : Words). IsPlacedAt y n x) moves.words_were (back known z a s moves.good m moves.may n x (subst (λ (y : Ever). IsMade y.made n) (sym moves.ever_was) is) (subst (λ (y : Words). IsPlacedAt y n x) (sym moves.words_are) p))

    pub placed_on : (n : Name) (x : ℕ) → IsPlacedAt before n x → row_bit (alloc_words behind) x ≡ 1 → IsPlacedAt behind n x
    placed_on n x p set = subst (λ (y : Words). IsPlacedAt y n x) moves.words_are (on known z a s moves.good m moves.may n x (subst (λ (y : Words). IsPlacedAt y n x) (sym moves.words_were) p) (subst (λ (y : Words). row_bit (alloc_words y) x ≡ 1) (sym moves.words_are) set))

    pub new_on : (ended : List (Entry Op)) (x : ℕ) → IsNewThere setup ended es x → row_bit (alloc_words behind) x ≡ 1 → IsNewThere setup ended (e ∷ es) x
    new_on ended x new set = record { name = new.name; not_yet = new.not_yet; few = new.few; placed = placed_on new.name x new.placed set }

    module _ (k : ℕ) (last : LastStays s then) where
      since_then : (o : EndedSo setup es k s) (x : ℕ) → then.since x ≡ true → row_bit (alloc_words behind) x ≡ 1 → (row_bit (marks_at s.end) x ≡ 1) ⊎ IsNewThere setup o.ended (e ∷ es) x
      since_then o x is set = elim (since known z a s moves.good m moves.may x is (subst (λ (y : Words). row_bit (alloc_words y) x ≡ 1) (sym moves.words_are) set)) [
        | inl was ↦ elim (o.since x was.0 (subst (λ (y : Words). row_bit (alloc_words y) x ≡ 1) moves.words_were was.1)) [ inl marked ↦ inl marked | inr new ↦ inr (new_on o.ended x new set) ]
        | inr new ↦ inr (record {
          name = new.0;
          not_yet = λ made. new.1 (subst (λ (y : Ever). IsMade y.made new.0) (sym moves.ever_was) (o.made new.0 made));
          few = new.2;
          placed = subst (λ (y : Words). IsPlacedAt y new.0 x) moves.words_are new.3;
        })
      ]

      pub ended_on : EndedSo setup es k s → EndedSo setup (e ∷ es) k then
      ended_on o = record {
        ended = o.ended;
        start = inr o.start;
        ends = o.ends;
        alloc = ap (λ (y : CycleEnd). alloc_at y) (end_stays z a s m) ∙ o.alloc;
        marks = ap (λ (y : CycleEnd). marks_at y) (end_stays z a s m) ∙ o.marks;
        stood = λ n x made p. o.stood n x made (placed_back n x (o.made n made) p);
        since = λ x is set. subst (λ (y : CycleEnd). (row_bit (marks_at y) x ≡ 1) ⊎ IsNewThere setup o.ended (e ∷ es) x) (sym (end_stays z a s m)) (since_then o x is set);
        made = λ n made. made_then n (o.made n made);
        last = λ c led is. let x = last c led is in let was = o.last x.0.0 x.0.1 x.0.2 in (x.1 ∙ was.0, x.2 was.1);
      }

      pub has_ended_on : HasEnded setup es k s → HasEnded setup (e ∷ es) k then
      has_ended_on h = record { cycle = in_cycle_on k s then last h.cycle; ended = ended_on h.ended }
