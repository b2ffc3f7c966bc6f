-- An operation that is answered `full` acted where there was no room for its object: the search behind its wait saw that.
use Rattle.std.proofs.Common.{◌≡◌, ◌≢◌, ℕ, ◌+◌, ◌-◌, ◌<◌, ◌≤◌, ◌⊎◌, inl, inr, Bool, true, false, eqb, ltb, refl, sym, ap, ◌∙◌, arith, List, Option, Some, None}
use Rattle.std.proofs.lemmas.Bool.{eqb-false, eqb-true, ltb-false, ltb-true}
use Rattle.gh_marked.proofs.Vocabulary.{Act, acts_at, Arena, FoundNone, FullAt, Good, Head, Heap, IsAnothers, IsFull, IsFullFor, IsOfSpanClass, Large, Layout, NewStage, NoRoomFor, Op, owner_at, owner_in, page_of, point_of, Processor, processor_kind, Right, Search, Shape, shape_at, SizeClass, Small, Sought, sought_for, span_for, SpanClass, SpanHead, started, Task, View, view, Words}

-- a slot is searched for once more, behind the wait
abbrev Searched : NewStage → Type 0
Searched (Search waited q) = waited ≡ true
Searched _ = ⊥

abbrev pub IsSearchedAgain : Task → Type 0
IsSearchedAgain (Task.New x) = Searched x.stage
IsSearchedAgain _ = ⊥

pub full_searches : (l : Layout) (m : Processor) (t : Task) (found : ℕ) (x : Act) → acts_at l m t found ≡ Some x → x.full ≡ true → IsSearchedAgain t
full_searches l m t found x is full = grind arith

-- a point is an act
pub point_is : (a : Option Act) (x : Act) → point_of a ≡ Some x → a ≡ Some x
point_is a x is = grind arith

-- so it is no step of a poll, a wait or a leave, and none with which an operation begins

pub goes_on : (shapes : List Shape) (l : Layout) (o : Option Op) (m : Processor) → IsSearchedAgain (started (processor_kind shapes l) o m).task → o ≡ None
goes_on shapes l o m again = grind arith

-- There was no room.

module _ (z : Arena) (h : Heap) (good : Good z (view h)) (others : (a : ℕ) → z.layout.procs ≤ a → Right a (view h) false (λ p. false) None) where
  abbrev v : View
  v = view h

  -- a head's owner is nobody or the seat of another processor
  owner_cases : (a p : ℕ) (x : SpanHead) → page_of (v.page p) ≡ Head x → x.owner ≢ a + 1 → (x.owner ≡ 0) ⊎ IsAnothers z a x
  owner_cases a p x head other = go (eqb x.owner 0) refl where
    at_head : owner_at v.page p ≡ x.owner
    at_head = ap owner_in head

    go : (b : Bool) → eqb x.owner 0 ≡ b → (x.owner ≡ 0) ⊎ IsAnothers z a x
    go true e = inl (eqb-true x.owner 0 e)
    go false e =
        let some : x.owner ≢ 0 = eqb-false x.owner 0 e in
        let owner : x.owner ≡ (x.owner - 1) + 1 = omega (arith, some) in
        let holds : h.holds (x.owner - 1) p ≡ true = (good.owners (x.owner - 1) p).0 (at_head ∙ owner) in
        inr (record { who = x.owner - 1; seat = below holds; other = λ q. other (owner ∙ ap (λ (n : ℕ). n + 1) q); owner = owner }) where
          below : h.holds (x.owner - 1) p ≡ true → x.owner - 1 < z.layout.procs
          below holds = by (ltb (x.owner - 1) z.layout.procs) refl where
            by : (b : Bool) → ltb (x.owner - 1) z.layout.procs ≡ b → x.owner - 1 < z.layout.procs
            by true t = ltb-true (x.owner - 1) z.layout.procs t
            by false t = absurd (let none = (others (x.owner - 1) (ltb-false (x.owner - 1) z.layout.procs t)).holds p in let no : false ≡ true = sym none ∙ holds in cc)

  -- what is sought is small, where a span of its class may be
  small : (words : Words) (sought : Sought) (p : ℕ) (x : SpanHead) → IsOfSpanClass words sought p x → (c : SpanClass) × (sought ≡ Small c)
  small words (Large pages noscan) p x is = absurd (is.small refl)
  small words (Small c) p x is = (c, refl)

  no_room : (a : ℕ) (y : Processor) (sought : Sought) → FoundNone z a v y sought → NoRoomFor z a h.words sought
  no_room a y sought f = record {
    own = λ p x is. owned p x is (small h.words sought p x is).0 (small h.words sought p x is).1;
    slots = λ p x is. full p x is (small h.words sought p x is).0 (small h.words sought p x is).1;
    swept = f.swept;
    run = λ first le. let d = f.no_run first le in let lt = d.1 in
        record { page = first + d.0; lies = (omega arith, omega (arith, lt)); taken = record { not_free = d.2.taken; in_none = λ p x unused. d.2.used p x unused.span unused.lies.0 unused.lies.1 unused.unowned unused.empty } };
  } where
    class_so : (p : ℕ) (x : SpanHead) (is : IsOfSpanClass h.words sought p x) (c : SpanClass) → sought ≡ Small c → (x.class ≡ SizeClass.Small c.class) × (x.noscan ≡ c.noscan)
    class_so p x is c e = (is.class ∙ ap (λ (q : Sought). (span_for q).class) e, is.noscan ∙ ap (λ (q : Sought). (span_for q).noscan) e)

    owned : (p : ℕ) (x : SpanHead) (is : IsOfSpanClass h.words sought p x) (c : SpanClass) → sought ≡ Small c → x.owner ≢ a + 1
    owned p x is c e = let so = class_so p x is c e in f.own_none c p x e is.head so.0 so.1

    full : (p : ℕ) (x : SpanHead) (is : IsOfSpanClass h.words sought p x) (c : SpanClass) → sought ≡ Small c → IsAnothers z a x ⊎ IsFull v.alloc p x
    full p x is c e =
        let so = class_so p x is c e in
        elim (owner_cases a p x is.head (owned p x is c e)) [
          | inl none ↦ inr (f.full c p x e is.head so.0 so.1 none)
          | inr another ↦ inl another
        ]

  pub full_for : (a : ℕ) (y : Processor) (o : Op) → FullAt z a v y o → IsFullFor z a h.words o
  full_for a y (Op.New g d t) f = no_room a y (sought_for (shape_at z.shapes t)) f
  full_for a y _ f = f
