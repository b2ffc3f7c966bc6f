-- No operation of a whole run is answered `full` where the script has plenty: at its step there would be no room.
use Rattle.std.proofs.Common.{◌≡◌, ℕ, ◌/◌, ◌<◌, ◌≤◌, Bool, not, true, false, List, [], ◌∷◌, ◌++◌, length, refl, ap, subst, arith, Some, nat_lt, ◌&&◌}
use Rattle.std.proofs.lemmas.Bool.{ltb-true}
use Rattle.gh_plenty.proofs.Vocabulary.{AllStands, arena_of, Awaited, Entry, EveryListOfAScriptStands, FoundNoRoom, goroutine_is_over, has_left, has_more, HasPlenty, in_range, is_of, IsExplained, IsFullFor, Layout, LaysOut, may_begin_of, may_leave, may_run, NeverFull, NoRoomFor, objects_of, OnlyPointsChange, Op, order_of, Outcome, processor_kind, Program, setting_of, setup_of, Shape, slot_of, slots_of, sought_for, WellFormed, words_in}
use Rattle.gh_base.specs.declared.limits.TheConstants.{REGISTERS}
use Rattle.gh_base.specs.Lists.{Begins, by, Legal, state_of}
use Rattle.gh_mutator.specs.Sound.{has_names, has_room}
use Rattle.gh_world.specs.Wishes.{wishes_of}
use Rattle.gh_plenty.proofs.Crowded.{LieWithin, no_room_is_none, the_type}
use Rattle.gh_plenty.proofs.Made.{ever, later_more, made_few, made_in, of_others, of_script}

first-of : (b c : Bool) → (b && c) ≡ true → b ≡ true
first-of true c e = refl
first-of false c e = e

last-of : (b c : Bool) → (b && c) ≡ true → c ≡ true
last-of true c e = e
last-of false c e = absurd (cc)

module _ (p : Program) (l : Layout) where
  -- each start of a legal list is legal
  behind : (later es : List (Entry Op)) → Legal (setting_of p l) (later ++ es) → Legal (setting_of p l) es
  behind [] es legal = legal
  behind (e ∷ later) es legal = behind later es legal.0

  -- what is begun is of a type that there is
  type_in : (a : ℕ) (es : List (Entry Op)) (g d t : ℕ) → may_begin_of p l a es (Op.New g d t) ≡ true → t < length p.shapes
  type_in a es g d t may =
      let z = arena_of p.shapes l in
      let m = state_of (processor_kind p.shapes l) a es in
      let o = Op.New g d t in
      let all = may_run z a m es o in
      let b = first-of (all && not (has_left es) && has_more (wishes_of p) es o && may_leave z a es o) (has_room m o) may in
      let c = first-of (all && not (has_left es) && has_more (wishes_of p) es o) (may_leave z a es o) b in
      let e = first-of all (not (has_left es)) (first-of (all && not (has_left es)) (has_more (wishes_of p) es o) c) in
      let range = in_range l.goroutines l.globals (length p.shapes) o in
      let f = first-of (range && is_of z a (Some g) && has_names m o) (not (goroutine_is_over es (Some g))) e in
      let r = first-of range (is_of z a (Some g)) (first-of (range && is_of z a (Some g)) (has_names m o) f) in
      ltb-true t (length p.shapes) (last-of (nat_lt g l.goroutines && nat_lt d REGISTERS) (nat_lt t (length p.shapes)) r)

  type_of : (a : ℕ) (es : List (Entry Op)) (g d t : ℕ) → Legal (setting_of p l) es → Awaited p l a es (Op.New g d t) → t < length p.shapes
  type_of a es g d t legal f =
      let from : Legal (setting_of p l) (f.first ∷ f.earlier) = behind f.since (f.first ∷ f.earlier) (subst (Legal (setting_of p l)) f.there legal) in
      let begins : Begins (setting_of p l) f.first.actor f.earlier (Some (Op.New g d t)) = subst (Begins (setting_of p l) f.first.actor f.earlier) f.began from.1.begins in
      type_in f.first.actor (by f.first.actor f.earlier) g d t begins.1

module _ (p : Program) (l : Layout) (es : List (Entry Op)) (o : Outcome) (plenty : HasPlenty p) (laid : LaysOut p l) (run : IsExplained p l es o) (formed : WellFormed p) (every : EveryListOfAScriptStands) (changed : OnlyPointsChange)
    (lie : LieWithin (slots_of plenty.class) (slot_of plenty.class / 8)) where
  module _ (i : ℕ) (x : Op) (f : FoundNoRoom p l es i x) where
    abbrev before : List (Entry Op)
    before = f.step.before

    legal : Legal (setting_of p l) f.step.before
    legal = (behind p l f.step.later (f.step.entry ∷ f.step.before) (subst (Legal (setting_of p l)) f.step.there run.run.legal)).0

    stands : AllStands (setup_of p l) f.step.before
    stands = every p l f.step.before formed laid legal

    so_far : (g : ℕ) → (ever p l changed f.step.before).made g ≤ made_in g (order_of p.shapes l es)
    so_far g =
        let made = made_few p l changed before g in
        let one = later_more p l changed (f.step.entry ∷ []) before g in
        let rest = later_more p l changed f.step.later (f.step.entry ∷ before) g in
        let all = ap (λ (ys : List (Entry Op)). made_in g (order_of p.shapes l ys)) f.step.there in
        omega (arith, made, one, rest, all)

    few : (g : ℕ) → (ever p l changed f.step.before).made g ≤ objects_of p g
    few g = let made = so_far g in let all = of_script p l es o run g in omega (arith, made, all)

    none : (g : ℕ) → length p.goroutines ≤ g → (ever p l changed f.step.before).made g ≡ 0
    none g le = let made = so_far g in let all = of_others p l es o run g le in omega (arith, made, all)

    refused : (y : Op) → x ≡ y → IsFullFor (arena_of p.shapes l) f.step.entry.actor (words_in p l before) y → ⊥
    refused (Op.New g d t) is room =
        let type : t < length p.shapes = type_of p l f.step.entry.actor before g d t legal (subst (Awaited p l f.step.entry.actor before) is f.waited) in
        no_room_is_none p l before plenty stands lie few none f.step.entry.actor (subst (λ (s : Shape). NoRoomFor (arena_of p.shapes l) f.step.entry.actor (words_in p l before) (sought_for s)) (the_type p l before plenty stands lie t type) room) laid
    refused _ is room = absurd room

    pub none_refused : ⊥
    none_refused = refused x refl f.no_room

  pub never_full : NeverFull p l es
  never_full i a there full = none_refused i a.op (run.full i a there full)
