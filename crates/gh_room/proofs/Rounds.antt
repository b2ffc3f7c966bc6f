-- A search for room alone: each look at a buffer that is not open leads to the next, and at an open one the swap finds what was loaded.
use Rattle.std.proofs.Common.{◌≡◌, ◌⊎◌, inl, inr, ℕ, zero, suc, ◌+◌, ◌-◌, ◌<◌, ◌≤◌, Bool, true, false, cond, ltb, leb, None, refl, sym, ap, subst, ◌∙◌, arith, eq-eqb}
use Rattle.std.specs.Prelude.{◌&&◌}
use Rattle.std.proofs.lemmas.Bool.Decides.{nat_tests}
use Rattle.gh_base.specs.declared.cell.Cell.TheVariants.{Buffer}
use Rattle.gh_base.specs.declared.layout.Layout.{Layout}
use Rattle.gh_base.specs.declared.pack.TheConstants.{ENTRIES}
use Rattle.gh_base.specs.Cells.{buffers_of, Words}
use Rattle.gh_base.specs.Packing.{buffer_of}
use Rattle.gh_room.specs.Room.{HasRoom}
use Rattle.gh_base.specs.Routines.{Alone, alone, IsFolded, steps_alone}
use Rattle.gh_wbuf.specs.declared.try_buffer.TryStage.TheVariants.{Claim, Ended}
use Rattle.gh_wbuf.specs.declared.find_room.RoomStage.TheVariants.{Try}
use Rattle.gh_wbuf.specs.declared.try_buffer.Wish.TheVariants.{Room}
use Rattle.gh_wbuf.specs.RoomFinding.{after_try, at_stage, is_busy, RoomFinding, transitions}
use Rattle.gh_room.specs.Rounds.{FindsAlone, looking, SearchesAloneFind}
use Rattle.gh_wbuf.specs.Trying as try

-- what has room serves
serves_room : (count : ℕ) → count + 2 ≤ ENTRIES → try.serves Room count ≡ true
serves_room count h = grind (arith, nat_tests)

is_open : (word : ℕ) → HasRoom word → try.is_open Room word ≡ true
is_open word h = ap (λ (b : Bool). b && try.serves Room (buffer_of word).count) (eq-eqb _ _ h.free) ∙ serves_room (buffer_of word).count h.room

module _ (l : Layout) (folded : IsFolded (transitions l)) (seat : ℕ) (words : Words) where
  abbrev from : (index : ℕ) → Alone RoomFinding
  from index = record { routine = looking seat index; words = words }

  abbrev HasEnded : Alone RoomFinding → Type 0
  HasEnded s = is_busy s.routine.stage ≡ false

  -- behind the load of a buffer's word
  abbrev looked : (index : ℕ) → Bool → Alone RoomFinding
  looked index b = record {
    routine = after_try l (at_stage (looking seat index) (Try (try.at_stage (try.opening seat Room index None) (cond b (Claim (words (Buffer index))) (Ended None))))) index (try.given_at (cond b (Claim (words (Buffer index))) (Ended None)));
    words = words;
  }

  looks : (index : ℕ) (b : Bool) → try.is_open Room (words (Buffer index)) ≡ b → steps_alone (transitions l) (from index) ≡ looked index b
  looks index b e = ap (looked index) e

  takes : (index : ℕ) → try.is_open Room (words (Buffer index)) ≡ true → HasEnded (alone (transitions l) (from index) 2)
  takes index e = grind arith

  record EndsIn (most index : ℕ) : Type 0 where
    steps : ℕ
    few : steps ≤ most
    ended : HasEnded (alone (transitions l) (from index) steps)

  module _ (buffer : ℕ) (there : buffer < buffers_of l) (room : HasRoom (words (Buffer buffer))) where
    -- so many further looks lead to it
    abbrev Leads : (index distance : ℕ) → Type 0
    Leads index distance = (index + distance ≡ buffer) ⊎ (index + distance ≡ buffer + buffers_of l)

    next : (index d : ℕ) → index < buffers_of l → Leads index (suc d) → (b : Bool) → ltb (index + 1) (buffers_of l) ≡ b → Leads (cond b (index + 1) 0) d × (cond b (index + 1) 0 < buffers_of l)
    next index d lt h b e = grind arith

    goes_on : (d index : ℕ) → index < buffers_of l → Leads index d → EndsIn (d + 2) index
    goes_on zero index lt to = record { steps = 2; few = omega arith; ended = takes index (subst (λ (i : ℕ). try.is_open Room (words (Buffer i)) ≡ true) (sym (here to)) (is_open (words (Buffer buffer)) room)) } where
      here : Leads index zero → index ≡ buffer
      here (inl is) = omega (arith, is)
      here (inr is) = absurd (omega (arith, is, lt))
    goes_on (suc d) index lt to = by (try.is_open Room (words (Buffer index))) refl (ltb (index + 1) (buffers_of l)) refl (λ i below leads. goes_on d i below leads) where
      by : (b : Bool) → try.is_open Room (words (Buffer index)) ≡ b → (t : Bool) → ltb (index + 1) (buffers_of l) ≡ t → ((i : ℕ) → i < buffers_of l → Leads i d → EndsIn (d + 2) i) → EndsIn (suc d + 2) index
      by true is t e on = record { steps = 2; few = omega arith; ended = takes index is }
      by false closed t e on =
          let n = next index d lt to t e in
          let x = on (cond t (index + 1) 0) n.1 n.0 in
          let few = x.few in
          let at : steps_alone (transitions l) (from index) ≡ from (cond t (index + 1) 0) = looks index false closed ∙ ap (λ (b : Bool). from (cond b (index + 1) 0)) e in
          record { steps = suc x.steps; few = omega (arith, few); ended = subst HasEnded (sym (folded.alone_first (from index) x.steps ∙ ap (λ (s : Alone RoomFinding). alone (transitions l) s x.steps) at)) x.ended }

    pub finds_alone : (index : ℕ) → index < buffers_of l → FindsAlone l seat index words
    finds_alone index lt = by (leb index buffer) refl where
      within : (d : ℕ) → d < buffers_of l → Leads index d → FindsAlone l seat index words
      within d small to = let x = goes_on d index lt to in let few = x.few in record { steps = x.steps; few = omega (arith, few, small); ended = x.ended }

      by : (b : Bool) → leb index buffer ≡ b → FindsAlone l seat index words
      by true e = let le : index ≤ buffer = grind (arith, nat_tests, e) in within (buffer - index) (omega (arith, there, le)) (inl (omega (arith, le)))
      by false e = let gt : buffer < index = grind (arith, nat_tests, e) in within (buffer + buffers_of l - index) (omega (arith, gt, lt)) (inr (omega (arith, gt, lt)))

pub searches_alone : ((l : Layout) → IsFolded (transitions l)) → SearchesAloneFind
searches_alone folded l seat index buffer words lt there room = finds_alone l (folded l) seat words buffer there room index lt
