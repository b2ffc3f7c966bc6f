-- While marking is on an entry is taken out by a move that the seat may make, and names an object that nobody else has then. And all of it together.
use Rattle.std.proofs.Common.{◌≡◌, ℕ, ◌+◌, ◌-◌, ◌*◌, ◌%◌, ◌<◌, ◌≤◌, true, Option, Some, None, refl, sym, ap, subst, ◌∙◌, arith, max}
use Rattle.std.proofs.Math.Nat.{mod-eq_of_lt}
use Rattle.gh_wbuf.proofs.Vocabulary.{Buffered, buffers_as_held, BuffersPassByMoves, cell_of, Cycle, effect, ENTRIES, FactsBegin, Good, Hands, Held, holding, InHand, Keeps, landing, lands_by, Layout, MayTakeEntry, moved, RoomStage, RoomStageKnows, Shared, Steps, TakeComes, TakeEntry, TakeKnows, TakesByMoves, TakeStage, TakeStageKnows, Trying}
use Rattle.gh_base.specs.declared.cell.Cell.TheVariants.{Entry}
use Rattle.gh_marks.specs.Knows.{KnowsObjects}
use Rattle.gh_wbuf.specs.EntryTaking as taking
use Rattle.gh_wbuf.specs.RoomFinding as finding
use Rattle.gh_wbuf.specs.Trying as try
use Rattle.gh_wbuf.specs.Facts.{Took}
use Rattle.gh_wbuf.proofs.Knowing.{given_held, room_next}
use Rattle.gh_wbuf.proofs.Markers.{Known, keep-finds, keep-gives, keep-tries, shown, tries}

module _ (k : Known) (z : Cycle) (a : ℕ) (s : Shared) (rest : InHand) (g : Good z s) where
  abbrev l : Layout
  l = z.arena.layout

  -- what it comes to, by what it has given then
  abbrev Comes : Shared → taking.EntryTaking → Type 0
  Comes u t = TakeComes z a u rest (taking.given t) t

  -- behind a try of the taking
  comes : (r : taking.EntryTaking) (t : Trying) (index : ℕ) (out : Option (Option Held)) (u : Shared) → ((h : Held) → out ≡ Some (Some h) → t.held ≡ Some h) → rest.scanning ≡ None →
      TakeKnows a (taking.after_try l (taking.at_stage r (TakeStage.Try t)) index t.held out) → Hands a u (holding rest t.held) → Comes u (taking.after_try l (taking.at_stage r (TakeStage.Try t)) index t.held out)
  comes r t index out u won idle knows x = grind arith

  module _ (objects : KnowsObjects z s) where
    abbrev Goal : taking.EntryTaking → TakeStage → Type 0
    Goal r p =
        let f : ℕ = s.words (cell_of (taking.asks_at r p)) in
        Steps z a s (taking.asks_at r p) (λ u. Keeps z a s u × Comes u (taking.goes_at l r p f))

    entry-taken : (r : taking.EntryTaking) (h : Held) → rest.scanning ≡ None → 0 < h.count → Hands a s (holding rest (Some h)) → Goal r (TakeStage.Take h)
    entry-taken r h idle some x = lands_by z a s s.words (λ u. Keeps z a s u × Took a u rest (Some (taking.less h)) reference) (TakeEntry h.index o) may refl (k.leave z a s (TakeEntry h.index o) g may tt, record { some = omega arith; hands = hands }) where
      f : ℕ
      f = s.words (Entry h.index (h.count - 1))

      o : ℕ
      o = f - 1

      reference : ℕ
      reference = taking.entry_of l f

      count : s.filled h.index ≡ h.count
      count = x.holds.count

      last : s.filled h.index - 1 ≡ h.count - 1
      last = ap (λ (n : ℕ). n - 1) count

      not_nil : 0 < f
      not_nil = g.entries.some h.index (h.count - 1) (omega (arith, count, some))

      is_o : f ≡ o + 1
      is_o = omega (arith, not_nil)

      may : MayTakeEntry a s h.index o
      may = record { held = (x.holds.only h.index).1 refl; some = omega (arith, count, some); entry = ap (λ (j : ℕ). s.words (Entry h.index j)) last ∙ is_o }

      was : s.colour o ≡ Buffered h.index (h.count - 1)
      was = g.entries.entered h.index (h.count - 1) o (omega (arith, count, some)) is_o

      known : s.since o ≡ true
      known = g.objects.shaded o (rw was tt)

      within : o < 1024 * z.arena.layout.pages
      within = omega (arith, (objects o known).within, (objects o known).some)

      same : reference - 1 ≡ o
      same =
          let less : max f 1 - 1 ≡ o = omega (arith, not_nil) in
          let index : (max f 1 - 1) % (1024 * l.pages) ≡ o = ap (λ (n : ℕ). n % (1024 * l.pages)) less ∙ mod-eq_of_lt within in
          omega (arith, index)

      hands : Hands a (moved z a s (TakeEntry h.index o)) (record rest { held = Some (taking.less h); scanning = Some (reference - 1) })
      hands = subst (λ (n : ℕ). Hands a (moved z a s (TakeEntry h.index o)) (record rest { held = Some (taking.less h); scanning = Some n })) (sym same) ((k.follow z a s (holding rest (Some h)) g x).takes_entry h o may refl idle)

    takes-at : (r : taking.EntryTaking) (p : TakeStage) → rest.scanning ≡ None → TakeStageKnows a p → Hands a s (holding rest (taking.held_at p)) →
        TakeKnows a (taking.goes_at l r p (s.words (cell_of (taking.asks_at r p)))) → taking.is_busy p ≡ true → Goal r p
    takes-at r (TakeStage.Try t) idle knows x then busy =
        let f : ℕ = s.words (cell_of (try.asks t)) in
        landing z a s (effect s.words (try.asks t)) (λ u. Keeps z a s u × Hands a u (holding rest (try.goes t f).held)) (λ u. Keeps z a s u × Comes u (taking.goes_at l r (TakeStage.Try t) f))
        (λ u w h. (h.0, comes r (try.goes t f) t.index (try.gives t f) u (λ own e. given_held t t.stage f own knows.busy e) idle then h.1))
        (tries k z a s rest g t knows.tries x)
    takes-at r (TakeStage.Take h) idle knows x then busy = entry-taken r h idle knows x
    takes-at r (TakeStage.Ended held entry) idle knows x then busy = absurd (cc)

keep-takes : Known → TakesByMoves
keep-takes k = record {
  own_step = λ z a s rest t g objects f.
      takes-at k z a s rest g objects t t.stage f.idle f.knows.stage f.hands
      (((k.kept.takes z.arena.layout).own_step (buffers_as_held s.words s.filled) a s.words t g.counts (shown k z a s rest g) (record { knows = f.knows; holds = f.hands.holds })).knows) f.busy;
  lasts = λ z a s u rest t o f. record { knows = f.knows; hands = k.last z a s u (holding rest (taking.held_at t.stage)) o f.hands; idle = f.idle; busy = f.busy };
}

begins : Known → (z : Cycle) (a : ℕ) (s : Shared) (rest : InHand) (held : Option Held) → Hands a s (holding rest held) → FactsBegin z a s rest held
begins k z a s rest held x = grind arith

-- what the search for room has given has room, and is held
room-at : (a : ℕ) (p : RoomStage) (h : Held) → RoomStageKnows a p → finding.given_at p ≡ Some h → h.count + 2 ≤ ENTRIES
room-at a p h knows e = grind arith

held-at : (p : RoomStage) (h : Held) → finding.given_at p ≡ Some h → finding.held_at p ≡ Some h
held-at p h e = grind arith

pub pass : Known → BuffersPassByMoves
pass k = record {
  begin = begins k;
  tries = keep-tries k;
  finds = keep-finds k;
  takes = keep-takes k;
  gives = keep-gives k;
  room = λ l a found r h knows e. room-at a (finding.goes l r found).stage h (room_next k.held l a r r.stage found knows knows.stage).stage e;
  held = λ l found r h e. held-at (finding.goes l r found).stage h e;
}
