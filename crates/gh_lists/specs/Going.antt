-- The coordinator is never seen where its ending of marking has ended: with its last step it goes on to sweep.
use Rattle.std.proofs.Common.{◌≡◌, ℕ, ◌==◌, Bool, true, false, ltb, refl, sym, ap, subst, ◌∙◌, arith, List, [], ◌∷◌}
use Rattle.gh_lists.specs.Vocabulary.{acks_of, Actor, Close, Coordinating, CoordStage, counted, Entry, goes, goes_at, Layout, LoadAck, nat_tests, Op}
use Rattle.gh_coord.specs.Closing as close
use Rattle.gh_coord.specs.Events.{by_event}
use Rattle.gh_coord.specs.Handshake as leading
use Rattle.gh_coord.specs.Listing as coord
use Rattle.gh_lists.specs.LemmaVocabulary.{actors_after, arena, IsLed}
use Rattle.gh_lists.specs.Seats.{leads, other}
use Rattle.gh_lists.specs.Handshake.{Setup}

-- where it ends marking it has a step to make
abbrev pub ClosingIsBusy : CoordStage → Type 0
ClosingIsBusy (Close c) = close.is_busy c.stage ≡ true
ClosingIsBusy _ = Unit {0}

-- each step leads to such a stage
goes_on : (l : Layout) (u : Coordinating) (p : CoordStage) (found : ℕ) → ClosingIsBusy u.stage → ClosingIsBusy (goes_at l u p found).stage
goes_on l u p found g = by_event l u found (λ (d : Coordinating). ClosingIsBusy d.stage) p (λ e may. grind arith)

-- Whether the cycle is the last one it finds while it looks for acknowledgements, and keeps from then on.

abbrev pub NotAcks : CoordStage → Type 0
NotAcks (LoadAck i) = ⊥
NotAcks _ = Unit {0}

abbrev Kept : Coordinating → Coordinating → Type 0
Kept u d = d.is_last ≡ u.is_last

pub keeps_last : (l : Layout) (u : Coordinating) (p : CoordStage) (found : ℕ) → NotAcks p → Kept u (goes_at l u p found)
keeps_last l u p found other = grind arith

pub last_was : (l : Layout) (u : Coordinating) (p : CoordStage) (found : ℕ) → leading.Marks (goes_at l u p found).stage → (goes_at l u p found).is_last ≡ true → u.is_last ≡ true
last_was l u p found on is = grind arith

module _ (setup : Setup) where
  abbrev n : ℕ
  n = acks_of setup.layout

  abbrev at : List (Entry Op) → ℕ → Actor
  at es a = actors_after (arena setup) setup.pacing setup.may es a

  -- who is at the coordinator's seat
  pub record IsLedThen (es : List (Entry Op)) : Type 0 where
    pub lead : Coordinating
    pub led_by : IsLed setup es lead
    pub going : ClosingIsBusy lead.stage

  -- at the begin
  abbrev opening : Coordinating
  opening = coord.opening setup.layout n setup.pacing.gogc setup.pacing.minheap setup.pacing.room

  no_processor : ltb n setup.layout.procs ≡ false
  no_processor = grind (arith, nat_tests)

  no_worker : ltb n n ≡ false
  no_worker = grind (arith, nat_tests)

  pub at_seat : at [] n ≡ Actor.Leads opening
  at_seat = rw no_processor (rw no_worker refl)

  first : IsLedThen []
  first = record { lead = opening; led_by = at_seat; going = tt }

  one_more : (e : Entry Op) (es : List (Entry Op)) → IsLedThen es → IsLedThen (e ∷ es)
  one_more e es x = go (e.actor == n) refl where
    go : (b : Bool) → (e.actor == n) ≡ b → IsLedThen (e ∷ es)
    go false b = record { lead = x.lead; led_by = other setup e es n b ∙ x.led_by; going = x.going }
    go true b =
        let end : e.actor ≡ n = grind (arith, nat_tests) in
        record {
          lead = goes setup.layout x.lead e.found;
          led_by = sym (ap (at (e ∷ es)) end) ∙ leads setup e es x.lead (ap (at es) end ∙ x.led_by);
          going = goes_on setup.layout (counted x.lead) x.lead.stage e.found x.going;
        }

  pub led_then : (es : List (Entry Op)) → IsLedThen es
  led_then [] = first
  led_then (e ∷ es) = one_more e es (led_then es)

  pub goes_then : (es : List (Entry Op)) (c : Coordinating) → IsLed setup es c → ClosingIsBusy c.stage
  goes_then es c led = let x = led_then es in let both : Actor.Leads x.lead ≡ Actor.Leads c = sym x.led_by ∙ led in let same : x.lead ≡ c = cc in subst (λ (d : Coordinating). ClosingIsBusy d.stage) same x.going
