-- What one entry more leaves: who is gone stays gone, the last phase stays, and in a stopped world nobody but the coordinator moves.
use Rattle.std.proofs.Common.{subst, ◌≡◌, ℕ, ◌<◌, Bool, true, false, ◌==◌, refl, sym, ◌∙◌, arith, List, ◌∷◌}
use Rattle.gh_phase.proofs.Vocabulary.{Ack, Acts, cell_of, Entry, Finished, FinishedStays, GONE, Gone, GoneStay, HandshakePlace, is_stop, IsAcked, IsHandshake, IsParked, last_phase, Leads, Legal, Load, nat_tests, NobodyMoves, Phase, phase_of, phase_stored, phase_word, PhaseWord, PlaceBegins, PlaceGoes, Setting, Stage, StageGoes, started, state_of, stop_word, Stopped, words_after}
use Rattle.gh_phase.proofs.Shaking.Leading.{announced}
use Rattle.gh_phase.proofs.Shaking.Lists.{begins_fine, begins_lead, begun_place, HandshakeFacts, holds, Inv, own_place, state_other, state_own}
use Rattle.gh_phase.proofs.Shaking.Standing.{Announced, Fits, is_gone, parked, Stands, word_of}

module _ (back : (p : PhaseWord) → phase_of (phase_word p) ≡ p) {M O : Type 0} (setting : Setting M O) (n : ℕ) (sound : M → Type 0) (place : M → HandshakePlace) (h : IsHandshake setting n sound place) (e : Entry O) (es : List (Entry O)) (legal : Legal setting (e ∷ es)) where
  abbrev acked : ℕ → ℕ
  acked a = words_after setting.opening es (Ack a)

  abbrev at : ℕ → HandshakePlace
  at a = place (state_of setting.kind a es)

  abbrev moved : M
  moved = started setting.kind e.begun (state_of setting.kind e.actor es)

  before : Inv setting n sound place es
  before = holds setting n sound place h back es legal.0

  both : (sound moved) × PlaceBegins (at e.actor) (place moved)
  both = begun_place setting n sound place h e.actor es e.begun legal.1.begins (before.sounds e.actor (let l = legal.1.actor in let x = h.actors in omega arith))

  goes_on : PlaceGoes n e.found (place moved) e.ask (place (state_of setting.kind e.actor (e ∷ es)))
  goes_on = rw (state_own setting n sound place e es, legal.1.asks) (h.takes moved e.found both.0 legal.1.runs)

  fine : e.actor < n → HandshakeFacts (announced before.lead) e.actor (acked e.actor) (place moved)
  fine l = begins_fine (announced before.lead) e.actor (acked e.actor) (at e.actor) (place moved) both.1 (before.fine e.actor l)

  -- one that is gone makes no step
  gone_rests : (from to : HandshakePlace) (v : Announced) (a ack : ℕ) → Fits v → HandshakeFacts v a ack from → ack ≡ GONE → PlaceGoes n e.found from e.ask to → ⊥
  gone_rests from to v a ack x f y g = grind arith

  pub gone_stay : GoneStay setting n place e es
  gone_stay a l y = go (e.actor == a) refl where
    i : Inv setting n sound place es
    i = before

    j : Inv setting n sound place (e ∷ es)
    j = holds setting n sound place h back (e ∷ es) legal

    kept : (p : HandshakePlace) → HandshakeFacts (announced i.lead) a (acked a) p → HandshakeFacts (announced j.lead) a (words_after setting.opening (e ∷ es) (Ack a)) p → words_after setting.opening (e ∷ es) (Ack a) ≡ GONE
    kept (Acts party stage) f g = rest stage (is_gone (announced i.lead) (acked a) party.view stage i.good.fits f.1 y) g.1 where
      rest : (p : Stage) → p ≡ Gone → Stands (announced j.lead) (words_after setting.opening (e ∷ es) (Ack a)) party.view p → words_after setting.opening (e ∷ es) (Ack a) ≡ GONE
      rest p z g = rw z at g
    kept (Leads x) f g = absurd f

    go : (b : Bool) → (e.actor == a) ≡ b → words_after setting.opening (e ∷ es) (Ack a) ≡ GONE
    go true x =
        let same : e.actor ≡ a = grind (arith, nat_tests) in
        let here : acked e.actor ≡ GONE = subst (λ (z : ℕ). acked z ≡ GONE) (sym same) y in
        let low : e.actor < n = subst (λ (z : ℕ). z < n) (sym same) l in
        absurd (gone_rests (place moved) (place (state_of setting.kind e.actor (e ∷ es))) (announced i.lead) e.actor (acked e.actor) i.good.fits (fine low) here goes_on)
    go false x = kept (at a) (i.fine a l) (rw (← state_other setting n sound place a e es (λ z. grind (arith, nat_tests))) (j.fine a l))

  -- a step of who waits at the stop that stands
  waits : (v : Announced) (from to : HandshakePlace) → Fits v → v.on ≡ true → (a ack : ℕ) → HandshakeFacts v a ack from → IsAcked v.stops ack → e.found ≡ words_after setting.opening es (cell_of e.ask) → words_after setting.opening es Phase ≡ word_of v → PlaceGoes n e.found from e.ask to →
      (e.ask ≡ Load Phase) × (e.found ≡ stop_word v.stops) × (to ≡ from)
  waits v (Acts party stage) (Acts to next) x on a ack f k found phase g = rest stage (parked v ack party.view stage x on k f.1) g where
    rest : (p : Stage) → IsParked v.stops p → StageGoes e.found party p e.ask to next → (e.ask ≡ Load Phase) × (e.found ≡ stop_word v.stops) × (Acts to next ≡ Acts party p)
    rest p y g = grind arith
  waits v (Acts party stage) (Leads l) x on a ack f k found phase g = absurd g
  waits v (Leads l) to x on a ack f k found phase g = absurd f

  parked_begins : (v : Announced) (a ack : ℕ) (from to : HandshakePlace) → Fits v → v.on ≡ true → IsAcked v.stops ack → HandshakeFacts v a ack from → PlaceBegins from to → to ≡ from
  parked_begins v a ack from to x on k f h = grind arith

  pub nobody_moves : NobodyMoves setting n place e es
  nobody_moves lead phase here stopped l =
      let same : before.lead ≡ lead = (let both : Leads before.lead ≡ Leads lead = sym before.leads ∙ here in cc) in
      let post : before.lead.post ≡ Stopped phase = rw same stopped in
      let on : is_stop before.lead.post ≡ true = rw post refl in
      let seen : IsAcked before.lead.stops (acked e.actor) = before.good.acked e.actor (rw post l) in
      let still = parked_begins (announced before.lead) e.actor (acked e.actor) (at e.actor) (place moved) before.good.fits on seen (before.fine e.actor l) both.1 in
      let all = waits (announced before.lead) (place moved) (place (state_of setting.kind e.actor (e ∷ es))) before.good.fits on e.actor (acked e.actor) (fine l) seen legal.1.found before.good.shown.phase goes_on in
      (all.0, all.1 ∙ rw same refl, all.2 ∙ still)

  led_place_finished : (from to : HandshakePlace) → from ≡ Leads before.lead → PlaceGoes n e.found from e.ask to → last_phase es ≡ Finished → phase_stored e.ask (last_phase es) ≡ Finished
  led_place_finished from to here g f = grind arith

  pub finished_stays : FinishedStays e es
  finished_stays f = go (e.actor == n) refl where
    go : (b : Bool) → (e.actor == n) ≡ b → last_phase (e ∷ es) ≡ Finished
    go true x =
        let here : n ≡ e.actor = grind (arith, nat_tests) in
        led_place_finished (place moved) (place (state_of setting.kind e.actor (e ∷ es))) (begins_lead before.lead (at e.actor) (place moved) both.1 (subst (λ (y : ℕ). place (state_of setting.kind y es) ≡ Leads before.lead) here before.leads)) goes_on f
    go false x =
        let low : e.actor < n = (let l = legal.1.actor in let y = h.actors in grind (arith, nat_tests)) in
        let o = own_place back (announced before.lead) before.good.fits e.actor n e.found (words_after setting.opening es) before.good.shown e.ask (place moved) (place (state_of setting.kind e.actor (e ∷ es))) legal.1.found goes_on (fine low) in
        o.0.last (last_phase es) ∙ f
