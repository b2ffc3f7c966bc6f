-- What holds after every legal list of steps of actors that are in the handshake.
use Rattle.std.proofs.Common.{inl, subst, ◌≡◌, ℕ, ◌+◌, ◌<◌, Bool, true, false, cond, ◌==◌, refl, sym, ◌∙◌, ap, arith, eq-eqb, List, [], ◌∷◌, Option}
use Rattle.gh_phase.proofs.Vocabulary.{Ack, Acts, Ask, Begins, cell_of, effect, Entry, first_lead, HandshakePlace, is_stop, IsAwake, IsHandshake, last_of, last_phase, Lead, LeadGoes, Leads, Legal, MayFollow, nat_tests, Party, phase_of, phase_stored, phase_word, PhaseWord, PlaceBegins, PlaceGoes, Post, run_word, RunPhase, Setting, Shakes, Stage, started, state_of, stop_word, Words, words_after}
use Rattle.gh_phase.proofs.Shaking.Leading.{announced, Good, led, Next}
use Rattle.gh_phase.proofs.Shaking.Owning.{own, OwnStep, Shown}
use Rattle.gh_phase.proofs.Shaking.Standing.{Announced, Copies, Fits, is_gone, parked, Stands}

-- what holds of the place of the actor at seat a
abbrev pub HandshakeFacts : Announced → (a ack : ℕ) → HandshakePlace → Type 0
HandshakeFacts v a ack (Acts party stage) = (party.seat ≡ a) × Stands v ack party.view stage
HandshakeFacts v a ack (Leads l) = ⊥

-- beginning an operation leaves what holds of a place
pub begins_fine : (v : Announced) (a ack : ℕ) (from to : HandshakePlace) → PlaceBegins from to → HandshakeFacts v a ack from → HandshakeFacts v a ack to
begins_fine v a ack from to h f = grind arith

pub begins_lead : (l : Lead) (from to : HandshakePlace) → PlaceBegins from to → from ≡ Leads l → to ≡ Leads l
begins_lead l from to h h2 = grind arith

-- an own step keeps what the coordinator knows
own_good : (n : ℕ) (w u : Words) (ask : Ask) (last : RunPhase) (l : Lead) (a : ℕ) → OwnStep (announced l) a w u ask → Good n w last l → Good n u (phase_stored ask last) l
own_good n w u ask last l a o g = grind arith

module _ (back : (p : PhaseWord) → phase_of (phase_word p) ≡ p) where
  pub own_place : (v : Announced) → Fits v → (a n found : ℕ) (w : Words) → Shown v w → (ask : Ask) (from to : HandshakePlace) → found ≡ w (cell_of ask) → PlaceGoes n found from ask to → HandshakeFacts v a (w (Ack a)) from →
      OwnStep v a w (effect w ask) ask × HandshakeFacts v a (effect w ask (Ack a)) to
  own_place v h a n found w s ask (Acts from stage) (Acts to next) e g f = let o = own back v h a w s found from to stage next ask e f.0 g f.1 in (o.step, (o.seat, o.stands))
  own_place v h a n found w s ask (Acts from stage) (Leads m) e g f = absurd g
  own_place v h a n found w s ask (Leads l) to e g f = absurd f

  led_place : (n found : ℕ) (last : RunPhase) (w : Words) (l : Lead) (ask : Ask) (from to : HandshakePlace) → from ≡ Leads l → found ≡ w (cell_of ask) → PlaceGoes n found from ask to → Good n w last l →
      (m : Lead) × (to ≡ Leads m) × Next n w last l ask m
  led_place n found last w l ask (Leads x) (Leads m) here e g good =
      let same : x ≡ l = cc in
      (m, refl, led back n w last found l m ask e (subst (λ (y : Lead). LeadGoes n found y ask m) same g) good)
  led_place n found last w l ask (Leads x) (Acts to next) here e g good = absurd g
  led_place n found last w l ask (Acts from stage) to here e g good = absurd cc

module _ {M O : Type 0} (setting : Setting M O) (n : ℕ) (sound : M → Type 0) (place : M → HandshakePlace) where
  abbrev pub state : List (Entry O) → ℕ → M
  state es a = state_of setting.kind a es

  pub record Inv (es : List (Entry O)) : Type 0 where
    pub lead : Lead
    pub leads : place (state es n) ≡ Leads lead
    pub good : Good n (words_after setting.opening es) (last_phase es) lead
    pub fine : (a : ℕ) → a < n → HandshakeFacts (announced lead) a (words_after setting.opening es (Ack a)) (place (state es a))
    pub sounds : (a : ℕ) → a < n + 1 → sound (state es a)

  pub state_own : (e : Entry O) (es : List (Entry O)) → state (e ∷ es) e.actor ≡ setting.kind.takes (started setting.kind e.begun (state es e.actor)) e.found
  state_own e es = rw (eq-eqb e.actor e.actor refl)

  pub state_other : (a : ℕ) (e : Entry O) (es : List (Entry O)) → (e.actor ≡ a → ⊥) → state (e ∷ es) a ≡ state es a
  state_other a e es other = grind arith

  module _ (h : IsHandshake setting n sound place) where
    -- beginning an operation keeps the place
    pub begun_place : (a : ℕ) (es : List (Entry O)) (o : Option O) → Begins setting a es o → sound (state es a) →
        sound (started setting.kind o (state es a)) × PlaceBegins (place (state es a)) (place (started setting.kind o (state es a)))
    begun_place a es o b s = grind arith

    sounds_kept : (es : List (Entry O)) (e : Entry O) → MayFollow setting es e → ((a : ℕ) → a < n + 1 → sound (state es a)) → (a : ℕ) → a < n + 1 → sound (state (e ∷ es) a)
    sounds_kept es e f s a l = grind arith

    module _ (back : (p : PhaseWord) → phase_of (phase_word p) ≡ p) where
      module _ (es : List (Entry O)) (e : Entry O) (f : MayFollow setting es e) (i : Inv es) where
        abbrev w : Words
        w = words_after setting.opening es

        abbrev m : M
        m = started setting.kind e.begun (state es e.actor)

        below : e.actor < n + 1
        below = let l = f.actor in let x = h.actors in omega arith

        both : (sound m) × PlaceBegins (place (state es e.actor)) (place m)
        both = grind arith

        gone_on : PlaceGoes n e.found (place m) e.ask (place (setting.kind.takes m e.found))
        gone_on = rw f.asks (h.takes m e.found both.0 f.runs)

        own_case : e.actor < n → Inv (e ∷ es)
        own_case small =
            let fine : HandshakeFacts (announced i.lead) e.actor (w (Ack e.actor)) (place m) = begins_fine (announced i.lead) e.actor (w (Ack e.actor)) (place (state es e.actor)) (place m) both.1 (i.fine e.actor small) in
            let next = own_place back (announced i.lead) i.good.fits e.actor n e.found w i.good.shown e.ask (place m) (place (setting.kind.takes m e.found)) f.found gone_on fine in
            record {
              lead = i.lead;
              leads = ap place (state_other n e es (λ x. omega arith)) ∙ i.leads;
              good = own_good n w (effect w e.ask) e.ask (last_phase es) i.lead e.actor next.0 i.good;
              fine = λ a l. each next a l (a == e.actor) refl;
              sounds = sounds_kept es e f i.sounds;
            } where
              each : (next : OwnStep (announced i.lead) e.actor w (effect w e.ask) e.ask × HandshakeFacts (announced i.lead) e.actor (effect w e.ask (Ack e.actor)) (place (setting.kind.takes m e.found))) →
                  (a : ℕ) → a < n → (t : Bool) → (a == e.actor) ≡ t → HandshakeFacts (announced i.lead) a (effect w e.ask (Ack a)) (place (state (e ∷ es) a))
              each next a l true x =
                  let same : a ≡ e.actor = grind (arith, nat_tests) in
                  subst (λ (y : ℕ). HandshakeFacts (announced i.lead) y (effect w e.ask (Ack y)) (place (state (e ∷ es) y))) (sym same) (rw (state_own e es) next.1)
              each next a l false x = rw (state_other a e es (λ y. grind (arith, nat_tests)), next.0.others a (λ y. grind (arith, nat_tests))) (i.fine a l)

        led_case : e.actor ≡ n → Inv (e ∷ es)
        led_case here =
            let at : place m ≡ Leads i.lead = begins_lead i.lead (place (state es e.actor)) (place m) both.1 (subst (λ (y : ℕ). place (state es y) ≡ Leads i.lead) (sym here) i.leads) in
            let next = led_place back n e.found (last_phase es) w i.lead e.ask (place m) (place (setting.kind.takes m e.found)) at f.found gone_on i.good in
            record {
              lead = next.0;
              leads = subst (λ (y : ℕ). place (state (e ∷ es) y) ≡ Leads next.0) here (rw (state_own e es) next.1);
              good = next.2.good;
              fine = λ a l. rw (state_other a e es (λ x. omega arith), next.2.acks a) (fine_kept next.0 next.2 a l (place (state es a)) (i.fine a l));
              sounds = sounds_kept es e f i.sounds;
            } where
              fine_kept : (u : Lead) → Next n w (last_phase es) i.lead e.ask u → (a : ℕ) → a < n → (p : HandshakePlace) → HandshakeFacts (announced i.lead) a (w (Ack a)) p → HandshakeFacts (announced u) a (w (Ack a)) p
              fine_kept u next a l (Acts party stage) g = (g.0, next.stands a l party.view stage g.1)
              fine_kept u next a l (Leads x) g = g

        follows : Inv (e ∷ es)
        follows = go (e.actor == n) refl where
          go : (b : Bool) → (e.actor == n) ≡ b → Inv (e ∷ es)
          go true x = led_case (grind (arith, nat_tests))
          go false x = own_case (let l = below in grind (arith, nat_tests))

      opens : Inv []
      opens = record {
        lead = first_lead;
        leads = h.leader;
        good = record { fits = record { stops = omega arith; generation = omega arith }; shown = record { phase = h.phase; generation = h.gen; begun = h.begun }; last_is = refl; acked = λ a l. absurd (omega arith) };
        fine = λ a l. rw (h.start a l, h.acks a l) (refl, (refl, record { phase = inl refl; generation = refl; begun = refl }));
        sounds = h.sound_start;
      }

      pub holds : (es : List (Entry O)) → Legal setting es → Inv es
      holds [] l = opens
      holds (e ∷ es) l = follows es e l.1 (holds es l.0)

  module _ (es : List (Entry O)) (i : Inv es) where
    acts : (a : ℕ) (party : Party) (stage : Stage) → a < n → place (state es a) ≡ Acts party stage → (party.seat ≡ a) × Stands (announced i.lead) (words_after setting.opening es (Ack a)) party.view stage
    acts a party stage l e = subst (HandshakeFacts (announced i.lead) a (words_after setting.opening es (Ack a))) e (i.fine a l)

    awake : (v : Announced) (ack : ℕ) (party : Party) (stage : Stage) → IsAwake stage → Stands v ack party.view stage → Copies v party.view
    awake v ack party stage a f = grind arith

    seated : (v : Announced) (a ack : ℕ) (q : HandshakePlace) → HandshakeFacts v a ack q → (party : Party) × (stage : Stage) × (q ≡ Acts party stage) × (party.seat ≡ a)
    seated v a ack q f = grind arith

    phase_is : (p : Post) → last_of p ≡ last_phase es → cond (is_stop p) (stop_word i.lead.stops) (run_word i.lead.stops (last_of p)) ≡ cond (is_stop p) (stop_word i.lead.stops) (run_word i.lead.stops (last_phase es))
    phase_is p e = rw e refl

    pub tells : Shakes setting n sound place es
    tells = record {
      lead = i.lead;
      leads = i.leads;
      led = record { phase_is = i.good.shown.phase ∙ phase_is i.lead.post (sym i.good.last_is); generation_is = i.good.shown.generation; begun_is = i.good.shown.begun; last_is = i.good.last_is };
      each = λ a l. seated (announced i.lead) a (words_after setting.opening es (Ack a)) (place (state es a)) (i.fine a l);
      views = λ a party stage l e y.
          let c = awake (announced i.lead) (words_after setting.opening es (Ack a)) party stage y (acts a party stage l e).1 in
          record { phase_is = rw i.good.last_is c.phase; generation_is = c.generation ∙ sym i.good.shown.generation; begun_is = c.begun ∙ sym i.good.shown.begun };
      stopped = λ phase a party stage e l x.
          parked (announced i.lead) (words_after setting.opening es (Ack a)) party.view stage i.good.fits (rw e refl) (i.good.acked a (rw e l)) (acts a party stage l x).1;
      all_sound = i.sounds;
      gone = λ a party stage l e. (is_gone (announced i.lead) (words_after setting.opening es (Ack a)) party.view stage i.good.fits (acts a party stage l e).1, λ x. subst (λ (q : Stage). Stands (announced i.lead) (words_after setting.opening es (Ack a)) party.view q) x (acts a party stage l e).1);
    }
