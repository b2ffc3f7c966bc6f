-- One step of the coordinator in the handshake.
use Rattle.std.proofs.Common.{subst, ◌≡◌, ℕ, ◌^◌, ◌<◌, refl, ◌∙◌, ap, arith}
use Rattle.gh_phase.proofs.Vocabulary.{Ack, Ask, begins, Begun, behind_ack, Calm, cell_of, effect, ends, Finished, finishes, Gen, goes, is_stop, IsAcked, IsQuietInHandshake, last_of, Lead, LeadGoes, Load, Looks, next_cycle, next_generation, next_stop, Off, Phase, phase_of, phase_stored, phase_word, PhaseWord, Post, quiet, run_word, RunPhase, sees, Stage, stop_word, Stopped, stops, Store, View, Words}
use Rattle.gh_phase.proofs.Shaking.Owning.{Shown, still}
use Rattle.gh_phase.proofs.Shaking.Standing.{Announced, Fits, keeps_finish, keeps_parked, keeps_stop, next_fits, parked, run_told, Stands, stop_told}

abbrev pub announced : Lead → Announced
announced l = record { stops = l.stops; on = is_stop l.post; phase = last_of l.post; generation = l.generation; begun = l.begun }

-- the acknowledgements below this have been seen
abbrev pub seen_to : ℕ → Post → ℕ
seen_to n (Calm phase) = 0
seen_to n (Looks phase ack) = ack
seen_to n (Stopped phase) = n

pub record Good (n : ℕ) (w : Words) (last : RunPhase) (l : Lead) : Type 0 where
  pub fits : Fits (announced l)
  pub shown : Shown (announced l) w
  pub last_is : last ≡ last_of l.post
  pub acked : (a : ℕ) → a < seen_to n l.post → IsAcked l.stops (w (Ack a))

pub record Next (n : ℕ) (w : Words) (last : RunPhase) (l : Lead) (ask : Ask) (m : Lead) : Type 0 where
  pub good : Good n (effect w ask) (phase_stored ask last) m
  pub acks : (a : ℕ) → effect w ask (Ack a) ≡ w (Ack a)
  pub stands : (a : ℕ) → a < n → (known : View) (stage : Stage) → Stands (announced l) (w (Ack a)) known stage → Stands (announced m) (w (Ack a)) known stage

next_generation_fits : (h : ℕ) → next_generation h < 2 ^ 34
next_generation_fits h = omega arith

module _ (back : (p : PhaseWord) → phase_of (phase_word p) ≡ p) (n : ℕ) (w : Words) (last : RunPhase) (s k h : ℕ) where
  stored_stop : (number : ℕ) → phase_stored (Store Phase (stop_word number)) last ≡ last
  stored_stop number = rw (stop_told back number) refl

  stored_run : (phase : RunPhase) → phase_stored (Store Phase (run_word s phase)) last ≡ phase
  stored_run phase = rw (run_told back s phase) refl

  -- the coordinator at a post
  abbrev at : Post → Lead
  at p = record { stops = s; begun = k; generation = h; post = p }

  lead_quiet : (p : Post) (ask : Ask) → IsQuietInHandshake ask → Good n w last (at p) → Next n w last (at p) ask (at p)
  lead_quiet p ask q g =
      let t = still w ask q in
      record {
        good = record {
          fits = g.fits;
          shown = record { phase = t.phase ∙ g.shown.phase; generation = t.generation ∙ g.shown.generation; begun = t.begun ∙ g.shown.begun };
          last_is = t.last last ∙ g.last_is;
          acked = λ a l. rw (t.acks a) (g.acked a l);
        };
        acks = t.acks;
        stands = λ a l known stage f. f;
      }

  lead_stops : (phase : RunPhase) → Good n w last (at (Calm phase)) → Next n w last (at (Calm phase)) (Store Phase (stop_word (next_stop s))) (record { stops = next_stop s; begun = k; generation = h; post = Looks phase 0 })
  lead_stops phase g = record {
    good = record {
      fits = record { stops = next_fits s; generation = g.fits.generation };
      shown = record { phase = refl; generation = g.shown.generation; begun = g.shown.begun };
      last_is = stored_stop (next_stop s) ∙ g.last_is;
      acked = λ a l. absurd (omega arith);
    };
    acks = λ a. refl;
    stands = λ a l known stage f. keeps_stop (announced (at (Calm phase))) (w (Ack a)) known stage g.fits refl f;
  }

  lead_sees : (phase : RunPhase) (ack : ℕ) → IsAcked s (w (Ack ack)) → Good n w last (at (Looks phase ack)) → Next n w last (at (Looks phase ack)) (Load (Ack ack)) (at (behind_ack n phase ack))
  lead_sees phase ack e g = record { good = grind arith; acks = grind arith; stands = grind arith }

  -- in a stopped world anything may be announced, save another stop
  parked_stand : (phase : RunPhase) (u : Announced) → u.stops ≡ s → Good n w last (at (Stopped phase)) → (a : ℕ) → a < n → (known : View) (stage : Stage) → Stands (announced (at (Stopped phase))) (w (Ack a)) known stage → Stands u (w (Ack a)) known stage
  parked_stand phase u e g a l known stage f = keeps_parked (announced (at (Stopped phase))) u (w (Ack a)) known stage e (parked (announced (at (Stopped phase))) (w (Ack a)) known stage g.fits refl (g.acked a l) f) f

  lead_begins : (phase : RunPhase) → Good n w last (at (Stopped phase)) → Next n w last (at (Stopped phase)) (Store Begun (next_cycle k)) (record { stops = s; begun = next_cycle k; generation = h; post = Stopped phase })
  lead_begins phase g = record {
    good = record { fits = record { stops = g.fits.stops; generation = g.fits.generation }; shown = record { phase = g.shown.phase; generation = g.shown.generation; begun = refl }; last_is = g.last_is; acked = g.acked };
    acks = λ a. refl;
    stands = parked_stand phase (announced (record { stops = s; begun = next_cycle k; generation = h; post = Stopped phase })) refl g;
  }

  lead_ends : (phase : RunPhase) → Good n w last (at (Stopped phase)) → Next n w last (at (Stopped phase)) (Store Gen (next_generation h)) (record { stops = s; begun = k; generation = next_generation h; post = Stopped phase })
  lead_ends phase g = record {
    good = record { fits = record { stops = g.fits.stops; generation = next_generation_fits h }; shown = record { phase = g.shown.phase; generation = refl; begun = g.shown.begun }; last_is = g.last_is; acked = g.acked };
    acks = λ a. refl;
    stands = parked_stand phase (announced (record { stops = s; begun = k; generation = next_generation h; post = Stopped phase })) refl g;
  }

  lead_goes : (phase next : RunPhase) → Good n w last (at (Stopped phase)) → Next n w last (at (Stopped phase)) (Store Phase (run_word s next)) (at (Calm next))
  lead_goes phase next g = record {
    good = record { fits = record { stops = g.fits.stops; generation = g.fits.generation }; shown = record { phase = refl; generation = g.shown.generation; begun = g.shown.begun }; last_is = stored_run next; acked = λ a l. absurd (omega arith) };
    acks = λ a. refl;
    stands = parked_stand phase (announced (at (Calm next))) refl g;
  }

  lead_finishes : Good n w last (at (Calm Off)) → Next n w last (at (Calm Off)) (Store Phase (run_word s Finished)) (at (Calm Finished))
  lead_finishes g = record {
    good = record { fits = record { stops = g.fits.stops; generation = g.fits.generation }; shown = record { phase = refl; generation = g.shown.generation; begun = g.shown.begun }; last_is = stored_run Finished; acked = λ a l. absurd (omega arith) };
    acks = λ a. refl;
    stands = λ a l known stage f. keeps_finish (announced (at (Calm Off))) (w (Ack a)) known stage refl f;
  }

pub led : (back : (p : PhaseWord) → phase_of (phase_word p) ≡ p) (n : ℕ) (w : Words) (last : RunPhase) (found : ℕ) (l m : Lead) (ask : Ask) → found ≡ w (cell_of ask) → LeadGoes n found l ask m → Good n w last l → Next n w last l ask m
led back n w last found l m ask e (quiet q same) g = rw same (lead_quiet back n w last l.stops l.begun l.generation l.post ask q g)
led back n w last found l m ask e (stops phase small here is to) g = rest l.post here g where
  rest : (p : Post) → p ≡ Calm phase → Good n w last (record l { post = p }) → Next n w last (record l { post = p }) ask m
  rest p x y = rw (x, is, to) (lead_stops back n w last l.stops l.begun l.generation phase (rw x at y))
led back n w last found l m ask e (sees phase ack here is seen to) g = rest l.post here g where
  at : IsAcked l.stops (w (Ack ack))
  at = subst (IsAcked l.stops) (e ∙ ap (λ (x : Ask). w (cell_of x)) is) seen

  rest : (p : Post) → p ≡ Looks phase ack → Good n w last (record l { post = p }) → Next n w last (record l { post = p }) ask m
  rest p x y = rw (x, is, to) (lead_sees back n w last l.stops l.begun l.generation phase ack at (rw x at y))
led back n w last found l m ask e (begins phase here is to) g = rest l.post here g where
  rest : (p : Post) → p ≡ Stopped phase → Good n w last (record l { post = p }) → Next n w last (record l { post = p }) ask m
  rest p x y = rw (x, is, to, here) (lead_begins back n w last l.stops l.begun l.generation phase (rw x at y))
led back n w last found l m ask e (ends phase here is to) g = rest l.post here g where
  rest : (p : Post) → p ≡ Stopped phase → Good n w last (record l { post = p }) → Next n w last (record l { post = p }) ask m
  rest p x y = rw (x, is, to, here) (lead_ends back n w last l.stops l.begun l.generation phase (rw x at y))
led back n w last found l m ask e (goes phase next small here is to) g = rest l.post here g where
  rest : (p : Post) → p ≡ Stopped phase → Good n w last (record l { post = p }) → Next n w last (record l { post = p }) ask m
  rest p x y = rw (x, is, to) (lead_goes back n w last l.stops l.begun l.generation phase next (rw x at y))
led back n w last found l m ask e (finishes here is to) g = rest l.post here g where
  rest : (p : Post) → p ≡ Calm Off → Good n w last (record l { post = p }) → Next n w last (record l { post = p }) ask m
  rest p x y = rw (x, is, to) (lead_finishes back n w last l.stops l.begun l.generation (rw x at y))
