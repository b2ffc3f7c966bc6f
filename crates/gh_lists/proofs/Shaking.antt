-- Every legal list of processors, workers and a coordinator keeps the handshake.
use Rattle.std.proofs.Common.{◌≡◌, ℕ, ◌<◌, true, false, arith}
use Rattle.gh_lists.proofs.Vocabulary.{acks_of, Actor, actor_takes, Acts, asks, Awake, first_lead, first_party, HandshakePlace, IsHandshake, Leads, LeadsHandshake, Op, place_of, PlaceBegins, PlaceGoes, ProcessorInHandshake, ProcessorWritesItsOwn, Setup, Sound, start, those, WorkersKeepHandshake}
use Rattle.gh_lists.specs.Handshake.{begins, is_busy}

module _ (setup : Setup) (places : ProcessorInHandshake) (writes : ProcessorWritesItsOwn) (c : LeadsHandshake) (w : WorkersKeepHandshake) where
  abbrev place : Actor → HandshakePlace
  place = place_of

  begun_sound : (m : Actor) (o : Op) → Sound setup.layout m → is_busy m ≡ false → Sound setup.layout (begins setup.shapes setup.layout m o)
  begun_sound m o s b = grind arith

  begun_place : (m : Actor) (o : Op) → Sound setup.layout m → is_busy m ≡ false → PlaceBegins (place m) (place (begins setup.shapes setup.layout m o))
  begun_place m o s b = grind arith

  taken_sound : (m : Actor) (found : ℕ) → Sound setup.layout m → is_busy m ≡ true → Sound setup.layout (actor_takes setup.shapes setup.layout m found)
  taken_sound (Actor.Runs m) found s b = writes.sound_takes setup.layout setup.shapes m found s b
  taken_sound (Actor.Marks x) found s b = (w.keeps setup.layout).stays_sound x found s b
  taken_sound (Actor.Leads x) found s b = c.stays_sound setup.layout x found s b

  taken_place : (m : Actor) (found : ℕ) → Sound setup.layout m → is_busy m ≡ true → PlaceGoes (acks_of setup.layout) found (place m) (asks setup.layout m) (place (actor_takes setup.shapes setup.layout m found))
  taken_place (Actor.Runs m) found s b = places.takes_so setup.layout setup.shapes m found s.place b
  taken_place (Actor.Marks x) found s b = (w.keeps setup.layout).goes x found s b
  taken_place (Actor.Leads x) found s b = c.goes setup.layout x found s b

  first_place : (a : ℕ) → a < acks_of setup.layout → place (start setup.layout setup.pacing a) ≡ Acts (first_party a) Awake
  first_place a m = grind arith

  last_place : place (start setup.layout setup.pacing (acks_of setup.layout)) ≡ Leads first_lead
  last_place = grind arith

  first_sound : (a : ℕ) → Sound setup.layout (start setup.layout setup.pacing a)
  first_sound a = grind arith

  pub in_handshake : IsHandshake (those setup) (acks_of setup.layout) (Sound setup.layout) place
  in_handshake = grind (arith, begun_place, begun_sound, first_place, first_sound, last_place, taken_place, taken_sound)
