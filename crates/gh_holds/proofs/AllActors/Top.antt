-- The induction over lists of all actors, and what every list keeps.
use Rattle.std.proofs.Common.{◌≡◌, sym, subst, ◌∙◌, List, [], ◌∷◌, inr}
use Rattle.gh_holds.proofs.Vocabulary.{Actor, Coordinating, Entry, Given, KnowsHeap, ListsKnown, may_of, not_beginning, Op, setup_for, Wanted}
use Rattle.gh_coord.specs.Listing as coord
use Rattle.gh_holds.proofs.AllActors.Marks as marks
use Rattle.gh_holds.proofs.AllActors.MarksLast as last
use Rattle.gh_holds.proofs.AllActors.Scanned.{rests}
use Rattle.gh_holds.proofs.AllActors.Steps as steps
use Rattle.gh_lists.specs.Steps as seats

module _ (given : Given) (wanted : Wanted) (lists : ListsKnown (setup_for given)) where
  abbrev pub Lawful : List (Entry Op) → Type 0
  Lawful = steps.Lawful given wanted lists

  abbrev Led : List (Entry Op) → Coordinating → Type 0
  Led = steps.Led given wanted lists

  abbrev H : List (Entry Op) → Coordinating → Type 0
  H = steps.H given wanted lists

  abbrev Was : List (Entry Op) → Type 0
  Was = steps.Was given wanted lists

  one_more : (e : Entry Op) (es : List (Entry Op)) → Lawful (e ∷ es) → Was es → ((c : Coordinating) → Led es c → H es c) → (c : Coordinating) → Led (e ∷ es) c → H (e ∷ es) c
  one_more e es legal was before c led = by (seats.step (setup_for given) e es lists.known.writes legal (lists.keeps es legal.0)) where
    by : seats.Step (setup_for given) e es → H (e ∷ es) c
    by (seats.by_processor m x stays) = steps.by_processor given wanted lists e es legal was c m (sym stays ∙ led) x.seat x.is (before c (sym stays ∙ led))
    by (seats.by_worker w x stays) = steps.by_worker given wanted lists e es legal was c w (sym stays ∙ led) x.from x.seat x.is (before c (sym stays ∙ led))
    by (seats.by_lead b x) =
        let same : coord.goes given.layout b e.found ≡ c = (let both : Actor.Leads c ≡ Actor.Leads (coord.goes given.layout b e.found) = sym led ∙ x.then in cc) in
        subst (H (e ∷ es)) same (steps.by_lead given wanted lists e es legal was b x.is x.seat x.then (before b x.is))

  -- what was marked before a start of the list was so before the list
  was_before : (e : Entry Op) (es : List (Entry Op)) → Was (e ∷ es) → Was es
  was_before e es was start c of = was start c (inr of)

  pub holds : (es : List (Entry Op)) → Lawful es → Was es → (c : Coordinating) → Led es c → H es c
  holds [] legal was c led = steps.opens given wanted lists c led
  holds (e ∷ es) legal was c led = one_more e es legal (was_before e es was) (λ d x. holds es legal.0 (was_before e es was) d x) c led

  pub knows_heap : KnowsHeap (steps.z given wanted lists) given.pacing (may_of given.shapes given.layout given.counts)
  knows_heap = record {
    begins = λ es c legal led b was. steps.begins given wanted lists es c legal led b (holds es legal was c led);
    scanned = λ es c legal led b was. rests (setup_for given) lists es legal was c led (λ on. not_beginning c.stage on b);
    objects = marks.objects (setup_for given) lists.known;
    lasts = λ e es c then legal led led_then on x s t is was_good good_then k ge went left none words_are. last.lasts (setup_for given) lists e es legal ge (record { lead = then; led = led_then; on = on }) x s t (record { known = k; good = was_good; good_then = good_then; went = went; none = none; words_are = words_are });
  }
