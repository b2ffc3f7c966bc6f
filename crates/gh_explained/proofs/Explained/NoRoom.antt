-- Whichever operation is answered `full`, it acted where there was no room, and had waited for a cycle.
use Rattle.std.proofs.Common.{◌≡◌, ℕ, Bool, true, false, List, ◌∷◌, refl, inl, ◌∙◌, arith}
use Rattle.gh_explained.proofs.Vocabulary.{Act, acts, Answer, answer_of, Answered, arena_of, Awaits, before_step, Entry, Ever, ever_of, FoundNoRoom, full_pointed, full_there, FullMeansNoRoom, FullOnlyThere, Layout, Legal, Op, Program, setting_of, setup_of, Shape}
use Rattle.gh_explained.proofs.Explained.Acting.{acts_there, ActsThere, pointed}

ever_no_full : (shapes : List Shape) (e : Ever) (o : Op) → answer_of shapes e o ≡ Answer.Full → ⊥
ever_no_full shapes e o full = grind arith

module _ (p : Program) (l : Layout) (awaits : (es : List (Entry Op)) → Legal (setting_of p l) es → Awaits (setup_of p l) es) where
  found_none : (es : List (Entry Op)) (i : ℕ) (x : Answered) (full : Bool) → ActsThere p l es i x full → x.answer ≡ Answer.Full → FoundNoRoom p l es i x.op
  found_none es i x true t is =
      let s = t.step in
      let m = before_step p.shapes l s.before s.entry in
      let act : Act = record { op = x.op; full = true } in
      record {
        step = s;
        no_room = full_there p l s.before s.entry t.room act s.acted refl;
        waited = (awaits (s.entry ∷ s.before) t.legal s.entry s.before act (inl refl) (pointed act (acts l m s.entry.found) s.acted (full_pointed l m m.task s.entry.found act s.acted refl))).full refl;
      }
  found_none es i x false t is = absurd (ever_no_full p.shapes (ever_of p.shapes l t.step.before) x.op (t.answered_so ∙ is))

  pub full_means : (es : List (Entry Op)) → Legal (setting_of p l) es → FullOnlyThere (arena_of p.shapes l) (setting_of p l).opening es → FullMeansNoRoom p l es
  full_means es legal room i x at is = let t = acts_there p l es legal room i x at in found_none es i x t.0 t.1 is
