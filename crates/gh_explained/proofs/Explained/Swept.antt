-- Whichever operation is a `gc`, it is answered `swept`, and had waited for a cycle.
use Rattle.std.proofs.Common.{◌≡◌, ℕ, Bool, true, false, List, ◌∷◌, refl, sym, ap, subst, inl, ◌∙◌}
use Rattle.gh_explained.proofs.Vocabulary.{Act, acts, answer_of, Answered, arena_of, Awaits, before_step, EachGcWaits, Entry, ever_of, FoundSwept, full_there, FullOnlyThere, has_point, IsFullFor, Layout, Legal, Op, Program, setting_of, setup_of, words_in}
use Rattle.gh_explained.proofs.Explained.Acting.{acts_there, ActsThere, pointed}

module _ (p : Program) (l : Layout) (awaits : (es : List (Entry Op)) → Legal (setting_of p l) es → Awaits (setup_of p l) es) where
  found_swept : (es : List (Entry Op)) (i g : ℕ) (x : Answered) (full : Bool) → ActsThere p l es i x full → x.op ≡ Op.Gc g → FoundSwept p l es i x
  found_swept es i g x false t is =
      let s = t.step in
      let m = before_step p.shapes l s.before s.entry in
      let act : Act = record { op = x.op; full = false } in
      let has = awaits (s.entry ∷ s.before) t.legal s.entry s.before act (inl refl) (pointed act (acts l m s.entry.found) s.acted (ap has_point is)) in
      record {
        step = s;
        waited = has.gc g is;
        given = has.answered g is;
        answer = sym t.answered_so ∙ ap (answer_of p.shapes (ever_of p.shapes l s.before)) is;
      }
  found_swept es i g x true t is =
      let s = t.step in
      absurd (subst (IsFullFor (arena_of p.shapes l) s.entry.actor (words_in p l s.before)) is (full_there p l s.before s.entry t.room (record { op = x.op; full = true }) s.acted refl))

  pub gcs_wait : (es : List (Entry Op)) → Legal (setting_of p l) es → FullOnlyThere (arena_of p.shapes l) (setting_of p l).opening es → EachGcWaits p l es
  gcs_wait es legal room i g x at is = let t = acts_there p l es legal room i x at in found_swept es i g x t.0 t.1 is
