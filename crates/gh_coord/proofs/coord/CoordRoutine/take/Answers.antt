use Rattle.std.proofs.Common.{◌∙◌, ap, subst, sym}
use Rattle.gh_coord.proofs.Vocabulary.{Coordinating, goes_at, SoundCoordinating}
use Rattle.gh_coord.proofs.PartsRoutines.{sound_stays}
use Rattle.gh_coord.proofs.coord.CoordRoutine.take.Goals as goal
use Rattle.gh_coord.proofs.coord.CoordRoutine.take.Goals.{then-is_ending, else-is_ending}

pub returns-clause-sound : goal.returns-clause-sound
returns-clause-sound c =
    let l = c.args.layout.now in
    let stays = sound_stays l (c.the_parts_are_routines.ensures l) c.args.found c.ranges.found.fits c.args.self.now c.requires.sound in
    let goes = ap (λ (m : Coordinating). goes_at l m m.stage c.args.found) c.count_mark.ensures in
    elim c.if-is_ending.branch [ then-is_ending w ↦ subst (SoundCoordinating l) (sym (w.self-is ∙ w.go_on_ending.ensures ∙ goes)) stays | else-is_ending w ↦ subst (SoundCoordinating l) (sym (w.self-is ∙ w.go_on_marking.ensures ∙ goes)) stays ]
