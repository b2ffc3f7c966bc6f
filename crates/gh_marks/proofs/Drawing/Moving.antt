-- How each move of marking is drawn.
use Rattle.std.proofs.Common.{ℕ, ◌+◌, ◌≤◌, arith}
use Rattle.gh_marks.proofs.Vocabulary.{Blacken, ClaimGlobal, Cycle, EachMoveIsDrawn, EachMoveKeeps, EachStepIsDrawn, EndStack, Enter, GiveBuffer, goes, Good, IsDrawn, many, May, moved, PassGlobals, Place, PutField, PutGlobal, Quiet, ReadGlobal, Reserve, Row, ScanGlobal, ScanStack, SetRegister, Shade, ShadeAgain, ShadeFlat, Shared, Shows, TakeBuffer, TakeEntry, Tricolour, Went}
use Rattle.gh_marks.specs.Moves.{stays}
use Rattle.gh_marks.proofs.Drawing.Still.{again-drawn, claim-drawn, enter-drawn, give_buffer-drawn, pass-drawn, quiet-drawn, read-drawn, reserve-drawn, take_buffer-drawn, take_entry-drawn}
use Rattle.gh_tri.specs.Steps as tri
use Rattle.gh_marks.proofs.Drawing.Runs.{goes-then}
use Rattle.gh_marks.proofs.Drawing.Storing.{put_field-drawn, put_global-drawn}
use Rattle.gh_marks.proofs.Drawing.Globals.{scan_global-drawn}
use Rattle.gh_marks.proofs.Drawing.Stacks.{end_stack-drawn, scan_stack-drawn, set_register-drawn}
use Rattle.gh_marks.proofs.Drawing.Placing.{place-drawn}
use Rattle.gh_marks.proofs.Drawing.Colouring.{shade-drawn, flat-drawn, blacken-drawn}

pub each-move-is-drawn : EachMoveIsDrawn
each-move-is-drawn z a s (Quiet step) at p room g may sh fits = quiet-drawn z a s at p room g sh fits step may
each-move-is-drawn z a s (Shade o) at p room g may sh fits = shade-drawn z a s at p room g sh fits o may
each-move-is-drawn z a s (ShadeFlat o) at p room g may sh fits = flat-drawn z a s at p room g sh fits o may
each-move-is-drawn z a s (ShadeAgain o) at p room g may sh fits = again-drawn z a s at p room g sh fits o may
each-move-is-drawn z a s (TakeBuffer b) at p room g may sh fits = take_buffer-drawn z a s at p room g sh fits b may
each-move-is-drawn z a s (GiveBuffer b) at p room g may sh fits = give_buffer-drawn z a s at p room g sh fits b may
each-move-is-drawn z a s (Enter b o) at p room g may sh fits = enter-drawn z a s at p room g sh fits b o may
each-move-is-drawn z a s (TakeEntry b o) at p room g may sh fits = take_entry-drawn z a s at p room g sh fits b o may
each-move-is-drawn z a s (Blacken o) at p room g may sh fits = blacken-drawn z a s at p room g sh fits o may
each-move-is-drawn z a s (PutField x value) at p room g may sh fits = put_field-drawn z a s at p room g sh fits x value may
each-move-is-drawn z a s (PutGlobal i value) at p room g may sh fits = put_global-drawn z a s at p room g sh fits i value may
each-move-is-drawn z a s (ClaimGlobal i) at p room g may sh fits = claim-drawn z a s at p room g sh fits i may
each-move-is-drawn z a s (PassGlobals i) at p room g may sh fits = pass-drawn z a s at p room g sh fits i may
each-move-is-drawn z a s (ReadGlobal i) at p room g may sh fits = read-drawn z a s at p room g sh fits i may
each-move-is-drawn z a s (ScanGlobal i value) at p room g may sh fits = scan_global-drawn z a s at p room g sh fits i value may
each-move-is-drawn z a s (SetRegister h d value) at p room g may sh fits = set_register-drawn z a s at p room g sh fits h d value may
each-move-is-drawn z a s (ScanStack h) at p room g may sh fits = scan_stack-drawn z a s at p room g sh fits h may
each-move-is-drawn z a s (EndStack h) at p room g may sh fits = end_stack-drawn z a s at p room g sh fits h may.0
each-move-is-drawn z a s (Reserve o) at p room g may sh fits = reserve-drawn z a s at p room g sh fits o may
each-move-is-drawn z a s (Place o size pointer noscan h d) at p room g may sh fits = place-drawn z a s at p room g sh fits o size pointer noscan h d may

module _ (keep : EachMoveKeeps) (z : Cycle) (a : ℕ) (s : Shared) (good : Good z s) where
  good-went : (t : Shared) → Went z a s t → Good z t
  good-went t stays = good
  good-went t (goes u m went may) = keep z a u m (good-went u went) may

  module _ (at : Row) (p : Tricolour) (shows : Shows z s at p) where
    -- one move more
    drawn-then : (u : Shared) (room : ℕ) → Good z u → IsDrawn z u p (room + 1) → (m : _) → May z a u m → IsDrawn z (moved z a u m) p room
    drawn-then u room known d m may =
        let e = each-move-is-drawn z a u m d.at d.picture room known may d.shows d.room_left in
        record { picture = e.picture; at = e.at; goes = goes-then p d.picture e.picture d.goes e.goes; shows = e.shows; room_left = e.room_left }

    steps-drawn : (t : Shared) (went : Went z a s t) (room : ℕ) → p.objects + (room + many z a s t went) ≤ p.limit → IsDrawn z t p room
    steps-drawn t stays room fits = record { picture = p; at = at; goes = tri.stays; shows = shows; room_left = omega arith }
    steps-drawn t (goes u m went may) room fits = drawn-then u room (good-went u went) (steps-drawn u went (room + 1) (less fits)) m may where
      less : p.objects + (room + (many z a s u went + 1)) ≤ p.limit → p.objects + ((room + 1) + many z a s u went) ≤ p.limit
      less f = omega arith

pub each-step-is-drawn : EachMoveKeeps → EachStepIsDrawn
each-step-is-drawn keep z a s t went at p room good shows fits = steps-drawn keep z a s good at p shows t went room fits
