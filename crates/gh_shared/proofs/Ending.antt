-- A worker and the coordinator begin no operation, and run until they are done.
use Rattle.std.proofs.Common.{◌≡◌, ℕ, ◌+◌, Bool, true, false, List, [], ◌∷◌, ◌++◌, refl, sym, ap, ◌∙◌, subst, None, arith}
use Rattle.gh_shared.proofs.Vocabulary.{asked_by, asks, by, Coordinating, CoordinatorGoesOn, ended_at, ended_in, entries_made, Entry, goes, GoesOnUntilDone, has_left, HasNext, HeapActor, is_busy, IsKeptByHandle, IsOther, Layout, Leads, machine_after, Marks, Me, Mutating, Op, Planned, Ran, requests_begun, Runs, View}
use Rattle.gh_coord.specs.Listing as coord
use Rattle.gh_worker.specs.Listing as worker
use Rattle.gh_worker.specs.Listing.{Working}
use Rattle.gh_shared.proofs.Keeping.{by_made, same_then}

-- ---- the entries

module _ (l : Layout) (a : ℕ) (x : HeapActor) (own : List (Entry Op)) where
  abbrev Made : List ℕ → List (Entry Op)
  Made founds = entries_made (asks l) (goes l) a None x founds ++ own

  same_asked : (g : ℕ) (founds : List ℕ) → asked_by g (Made founds) ≡ 0 + asked_by g own
  same_asked g [] = omega arith
  same_asked g (n ∷ []) = refl
  same_asked g (n ∷ (k ∷ ks)) = let rest = same_asked g (k ∷ ks) in omega (arith, rest)

  same_all : (founds : List ℕ) → requests_begun (Made founds) ≡ 0 + requests_begun own
  same_all [] = omega arith
  same_all (n ∷ []) = refl
  same_all (n ∷ (k ∷ ks)) = let rest = same_all (k ∷ ks) in omega (arith, rest)

  same_ended : (g : ℕ) (founds : List ℕ) → ended_in (Made founds) g ≡ ended_in own g
  same_ended g [] = refl
  same_ended g (n ∷ []) = refl
  same_ended g (n ∷ (k ∷ ks)) = same_ended g (k ∷ ks)

  same_left : (founds : List ℕ) → has_left (Made founds) ≡ has_left own
  same_left [] = refl
  same_left (n ∷ []) = refl
  same_left (n ∷ (k ∷ ks)) = same_left (k ∷ ks)

-- ---- the machine

marks_after : (l : Layout) (w : Working) (founds : List ℕ) → machine_after (goes l) (Marks w) founds ≡ Marks (machine_after (worker.goes l) w founds)
marks_after l w [] = refl
marks_after l w (n ∷ ns) = ap (λ (x : HeapActor). goes l x n) (marks_after l w ns)

leads_after : (l : Layout) (c : Coordinating) (founds : List ℕ) → machine_after (goes l) (Leads c) founds ≡ Leads (machine_after (coord.goes l) c founds)
leads_after l c [] = refl
leads_after l c (n ∷ ns) = ap (λ (x : HeapActor). goes l x n) (leads_after l c ns)

next_on : (l : Layout) (c : Coordinating) (found : ℕ) → GoesOnUntilDone → HasNext c → HasNext (coord.goes l c found)
next_on l c found law h = grind arith

next_after : (l : Layout) (c : Coordinating) (founds : List ℕ) → GoesOnUntilDone → HasNext c → HasNext (machine_after (coord.goes l) c founds)
next_after l c [] law h = h
next_after l c (n ∷ ns) law h = next_on l (machine_after (coord.goes l) c ns) n law (next_after l c ns law h)

goes_on_after : (l : Layout) (x x' : HeapActor) (founds : List ℕ) → GoesOnUntilDone → CoordinatorGoesOn x → IsOther x → x' ≡ machine_after (goes l) x founds → CoordinatorGoesOn x'
goes_on_after l (Runs m) x' founds law h is after c e = absurd is
goes_on_after l (Marks w) x' founds law h is after c e = let no : Marks (machine_after (worker.goes l) w founds) ≡ Leads c = sym (marks_after l w founds) ∙ sym after ∙ e in absurd cc
goes_on_after l (Leads d) x' founds law h is after c e =
    let all : Leads (machine_after (coord.goes l) d founds) ≡ Leads c = sym (leads_after l d founds) ∙ sym after ∙ e in
    let same : machine_after (coord.goes l) d founds ≡ c = cc in
    subst HasNext same (next_after l d founds law (h d refl))

no_processor : (l : Layout) (x x' : HeapActor) (founds : List ℕ) → IsOther x → x' ≡ machine_after (goes l) x founds → (m : Mutating) → x' ≡ Runs m → ⊥
no_processor l (Runs m) x' founds is after n e = is
no_processor l (Marks w) x' founds is after n e = let no : Marks (machine_after (worker.goes l) w founds) ≡ Runs n = sym (marks_after l w founds) ∙ sym after ∙ e in absurd cc
no_processor l (Leads c) x' founds is after n e = let no : Leads (machine_after (coord.goes l) c founds) ≡ Runs n = sym (leads_after l c founds) ∙ sym after ∙ e in absurd cc

-- ---- all of it

pub busy_at : (x : HeapActor) (own : List (Entry Op)) → CoordinatorGoesOn x → IsOther x → ended_at x own ≡ false → is_busy x ≡ true
busy_at x own h is going = grind arith

pub kept_on : (p : Planned) (a : ℕ) (x x' : HeapActor) (me me' : Me (Unit {0}) (View Planned Op)) (founds : List ℕ) (procs : ℕ) (left : List ℕ) (over : List Bool) (gone : Bool) → GoesOnUntilDone →
    IsKeptByHandle p a x (by a me.0.log) procs left over gone → IsOther x → Ran (asks p.layout) (goes p.layout) a None x me x' me' founds → IsKeptByHandle p a x' (by a me'.0.log) procs left over gone
kept_on p a x x' me me' founds procs left over gone law kept is ran =
    let own = by a me.0.log in
    let made : List (Entry Op) = entries_made (asks p.layout) (goes p.layout) a None x founds ++ own in
    let own_is : by a me'.0.log ≡ made = ap (by a) ran.log ∙ by_made p.layout a None x founds me.0.log in
    let all : IsKeptByHandle p a x' made procs left over gone = record {
      counts = same_then p own made procs left over gone kept.counts (λ g. same_asked p.layout a x own g founds) (same_all p.layout a x own founds) (λ g. same_ended p.layout a x own g founds) gone (kept.counts.has_gone ∙ sym (same_left p.layout a x own founds));
      rests = λ m e. absurd (no_processor p.layout x x' founds is ran.machine m e);
      goes_on = goes_on_after p.layout x x' founds law kept.goes_on is ran.machine;
    } in
    subst (λ (es : List (Entry Op)). IsKeptByHandle p a x' es procs left over gone) (sym own_is) all

done_by : (x : HeapActor) (own : List (Entry Op)) → CoordinatorGoesOn x → ((m : Mutating) → x ≡ Runs m → ⊥) → is_busy x ≡ false → ended_at x own ≡ true
done_by x own h never idle = grind arith

pub is_done_then : (l : Layout) (x x' : HeapActor) (founds : List ℕ) (own : List (Entry Op)) → GoesOnUntilDone → CoordinatorGoesOn x → IsOther x → x' ≡ machine_after (goes l) x founds → is_busy x' ≡ false → ended_at x' own ≡ true
is_done_then l x x' founds own law h is after idle = done_by x' own (goes_on_after l x x' founds law h is after) (λ m e. no_processor l x x' founds is after m e) idle
