-- What a handle keeps once an operation has run.
use Rattle.std.proofs.Common.{◌≡◌, ℕ, ◌+◌, ◌-◌, ◌<◌, ◌≤◌, Bool, true, false, ◌==◌, ◌||◌, if◌then◌else◌, List, [], ◌∷◌, ◌++◌, length, length-set, get_or, set, eq-eqb, refl, sym, ap, ◌∙◌, subst, Option, Some, arith}
use Rattle.gh_shared.proofs.Vocabulary.{Answer, asked_by, asks, asks_collector, asks_for_cycle, begins, begins_at, begun_next, by, CountsSo, ended_in, ends, entries_made, Entry, entry, Fits, Gave, gives, goes, gone_after, goroutine_of, has_left, HasOneAt, HasShapes, HeapActor, is_busy, is_busy_at, is_leaving, IsKeptByHandle, Layout, Leads, leaves, leaves_is, left_after, left_by, machine_after, made_by, making, MayCount, Me, Mutating, nat_tests, Op, over_after, Planned, Processor, ProcessorRests, Ran, requests_begun, Runs, runs_by, RunsIt, Shape, slice_get-get_or, sum_by-set, takes_at, Task, View, wishes_of}
use Rattle.gh_mutator.specs.Mutating as mutating
use Rattle.gh_world.proofs.Runners.{each_set}
use Rattle.gh_world.proofs.StepFacts.{begin_facts, step_facts}
use Rattle.gh_shared.proofs.Allowed.{below, it_runs, left_is}

-- ---- the entries

-- by these entries one operation more was begun
pub record OneMore (o : Op) (own own' : List (Entry Op)) : Type 0 where
  pub asked : (g : ℕ) → asked_by g own' ≡ (if asks_collector g (Some o) then 1 else 0) + asked_by g own
  pub all : requests_begun own' ≡ (if asks_for_cycle (Some o) then 1 else 0) + requests_begun own
  pub ended : (g : ℕ) → ended_in own' g ≡ (ends (Some o) g || ended_in own g)
  pub left : has_left own' ≡ (leaves (Some o) || has_left own)

module _ (l : Layout) (a : ℕ) (o : Op) (m : HeapActor) (own : List (Entry Op)) where
  abbrev Made : List ℕ → List (Entry Op)
  Made founds = entries_made (asks l) (goes l) a (Some o) m founds ++ own

  more_asked : (g n : ℕ) (ns : List ℕ) → asked_by g (Made (n ∷ ns)) ≡ (if asks_collector g (Some o) then 1 else 0) + asked_by g own
  more_asked g n [] = refl
  more_asked g n (k ∷ ks) = let rest = more_asked g k ks in omega (arith, rest)

  more_all : (n : ℕ) (ns : List ℕ) → requests_begun (Made (n ∷ ns)) ≡ (if asks_for_cycle (Some o) then 1 else 0) + requests_begun own
  more_all n [] = refl
  more_all n (k ∷ ks) = let rest = more_all k ks in omega (arith, rest)

  more_ended : (g n : ℕ) (ns : List ℕ) → ended_in (Made (n ∷ ns)) g ≡ (ends (Some o) g || ended_in own g)
  more_ended g n [] = refl
  more_ended g n (k ∷ ks) = more_ended g k ks

  more_left : (n : ℕ) (ns : List ℕ) → has_left (Made (n ∷ ns)) ≡ (leaves (Some o) || has_left own)
  more_left n [] = refl
  more_left n (k ∷ ks) = more_left k ks

  pub one_more : (n : ℕ) (ns : List ℕ) → OneMore o own (Made (n ∷ ns))
  one_more n ns = record { asked = λ g. more_asked g n ns; all = more_all n ns; ended = λ g. more_ended g n ns; left = more_left n ns }

pub by_made : (l : Layout) (a : ℕ) (b : Option Op) (m : HeapActor) (founds : List ℕ) (log : List (Entry Op)) → by a (entries_made (asks l) (goes l) a b m founds ++ log) ≡ entries_made (asks l) (goes l) a b m founds ++ by a log
by_made l a b m [] log = refl
by_made l a b m (n ∷ ns) log = rw (eq-eqb a a refl) (ap (λ (es : List (Entry Op)). entry a (begun_next b ns) (asks l (machine_after (goes l) m ns)) n ∷ es) (by_made l a b m ns log))

-- where an operation has run, its actor's entries are one operation more
pub ran_more : (l : Layout) (a : ℕ) (o : Op) (x x' : HeapActor) (me me' : Me (Unit {0}) (View Planned Op)) (founds : List ℕ) (out : Option Answer) → Ran (asks l) (goes l) a (Some o) x me x' me' founds → Gave (goes l) (gives l) x founds out → OneMore o (by a me.0.log) (by a me'.0.log)
ran_more l a o x x' me me' [] out ran gave = absurd gave
ran_more l a o x x' me me' (n ∷ ns) out ran gave = subst (OneMore o (by a me.0.log)) (sym (ap (by a) ran.log ∙ by_made l a (Some o) x (n ∷ ns) me.0.log)) (one_more l a o x (by a me.0.log) n ns)

-- ---- the counts

-- one of these is begun
module _ (p : Planned) (own own' : List (Entry Op)) (procs : ℕ) (left : List ℕ) (over : List Bool) (gone : Bool) (counts : CountsSo p own procs left over gone) where
  asks_then : (g : ℕ) → HasOneAt left g → ((j : ℕ) → asked_by j own' ≡ (if g == j then 1 else 0) + asked_by j own) → requests_begun own' ≡ 1 + requests_begun own → ((j : ℕ) → ended_in own' j ≡ ended_in own j) → has_left own' ≡ has_left own → CountsSo p own' procs (set left g (get_or left g 0 - 1)) over gone
  asks_then g has asked all ended gone_is =
      let one = has.1 in
      let sum = sum_by-set (λ (n : ℕ). n) left g (get_or left g 0 - 1) 0 has.0 in
      let few = counts.few in
      record {
        procs_are = counts.procs_are;
        many_left = simp length-set counts.many_left;
        many_over = counts.many_over;
        each_left = each_set (λ (j n : ℕ). n + asked_by j own' ≡ wishes_of p.script j) left g (get_or left g 0) (get_or left g 0 - 1) (slice_get-get_or left g 0 has.0)
            (let was = counts.each_left g (get_or left g 0) (slice_get-get_or left g 0 has.0) in let now = asked g in let same : (g == g) ≡ true = eq-eqb g g refl in let is : asked_by g own' ≡ 1 + asked_by g own = now ∙ ap (λ (b : Bool). (if b then 1 else 0) + asked_by g own) same in omega (arith, was, is, one))
            (λ j z apart at. let was = counts.each_left j z at in let no : (g == j) ≡ false = grind (arith, nat_tests, apart) in let is : asked_by j own' ≡ 0 + asked_by j own = asked j ∙ ap (λ (b : Bool). (if b then 1 else 0) + asked_by j own) no in omega (arith, was, is));
        each_over = λ j b at. counts.each_over j b at ∙ sym (ended j);
        has_gone = counts.has_gone ∙ sym gone_is;
        few = omega (arith, sum, few, all, one);
      }

  pub same_then : ((j : ℕ) → asked_by j own' ≡ 0 + asked_by j own) → requests_begun own' ≡ 0 + requests_begun own → ((j : ℕ) → ended_in own' j ≡ ended_in own j) → (g' : Bool) → g' ≡ has_left own' → CountsSo p own' procs left over g'
  same_then asked all ended g' gone_is = record {
    procs_are = counts.procs_are;
    many_left = counts.many_left;
    many_over = counts.many_over;
    each_left = λ j n at. let was = counts.each_left j n at in let is = asked j in omega (arith, was, is);
    each_over = λ j b at. counts.each_over j b at ∙ sym (ended j);
    has_gone = gone_is;
    few = let few = counts.few in omega (arith, few, all);
  }

  ends_then : (g : ℕ) → g < length over → ((j : ℕ) → asked_by j own' ≡ 0 + asked_by j own) → requests_begun own' ≡ 0 + requests_begun own → ((j : ℕ) → ended_in own' j ≡ ((g == j) || ended_in own j)) → has_left own' ≡ has_left own → CountsSo p own' procs left (set over g true) gone
  ends_then g there asked all ended gone_is = record {
    procs_are = counts.procs_are;
    many_left = counts.many_left;
    many_over = simp length-set counts.many_over;
    each_left = λ j n at. let was = counts.each_left j n at in let is = asked j in omega (arith, was, is);
    each_over = each_set (λ (j : ℕ) (b : Bool). b ≡ ended_in own' j) over g (get_or over g true) true (slice_get-get_or over g true there)
        (sym (ended g ∙ ap (λ (b : Bool). b || ended_in own g) (eq-eqb g g refl)))
        (λ j z apart at. let no : (g == j) ≡ false = grind (arith, nat_tests, apart) in counts.each_over j z at ∙ sym (ended j ∙ ap (λ (b : Bool). b || ended_in own j) no));
    has_gone = counts.has_gone ∙ sym gone_is;
    few = let few = counts.few in omega (arith, few, all);
  }

  pub counts_then : (o : Op) → MayCount left over o → OneMore o own own' → CountsSo p own' procs (left_after left o) (over_after over o) (gone_after gone o)
  counts_then (Op.New g d t) may one = asks_then g may one.asked one.all one.ended one.left
  counts_then (Op.Gc g) may one = asks_then g may one.asked one.all one.ended one.left
  counts_then (Op.End g) may one = ends_then g may one.asked one.all one.ended one.left
  counts_then Op.Leave may one = same_then one.asked one.all one.ended true (sym one.left)
  counts_then (Op.Load g d b k) may one = same_then one.asked one.all one.ended gone (counts.has_gone ∙ sym one.left)
  counts_then (Op.Store g b k v) may one = same_then one.asked one.all one.ended gone (counts.has_gone ∙ sym one.left)
  counts_then (Op.GetGlobal g d k) may one = same_then one.asked one.all one.ended gone (counts.has_gone ∙ sym one.left)
  counts_then (Op.SetGlobal g k v) may one = same_then one.asked one.all one.ended gone (counts.has_gone ∙ sym one.left)
  counts_then (Op.Int g d n) may one = same_then one.asked one.all one.ended gone (counts.has_gone ∙ sym one.left)
  counts_then (Op.Move g d s) may one = same_then one.asked one.all one.ended gone (counts.has_gone ∙ sym one.left)
  counts_then (Op.Nil g d) may one = same_then one.asked one.all one.ended gone (counts.has_gone ∙ sym one.left)
  counts_then Op.Poll may one = same_then one.asked one.all one.ended gone (counts.has_gone ∙ sym one.left)

-- ---- the processor

-- one that rests stays as it is
rests_on : (l : Layout) (shapes : List Shape) (m : Processor) (t : Task) (found : ℕ) → is_busy_at t ≡ false → takes_at l shapes m t found ≡ m
rests_on l shapes m t found e = grind arith

-- steps make no more than one object, and lead to no leave
record GoesSo (m n : Processor) : Type 0 where
  counted : (g : ℕ) → made_by n g + making n.task ≤ made_by m g + making m.task
  leaves_as : is_leaving n.task ≡ is_leaving m.task

step_so : (l : Layout) (m : Mutating) (found : ℕ) → GoesSo m.processor (mutating.goes l m found).processor
step_so l m found = go (is_busy_at m.processor.task) refl where
  go : (b : Bool) → is_busy_at m.processor.task ≡ b → GoesSo m.processor (mutating.goes l m found).processor
  go true e = let s = step_facts l m.shapes m.processor m.processor.task found e in record { counted = s.counted; leaves_as = s.leaves }
  go false e = rw (rests_on l m.shapes m.processor m.processor.task found e) (record { counted = λ g. omega arith; leaves_as = refl })

steps_so : (l : Layout) (m : Mutating) (founds : List ℕ) → GoesSo m.processor (machine_after (mutating.goes l) m founds).processor
steps_so l m [] = record { counted = λ g. omega arith; leaves_as = refl }
steps_so l m (n ∷ ns) =
    let before = steps_so l m ns in
    let s = step_so l (machine_after (mutating.goes l) m ns) n in
    record { counted = λ g. let x = before.counted g in let y = s.counted g in omega (arith, x, y); leaves_as = s.leaves_as ∙ before.leaves_as }

begun_makes : (shapes : List Shape) (m : Processor) (o : Op) → making (begins_at shapes m o) ≤ (if asks_for_cycle (Some o) then 1 else 0)
begun_makes shapes m o = grind arith

begun_busy : (shapes : List Shape) (m : Processor) (o : Op) → is_busy_at (begins_at shapes m o) ≡ true
begun_busy shapes m o = grind arith

-- a processor stays one
pub runs_after : (l : Layout) (m : Mutating) (founds : List ℕ) → machine_after (goes l) (Runs m) founds ≡ Runs (machine_after (mutating.goes l) m founds)
runs_after l m [] = refl
runs_after l m (n ∷ ns) = ap (λ (x : HeapActor). goes l x n) (runs_after l m ns)

rests_then : (p : Planned) (a : ℕ) (m : Mutating) (own own' : List (Entry Op)) (o : Op) (founds : List ℕ) → ProcessorRests p a m own → has_left own ≡ false → OneMore o own own' → mutating.is_busy (machine_after (mutating.goes p.layout) (mutating.begins m o) founds) ≡ false → ProcessorRests p a (machine_after (mutating.goes p.layout) (mutating.begins m o) founds) own'
rests_then p a m own own' o founds rests stays one idle =
    let s = steps_so p.layout (mutating.begins m o) founds in
    let b = begin_facts m.shapes m.processor o (begun_busy m.shapes m.processor o) in
    let makes = begun_makes m.shapes m.processor o in
    let all = one.all in
    record {
      seat = rests.seat;
      idle = idle;
      leaves = s.leaves_as ∙ b.leaves ∙ sym (leaves_is o) ∙ sym (or_none (leaves (Some o)) (has_left own) stays) ∙ sym one.left;
      made = λ g. let x = s.counted g in let y = rests.made g in omega (arith, x, y, makes, all);
    }
  where
    or_none : (b c : Bool) → c ≡ false → (b || c) ≡ b
    or_none true c e = refl
    or_none false c e = e

-- ---- all of it

module _ (p : Planned) (a : ℕ) (m : Mutating) (own : List (Entry Op)) (procs : ℕ) (left : List ℕ) (over : List Bool) (gone : Bool) (counts : CountsSo p own procs left over gone) (rests : ProcessorRests p a m own) (shapes : HasShapes p (Runs m)) where
  has_one : (g : ℕ) → runs_by p a own g ≡ true → 1 ≤ left_by p own g → HasOneAt left g
  has_one g r one =
      let h = it_runs p a m own procs left over gone counts rests shapes g r in
      let lt = below p a m own procs left over gone counts rests shapes g h in
      let is = left_is p a m own procs left over gone counts rests shapes g h in
      let many = counts.many_left in
      (omega (arith, lt, many), omega (arith, is, one))

  pub may_count : (o : Op) → RunsIt p a (Runs m) own (goroutine_of o) → Fits p a (Runs m) own o → MayCount left over o
  may_count o r f = grind (arith, has_one)

pub kept_then : (p : Planned) (a : ℕ) (m : Mutating) (o : Op) (me me' : Me (Unit {0}) (View Planned Op)) (x : HeapActor) (founds : List ℕ) (out : Option Answer) (procs : ℕ) (left : List ℕ) (over : List Bool) (gone : Bool) →
    IsKeptByHandle p a (Runs m) (by a me.0.log) procs left over gone → has_left (by a me.0.log) ≡ false → MayCount left over o → Ran (asks p.layout) (goes p.layout) a (Some o) (begins (Runs m) o) me x me' founds → Gave (goes p.layout) (gives p.layout) (begins (Runs m) o) founds out → is_busy x ≡ false →
    IsKeptByHandle p a x (by a me'.0.log) procs (left_after left o) (over_after over o) (gone_after gone o)
kept_then p a m o me me' x [] out procs left over gone kept stays may ran gave idle = absurd gave
kept_then p a m o me me' x (n ∷ ns) out procs left over gone kept stays may ran gave idle =
    let own = by a me.0.log in
    let made : List (Entry Op) = entries_made (asks p.layout) (goes p.layout) a (Some o) (Runs (mutating.begins m o)) (n ∷ ns) ++ own in
    let own_is : by a me'.0.log ≡ made = ap (by a) ran.log ∙ by_made p.layout a (Some o) (Runs (mutating.begins m o)) (n ∷ ns) me.0.log in
    let one : OneMore o own made = one_more p.layout a o (Runs (mutating.begins m o)) own n ns in
    let after : Mutating = machine_after (mutating.goes p.layout) (mutating.begins m o) (n ∷ ns) in
    let is : x ≡ Runs after = ran.machine ∙ runs_after p.layout (mutating.begins m o) (n ∷ ns) in
    let still : mutating.is_busy after ≡ false = subst (λ (y : HeapActor). is_busy y ≡ false) is idle in
    let rests : ProcessorRests p a after made = rests_then p a m own made o (n ∷ ns) (kept.rests m refl) stays one still in
    let all : IsKeptByHandle p a x made procs (left_after left o) (over_after over o) (gone_after gone o) = record {
      counts = counts_then p own made procs left over gone kept.counts o may one;
      rests = λ m' e. let same : after ≡ m' = cc in subst (λ (y : Mutating). ProcessorRests p a y made) same rests;
      goes_on = λ c e. let no : Runs after ≡ Leads c = sym is ∙ e in absurd cc;
    } in
    subst (λ (es : List (Entry Op)). IsKeptByHandle p a x es procs (left_after left o) (over_after over o) (gone_after gone o)) (sym own_is) all
