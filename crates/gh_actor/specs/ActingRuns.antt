-- What a machine has run its actor has run, in the layout of the heap.
use Rattle.std.proofs.Common.{ap, refl, subst, sym, ◌∙◌, ◌++◌, ◌≡◌, ℕ, List, [], ◌∷◌, Option}
use Rattle.gh_actor.specs.Vocabulary.{Answer, Ask, Layout, Op}
use Rattle.atomic_table.specs.Table.{Me}
use Rattle.gh_base.specs.declared.machine.Entry.{Entry}
use Rattle.gh_table.specs.declared.plan.View.{View}
use Rattle.gh_table.specs.Runs.{begun_next, entries_made, Gave, machine_after, Ran}
use Rattle.gh_table.specs.Views.{entry}
use Rattle.gh_actor.specs.Acting as acting
use Rattle.gh_actor.specs.Acting.{Acting}
use Rattle.gh_actor.specs.Machines.{asks, gives, goes}
use Rattle.gh_actor.specs.Plans.{Planned}

module _ (x : Acting) where
  pub after : (founds : List ℕ) → machine_after acting.goes x founds ≡ record x { actor = machine_after (goes x.layout) x.actor founds }
  after [] = refl
  after (n ∷ ns) = ap (λ (y : Acting). acting.goes y n) (after ns)

  made : (a : ℕ) (b : Option Op) (founds : List ℕ) → entries_made acting.asks acting.goes a b x founds ≡ entries_made (asks x.layout) (goes x.layout) a b x.actor founds
  made a b [] = refl
  made a b (n ∷ ns) =
      ap (λ (q : Ask). entry a (begun_next b ns) q n ∷ entries_made acting.asks acting.goes a b x ns) (ap acting.asks (after ns))
      ∙ ap (λ (es : List (Entry Op)). entry a (begun_next b ns) (asks x.layout (machine_after (goes x.layout) x.actor ns)) n ∷ es) (made a b ns)

  gave_by : (founds : List ℕ) (out : Option Answer) → Gave acting.goes acting.gives x founds out → Gave (goes x.layout) (gives x.layout) x.actor founds out
  gave_by [] out gave = gave
  gave_by (n ∷ ns) out gave = ap (λ (y : Acting). acting.gives y n) (sym (after ns)) ∙ gave

-- in the layout l, which is the machine's
module _ (l : Layout) (x : Acting) (laid : x.layout ≡ l) where
  pub ran_by : (a : ℕ) (b : Option Op) (me : Me (Unit {0}) (View Planned Op)) (x' : Acting) (me' : Me (Unit {0}) (View Planned Op)) (founds : List ℕ) → Ran acting.asks acting.goes a b x me x' me' founds → Ran (asks l) (goes l) a b x.actor me x'.actor me' founds
  ran_by a b me x' me' founds ran = subst (λ (k : Layout). Ran (asks k) (goes k) a b x.actor me x'.actor me' founds) laid (record {
    log = ran.log ∙ ap (λ (es : List (Entry Op)). es ++ me.0.log) (made x a b founds);
    plan = ran.plan;
    actors = ran.actors;
    machine = ap (λ (y : Acting). y.actor) (ran.machine ∙ after x founds);
  })

  pub gave_so : (founds : List ℕ) (out : Option Answer) → Gave acting.goes acting.gives x founds out → Gave (goes l) (gives l) x.actor founds out
  gave_so founds out gave = subst (λ (k : Layout). Gave (goes k) (gives k) x.actor founds out) laid (gave_by x founds out gave)
