-- The coordinator's walk over all pages: what it has seen lasts under the moves of others.
use Rattle.std.proofs.Common.{◌≡◌, ◌≢◌, ℕ, ◌+◌, ◌<◌, sym, ap, subst, ◌∙◌, inl, inr, arith}
use Rattle.gh_holds.proofs.Vocabulary.{Arena, CycleEnd, generation_of, HasNotNumber, IsBegun, Known, page_at, PassedBefore, State, StateGood, SweepAllStage, SweepingAll, Walks, WalksAt}
use Rattle.gh_state.specs.Moves as state
use Rattle.gh_marked.proofs.OneStep.Sweepers as sweepers

-- A move of the actor at seat a; the walk is that of another, at seat b.
module _ (known : Known) (z : Arena) (a b : ℕ) (differs : b ≢ a) (s : State) (m : state.Move) (good : StateGood z s) (may : state.May z a s m) where
  abbrev then : State
  then = state.moved z a s m

  pub same_end : then.end ≡ s.end
  same_end = (sweepers.end_stays known z a s m).0

  -- a page whose word has no head of an unswept span gets none
  pub begun_last : (page : ℕ) → IsBegun s page → IsBegun then page
  begun_last page is number of =
      let was : number + 2 ≡ generation_of s.end = of ∙ ap (λ (e : CycleEnd). generation_of e) same_end in
      elim ((known.state_leaves z b a s m differs good may).sweep.heads page number was) [
        | inl same ↦ subst (HasNotNumber number) (sym same) (is number was)
        | inr none ↦ none
      ]

  within : (page : ℕ) → page < s.end.layout.pages → page < then.end.layout.pages
  within page lt = subst (λ (e : CycleEnd). page < e.layout.pages) (sym same_end) lt

  stage_last : (p : SweepAllStage) → WalksAt s p → WalksAt then p
  stage_last (SweepAllStage.LoadPage page) is = within page is
  stage_last (SweepAllStage.Sweep page sw) is = (within page is.0, is.1)
  stage_last (SweepAllStage.Await page) is = (within page is.0, begun_last page is.1)
  stage_last SweepAllStage.Ended is = tt

  passed_last : (page : ℕ) → PassedBefore s page → PassedBefore then page
  passed_last page passed = known.walkers.own z a s m page good may passed

  pages_last : (p : SweepAllStage) → PassedBefore s (page_at s p) → PassedBefore then (page_at then p)
  pages_last p passed = grind (arith, passed_last, same_end)

  pub walks_last : (w : SweepingAll) → Walks s w → Walks then w
  walks_last w is = record {
    generation_is = is.generation_is ∙ ap (λ (e : CycleEnd). generation_of e) (sym same_end);
    passed = pages_last w.stage is.passed;
    stage_is = stage_last w.stage is.stage_is;
  }
