-- What the search for a slot asks for, and that it has no span cached where it refuses.
use Rattle.std.proofs.Common.{◌≡◌, ℕ, Bool, cond, Option, Some, None, arith}
use Rattle.gh_mutator_writes.proofs.Vocabulary.{CachedSpan, Large, Layout, NoRoom, Seeking, Small, Sought}
use Rattle.gh_mutator.specs.Vocabulary.{SpanClass, Finding, FindStage}
use Rattle.gh_alloc.specs.declared.find.After.TheVariants.{End}
use Rattle.gh_alloc.specs.Find as find
use Rattle.gh_alloc.specs.Search as search
use Rattle.gh_central.specs.Reclaim.{Reclaiming}
use Rattle.gh_alloc.specs.declared.search.SearchStage.{SearchStage}

-- ---- the search

-- each of its steps looks for a slot

-- no span is cached from the pass on, for an object of a size class
abbrev NoneCached : FindStage → Option CachedSpan → Type 0
NoneCached (FindStage.Pass p) cached = cached ≡ None
NoneCached (FindStage.Unswept u) cached = cached ≡ None
NoneCached (FindStage.Carve c) cached = cached ≡ None
NoneCached (FindStage.Unlock (End NoRoom)) cached = cached ≡ None
NoneCached (FindStage.Ended NoRoom) cached = cached ≡ None
NoneCached _ cached = Unit {0}

abbrev Kept : Finding → Type 0
Kept f = NoneCached f.stage f.cached

-- the search where a collector runs: no span is cached while empty spans are freed
abbrev KeptAt : Finding → SearchStage → Type 0
KeptAt f (SearchStage.Free r) = f.cached ≡ None
KeptAt f _ = Kept f

abbrev pub KeptFor : Sought → Seeking → Type 0
KeptFor (Small c) s = KeptAt s.find s.stage
KeptFor (Large pages noscan) s = Unit {0}

first_kept : (f : Finding) → Kept f → KeptAt f (search.after_first f)
first_kept f h = grind arith

second_kept : (f : Finding) (b : Bool) → Kept f → KeptAt f (cond b SearchStage.First SearchStage.Second)
second_kept f b h = grind arith

module _ (c : SpanClass) where
  free_kept : (f : Finding) (r : Reclaiming) (out : Option (Unit {0})) → f.wanted ≡ Small c → f.cached ≡ None → KeptAt (search.after_free f r out).find (search.after_free f r out).stage
  free_kept f r out is h = grind arith

  find_kept : (l : Layout) (f : Finding) (found : ℕ) → f.wanted ≡ Small c → Kept f → Kept (find.goes l f found)
  find_kept l f found is h = grind arith

  search_kept : (l : Layout) (f : Finding) (p : SearchStage) (found : ℕ) → f.wanted ≡ Small c → KeptAt f p → KeptAt (search.goes_at l f p found).find (search.goes_at l f p found).stage
  search_kept l f p found is h = grind (arith, find_kept, first_kept, free_kept, second_kept)

pub kept : (x : Sought) (l : Layout) (s : Seeking) (found : ℕ) → s.find.wanted ≡ x → KeptFor x s → KeptFor x (search.goes l s found)
kept (Large pages noscan) l s found is h = tt
kept (Small c) l s found is h = search_kept c l s.find s.stage found is h

pub kept_first : (x : Sought) (s : Seeking) → s ≡ search.opening s.find.seat s.find.generation x s.find.cached → KeptFor x s
kept_first x s is = grind arith

pub refuses_none : (x : Sought) (s : Seeking) (c : SpanClass) → x ≡ Small c → search.given s ≡ Some NoRoom → KeptFor x s → s.find.cached ≡ None
refuses_none x s c small e h = grind arith
