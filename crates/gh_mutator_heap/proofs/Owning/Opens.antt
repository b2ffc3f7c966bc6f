-- Before its first step a processor knows of the heap all that it is to know.
use Rattle.std.proofs.Common.{◌≡◌, ℕ, ◌<◌, List, [], get_or, length, None, refl, sym, ap, subst, ◌∙◌, replicate, Option}
use Rattle.std.proofs.lemmas.List.{get_or-replicate, length-replicate}
use Rattle.gh_mutator_heap.proofs.Vocabulary.{CachedSpan, Ever, Means, MOST_GOROUTINES, opening_ever, Opens, read_replicate, REGISTERS, SPAN_CLASSES, Value}
use Rattle.gh_mutator_heap.proofs.Holding.Lists.{none_cached_all, none_listed}
use Rattle.gh_mutator_heap.proofs.Owning.Steady.{goroutine_few}

abbrev row : List Value
row = replicate REGISTERS Value.Nil

abbrev no_span : Option CachedSpan
no_span = None

-- the stack of each goroutine has its registers, each nil
stack_of : (g : ℕ) → g < MOST_GOROUTINES → get_or (replicate MOST_GOROUTINES row) g [] ≡ row
stack_of g few = get_or-replicate MOST_GOROUTINES g row [] few

pub opens : Opens
opens z a v few generation ever right = record {
  counts = record {
    places = length-replicate {A = ℕ} MOST_GOROUTINES 0;
    each = λ g of. read_replicate {A = ℕ} MOST_GOROUTINES g 0 ∙ ap (λ (e : Ever). e.made g) (sym ever);
  };
  knows = record {
    stands = record {
      sits = record {
        seat = refl;
        few = few;
        stacks = length-replicate MOST_GOROUTINES row;
        registers = λ g low. ap (λ (r : List Value). length r) (stack_of g low) ∙ length-replicate REGISTERS Value.Nil;
        scanned = length-replicate {A = ℕ} MOST_GOROUTINES 0;
        cache = length-replicate SPAN_CLASSES no_span;
        held = tt;
      };
      registers = λ g d of low. subst (λ (e : Ever). Means v.place e.made (e.register g d) (get_or (get_or (replicate MOST_GOROUTINES row) g []) d Value.Nil)) (sym ever)
          (subst (λ (y : Value). Means v.place opening_ever.made (opening_ever.register g d) y) (sym (ap (λ (r : List Value). get_or r d Value.Nil) (stack_of g (goroutine_few z a g of)) ∙ read_replicate REGISTERS d Value.Nil)) tt);
    };
    knows = record { generation = sym generation; caches = none_cached_all a v };
  };
  right = record { locked = right.locked; holds = λ p. right.holds p ∙ sym (none_listed p); laying = right.laying; freeing = right.freeing };
  task = refl;
}
