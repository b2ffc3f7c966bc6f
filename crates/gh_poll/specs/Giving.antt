-- The giving back begins so that nothing is left once it has ended.
use Rattle.std.proofs.Common.{◌≡◌, ℕ, ◌+◌, List, [], ◌∷◌, length, replicate, Option, Some, None, refl, ap, arith}
use Rattle.gh_poll.specs.Vocabulary.{CachedSpan, GiveBuffer, GiveStage, Held, SPAN_CLASSES, Unlock}
use Rattle.gh_poll.specs.declared.give.GiveStage.TheVariants.{Ended}
use Rattle.gh_poll.specs.Give.{first_cached, Giving, giving_buffer, none_cached, opening}

abbrev no_span : Option CachedSpan
no_span = None

-- where no span is cached
none_left : (i : ℕ) (spans : List (Option CachedSpan)) → first_cached i spans ≡ Unlock → spans ≡ replicate (length spans) no_span
none_left i [] e = refl
none_left i (Some s ∷ spans) e = absurd (cc)
none_left i (None ∷ spans) e = ap (λ (xs : List (Option CachedSpan)). no_span ∷ xs) (none_left (i + 1) spans e)

-- Once it has ended nothing is left: so at each stage, whatever was before.
abbrev pub GivingFacts : Giving → GiveStage → Type 0
GivingFacts g (GiveBuffer b) = g.cache ≡ none_cached
GivingFacts g Ended = (g.cache ≡ none_cached) × (g.held ≡ None)
GivingFacts g _ = Unit {0}

pub buffer_fine : (g : Giving) (held : Option Held) → g.held ≡ held → g.cache ≡ none_cached → GivingFacts g (giving_buffer held)
buffer_fine g held e none = grind arith

pub first_fine : (g : Giving) (i : ℕ) (spans : List (Option CachedSpan)) → GivingFacts g (first_cached i spans)
first_fine g i [] = tt
first_fine g i (Some s ∷ spans) = tt
first_fine g i (None ∷ spans) = first_fine g (i + 1) spans

pub opening_fine : (seat generation : ℕ) (cache : List (Option CachedSpan)) (held : Option Held) → length cache ≡ SPAN_CLASSES →
    GivingFacts (opening seat generation cache held) (opening seat generation cache held).stage
opening_fine seat generation cache held room = grind (arith, buffer_fine, none_left)
