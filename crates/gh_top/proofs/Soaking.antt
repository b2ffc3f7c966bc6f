-- Whichever run it is, a generated script's run by threads comes to one text.
use Rattle.std.proofs.Common.{◌≡◌, ℕ, ◌*◌, ◌/◌, ◌++◌, List, sym, ap₂, subst, ◌∙◌, arith}
use Rattle.gh_top.proofs.Vocabulary.{Appends, ComesTo, Ends, IsSoak, Line, live_line, Said, Soak, statements_line, Status, Streams, Text}
use Rattle.gh_soak.specs.Soak.{WhatIsLiveIsOne}
use Rattle.gh_top.specs.declared.status.Status.TheVariants.{Ok}
use Rattle.gh_top.proofs.Ends.{same_line}

one_text : WhatIsLiveIsOne → (seed size : ℕ) (text other written again : List ℕ) → ComesTo (Soak seed size) text Ok written → ComesTo (Soak seed size) other Ok again → written ≡ again
one_text one seed size text other written again a b =
    let same = one _ _ a.0.objects a.0.bytes b.0.objects b.0.bytes a.2 b.2 in
    a.3 ∙ ap₂ (λ (objects bytes : ℕ). statements_line (4 * (size / 4)) ++ live_line objects bytes) same.0 same.1 ∙ sym b.3

module _ (one : WhatIsLiveIsOne) (words : List Text) (seed size : ℕ) (is : IsSoak words seed size) (before after : Streams) where
  -- what was said is what any run would say
  same_said : (text other written : List ℕ) → Said words other Ok before.taken after.taken → ComesTo (Soak seed size) text Ok written → Appends before.taken after.taken written
  same_said text other written said comes =
      let says = said.1 in
      let its = subst (λ (line : Line). ComesTo line other Ok said.0) (same_line words says.0 (Soak seed size) says.1 is) says.2 in
      subst (λ (bytes : List ℕ). Appends before.taken after.taken bytes) (one_text one seed size other text said.0 written its comes) said.2

  pub soak_told : (status : Status) → Ends words before after status → status ≡ Ok → (text written : List ℕ) → ComesTo (Soak seed size) text Ok written → Appends before.taken after.taken written
  soak_told status ends ok text written comes = grind (arith, same_said)
