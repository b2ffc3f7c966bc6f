-- Chains of reads and of writes.
use Rattle.std.proofs.Common.{◌≡◌, ℕ, ◌+◌, ◌-◌, ◌≤◌, List, ◌++◌, Option, length, take, drop, arith, refl, sym, ap, ◌∙◌, subst, length-append, take_at, drop_at}
use Rattle.std.proofs.lemmas.List.{take_rest, take-append-le}
use Rattle.std.proofs.Math.Seq.{take-add}
use Rattle.std.specs.Io.KnownBytes.{Consumes, Appends}
use Rattle.std.specs.Io.{StartsWith}
use Rattle.std.proofs.KnownBytes.{Appends-trans, Consumes-trans, starts_with_rest}
use Rattle.gh_io.specs.Streams.{TookPart}

-- ---- reads

-- what a further read appended was consumed after what stood before
pub Consumes-grown : (a b c : Option (List ℕ)) (old new : List ℕ) → Consumes a b old → StartsWith new old → Consumes b c (drop (length old) new) → Consumes a c new
Consumes-grown a b c old new p grown q =
    subst (Consumes a c) (sym (starts_with_rest new old grown)) (Consumes-trans a b c _ _ p q)

-- ---- writes

-- a write of the rest of a piece takes its next bytes
pub Appends-rest : (a b c : Option (List ℕ)) (piece : List ℕ) (at n : ℕ) → at + n ≤ length piece → Appends a b (take at piece) → Appends b c (take n (take (length piece - at) (drop at piece))) → Appends a c (take (at + n) piece)
Appends-rest a b c piece at n h p q =
    subst (Appends a c) (ap (λ l. take at piece ++ take n l) (take_rest piece at) ∙ sym (take-add at n piece))
    (Appends-trans a b c _ _ p q)

-- a part of the first of two pieces is a part of both
pub TookPart-first : (a b : Option (List ℕ)) (p q : List ℕ) → TookPart a b p → TookPart a b (p ++ q)
TookPart-first a b p q part = record {
  count = part.count;
  within = omega (arith, length-append p q);
  taken = subst (Appends a b) (sym (take-append-le part.count p q part.within)) part.taken;
}

-- the first of two pieces and a part of the second are a part of both
pub TookPart-second : (a b c : Option (List ℕ)) (p q : List ℕ) → Appends a b p → TookPart b c q → TookPart a c (p ++ q)
TookPart-second a b c p q all part =
    let n = part.count in
    let same : take (length p + n) (p ++ q) ≡ p ++ take n q =
    take-add (length p) n (p ++ q) ∙ ap (λ l. l ++ take n (drop (length p) (p ++ q))) (take_at p q _ refl) ∙ ap (λ l. p ++ take n l) (drop_at p q _ refl) in
    record {
      count = length p + n;
      within = omega (arith, length-append p q);
      taken = subst (Appends a c) (sym same) (Appends-trans a b c _ _ all part.taken);
    }
