-- What a seat relies on lasts; and what steps of one or two moves leave.
use Rattle.std.proofs.Common.{◌≡◌, ℕ, ◌+◌, ◌-◌, Bool, true, false, eqb, ap, refl, ◌∙◌, inl, ◌⊎◌, Option, Some, None, arith}
use Rattle.gh_marks.proofs.Vocabulary.{buffers_as_held, Colour, Cycle, EachFactLasts, EachHandLasts, EachMoveKeeps, EachMoveLeaves, EachMoveLeavesTheDead, EachStepGoesByMoves, Extents, goes, Held, HoldsBuffer, IsClean, IsMarked, IsPointer, IsSince, Keeps, KnowsCount, moved, Others, Row, SameExtent, seen_field, seen_global, seen_word, Shared, StepsGoByMoves}
use Rattle.gh_marks.specs.Moves.{stays}
use Rattle.gh_marks.proofs.Leaves.{iff-then, others-same, same-iff}

pointer-then : (e f : Extents) (o k : ℕ) → SameExtent e f o → IsPointer e o k → IsPointer f o k
pointer-then e f o k x h = (rw (x.size) h.0, rw (x.pointer) h.1, rw (x.noscan) h.2)

pointer-was : (e f : Extents) (o k : ℕ) → SameExtent e f o → IsPointer f o k → IsPointer e o k
pointer-was e f o k x h = (rw (x.size) at h.0, rw (x.pointer) at h.1, rw (x.noscan) at h.2)

-- a word that stays or is clean then, and was clean
word-clean : (m n : ℕ → Colour) (v w : ℕ) → ((o : ℕ) → IsMarked m o → IsMarked n o) → (w ≡ v) ⊎ IsClean n w → IsClean m v → IsClean n w
word-clean m n v w grow h h2 = grind arith

-- what is seen of a word stays
seen-kept : (since : ℕ → Bool) (b c : Row) (w : ℕ) → ((x : ℕ) → since (b x) ≡ true → c x ≡ b x) → IsSince since (seen_word b w) → seen_word c w ≡ seen_word b w
seen-kept since b c w same known = by (eqb w 0) refl where
  by : (t : Bool) → eqb w 0 ≡ t → seen_word c w ≡ seen_word b w
  by true e = rw e refl
  by false e = let is : seen_word b w ≡ b (w - 1) + 1 = rw e refl in rw e (ap (λ x. x + 1) (same (w - 1) (known (b (w - 1)) is)))

pub keeps-then : (z : Cycle) (a : ℕ) (s t u : Shared) → Keeps z a s t → Keeps z a t u → Keeps z a s u
keeps-then z a s t u p q = grind arith

others-then : (z : Cycle) (a : ℕ) (s t u : Shared) → Others z a s t → Others z a t u → Others z a s u
others-then z a s t u p q = record {
  keeps = keeps-then z a s t u p.keeps q.keeps;
  pending = λ o. iff-then (p.pending o) (q.pending o);
  taken = λ o. iff-then (p.taken o) (q.taken o);
  placing = λ o. iff-then (p.placing o) (q.placing o);
  claimed = λ i. iff-then (p.claimed i) (q.claimed i);
  read = λ i v. iff-then (p.read i v) (q.read i v);
  held = λ b. iff-then (p.held b) (q.held b);
  filled = λ b h. q.filled b ((p.held b).0 h) ∙ p.filled b h;
  passes = q.passes ∙ p.passes;
}

pub facts-last : EachFactLasts
facts-last z a s t k = record {
  clean = λ value h o e. k.colours o (h o e);
  since = λ value h o e. k.since o (h o e);
  field = λ o j i l h. word-clean s.colour t.colour (seen_field s (o + j)) (seen_field t (o + j)) k.colours (k.fields o j i l) h;
  global = λ i h. word-clean s.colour t.colour (seen_global s i) (seen_global t i) k.colours (k.globals i) h;
  register = λ g d own h. word-clean s.colour t.colour (s.registers g d) (t.registers g d) k.colours (inl (k.registers g d own)) h;
  seen = λ w known. seen-kept s.since s.extents.base t.extents.base w k.bases known;
  word = λ w known h. rw (seen-kept s.since s.extents.base t.extents.base w k.bases known) (λ o e. k.colours o (h o e));
  word_since = λ w known. rw (seen-kept s.since s.extents.base t.extents.base w k.bases known) (λ o e. k.since o (known o e));
  pointer = λ o j i l. pointer-then s.extents t.extents o j (k.extents o i) l;
  pointer_was = λ o j i l. pointer-was s.extents t.extents o j (k.extents o i) l;
}

pub hands-last : EachHandLasts
hands-last z a s t h o x = record {
  holds = record { only = λ b. iff-then ((λ y. (x.holds.only b).0 ((o.held b).1 y)), (λ y. (o.held b).0 ((x.holds.only b).1 y))) same-iff; count = count h.held x.holds };
  has = record {
    is_pending = λ p. iff-then (x.has.is_pending p) (o.pending p);
    is_taken = λ p. iff-then (x.has.is_taken p) (o.taken p);
    is_reserved = λ p. iff-then (x.has.is_reserved p) (o.placing p);
    is_claimed = λ i. iff-then (x.has.is_claimed i) (o.claimed i);
    is_read = λ i v. iff-then (x.has.is_read i v) (o.read i v);
  };
} where
  count : (held : Option Held) → HoldsBuffer (buffers_as_held s.words s.filled) a held → KnowsCount t.filled held
  count None y = tt
  count (Some own) y = o.filled own.index ((y.only own.index).1 refl) ∙ y.count

-- each step
pub steps-go : EachMoveKeeps → EachMoveLeaves → EachMoveLeavesTheDead → EachStepGoesByMoves
steps-go keep leave dead z a s t g stays = record { good = g; others = λ b ne. others-same z b s; dead = λ o h. h; unknown = λ o h. h }
steps-go keep leave dead z a s t g (goes u m w may) = further (steps-go keep leave dead z a s u g w) where
  further : StepsGoByMoves z a s u → StepsGoByMoves z a s (moved z a u m)
  further x = record {
    good = keep z a u m x.good may;
    others = λ b ne. others-then z b s u (moved z a u m) (x.others b ne) (leave z b a u m ne x.good may);
    dead = λ o h. (dead z a u m x.good may o).0 (x.dead o h);
    unknown = λ o h. (dead z a u m x.good may o).1 (x.unknown o h);
  }
