-- The verdict at the end of both readings.
use Rattle.std.proofs.Common.{◌≡◌, ℕ, zero, suc, ◌<◌, ◌≤◌, ◌==◌, ◌&&◌, Bool, true, false, not, cond, List, length, take, ◌+◌, Option, Some, None, Result, Ok, Err, refl, sym, ap, ◌∙◌, subst, arith, inl, inr, take_all, length-take-le}
use Rattle.std.proofs.lemmas.Bool.{cases_lt}
use Rattle.std.proofs.lemmas.Bool.Decides.{nat_tests}
use Rattle.gh_dump.specs.Index.{Indexes}
use Rattle.gh_dump.specs.Items.{items_of}
use Rattle.gh_dump.specs.Listing.{is_total}
use Rattle.gh_dump.specs.Read.{AreRight, IsFirstFault}
use Rattle.gh_dump.specs.Verdict.{Accepts, AnswersCount, AnswersFault, cause_at, end_cause, Faults, HaveOneVerdict, IsVerdict, line_cause, most_bytes, own_cause, size_cause}
use Rattle.gh_dump.specs.Vocabulary.{DumpFault, DumpWhy, Item, list_any}
use Rattle.gh_dump.specs.declared.before.Before.{Before}
use Rattle.gh_dump.specs.declared.fault.VerifyError.{VerifyError}
use Rattle.gh_dump.specs.declared.fault.VerifyError.TheVariants.{Dump, NoMemory}
use Rattle.gh_dump.specs.declared.fault.DumpWhy.TheVariants.{Size, Total}
use Rattle.gh_dump.specs.declared.index.Index.{Index}
use Rattle.gh_dump.proofs.Verdicts.{not_both, one_count, one_fault, past}

-- ---- causes that aren't there

size_none : (text : List ℕ) → length text ≤ most_bytes → size_cause text ≡ None
size_none text short = grind (arith, nat_tests)

own_none : (text : List ℕ) (n : ℕ) → length text ≤ most_bytes → ((i : ℕ) → i < n → line_cause (items_of text) i ≡ None) → own_cause text n ≡ None
unfolding own_cause
own_none text zero short none = size_none text short
own_none text (suc i) short none = none i (omega arith)

end_before : (items : List (Option Item)) (n : ℕ) → n < length items → end_cause items n ≡ None
end_before items n lt = go (length items) (not (list_any is_total items)) lt where
  go : (len : ℕ) (b : Bool) → n < len → cond ((n == len) && b) (Some Total) None ≡ None
  go len b lt = grind (arith, nat_tests)

and_false : (a : Bool) → (a && false) ≡ false
and_false true = refl
and_false false = refl

end_total : (items : List (Option Item)) (n : ℕ) → list_any is_total items ≡ true → end_cause items n ≡ None
end_total items n total = rw (total, and_false (n == length items)) refl

end_missing : (items : List (Option Item)) (n : ℕ) → n ≡ length items → list_any is_total items ≡ false → end_cause items n ≡ Some Total
end_missing items n at none = rw none (go (length items) at) where
  go : (len : ℕ) → n ≡ len → cond ((n == len) && true) (Some Total) None ≡ Some Total
  go len e = grind (arith, nat_tests)

nothing_at : (text : List ℕ) (n : ℕ) → own_cause text n ≡ None → end_cause (items_of text) n ≡ None → cause_at text n ≡ None
unfolding cause_at
nothing_at text n own end = rw own end

-- ---- the verdicts

pub too_long : (text : List ℕ) → most_bytes < length text → Faults text 0 Size
unfolding cause_at own_cause
too_long text long = record { cause = rw (size_some text long) refl; first = λ n h. absurd (omega arith) } where
  size_some : (text : List ℕ) → most_bytes < length text → size_cause text ≡ Some Size
  size_some text long = grind (arith, nat_tests)

at_line : (text : List ℕ) (i : ℕ) (why : DumpWhy) → line_cause (items_of text) i ≡ Some why → cause_at text (suc i) ≡ Some why
unfolding cause_at own_cause
at_line text i why e = rw e refl

pub line_faults : (text : List ℕ) (fault : DumpFault) → length text ≤ most_bytes → IsFirstFault fault (items_of text) → Faults text fault.line fault.why
line_faults text fault short f =
    let at : fault.line ≡ suc f.place = omega (arith, f.line) in
    record {
      cause = ap (cause_at text) at ∙ at_line text f.place fault.why f.cause;
      first = λ n h. nothing_at text n (own_none text n short (λ i lt. f.none i (omega (arith, at)))) (end_before (items_of text) n (omega (arith, at, f.within)));
    }

missing_at : (text : List ℕ) (n : ℕ) → own_cause text n ≡ None → end_cause (items_of text) n ≡ Some Total → cause_at text n ≡ Some Total
unfolding cause_at
missing_at text n own end = rw own end

pub total_missing : (text : List ℕ) (before : Before) → length text ≤ most_bytes → AreRight before (items_of text) → before.has_total ≡ false → Faults text before.lines Total
total_missing text before short r none =
    let all : before.lines ≡ length (items_of text) = r.said.lines in
    record {
      cause = missing_at text before.lines (own_none text before.lines short (λ i lt. r.none i (omega (arith, all)))) (end_missing (items_of text) before.lines all (sym r.said.total ∙ none));
      first = λ n h. nothing_at text n (own_none text n short (λ i lt. r.none i (omega (arith, all)))) (end_before (items_of text) n (omega (arith, all)));
    }

pub accepted : (text : List ℕ) (before : Before) (index : Index) → length text ≤ most_bytes → AreRight before (items_of text) → Indexes index (items_of text) → before.has_total ≡ true → Accepts text index.objects
accepted text before index short r has total = record {
  right = λ n. elim (cases_lt (length (items_of text)) n) [
    | inl lt ↦ past text n lt
    | inr le ↦ nothing_at text n (own_none text n short (λ i lt. r.none i (omega arith))) (end_total (items_of text) n (sym r.said.total ∙ total))
  ];
  count = has.objects;
}

-- ---- what the verdict answers

pub answers_count : (text : List ℕ) (r : Result ℕ VerifyError) → IsVerdict text r → (n : ℕ) → Accepts text n → AnswersCount r n
answers_count text (Ok m) v n a = one_count text m n v a
answers_count text (Err NoMemory) v n a = tt
answers_count text (Err (Dump fault)) v n a = not_both text n fault.line fault.why a v

pub answers_fault : (text : List ℕ) (r : Result ℕ VerifyError) → IsVerdict text r → (line : ℕ) (why : DumpWhy) → Faults text line why → AnswersFault r line why
answers_fault text (Ok m) v line why f = not_both text m line why v f
answers_fault text (Err NoMemory) v line why f = tt
answers_fault text (Err (Dump fault)) v line why f =
    let same = one_fault text fault.line line fault.why why v f in
    λ i. record { line = same.0 i; why = same.1 i }

pub refusal : (text : List ℕ) (r : Result ℕ VerifyError) → IsVerdict text r → (fault : DumpFault) → r ≡ Err (Dump fault) → Faults text fault.line fault.why
refusal text r v fault e = subst (IsVerdict text) e v

-- ---- a text that is too long

pub accepted_short : (text : List ℕ) (n : ℕ) → Accepts text n → length text ≤ most_bytes
accepted_short text n a = elim (cases_lt most_bytes (length text)) [
  | inl long ↦ absurd (not_both text n 0 Size a (too_long text long))
  | inr short ↦ short
]

-- what a text that is too long is refused for
too_long_cut : (a b : List ℕ) → Faults a 0 Size → Faults b 0 Size → HaveOneVerdict a b
too_long_cut a b f g = record {
  accepted = λ n h. absurd (not_both a n 0 Size h f);
  refused = λ line why h.
      let same = one_fault a 0 line Size why f h in
      subst (λ (w : DumpWhy). Faults b line w) same.1 (subst (λ (n : ℕ). Faults b n Size) same.0 g);
}

same_text : (a b : List ℕ) → a ≡ b → HaveOneVerdict a b
same_text a b e = record {
  accepted = λ n h. subst (λ (t : List ℕ). Accepts t n) e h;
  refused = λ line why h. subst (λ (t : List ℕ). Faults t line why) e h;
}

pub cut : (text : List ℕ) → HaveOneVerdict (take (most_bytes + 1) text) text
cut text = elim (cases_lt most_bytes (length text)) [
  | inl long ↦
      let kept : length (take (most_bytes + 1) text) ≡ most_bytes + 1 = length-take-le (most_bytes + 1) text (omega (arith, long)) in
      too_long_cut (take (most_bytes + 1) text) text (too_long (take (most_bytes + 1) text) (omega (arith, kept))) (too_long text long)
  | inr short ↦ same_text (take (most_bytes + 1) text) text (take_all (most_bytes + 1) text (omega (arith, short)))
]
