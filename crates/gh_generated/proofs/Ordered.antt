-- Orders of the operations of goroutines that are apart: what each leaves of a goroutine is what that goroutine's operations leave alone.
use Rattle.std.proofs.Common.{◌≡◌, ℕ, Bool, true, false, cond, List, [], ◌∷◌, length, map, refl, sym, subst, ◌∙◌, inl, inr, All, arith}
use Rattle.std.specs.List.{filter}
use Rattle.std.proofs.lemmas.Bool.{cases_lt}
use Rattle.std.proofs.lemmas.List.Elements.{All-append, All-cons, All-head, All-map, All-nil, All-tail}
use Rattle.gh_generated.proofs.Vocabulary.{AllKeepToTheirOwn, Ever, ever_left_by, is_by_goroutine, IsOrderOf, KeepsTo, KeepsToItsOwn, Op, opening_ever, operations_of, Shape}
use Rattle.gh_model.specs.Answers.{answers_from, ever_after_all}
use Rattle.gh_script.specs.declared.statement.Stmt.{Stmt}
use Rattle.gh_script.specs.Program.{Program, statement_as_op, statements_of}
use Rattle.gh_generated.proofs.Parts.{Apart, own_change, same_change, SamePart, SamePart-self, SamePart-swapped, SamePart-through}
use Rattle.gh_generated.proofs.Steps.{some_goroutine, step, step_change, step_elsewhere}

-- the heap after all operations
abbrev run : List Shape → Ever → List Op → Ever
run shapes e all = ever_after_all shapes e all (answers_from shapes e all)

abbrev of : ℕ → List Op → List Op
of g all = filter (is_by_goroutine g) all

part_step : (shapes : List Shape) (g : ℕ) (op : Op) (rest : List Op) (e f : Ever) (b : Bool) → is_by_goroutine g op ≡ b → KeepsToItsOwn op → Apart e → SamePart g e f
    → ((x y : Ever) → Apart x → SamePart g x y → SamePart g (run shapes x rest) (run shapes y (of g rest))) → SamePart g (run shapes (step shapes e op) rest) (run shapes f (cond b (op ∷ of g rest) (of g rest)))
part_step shapes g op rest e f true is keeps a s more =
    let c = step_change shapes g e f op is keeps a s in
    more (step shapes e op) (step shapes f op) (own_change shapes g e f (step shapes e op) (step shapes f op) c a) (same_change shapes g e f (step shapes e op) (step shapes f op) c s)
part_step shapes g op rest e f false is keeps a s more =
    let w = step_elsewhere shapes g e op is keeps a in
    more (step shapes e op) f w.1 (SamePart-through g (step shapes e op) e f (SamePart-swapped g e (step shapes e op) w.0) s)

-- all operations leave of a goroutine what its own leave
part : (shapes : List Shape) (g : ℕ) (all : List Op) (e f : Ever) → All KeepsToItsOwn all → Apart e → SamePart g e f → SamePart g (run shapes e all) (run shapes f (of g all))
part shapes g [] e f keeps a s = s
part shapes g (op ∷ rest) e f keeps a s =
    part_step shapes g op rest e f (is_by_goroutine g op) refl (All-head KeepsToItsOwn op rest keeps) a s (λ x y b t. part shapes g rest x y (All-tail KeepsToItsOwn op rest keeps) b t)

-- ---- each operation of an order keeps to its own

one_kept : (g : ℕ) (op : Op) (rest : List Op) (b : Bool) → b ≡ true → All KeepsToItsOwn (cond b (op ∷ of g rest) (of g rest)) → KeepsToItsOwn op
one_kept g op rest true is h = All-head KeepsToItsOwn op (of g rest) h
one_kept g op rest false is h = absurd cc

rest_kept : (g : ℕ) (op : Op) (rest : List Op) (b : Bool) → All KeepsToItsOwn (cond b (op ∷ of g rest) (of g rest)) → All KeepsToItsOwn (of g rest)
rest_kept g op rest true h = All-tail KeepsToItsOwn op (of g rest) h
rest_kept g op rest false h = h

head_kept : (shapes : List Shape) (op : Op) (rest : List Op) → ((g : ℕ) → All KeepsToItsOwn (of g (op ∷ rest))) → KeepsToItsOwn op
head_kept shapes op rest h = elim (some_goroutine shapes op) [ inl w ↦ one_kept w.0 op rest (is_by_goroutine w.0 op) w.1 (h w.0) | inr w ↦ w.0 ]

all_kept : (shapes : List Shape) (all : List Op) → ((g : ℕ) → All KeepsToItsOwn (of g all)) → All KeepsToItsOwn all
all_kept shapes [] h = All-nil KeepsToItsOwn
all_kept shapes (op ∷ rest) h =
    All-cons KeepsToItsOwn op rest (head_kept shapes op rest h) (all_kept shapes rest (λ g. rest_kept g op rest (is_by_goroutine g op) (h g)))

order_kept : (p : Program) (all : List Op) → AllKeepToTheirOwn p → IsOrderOf p all → All KeepsToItsOwn all
order_kept p all apart order =
    all_kept p.shapes all (λ g. elim (cases_lt g (length p.goroutines)) [
      | inl lt ↦ subst (All KeepsToItsOwn) (sym (order.each g lt)) (apart g lt)
      | inr le ↦ subst (All KeepsToItsOwn) (sym (order.no_other g le)) (All-nil KeepsToItsOwn)
    ])

-- two orders have the same of each goroutine
same_of : (p : Program) (one other : List Op) (g : ℕ) → IsOrderOf p one → IsOrderOf p other → of g one ≡ of g other
same_of p one other g a b = elim (cases_lt g (length p.goroutines)) [
  | inl lt ↦ a.each g lt ∙ sym (b.each g lt)
  | inr le ↦ a.no_other g le ∙ sym (b.no_other g le)
]

opening_apart : Apart opening_ever
opening_apart = record { fields = λ n k. tt; globals = λ g. tt; registers = λ g d. tt }

same_parts : (p : Program) (one other : List Op) (g : ℕ) → AllKeepToTheirOwn p → IsOrderOf p one → IsOrderOf p other → SamePart g (ever_left_by p.shapes one) (ever_left_by p.shapes other)
same_parts p one other g apart a b =
    let x = part p.shapes g one opening_ever opening_ever (order_kept p one apart a) opening_apart (SamePart-self g opening_ever) in
    let y = part p.shapes g other opening_ever opening_ever (order_kept p other apart b) opening_apart (SamePart-self g opening_ever) in
    let z = subst (λ (l : List Op). SamePart g (ever_left_by p.shapes one) (run p.shapes opening_ever l)) (same_of p one other g a b) x in
    SamePart-through g (ever_left_by p.shapes one) (run p.shapes opening_ever (of g other)) (ever_left_by p.shapes other) z (SamePart-swapped g (ever_left_by p.shapes other) (run p.shapes opening_ever (of g other)) y)

-- heaps that have the same of each goroutine are one
one_heap : (e f : Ever) → ((g : ℕ) → SamePart g e f) → e ≡ f
one_heap e f s = λ i. record {
  made = λ g. (s g).made i;
  type_of = λ n. (s n.g).types n refl i;
  field = λ n k. (s n.g).fields n k refl i;
  global = λ g. (s g).global i;
  register = λ g d. (s g).registers d i;
  ended = λ g. (s g).ended i;
}

pub apart_orders : (p : Program) (one other : List Op) → AllKeepToTheirOwn p → IsOrderOf p one → IsOrderOf p other → ever_left_by p.shapes one ≡ ever_left_by p.shapes other
apart_orders p one other apart a b = one_heap (ever_left_by p.shapes one) (ever_left_by p.shapes other) (λ g. same_parts p one other g apart a b)

-- ---- statements that keep to a global, as operations

statement_kept : (g : ℕ) (statement : Stmt) → KeepsTo g statement → KeepsToItsOwn (statement_as_op g statement)
statement_kept g statement h = grind arith

pub operations_kept : (p : Program) (g : ℕ) → All (KeepsTo g) (statements_of p g) → All KeepsToItsOwn (operations_of p g)
operations_kept p g h =
    All-append KeepsToItsOwn (map (statement_as_op g) (statements_of p g)) (Op.End g ∷ [])
    (All-map KeepsToItsOwn (statement_as_op g) (statements_of p g) (λ k d lt. statement_kept g _ (h k d lt)))
    (All-cons KeepsToItsOwn (Op.End g) [] tt (All-nil KeepsToItsOwn))
