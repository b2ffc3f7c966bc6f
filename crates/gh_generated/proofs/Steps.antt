-- An operation that keeps to its goroutine's global makes the same change in two heaps that have the same of the goroutine.
use Rattle.std.proofs.Common.{◌≡◌, ℕ, Bool, true, false, cond, List, refl, sym, ap, subst, ◌∙◌, ◌≢◌, ◌⊎◌, inl, inr, arith}
use Rattle.std.proofs.lemmas.Bool.{eqb-true, eq-eqb}
use Rattle.gh_generated.proofs.Vocabulary.{answer_of, answer_of_value, Ever, ever_after, EverValue, fits, has_field, is_by_goroutine, is_number, is_pointer_field, KeepsToItsOwn, load_answer, Name, Op, sets_global, Shape, store_answer, stores_value, takes_answer, with_register}
use Rattle.gh_base.specs.declared.value.Answer.{Answer}
use Rattle.gh_base.specs.declared.value.Fault.TheVariants.{Field, Kind}
use Rattle.gh_generated.proofs.Parts.{Apart, Changes, ends, field, global, IsOwn, nothing, object, other_change, own_change, register, SamePart, SamePart-self}

-- the heap after one operation more, where there is room
abbrev pub step : List Shape → Ever → Op → Ever
step shapes e op = ever_after shapes e op (answer_of shapes e op)

module _ (shapes : List Shape) (g : ℕ) (e f : Ever) where
  told_one : (d : ℕ) (v : EverValue) → IsOwn g v → Changes shapes g e f (takes_answer e g d (answer_of_value v)) (takes_answer f g d (answer_of_value v))
  told_one d EverValue.Nil own = register d EverValue.Nil tt
  told_one d (EverValue.Int n) own = register d (EverValue.Int n) tt
  told_one d (EverValue.Ref n) own = register d (EverValue.Ref n) own

  told_change : (d : ℕ) (v w : EverValue) → v ≡ w → IsOwn g v → Changes shapes g e f (takes_answer e g d (answer_of_value v)) (takes_answer f g d (answer_of_value w))
  told_change d v w same own = grind (arith, told_one)

  loaded : (d : ℕ) (there : Bool) (v w : EverValue) → v ≡ w → IsOwn g v → Changes shapes g e f (takes_answer e g d (cond there (answer_of_value v) (Answer.Fault Field))) (takes_answer f g d (cond there (answer_of_value w) (Answer.Fault Field)))
  loaded d true v w same own = told_change d v w same own
  loaded d false v w same own = nothing

  load_change : (d k : ℕ) (base : EverValue) → IsOwn g base → Apart e → SamePart g e f → Changes shapes g e f (takes_answer e g d (load_answer shapes e base k)) (takes_answer f g d (load_answer shapes f base k))
  load_change d k EverValue.Nil own a s = nothing
  load_change d k (EverValue.Int n) own a s = nothing
  load_change d k (EverValue.Ref n) own a s =
      let there : has_field shapes e n k ≡ has_field shapes f n k = ap (λ (t : ℕ). has_field shapes (record e { type_of = λ m. t }) n k) (s.types n own) in
      subst (λ (b : Bool). Changes shapes g e f (takes_answer e g d (load_answer shapes e (EverValue.Ref n) k)) (takes_answer f g d (cond b (answer_of_value (f.field n k)) (Answer.Fault Field)))) there
      (loaded d (has_field shapes e n k) (e.field n k) (f.field n k) (s.fields n k own) (subst (λ (h : ℕ). IsOwn h (e.field n k)) own (a.fields n k)))

  stored : (n : Name) (k : ℕ) (v : EverValue) (there right : Bool) → n.g ≡ g → IsOwn g v
      → Changes shapes g e f (stores_value e (EverValue.Ref n) k v (cond there (cond right Answer.Done (Answer.Fault Kind)) (Answer.Fault Field))) (stores_value f (EverValue.Ref n) k v (cond there (cond right Answer.Done (Answer.Fault Kind)) (Answer.Fault Field)))
  stored n k v true true own mine = field n k v own mine
  stored n k v true false own mine = nothing
  stored n k v false right own mine = nothing

  store_change : (k : ℕ) (base v : EverValue) → IsOwn g base → IsOwn g v → SamePart g e f → Changes shapes g e f (stores_value e base k v (store_answer shapes e base k v)) (stores_value f base k v (store_answer shapes f base k v))
  store_change k EverValue.Nil v own mine s = nothing
  store_change k (EverValue.Int n) v own mine s = nothing
  store_change k (EverValue.Ref n) v own mine s =
      let same : store_answer shapes e (EverValue.Ref n) k v ≡ store_answer shapes f (EverValue.Ref n) k v = ap (λ (t : ℕ). store_answer shapes (record e { type_of = λ m. t }) (EverValue.Ref n) k v) (s.types n own) in
      subst (λ (x : Answer). Changes shapes g e f (stores_value e (EverValue.Ref n) k v (store_answer shapes e (EverValue.Ref n) k v)) (stores_value f (EverValue.Ref n) k v x)) same
      (stored n k v (has_field shapes e n k) (fits (is_pointer_field shapes e n k) v) own mine)

  set_change : (v : EverValue) (number : Bool) → IsOwn g v → Changes shapes g e f (sets_global e g v (cond number (Answer.Fault Kind) Answer.Done)) (sets_global f g v (cond number (Answer.Fault Kind) Answer.Done))
  set_change v true own = nothing
  set_change v false own = global v own

  -- an operation of goroutine g
  abbrev Made : Op → Type 0
  Made op = Changes shapes g e f (step shapes e op) (step shapes f op)

  pub step_change : (op : Op) → is_by_goroutine g op ≡ true → KeepsToItsOwn op → Apart e → SamePart g e f → Made op
  step_change (Op.New h d t) is keeps a s = subst (λ (x : ℕ). Made (Op.New x d t)) (sym (eqb-true h g is)) (object d t)
  step_change (Op.Load h d b k) is keeps a s =
      subst (λ (x : ℕ). Made (Op.Load x d b k)) (sym (eqb-true h g is))
      (subst (λ (v : EverValue). Changes shapes g e f (takes_answer e g d (load_answer shapes e (e.register g b) k)) (takes_answer f g d (load_answer shapes f v k))) (s.registers b) (load_change d k (e.register g b) (a.registers g b) a s))
  step_change (Op.Store h b k v) is keeps a s =
      subst (λ (x : ℕ). Made (Op.Store x b k v)) (sym (eqb-true h g is))
      (subst (λ (w : EverValue). Changes shapes g e f (step shapes e (Op.Store g b k v)) (stores_value f w k (f.register g v) (store_answer shapes f w k (f.register g v)))) (s.registers b)
      (subst (λ (w : EverValue). Changes shapes g e f (step shapes e (Op.Store g b k v)) (stores_value f (e.register g b) k w (store_answer shapes f (e.register g b) k w))) (s.registers v)
      (store_change k (e.register g b) (e.register g v) (a.registers g b) (a.registers g v) s)))
  step_change (Op.GetGlobal h d k) is keeps a s =
      subst (λ (x : ℕ). Made (Op.GetGlobal x d k)) (sym (eqb-true h g is))
      (subst (λ (x : ℕ). Made (Op.GetGlobal g d x)) (sym (keeps ∙ eqb-true h g is)) (told_change d (e.global g) (f.global g) s.global (a.globals g)))
  step_change (Op.SetGlobal h k v) is keeps a s =
      subst (λ (x : ℕ). Made (Op.SetGlobal x k v)) (sym (eqb-true h g is))
      (subst (λ (x : ℕ). Made (Op.SetGlobal g x v)) (sym (keeps ∙ eqb-true h g is))
      (subst (λ (w : EverValue). Changes shapes g e f (step shapes e (Op.SetGlobal g g v)) (sets_global f g w (cond (is_number w) (Answer.Fault Kind) Answer.Done))) (s.registers v) (set_change (e.register g v) (is_number (e.register g v)) (a.registers g v))))
  step_change (Op.Int h d n) is keeps a s = subst (λ (x : ℕ). Made (Op.Int x d n)) (sym (eqb-true h g is)) (register d (EverValue.Int n) tt)
  step_change (Op.Move h d c) is keeps a s =
      subst (λ (x : ℕ). Made (Op.Move x d c)) (sym (eqb-true h g is))
      (subst (λ (v : EverValue). Changes shapes g e f (with_register e g d (e.register g c)) (with_register f g d v)) (s.registers c) (register d (e.register g c) (a.registers g c)))
  step_change (Op.Nil h d) is keeps a s = subst (λ (x : ℕ). Made (Op.Nil x d)) (sym (eqb-true h g is)) (register d EverValue.Nil tt)
  step_change (Op.Gc h) is keeps a s = subst (λ (x : ℕ). Made (Op.Gc x)) (sym (eqb-true h g is)) nothing
  step_change Op.Poll is keeps a s = absurd cc
  step_change (Op.End h) is keeps a s = subst (λ (x : ℕ). Made (Op.End x)) (sym (eqb-true h g is)) ends
  step_change Op.Leave is keeps a s = absurd cc

-- an operation is of some goroutine, or changes nothing
pub some_goroutine : (shapes : List Shape) (op : Op) → ((h : ℕ) × (is_by_goroutine h op ≡ true)) ⊎ (KeepsToItsOwn op × ((e : Ever) → step shapes e op ≡ e))
some_goroutine shapes (Op.New h d t) = inl (h, eq-eqb h h refl)
some_goroutine shapes (Op.Load h d b k) = inl (h, eq-eqb h h refl)
some_goroutine shapes (Op.Store h b k v) = inl (h, eq-eqb h h refl)
some_goroutine shapes (Op.GetGlobal h d k) = inl (h, eq-eqb h h refl)
some_goroutine shapes (Op.SetGlobal h k v) = inl (h, eq-eqb h h refl)
some_goroutine shapes (Op.Int h d n) = inl (h, eq-eqb h h refl)
some_goroutine shapes (Op.Move h d s) = inl (h, eq-eqb h h refl)
some_goroutine shapes (Op.Nil h d) = inl (h, eq-eqb h h refl)
some_goroutine shapes (Op.Gc h) = inl (h, eq-eqb h h refl)
some_goroutine shapes Op.Poll = inr (tt, λ e. refl)
some_goroutine shapes (Op.End h) = inl (h, eq-eqb h h refl)
some_goroutine shapes Op.Leave = inr (tt, λ e. refl)

differ : (b : Bool) → b ≡ true → b ≡ false → ⊥
differ b p q = grind arith

-- an operation that is not of goroutine g leaves its part as it was
pub step_elsewhere : (shapes : List Shape) (g : ℕ) (e : Ever) (op : Op) → is_by_goroutine g op ≡ false → KeepsToItsOwn op → Apart e → SamePart g e (step shapes e op) × Apart (step shapes e op)
step_elsewhere shapes g e op not_of keeps a = elim (some_goroutine shapes op) [
  | inl w ↦
      let c = step_change shapes w.0 e e op w.1 keeps a (SamePart-self w.0 e) in
      let ne : g ≢ w.0 = λ same. differ (is_by_goroutine g op) (ap (λ (x : ℕ). is_by_goroutine x op) same ∙ w.1) not_of in
      (other_change shapes w.0 g e e (step shapes e op) (step shapes e op) c ne, own_change shapes w.0 e e (step shapes e op) (step shapes e op) c a)
  | inr w ↦ (subst (SamePart g e) (sym (w.1 e)) (SamePart-self g e), subst Apart (sym (w.1 e)) a)
]
