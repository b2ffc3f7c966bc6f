-- A load finds, in the heap that never frees, what was stored last.
use Rattle.std.proofs.Common.{◌≡◌, ◌≢◌, ℕ, ◌+◌, ◌==◌, ◌&&◌, eqb, eq-eqb, Bool, true, false, cond, nat_lt, if◌then◌else◌, List, [], ◌∷◌, ◌++◌, Option, Some, None, refl, sym, ap, subst, ◌∙◌, arith}
use Rattle.std.proofs.lemmas.Bool.{eqb-false, eqb-true}
use Rattle.std.proofs.lemmas.List.{append_assoc}
use Rattle.gh_explained.proofs.Vocabulary.{Act, acted, Answer, Entry, Ever, ever_after, EverValue, IsMade, Layout, Name, names, nat_tests, Op, Shape}
use Rattle.gh_base.specs.Shapes.{is_pointer, shape_at}
use Rattle.gh_base.specs.declared.value.Fault.{Fault}
use Rattle.gh_explained.specs.Stores.{act_of, ever, EveryLoadSeesStores, HidesAlong, IsAlone, IsAloneAlong, Leaves, LeavesAlong, Loads, Makes, NoneStores, Stores}
use Rattle.gh_law.proofs.Named.Naming.{IsNamed, named-acted, named-opening}
use Rattle.gh_model.specs.Ever.{answer_of, answer_of_value, field_count, first_value, fits, has_field, is_pointer_field, load_answer, next_name, same_name, sets_global, store_answer, stores_value, takes_answer, with_field, with_object, with_register}

-- ---- names

same_self : (n : Name) → same_name n n ≡ true
same_self n = ap (λ (b : Bool). b && (n.k == n.k)) (eq-eqb n.g n.g refl) ∙ eq-eqb n.k n.k refl

both_are : (b c : Bool) → (b && c) ≡ true → (b ≡ true) × (c ≡ true)
both_are true true e = (refl, refl)
both_are true false e = absurd cc
both_are false c e = absurd cc

same_is : (n m : Name) → same_name n m ≡ true → n ≡ m
same_is n m e =
    let both = both_are (n.g == m.g) (n.k == m.k) e in
    let one = eqb-true n.g m.g both.0 in
    let two = eqb-true n.k m.k both.1 in
    λ i. record { g = one i; k = two i }

-- a value that names the object is its reference
is_named : (v : EverValue) (n : Name) → names v ≡ Some n → v ≡ EverValue.Ref n
is_named EverValue.Nil n is = absurd cc
is_named (EverValue.Int i) n is = absurd cc
is_named (EverValue.Ref m) n is = let same : m ≡ n = cc in ap (λ (o : Name). EverValue.Ref o) same

-- one that was made is not the next
not_next : (e : Ever) (g : ℕ) (n : Name) → IsMade e.made n → same_name n (next_name e g) ≡ false
not_next e g n made = grind (arith, nat_tests)

more_made : (e : Ever) (g : ℕ) (n : Name) → IsMade e.made n → IsMade (λ (h : ℕ). if h == g then e.made g + 1 else e.made h) n
more_made e g n made = grind (arith, nat_tests)

-- ---- one statement

module _ (shapes : List Shape) (n : Name) (k : ℕ) (v : EverValue) (t : ℕ) where
  -- the object was made, is of this type, and its field holds this
  record HoldsIt (e : Ever) : Type 0 where
    made : IsMade e.made n
    typed : e.type_of n ≡ t
    field : e.field n k ≡ v

  module _ (e : Ever) (h : HoldsIt e) where
    by_register : (g d : ℕ) (x : EverValue) → HoldsIt (with_register e g d x)
    by_register g d x = record { made = h.made; typed = h.typed; field = h.field }

    by_object : (g d s : ℕ) (x : EverValue) → HoldsIt (with_register (with_object shapes e g s) g d x)
    by_object g d s x =
        let other = not_next e g n h.made in
        record { made = more_made e g n h.made; typed = rw other h.typed; field = rw other h.field }

    by_answer : (g d : ℕ) (a : Answer) → HoldsIt (takes_answer e g d a)
    by_answer g d a = grind (arith, by_register, h)

    by_field : (m : Name) (j : ℕ) (x : EverValue) → (j ≡ k → m ≢ n) → HoldsIt (with_field e m j x)
    by_field m j x apart = record { made = h.made; typed = h.typed; field = go (same_name n m && (k == j)) refl } where
      go : (b : Bool) → (same_name n m && (k == j)) ≡ b → cond b x (e.field n k) ≡ v
      go false q = h.field
      go true q = let both = both_are (same_name n m) (k == j) q in absurd (apart (sym (eqb-true k j both.1)) (sym (same_is n m both.0)))

    by_store : (base : EverValue) (j : ℕ) (x : EverValue) (a : Answer) → (j ≡ k → names base ≢ Some n) → HoldsIt (stores_value e base j x a)
    by_store (EverValue.Ref m) j x Answer.Done apart = by_field m j x (λ same is. apart same (ap (λ (o : Name). Some o) is))
    by_store base j x a apart = grind (arith, h)

    by_global : (c : ℕ) (x : EverValue) (a : Answer) → HoldsIt (sets_global e c x a)
    by_global c x a = grind (arith, h)

    -- a store is on another field
    abbrev Spares : Op → Type 0
    Spares (Op.Store g b j r) = j ≡ k → names (e.register g b) ≢ Some n
    Spares o = Unit {0}

    after : (o : Op) (a : Answer) → Spares o → HoldsIt (ever_after shapes e o a)
    after (Op.New g d s) a spares = go a where
      go : (a : Answer) → HoldsIt (ever_after shapes e (Op.New g d s) a)
      go Answer.Full = by_register g d EverValue.Nil
      go _ = by_object g d s (EverValue.Ref (next_name e g))
    after (Op.Load g d b j) a spares = by_answer g d a
    after (Op.Store g b j r) a spares = by_store (e.register g b) j (e.register g r) a spares
    after (Op.GetGlobal g d c) a spares = by_answer g d a
    after (Op.SetGlobal g c r) a spares = by_global c (e.register g r) a
    after (Op.Int g d i) a spares = by_register g d (EverValue.Int i)
    after (Op.Move g d s) a spares = by_register g d (e.register g s)
    after (Op.Nil g d) a spares = by_register g d EverValue.Nil
    after (Op.Gc g) a spares = h
    after Op.Poll a spares = h
    after (Op.End g) a spares = record { made = h.made; typed = h.typed; field = h.field }
    after Op.Leave a spares = h

-- ---- an object whose name is stored nowhere

-- The object was made; goroutine g alone has its name, in registers.
record IsHidden (shapes : List Shape) (g : ℕ) (n : Name) (e : Ever) : Type 0 where
  made : IsMade e.made n
  fields : (m : Name) (k : ℕ) → names (e.field m k) ≢ Some n
  globals : (c : ℕ) → names (e.global c) ≢ Some n
  others : (h d : ℕ) → h ≢ g → names (e.register h d) ≢ Some n

first_names_none : (pointer : Bool) (n : Name) → names (first_value pointer) ≢ Some n
first_names_none true n e = absurd cc
first_names_none false n e = absurd cc

module _ (shapes : List Shape) (g : ℕ) (e : Ever) (no_register : (h d : ℕ) → names (e.register h d) ≢ Some (next_name e g)) (no_field : (m : Name) (k : ℕ) → names (e.field m k) ≢ Some (next_name e g)) (no_global : (c : ℕ) → names (e.global c) ≢ Some (next_name e g)) where
  new_hidden : (t d : ℕ) → IsHidden shapes g (next_name e g) (with_register (with_object shapes e g t) g d (EverValue.Ref (next_name e g)))
  new_hidden t d = record {
    made = rw (eq-eqb g g refl) (omega arith);
    fields = λ m k. go m k (same_name m (next_name e g));
    globals = no_global;
    others = λ h c apart. other h c apart ((h == g) && (c == d)) refl;
  } where
    go : (m : Name) (k : ℕ) (b : Bool) → names (cond b (first_value (is_pointer (shape_at shapes t) k)) (e.field m k)) ≢ Some (next_name e g)
    go m k true = first_names_none (is_pointer (shape_at shapes t) k) (next_name e g)
    go m k false = no_field m k

    other : (h c : ℕ) → h ≢ g → (b : Bool) → ((h == g) && (c == d)) ≡ b → names (cond b (EverValue.Ref (next_name e g)) (e.register h c)) ≢ Some (next_name e g)
    other h c apart true q = absurd (apart (eqb-true h g (both_are (h == g) (c == d) q).0))
    other h c apart false q = no_register h c

module _ (shapes : List Shape) (g : ℕ) (n : Name) (e : Ever) (h : IsHidden shapes g n e) where
  -- a register takes what is not the name, or is one of g
  hidden_register : (i d : ℕ) (x : EverValue) → (i ≢ g → names x ≢ Some n) → IsHidden shapes g n (with_register e i d x)
  hidden_register i d x apart = record { made = h.made; fields = h.fields; globals = h.globals; others = λ j c other. go j c other ((j == i) && (c == d)) refl } where
    go : (j c : ℕ) → j ≢ g → (b : Bool) → ((j == i) && (c == d)) ≡ b → names (cond b x (e.register j c)) ≢ Some n
    go j c other true q = apart (subst (λ (m : ℕ). m ≢ g) (eqb-true j i (both_are (j == i) (c == d) q).0) other)
    go j c other false q = h.others j c other

  hidden_object : (i d t : ℕ) → IsHidden shapes g n (with_register (with_object shapes e i t) i d (EverValue.Ref (next_name e i)))
  hidden_object i d t = record {
    made = more_made e i n h.made;
    fields = λ m k. go m k (same_name m (next_name e i));
    globals = h.globals;
    others = λ j c other. reg j c other ((j == i) && (c == d));
  } where
    not_it : names (EverValue.Ref (next_name e i)) ≢ Some n
    not_it is = let same : next_name e i ≡ n = cc in let never : true ≡ false = sym (same_self n) ∙ ap (same_name n) (sym same) ∙ not_next e i n h.made in absurd cc

    go : (m : Name) (k : ℕ) (b : Bool) → names (cond b (first_value (is_pointer (shape_at shapes t) k)) (e.field m k)) ≢ Some n
    go m k true = first_names_none (is_pointer (shape_at shapes t) k) n
    go m k false = h.fields m k

    reg : (j c : ℕ) → j ≢ g → (b : Bool) → names (cond b (EverValue.Ref (next_name e i)) (e.register j c)) ≢ Some n
    reg j c other true = not_it
    reg j c other false = h.others j c other

  -- a value that is told does not name it
  hidden_value : (i d : ℕ) (x : EverValue) → names x ≢ Some n → IsHidden shapes g n (takes_answer e i d (answer_of_value x))
  hidden_value i d EverValue.Nil not = hidden_register i d EverValue.Nil (λ other. not)
  hidden_value i d (EverValue.Int k) not = hidden_register i d (EverValue.Int k) (λ other. not)
  hidden_value i d (EverValue.Ref m) not = hidden_register i d (EverValue.Ref m) (λ other. not)

  hidden_load : (i d k : ℕ) (base : EverValue) → IsHidden shapes g n (takes_answer e i d (load_answer shapes e base k))
  hidden_load i d k EverValue.Nil = h
  hidden_load i d k (EverValue.Int c) = h
  hidden_load i d k (EverValue.Ref m) = go (has_field shapes e m k) where
    go : (b : Bool) → IsHidden shapes g n (takes_answer e i d (cond b (answer_of_value (e.field m k)) (Answer.Fault Fault.Field)))
    go true = hidden_value i d (e.field m k) (h.fields m k)
    go false = h

  hidden_field : (m : Name) (k : ℕ) (x : EverValue) → names x ≢ Some n → IsHidden shapes g n (with_field e m k x)
  hidden_field m k x not = record { made = h.made; fields = λ o c. go o c (same_name o m && (c == k)); globals = h.globals; others = h.others } where
    go : (o : Name) (c : ℕ) (b : Bool) → names (cond b x (e.field o c)) ≢ Some n
    go o c true = not
    go o c false = h.fields o c

  hidden_store : (base : EverValue) (k : ℕ) (x : EverValue) (a : Answer) → (a ≡ Answer.Done → names x ≢ Some n) → IsHidden shapes g n (stores_value e base k x a)
  hidden_store (EverValue.Ref m) k x Answer.Done not = hidden_field m k x (not refl)
  hidden_store base k x a not = grind (arith, h)

  hidden_set : (c : ℕ) (x : EverValue) (a : Answer) → (a ≡ Answer.Done → names x ≢ Some n) → IsHidden shapes g n (sets_global e c x a)
  hidden_set c x Answer.Done not = record { made = h.made; fields = h.fields; globals = λ o. go o (o == c); others = h.others } where
    go : (o : ℕ) (b : Bool) → names (cond b x (e.global o)) ≢ Some n
    go o true = not refl
    go o false = h.globals o
  hidden_set c x a not = grind (arith, h)

  -- what another goroutine's register holds, or one of g, unless this stores the name
  not_stored : (i r : ℕ) → (i ≡ g → names (e.register g r) ≢ Some n) → names (e.register i r) ≢ Some n
  not_stored i r own = go (eqb i g) refl where
    go : (b : Bool) → eqb i g ≡ b → names (e.register i r) ≢ Some n
    go true q = subst (λ (j : ℕ). names (e.register j r) ≢ Some n) (sym (eqb-true i g q)) (own (eqb-true i g q))
    go false q = h.others i r (eqb-false i g q)

  hidden_after : (o : Op) (full : Bool) → ((base k from : ℕ) → o ≡ Op.Store g base k from → full ≡ false → names (e.register g from) ≢ Some n) → ((c from : ℕ) → o ≡ Op.SetGlobal g c from → full ≡ false → names (e.register g from) ≢ Some n) → IsHidden shapes g n (ever_after shapes e o (cond full Answer.Full (answer_of shapes e o)))
  hidden_after (Op.New i d t) true fields globals = hidden_register i d EverValue.Nil (λ other is. absurd cc)
  hidden_after (Op.New i d t) false fields globals = hidden_object i d t
  hidden_after (Op.Load i d b k) true fields globals = h
  hidden_after (Op.Load i d b k) false fields globals = hidden_load i d k (e.register i b)
  hidden_after (Op.Store i b k r) true fields globals = hidden_store (e.register i b) k (e.register i r) Answer.Full (λ is. absurd cc)
  hidden_after (Op.Store i b k r) false fields globals = hidden_store (e.register i b) k (e.register i r) (answer_of shapes e (Op.Store i b k r)) (λ is. not_stored i r (λ same. fields b k r (ap (λ (j : ℕ). Op.Store j b k r) same) refl))
  hidden_after (Op.GetGlobal i d c) true fields globals = h
  hidden_after (Op.GetGlobal i d c) false fields globals = hidden_value i d (e.global c) (h.globals c)
  hidden_after (Op.SetGlobal i c r) true fields globals = hidden_set c (e.register i r) Answer.Full (λ is. absurd cc)
  hidden_after (Op.SetGlobal i c r) false fields globals = hidden_set c (e.register i r) (answer_of shapes e (Op.SetGlobal i c r)) (λ is. not_stored i r (λ same. globals c r (ap (λ (j : ℕ). Op.SetGlobal j c r) same) refl))
  hidden_after (Op.Int i d c) full fields globals = hidden_register i d (EverValue.Int c) (λ other is. absurd cc)
  hidden_after (Op.Move i d s) full fields globals = hidden_register i d (e.register i s) (λ other. h.others i s other)
  hidden_after (Op.Nil i d) full fields globals = hidden_register i d EverValue.Nil (λ other is. absurd cc)
  hidden_after (Op.Gc i) full fields globals = h
  hidden_after Op.Poll full fields globals = h
  hidden_after (Op.End i) full fields globals = record { made = h.made; fields = h.fields; globals = h.globals; others = h.others }
  hidden_after Op.Leave full fields globals = h

-- ---- lists

module _ (shapes : List Shape) (l : Layout) where
  named : (es : List (Entry Op)) → IsNamed (ever shapes l es)
  named [] = named-opening
  named (e ∷ es) = named-acted shapes (ever shapes l es) (named es) (act_of shapes l es e)

  module _ (n : Name) (k : ℕ) where
    -- what acts with the entry spares the field, where nobody stores there with it
    spared : (e : Ever) (x : Act) → ((h base from : ℕ) → Some x ≡ Some (record { op = Op.Store h base k from; full = false }) → names (e.register h base) ≢ Some n) → (v : EverValue) (t : ℕ) → HoldsIt shapes n k v t e → HoldsIt shapes n k v t (acted shapes e (Some x))
    spared e x none v t h = go x.op x.full refl where
      of_store : (g b j r : ℕ) → x ≡ record { op = Op.Store g b j r; full = false } → j ≡ k → names (e.register g b) ≢ Some n
      of_store g b j r is same = none g b r (ap (λ (y : Act). Some y) is ∙ ap (λ (c : ℕ). Some (record { op = Op.Store g b c r; full = false })) same)

      go : (o : Op) (full : Bool) → x ≡ record { op = o; full = full } → HoldsIt shapes n k v t (ever_after shapes e o (cond full Answer.Full (answer_of shapes e o)))
      go (Op.Store g b j r) true is = full_store (e.register g b) where
        full_store : (base : EverValue) → HoldsIt shapes n k v t (stores_value e base j (e.register g r) Answer.Full)
        full_store base = grind (arith, h)
      go (Op.Store g b j r) false is = after shapes n k v t e h (Op.Store g b j r) (answer_of shapes e (Op.Store g b j r)) (of_store g b j r is)
      go o full is = after shapes n k v t e h o (cond full Answer.Full (answer_of shapes e o)) tt

    step : (e : Ever) (x : Option Act) → ((h base from : ℕ) → x ≡ Some (record { op = Op.Store h base k from; full = false }) → names (e.register h base) ≢ Some n) → (v : EverValue) (t : ℕ) → HoldsIt shapes n k v t e → HoldsIt shapes n k v t (acted shapes e x)
    step e None none v t h = h
    step e (Some x) none v t h = spared e x none v t h

    kept : (v : EverValue) (t : ℕ) (between before : List (Entry Op)) → NoneStores shapes l n k between before → HoldsIt shapes n k v t (ever shapes l before) → HoldsIt shapes n k v t (ever shapes l (between ++ before))
    kept v t [] before none h = h
    kept v t (e ∷ es) before none h = step (ever shapes l (es ++ before)) (act_of shapes l (es ++ before) e) none.1 v t (kept v t es before none.0 h)

    -- what is answered done has stored
    has_it : (e : Ever) (x : EverValue) → store_answer shapes e (EverValue.Ref n) k x ≡ Answer.Done → has_field shapes e n k ≡ true
    has_it e x done = go (has_field shapes e n k) (fits (is_pointer_field shapes e n k) x) done where
      go : (b c : Bool) → cond b (cond c Answer.Done (Answer.Fault Fault.Kind)) (Answer.Fault Fault.Field) ≡ Answer.Done → b ≡ true
      go true c q = refl
      go false c q = absurd cc

    module _ (g h : ℕ) (v : EverValue) (load : Entry Op) (between : List (Entry Op)) (store : Entry Op) (before : List (Entry Op)) (s : Stores shapes l g n k v before store) (none : NoneStores shapes l n k between (store ∷ before)) (loads : Loads shapes l h n k (between ++ store ∷ before) load) where
      abbrev E : Ever
      E = ever shapes l before

      abbrev F : Ever
      F = ever shapes l (between ++ store ∷ before)

      base_is : E.register g s.base ≡ EverValue.Ref n
      base_is = is_named (E.register g s.base) n s.object

      done : store_answer shapes E (EverValue.Ref n) k v ≡ Answer.Done
      done = (λ i. store_answer shapes E (sym base_is i) k (sym s.value i)) ∙ s.done

      there : has_field shapes E n k ≡ true
      there = has_it E v done

      stored : ever shapes l (store ∷ before) ≡ with_field E n k v
      stored = ap (acted shapes E) s.acts ∙ ap (stores_value E (E.register g s.base) k (E.register g s.from)) s.done ∙ (λ i. stores_value E (base_is i) k (s.value i) Answer.Done)

      first : HoldsIt shapes n k v (E.type_of n) (with_field E n k v)
      first = record { made = (named before).registers g s.base n s.object; typed = refl; field = rw (same_self n, eq-eqb k k refl) refl }

      then : HoldsIt shapes n k v (E.type_of n) F
      then = kept v (E.type_of n) between (store ∷ before) none (subst (HoldsIt shapes n k v (E.type_of n)) (sym stored) first)

      still : has_field shapes F n k ≡ true
      still = ap (λ (t : ℕ). nat_lt k (field_count (shape_at shapes t))) then.typed ∙ there

      pub answered_so : answer_of shapes F (Op.Load h loads.into loads.base k) ≡ answer_of_value v
      answered_so =
          ap (λ (x : EverValue). load_answer shapes F x k) (is_named (F.register h loads.base) n loads.object)
          ∙ ap (λ (b : Bool). cond b (answer_of_value (F.field n k)) (Answer.Fault Fault.Field)) still
          ∙ ap answer_of_value then.field

    none_of_others : (g : ℕ) (before : List (Entry Op)) (e : Entry Op) → IsAlone shapes l g n (ever shapes l before) → Leaves shapes l g n k before e → (h : ℕ) → Leaves shapes l h n k before e
    none_of_others g before e alone own h = go (eqb h g) refl where
      go : (b : Bool) → eqb h g ≡ b → Leaves shapes l h n k before e
      go true same = subst (λ (i : ℕ). Leaves shapes l i n k before e) (sym (eqb-true h g same)) own
      go false other = λ base from acts. alone h base (eqb-false h g other)

    none_then : (g : ℕ) (between before : List (Entry Op)) → IsAloneAlong shapes l g n between before → LeavesAlong shapes l g n k between before → NoneStores shapes l n k between before
    none_then g [] before alone own = tt
    none_then g (e ∷ es) before alone own = (none_then g es before alone.0 own.0, none_of_others g (es ++ before) e alone.1 own.1)

  -- ---- an object whose name is stored nowhere

  -- the name's goroutine alone has it, in registers
  module _ (g : ℕ) (n : Name) where
    unmade : (m : Name) (made : ℕ → ℕ) → IsMade made m → m.k ≡ made m.g → ⊥
    unmade m made lt is = omega (arith, lt, is)

    first_hidden : (before : List (Entry Op)) (make : Entry Op) → Makes shapes l g n before make → IsHidden shapes g n (ever shapes l (make ∷ before))
    first_hidden before make m =
        let e = ever shapes l before in
        let none = named before in
        let is : ever shapes l (make ∷ before) ≡ with_register (with_object shapes e g m.shape) g m.into (EverValue.Ref (next_name e g)) = ap (acted shapes e) m.acts in
        subst (IsHidden shapes g n) (sym is) (subst (λ (o : Name). IsHidden shapes g o (with_register (with_object shapes e g m.shape) g m.into (EverValue.Ref (next_name e g)))) m.named (new_hidden shapes g e (λ h d x. unmade (next_name e g) e.made (none.registers h d (next_name e g) x) refl) (λ o c x. unmade (next_name e g) e.made (none.fields o c (next_name e g) x) refl) (λ c x. unmade (next_name e g) e.made (none.globals c (next_name e g) x) refl) m.shape m.into))

    still_hidden : (e : Ever) (x : Option Act) → ((base k from : ℕ) → x ≡ Some (record { op = Op.Store g base k from; full = false }) → names (e.register g from) ≢ Some n) → ((c from : ℕ) → x ≡ Some (record { op = Op.SetGlobal g c from; full = false }) → names (e.register g from) ≢ Some n) → IsHidden shapes g n e → IsHidden shapes g n (acted shapes e x)
    still_hidden e None fields globals h = h
    still_hidden e (Some x) fields globals h = go x.op x.full refl where
      go : (o : Op) (full : Bool) → x ≡ record { op = o; full = full } → IsHidden shapes g n (ever_after shapes e o (cond full Answer.Full (answer_of shapes e o)))
      go o full is = hidden_after shapes g n e h o full
          (λ base k from same plain. fields base k from (ap (λ (y : Act). Some y) is ∙ (λ i. Some (record { op = same i; full = plain i }))))
          (λ c from same plain. globals c from (ap (λ (y : Act). Some y) is ∙ (λ i. Some (record { op = same i; full = plain i }))))

    hidden_along : (between : List (Entry Op)) (make : Entry Op) (before : List (Entry Op)) → Makes shapes l g n before make → HidesAlong shapes l g n between (make ∷ before) → IsHidden shapes g n (ever shapes l (between ++ make ∷ before))
    hidden_along [] make before m hides = first_hidden before make m
    hidden_along (e ∷ es) make before m hides = still_hidden (ever shapes l (es ++ make ∷ before)) (act_of shapes l (es ++ make ∷ before) e) hides.1.fields hides.1.globals (hidden_along es make before m hides.0)

    alone_along : (between earlier : List (Entry Op)) (make : Entry Op) (before : List (Entry Op)) → Makes shapes l g n before make → HidesAlong shapes l g n (between ++ earlier) (make ∷ before) → IsAloneAlong shapes l g n between (earlier ++ make ∷ before)
    alone_along [] earlier make before m hides = tt
    alone_along (e ∷ es) earlier make before m hides = (
      alone_along es earlier make before m hides.0,
      subst (λ (xs : List (Entry Op)). IsAlone shapes l g n (ever shapes l xs)) (append_assoc es earlier (make ∷ before)) (hidden_along (es ++ earlier) make before m hides.0).others,
    )

pub every_load : EveryLoadSeesStores
every_load shapes l = record {
  last = λ g h n k v load between store before s none loads. answered_so shapes l n k g h v load between store before s none loads;
  alone = λ g n k between before alone own. none_then shapes l n k g between before alone own;
  hidden = λ g n between earlier make before m hides. alone_along shapes l g n between earlier make before m hides;
}
