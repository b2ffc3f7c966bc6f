-- In the heap that never frees each value names an object that was made.
use Rattle.std.proofs.Common.{◌≡◌, ℕ, Bool, cond, List, Option, Some, arith}
use Rattle.gh_law.proofs.Vocabulary.{Act, acted, Answer, answer_of, answer_of_value, Ever, ever_after, is_number, IsMade, load_answer, Name, names, next_name, Op, opening_ever, Reach, sets_global, Shape, store_answer, stores_value, takes_answer, with_end, with_object, with_register}
use Rattle.gh_base.specs.declared.value.Fault.{Fault}
use Rattle.gh_model.specs.declared.EverValue.{EverValue}

pub record IsNamed (e : Ever) : Type 0 where
  pub registers : (g d : ℕ) (n : Name) → names (e.register g d) ≡ Some n → IsMade e.made n
  pub fields : (m : Name) (k : ℕ) (n : Name) → names (e.field m k) ≡ Some n → IsMade e.made n
  pub globals : (k : ℕ) (n : Name) → names (e.global k) ≡ Some n → IsMade e.made n

-- so what a script reaches was made
pub reached-made : (e : Ever) → IsNamed e → (n : Name) → Reach e n → IsMade e.made n
reached-made e h n h2 = grind arith

pub named-opening : IsNamed opening_ever
named-opening = record { registers = λ g d n e. absurd (cc); fields = λ m k n e. absurd (cc); globals = λ k n e. absurd (cc) }

-- a value that names nothing, or an object that was made
abbrev Made : Ever → EverValue → Type 0
Made e x = (n : Name) → names x ≡ Some n → IsMade e.made n

named-register : (e : Ever) (g d : ℕ) (x : EverValue) → IsNamed e → Made e x → IsNamed (with_register e g d x)
named-register e g d x h made = grind arith

named-end : (e : Ever) (g : ℕ) → IsNamed e → IsNamed (with_end e g)
named-end e g h = record { registers = h.registers; fields = h.fields; globals = h.globals }

-- What a statement leaves.

module _ (shapes : List Shape) (e : Ever) (h : IsNamed e) where
  takes : (g d : ℕ) (x : EverValue) → Made e x → IsNamed (takes_answer e g d (answer_of_value x))
  takes g d x made = grind arith

  loads : (g d : ℕ) (x : EverValue) (k : ℕ) → IsNamed (takes_answer e g d (load_answer shapes e x k))
  loads g d x k = grind arith

  stores : (x : EverValue) (k : ℕ) (v : EverValue) → Made e v → IsNamed (stores_value e x k v (store_answer shapes e x k v))
  stores x k v made = grind arith

  sets : (k : ℕ) (v : EverValue) → Made e v → IsNamed (sets_global e k v (cond (is_number v) (Answer.Fault Fault.Kind) Answer.Done))
  sets k v made = grind arith

  news : (g d t : ℕ) → IsNamed (with_register (with_object shapes e g t) g d (EverValue.Ref (next_name e g)))
  news g d t = grind arith

  plain : (g d : ℕ) (x : EverValue) → ((n : Name) → names x ≡ Some n → ⊥) → IsNamed (with_register e g d x)
  plain g d x none = grind arith

  -- what is answered as that heap answers it, or `full`
  after : (o : Op) (full : Bool) → IsNamed (ever_after shapes e o (cond full Answer.Full (answer_of shapes e o)))
  after o full = grind (arith, loads, named-end, named-register, news, plain, sets, stores, takes)

  pub named-acted : (x : Option Act) → IsNamed (acted shapes e x)
  named-acted x = grind (arith, after)
