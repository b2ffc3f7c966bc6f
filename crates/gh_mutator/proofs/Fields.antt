-- Facts of what a load or a store reads.
use Rattle.std.proofs.Common.{◌≡◌, ℕ, ◌^◌, ◌<◌, ◌≤◌, Bool, true, arith}
use Rattle.gh_mutator.proofs.Vocabulary.{has_field, IsFieldNumber, IsNear, page_of, slot_in, value_of}
use Rattle.gh_mutator.proofs.ClassFacts.{ClassLaws}

pub value_near : (pages : ℕ) (pointer : Bool) (found : ℕ) → 1 ≤ pages → IsNear pages (value_of pages pointer found)
value_near pages pointer found some = grind arith

-- The words of a slot are fewer than 2^23.

slot_in-few : ClassLaws → (word : ℕ) → slot_in (page_of word) < 2 ^ 23
slot_in-few laws word = grind arith

-- a field that is there is one of a slot
pub field_there : ClassLaws → (k found : ℕ) → has_field k found ≡ true → IsFieldNumber k
field_there laws k found e = grind (arith, slot_in-few)
