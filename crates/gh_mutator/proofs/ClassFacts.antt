-- Facts of all size classes, and of what an object of a type wants.
use Rattle.std.proofs.Common.{◌≡◌, ℕ, ◌*◌, ◌/◌, ◌%◌, ◌^◌, ◌<◌, ◌≤◌, List, length, arith}
use Rattle.gh_mutator.proofs.Vocabulary.{class_number, IsClassOf, IsRegister, IsSought, large_pages, nat_tests, pages_of, Shape, ShapesFit, slot_of, slot_words, slots_of, Sought, SoundWanted, wanted_of, words_sought}
use Rattle.gh_class.specs.declared.class.TheConstants.{MOST_TYPE_WORDS}
use Rattle.gh_mutator.specs.Wanting.{WhatIsWantedFits}

-- the laws of the size classes that are wanted here
pub record ClassLaws : Type 0 where
  pub least_slot : (c : ℕ) → c < 25 → 8 ≤ slot_of c
  pub greatest_slot : (c : ℕ) → c < 25 → slot_of c ≤ 32768
  pub some_page : (c : ℕ) → c < 25 → 1 ≤ pages_of c
  pub few_pages : (c : ℕ) → c < 25 → pages_of c ≤ 4
  pub fit : (c : ℕ) → c < 25 → slots_of c * slot_of c ≤ 8192 * pages_of c
  pub whole_words : (c : ℕ) → c < 25 → slot_of c % 8 ≡ 0
  pub some_slot : (c : ℕ) → c < 25 → 1 ≤ slots_of c
  pub few_slots : (c : ℕ) → c < 25 → slots_of c ≤ 1024
  pub number : (bytes : ℕ) → bytes ≤ 32768 → IsClassOf bytes (class_number bytes)
  pub small_slot : (words : ℕ) → 8 * words ≤ 32768 → slot_words words ≡ slot_of (class_number (8 * words)) / 8
  pub large_slot : (words : ℕ) → 32768 < 8 * words → slot_words words ≡ 1024 * large_pages words
  pub holds : (words : ℕ) → words ≤ slot_words words
  pub bounded : (words : ℕ) → words ≤ MOST_TYPE_WORDS → slot_words words ≤ MOST_TYPE_WORDS

pub wanted_sound : ClassLaws → (shapes : List Shape) (g d t : ℕ) → ShapesFit shapes → t < length shapes → IsRegister g d → SoundWanted shapes (wanted_of shapes g d t)
wanted_sound laws shapes g d t fit there register = grind arith

-- the words of a slot that is sought are fewer than 2^23
pub sought_small : ClassLaws → (w : Sought) → IsSought w → words_sought w < 2 ^ 23
sought_small laws w is = grind arith

pub what_is_wanted_fits : ClassLaws → WhatIsWantedFits
what_is_wanted_fits laws = grind (arith, nat_tests)
