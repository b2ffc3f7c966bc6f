-- What a `new` wants fits: the slot of its size class, or pages of its own.
use Rattle.std.specs.Prelude.{◌≡◌, ℕ, ◌*◌, ◌/◌, ◌<◌, ◌≤◌, List, length}
use Rattle.gh_mutator.specs.Vocabulary.{class_number, IsRegister, Shape, ShapesFit, slot_of, slot_words}
use Rattle.gh_class.specs.declared.class.TheConstants.{MOST_SPAN_PAGES, MOST_TYPE_WORDS}
use Rattle.gh_mutator.specs.New.{wanted_of}
use Rattle.gh_mutator.specs.Sound.{SoundWanted}

-- the words of a slot of a small object, and of a large one
pub record SmallFacts (words : ℕ) : Type 0 where
  pub class : class_number (8 * words) < 25
  pub slot : 1 ≤ slot_words words
  pub is : slot_words words ≡ slot_of (class_number (8 * words)) / 8

pub record LargeFacts (words : ℕ) : Type 0 where
  pub some : 1 ≤ slot_words words / 1024
  pub few : slot_words words / 1024 ≤ MOST_SPAN_PAGES
  pub slot : 1 ≤ slot_words words
  pub is : slot_words words ≡ 1024 * (slot_words words / 1024)

pub record WhatIsWantedFits : Type 0 where
  pub small : (words : ℕ) → words ≤ 4096 → SmallFacts words
  pub large : (words : ℕ) → 4096 < words → words ≤ MOST_TYPE_WORDS → LargeFacts words
  pub sound : (shapes : List Shape) (g d t : ℕ) → ShapesFit shapes → t < length shapes → IsRegister g d → SoundWanted shapes (wanted_of shapes g d t)
