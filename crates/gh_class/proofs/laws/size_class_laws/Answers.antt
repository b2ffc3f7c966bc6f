use Rattle.gh_class.proofs.Table.{slots_rise, slot_of-least, slot_of-greatest, pages_of-least, pages_of-greatest, slots_fit, slots_full, slot_of-words, slots_of-least, slots_of-greatest, IsClassOf-number, slot_words-bound, class_number-is, size_class_small, size_class_large, slot_words_small, slot_words_large, slot_words_hold}
use Rattle.gh_class.proofs.laws.size_class_laws.Goals as goal

pub returns : goal.returns
returns c = record {
  rises = slots_rise;
  least_slot = slot_of-least;
  greatest_slot = slot_of-greatest;
  some_page = pages_of-least;
  few_pages = pages_of-greatest;
  fit = slots_fit;
  full = slots_full;
  whole_words = slot_of-words;
  some_slot = slots_of-least;
  few_slots = slots_of-greatest;
  number = class_number-is;
  only = IsClassOf-number;
  small = size_class_small;
  large = size_class_large;
  small_slot = slot_words_small;
  large_slot = slot_words_large;
  holds = slot_words_hold;
  bounded = slot_words-bound;
}
