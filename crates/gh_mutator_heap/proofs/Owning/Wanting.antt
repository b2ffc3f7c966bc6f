-- What an object of a type wants: the slot of its size class, or pages of its own.
use Rattle.std.proofs.Common.{◌≡◌, ℕ, ◌*◌, ◌/◌, ◌^◌, ◌<◌, ◌≤◌, arith}
use Rattle.gh_mutator_heap.proofs.Vocabulary.{bits_at, FitsShape, FitsSlot, Shape, size_class_of, SizeClass, slot_words, slot_words_of, WhatIsWantedFits}

-- of a size class of the table, or of none
abbrev pub WantsOf : Shape → SizeClass → Type 0
WantsOf shape (SizeClass.Small c) = (c < 25) × (slot_words shape.words ≡ slot_words_of c) × (1 ≤ slot_words shape.words)
WantsOf shape SizeClass.Large = (slot_words shape.words ≡ 1024 * (slot_words shape.words / 1024)) × (1 ≤ slot_words shape.words)

pub wants-of : WhatIsWantedFits → (shape : Shape) → FitsShape shape → WantsOf shape (size_class_of shape.words)
wants-of laws shape fit = grind arith

pub some-slot : WhatIsWantedFits → (shape : Shape) → FitsShape shape → 0 < slot_words shape.words
some-slot laws shape fit = grind arith

pub fits-slot : ((words : ℕ) → words ≤ slot_words words) → (shape : Shape) → FitsShape shape → ((i : ℕ) → bits_at shape i < 2 ^ 64) → FitsSlot shape (slot_words shape.words)
fits-slot holds shape fit narrow = record { narrow = narrow; within = holds shape.words; none = fit.none_beyond }
