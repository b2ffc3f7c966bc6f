-- What the scan of an object does, whatever it is told: which references it has shaded, and what it ends with.
use Rattle.std.specs.Prelude.{◌≡◌, ◌≢◌, ◌↔◌, ℕ, zero, suc, ◌+◌, ◌*◌, ◌/◌, ◌%◌, ◌^◌, ◌<◌, ◌≤◌, false, ◌==◌, if◌then◌else◌, List, [], ◌∷◌, ◌++◌, Option, Some, None}
use Rattle.gh_scan.specs.Vocabulary.{Bitmap, bitmap_words, Cell, Done, Field, field_words, FindRoom, Held, Layout, Load, LoadBitmap, LoadField, Page, page_of, pointer_bit, put, Row, ScanStage, Shading, slot_in, WantsRoom, Words}
use Rattle.gh_base.specs.Routines.{EndsWith, GoesOn, told}
use Rattle.gh_base.specs.Steps.{cell_of}
use Rattle.gh_scan.specs.Listing.{asks, bit_says_pointer, goes, is_loaded, object_of, opening, reference_in, Scanning, transitions}
use Rattle.gh_shade.specs.Listing as shade
use Rattle.gh_wbuf.specs.RoomFinding as room

-- The references in a slot, by a row of bitmap words and a row of fields. An index is taken modulo its row's words.
module _ (bits fields : Row) (l : Layout) where
  abbrev pub bits_of : (x : ℕ) → ℕ
  bits_of x = bits (x / 64 % (16 * l.pages))

  abbrev pub field_of : (x : ℕ) → ℕ
  field_of x = fields (x % (1024 * l.pages))

  -- that of heap word x, if its bit is set and it is not nil
  abbrev pub references_at : (x : ℕ) → List ℕ
  references_at x = if bit_says_pointer (bits_of x) x then (if field_of x == 0 then [] else reference_in l (field_of x) ∷ []) else []

  -- those of so many heap words from x on, in ascending order of the words
  abbrev pub references_in : (words x : ℕ) → List ℕ
  references_in zero x = []
  references_in (suc words) x = references_at x ++ references_in words (x + 1)

-- what is being shaded at this stage
abbrev pub shaded_at : ScanStage → List ℕ
shaded_at (Shading sh) = sh.reference ∷ []
shaded_at _ = []

-- the reference whose shading begins where it goes from the one stage to the other
abbrev pub begun_between : (before after : ScanStage) → List ℕ
begun_between (Shading sh) after = []
begun_between (FindRoom sh r) after = []
begun_between _ after = shaded_at after

module _ (l : Layout) where
  -- it loads one word
  pub record LoadsOne (s : Scanning) : Type 0 where
    pub cell : Cell
    pub loads : asks l s ≡ Load cell

  -- its step is one of shading; where that gives nothing yet the shading goes on, and where it wishes for room that is looked for
  pub record StepsOfShading (s : Scanning) (sh : shade.Shading) : Type 0 where
    pub asks_it : asks l s ≡ shade.asks sh
    pub goes_on : (v : ℕ) → shade.gives sh v ≡ None → (goes l s v).stage ≡ Shading (shade.goes sh v)
    pub wants : (v : ℕ) → shade.gives sh v ≡ Some WantsRoom → (goes l s v).stage ≡ FindRoom (shade.goes sh v) (room.opening s.seat (shade.goes sh v).held)

  -- its step is one of the search for room; where that gives nothing yet the search goes on, and the shading is told the buffer that it gives
  pub record StepsOfRoom (s : Scanning) (sh : shade.Shading) (r : room.RoomFinding) : Type 0 where
    pub asks_it : asks l s ≡ room.asks r
    pub goes_on : (v : ℕ) → room.gives l r v ≡ None → (goes l s v).stage ≡ FindRoom sh (room.goes l r v)
    pub tells : (v : ℕ) (h : Held) → room.gives l r v ≡ Some h → (goes l s v).stage ≡ Shading (shade.told_room sh h)

  -- Its own steps are Loads. All others are those of shading, and of the search for room that shading wishes for.
  abbrev pub StepsAt : Scanning → ScanStage → Type 0
  StepsAt s (Shading sh) = StepsOfShading s sh
  StepsAt s (FindRoom sh r) = StepsOfRoom s sh r
  StepsAt s _ = LoadsOne s

-- with a step at this stage that found v it is done with heap word x: it is no pointer field, it is nil, or what it refers to is shaded
abbrev pub IsDoneWithWord : ScanStage → (x v : ℕ) → Type 0
IsDoneWithWord LoadBitmap x v = bit_says_pointer v x ≡ false
IsDoneWithWord LoadField x v = v ≡ 0
IsDoneWithWord (Shading sh) x v = shade.gives sh v ≡ Some Done
IsDoneWithWord _ x v = ⊥

module _ (l : Layout) (seat reference : ℕ) (held : Option Held) (found : ℕ → ℕ) where
  abbrev pub from : Scanning
  from = opening seat reference held

  abbrev pub after : ℕ → Scanning
  after n = told (transitions l) from found n

  -- the words of the slot, by the page word that was found
  abbrev pub slot_told : ℕ
  slot_told = slot_in (page_of (found 0))

  -- the references whose shading begins in the first n steps, in their order
  abbrev pub begun : (n : ℕ) → List ℕ
  begun zero = []
  begun (suc n) = begun n ++ begun_between (after n).stage (after (suc n)).stage

  -- the bitmap words and the fields that it was told are of these rows
  pub record AreTold (bits fields : Row) : Type 0 where
    pub bits_are : (n i : ℕ) → asks l (after n) ≡ Load (Bitmap i) → found n ≡ bits i
    pub fields_are : (n i : ℕ) → asks l (after n) ≡ Load (Field i) → found n ≡ fields i

  -- the words as the first n steps found them: each cell has what was found there last, and 0 where none of the steps was on it
  abbrev pub words_told : (n : ℕ) → Words
  words_told zero = λ cell. 0
  words_told (suc n) = put (words_told n) (cell_of (asks l (after n))) (found n)

  -- the references of the slot by these
  abbrev pub references_told : (n : ℕ) → List ℕ
  references_told n = references_in (bitmap_words (words_told n)) (field_words (words_told n)) l slot_told (object_of reference)

  -- heap word x is one of the slot
  pub record InSlot (x : ℕ) : Type 0 where
    pub from_first : object_of reference ≤ x
    pub below : x < object_of reference + slot_told

  -- one of the steps up to n is a load of this cell
  pub record WasLoaded (n : ℕ) (cell : Cell) : Type 0 where
    pub step : ℕ
    pub by_then : step ≤ n
    pub loads : asks l (after step) ≡ Load cell

  -- The slot lies in the heap. Then what it was told is what some rows hold, since it asks for each of their words once.
  abbrev pub LiesInHeap : Type 0
  LiesInHeap = object_of reference + slot_told ≤ 1024 * l.pages

  pub record ShadesAsTold : Type 0 where
    -- no bitmap word and no field is loaded again
    pub bitmap_once : (k n i : ℕ) → k < n → asks l (after k) ≡ Load (Bitmap i) → asks l (after n) ≢ Load (Bitmap i)
    pub fields_once : (k n i : ℕ) → k < n → asks l (after k) ≡ Load (Field i) → asks l (after n) ≢ Load (Field i)
    -- by its end it has loaded exactly the bitmap words of the words of the slot, and exactly the fields of the pointers among these
    pub loads_bitmap : (n w i : ℕ) → EndsWith (transitions l) from found n w → WasLoaded n (Bitmap i) ↔ ((x : ℕ) × InSlot x × (x / 64 ≡ i))
    pub loads_fields : (n w x : ℕ) → EndsWith (transitions l) from found n w → WasLoaded n (Field x) ↔ (InSlot x × (pointer_bit (words_told (suc n)) x ≡ 1))
    -- the words that it found are rows which agree with all that it was told
    pub agree : (n w : ℕ) → EndsWith (transitions l) from found n w → AreTold (bitmap_words (words_told (suc n))) (field_words (words_told (suc n)))
    -- it ends once it has shaded exactly the references of the slot by these, in their order
    pub shades : (n w : ℕ) → EndsWith (transitions l) from found n w → begun (suc n) ≡ references_told (suc n)

  -- with step n it is done with the heap word that it is at
  abbrev pub DoneWith : (n : ℕ) → Type 0
  DoneWith n = IsDoneWithWord (after n).stage (after n).at (found n)

  -- nothing is left to be loaded behind that word: each later word of the slot has the same bitmap word, and is no pointer field by it
  abbrev pub NoneLeft : (n : ℕ) → Type 0
  NoneLeft n = (y : ℕ) → (after n).at < y → y < object_of reference + slot_told → is_loaded (after (suc n)).bits y ≡ false

  pub record EndsAtOnce : Type 0 where
    -- it ends by a step exactly where it is done then with the word that it is at, and none is left
    pub ends : (n : ℕ) → DoneWith n → NoneLeft n → EndsWith (transitions l) from found n slot_told
    pub ends_only : (n w : ℕ) → GoesOn (transitions l) from found n → EndsWith (transitions l) from found n w → DoneWith n × NoneLeft n
    -- so it ends by the step that is done with the last word of the slot
    pub behind_last : (n : ℕ) → suc (after n).at ≡ object_of reference + slot_told → DoneWith n → EndsWith (transitions l) from found n slot_told
    -- and asks for no further step
    pub rests : (n w k : ℕ) → EndsWith (transitions l) from found n w → n < k → ¬ GoesOn (transitions l) from found k

  -- it goes over the words of the slot in ascending order, and gives their number
  pub record ScansInOrder : Type 0 where
    pub gives_slot : (n w : ℕ) → EndsWith (transitions l) from found n w → w ≡ slot_told
    -- until it ends it is at a word of the slot
    pub within : (n : ℕ) → GoesOn (transitions l) from found (suc n) → (after (suc n)).at < object_of reference + slot_told
    pub from_first : (n : ℕ) → object_of reference ≤ (after (suc n)).at
    pub ascends : (n : ℕ) → (after (suc n)).at ≤ (after (suc (suc n))).at

  pub record ScansObject : Type 0 where
    -- it begins with the page word
    pub begins : asks l (after 0) ≡ Load (Page (object_of reference / 1024))
    pub steps : (n : ℕ) → StepsAt l (after n) (after n).stage
    pub in_order : ScansInOrder
    -- Where it is told words of these rows it ends once it has shaded exactly the references of the slot by them, in their order. Rows may hold anything where it has loaded nothing: so it has loaded each word that these references depend on.
    pub shades : (bits fields : Row) → AreTold bits fields → (n w : ℕ) → EndsWith (transitions l) from found n w → begun (suc n) ≡ references_in bits fields l slot_told (object_of reference)
    -- and there are such rows, wherever the slot lies in the heap
    pub as_told : LiesInHeap → ShadesAsTold
    -- it ends at once behind the last word of the slot
    pub at_once : EndsAtOnce

abbrev pub ObjectsAreScanned : Type 0
ObjectsAreScanned = (l : Layout) (seat reference : ℕ) (held : Option Held) (found : ℕ → ℕ) → found 0 < 2 ^ 64 → ScansObject l seat reference held found
