-- The table of causes: for which a line is refused, by the lines of the whole text and by those before it.
use Rattle.std.specs.Prelude.{ℕ, ◌+◌, ◌==◌, ◌&&◌, ◌||◌, Bool, true, false, if◌then◌else◌, not, nat_le, List, Option, Some, None, codes}
use Rattle.gh_dump.specs.Names.{same_name}
use Rattle.gh_dump.specs.Listing.{bytes_listed, field_of, is_global_to, is_listed, is_object, is_total, last_field, last_global, objects_listed, rank_of}
use Rattle.gh_dump.specs.Vocabulary.{DumpWhy, Field, Global, Item, list_any, Name, ObjectByGlobal, ObjectByParent}
use Rattle.gh_dump.specs.declared.item.Item.TheVariants as item
use Rattle.gh_dump.specs.declared.fault.DumpWhy.TheVariants as why

-- Word: the line is none of the forms; a total stands before it; a global stands behind an object; a field stands before any
-- object
abbrev pub is_misplaced : List (Option Item) → Item → Bool
is_misplaced before (Global k x) = list_any is_object before
is_misplaced before (Field i x) = not (list_any is_object before)
is_misplaced before other = false

abbrev pub is_word_fault : List (Option Item) → Option Item → Bool
is_word_fault before None = true
is_word_fault before (Some line) = list_any is_total before || is_misplaced before line

-- the number is no greater than the last one
abbrev pub is_within : ℕ → Option ℕ → Bool
is_within n None = false
is_within n (Some last) = nat_le n last

-- Twice: the object is listed already; a global's or a field's number isn't above the last one of its group
abbrev pub is_twice_fault : List (Option Item) → Option Item → Bool
is_twice_fault before (Some (ObjectByGlobal o b r k)) = is_listed before o
is_twice_fault before (Some (ObjectByParent o b r p i)) = is_listed before o
is_twice_fault before (Some (Global k x)) = is_within k (last_global before)
is_twice_fault before (Some (Field i x)) = is_within i (last_field before)
is_twice_fault before line = false

-- Unknown: the object of a reference is listed nowhere in the text
abbrev pub is_unknown_fault : List (Option Item) → Option Item → Bool
is_unknown_fault whole (Some (Global k x)) = not (is_listed whole x.object)
is_unknown_fault whole (Some (Field i x)) = not (is_listed whole x.object)
is_unknown_fault whole line = false

-- this rank is one more than the other
abbrev pub is_above : Option ℕ → ℕ → Bool
is_above None r = false
is_above (Some q) r = q + 1 == r

-- this is the name that is held
abbrev pub is_held : Option Name → Name → Bool
is_held None o = false
is_held (Some x) o = same_name x o

-- Parent: no line of the text says that the global holds the object; or the parent isn't listed, or its rank isn't one less, or
-- its field holds something else
abbrev pub is_parent_fault : List (Option Item) → Option Item → Bool
is_parent_fault whole (Some (ObjectByGlobal o b r k)) = not (list_any (is_global_to k o) whole)
is_parent_fault whole (Some (ObjectByParent o b r p i)) = not (is_above (rank_of whole p) r && is_held (field_of whole p i) o)
is_parent_fault whole line = false

-- Total: the numbers aren't those of the text's objects
abbrev pub is_total_fault : List (Option Item) → Option Item → Bool
is_total_fault whole (Some (item.Total n b)) = not ((n == objects_listed whole) && (b == bytes_listed whole))
is_total_fault whole line = false

-- the first cause of the table that the line has
unfoldable pub cause_of : List (Option Item) → List (Option Item) → Option Item → Option DumpWhy
cause_of whole before line =
    if is_word_fault before line then Some why.Word else
    (if is_twice_fault before line then Some why.Twice else
    (if is_unknown_fault whole line then Some why.Unknown else
    (if is_parent_fault whole line then Some why.Parent else
    (if is_total_fault whole line then Some why.Total else None))))

-- ---- what is told of a cause

-- the cause in one word
abbrev pub cause_word : DumpWhy → List ℕ
cause_word why.Size = codes "size"
cause_word why.Word = codes "word"
cause_word why.Twice = codes "twice"
cause_word why.Unknown = codes "unknown"
cause_word why.Parent = codes "parent"
cause_word why.Total = codes "total"
