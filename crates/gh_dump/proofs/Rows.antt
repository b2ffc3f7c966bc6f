-- The definitions at texts whose causes are worked out by hand.
use Rattle.std.proofs.Common.{◌≡◌, ℕ, List, [], ◌∷◌, map, Option, Some, None, refl}
use Rattle.std.specs.Prelude.{codes}
use Rattle.gh_script.specs.Text.{lines_of, pieces, words_of}
use Rattle.gh_script.specs.Words.{digits_value_of, is_name, number_spelled, value_from}
use Rattle.gh_dump.specs.Causes.{cause_of}
use Rattle.gh_dump.specs.Items.{item_by_global, item_by_parent, item_in, item_of, items_of, letters_number, name_of, number_of, reference_of, short_item}
use Rattle.gh_dump.specs.Listing.{field_in_group, field_of, last_some, rank_of}
use Rattle.gh_dump.specs.Verdict.{cause_at, own_cause}
use Rattle.gh_dump.specs.Vocabulary.{DumpWhy}
use Rattle.gh_dump.specs.declared.fault.DumpWhy.TheVariants.{Word, Twice, Unknown, Parent, Total}

abbrev pub causes : List ℕ → List ℕ → List (Option DumpWhy)
causes text lines = map (cause_at text) lines

-- what a dump of two objects is
row : causes (codes "global 0 ref a.0\nobject a.0 bytes 16 rank 0 global 0\nfield 0 ref a.1\nobject a.1 bytes 16 rank 1 parent a.0 field 0\ntotal 2 bytes 32\n") (0 ∷ 1 ∷ 2 ∷ 3 ∷ 4 ∷ 5 ∷ []) ≡ None ∷ None ∷ None ∷ None ∷ None ∷ None ∷ []
unfolding lines_of pieces words_of digits_value_of is_name number_spelled value_from cause_of item_by_global item_by_parent item_in item_of items_of letters_number name_of number_of reference_of short_item field_in_group field_of last_some rank_of cause_at own_cause
row = refl

-- without the field
no_field : causes (codes "global 0 ref a.0\nobject a.0 bytes 16 rank 0 global 0\nobject a.1 bytes 16 rank 1 parent a.0 field 0\ntotal 2 bytes 32\n") (0 ∷ 1 ∷ 2 ∷ 3 ∷ []) ≡ None ∷ None ∷ None ∷ Some Parent ∷ []
unfolding lines_of pieces words_of digits_value_of is_name number_spelled value_from cause_of item_by_global item_by_parent item_in item_of items_of letters_number name_of number_of reference_of short_item field_in_group field_of last_some rank_of cause_at own_cause
no_field = refl

-- a global that names nothing, before all
unknown_first : causes (codes "global 0 ref a.5\nglobal 0 ref a.0\nobject a.0 bytes 16 rank 0 global 0\nfield 0 ref a.1\nobject a.1 bytes 16 rank 1 parent a.0 field 0\ntotal 2 bytes 32\n") (0 ∷ 1 ∷ []) ≡ None ∷ Some Unknown ∷ []
unfolding lines_of pieces words_of digits_value_of is_name number_spelled value_from cause_of item_by_global item_by_parent item_in item_of items_of letters_number name_of number_of reference_of short_item field_in_group field_of last_some rank_of cause_at own_cause
unknown_first = refl

-- and in the place of the first
unknown_in_place : causes (codes "global 0 ref a.5\nobject a.0 bytes 16 rank 0 global 0\nfield 0 ref a.1\nobject a.1 bytes 16 rank 1 parent a.0 field 0\ntotal 2 bytes 32\n") (0 ∷ 1 ∷ []) ≡ None ∷ Some Unknown ∷ []
unfolding lines_of pieces words_of digits_value_of is_name number_spelled value_from cause_of item_by_global item_by_parent item_in item_of items_of letters_number name_of number_of reference_of short_item field_in_group field_of last_some rank_of cause_at own_cause
unknown_in_place = refl

-- without the last line
no_total : causes (codes "global 0 ref a.0\nobject a.0 bytes 16 rank 0 global 0\nfield 0 ref a.1\nobject a.1 bytes 16 rank 1 parent a.0 field 0\n") (0 ∷ 1 ∷ 2 ∷ 3 ∷ 4 ∷ []) ≡ None ∷ None ∷ None ∷ None ∷ Some Total ∷ []
unfolding lines_of pieces words_of digits_value_of is_name number_spelled value_from cause_of item_by_global item_by_parent item_in item_of items_of letters_number name_of number_of reference_of short_item field_in_group field_of last_some rank_of cause_at own_cause
no_total = refl

-- nothing is listed
nothing : causes (codes "total 0 bytes 0\n") (0 ∷ 1 ∷ []) ≡ None ∷ None ∷ []
unfolding lines_of pieces words_of digits_value_of is_name number_spelled value_from cause_of item_by_global item_by_parent item_in item_of items_of letters_number name_of number_of reference_of short_item field_in_group field_of last_some rank_of cause_at own_cause
nothing = refl

-- two objects that name one another
circle : causes (codes "object a.0 bytes 16 rank 1 parent a.1 field 0\nfield 0 ref a.1\nobject a.1 bytes 16 rank 2 parent a.0 field 0\nfield 0 ref a.0\ntotal 2 bytes 32\n") (0 ∷ 1 ∷ []) ≡ None ∷ Some Parent ∷ []
unfolding lines_of pieces words_of digits_value_of is_name number_spelled value_from cause_of item_by_global item_by_parent item_in item_of items_of letters_number name_of number_of reference_of short_item field_in_group field_of last_some rank_of cause_at own_cause
circle = refl

-- no line
empty : causes (codes "") (0 ∷ []) ≡ Some Total ∷ []
unfolding lines_of pieces words_of digits_value_of is_name number_spelled value_from cause_of item_by_global item_by_parent item_in item_of items_of letters_number name_of number_of reference_of short_item field_in_group field_of last_some rank_of cause_at own_cause
empty = refl

-- a line without a word
blank : causes (codes "\n") (0 ∷ 1 ∷ []) ≡ None ∷ Some Word ∷ []
unfolding lines_of pieces words_of digits_value_of is_name number_spelled value_from cause_of item_by_global item_by_parent item_in item_of items_of letters_number name_of number_of reference_of short_item field_in_group field_of last_some rank_of cause_at own_cause
blank = refl

-- ranks need not begin at 0
high_rank : causes (codes "global 0 ref a.0\nobject a.0 bytes 0 rank 5 global 0\ntotal 1 bytes 0\n") (0 ∷ 1 ∷ 2 ∷ 3 ∷ []) ≡ None ∷ None ∷ None ∷ None ∷ []
unfolding lines_of pieces words_of digits_value_of is_name number_spelled value_from cause_of item_by_global item_by_parent item_in item_of items_of letters_number name_of number_of reference_of short_item field_in_group field_of last_some rank_of cause_at own_cause
high_rank = refl

-- a parent may stand behind its child, and a reference may have an offset
parent_behind : causes (codes "global 0 ref b.0\nobject a.0 bytes 8 rank 1 parent b.0 field 3\nobject b.0 bytes 32 rank 0 global 0\nfield 3 ref a.0+2\ntotal 2 bytes 40\n") (0 ∷ 1 ∷ 2 ∷ 3 ∷ 4 ∷ 5 ∷ []) ≡ None ∷ None ∷ None ∷ None ∷ None ∷ None ∷ []
unfolding lines_of pieces words_of digits_value_of is_name number_spelled value_from cause_of item_by_global item_by_parent item_in item_of items_of letters_number name_of number_of reference_of short_item field_in_group field_of last_some rank_of cause_at own_cause
parent_behind = refl

-- a number may have zeros at its front
zeros : causes (codes "global 0 ref a.0\nobject a.00 bytes 8 rank 0 global 00\ntotal 1 bytes 08\n") (0 ∷ 1 ∷ 2 ∷ 3 ∷ []) ≡ None ∷ None ∷ None ∷ None ∷ []
unfolding lines_of pieces words_of digits_value_of is_name number_spelled value_from cause_of item_by_global item_by_parent item_in item_of items_of letters_number name_of number_of reference_of short_item field_in_group field_of last_some rank_of cause_at own_cause
zeros = refl

-- an object that is listed twice
listed_twice : causes (codes "global 0 ref a.0\nobject a.0 bytes 16 rank 0 global 0\nobject a.0 bytes 16 rank 0 global 0\n") (0 ∷ 1 ∷ 2 ∷ 3 ∷ []) ≡ None ∷ None ∷ None ∷ Some Twice ∷ []
unfolding lines_of pieces words_of digits_value_of is_name number_spelled value_from cause_of item_by_global item_by_parent item_in item_of items_of letters_number name_of number_of reference_of short_item field_in_group field_of last_some rank_of cause_at own_cause
listed_twice = refl

-- the fields of a second listing count for no child
first_listing : causes (codes "global 0 ref a.0\nobject a.1 bytes 16 rank 1 parent a.0 field 0\nobject a.0 bytes 16 rank 0 global 0\nobject a.0 bytes 16 rank 0 global 0\nfield 0 ref a.1\n") (0 ∷ 1 ∷ 2 ∷ []) ≡ None ∷ None ∷ Some Parent ∷ []
unfolding lines_of pieces words_of digits_value_of is_name number_spelled value_from cause_of item_by_global item_by_parent item_in item_of items_of letters_number name_of number_of reference_of short_item field_in_group field_of last_some rank_of cause_at own_cause
first_listing = refl

-- nor does a second line of a field
first_field : causes (codes "global 0 ref a.0\nobject a.0 bytes 16 rank 0 global 0\nfield 0 ref a.0\nfield 0 ref a.1\nobject a.1 bytes 16 rank 1 parent a.0 field 0\n") (0 ∷ 1 ∷ 2 ∷ 3 ∷ 4 ∷ 5 ∷ []) ≡ None ∷ None ∷ None ∷ None ∷ Some Twice ∷ Some Parent ∷ []
unfolding lines_of pieces words_of digits_value_of is_name number_spelled value_from cause_of item_by_global item_by_parent item_in item_of items_of letters_number name_of number_of reference_of short_item field_in_group field_of last_some rank_of cause_at own_cause
first_field = refl

-- no rank is below 0
rank_zero : causes (codes "global 0 ref a.0\nobject a.0 bytes 16 rank 0 global 0\nfield 0 ref a.1\nobject a.1 bytes 16 rank 0 parent a.0 field 0\n") (0 ∷ 1 ∷ 2 ∷ 3 ∷ 4 ∷ []) ≡ None ∷ None ∷ None ∷ None ∷ Some Parent ∷ []
unfolding lines_of pieces words_of digits_value_of is_name number_spelled value_from cause_of item_by_global item_by_parent item_in item_of items_of letters_number name_of number_of reference_of short_item field_in_group field_of last_some rank_of cause_at own_cause
rank_zero = refl

-- a number above 32 bits
too_great : causes (codes "global 0 ref a.0+4294967296\n") (0 ∷ 1 ∷ []) ≡ None ∷ Some Word ∷ []
unfolding lines_of pieces words_of digits_value_of is_name number_spelled value_from cause_of item_by_global item_by_parent item_in item_of items_of letters_number name_of number_of reference_of short_item field_in_group field_of last_some rank_of cause_at own_cause
too_great = refl

-- and the greatest of 32 bits
greatest : causes (codes "global 0 ref a.0+4294967295\nobject a.0 bytes 0 rank 4294967295 global 0\ntotal 1 bytes 0\n") (0 ∷ 1 ∷ 2 ∷ 3 ∷ []) ≡ None ∷ None ∷ None ∷ None ∷ []
unfolding lines_of pieces words_of digits_value_of is_name number_spelled value_from cause_of item_by_global item_by_parent item_in item_of items_of letters_number name_of number_of reference_of short_item field_in_group field_of last_some rank_of cause_at own_cause
greatest = refl

-- a global behind an object
late_global : causes (codes "object a.0 bytes 16 rank 0 global 0\nglobal 0 ref a.0\ntotal 1 bytes 16\n") (0 ∷ 1 ∷ 2 ∷ 3 ∷ []) ≡ None ∷ None ∷ Some Word ∷ None ∷ []
unfolding lines_of pieces words_of digits_value_of is_name number_spelled value_from cause_of item_by_global item_by_parent item_in item_of items_of letters_number name_of number_of reference_of short_item field_in_group field_of last_some rank_of cause_at own_cause
late_global = refl

-- a field before any object
no_object : causes (codes "field 0 ref a.0\n") (0 ∷ 1 ∷ []) ≡ None ∷ Some Word ∷ []
unfolding lines_of pieces words_of digits_value_of is_name number_spelled value_from cause_of item_by_global item_by_parent item_in item_of items_of letters_number name_of number_of reference_of short_item field_in_group field_of last_some rank_of cause_at own_cause
no_object = refl

-- a line behind the total
behind_total : causes (codes "total 0 bytes 0\n\n") (0 ∷ 1 ∷ 2 ∷ []) ≡ None ∷ None ∷ Some Word ∷ []
unfolding lines_of pieces words_of digits_value_of is_name number_spelled value_from cause_of item_by_global item_by_parent item_in item_of items_of letters_number name_of number_of reference_of short_item field_in_group field_of last_some rank_of cause_at own_cause
behind_total = refl

-- a second total
two_totals : causes (codes "total 0 bytes 0\ntotal 0 bytes 0\n") (0 ∷ 1 ∷ 2 ∷ []) ≡ None ∷ None ∷ Some Word ∷ []
unfolding lines_of pieces words_of digits_value_of is_name number_spelled value_from cause_of item_by_global item_by_parent item_in item_of items_of letters_number name_of number_of reference_of short_item field_in_group field_of last_some rank_of cause_at own_cause
two_totals = refl

-- a global stands twice
same_global : causes (codes "global 0 ref a.0\nglobal 0 ref a.0\nobject a.0 bytes 16 rank 0 global 0\ntotal 1 bytes 16\n") (0 ∷ 1 ∷ 2 ∷ 3 ∷ 4 ∷ []) ≡ None ∷ None ∷ Some Twice ∷ None ∷ None ∷ []
unfolding lines_of pieces words_of digits_value_of is_name number_spelled value_from cause_of item_by_global item_by_parent item_in item_of items_of letters_number name_of number_of reference_of short_item field_in_group field_of last_some rank_of cause_at own_cause
same_global = refl

-- bytes that are not those listed
wrong_total : causes (codes "global 0 ref a.0\nobject a.0 bytes 16 rank 0 global 0\ntotal 1 bytes 15\n") (0 ∷ 1 ∷ 2 ∷ 3 ∷ []) ≡ None ∷ None ∷ None ∷ Some Total ∷ []
unfolding lines_of pieces words_of digits_value_of is_name number_spelled value_from cause_of item_by_global item_by_parent item_in item_of items_of letters_number name_of number_of reference_of short_item field_in_group field_of last_some rank_of cause_at own_cause
wrong_total = refl

-- a number of objects that is not that listed
other_total : causes (codes "global 0 ref a.0\nobject a.0 bytes 16 rank 0 global 0\ntotal 2 bytes 16\n") (0 ∷ 1 ∷ 2 ∷ 3 ∷ []) ≡ None ∷ None ∷ None ∷ Some Total ∷ []
unfolding lines_of pieces words_of digits_value_of is_name number_spelled value_from cause_of item_by_global item_by_parent item_in item_of items_of letters_number name_of number_of reference_of short_item field_in_group field_of last_some rank_of cause_at own_cause
other_total = refl

-- a global that no line has
no_global : causes (codes "object a.0 bytes 16 rank 0 global 0\ntotal 1 bytes 16\n") (0 ∷ 1 ∷ 2 ∷ []) ≡ None ∷ Some Parent ∷ None ∷ []
unfolding lines_of pieces words_of digits_value_of is_name number_spelled value_from cause_of item_by_global item_by_parent item_in item_of items_of letters_number name_of number_of reference_of short_item field_in_group field_of last_some rank_of cause_at own_cause
no_global = refl

-- another global has it
other_global : causes (codes "global 1 ref a.0\nobject a.0 bytes 16 rank 0 global 0\ntotal 1 bytes 16\n") (0 ∷ 1 ∷ 2 ∷ 3 ∷ []) ≡ None ∷ None ∷ Some Parent ∷ None ∷ []
unfolding lines_of pieces words_of digits_value_of is_name number_spelled value_from cause_of item_by_global item_by_parent item_in item_of items_of letters_number name_of number_of reference_of short_item field_in_group field_of last_some rank_of cause_at own_cause
other_global = refl
