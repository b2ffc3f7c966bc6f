-- What the index has of the lines that it was given.
use Rattle.std.specs.Prelude.{◌≡◌, ℕ, ◌+◌, ◌*◌, ◌^◌, ◌≤◌, ◌==◌, ◌&&◌, ◌||◌, if◌then◌else◌, List, length, Option, Some, None, is_none, is_some}
use Rattle.std.specs.HashMap.{get}
use Rattle.gh_dump.specs.Names.{same_name}
use Rattle.gh_dump.specs.Kept.{first_of, holds, is_open, same_field, same_global}
use Rattle.gh_dump.specs.Listing.{bytes_listed, field_of, is_global_to, objects_listed}
use Rattle.gh_dump.specs.Vocabulary.{Item, list_any, Name, option_or}
use Rattle.gh_dump.specs.declared.index.Index.{Index}

-- it has what these lines list
pub record Indexes (index : Index) (items : List (Option Item)) : Type 0 where
  pub firsts : (o : Name) → get same_name index.firsts o ≡ first_of 0 items o
  pub fields : (p : Name) (i : ℕ) → get same_field index.fields (p, i) ≡ field_of items p i
  pub globals : (k : ℕ) (o : Name) → is_some (get same_global index.globals (k, o)) ≡ list_any (is_global_to k o) items
  pub owner : (o : Name) → holds index.owner o ≡ is_open items o
  pub lines : index.lines ≡ length items
  pub objects : index.objects ≡ objects_listed items
  pub bytes : index.bytes ≡ bytes_listed items

-- its counts are those of so many lines
pub record IsSmall (index : Index) : Type 0 where
  pub objects : index.objects ≤ index.lines
  pub bytes : index.bytes ≤ 2 ^ 32 * index.lines

-- ---- one line more

pub record AddsObject (old new : Index) (o : Name) (bytes rank : ℕ) : Type 0 where
  pub firsts : (q : Name) → get same_name new.firsts q ≡ option_or (get same_name old.firsts q) (if same_name q o then Some (record { line = old.lines; rank = rank }) else None)
  pub others : new ≡ record old {
    firsts = new.firsts;
    owner = if is_none (get same_name old.firsts o) then Some o else None;
    lines = old.lines + 1;
    objects = old.objects + 1;
    bytes = old.bytes + bytes;
  }

-- what the field of the open object holds, where one is open
abbrev pub field_noted : Option Name → ℕ → Name → Name → ℕ → Option Name
field_noted None i o q j = None
field_noted (Some p) i o q j = if same_name q p && (j == i) then Some o else None

pub record AddsField (old new : Index) (i : ℕ) (o : Name) : Type 0 where
  pub fields : (q : Name) (j : ℕ) → get same_field new.fields (q, j) ≡ option_or (get same_field old.fields (q, j)) (field_noted old.owner i o q j)
  pub others : new ≡ record old { fields = new.fields; lines = old.lines + 1 }

pub record AddsGlobal (old new : Index) (k : ℕ) (o : Name) : Type 0 where
  pub globals : (j : ℕ) (q : Name) → is_some (get same_global new.globals (j, q)) ≡ (is_some (get same_global old.globals (j, q)) || ((j == k) && same_name q o))
  pub others : new ≡ record old { globals = new.globals; lines = old.lines + 1 }
