-- The heap that a picture shows.
use Rattle.std.specs.Prelude.{true, false, None}
use Rattle.gh_tri.specs.declared.moves.Picture.{Picture}
use Rattle.gh_tri.specs.Colours.{colours_of}
use Rattle.gh_tri.specs.Tables.{cells, by_three}
use Rattle.gh_tri.specs.Tricolour.{Tricolour}

unfoldable pub picture_of : Picture → Tricolour
picture_of p =
    record {
      objects = p.objects;
      limit = p.limit;
      fields = p.fields;
      stacks = p.stacks;
      colour = colours_of p.colours.items;
      value = cells None p.values.columns p.values.items.items;
      scanned = cells true p.scanned.columns p.scanned.items.items;
      register = cells None p.registers.columns p.registers.items.items;
      seen = cells false p.seen.columns p.seen.items.items;
      read = by_three None p.limit (cells None p.reads.columns p.reads.items.items);
    }
