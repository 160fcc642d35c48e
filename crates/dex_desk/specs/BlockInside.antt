-- What the fields of a block stand for.
use Rattle.std.specs.Prelude.{[], false, true, map}
use Rattle.dex_types.specs.Accounts.{accounts_of}
use Rattle.dex_types.specs.Rows.{row_of}
use Rattle.dex_types.specs.declared.limits.TheConstants.{WIDE}
use Rattle.dex_script_types.specs.Places.{AreBeside, ArePlaced}
use Rattle.dex_desk.specs.declared.block.Block.TheInside.{Inside}
use Rattle.dex_desk.specs.Blocks.{IsBlock, PlainBlock}
use Rattle.dex_script.specs.Names.{AreNames}

-- the block that the fields are
abbrev pub block_inside : Inside → PlainBlock
block_inside inside = record {
  draft = record {
    script = record {
      start = accounts_of inside.start;
      rows = map row_of inside.rows.items;
      lanes = inside.lanes;
      program = inside.program;
      limits = WIDE;
    };
    taken = [];
    clock = inside.clock;
    is_first = false;
    is_late = true;
    items = inside.items;
    batch = false;
  };
  number = inside.number;
}

-- it is one; each row has its places, its number and its lane beside it; and names are those of the accounts
pub record IsKept (inside : Inside) : Type 0 where
  pub block : IsBlock (block_inside inside)
  pub placed : ArePlaced (accounts_of inside.start) (map row_of inside.rows.items) inside.places.items
  pub beside : AreBeside (map row_of inside.rows.items) inside.places.items
  pub names : AreNames inside.names (accounts_of inside.start)
