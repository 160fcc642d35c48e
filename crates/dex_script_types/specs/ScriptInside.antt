-- What the fields of a script stand for.
use Rattle.std.specs.Prelude.{map}
use Rattle.dex_types.specs.Accounts.{accounts_of}
use Rattle.dex_types.specs.Rows.{row_of}
use Rattle.dex_script_types.specs.declared.script.Script.TheInside.{Inside}
use Rattle.dex_script_types.specs.PlainScript.{PlainScript}
use Rattle.dex_script_types.specs.Facts.{IsScript}
use Rattle.dex_script_types.specs.Places.{AreBeside, ArePlaced}

-- the script that the fields are
abbrev pub script_inside : Inside → PlainScript
script_inside inside = record {
  start = accounts_of inside.start;
  rows = map row_of inside.rows;
  lanes = inside.lanes;
  program = inside.program;
  limits = inside.limits;
}

-- what holds of every script (`IsScript`) holds of the fields, and each row has its places, its number and its lane
-- beside it
abbrev pub IsKept : Inside → Type 0
IsKept inside =
    IsScript (script_inside inside) × ArePlaced (accounts_of inside.start) (map row_of inside.rows) inside.places.items
    × AreBeside (map row_of inside.rows) inside.places.items
