-- rows act one after the other
use Rattle.std.proofs.Common.{◌≡◌, List, [], ◌∷◌, ◌++◌, refl}
use Rattle.dex_types.specs.Rows.{PlainRow}
use Rattle.dex_world.specs.Fold.{act, fold}
use Rattle.dex_world.specs.World.{World}

pub fold-append : (rows later : List PlainRow) (world : World) → fold (rows ++ later) world ≡ fold later (fold rows world)
fold-append [] later world = refl
fold-append (row ∷ rows) later world = fold-append rows later (act row world)
