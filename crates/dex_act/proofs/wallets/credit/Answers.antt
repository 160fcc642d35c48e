use Rattle.std.proofs.Common.{set, sym, ap}
use Rattle.dex_types.specs.declared.movements.MoveKind.TheVariants.{Credit}
use Rattle.dex_types.specs.Rows.{row_of}
use Rattle.dex_act.specs.Wallets.{amount_in}
use Rattle.dex_act.proofs.CellLists.{role_moved-nothing}
use Rattle.dex_act.proofs.WalletMoves.{credited-here}
use Rattle.dex_act.proofs.wallets.credit.Goals as goal

pub returns-in-Some : goal.returns-in-Some
returns-in-Some c =
    credited-here (row_of c.args.row.now) c.args.role.now c.args.parcel c.in-Some.parcel c.args.cells.now _ c.args.place c.in-Some.is c.requires.apart c.requires.can c.requires.here
    c.index-cells-place.result (ap (set c.args.cells.now c.args.place) c.credit.ensures.moved)

pub returns-in-None : goal.returns-in-None
returns-in-None c =
    sym (role_moved-nothing (row_of c.args.row.now) Credit c.args.role.now (amount_in c.args.parcel) c.args.cells.now (ap amount_in c.in-None.is))
