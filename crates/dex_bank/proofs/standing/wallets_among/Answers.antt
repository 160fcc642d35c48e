use Rattle.dex_types.specs.Rows.{row_of}
use Rattle.dex_act.proofs.Sights.{row-named}
use Rattle.dex_bank.proofs.standing.wallets_among.Goals as goal

pub role_place-requires : goal.role_place-requires
role_place-requires c = (row-named c.args.cells.now (row_of c.args.row.now) c.requires).coin

pub role_place-requires-2 : goal.role_place-requires-2
role_place-requires-2 c = (row-named c.args.cells.now (row_of c.args.row.now) c.requires).pc

pub role_place-requires-3 : goal.role_place-requires-3
role_place-requires-3 c = (row-named c.args.cells.now (row_of c.args.row.now) c.requires).discount

pub role_place-requires-4 : goal.role_place-requires-4
role_place-requires-4 c = (row-named c.args.cells.now (row_of c.args.row.now) c.requires).referrer
