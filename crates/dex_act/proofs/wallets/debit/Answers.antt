use Rattle.std.proofs.Common.{sym, arith}
use Rattle.dex_types.specs.declared.movements.MoveKind.TheVariants.{Debit}
use Rattle.dex_types.specs.Rows.{row_of}
use Rattle.dex_world.proofs.MappedLists.{item_at}
use Rattle.dex_act.proofs.CellLists.{moved-here, role_moved-nothing}
use Rattle.dex_act.proofs.WalletMoves.{parcel-here, role-at}
use Rattle.dex_act.proofs.wallets.debit.Goals as goal

pub returns-then-amount-eq0-clause-moved : goal.returns-then-amount-eq0-clause-moved
returns-then-amount-eq0-clause-moved c =
    sym (role_moved-nothing (row_of c.args.row.now) Debit c.args.role.now c.args.amount c.args.cells.now c.if-amount-eq0.true)

pub returns-else-amount-eq0-clause-parcel : goal.returns-else-amount-eq0-clause-parcel
returns-else-amount-eq0-clause-parcel c = λ mint of.
    let at = role-at c.args.role.now c.args.amount c.args.cells.now c.args.place (omega (arith, c.if-amount-eq0.false)) c.requires.named c.requires.here in
    let cell = item_at c.args.cells.now c.args.place at.at.within in
    parcel-here mint c.args.role.now at.wallet c.args.amount c.args.cells.now c.args.place cell c.debit_at.result at.is (omega (arith, c.if-amount-eq0.false)) at.at (c.debit_at.ensures.parcel cell) of

pub returns-else-amount-eq0-clause-moved : goal.returns-else-amount-eq0-clause-moved
returns-else-amount-eq0-clause-moved c =
    let at = role-at c.args.role.now c.args.amount c.args.cells.now c.args.place (omega (arith, c.if-amount-eq0.false)) c.requires.named c.requires.here in
    let cell = item_at c.args.cells.now c.args.place at.at.within in
    moved-here (row_of c.args.row.now) Debit c.args.role.now at.wallet c.args.amount c.args.cells.now c.debit_at.new.cells c.args.place at.is (omega (arith, c.if-amount-eq0.false))
    c.requires.apart at.at cell (c.debit_at.ensures.moved cell)
