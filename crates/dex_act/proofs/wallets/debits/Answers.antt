use Rattle.std.proofs.Common.{List, map, inl, sym, ap, ◌∙◌, subst}
use Rattle.std.specs.List.{All}
use Rattle.dex_types.specs.declared.movements.MoveKind.TheVariants.{Debit}
use Rattle.dex_types.specs.Rows.{row_of}
use Rattle.dex_types.specs.Wallets.{address_seen, amount_at}
use Rattle.dex_wallet.specs.CellState.{CellState}
use Rattle.dex_act.specs.Wallets.{CanTake, IsOf, role_moved}
use Rattle.dex_act.proofs.CellLists.{apart-moved, none-at, role-moved}
use Rattle.dex_act.proofs.WalletMoves.{debited-together, second-All, second-can}
use Rattle.dex_act.proofs.wallets.debits.Goals as goal

pub debit-pc-requires-clause-apart : goal.debit-pc-requires-clause-apart
debit-pc-requires-clause-apart c =
    apart-moved (row_of c.args.asked.now.row.now) Debit c.args.asked.now.seen.now.coin c.args.amounts.now.coin_in c.args.cells.now _ c.debit-coin.ensures.moved c.requires.apart

pub debit-pc-requires-clause-here : goal.debit-pc-requires-clause-here
debit-pc-requires-clause-here c =
    role-moved (row_of c.args.asked.now.row.now) Debit c.args.asked.now.seen.now.coin c.args.amounts.now.coin_in c.args.cells.now _ c.debit-coin.ensures.moved
    (address_seen c.args.asked.now.seen.now.pc) c.args.asked.now.places.now.pc c.requires.at.pc

pub debit-pc-requires-clause-can : goal.debit-pc-requires-clause-can
debit-pc-requires-clause-can c =
    subst (All (λ (cell : CellState). CanTake (amount_at cell.address c.args.asked.now.seen.now.pc c.args.amounts.now.pc_in) cell)) (sym c.debit-coin.ensures.moved)
    (second-can (row_of c.args.asked.now.row.now) c.args.asked.now.seen.now c.args.amounts.now.coin_in c.args.amounts.now.pc_in c.args.cells.now c.args.asked.now.places.now c.requires)

pub returns-clause-pc : goal.returns-clause-pc
returns-clause-pc c = λ mint of.
    c.debit-pc.ensures.parcel mint
    (subst (All (λ (cell : CellState). IsOf mint (amount_at cell.address c.args.asked.now.seen.now.pc c.args.amounts.now.pc_in) cell)) (sym c.debit-coin.ensures.moved)
    (second-All (row_of c.args.asked.now.row.now) c.args.asked.now.seen.now c.args.amounts.now.coin_in c.args.amounts.now.pc_in c.args.cells.now
    (λ (cell : CellState). IsOf mint (amount_at cell.address c.args.asked.now.seen.now.pc c.args.amounts.now.pc_in) cell) c.requires.one of
    (λ none cell. inl (none-at cell.address c.args.asked.now.seen.now.pc c.args.amounts.now.pc_in none))))

pub returns-clause-moved : goal.returns-clause-moved
returns-clause-moved c =
    c.debit-pc.ensures.moved
    ∙ ap (λ (cells : List CellState). map (role_moved (row_of c.args.asked.now.row.now) Debit c.args.asked.now.seen.now.pc c.args.amounts.now.pc_in) cells) c.debit-coin.ensures.moved
    ∙ debited-together (row_of c.args.asked.now.row.now) c.args.asked.now.seen.now c.args.amounts.now.coin_in c.args.amounts.now.pc_in c.args.cells.now c.requires.one
