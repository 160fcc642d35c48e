use Rattle.std.proofs.Common.{◌≡◌, [], ◌∙◌, ap, refl}
use Rattle.dex_world.proofs.Common.{range_with_len}
use Rattle.dex_replay.proofs.Common.{CellsState, MarketCellState, market_opened, rows_naming, rows_on, wallet_opened}
use Rattle.dex_wallet.specs.CellState as wallet
use Rattle.dex_run.proofs.Openings.{all-mapped}
use Rattle.dex_run.proofs.Seating.{market-gates, seats-at_bank, seats-fresh, seats-numbers, seats-of_bank, wallet-gates}
use Rattle.dex_run.proofs.building.bank_over.Goals as goal

pub gates_over-requires : goal.gates_over-requires
gates_over-requires c =
    all-mapped (λ (cell : MarketCellState). (cell.calls ≡ []) × (cell.room ≡ rows_on cell.start.address c.args.outline.rows)) (market_opened c.args.outline.rows) (λ start. (refl, refl))
    c.args.outline.start.markets c.into_parts-mints.result.1.items (c.into_parts-mints.ensures.markets ∙ ap (λ (cells : CellsState). cells.markets) c.requires)

pub gates_over-requires-2 : goal.gates_over-requires-2
gates_over-requires-2 c =
    all-mapped (λ (cell : wallet.CellState). (cell.entries ≡ []) × (cell.room ≡ rows_naming cell.address c.args.outline.rows)) (wallet_opened c.args.outline.rows) (λ start. (refl, refl))
    c.args.outline.start.wallets c.into_parts-mints.result.2.items (c.into_parts-mints.ensures.wallets ∙ ap (λ (cells : CellsState). cells.wallets) c.requires)

pub seats_of-requires-clause-markets : goal.seats_of-requires-clause-markets
seats_of-requires-clause-markets c =
    market-gates c.args.outline c.into_parts-mints.result.1.items c.in_ok-markets.markets.items c.deref.result.now
    (c.into_parts-mints.ensures.markets ∙ ap (λ (cells : CellsState). cells.markets) c.requires)
    c.in_ok-markets.ensures.gates c.deref.ensures.value

pub seats_of-requires-clause-wallets : goal.seats_of-requires-clause-wallets
seats_of-requires-clause-wallets c =
    wallet-gates c.args.outline c.into_parts-mints.result.2.items c.in_ok-wallets.wallets.items c.deref-2.result.now
    (c.into_parts-mints.ensures.wallets ∙ ap (λ (cells : CellsState). cells.wallets) c.requires)
    c.in_ok-wallets.ensures.gates c.deref-2.ensures.value

pub of-requires-clause-markets : goal.of-requires-clause-markets
of-requires-clause-markets c =
    market-gates c.args.outline c.into_parts-mints.result.1.items c.in_ok-markets.markets.items c.in_ok-markets.markets.items
    (c.into_parts-mints.ensures.markets ∙ ap (λ (cells : CellsState). cells.markets) c.requires)
    c.in_ok-markets.ensures.gates refl

pub of-requires-clause-wallets : goal.of-requires-clause-wallets
of-requires-clause-wallets c =
    wallet-gates c.args.outline c.into_parts-mints.result.2.items c.in_ok-wallets.wallets.items c.in_ok-wallets.wallets.items
    (c.into_parts-mints.ensures.wallets ∙ ap (λ (cells : CellsState). cells.wallets) c.requires)
    c.in_ok-wallets.ensures.gates refl

pub returns-clause-seats : goal.returns-clause-seats
returns-clause-seats c =
    seats-of_bank c.of.result (range_with_len 0 c.args.outline.lanes) c.in_ok-seats.seats.items
    (seats-at_bank c.args.outline c.deref.result.now c.in_ok-markets.markets.items c.deref-2.result.now c.in_ok-wallets.wallets.items c.of.result
    (range_with_len 0 c.args.outline.lanes) c.in_ok-seats.seats.items c.in_ok-seats.ensures c.deref.ensures.value c.deref-2.ensures.value c.of.ensures.bank)

pub returns-clause-lanes : goal.returns-clause-lanes
returns-clause-lanes c =
    seats-numbers c.of.result (range_with_len 0 c.args.outline.lanes) c.in_ok-seats.seats.items
    (seats-at_bank c.args.outline c.deref.result.now c.in_ok-markets.markets.items c.deref-2.result.now c.in_ok-wallets.wallets.items c.of.result
    (range_with_len 0 c.args.outline.lanes) c.in_ok-seats.seats.items c.in_ok-seats.ensures c.deref.ensures.value c.deref-2.ensures.value c.of.ensures.bank)

pub returns-clause-fresh : goal.returns-clause-fresh
returns-clause-fresh c =
    seats-fresh c.of.result (range_with_len 0 c.args.outline.lanes) c.in_ok-seats.seats.items
    (seats-at_bank c.args.outline c.deref.result.now c.in_ok-markets.markets.items c.deref-2.result.now c.in_ok-wallets.wallets.items c.of.result
    (range_with_len 0 c.args.outline.lanes) c.in_ok-seats.seats.items c.in_ok-seats.ensures c.deref.ensures.value c.deref-2.ensures.value c.of.ensures.bank)
