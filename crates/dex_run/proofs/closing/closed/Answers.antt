use Rattle.std.proofs.Common.{List, length, map, ap, sym, subst, ◌∙◌, arith}
use Rattle.dex_world.proofs.Common.{AllZip, Call, WalletEntry, named_of}
use Rattle.dex_replay.proofs.Common.{CellsState, outcome_of}
use Rattle.dex_serializable.proofs.Common.{MarketOrigin, Stamped, WalletOrigin}
use Rattle.dex_run.proofs.Common.{AreMarketsClosed, AreWalletsClosed, CanClose, GateView}
use Rattle.dex_bank.specs.Closed as cells
use Rattle.dex_act.specs.Steps.{Terms}
use Rattle.dex_run.proofs.ClosingLaws.{are-cells, cells-length, closes}
use Rattle.dex_run.proofs.ClosingPasses.{markets-close, wallets-close}
use Rattle.dex_run.proofs.closing.closed.Goals as goal

pub closed_cells-market_cells-requires-clause-passes : goal.closed_cells-market_cells-requires-clause-passes
closed_cells-market_cells-requires-clause-passes c =
    subst (λ (gates : List (GateView (Stamped Call) MarketOrigin)). AllZip (λ gate column. CanClose gate column.items) gates c.hand_out_all.new.markets.items)
    (sym c.into_parts-mints.ensures.parts.markets)
    (markets-close c.args.bank c.args.seats.items c.into_parts-mints.ensures.kept c.requires.lanes c.hand_out_all.new.markets.items c.hand_out_all.ensures.markets)

pub closed_cells-wallet_cells-requires-clause-passes : goal.closed_cells-wallet_cells-requires-clause-passes
closed_cells-wallet_cells-requires-clause-passes c =
    subst (λ (gates : List (GateView (Stamped WalletEntry) WalletOrigin)). AllZip (λ gate column. CanClose gate column.items) gates c.hand_out_all.new.wallets.items)
    (sym c.into_parts-mints.ensures.parts.wallets)
    (wallets-close c.args.bank c.args.seats.items c.into_parts-mints.ensures.kept c.requires.lanes c.hand_out_all.new.wallets.items c.hand_out_all.ensures.wallets)

pub of-requires : goal.of-requires
of-requires c = record {
  cells = are-cells c.args.bank c.args.seats.items c.into_parts-mints.ensures.kept c.requires.lanes
      c.hand_out_all.new.markets.items c.hand_out_all.new.wallets.items (map named_of c.into_parts-mints.result.mints.items) c.into_parts-mints.result.terms.srm c.into_parts-mints.result.terms.msrm
      c.closed_cells-market_cells.result.items c.closed_cells-wallet_cells.result.items c.into_parts-mints.result.terms.program c.hand_out_all.ensures.wallets
      (subst (λ (gates : List (GateView (Stamped Call) MarketOrigin)). AreMarketsClosed gates c.hand_out_all.new.markets.items c.closed_cells-market_cells.result.items)
      c.into_parts-mints.ensures.parts.markets c.closed_cells-market_cells.ensures)
      (subst (λ (gates : List (GateView (Stamped WalletEntry) WalletOrigin)). AreWalletsClosed gates c.hand_out_all.new.wallets.items c.closed_cells-wallet_cells.result.items)
      c.into_parts-mints.ensures.parts.wallets c.closed_cells-wallet_cells.ensures);
}

pub close_into-requires : goal.close_into-requires
close_into-requires c =
    let markets = cells-length _ _ _ _ _ _ c.closed_cells-market_cells.ensures in
    let wallets = cells-length _ _ _ _ _ _ c.closed_cells-wallet_cells.ensures in
    record {
      room = (
        omega (arith, ap (λ (cells : CellsState). length cells.markets) c.of.ensures, markets, ap length c.into_parts-mints.ensures.parts.markets, c.requires.room.market_cells),
        omega (arith, ap (λ (cells : CellsState). length cells.wallets) c.of.ensures, wallets, ap length c.into_parts-mints.ensures.parts.wallets, c.requires.room.wallet_cells),
      );
    }

pub returns : goal.returns
returns c done =
    closes c.args.bank c.args.seats.items c.into_parts-mints.ensures.kept c.requires.lanes
    c.hand_out_all.new.markets.items c.hand_out_all.new.wallets.items (map named_of c.into_parts-mints.result.mints.items) c.into_parts-mints.result.terms.srm c.into_parts-mints.result.terms.msrm
    c.closed_cells-market_cells.result.items c.closed_cells-wallet_cells.result.items c.into_parts-mints.result.terms.program (outcome_of c.close_into.result)
    c.hand_out_all.ensures.kept c.requires.seats done c.hand_out_all.ensures.markets c.hand_out_all.ensures.wallets
    (subst (λ (gates : List (GateView (Stamped Call) MarketOrigin)). AreMarketsClosed gates c.hand_out_all.new.markets.items c.closed_cells-market_cells.result.items)
    c.into_parts-mints.ensures.parts.markets c.closed_cells-market_cells.ensures)
    (subst (λ (gates : List (GateView (Stamped WalletEntry) WalletOrigin)). AreWalletsClosed gates c.hand_out_all.new.wallets.items c.closed_cells-wallet_cells.result.items)
    c.into_parts-mints.ensures.parts.wallets c.closed_cells-wallet_cells.ensures)
    c.into_parts-mints.ensures.parts.mints
    (ap (λ (terms : Terms). terms.srm) c.into_parts-mints.ensures.parts.terms)
    (ap (λ (terms : Terms). terms.msrm) c.into_parts-mints.ensures.parts.terms)
    (c.close_into.ensures.outcome ∙ ap cells.closed c.of.ensures)
