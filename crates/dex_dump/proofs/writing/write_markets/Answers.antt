use Rattle.std.proofs.Common.{append-nil, sym, ◌∙◌}
use Rattle.std.proofs.lemmas.List.Elements.{All-nil}
use Rattle.dex_types.specs.Accounts.{market_accounts_of}
use Rattle.dex_state.specs.Held.{IsHeldMarket}
use Rattle.dex_dump.specs.DumpText.{lines_text, market_rows}
use Rattle.dex_dump.proofs.TextLaws.{held_more, rows_more}
use Rattle.dex_dump.proofs.writing.write_markets.Goals as goal

pub loop-market-init : goal.loop-market-init
unfolding lines_text
loop-market-init c = record { text = sym (append-nil _); held = All-nil IsHeldMarket }

pub loop-market-preserved : goal.loop-market-preserved
loop-market-preserved c =
    let market = c.market-item in
    record {
      text = c.in_ok-write_market_rows.ensures.text ∙ rows_more market_rows market_accounts_of _ _ c.args.markets.now c.loop-market.market-index market.result
          c.loop-market-test.true market.is c.loop-market.invariant.text;
      held = held_more IsHeldMarket market_accounts_of c.args.markets.now c.loop-market.market-index market.result c.loop-market-test.true market.is
          c.loop-market.invariant.held c.in_ok-write_market_rows.ensures.held;
    }
