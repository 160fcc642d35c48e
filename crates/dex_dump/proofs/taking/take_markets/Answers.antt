use Rattle.std.proofs.Common.{append-nil, map, sym, ◌∙◌}
use Rattle.std.proofs.lemmas.List.{map-append}
use Rattle.std.proofs.lemmas.List.Elements.{All-nil, All-push}
use Rattle.dex_types.specs.Accounts.{market_accounts_of}
use Rattle.dex_state.specs.Held.{IsHeldMarket}
use Rattle.dex_dump.specs.DumpText.{lines_text, market_rows}
use Rattle.dex_dump.proofs.TextLaws.{rows-pushed}
use Rattle.dex_dump.proofs.taking.take_markets.Goals as goal

pub loop-market-init : goal.loop-market-init
unfolding lines_text
loop-market-init c = record { text = sym (append-nil _); held = All-nil IsHeldMarket }

pub loop-market-preserved : goal.loop-market-preserved
loop-market-preserved c =
    let done = c.loop-market.yielded in
    let market = c.in-Some.market in
    record {
      text = c.in_ok-write_market_rows.ensures.text ∙ rows-pushed market_rows market_accounts_of _ _ done market c.loop-market.invariant.text;
      held = rw (map-append market_accounts_of) (All-push IsHeldMarket (map market_accounts_of done) (market_accounts_of market)
          c.loop-market.invariant.held c.in_ok-write_market_rows.ensures.held);
    }
