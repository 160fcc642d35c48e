use Rattle.std.proofs.Common.{All, List, append_assoc, map, subst}
use Rattle.dex_types.specs.declared.account_bytes.OrdersAccount.{OrdersAccount}
use Rattle.dex_types.specs.Accounts.{orders_account_of}
use Rattle.dex_state.specs.Held.{IsHeld}
use Rattle.dex_dump.specs.DumpText.{lines_text}
use Rattle.dex_dump.proofs.writing.write_market_rows.Goals as goal

pub returns-clause-text : goal.returns-clause-text
unfolding lines_text
returns-clause-text c = rw (c.in_ok-write_orders.ensures.text, c.in_ok-write_market.ensures.text, c.deref.ensures.value) (simp append_assoc)

pub returns-clause-held : goal.returns-clause-held
returns-clause-held c =
    let row = c.in_ok-write_market.ensures.held in
    record {
      address = row.address;
      authority = row.authority;
      market = row.market;
      coin_vault = row.coin_vault;
      pc_vault = row.pc_vault;
      requests = row.requests;
      events = row.events;
      bids = row.bids;
      asks = row.asks;
      orders = subst (λ (orders : List OrdersAccount). All IsHeld (map orders_account_of orders)) c.deref.ensures.value c.in_ok-write_orders.ensures.held;
    }
