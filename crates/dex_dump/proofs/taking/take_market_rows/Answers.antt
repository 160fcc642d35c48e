use Rattle.std.proofs.Common.{[], ◌∷◌, ◌++◌, ◌∙◌, All, List, ℕ, ap, append_assoc, map, subst}
use Rattle.dex_types.specs.declared.account_bytes.OrdersAccount.{OrdersAccount}
use Rattle.dex_types.specs.Accounts.{market_accounts_of, orders_account_of}
use Rattle.dex_state.specs.Held.{IsHeld}
use Rattle.dex_dump.specs.DumpText.{base64_text, line_text, lines_text, market_row, orders_row}
use Rattle.dex_dump.specs.Pieces.{text_in}
use Rattle.dex_dump.specs.Terms.{terms_text}
use Rattle.dex_dump.proofs.PieceLaws.{behind, more}
use Rattle.dex_dump.proofs.TextLaws.{in-turn, row-text}
use Rattle.dex_dump.proofs.taking.take_market_rows.Goals as goal

pub returns-clause-text : goal.returns-clause-text
unfolding lines_text
returns-clause-text c =
    let m = c.args.market in
    let market = market_accounts_of m in
    let text = text_in c.args.text.now in
    let requests = 44 ∷ base64_text m.requests.items in
    let events = 44 ∷ base64_text m.events.items in
    let bids = 44 ∷ base64_text m.bids.items in
    let asks = 44 ∷ base64_text m.asks.items in
    let orders = lines_text (map (orders_row m.address) (map orders_account_of m.orders.items)) in
    let parts =
    more _ _ _ (10 ∷ []) (behind _ _ _ _ c.in_ok-end_row.ensures)
    (more _ _ _ asks c.in_ok-take_bytes-4.ensures.text
    (more _ _ _ bids c.in_ok-take_bytes-3.ensures.text
    (more _ _ _ events c.in_ok-take_bytes-2.ensures.text
    (more _ _ _ requests c.in_ok-take_bytes.ensures.text (behind _ _ _ _ c.in_ok-write_terms.ensures.text))))) in
    let row = parts ∙ in-turn text (terms_text market) requests events bids asks (10 ∷ []) ∙ ap (λ (t : List ℕ). text ++ t) (row-text market) in
    more _ _ _ orders (behind _ _ _ _ (rw c.deref.ensures.value at c.in_ok-write_orders.ensures.text)) row
    ∙ append_assoc text (line_text (market_row market)) orders

pub returns-clause-held : goal.returns-clause-held
returns-clause-held c =
    let terms = c.in_ok-write_terms.ensures.held in
    record {
      address = terms.address;
      authority = terms.authority;
      market = terms.market;
      coin_vault = terms.coin_vault;
      pc_vault = terms.pc_vault;
      requests = c.in_ok-take_bytes.ensures.held;
      events = c.in_ok-take_bytes-2.ensures.held;
      bids = c.in_ok-take_bytes-3.ensures.held;
      asks = c.in_ok-take_bytes-4.ensures.held;
      orders = subst (λ (orders : List OrdersAccount). All IsHeld (map orders_account_of orders)) c.deref.ensures.value c.in_ok-write_orders.ensures.held;
    }
