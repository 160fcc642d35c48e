-- The checks of one market's accounts hold exactly where they are accepted.
use Rattle.std.proofs.Common.{◌≡◌, ◌<◌, ◌+◌, ◌∙◌, ℕ, ◌↔◌, List, [], ◌∷◌, length, map, drop, get_or, ap, subst, sym, arith, inl, inr}
use Rattle.std.specs.List.{All}
use Rattle.std.proofs.lemmas.List.{at_drop_more, get_or-map, length-map}
use Rattle.std.proofs.lemmas.List.Elements.{All-cons, All-head, All-nil, All-tail}
use Rattle.dex_fields.proofs.Reading.{length-bytes_in}
use Rattle.dex_fields.specs.declared.market.TheConstants.{COIN_MINT, PC_MINT}
use Rattle.dex_types.specs.declared.addresses.Address.{Address}
use Rattle.dex_types.specs.declared.faults.AccountFault.{AccountFault}
use Rattle.dex_types.specs.declared.terms.Side.TheVariants.{Bid, Ask}
use Rattle.dex_types.specs.declared.account_bytes.OrdersAccount.{OrdersAccount}
use Rattle.dex_types.specs.Accounts.{PlainAccount, PlainMarketAccounts, orders_account_of}
use Rattle.dex_market.specs.MarketAccount.{market_terms}
use Rattle.dex_market.proofs.Verdicts.{none_from_requests, requests_from_none}
use Rattle.dex_orders.specs.OrdersAccount.{IsOrders}
use Rattle.dex_ring.proofs.Verdicts.{none_from_queue, queue_from_none}
use Rattle.dex_accounts.specs.Accepted.{IsAccepted, NamesMarket}
use Rattle.dex_dump.specs.Checks.{AccountCheck, AllHold, FirstFails, Holds, market_checks, orders_check}
use Rattle.dex_dump.proofs.CheckLaws.{orders_held, own_held, side_held, vault_held}
use Rattle.dex_dump.proofs.PassLaws.{orders_pass, own_passes, side_passes, vault_passes}

-- ---- checks that are left of all: what they tell is told of all

pub record IsLeft (left whole : List AccountCheck) : Type 0 where
  pub all : AllHold left → AllHold whole
  pub first : (account : Address) (fault : AccountFault) → FirstFails left account fault → FirstFails whole account fault

pub one-done : (one : AccountCheck) (left whole : List AccountCheck) → IsLeft (one ∷ left) whole → Holds one.check → IsLeft left whole
one-done one left whole is holds = record {
  all = λ hold. is.all (holds, hold);
  first = λ account fault fails. is.first account fault (inr (holds, fails));
}

-- the first of what is left is the account at a place
pub one-left : (market : Address) (accounts : List OrdersAccount) (place : ℕ) (account : OrdersAccount) (whole : List AccountCheck) → place < length accounts
    → account ≡ get_or accounts place account → IsLeft (map (orders_check market) (drop place (map orders_account_of accounts))) whole
    → IsLeft (orders_check market (orders_account_of account) ∷ map (orders_check market) (drop (place + 1) (map orders_account_of accounts))) whole
one-left market accounts place account whole lt is left =
    let plain : PlainAccount = orders_account_of account in
    let all = map orders_account_of accounts in
    let here : get_or all place plain ≡ plain = get_or-map orders_account_of accounts place account plain lt ∙ ap orders_account_of (sym is) in
    subst (λ (checks : List AccountCheck). IsLeft checks whole)
    (at_drop_more (map (orders_check market)) all place plain (omega (arith, length-map accounts orders_account_of))
    ∙ ap (λ (a : PlainAccount). orders_check market a ∷ map (orders_check market) (drop (place + 1) all)) here)
    left

pub first-alone : (one : AccountCheck) (left : List AccountCheck) (account : Address) (fault : AccountFault) → FirstFails (one ∷ []) account fault
    → FirstFails (one ∷ left) account fault
first-alone one left account fault (inl here) = inl here
first-alone one left account fault (inr later) = absurd later.1

-- ---- the open-orders accounts

abbrev AreAccepted : Address → List PlainAccount → Type 0
AreAccepted market accounts = All (λ (account : PlainAccount). IsOrders account.bytes) accounts × All (NamesMarket market) accounts

each-held : (market : Address) (accounts : List PlainAccount) → length market.0 ≡ 32 → AllHold (map (orders_check market) accounts) → AreAccepted market accounts
each-held market [] size hold = (All-nil (λ (account : PlainAccount). IsOrders account.bytes), All-nil (NamesMarket market))
each-held market (account ∷ accounts) size hold =
    let one = orders_held market account.bytes size hold.0 in
    let others = each-held market accounts size hold.1 in (
      All-cons (λ (account : PlainAccount). IsOrders account.bytes) account accounts one.0 others.0,
      All-cons (NamesMarket market) account accounts one.1 others.1,
    )

each-passes : (market : Address) (accounts : List PlainAccount) → All (λ (account : PlainAccount). IsOrders account.bytes) accounts → All (NamesMarket market) accounts
    → AllHold (map (orders_check market) accounts)
each-passes market [] are named = tt
each-passes market (account ∷ accounts) are named = (
  orders_pass market account.bytes (All-head (λ (account : PlainAccount). IsOrders account.bytes) account accounts are) (All-head (NamesMarket market) account accounts named),
  each-passes market accounts (All-tail (λ (account : PlainAccount). IsOrders account.bytes) account accounts are) (All-tail (NamesMarket market) account accounts named),
)

-- ---- the market

accepted-from : (accounts : PlainMarketAccounts) → length accounts.address.0 ≡ 32 → AllHold (market_checks accounts) → IsAccepted accounts
accepted-from accounts size hold =
    let own = own_held accounts.address accounts.market size hold.0 in
    let terms = market_terms accounts.market in
    let coin = vault_held terms.coin_mint accounts.coin_vault (length-bytes_in accounts.market COIN_MINT (omega (arith, own.0.size))) hold.1.0 in
    let pc = vault_held terms.pc_mint accounts.pc_vault (length-bytes_in accounts.market PC_MINT (omega (arith, own.0.size))) hold.1.1.0 in
    let orders = each-held accounts.address accounts.orders size hold.1.1.1.1.1.1.1.1.1 in
    record {
      market = own.0;
      requests = requests_from_none accounts.requests hold.1.1.1.0;
      events = queue_from_none accounts.events hold.1.1.1.1.0;
      bids = side_held Bid accounts.bids hold.1.1.1.1.1.0 hold.1.1.1.1.1.1.0;
      asks = side_held Ask accounts.asks hold.1.1.1.1.1.1.1.0 hold.1.1.1.1.1.1.1.1.0;
      coin_vault = coin.0;
      pc_vault = pc.0;
      orders = orders.0;
      own_address = own.1;
      coin_mint = coin.1;
      pc_mint = pc.1;
      named = orders.1;
    }

passes-from : (accounts : PlainMarketAccounts) → IsAccepted accounts → AllHold (market_checks accounts)
passes-from accounts accepted =
    let t = market_terms accounts.market in (
      own_passes accounts.address accounts.market accepted.market accepted.own_address,
      (
        vault_passes t.coin_mint accounts.coin_vault accepted.coin_vault accepted.coin_mint,
        (
          vault_passes t.pc_mint accounts.pc_vault accepted.pc_vault accepted.pc_mint,
          (
            none_from_requests accounts.requests accepted.requests,
            (
              none_from_queue accounts.events accepted.events,
              (
                side_passes Bid accounts.bids accepted.bids,
                (
                  accepted.bids.slab,
                  (
                    side_passes Ask accounts.asks accepted.asks,
                    (accepted.asks.slab, each-passes accounts.address accounts.orders accepted.orders accepted.named),
                  ),
                ),
              ),
            ),
          ),
        ),
      ),
    )

pub exactly-accepted : (accounts : PlainMarketAccounts) → length accounts.address.0 ≡ 32 → AllHold (market_checks accounts) ↔ IsAccepted accounts
exactly-accepted accounts size = (accepted-from accounts size, passes-from accounts)
