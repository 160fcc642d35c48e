-- the amounts that a market's accounts state are below 2^64
use Rattle.std.proofs.Common.{◌≡◌, ℕ, ◌^◌, ◌<◌, inl, inr, List, length, Some, refl, subst, arith}
use Rattle.dex_fields.specs.declared.market.TheConstants.{COIN_DEPOSITS_TOTAL, PC_DEPOSITS_TOTAL, REFERRER_REBATES_ACCRUED}
use Rattle.dex_fields.specs.declared.token_account.TheConstants.{AMOUNT}
use Rattle.dex_fields.specs.declared.open_orders.TheConstants.{NATIVE_COIN_TOTAL, NATIVE_PC_TOTAL}
use Rattle.dex_fields.specs.Bytes.{AreBytes}
use Rattle.dex_types.specs.declared.addresses.Address.{Address}
use Rattle.dex_types.specs.Accounts.{PlainMarketAccounts}
use Rattle.dex_types.specs.Side.{Token, Coin, Pc}
use Rattle.dex_types.specs.Solvency.{vault}
use Rattle.dex_types.specs.Trader.{Account, Open, balance, trader_at}
use Rattle.dex_market.specs.MarketAccount.{market_words}
use Rattle.dex_orders.specs.OrdersAccount.{IsOrders, account_of}
use Rattle.dex_accounts.specs.Decoded.{market_in}
use Rattle.dex_state.specs.Held.{IsHeldMarket}
use Rattle.dex_audit_rules.specs.Funds.{deposits_word}
use Rattle.dex_audit.proofs.FundLaws.{IsSmall}
use Rattle.dex_audit.proofs.MarketForm.{IsAuditable, word-lt}
use Rattle.dex_audit.proofs.TraderFrom.{open-from}

module _ (accounts : PlainMarketAccounts) (can : IsAuditable accounts) (words : IsHeldMarket accounts) where
  vault-small : (token : Token) → vault token (market_in accounts) < 2 ^ 64
  unfolding market_in
  vault-small Coin = let size = can.accepted.coin_vault.size in word-lt accounts.coin_vault AMOUNT words.coin_vault (omega arith) refl
  vault-small Pc = let size = can.accepted.pc_vault.size in word-lt accounts.pc_vault AMOUNT words.pc_vault (omega arith) refl

  rebates-small : (market_in accounts).referrer_rebates < 2 ^ 64
  unfolding market_in
  rebates-small = let size = can.accepted.market.size in word-lt accounts.market REFERRER_REBATES_ACCRUED words.market (omega arith) refl

  size-of : (bytes : List ℕ) → IsOrders bytes → length bytes ≡ 3228
  size-of bytes (inl blank) = blank.size
  size-of bytes (inr (inl is)) = is.opened.size
  size-of bytes (inr (inr is)) = is.opened.size

  total-small : (bytes : List ℕ) → AreBytes bytes → IsOrders bytes → (token : Token) → (balance token (account_of bytes)).total < 2 ^ 64
  total-small bytes are is Coin = word-lt bytes NATIVE_COIN_TOTAL are (omega (arith, size-of bytes is)) refl
  total-small bytes are is Pc = word-lt bytes NATIVE_PC_TOTAL are (omega (arith, size-of bytes is)) refl

  totals-small : (owner : Address) (account : Account) → trader_at owner (market_in accounts).traders ≡ Some (Open account) → (token : Token) → (balance token account).total < 2 ^ 64
  unfolding market_in
  totals-small owner account found token =
      let one = open-from (λ from. AreBytes from.bytes × IsOrders from.bytes) owner account accounts.orders
      (λ k d lt. ((words.orders k d lt).bytes, can.accepted.orders k d lt)) found in
      subst (λ (a : Account). (balance token a).total < 2 ^ 64) one.is (total-small one.from.bytes one.holds.0 one.holds.1 token)

  pub small : IsSmall (market_in accounts)
  small = record { vaults = vault-small; rebates = rebates-small; totals = totals-small }

  pub deposits-small : (token : Token) → deposits_word token (market_words accounts.market) < 2 ^ 64
  deposits-small Coin = let size = can.accepted.market.size in word-lt accounts.market COIN_DEPOSITS_TOTAL words.market (omega arith) refl
  deposits-small Pc = let size = can.accepted.market.size in word-lt accounts.market PC_DEPOSITS_TOTAL words.market (omega arith) refl
