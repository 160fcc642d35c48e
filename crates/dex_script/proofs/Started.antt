-- Markets as setup rows make them, and that they are accepted and sound.
use Rattle.std.proofs.Common.{◌≡◌, ◌∙◌, [], ℕ, List, ap, arith, get_or, subst, sym}
use Rattle.std.specs.List.{All}
use Rattle.std.proofs.lemmas.List.Elements.{All-nil}
use Rattle.dex_fields.specs.declared.frame.TheConstants.{FRONT, FRONT_TEXT}
use Rattle.dex_fields.specs.Bytes.{number_in, number_of_bytes}
use Rattle.dex_types.specs.declared.addresses.Address.{Address}
use Rattle.dex_types.specs.Accounts.{PlainAccount, PlainAccounts, PlainMarketAccounts}
use Rattle.dex_types.specs.Soundness.{AreDistinct}
use Rattle.dex_market.specs.MarketAccount.{MarketWords}
use Rattle.dex_orders.specs.OrdersAccount.{IsBlank, IsOpened, IsOrders}
use Rattle.dex_orders.specs.StandsFor.{traders_of}
use Rattle.dex_orders.proofs.BlankLaw.{number_in-zeros}
use Rattle.dex_token.specs.TokenAccount.{WalletWords}
use Rattle.dex_sound.specs.Made.{blanks, made_market}
use Rattle.dex_make.specs.declared.market.MarketSet.{MarketSet}
use Rattle.dex_make.specs.Blanks.{blank_account, with_blanks}
use Rattle.dex_make.specs.MarketBytes.{blank_orders, made_accounts}
use Rattle.dex_make.specs.MarketSet.{CanTrade, IsMarketSet, listing_of}
use Rattle.dex_make.proofs.MadeLaws.{IsBlank-blank_orders, IsSound-made, StandsFor-with_blanks}
use Rattle.dex_accounts.specs.Accepted.{IsAccepted, NamesMarket}
use Rattle.dex_accounts.specs.Decoded.{AreSound}
use Rattle.dex_accounts.specs.StandsFor.{StandsFor}
use Rattle.dex_accounts.proofs.Decoded.{AreSound-of}
use Rattle.dex_state.specs.Accepted.{AreAccepted}
use Rattle.dex_audit.proofs.OnceLaws.{accounts-distinct}
use Rattle.dex_types.specs.declared.limits.Limits.{Limits}
use Rattle.dex_state.specs.Conserved.{IsConserved}
use Rattle.dex_script_types.specs.Facts.{IsStart}

-- a market's accounts are as they are made, with blank open-orders accounts
pub record IsMade (accounts : PlainMarketAccounts) : Type 0 where
  pub set : MarketSet
  pub addresses : List Address
  pub made : IsMarketSet set
  pub trade : CanTrade set
  pub is : with_blanks addresses (made_accounts set) ≡ accounts
  pub stands : StandsFor (made_accounts set) (made_market (listing_of set) [])

-- ---- a market as it is made

-- a blank account was never opened
blank-closed : (bytes : List ℕ) → IsBlank bytes → IsOpened bytes → ⊥
unfolding number_in number_of_bytes
blank-closed bytes blank opened =
    let none : number_in bytes FRONT ≡ 0 = number_in-zeros bytes blank.zeros FRONT (omega (arith, blank.size)) in
    let text : number_in bytes FRONT ≡ number_of_bytes FRONT_TEXT = ap number_of_bytes opened.framed.front in
    absurd (omega arith)

-- so an account that was never opened names every market
pub blank-names : (market address : Address) → NamesMarket market (blank_account address)
blank-names market address opened = absurd (blank-closed blank_orders IsBlank-blank_orders opened)

-- a market as a row makes it
pub made-accepted : (set : MarketSet) → StandsFor (made_accounts set) (made_market (listing_of set) []) → IsAccepted (made_accounts set)
made-accepted set stands = record {
  market = stands.terms.accepted;
  requests = stands.requests.accepted;
  events = stands.events.accepted;
  bids = stands.bids.accepted;
  asks = stands.asks.accepted;
  coin_vault = stands.coin_vault.accepted;
  pc_vault = stands.pc_vault.accepted;
  orders = All-nil (λ (account : PlainAccount). IsOrders account.bytes);
  own_address = ap (λ (w : MarketWords). w.terms.own_address) stands.terms.words;
  coin_mint =
      ap (λ (w : WalletWords). w.mint) stands.coin_vault.words ∙ sym (ap (λ (w : MarketWords). w.terms.coin_mint) stands.terms.words);
  pc_mint = ap (λ (w : WalletWords). w.mint) stands.pc_vault.words ∙ sym (ap (λ (w : MarketWords). w.terms.pc_mint) stands.terms.words);
  named = All-nil (NamesMarket set.address);
}

pub made-sound : (accounts : PlainMarketAccounts) → IsMade accounts → AreDistinct (traders_of accounts.orders) → AreSound accounts
made-sound accounts made distinct =
    let market = made_market (listing_of made.set) made.addresses in
    let stands : StandsFor accounts market =
    subst (λ (a : PlainMarketAccounts). StandsFor a market) made.is (StandsFor-with_blanks (made_accounts made.set) (listing_of made.set) made.addresses made.stands) in
    let apart : AreDistinct (blanks made.addresses) = subst AreDistinct stands.traders.stand distinct in
    AreSound-of accounts market (IsSound-made made.set made.addresses made.made made.trade apart) stands

-- ---- all accounts

pub declared-start : (limits : Limits) (start : PlainAccounts) → AreAccepted limits start → All IsMade start.markets → All (IsConserved start) start.mints
    → IsStart limits start
declared-start limits start accepted made supplies =
    let distinct = accounts-distinct start accepted in
    record {
      accepted = accepted;
      sound = λ k d lt. made-sound (get_or start.markets k d) (made k d lt) (distinct k d lt);
      conserved = supplies;
    }
