-- Accounts that have the parts and the vaults of the market that a step leaves are that market's.
use Rattle.std.proofs.Common.{◌≡◌, ℕ, List, sym, ap, ◌∙◌, subst}
use Rattle.std.specs.List.{All}
use Rattle.dex_types.specs.declared.addresses.Address.{Address}
use Rattle.dex_types.specs.declared.replies.Reply.{Reply}
use Rattle.dex_types.specs.Accounts.{PlainAccount, PlainMarketAccounts}
use Rattle.dex_types.specs.Market.{Listing, Market}
use Rattle.dex_types.specs.Side.{Token, Coin, Pc, by_token}
use Rattle.dex_types.specs.Soundness.{IsSound}
use Rattle.dex_types.specs.Steps.{Step}
use Rattle.dex_market.specs.MarketAccount.{MarketWords}
use Rattle.dex_orders.specs.OrdersAccount.{IsOrders}
use Rattle.dex_orders.specs.StandsFor.{IsOnMarket}
use Rattle.dex_ring.specs.declared.pending_fills.PendingFills.{PendingFills}
use Rattle.dex_ring.specs.PendingFills.{pending_fills_of}
use Rattle.dex_token.specs.StandsFor.{StandsForVault}
use Rattle.dex_token.specs.TokenAccount.{WalletWords}
use Rattle.dex_accounts.specs.Accepted.{IsAccepted, NamesMarket}
use Rattle.dex_accounts.specs.Decoded.{AreSound, market_in}
use Rattle.dex_accounts.specs.Parts.{AreOf, MarketParts}
use Rattle.dex_accounts.specs.StandsFor.{StandsFor}
use Rattle.dex_accounts.proofs.Decoded.{AreSound-of, told}
use Rattle.dex_accounts.proofs.PartLaws.{StandsFor-parts}
use Rattle.dex_step.specs.Acting.{HasStepped, Holds, KeepsAccounts, Leaves}

-- a vault that holds what the market after it says is its vault
vault-holds : (token : Token) (m m' : Market) (before after : List ℕ) (amount : ℕ) → StandsForVault before token m → Holds before after amount
    → m'.listing ≡ m.listing → by_token token m'.coin_vault m'.pc_vault ≡ amount → StandsForVault after token m'
vault-holds token m m' before after amount stands holds listing is =
    let words : ℕ → Listing → WalletWords = λ x l. record {
      mint = by_token token l.coin_mint l.pc_mint;
      owner = by_token token l.coin_vault_owner l.pc_vault_owner;
      amount = x;
    } in
    record {
      accepted = holds.accepted;
      words =
          holds.words
          ∙ ap (λ (w : WalletWords). record w { amount = amount }) stands.words
          ∙ ap (words amount) (sym listing)
          ∙ ap (λ (x : ℕ). words x m'.listing) (sym is);
    }

each-accepted : (market : Address) (accounts : List PlainAccount) → All (IsOnMarket market) accounts → All (λ (account : PlainAccount). IsOrders account.bytes) accounts
each-accepted market accounts on = λ k default lt. (on k default lt).accepted

-- accounts that stand for a market, and whose open-orders accounts name it, are accepted
accepted-of : (accounts : PlainMarketAccounts) (m : Market) → StandsFor accounts m → All (NamesMarket accounts.address) accounts.orders → IsAccepted accounts
accepted-of accounts m stands named = record {
  market = stands.terms.accepted;
  requests = stands.requests.accepted;
  events = stands.events.accepted;
  bids = stands.bids.accepted;
  asks = stands.asks.accepted;
  coin_vault = stands.coin_vault.accepted;
  pc_vault = stands.pc_vault.accepted;
  orders = each-accepted m.listing.address accounts.orders stands.traders.each;
  own_address = ap (λ (w : MarketWords). w.terms.own_address) stands.terms.words ∙ sym stands.address;
  coin_mint =
      ap (λ (w : WalletWords). w.mint) stands.coin_vault.words ∙ sym (ap (λ (w : MarketWords). w.terms.coin_mint) stands.terms.words);
  pc_mint = ap (λ (w : WalletWords). w.mint) stands.pc_vault.words ∙ sym (ap (λ (w : MarketWords). w.terms.pc_mint) stands.terms.words);
  named = named;
}

module _ (before after : PlainMarketAccounts) (parts : MarketParts) (coin pc : ℕ) (m m' : Market) (stands : StandsFor before m)
    (leaves : Leaves before after parts coin pc) (are : AreOf parts m') (listing : m'.listing ≡ m.listing)
    (coin_is : m'.coin_vault ≡ coin) (pc_is : m'.pc_vault ≡ pc) where
  -- they stand for it
  pub stands-left : StandsFor after m'
  stands-left =
      StandsFor-parts after m'
      (subst (λ (p : MarketParts). AreOf p m') (sym leaves.parts_are) are)
      (leaves.vaults.address ∙ stands.address ∙ sym (ap (λ (l : Listing). l.address) listing))
      (leaves.vaults.authority ∙ stands.authority ∙ sym (ap (λ (l : Listing). l.authority) listing))
      (vault-holds Coin m m' before.coin_vault after.coin_vault coin stands.coin_vault leaves.vaults.coin_vault listing coin_is)
      (vault-holds Pc m m' before.pc_vault after.pc_vault pc stands.pc_vault leaves.vaults.pc_vault listing pc_is)
      leaves.bids
      leaves.asks

  pub kept-left : KeepsAccounts before after
  kept-left = record {
    address = leaves.vaults.address;
    authority = leaves.vaults.authority;
    addresses = leaves.names.addresses;
    accepted = λ was.
        accepted-of after m' stands-left
        (subst (λ (a : Address). All (NamesMarket a) after.orders) (sym leaves.vaults.address) (leaves.names.named was.named));
  }

-- so where a step leaves a sound market, what was left of the accounts is the step's
pub leaves-stepped : (before after : PlainMarketAccounts) (parts : MarketParts) (coin pc : ℕ) (reply : Reply) (pending : PendingFills) (s : Step)
    → AreSound before → IsSound s.market → Leaves before after parts coin pc → AreOf parts s.market → s.market.listing ≡ (market_in before).listing
    → s.market.coin_vault ≡ coin → s.market.pc_vault ≡ pc → reply ≡ s.reply → pending ≡ pending_fills_of s.market.events
    → HasStepped before after reply pending s
leaves-stepped before after parts coin pc reply pending s sound left leaves are listing coin_is pc_is replied sums =
    let m = market_in before in
    let stands : StandsFor after s.market = stands-left before after parts coin pc m s.market sound.stands leaves are listing coin_is pc_is in
    let is : market_in after ≡ s.market = told after s.market stands in
    record {
      reply_is = replied;
      market = is;
      sound = AreSound-of after s.market left stands;
      pending_is = sums ∙ ap (λ (n : Market). pending_fills_of n.events) (sym is);
      kept = kept-left before after parts coin pc m s.market sound.stands leaves are listing coin_is pc_is;
    }
