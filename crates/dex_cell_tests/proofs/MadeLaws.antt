-- The accounts of a market as it is made, with two open-orders accounts that are reserved: they are accepted, and those
-- of a sound market.
use Rattle.std.proofs.Common.{◌≡◌, ℕ, List, [], ◌∷◌, ◌++◌, false, slice_index, replicate, refl, sym, ap, ◌∙◌, subst, arith}
use Rattle.std.specs.List.{All}
use Rattle.std.proofs.lemmas.Bool.{cond-false}
use Rattle.std.proofs.lemmas.List.Elements.{All-nil, All-cons}
use Rattle.dex_fields.specs.declared.frame.TheConstants.{FRONT}
use Rattle.dex_fields.specs.Bytes.{bytes_in}
use Rattle.dex_types.specs.declared.addresses.Address.{Address}
use Rattle.dex_types.specs.Accounts.{PlainAccount, PlainMarketAccounts}
use Rattle.dex_types.specs.Addresses.{is_same}
use Rattle.dex_types.specs.Market.{Market}
use Rattle.dex_types.specs.Soundness.{AreDistinct}
use Rattle.dex_market.specs.MarketAccount.{MarketWords}
use Rattle.dex_orders.specs.OrdersAccount.{IsOpened, IsOrders}
use Rattle.dex_orders.specs.StandsFor.{IsOnMarket}
use Rattle.dex_token.specs.TokenAccount.{WalletWords}
use Rattle.dex_accounts.specs.Accepted.{IsAccepted, NamesMarket}
use Rattle.dex_accounts.specs.Decoded.{AreSound}
use Rattle.dex_accounts.specs.StandsFor.{StandsFor}
use Rattle.dex_accounts.proofs.Decoded.{AreSound-of}
use Rattle.dex_make.specs.declared.market.MarketSet.{MarketSet}
use Rattle.dex_make.specs.Blanks.{blank_account, with_blanks}
use Rattle.dex_make.specs.MarketBytes.{blank_orders}
use Rattle.dex_make.specs.MarketSet.{CanTrade, IsMarketSet, listing_of}
use Rattle.dex_make.proofs.MadeLaws.{IsSound-made, StandsFor-with_blanks}
use Rattle.dex_sound.specs.Made.{blanks, made_market}

-- ---- accepted accounts

blank-front : bytes_in blank_orders FRONT ≡ replicate 5 0
unfolding blank_orders bytes_in
blank-front = refl

-- a blank account was never opened
never-opened : IsOpened blank_orders → ⊥
never-opened opened =
    let first : 0 ≡ 115 = ap (λ (l : List ℕ). slice_index l 0) (sym blank-front ∙ opened.framed.front) in
    omega (arith, first)

each-accepted : (market : Address) (accounts : List PlainAccount) → All (IsOnMarket market) accounts → All (λ (account : PlainAccount). IsOrders account.bytes) accounts
each-accepted market accounts on = λ k default lt. (on k default lt).accepted

-- accounts that stand for a market, and whose open-orders accounts name it, are accepted
accepted-of : (accounts : PlainMarketAccounts) (m : Market) → StandsFor accounts m → All (NamesMarket accounts.address) accounts.orders → IsAccepted accounts
accepted-of accounts m stands named = record {
  market = stands.terms.accepted;
  requests = stands.requests.accepted;
  events = stands.events.accepted;
  bids = stands.bids.accepted;
  asks = stands.asks.accepted;
  coin_vault = stands.coin_vault.accepted;
  pc_vault = stands.pc_vault.accepted;
  orders = each-accepted m.listing.address accounts.orders stands.traders.each;
  own_address = ap (λ (w : MarketWords). w.terms.own_address) stands.terms.words ∙ sym stands.address;
  coin_mint =
      ap (λ (w : WalletWords). w.mint) stands.coin_vault.words ∙ sym (ap (λ (w : MarketWords). w.terms.coin_mint) stands.terms.words);
  pc_mint = ap (λ (w : WalletWords). w.mint) stands.pc_vault.words ∙ sym (ap (λ (w : MarketWords). w.terms.pc_mint) stands.terms.words);
  named = named;
}

names-blank : (market address : Address) → NamesMarket market (blank_account address)
names-blank market address opened = absurd (never-opened opened)

-- ---- two accounts

module _ (set : MarketSet) (first second : Address) (accounts : PlainMarketAccounts) (stands : StandsFor accounts (made_market (listing_of set) [])) where
  -- the market, and its accounts with two that are reserved
  abbrev made : Market
  made = made_market (listing_of set) (first ∷ second ∷ [])

  abbrev two : PlainMarketAccounts
  two = with_blanks (first ∷ second ∷ []) accounts

  two-stands : StandsFor two made
  two-stands = StandsFor-with_blanks accounts (listing_of set) (first ∷ second ∷ []) stands

  two-accepted : IsAccepted two
  two-accepted =
      accepted-of two made two-stands
      (All-cons (NamesMarket accounts.address) (blank_account first) (blank_account second ∷ []) (names-blank accounts.address first)
      (All-cons (NamesMarket accounts.address) (blank_account second) [] (names-blank accounts.address second) (All-nil (NamesMarket accounts.address))))

  two-sound : IsMarketSet set → CanTrade set → is_same first second ≡ false → AreSound two
  two-sound is trades apart =
      let distinct : AreDistinct (blanks (first ∷ second ∷ [])) = (cond-false _ _ _ apart, (refl, tt)) in
      AreSound-of two made (IsSound-made set (first ∷ second ∷ []) is trades distinct) two-stands

  -- the accounts to which two were added are these
  module _ (before one both : List PlainAccount) (same : before ≡ accounts.orders) (none : accounts.orders ≡ [])
      (first_is : one ≡ before ++ (blank_account first ∷ [])) (second_is : both ≡ one ++ (blank_account second ∷ [])) where
    all : both ≡ blank_account first ∷ blank_account second ∷ []
    all =
        second_is
        ∙ ap (λ (l : List PlainAccount). l ++ (blank_account second ∷ []))
        (first_is ∙ ap (λ (l : List PlainAccount). l ++ (blank_account first ∷ [])) (same ∙ none))

    pub made-accepted : IsAccepted (record accounts { orders = both })
    made-accepted = subst (λ (l : List PlainAccount). IsAccepted (record accounts { orders = l })) (sym all) two-accepted

    pub made-sound : IsMarketSet set → CanTrade set → is_same first second ≡ false → AreSound (record accounts { orders = both })
    made-sound is trades apart = subst (λ (l : List PlainAccount). AreSound (record accounts { orders = l })) (sym all) (two-sound is trades apart)
