-- an audit finds nothing of the funds of a sound market
use Rattle.std.proofs.Common.{◌≡◌, ℕ, ◌+◌, ◌-◌, ◌^◌, ◌<◌, eqb, ltb, List, [], ◌++◌, get_or, sym, ap, ◌∙◌, arith}
use Rattle.std.specs.List.{All}
use Rattle.std.proofs.lemmas.Bool.{eq-eqb, lt-ltb}
use Rattle.dex_types.specs.declared.addresses.Address.{Address}
use Rattle.dex_types.specs.declared.orders.Order.{Order}
use Rattle.dex_types.specs.declared.terms.Lots.{Lots}
use Rattle.dex_types.specs.declared.terms.Side.{Side}
use Rattle.dex_types.specs.Market.{Market}
use Rattle.dex_types.specs.Owed.{order_lock, referred}
use Rattle.dex_types.specs.Side.{Token, Coin, Pc, by_token}
use Rattle.dex_types.specs.Solvency.{all_leaving, all_referrers, earned, own_locked, vault}
use Rattle.dex_types.specs.Soundness.{AreDistinct, AreHeld, FundsAgree}
use Rattle.dex_types.specs.Totals.{total}
use Rattle.dex_types.specs.Trader.{balance}
use Rattle.dex_market.specs.MarketAccount.{MarketWords}
use Rattle.dex_audit_rules.specs.Funds.{beyond, beyond_in, deposited, deposits_off, deposits_word, differs, exceeds, rebates_in, too_large, total_off, total_sum, totals_in, vault_at, vault_off, vaults_in}
use Rattle.dex_totals.specs.Sums.{capped}
use Rattle.dex_audit_rules.specs.Lists.{numbered}
use Rattle.dex_audit.proofs.AllLaws.{none-append, numbered-nothing, open-nothing, unless-holds}
use Rattle.dex_audit.proofs.FundLaws.{IsSmall, all-kept}

pub differs-nothing : (kind : ℕ) (account : Address) (place amount sum : ℕ) → amount < 2 ^ 64 → amount ≡ sum → differs kind account place amount sum ≡ []
differs-nothing kind account place amount sum small is =
    let told : amount ≡ capped sum = omega arith in
    unless-holds (eqb amount (capped sum)) _ (eq-eqb amount (capped sum) told)

exceeds-nothing : (kind : ℕ) (account : Address) (place amount : ℕ) → amount < 2 ^ 64 → exceeds kind account place amount ≡ []
exceeds-nothing kind account place amount small = unless-holds (ltb amount (2 ^ 64)) _ (lt-ltb amount (2 ^ 64) small)

module _ (m : Market) (small : IsSmall m) (funds : FundsAgree m) where
  -- ---- 7

  pub no-totals : AreDistinct m.traders → AreHeld m.traders m.events → totals_in m ≡ []
  no-totals apart held =
      open-nothing (λ owner account. total_off Coin m owner account ++ total_off Pc m owner account) m.traders apart
      (λ owner account found.
      let off : (token : Token) → total_off token m owner account ≡ [] =
      λ token.
      differs-nothing 7 owner (by_token token 85 101) (balance token account).total (total_sum token m owner account) (small.totals owner account found token)
      (funds.adds_up owner account found token
      ∙ sym (ap (λ (n : ℕ). (balance token account).free + own_locked token owner m + n) (all-kept m small held token owner))) in
      none-append (total_off Coin m owner account) (total_off Pc m owner account) (off Coin) (off Pc))

  -- ---- 8 to 11

  pub no-deposits-off : (token : Token) (words : MarketWords) → deposits_word token words < 2 ^ 64 → deposits_word token words ≡ vault token m - earned token m
      → deposits_off token words m ≡ []
  no-deposits-off token words fits is =
      let vault-is : vault token m ≡ deposited token m + earned token m = funds.solvent.vaults token in
      differs-nothing 8 m.listing.address (by_token token 149 197) (deposits_word token words) (deposited token m) fits (omega (arith, is, vault-is))

  no-vault-off : (token : Token) → vault_off token m ≡ []
  no-vault-off token =
      differs-nothing 9 (vault_at token m) 64 (vault token m) (deposited token m + earned token m) (small.vaults token) (funds.solvent.vaults token)

  pub no-vaults : vaults_in m ≡ []
  no-vaults = none-append (vault_off Coin m) (vault_off Pc m) (no-vault-off Coin) (no-vault-off Pc)

  pub no-rebates : rebates_in m ≡ []
  no-rebates =
      differs-nothing 10 m.listing.address 373 m.referrer_rebates (all_referrers m.traders + total referred m.events) small.rebates funds.solvent.referrers

  no-beyond-of : (token : Token) → beyond token m ≡ []
  no-beyond-of token = exceeds-nothing 11 (vault_at token m) 64 (vault token m + all_leaving token m.events) (funds.bounded token)

  pub no-beyond : beyond_in m ≡ []
  no-beyond = none-append (beyond Coin m) (beyond Pc m) (no-beyond-of Coin) (no-beyond-of Pc)

-- ---- 13

pub no-too-large : (side : Side) (sizes : Lots) (account : Address) (resting : List Order) → All (λ (order : Order). order_lock side sizes order < 2 ^ 64) resting
    → numbered (too_large side sizes account) 0 resting ≡ []
no-too-large side sizes account resting fit =
    numbered-nothing (too_large side sizes account) resting
    (λ i d lt. exceeds-nothing 13 account i (order_lock side sizes (get_or resting i d)) (fit i d lt))
