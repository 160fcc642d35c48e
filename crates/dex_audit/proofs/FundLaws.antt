-- where an audit finds nothing of rules 7 to 11 and 13, the funds of a market agree
use Rattle.std.proofs.Common.{◌≡◌, ℕ, ◌+◌, ◌^◌, ◌<◌, Bool, true, false, ◌&&◌, cond, eqb, ltb, List, [], ◌∷◌, ◌++◌, Option, Some, refl, ap, ◌∙◌, arith}
use Rattle.std.specs.List.{All}
use Rattle.std.proofs.lemmas.Bool.{eq-eqb, and_from, eqb-true, ltb-true}
use Rattle.std.proofs.lemmas.List.Elements.{All-nil, All-cons}
use Rattle.dex_types.specs.declared.addresses.Address.{Address}
use Rattle.dex_types.specs.declared.orders.Order.{Order}
use Rattle.dex_types.specs.declared.terms.Lots.{Lots}
use Rattle.dex_types.specs.declared.terms.Side.{Side}
use Rattle.dex_types.specs.Market.{Market}
use Rattle.dex_types.specs.Owed.{is_event_of, kept, order_lock, referred}
use Rattle.dex_types.specs.QueuedEvent.{QueuedEvent}
use Rattle.dex_types.specs.Side.{Token, Coin, Pc, by_token}
use Rattle.dex_types.specs.Solvency.{IsBounded, AddsUp, all_leaving, all_referrers, earned, own_kept, own_locked, vault}
use Rattle.dex_types.specs.Soundness.{AreHeld, FundsAgree, event_holding, held_at}
use Rattle.dex_types.specs.Totals.{total, weighed_where}
use Rattle.dex_types.specs.Trader.{Account, Holding, Open, balance, trader_at}
use Rattle.dex_laws.proofs.TotalLaws.{total-agree}
use Rattle.dex_sound.proofs.PlaceLaws.{is_same_side-refl}
use Rattle.dex_totals.specs.Held.{is_held, is_own_held}
use Rattle.dex_audit_rules.specs.Funds.{beyond, beyond_in, deposited, differs, exceeds, held_kept, rebates_in, too_large, total_off, total_sum, totals_in, vault_at, vault_off, vaults_in}
use Rattle.dex_totals.specs.Sums.{capped}
use Rattle.dex_audit_rules.specs.Lists.{numbered}
use Rattle.dex_audit_rules.proofs.ListLaws.{append-none, numbered-each, unless-none}
use Rattle.dex_audit.proofs.SlotLaws.{open-none}

-- ---- amounts

pub capped-small : (amount sum : ℕ) → amount < 2 ^ 64 → amount ≡ capped sum → amount ≡ sum
capped-small amount sum small is = omega arith

pub differs-none : (kind : ℕ) (account : Address) (place amount sum : ℕ) → amount < 2 ^ 64 → differs kind account place amount sum ≡ [] → amount ≡ sum
differs-none kind account place amount sum small none =
    capped-small amount sum small (eqb-true amount (capped sum) (unless-none (eqb amount (capped sum)) _ none))

pub exceeds-none : (kind : ℕ) (account : Address) (place amount : ℕ) → exceeds kind account place amount ≡ [] → amount < 2 ^ 64
exceeds-none kind account place amount none = ltb-true amount (2 ^ 64) (unless-none (ltb amount (2 ^ 64)) _ none)

-- ---- 9, 10 and 11

-- the amounts that a market states are below 2^64
pub record IsSmall (m : Market) : Type 0 where
  pub vaults : (token : Token) → vault token m < 2 ^ 64
  pub rebates : m.referrer_rebates < 2 ^ 64
  pub totals : (owner : Address) (account : Account) → trader_at owner m.traders ≡ Some (Open account) → (token : Token) → (balance token account).total < 2 ^ 64

module _ (m : Market) (small : IsSmall m) where
  vault-none : (token : Token) → vaults_in m ≡ [] → vault_off token m ≡ []
  vault-none Coin none = (append-none (vault_off Coin m) (vault_off Pc m) none).0
  vault-none Pc none = (append-none (vault_off Coin m) (vault_off Pc m) none).1

  pub vault-is : vaults_in m ≡ [] → (token : Token) → vault token m ≡ deposited token m + earned token m
  vault-is none token =
      differs-none 9 (vault_at token m) 64 (vault token m) (deposited token m + earned token m) (small.vaults token) (vault-none token none)

  rebates-are : rebates_in m ≡ [] → m.referrer_rebates ≡ all_referrers m.traders + total referred m.events
  rebates-are none =
      differs-none 10 m.listing.address 373 m.referrer_rebates (all_referrers m.traders + total referred m.events) small.rebates none

  beyond-none : (token : Token) → beyond_in m ≡ [] → beyond token m ≡ []
  beyond-none Coin none = (append-none (beyond Coin m) (beyond Pc m) none).0
  beyond-none Pc none = (append-none (beyond Coin m) (beyond Pc m) none).1

  bounded : beyond_in m ≡ [] → IsBounded m
  bounded none token = exceeds-none 11 (vault_at token m) 64 (vault token m + all_leaving token m.events) (beyond-none token none)

  -- ---- 7

  one-order : (held : Holding) → is_held (Some held) held ≡ true
  one-order held =
      and_from _ _ (and_from _ _ (eq-eqb held.id held.id refl) (is_same_side-refl held.side)) (eq-eqb held.client held.client refl)

  own-test : (own here : Bool) → here ≡ true → (own && here) ≡ own
  own-test true here is = is
  own-test false here is = refl

  kept-agree : (token : Token) (owner : Address) (events : List QueuedEvent) → AreHeld m.traders events
      → All (λ (event : QueuedEvent). weighed_where (is_own_held m.traders owner) (kept token) event ≡ weighed_where (is_event_of owner) (kept token) event) events
  kept-agree token owner [] are = All-nil _
  kept-agree token owner (event ∷ events) are =
      All-cons (λ (event : QueuedEvent). weighed_where (is_own_held m.traders owner) (kept token) event ≡ weighed_where (is_event_of owner) (kept token) event) event events
      (ap (λ (test : Bool). cond test (kept token event) 0)
      (own-test (is_event_of owner event) (is_held (held_at event.owner event.slot m.traders) (event_holding event))
      (ap (λ (found : Option Holding). is_held found (event_holding event)) are.0 ∙ one-order (event_holding event))))
      (kept-agree token owner events are.2)

  pub all-kept : AreHeld m.traders m.events → (token : Token) (owner : Address) → held_kept token owner m ≡ own_kept token owner m.events
  all-kept are token owner =
      total-agree (weighed_where (is_own_held m.traders owner) (kept token)) (weighed_where (is_event_of owner) (kept token)) m.events
      (kept-agree token owner m.events are)

  total-none : (token : Token) (owner : Address) (account : Account) → total_off Coin m owner account ++ total_off Pc m owner account ≡ [] → total_off token m owner account ≡ []
  total-none Coin owner account none = (append-none (total_off Coin m owner account) (total_off Pc m owner account) none).0
  total-none Pc owner account none = (append-none (total_off Coin m owner account) (total_off Pc m owner account) none).1

  adds-up : AreHeld m.traders m.events → totals_in m ≡ [] → AddsUp m
  adds-up are none owner account found token =
      let both : total_off Coin m owner account ++ total_off Pc m owner account ≡ [] =
      open-none (λ owner account. total_off Coin m owner account ++ total_off Pc m owner account) owner account m.traders none found in
      differs-none 7 owner (by_token token 85 101) (balance token account).total (total_sum token m owner account) (small.totals owner account found token)
      (total-none token owner account both)
      ∙ ap (λ (n : ℕ). (balance token account).free + own_locked token owner m + n) (all-kept are token owner)

  pub funds-agree : AreHeld m.traders m.events → totals_in m ≡ [] → vaults_in m ≡ [] → rebates_in m ≡ [] → beyond_in m ≡ [] → FundsAgree m
  funds-agree are totals vaults rebates beyond = record {
    solvent = record { vaults = vault-is vaults; referrers = rebates-are rebates };
    adds_up = adds-up are totals;
    bounded = bounded beyond;
  }

-- ---- 13

pub locks-fit : (side : Side) (sizes : Lots) (account : Address) (resting : List Order) → numbered (too_large side sizes account) 0 resting ≡ []
    → All (λ (order : Order). order_lock side sizes order < 2 ^ 64) resting
locks-fit side sizes account resting none =
    numbered-each (too_large side sizes account) (λ (order : Order). order_lock side sizes order < 2 ^ 64)
    (λ place order empty. exceeds-none 13 account place (order_lock side sizes order) empty)
    0 resting none
