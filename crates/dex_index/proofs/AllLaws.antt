-- Where an index leads to all accounts of a market, what it leads to are the market's accounts, before a step and after it.
use Rattle.std.proofs.Common.{◌≡◌, ℕ, suc, Bool, List, [], ◌∷◌, length, sym, ap, ◌∙◌, subst, arith}
use Rattle.std.proofs.lemmas.List.{length-map}
use Rattle.dex_types.specs.declared.addresses.Address.{Address}
use Rattle.dex_types.specs.declared.replies.Reply.{Reply}
use Rattle.dex_types.specs.Accounts.{PlainAccount, PlainMarketAccounts}
use Rattle.dex_types.specs.Market.{Market}
use Rattle.dex_types.specs.Soundness.{AreDistinct}
use Rattle.dex_types.specs.Steps.{Step}
use Rattle.dex_accounts.specs.Decoded.{AreSound, market_in}
use Rattle.dex_orders.specs.StandsFor.{traders_of}
use Rattle.dex_ring.specs.declared.pending_fills.PendingFills.{PendingFills}
use Rattle.dex_step.specs.Acting.{HasStepped, addresses_of}
use Rattle.dex_index.specs.declared.index.AccountIndex.{AccountIndex}
use Rattle.dex_index.specs.Reached.{IsIndexOf, LeadsToAll, leads_to, market_reached, reached_by}
use Rattle.dex_index.proofs.ReachedLaws.{leads-all, reached-all}

-- sound accounts have an address each
pub distinct-orders : (accounts : PlainMarketAccounts) → AreSound accounts → AreDistinct (traders_of accounts.orders)
unfolding market_in
distinct-orders accounts sound = sound.sound.form.distinct

pub all-reached : (index : AccountIndex) (accounts : PlainMarketAccounts) → IsIndexOf index accounts.orders → market_reached index accounts ≡ accounts
all-reached index accounts leads = ap (λ (l : List PlainAccount). record accounts { orders = l }) (reached-all (leads_to index) accounts.orders 0 leads)

first-same : (x y : Address) (xs ys : List Address) → x ∷ xs ≡ y ∷ ys → x ≡ y
first-same x y xs ys same = cc

others-same : (x y : Address) (xs ys : List Address) → x ∷ xs ≡ y ∷ ys → xs ≡ ys
others-same x y xs ys same = cc

-- what leads to accounts leads to others of the same addresses
leads-as : (leads : Address → ℕ → Bool) (before after : List PlainAccount) (at : ℕ) → addresses_of after ≡ addresses_of before
    → LeadsToAll leads at before → LeadsToAll leads at after
leads-as leads [] [] at same all = tt
leads-as leads [] (first ∷ others) at same all = absurd (cc)
leads-as leads (first ∷ others) [] at same all = absurd (cc)
leads-as leads (first ∷ others) (one ∷ more) at same all =
    (ap (λ (a : Address). leads a at) (first-same _ _ _ _ same) ∙ all.0, leads-as leads others more (suc at) (others-same _ _ _ _ same) all.1)

-- a step was done on what an index of all accounts leads to; what some index leads to afterwards, of as many accounts, is
-- what it left
module _ (index later : AccountIndex) (before after : PlainMarketAccounts) (reply : Reply) (pending : PendingFills) (step : Market → Step) (leads : IsIndexOf index before.orders)
    (many : length after.orders ≡ length before.orders)
    (did : HasStepped (market_reached index before) (market_reached later after) reply pending (step (market_in (market_reached index before)))) where
  -- the accounts that are reached afterwards have the addresses of those before
  had : addresses_of (reached_by later after.orders) ≡ addresses_of before.orders
  had = did.kept.addresses ∙ ap addresses_of (reached-all (leads_to index) before.orders 0 leads)

  -- so they are all
  leads-later : IsIndexOf later after.orders
  leads-later =
      let ours : length (addresses_of (reached_by later after.orders)) ≡ length (reached_by later after.orders) = length-map (reached_by later after.orders) _ in
      let theirs : length (addresses_of before.orders) ≡ length before.orders = length-map before.orders _ in
      let as_many : length (addresses_of (reached_by later after.orders)) ≡ length (addresses_of before.orders) = ap (λ (l : List Address). length l) had in
      leads-all (leads_to later) after.orders 0 (omega (arith, as_many, ours, theirs, many))

  pub stepped-indexed : IsIndexOf index after.orders
  stepped-indexed =
      leads-as (leads_to index) before.orders after.orders 0
      (sym (ap addresses_of (reached-all (leads_to later) after.orders 0 leads-later)) ∙ had) leads

  pub stepped-all : HasStepped before after reply pending (step (market_in before))
  stepped-all =
      subst (λ (b : PlainMarketAccounts). HasStepped b after reply pending (step (market_in b))) (all-reached index before leads)
      (subst (λ (a : PlainMarketAccounts). HasStepped (market_reached index before) a reply pending (step (market_in (market_reached index before))))
      (all-reached later after leads-later) did)
