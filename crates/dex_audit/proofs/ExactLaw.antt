-- an audit finds nothing exactly where each market is sound and each mint is conserved
use Rattle.std.proofs.Common.{◌≡◌, ◌↔◌, ◌<◌, ◌^◌, List, [], ◌++◌, length, get_or, refl, ap, arith}
use Rattle.std.specs.List.{All}
use Rattle.dex_fields.specs.declared.mint.TheConstants.{SUPPLY}
use Rattle.dex_types.specs.declared.orders.Order.{Order}
use Rattle.dex_types.specs.declared.terms.Side.{Side}
use Rattle.dex_types.specs.declared.terms.Side.TheVariants.{Bid, Ask}
use Rattle.dex_types.specs.Accounts.{PlainAccount, PlainAccounts, PlainMarketAccounts}
use Rattle.dex_types.specs.Market.{Market, orders}
use Rattle.dex_types.specs.Owed.{order_lock}
use Rattle.dex_types.specs.Side.{Coin, Pc}
use Rattle.dex_types.specs.Soundness.{AreDistinct}
use Rattle.dex_market.specs.MarketAccount.{market_words}
use Rattle.dex_token.specs.MintAccount.{IsMint, mint_words}
use Rattle.dex_orders.specs.StandsFor.{traders_of}
use Rattle.dex_accounts.specs.Accepted.{IsAccepted}
use Rattle.dex_accounts.specs.Decoded.{AreSound, market_in}
use Rattle.dex_types.specs.declared.limits.Limits.{Limits}
use Rattle.dex_state.specs.Accepted.{AreAccepted}
use Rattle.dex_state.specs.Held.{HoldBytes, IsHeldMarket}
use Rattle.dex_audit_rules.specs.declared.market.Rule.TheVariants as rule
use Rattle.dex_audit_rules.specs.declared.finding.Finding.{Finding}
use Rattle.dex_audit_rules.specs.Funds.{deposits_off, deposits_word, too_large}
use Rattle.dex_audit_rules.specs.Lists.{numbered}
use Rattle.dex_audit_rules.specs.RulesOf.{told_by}
use Rattle.dex_state.specs.Conserved.{IsConserved, held_of}
use Rattle.dex_audit.specs.Findings.{findings, fund_findings, market_findings, slot_findings, told}
use Rattle.dex_audit.specs.Supplies.{supplies_off, supply_off}
use Rattle.dex_audit.proofs.AllLaws.{flat_map-nothing, none-append}
use Rattle.dex_audit.proofs.FoundFunds.{differs-nothing, no-beyond, no-deposits-off, no-rebates, no-too-large, no-totals, no-vaults}
use Rattle.dex_audit.proofs.FoundLaws.{no-astray, no-homeless, no-misheld, no-repeated, no-ungiven, no-unpaired}
use Rattle.dex_audit.proofs.MarketForm.{IsAuditable, word-lt}
use Rattle.dex_audit_rules.proofs.ListLaws.{append-none}
use Rattle.dex_audit.proofs.NoneLaw.{markets-clean, markets-sound, mints-conserved}
use Rattle.dex_audit.proofs.OnceLaws.{accounts-distinct}
use Rattle.dex_audit.proofs.SmallLaws.{deposits-small, small}
use Rattle.dex_audit.proofs.SoundLaw.{IsClean, are-sound}

module _ (accounts : PlainMarketAccounts) (can : IsAuditable accounts) (words : IsHeldMarket accounts) (sound : AreSound accounts) where
  abbrev m : Market
  m = market_in accounts

  fit : (side : Side) → All (λ (order : Order). order_lock side m.listing.sizes order < 2 ^ 64) (orders side m)
  fit side k d lt = (sound.sound.form.proper side k d lt).lock

  no-deposits : deposits_off Coin (market_words accounts.market) m ++ deposits_off Pc (market_words accounts.market) m ≡ []
  no-deposits =
      none-append (deposits_off Coin (market_words accounts.market) m) (deposits_off Pc (market_words accounts.market) m)
      (no-deposits-off m (small accounts can words) sound.sound.funds Coin (market_words accounts.market) (deposits-small accounts can words Coin)
      (ap (λ w. deposits_word Coin w) sound.stands.terms.words))
      (no-deposits-off m (small accounts can words) sound.sound.funds Pc (market_words accounts.market) (deposits-small accounts can words Pc)
      (ap (λ w. deposits_word Pc w) sound.stands.terms.words))

  is-clean : IsClean accounts
  is-clean =
      let apart = sound.sound.form.distinct in
      let agree = sound.sound.slots in
      record {
        homeless = no-homeless m agree;
        misheld = no-misheld m apart agree;
        unpaired = no-unpaired m apart agree;
        astray = no-astray m agree;
        ungiven = no-ungiven m apart agree;
        repeated = no-repeated m apart agree;
        totals = no-totals m (small accounts can words) sound.sound.funds apart agree.pending;
        deposits = no-deposits;
        vaults = no-vaults m (small accounts can words) sound.sound.funds;
        rebates = no-rebates m (small accounts can words) sound.sound.funds;
        beyond = no-beyond m (small accounts can words) sound.sound.funds;
        too_large =
            none-append (numbered (too_large Bid m.listing.sizes m.listing.bids) 0 m.bids) (numbered (too_large Ask m.listing.sizes m.listing.asks) 0 m.asks)
            (no-too-large Bid m.listing.sizes m.listing.bids m.bids (fit Bid))
            (no-too-large Ask m.listing.sizes m.listing.asks m.asks (fit Ask));
      }

-- where an audit finds nothing by any rule in each market
module _ (markets : List PlainMarketAccounts) (clean : All IsClean markets) where
  none-of-slots : slot_findings markets ≡ []
  none-of-slots =
      none-append (told rule.Homeless markets) _ (flat_map-nothing (told_by rule.Homeless) markets (λ k d lt. (clean k d lt).homeless))
      (none-append (told rule.Misheld markets) _ (flat_map-nothing (told_by rule.Misheld) markets (λ k d lt. (clean k d lt).misheld))
      (none-append (told rule.Unpaired markets) _ (flat_map-nothing (told_by rule.Unpaired) markets (λ k d lt. (clean k d lt).unpaired))
      (none-append (told rule.Astray markets) _ (flat_map-nothing (told_by rule.Astray) markets (λ k d lt. (clean k d lt).astray))
      (none-append (told rule.Ungiven markets) (told rule.Repeated markets)
      (flat_map-nothing (told_by rule.Ungiven) markets (λ k d lt. (clean k d lt).ungiven))
      (flat_map-nothing (told_by rule.Repeated) markets (λ k d lt. (clean k d lt).repeated))))))

  none-of-funds : fund_findings markets ≡ []
  none-of-funds =
      none-append (told rule.Totals markets) _ (flat_map-nothing (told_by rule.Totals) markets (λ k d lt. (clean k d lt).totals))
      (none-append (told rule.Deposits markets) _ (flat_map-nothing (told_by rule.Deposits) markets (λ k d lt. (clean k d lt).deposits))
      (none-append (told rule.Vaults markets) _ (flat_map-nothing (told_by rule.Vaults) markets (λ k d lt. (clean k d lt).vaults))
      (none-append (told rule.Rebates markets) (told rule.Beyond markets)
      (flat_map-nothing (told_by rule.Rebates) markets (λ k d lt. (clean k d lt).rebates))
      (flat_map-nothing (told_by rule.Beyond) markets (λ k d lt. (clean k d lt).beyond)))))

  none-too-large : told rule.TooLarge markets ≡ []
  none-too-large = flat_map-nothing (told_by rule.TooLarge) markets (λ k d lt. (clean k d lt).too_large)

  pub no-market-findings : market_findings markets ≡ []
  no-market-findings =
      none-append (slot_findings markets) _ none-of-slots (none-append (fund_findings markets) (told rule.TooLarge markets) none-of-funds none-too-large)

module _ {limits : Limits} (accounts : PlainAccounts) (accepted : AreAccepted limits accounts) (bytes : HoldBytes accounts) (sound : All AreSound accounts.markets)
    (conserved : All (IsConserved accounts) accounts.mints) where
  clean : All IsClean accounts.markets
  clean k d lt =
      is-clean (get_or accounts.markets k d) (record { accepted = accepted.markets k d lt; distinct = accounts-distinct accounts accepted k d lt }) (bytes.markets k d lt)
      (sound k d lt)

  no-supplies : supplies_off accounts ≡ []
  no-supplies =
      flat_map-nothing (supply_off accounts) accounts.mints
      (λ k d lt.
      let mint : PlainAccount = get_or accounts.mints k d in
      let is : IsMint mint.bytes = accepted.mints k d lt in
      let size : length mint.bytes ≡ 82 = is.size in
      differs-nothing 12 mint.address 36 (mint_words mint.bytes).supply (held_of mint.address accounts) (word-lt mint.bytes SUPPLY (bytes.mints k d lt).bytes (omega arith) refl)
      (conserved k d lt))

  no-findings : findings accounts ≡ []
  unfolding findings
  no-findings =
      none-append (slot_findings accounts.markets) _ (none-of-slots accounts.markets clean)
      (none-append (fund_findings accounts.markets) _ (none-of-funds accounts.markets clean)
      (none-append (supplies_off accounts) (told rule.TooLarge accounts.markets) no-supplies (none-too-large accounts.markets clean)))

pub exactly : (limits : Limits) (accounts : PlainAccounts) → AreAccepted limits accounts → HoldBytes accounts
    → (findings accounts ≡ []) ↔ (All AreSound accounts.markets × All (IsConserved accounts) accounts.mints)
exactly limits accounts accepted bytes = (
  (λ none. (markets-sound limits accounts accepted bytes none, mints-conserved limits accounts accepted bytes none)),
  (λ is. no-findings accounts accepted bytes is.0 is.1),
)

-- of markets alone
pub markets-exactly : (markets : List PlainMarketAccounts) → All IsAccepted markets → All (λ (m : PlainMarketAccounts). AreDistinct (traders_of m.orders)) markets
    → All IsHeldMarket markets → (market_findings markets ≡ []) ↔ All AreSound markets
markets-exactly markets accepted apart held = (
  λ none.
      let slots = append-none (slot_findings markets) _ none in
      let funds = append-none (fund_findings markets) (told rule.TooLarge markets) slots.1 in
      λ k d lt.
      are-sound (get_or markets k d) (record { accepted = accepted k d lt; distinct = apart k d lt }) (held k d lt)
      (markets-clean markets slots.0 funds.0 funds.1 k d lt),
  λ sound.
      no-market-findings markets
      (λ k d lt. is-clean (get_or markets k d) (record { accepted = accepted k d lt; distinct = apart k d lt }) (held k d lt) (sound k d lt)),
)

pub audit-of-markets : (accounts : PlainAccounts) → supplies_off accounts ≡ [] → findings accounts ≡ market_findings accounts.markets
unfolding findings
audit-of-markets accounts none =
    ap (λ (l : List Finding). slot_findings accounts.markets ++ (fund_findings accounts.markets ++ (l ++ told rule.TooLarge accounts.markets))) none
