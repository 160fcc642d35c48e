-- Migrated accounts have the findings that the accounts had.
use Rattle.std.proofs.Common.{◌≡◌, ℕ, ◌+◌, List, [], ◌∷◌, ◌++◌, refl, sym, ap, ◌∙◌}
use Rattle.std.specs.List.{AllZip, flat_map}
use Rattle.dex_accounts.specs.Decoded.{market_in}
use Rattle.dex_audit.specs.Findings.{findings, fund_findings, slot_findings}
use Rattle.dex_state.specs.Conserved.{amount_of, held_of}
use Rattle.dex_audit.specs.Supplies.{supplies_off, supply_off}
use Rattle.dex_audit_rules.specs.declared.finding.Finding.{Finding}
use Rattle.dex_audit_rules.specs.Funds.{beyond_in, deposits_in, differs, deposits_off, rebates_in, too_large_in, totals_in, vaults_in}
use Rattle.dex_audit_rules.specs.Slots.{astray_in, homeless_in, misheld_in, repeated_in, ungiven_in, unpaired_in}
use Rattle.dex_migrate.specs.Migrated.{AreMigrated, IsMigrated}
use Rattle.dex_market.specs.MarketAccount.{market_words}
use Rattle.dex_ring.specs.Ring.{ring_of}
use Rattle.dex_slab.specs.Slab.{resting}
use Rattle.dex_token.specs.MintAccount.{mint_words}
use Rattle.dex_types.specs.declared.addresses.Address.{Address}
use Rattle.dex_types.specs.declared.orders.Order.{Order}
use Rattle.dex_types.specs.declared.terms.Side.TheVariants.{Bid, Ask}
use Rattle.dex_types.specs.Accounts.{PlainAccount, PlainAccounts, PlainMarketAccounts}
use Rattle.dex_types.specs.Market.{Market}
use Rattle.dex_types.specs.QueuedEvent.{QueuedEvent}
use Rattle.dex_types.specs.Side.{Coin, Pc}
use Rattle.dex_types.specs.Totals.{total}

-- a market without what its sides and its queue have room for
abbrev bare : Market → Market
bare m = record m { listing = record (m.listing) { bid_capacity = 0; ask_capacity = 0; event_capacity = 0 } }

-- a market's accounts without its sides and its queue, with what these hold
abbrev with_held : PlainMarketAccounts → List Order → List Order → List QueuedEvent → ℕ → Market
with_held accounts bids asks events count =
    bare (record (market_in accounts) { bids = bids; asks = asks; events = events; events_appended = count })

module _ (nodes events : ℕ) (old new : PlainMarketAccounts) (migrated : IsMigrated nodes events old new) where
  others : PlainMarketAccounts
  others = record new { bids = old.bids; asks = old.asks; events = old.events }

  same-bare : bare (market_in new) ≡ bare (market_in old)
  unfolding market_in
  same-bare =
      ap (λ (l : List Order). with_held new l (resting Ask new.asks) (ring_of new.events).events (ring_of new.events).seq_num) migrated.bids.orders
      ∙ ap (λ (l : List Order). with_held new (resting Bid old.bids) l (ring_of new.events).events (ring_of new.events).seq_num) migrated.asks.orders
      ∙ ap (λ r. with_held new (resting Bid old.bids) (resting Ask old.asks) r.events r.seq_num) migrated.queue.ring
      ∙ ap (λ (a : PlainMarketAccounts). with_held a (resting Bid old.bids) (resting Ask old.asks) (ring_of old.events).events (ring_of old.events).seq_num) migrated.others

  same-words : market_words new.market ≡ market_words old.market
  same-words = ap (λ (a : PlainMarketAccounts). market_words a.market) migrated.others

  same-deposits : deposits_in new ≡ deposits_in old
  same-deposits =
      ap (λ (m : Market). deposits_off Coin (market_words new.market) m ++ deposits_off Pc (market_words new.market) m) same-bare
      ∙ ap (λ w. deposits_off Coin w (bare (market_in old)) ++ deposits_off Pc w (bare (market_in old))) same-words

  same-amounts : (mint : _) → amount_of mint new.coin_vault + amount_of mint new.pc_vault ≡ amount_of mint old.coin_vault + amount_of mint old.pc_vault
  same-amounts mint = ap (λ (a : PlainMarketAccounts). amount_of mint a.coin_vault + amount_of mint a.pc_vault) migrated.others

-- two lists after one another
joined : {first same : List Finding} {second other : List Finding} → first ≡ same → second ≡ other → first ++ second ≡ same ++ other
joined {first} {same} {second} {other} one two = ap (λ (l : List Finding). l ++ second) one ∙ ap (λ (l : List Finding). same ++ l) two

-- a rule that looks at no room finds the same in all markets
same-rule : (rule : PlainMarketAccounts → List Finding) (nodes events : ℕ)
    → ((old new : PlainMarketAccounts) → IsMigrated nodes events old new → rule new ≡ rule old)
    → (olds news : List PlainMarketAccounts) → AllZip (IsMigrated nodes events) olds news → flat_map rule news ≡ flat_map rule olds
same-rule rule nodes events same [] [] all = refl
same-rule rule nodes events same [] (new ∷ news) all = absurd all
same-rule rule nodes events same (old ∷ olds) [] all = absurd all
same-rule rule nodes events same (old ∷ olds) (new ∷ news) all =
    ap (λ (l : List Finding). l ++ flat_map rule news) (same old new all.0)
    ∙ ap (λ (l : List Finding). rule old ++ l) (same-rule rule nodes events same olds news all.1)

-- what a rule finds in markets
abbrev of_markets : (Market → List Finding) → List PlainMarketAccounts → List Finding
of_markets rule markets = flat_map (λ (market : PlainMarketAccounts). rule (market_in market)) markets

all-of-markets : (rule : Market → List Finding) → ((m : Market) → rule (bare m) ≡ rule m) → (nodes events : ℕ) (old new : PlainAccounts) → AreMigrated nodes events old new
    → of_markets rule new.markets ≡ of_markets rule old.markets
all-of-markets rule apart nodes events old new migrated =
    same-rule (λ (market : PlainMarketAccounts). rule (market_in market)) nodes events
    (λ before after one. sym (apart (market_in after)) ∙ ap rule (same-bare nodes events before after one) ∙ apart (market_in before))
    old.markets new.markets migrated.markets

same-total : (mint : Address) (nodes events : ℕ) (olds news : List PlainMarketAccounts) → AllZip (IsMigrated nodes events) olds news
    → total (λ (market : PlainMarketAccounts). amount_of mint market.coin_vault + amount_of mint market.pc_vault) news
    ≡ total (λ (market : PlainMarketAccounts). amount_of mint market.coin_vault + amount_of mint market.pc_vault) olds
same-total mint nodes events [] [] all = refl
same-total mint nodes events [] (new ∷ news) all = absurd all
same-total mint nodes events (old ∷ olds) [] all = absurd all
same-total mint nodes events (old ∷ olds) (new ∷ news) all =
    let weight : PlainMarketAccounts → ℕ = λ market. amount_of mint market.coin_vault + amount_of mint market.pc_vault in
    ap (λ (n : ℕ). n + total weight news) (same-amounts nodes events old new all.0 mint)
    ∙ ap (λ (n : ℕ). weight old + n) (same-total mint nodes events olds news all.1)

same-wallets : (nodes events : ℕ) (old new : PlainAccounts) → AreMigrated nodes events old new → new.wallets ≡ old.wallets
same-wallets nodes events old new migrated = ap (λ (a : PlainAccounts). a.wallets) migrated.others

same-held : (nodes events : ℕ) (old new : PlainAccounts) → AreMigrated nodes events old new → (mint : Address) → held_of mint new ≡ held_of mint old
same-held nodes events old new migrated mint =
    let weight : PlainMarketAccounts → ℕ = λ market. amount_of mint market.coin_vault + amount_of mint market.pc_vault in
    ap (λ (l : List PlainAccount). total (λ (wallet : PlainAccount). amount_of mint wallet.bytes) l + total weight new.markets) (same-wallets nodes events old new migrated)
    ∙ ap (λ (n : ℕ). total (λ (wallet : PlainAccount). amount_of mint wallet.bytes) old.wallets + n) (same-total mint nodes events old.markets new.markets migrated.markets)

same-flat : (rule other : PlainAccount → List Finding) → ((account : PlainAccount) → rule account ≡ other account) → (accounts : List PlainAccount) → flat_map rule accounts ≡ flat_map other accounts
same-flat rule other same [] = refl
same-flat rule other same (first ∷ others) =
    ap (λ (l : List Finding). l ++ flat_map rule others) (same first) ∙ ap (λ (l : List Finding). other first ++ l) (same-flat rule other same others)

same-supplies : (nodes events : ℕ) (old new : PlainAccounts) → AreMigrated nodes events old new → supplies_off new ≡ supplies_off old
same-supplies nodes events old new migrated =
    ap (λ (l : List PlainAccount). flat_map (supply_off new) l) (ap (λ (a : PlainAccounts). a.mints) migrated.others)
    ∙ same-flat (supply_off new) (supply_off old) (λ mint. ap (λ (n : ℕ). differs 12 mint.address 36 (mint_words mint.bytes).supply n) (same-held nodes events old new migrated mint.address)) old.mints

pub same-findings : (nodes events : ℕ) (old new : PlainAccounts) → AreMigrated nodes events old new → findings new ≡ findings old
unfolding findings
same-findings nodes events old new migrated =
    let each : (rule : Market → List Finding) → ((m : Market) → rule (bare m) ≡ rule m) → of_markets rule new.markets ≡ of_markets rule old.markets =
    λ rule apart. all-of-markets rule apart nodes events old new migrated in
    let deposits : flat_map deposits_in new.markets ≡ flat_map deposits_in old.markets =
    same-rule deposits_in nodes events (λ before after one. same-deposits nodes events before after one) old.markets new.markets migrated.markets in
    let slots : slot_findings new.markets ≡ slot_findings old.markets =
    joined (each homeless_in (λ m. refl))
    (joined (each misheld_in (λ m. refl))
    (joined (each unpaired_in (λ m. refl)) (joined (each astray_in (λ m. refl)) (joined (each ungiven_in (λ m. refl)) (each repeated_in (λ m. refl)))))) in
    let funds : fund_findings new.markets ≡ fund_findings old.markets =
    joined (each totals_in (λ m. refl)) (joined deposits (joined (each vaults_in (λ m. refl)) (joined (each rebates_in (λ m. refl)) (each beyond_in (λ m. refl))))) in
    joined slots (joined funds (joined (same-supplies nodes events old new migrated) (each too_large_in (λ m. refl))))
