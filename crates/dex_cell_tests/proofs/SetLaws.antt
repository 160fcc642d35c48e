-- The market of the tests can trade, and its two open-orders accounts are two.
use Rattle.std.proofs.Common.{◌≡◌, ℕ, ◌≤◌, List, [], ◌∷◌, ◌++◌, false, replicate, refl, ap, ◌∙◌}
use Rattle.std.specs.Str.{bytes_eq}
use Rattle.dex_types.specs.declared.addresses.Address.{Address}
use Rattle.dex_types.specs.Addresses.{is_same}
use Rattle.dex_make.specs.declared.market.MarketSet.{MarketSet}
use Rattle.dex_make.specs.declared.parts.MarketPart.{MarketPart}
use Rattle.dex_make.specs.declared.parts.MarketPart.TheVariants.{CoinVault, PcVault, RequestQueue, EventQueue, Bids, Asks, VaultOwner}
use Rattle.dex_make.specs.Derived.{derived}
use Rattle.dex_make.specs.MarketSet.{CanTrade, initial_terms}

-- the bytes of an address of five letters
abbrev labelled : List ℕ → List ℕ
labelled label = label ++ replicate 27 0

abbrev m : List ℕ
m = labelled (109 ∷ 0 ∷ 0 ∷ 0 ∷ 0 ∷ [])

abbrev coin : List ℕ
coin = labelled (99 ∷ 111 ∷ 105 ∷ 110 ∷ 0 ∷ [])

abbrev usd : List ℕ
usd = labelled (117 ∷ 115 ∷ 100 ∷ 0 ∷ 0 ∷ [])

coin-apart : (part : MarketPart) → bytes_eq (derived (record { 0 = m }) part).0 coin ≡ false
coin-apart CoinVault = refl
coin-apart PcVault = refl
coin-apart RequestQueue = refl
coin-apart EventQueue = refl
coin-apart Bids = refl
coin-apart Asks = refl
coin-apart VaultOwner = refl

pc-apart : (part : MarketPart) → bytes_eq (derived (record { 0 = m }) part).0 usd ≡ false
pc-apart CoinVault = refl
pc-apart PcVault = refl
pc-apart RequestQueue = refl
pc-apart EventQueue = refl
pc-apart Bids = refl
pc-apart Asks = refl
pc-apart VaultOwner = refl

pub can-trade : (made : MarketSet) → made.address.0 ≡ m → made.coin.0 ≡ coin → made.pc.0 ≡ usd → 1 ≤ (initial_terms made.ix).coin_lot → 1 ≤ (initial_terms made.ix).pc_lot
    → CanTrade made
can-trade made address coin_is pc_is coin_lot pc_lot =
    let by : MarketPart → List ℕ → List ℕ = λ part bytes. (derived (record { 0 = bytes }) part).0 in
    record {
      mints = ap (λ (l : List ℕ). bytes_eq l made.pc.0) coin_is ∙ ap (λ (l : List ℕ). bytes_eq coin l) pc_is ∙ refl;
      coin_lot = coin_lot;
      pc_lot = pc_lot;
      coin_apart = λ part. ap (λ (l : List ℕ). bytes_eq (by part l) made.coin.0) address ∙ ap (λ (l : List ℕ). bytes_eq (by part m) l) coin_is ∙ coin-apart part;
      pc_apart = λ part. ap (λ (l : List ℕ). bytes_eq (by part l) made.pc.0) address ∙ ap (λ (l : List ℕ). bytes_eq (by part m) l) pc_is ∙ pc-apart part;
    }

-- `amy` and `ben` are two addresses
pub amy-apart : (amy ben : Address) → amy.0 ≡ labelled (97 ∷ 109 ∷ 121 ∷ 0 ∷ 0 ∷ []) → ben.0 ≡ labelled (98 ∷ 101 ∷ 110 ∷ 0 ∷ 0 ∷ []) → is_same amy ben ≡ false
amy-apart amy ben amy_is ben_is =
    ap (λ (l : List ℕ). bytes_eq l ben.0) amy_is ∙ ap (λ (l : List ℕ). bytes_eq (labelled (97 ∷ 109 ∷ 121 ∷ 0 ∷ 0 ∷ [])) l) ben_is ∙ refl
