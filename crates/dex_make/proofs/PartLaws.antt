-- The parts of a market have addresses of their own.
use Rattle.std.proofs.Common.{◌≡◌, ◌≢◌, ℕ, zero, suc, ◌<◌, ◌≤◌, false, List, length, get_or, set, refl, sym, ap, ◌∙◌, arith, get_or-set_same}
use Rattle.dex_laws.proofs.TraderLaws.{is_same-false, is_same-sym}
use Rattle.dex_types.specs.declared.addresses.Address.{Address}
use Rattle.dex_types.specs.Addresses.{is_same}
use Rattle.dex_market.specs.MarketAccount.{AreTerms, addresses_of}
use Rattle.dex_market.specs.StandsFor.{terms_of}
use Rattle.dex_make.specs.declared.market.MarketSet.{MarketSet}
use Rattle.dex_make.specs.declared.parts.MarketPart.{MarketPart}
use Rattle.dex_make.specs.declared.parts.MarketPart.TheVariants.{CoinVault, PcVault, RequestQueue, EventQueue, Bids, Asks, VaultOwner}
use Rattle.dex_make.specs.Derived.{derived, number_of}
use Rattle.dex_make.specs.MarketSet.{CanTrade, listing_of}

-- ---- parts by their numbers

part_at : ℕ → MarketPart
part_at zero = VaultOwner
part_at (suc zero) = CoinVault
part_at (suc (suc zero)) = PcVault
part_at (suc (suc (suc zero))) = RequestQueue
part_at (suc (suc (suc (suc zero)))) = EventQueue
part_at (suc (suc (suc (suc (suc zero))))) = Bids
part_at (suc (suc (suc (suc (suc (suc zero)))))) = Asks
part_at (suc (suc (suc (suc (suc (suc (suc n))))))) = VaultOwner

part_at-number : (part : MarketPart) → part_at (number_of part) ≡ part
unfolding part_at
part_at-number CoinVault = refl
part_at-number PcVault = refl
part_at-number RequestQueue = refl
part_at-number EventQueue = refl
part_at-number Bids = refl
part_at-number Asks = refl
part_at-number VaultOwner = refl

numbers_differ : (part other : MarketPart) → part ≢ other → number_of part ≢ number_of other
numbers_differ part other apart = λ e. apart (sym (part_at-number part) ∙ ap part_at e ∙ part_at-number other)

number_some : (part : MarketPart) → number_of part ≢ 0
number_some CoinVault = omega arith
number_some PcVault = omega arith
number_some RequestQueue = omega arith
number_some EventQueue = omega arith
number_some Bids = omega arith
number_some Asks = omega arith
number_some VaultOwner = omega arith

-- ---- addresses by their last byte

module _ (market : Address) (wide : length market.0 ≡ 32) where
  abbrev at_number : ℕ → Address
  at_number n = record { 0 = set market.0 31 n }

  byte_of : (n : ℕ) → get_or (at_number n).0 31 0 ≡ n
  byte_of n = get_or-set_same market.0 31 n 0 (omega arith)

  numbers_apart : (n m : ℕ) → n ≢ m → is_same (at_number n) (at_number m) ≡ false
  numbers_apart n m other =
      is_same-false (at_number n) (at_number m) (λ e. other (sym (byte_of n) ∙ ap (λ (a : Address). get_or a.0 31 0) e ∙ byte_of m))

  own_apart : get_or market.0 31 0 ≡ 0 → (n : ℕ) → n ≢ 0 → is_same (at_number n) market ≡ false
  own_apart last n some =
      is_same-false (at_number n) market (λ e. some (sym (byte_of n) ∙ ap (λ (a : Address). get_or a.0 31 0) e ∙ last))

  -- two parts have two addresses
  pub parts_apart : (part other : MarketPart) → part ≢ other → is_same (derived market part) (derived market other) ≡ false
  parts_apart part other apart = numbers_apart (number_of part) (number_of other) (numbers_differ part other apart)

  -- none of them is the market's own
  pub part_apart : get_or market.0 31 0 ≡ 0 → (part : MarketPart) → is_same (derived market part) market ≡ false
  part_apart last part = own_apart last (number_of part) (number_some part)

-- ---- the addresses of a market account

module _ (made : MarketSet) (wide : length made.address.0 ≡ 32) (last : get_or made.address.0 31 0 ≡ 0) (trade : CanTrade made) where
  abbrev part_numbered : ℕ → Address
  part_numbered n = record { 0 = set made.address.0 31 n }

  abbrev addresses : List Address
  addresses = addresses_of (terms_of (listing_of made))

  at_later : (k : ℕ) (d : Address) → k < 6 → get_or addresses (suc (suc (suc k))) d ≡ part_numbered (suc k)
  at_later zero d lt = refl
  at_later (suc zero) d lt = refl
  at_later (suc (suc zero)) d lt = refl
  at_later (suc (suc (suc zero))) d lt = refl
  at_later (suc (suc (suc (suc zero)))) d lt = refl
  at_later (suc (suc (suc (suc (suc zero))))) d lt = refl
  at_later (suc (suc (suc (suc (suc (suc k)))))) d lt = absurd (omega arith)

  apart_from : (mint : Address) → ((part : MarketPart) → is_same (derived made.address part) mint ≡ false)
      → (k : ℕ) → k < 6 → is_same (part_numbered (suc k)) mint ≡ false
  apart_from mint apart zero lt = apart CoinVault
  apart_from mint apart (suc zero) lt = apart PcVault
  apart_from mint apart (suc (suc zero)) lt = apart RequestQueue
  apart_from mint apart (suc (suc (suc zero))) lt = apart EventQueue
  apart_from mint apart (suc (suc (suc (suc zero)))) lt = apart Bids
  apart_from mint apart (suc (suc (suc (suc (suc zero))))) lt = apart Asks
  apart_from mint apart (suc (suc (suc (suc (suc (suc k)))))) lt = absurd (omega arith)

  by_earlier : (earlier k : ℕ) (d : Address) → k < 6 → earlier < suc (suc (suc k))
      → is_same (part_numbered (suc k)) (get_or addresses earlier d) ≡ false
  by_earlier zero k d lt before = own_apart made.address wide last (suc k) (omega arith)
  by_earlier (suc zero) k d lt before = apart_from made.coin trade.coin_apart k lt
  by_earlier (suc (suc zero)) k d lt before = apart_from made.pc trade.pc_apart k lt
  by_earlier (suc (suc (suc j))) k d lt before =
      ap (is_same (part_numbered (suc k))) (at_later j d (omega arith))
      ∙ numbers_apart made.address wide (suc k) (suc j) (omega arith)

  fresh : (earlier later : ℕ) (d : Address) → earlier < later → 3 ≤ later → later < 9
      → is_same (get_or addresses later d) (get_or addresses earlier d) ≡ false
  fresh earlier zero d before behind within = absurd (omega arith)
  fresh earlier (suc zero) d before behind within = absurd (omega arith)
  fresh earlier (suc (suc zero)) d before behind within = absurd (omega arith)
  fresh earlier (suc (suc (suc k))) d before behind within =
      ap (λ (a : Address). is_same a (get_or addresses earlier d)) (at_later k d (omega arith))
      ∙ by_earlier earlier k d (omega arith) before

  -- what its account says are the terms of a market
  pub AreTerms-made : AreTerms (terms_of (listing_of made))
  AreTerms-made = record {
    mints = is_same-sym made.pc made.coin ∙ trade.mints;
    addresses = fresh;
    coin_lot = omega (arith, trade.coin_lot);
    pc_lot = omega (arith, trade.pc_lot);
  }
