-- Accounts as they are made, with blank open-orders accounts, and the market that they stand for.
use Rattle.std.proofs.Common.{◌≡◌, List, [], ◌∷◌, map, refl, arith, inl}
use Rattle.std.proofs.lemmas.List.Elements.{All-cons, All-nil}
use Rattle.std.specs.List.{All}
use Rattle.dex_fields.specs.declared.open_orders.TheConstants.{ACCOUNT_FLAGS}
use Rattle.dex_fields.specs.Bytes.{number_in}
use Rattle.dex_types.specs.declared.addresses.Address.{Address}
use Rattle.dex_types.specs.Accounts.{PlainMarketAccounts}
use Rattle.dex_types.specs.Market.{Listing}
use Rattle.dex_types.specs.Soundness.{AreDistinct, IsSound}
use Rattle.dex_types.specs.Trader.{Blank}
use Rattle.dex_orders.specs.OrdersAccount.{IsBlank}
use Rattle.dex_orders.specs.StandsFor.{IsOnMarket, traders_of, trader_of}
use Rattle.dex_orders.proofs.BlankLaw.{IsBlank-zeros, number_in-zeros}
use Rattle.dex_sound.specs.Made.{CanMake, blanks, made_market}
use Rattle.dex_sound.proofs.MadeLaws.{made_market-sound}
use Rattle.dex_make.specs.declared.market.MarketSet.{MarketSet}
use Rattle.dex_make.specs.MarketBytes.{blank_orders}
use Rattle.dex_make.specs.MarketSet.{CanTrade, IsMarketSet, listing_of}
use Rattle.dex_accounts.specs.StandsFor.{StandsFor}
use Rattle.dex_make.specs.Blanks.{blank_account, with_blanks}

pub IsBlank-blank_orders : IsBlank blank_orders
unfolding blank_orders
IsBlank-blank_orders = IsBlank-zeros 3228 refl

flags_of_blank : number_in blank_orders ACCOUNT_FLAGS ≡ 0
flags_of_blank = number_in-zeros blank_orders IsBlank-blank_orders.zeros ACCOUNT_FLAGS (omega (arith, IsBlank-blank_orders.size))

-- a blank account is no trader's yet
trader_of_blank : trader_of blank_orders ≡ Blank
trader_of_blank = rw flags_of_blank refl

on_market : (market address : Address) → IsOnMarket market (blank_account address)
on_market market address = record {
  accepted = inl IsBlank-blank_orders;
  stands = refl;
  on_market = λ opened. absurd (omega (arith, opened.flags, flags_of_blank));
}

all_on_market : (market : Address) (addresses : List Address) → All (IsOnMarket market) (map blank_account addresses)
all_on_market market [] = All-nil (IsOnMarket market)
all_on_market market (address ∷ addresses) =
    All-cons (IsOnMarket market) (blank_account address) (map blank_account addresses) (on_market market address) (all_on_market market addresses)

traders_of-blanks : (addresses : List Address) → traders_of (map blank_account addresses) ≡ blanks addresses
traders_of-blanks [] = refl
traders_of-blanks (address ∷ addresses) = rw (trader_of_blank, traders_of-blanks addresses) refl

pub StandsFor-with_blanks : (accounts : PlainMarketAccounts) (listing : Listing) (addresses : List Address)
    → StandsFor accounts (made_market listing []) → StandsFor (with_blanks addresses accounts) (made_market listing addresses)
StandsFor-with_blanks accounts listing addresses h = record {
  address = h.address;
  authority = h.authority;
  terms = record { accepted = h.terms.accepted; words = h.terms.words };
  coin_vault = record { accepted = h.coin_vault.accepted; words = h.coin_vault.words };
  pc_vault = record { accepted = h.pc_vault.accepted; words = h.pc_vault.words };
  requests = record { accepted = h.requests.accepted; next = h.requests.next };
  events = record { accepted = h.events.accepted; ring = h.events.ring };
  bids = record { accepted = h.bids.accepted; orders = h.bids.orders; room = h.bids.room };
  asks = record { accepted = h.asks.accepted; orders = h.asks.orders; room = h.asks.room };
  traders = record { each = all_on_market listing.address addresses; stand = traders_of-blanks addresses };
}

pub CanMake-made : (made : MarketSet) (addresses : List Address) → IsMarketSet made → CanTrade made → AreDistinct (blanks addresses) → CanMake (listing_of made) addresses
CanMake-made made addresses is trade distinct = record {
  mints = trade.mints;
  coin_lot = trade.coin_lot;
  pc_lot = trade.pc_lot;
  bids = omega (arith, is.some_bids);
  asks = omega (arith, is.some_asks);
  distinct = distinct;
}

pub IsSound-made : (made : MarketSet) (addresses : List Address) → IsMarketSet made → CanTrade made → AreDistinct (blanks addresses) → IsSound (made_market (listing_of made) addresses)
IsSound-made made addresses is trade distinct = made_market-sound (listing_of made) addresses (CanMake-made made addresses is trade distinct)
