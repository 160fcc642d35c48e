-- Names stay those of accounts that have the same addresses.
use Rattle.std.proofs.Common.{◌≡◌, ◌∙◌, Bool, List, [], ◌∷◌, ap, map, refl, sym}
use Rattle.std.specs.List.{AllZip, position, position_from}
use Rattle.std.proofs.lemmas.Iterator.Adapters.{position_from-zero}
use Rattle.dex_types.specs.declared.addresses.Address.{Address}
use Rattle.dex_types.specs.Accounts.{PlainMarketAccounts}
use Rattle.dex_types.specs.Addresses.{is_same}
use Rattle.dex_cell.specs.CellState.{AreOfOneMarket}
use Rattle.dex_state.specs.Addresses.{address_of}
use Rattle.dex_state.specs.Outcomes.{PlainOutcome}
use Rattle.dex_replay.specs.Replays.{IsOfStart}
use Rattle.dex_script_types.specs.PlainScript.{PlainScript}
use Rattle.dex_script.proofs.NameLaws.{position-map}
use Rattle.dex_script.specs.declared.names.Names.{Names}
use Rattle.dex_script.specs.Names.{AreNames}

-- where the first of an address stands is told by the addresses
by-address : {A : Type 0} (of : A → Address) (test : Address → Bool) (xs ys : List A) → map of xs ≡ map of ys
    → position (λ x. test (of x)) xs ≡ position (λ y. test (of y)) ys
by-address of test xs ys same =
    position_from-zero (λ x. test (of x)) xs
    ∙ sym (position-map test of 0 xs)
    ∙ ap (λ (l : List Address). position_from test 0 l) same
    ∙ position-map test of 0 ys
    ∙ sym (position_from-zero (λ y. test (of y)) ys)

abbrev market_address : PlainMarketAccounts → Address
market_address accounts = accounts.address

markets-same : (first last : List PlainMarketAccounts) → AllZip AreOfOneMarket first last → map market_address first ≡ map market_address last
markets-same [] [] are = refl
markets-same [] (one ∷ last) are = absurd are
markets-same (one ∷ first) [] are = absurd are
markets-same (one ∷ first) (other ∷ last) are =
    ap (λ (a : Address). a ∷ map market_address first) (sym are.0.address) ∙ ap (λ (l : List Address). other.address ∷ l) (markets-same first last are.1)

pub names-kept : (names : Names) (script : PlainScript) (outcome : PlainOutcome) → AreNames names script.start → IsOfStart script outcome → AreNames names outcome.accounts
names-kept names script outcome are is = record {
  markets = λ address. are.markets address ∙ by-address market_address (is_same address) script.start.markets outcome.accounts.markets
      (markets-same script.start.markets outcome.accounts.markets is.markets);
  wallets = λ address. are.wallets address ∙ by-address address_of (is_same address) script.start.wallets outcome.accounts.wallets (sym is.wallets);
}
