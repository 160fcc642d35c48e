-- The places that are kept for look-ups.
use Rattle.std.proofs.Common.{◌≡◌, ◌∙◌, ◌+◌, ◌-◌, ◌<◌, ◌≤◌, ◌&&◌, ◌||◌, ℕ, Bool, true, false, not, cond, List, [], ◌∷◌, Option, Some, None, ap, arith, drop, get_or, is_some, length, map, refl, sym}
use Rattle.std.specs.HashMap as hash
use Rattle.std.specs.List.{position, position_from}
use Rattle.std.proofs.lemmas.Bool.{and_from}
use Rattle.std.proofs.lemmas.Iterator.Adapters.{position_from-zero}
use Rattle.std.proofs.lemmas.List.{at_drop_more}
use Rattle.dex_types.specs.declared.addresses.Address.{Address}
use Rattle.dex_types.specs.Accounts.{PlainAccount, PlainAccounts, PlainMarketAccounts}
use Rattle.dex_types.specs.Addresses.{is_same}
use Rattle.dex_laws.proofs.TraderLaws.{is_same-sym}
use Rattle.dex_state.specs.Addresses.{address_of}
use Rattle.dex_statement.specs.Stated.{PlainInstruction, PlainParties}
use Rattle.dex_script_types.specs.Found.{is_found}
use Rattle.dex_script_types.specs.Known.{is_known_role}
use Rattle.dex_script_types.proofs.FoundLaws.{all-found, is_found-same, position-any, wallets-same}
use Rattle.dex_script.specs.declared.names.Names.{Names}
use Rattle.dex_script.specs.declared.names.Stand.{Stand}
use Rattle.dex_script.specs.Names.{AreAt, AreNames, FindsAmong, FindsIn, StandAt, are_here, market_address, market_among, wallet_among}
use Rattle.dex_script.specs.Rows.{is_unknown}

-- ---- the first place, from the last item to the first

pub position-map : {X Y : Type 0} (test : Y → Bool) (f : X → Y) (i : ℕ) (xs : List X)
    → position_from test i (map f xs) ≡ position_from (λ x. test (f x)) i xs
position-map test f i [] = refl
position-map test f i (x ∷ xs) = ap (λ (rest : Option ℕ). cond (test (f x)) (Some i) rest) (position-map test f (i + 1) xs)

-- the item in front of those after is put at its place
pub put-first : {X : Type 0} (name : X → Address) (xs : List X) (place : ℕ) (address : Address) (x : X) (before after : Option ℕ) → 0 < place
    → place ≤ length xs → before ≡ position_from (λ one. is_same address (name one)) place (drop place xs)
    → after ≡ cond (is_same (name (get_or xs (place - 1) x)) address) (Some (place - 1)) before
    → after ≡ position_from (λ one. is_same address (name one)) (place - 1) (drop (place - 1) xs)
put-first {X} name xs place address x before after some within behind is =
    let test : X → Bool = λ one. is_same address (name one) in
    let again : place - 1 + 1 ≡ place = omega (arith, some) in
    let at = at_drop_more (position_from test (place - 1)) xs (place - 1) x (omega (arith, some, within)) in
    let one : X = get_or xs (place - 1) x in
    is ∙ ap (cond (is_same (name one) address) (Some (place - 1))) behind
    ∙ ap (λ (same : Bool). cond same (Some (place - 1)) (position_from test place (drop place xs))) (is_same-sym (name one) address)
    ∙ ap (λ (n : ℕ). cond (test one) (Some (place - 1)) (position_from test n (drop n xs))) (sym again)
    ∙ sym at

-- after none is the whole list
pub from-first : {X Y : Type 0} (test : Y → Bool) (f : X → Y) (xs : List X) (place : ℕ) → place ≡ 0
    → position_from (λ x. test (f x)) place (drop place xs) ≡ position test (map f xs)
from-first test f xs place none =
    ap (λ (n : ℕ). position_from (λ x. test (f x)) n (drop n xs)) none ∙ sym (position-map test f 0 xs) ∙ sym (position_from-zero test (map f xs))

-- ---- names of accounts

-- where the first of an address stands is told by the addresses
pub by-address : {X Y : Type 0} (of : X → Y) (test : Y → Bool) (xs : List X) → position test (map of xs) ≡ position (λ x. test (of x)) xs
by-address of test xs = position_from-zero test (map of xs) ∙ position-map test of 0 xs ∙ sym (position_from-zero (λ x. test (of x)) xs)

-- names of these addresses are those of all accounts that have them
pub are-names : (names : Names) (start : PlainAccounts) (markets wallets : List Address) → AreAt names markets wallets
    → markets ≡ map market_address start.markets → wallets ≡ map address_of start.wallets → AreNames names start
are-names names start markets wallets at markets_are wallets_are = record {
  markets = λ address. at.markets address ∙ ap (position (is_same address)) markets_are ∙ by-address market_address (is_same address) start.markets;
  wallets = λ address. at.wallets address ∙ ap (position (is_same address)) wallets_are ∙ by-address address_of (is_same address) start.wallets;
}

-- ---- who finds each market and wallet where another does finds what an instruction row names where that one does

pub here-same : (market market' wallet wallet' : Address → Option ℕ) (parties : PlainParties) → ((address : Address) → market address ≡ market' address)
    → ((address : Address) → wallet address ≡ wallet' address) → are_here market wallet parties ≡ are_here market' wallet' parties
here-same market market' wallet wallet' parties markets wallets =
    rw (
      markets parties.market,
      is_found-same wallet wallet' wallets parties.coin,
      is_found-same wallet wallet' wallets parties.pc,
      is_found-same wallet wallet' wallets parties.discount,
      is_found-same wallet wallet' wallets parties.referrer,
    ) refl

-- so names tell what the accounts tell
pub by-names : (names : Names) (start : PlainAccounts) (parties : PlainParties) (found : Option Stand)
    → AreNames names start → FindsIn names parties found → FindsAmong start parties found
by-names names start parties None are none =
    sym (here-same (hash.get is_same names.markets) (market_among start) (hash.get is_same names.wallets) (wallet_among start) parties are.markets are.wallets)
    ∙ none
by-names names start parties (Some at) are is = record {
  market = sym (are.markets parties.market) ∙ is.market;
  wallets =
      wallets-same (hash.get is_same names.wallets) (wallet_among start) are.wallets parties.coin parties.pc parties.discount parties.referrer
      at.wallets is.wallets;
}

-- ---- what is not found is unknown

all-or-one : (m c p d r : Bool) → not m || not c || not p || not d || not r ≡ not (m && (c && p && d && r))
all-or-one false c p d r = refl
all-or-one true false p d r = refl
all-or-one true true false d r = refl
all-or-one true true true false r = refl
all-or-one true true true true r = refl

module _ (start : PlainAccounts) (parties : PlainParties) where
  role-known : (role : Option Address) → is_found (wallet_among start) role ≡ is_known_role start.wallets role
  role-known None = refl
  role-known (Some address) = position-any (λ (wallet : PlainAccount). is_same address wallet.address) start.wallets

  -- the test of unknown names, by what is found
  pub unknown-by : is_unknown start parties ≡ not (are_here (market_among start) (wallet_among start) parties)
  unknown-by =
      rw (
        position-any (λ (market : PlainMarketAccounts). is_same parties.market market.address) start.markets,
        role-known parties.coin,
        role-known parties.pc,
        role-known parties.discount,
        role-known parties.referrer,
      ) (all-or-one _ _ _ _ _)

  pub unknown : FindsAmong start parties None → is_unknown start parties ≡ true
  unknown none = unknown-by ∙ ap not none

  pub known : (places : Stand) → StandAt start parties places → is_unknown start parties ≡ false
  known places is =
      let all =
      all-found (wallet_among start) parties.coin parties.pc parties.discount parties.referrer places.wallets
      is.wallets in
      unknown-by ∙ ap not (and_from (is_some (market_among start parties.market)) _ (ap is_some is.market) all)

-- what is found by words that are these, among accounts that are these
pub found-in : (start other : PlainAccounts) (words seen : PlainInstruction) (found told : Option Stand)
    → other ≡ start → seen ≡ words → found ≡ told → FindsAmong start seen.parties found → FindsAmong other words.parties told
found-in start other words seen found told same is tells finds = rw (same, sym is, sym tells) finds

-- and so what is known of these words
pub known-in : (start other : PlainAccounts) (words seen : PlainInstruction) (found : Option Stand) (at : Stand)
    → other ≡ start → seen ≡ words → found ≡ Some at → FindsAmong start seen.parties found → is_unknown other words.parties ≡ false
known-in start other words seen found at same is tells finds =
    known other words.parties at (found-in start other words seen found (Some at) same is tells finds)

pub unknown-in : (start other : PlainAccounts) (words seen : PlainInstruction) (found : Option Stand)
    → other ≡ start → seen ≡ words → found ≡ None → FindsAmong start seen.parties found → is_unknown other words.parties ≡ true
unknown-in start other words seen found same is tells finds =
    unknown other words.parties (found-in start other words seen found None same is tells finds)
