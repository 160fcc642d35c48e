-- The accounts read so far are accepted: each row that is added keeps that, so what a dump is read as is accepted.
use Rattle.std.proofs.Common.{◌≡◌, ◌<◌, ◌≤◌, ◌+◌, ◌∷◌, ◌++◌, ◌∙◌, [], ℕ, zero, suc, get_or, List, All, IfOk, IfSome, true, false, not, Option, Some, None, Result, Ok, Err, arith, refl, sym, ap, subst, inl, inr, length, nat_lt}
use Rattle.std.proofs.lemmas.Bool.{and_parts, cases_Bool, false≢true, ltb-true, not-true}
use Rattle.std.proofs.lemmas.List.{length-append}
use Rattle.std.proofs.lemmas.List.Folds.{list_any-append}
use Rattle.std.proofs.lemmas.List.Elements.{All-cons, All-head, All-nil, All-push, All-same, All-tail, All-weaker}
use Rattle.std.proofs.lemmas.Option.{cond_some, none-some}
use Rattle.dex_fields.proofs.Reading.{length-bytes_in}
use Rattle.dex_fields.specs.declared.market.TheConstants.{COIN_MINT, PC_MINT}
use Rattle.dex_types.specs.declared.addresses.Address.{Address}
use Rattle.dex_types.specs.declared.terms.Side.TheVariants.{Bid, Ask}
use Rattle.dex_types.specs.Accounts.{PlainAccount, PlainAccounts, PlainMarketAccounts, accounts_of}
use Rattle.dex_types.specs.Addresses.{is_same}
use Rattle.dex_laws.proofs.TraderLaws.{is_same-sym, is_same-true}
use Rattle.dex_market.specs.MarketAccount.{AreTerms, MarketTerms, market_terms, market_words}
use Rattle.dex_market.proofs.Verdicts.{requests_from_none}
use Rattle.dex_orders.specs.OrdersAccount.{IsOrders}
use Rattle.dex_ring.proofs.Verdicts.{queue_from_none}
use Rattle.dex_token.specs.MintAccount.{IsMint}
use Rattle.dex_token.specs.TokenAccount.{IsWallet, wallet_words}
use Rattle.dex_token.proofs.TokenRules.{mint_from_none}
use Rattle.dex_accounts.specs.Accepted.{IsAccepted, NamesMarket}
use Rattle.dex_rows.specs.Records.{rows_of}
use Rattle.dex_dump.specs.declared.faults.DumpError.{DumpError}
use Rattle.dex_dump.specs.declared.reader.DumpRead.{DumpRead}
use Rattle.dex_types.specs.declared.limits.Limits.{Limits}
use Rattle.dex_types.specs.Limits.{AreLimits}
use Rattle.dex_state.specs.Addresses.{addresses_of, is_mint, market_addresses, parts_of, times}
use Rattle.dex_state.specs.Accepted.{AreAccepted, AreApart as NamesApart, HasFew, HasMints, IsMintOf}
use Rattle.dex_state.specs.Held.{HoldBytes, IsHeld, IsHeldMarket}
use Rattle.dex_dump.specs.Answers.{Adds, Answers, AnswersDump, AnswersText, Ends, PlainAnswer, PlainDump, if_allowed, if_over, next_number, with_end}
use Rattle.dex_dump.specs.Answers.Ends.{AtEnd, AtRow, AtAccount}
use Rattle.dex_dump.specs.Checks.{AllHold, checks}
use Rattle.dex_dump_rows.specs.Lines.{Fields, PlainLine, line_of}
use Rattle.dex_dump_rows.specs.Lines.PlainLine.{Mint, Srm, Msrm, Wallet, Market, Orders, End}
use Rattle.dex_dump.specs.Reading.{PlainReading, has_room, is_allowed, is_among, is_name, no_accounts, start, taken_by, with_line, with_orders}
use Rattle.dex_dump.specs.Telling.{TellsAccounts, plain_dump}
use Rattle.dex_dump.proofs.CheckLaws.{IsMarketHere, market_held, orders_held, side_held, vault_held, wallet_held}
use Rattle.dex_dump.proofs.LineLaws.{IsRead, line-read}
use Rattle.dex_state.proofs.Times.{times-append}
use Rattle.dex_dump.proofs.TakenLaws.{AreApart, AreFree, line-adds, times-new}

-- the accounts so far are accepted within these limits, and their addresses are those that are taken
pub record IsSoFar (limits : Limits) (reading : PlainReading) : Type 0 where
  pub same : reading.limits ≡ limits
  pub accepted : AreAccepted reading.limits reading.accounts
  pub held : HoldBytes reading.accounts
  pub taken : (address : Address) → times address reading.taken ≡ times address (addresses_of reading.accounts)

-- ---- mints that are declared stay declared

mint-stays : (accounts : PlainAccounts) (mint : PlainAccount) (address : Address) → IsMintOf accounts address
    → IsMintOf (record accounts { mints = accounts.mints ++ mint ∷ [] }) address
mint-stays accounts mint address h = rw (list_any-append (λ (other : PlainAccount). is_same address other.address) accounts.mints (mint ∷ []), h) refl

name-stays : (old new : PlainAccounts) → ((address : Address) → IsMintOf old address → IsMintOf new address) → (name : Option Address)
    → IfSome name (IsMintOf old) → IfSome name (IsMintOf new)
name-stays old new stay None h = h
name-stays old new stay (Some address) h = stay address h

markets-stay : (old new : PlainAccounts) → ((address : Address) → IsMintOf old address → IsMintOf new address) → (markets : List PlainMarketAccounts)
    → All (HasMints old) markets → All (HasMints new) markets
markets-stay old new stay markets h =
    All-weaker (HasMints old) (HasMints new) (λ market has. record {
      coin = stay (market_words market.market).terms.coin_mint has.coin;
      pc = stay (market_words market.market).terms.pc_mint has.pc;
    }) markets h

-- ---- a list with room has room for one more

room-left : {A : Type 0} (xs : List A) (x : A) (limit : ℕ) → nat_lt (length xs) limit ≡ true → length (xs ++ x ∷ []) ≤ limit
room-left xs x limit h = omega (arith, ltb-true (length xs) limit h, length-append xs (x ∷ []))

-- ---- one more open-orders account

-- what holds of the market with it and of the others holds of all
pub orders-each : (P : PlainMarketAccounts → Type 0) (name : Address) (account : PlainAccount)
    → ((market : PlainMarketAccounts) → is_same name market.address ≡ true → P market → P (record market { orders = market.orders ++ account ∷ [] }))
    → (markets : List PlainMarketAccounts) → All P markets → All P (with_orders name account markets)
orders-each P name account grown [] h = h
orders-each P name account grown (market ∷ markets) h = elim (cases_Bool (is_same name market.address)) [
  | inl here ↦
      All-same P (with_orders name account (market ∷ markets)) (record market { orders = market.orders ++ account ∷ [] } ∷ markets) (rw here refl)
      (All-cons P (record market { orders = market.orders ++ account ∷ [] }) markets (grown market here (All-head P market markets h)) (All-tail P market markets h))
  | inr other ↦
      All-same P (with_orders name account (market ∷ markets)) (market ∷ with_orders name account markets) (rw other refl)
      (All-cons P market (with_orders name account markets) (All-head P market markets h) (orders-each P name account grown markets (All-tail P market markets h)))
]

pub orders-length : (name : Address) (account : PlainAccount) (markets : List PlainMarketAccounts)
    → length (with_orders name account markets) ≡ length markets
orders-length name account [] = refl
orders-length name account (market ∷ markets) = elim (cases_Bool (is_same name market.address)) [
  | inl here ↦ rw here refl
  | inr other ↦ rw other (ap suc (orders-length name account markets))
]

orders-few : (limits : Limits) (name : Address) (account : PlainAccount) (markets : List PlainMarketAccounts) → has_room limits.orders name markets ≡ true → All (HasFew limits) markets
    → All (HasFew limits) (with_orders name account markets)
orders-few limits name account [] room h = h
orders-few limits name account (market ∷ markets) room h = elim (cases_Bool (is_same name market.address)) [
  | inl here ↦
      let left : nat_lt (length market.orders) limits.orders ≡ true = rw here at room in
      let grown : PlainMarketAccounts = record market { orders = market.orders ++ account ∷ [] } in
      All-same (HasFew limits) (with_orders name account (market ∷ markets)) (grown ∷ markets) (rw here refl)
      (All-cons (HasFew limits) grown markets (room-left market.orders account limits.orders left) (All-tail (HasFew limits) market markets h))
  | inr other ↦
      let left : has_room limits.orders name markets ≡ true = rw other at room in
      All-same (HasFew limits) (with_orders name account (market ∷ markets)) (market ∷ with_orders name account markets) (rw other refl)
      (All-cons (HasFew limits) market (with_orders name account markets) (All-head (HasFew limits) market markets h) (orders-few limits name account markets left (All-tail (HasFew limits) market markets h)))
]

orders-accepted : (name : Address) (account : PlainAccount) → IsOrders account.bytes → NamesMarket name account → (market : PlainMarketAccounts)
    → is_same name market.address ≡ true → IsAccepted market → IsAccepted (record market { orders = market.orders ++ account ∷ [] })
orders-accepted name account is names market here accepted = record {
  market = accepted.market;
  requests = accepted.requests;
  events = accepted.events;
  bids = accepted.bids;
  asks = accepted.asks;
  coin_vault = accepted.coin_vault;
  pc_vault = accepted.pc_vault;
  orders = All-push (λ (other : PlainAccount). IsOrders other.bytes) market.orders account accepted.orders is;
  own_address = accepted.own_address;
  coin_mint = accepted.coin_mint;
  pc_mint = accepted.pc_mint;
  named = All-push (NamesMarket market.address) market.orders account accepted.named (subst (λ (a : Address). NamesMarket a account) (is_same-true name market.address here) names);
}

-- ---- a market

market-accepted : (reading : PlainReading) (market : PlainMarketAccounts) → IsRead (Market market) → AllHold (checks reading (Market market))
    → IsMarketHere reading market.address market.market × IsAccepted market
unfolding checks
market-accepted reading market read hold =
    let here = market_held reading market.address market.market read.0.address.size hold.0 in
    let terms = market_terms market.market in
    let coin = vault_held terms.coin_mint market.coin_vault (length-bytes_in market.market COIN_MINT (omega (arith, here.market.size))) hold.1.0 in
    let pc = vault_held terms.pc_mint market.pc_vault (length-bytes_in market.market PC_MINT (omega (arith, here.market.size))) hold.1.1.0 in (
      here,
      record {
        market = here.market;
        requests = requests_from_none market.requests hold.1.1.1.0;
        events = queue_from_none market.events hold.1.1.1.1.0;
        bids = side_held Bid market.bids hold.1.1.1.1.1.0 hold.1.1.1.1.1.1.0;
        asks = side_held Ask market.asks hold.1.1.1.1.1.1.1.0 hold.1.1.1.1.1.1.1.1.0;
        coin_vault = coin.0;
        pc_vault = pc.0;
        orders = All-same (λ (other : PlainAccount). IsOrders other.bytes) market.orders [] read.1 (All-nil (λ (other : PlainAccount). IsOrders other.bytes));
        own_address = here.own_address;
        coin_mint = coin.1;
        pc_mint = pc.1;
        named = All-same (NamesMarket market.address) market.orders [] read.1 (All-nil (NamesMarket market.address));
      },
    )

-- addresses of which none stands at two places
among-none : (x : Address) (xs : List Address) → ((k : ℕ) (d : Address) → k < length xs → is_same (get_or xs k d) x ≡ false) → is_among x xs ≡ false
among-none x [] h = refl
among-none x (y ∷ xs) h =
    let first : is_same x y ≡ false = is_same-sym x y ∙ h 0 y (omega arith) in
    rw (first, among-none x xs (λ k d below. h (suc k) d (omega arith))) refl

apart-places : (xs : List Address) → ((i j : ℕ) (d : Address) → i < j → j < length xs → is_same (get_or xs j d) (get_or xs i d) ≡ false) → AreApart xs
apart-places [] h = tt
apart-places (x ∷ xs) h = (
  among-none x xs (λ k d below. h 0 (suc k) d (omega arith) (omega arith)),
  apart-places xs (λ i j d before within. h (suc i) (suc j) d (omega arith) (omega arith)),
)

-- the addresses of a market's own account, in whose list two mints stand after the first
terms-places : (t : MarketTerms) → AreTerms t → (i j : ℕ) (d : Address) → i < j → j < 7
    → is_same (get_or (t.own_address ∷ parts_of t) j d) (get_or (t.own_address ∷ parts_of t) i d) ≡ false
terms-places t are i zero d before within = absurd (omega arith)
terms-places t are zero (suc j) d before within = are.addresses 0 (suc (suc (suc j))) d (omega arith) (omega arith) (omega arith)
terms-places t are (suc i) (suc j) d before within =
    are.addresses (suc (suc (suc i))) (suc (suc (suc j))) d (omega arith) (omega arith) (omega arith)

market-apart : (market : PlainMarketAccounts) → AreTerms (market_terms market.market) → (market_terms market.market).own_address ≡ market.address
    → AreApart (market_addresses market)
market-apart market are own =
    let t = market_terms market.market in
    subst (λ (a : Address). AreApart (a ∷ parts_of t)) own (apart-places (t.own_address ∷ parts_of t) (terms-places t are))

-- ---- what a line takes is new

new-apart : (reading : PlainReading) (line : PlainLine) → IsRead line → AllHold (checks reading line) → AreApart (taken_by line)
new-apart reading (Mint mint) read hold = (refl, tt)
new-apart reading (Srm mint) read hold = tt
new-apart reading (Msrm mint) read hold = tt
new-apart reading (Wallet wallet) read hold = (refl, tt)
new-apart reading (Market market) read hold =
    let here = (market-accepted reading market read hold).0 in
    market-apart market here.market.terms here.own_address
new-apart reading (Orders market account) read hold = (refl, tt)
new-apart reading End read hold = tt

new-free : (reading : PlainReading) (line : PlainLine) → IsRead line → is_allowed reading line ≡ true → AllHold (checks reading line)
    → AreFree reading.taken (taken_by line)
new-free reading (Mint mint) read allowed hold = (not-true _ (and_parts _ _ allowed).0, tt)
new-free reading (Srm mint) read allowed hold = tt
new-free reading (Msrm mint) read allowed hold = tt
new-free reading (Wallet wallet) read allowed hold = (not-true _ (and_parts _ _ allowed).0, tt)
new-free reading (Market market) read allowed hold =
    let here = (market-accepted reading market read hold).0 in
    (not-true _ (and_parts _ _ allowed).0, (here.coin_vault, (here.pc_vault, (here.requests, (here.events, (here.bids, (here.asks, tt)))))))
new-free reading (Orders market account) read allowed hold = (not-true _ (and_parts _ _ allowed).0, tt)
new-free reading End read allowed hold = tt

-- ---- one line more

pub record IsTaken (reading : PlainReading) (line : PlainLine) : Type 0 where
  pub taken : (address : Address) → times address (reading.taken ++ taken_by line) ≡ times address (addresses_of (with_line reading.accounts line))
  pub once : (address : Address) → times address (addresses_of (with_line reading.accounts line)) ≤ 1

line-taken : (limits : Limits) (reading : PlainReading) (line : PlainLine) → IsSoFar limits reading → IsRead line → is_allowed reading line ≡ true → AllHold (checks reading line)
    → IsTaken reading line
line-taken limits reading line so read allowed hold =
    let same : (address : Address) → times address (reading.taken ++ taken_by line) ≡ times address (addresses_of (with_line reading.accounts line)) =
    λ address. times-append address reading.taken (taken_by line) ∙ ap (λ (n : ℕ). n + times address (taken_by line)) (so.taken address)
    ∙ sym (line-adds reading line read allowed address) in
    record {
      taken = same;
      once = λ address.
          let before : times address reading.taken ≤ 1 = omega (arith, so.taken address, so.accepted.once address) in
          let new = times-new address reading.taken (taken_by line) (new-free reading line read allowed hold) (new-apart reading line read hold) before in
          omega (arith, same address);
    }

-- a mint may be named
named-mint : (accounts : PlainAccounts) (mint : Address) (named other : Option Address) → is_name accounts mint named other ≡ true
    → IsMintOf accounts mint × NamesApart (Some mint) other
named-mint accounts mint (Some one) other h = absurd (false≢true h)
named-mint accounts mint None None h = (h, tt)
named-mint accounts mint None (Some other) h =
    let parts = and_parts (is_mint accounts mint) (not (is_same mint other)) h in (parts.0, not-true _ parts.1)

names-swapped : (mint : Address) (other : Option Address) → NamesApart (Some mint) other → NamesApart other (Some mint)
names-swapped mint None h = tt
names-swapped mint (Some other) h = is_same-sym other mint ∙ h

-- ---- accounts that are accepted, with one thing more

-- no address is that of two accounts
abbrev IsOnce : PlainAccounts → Type 0
IsOnce accounts = (address : Address) → times address (addresses_of accounts) ≤ 1

module _ (limits : Limits) (accounts : PlainAccounts) (old : AreAccepted limits accounts) where
  -- other mints, among which those of before are declared
  pub with-mints : (mints : List PlainAccount) → All (λ (mint : PlainAccount). IsMint mint.bytes) mints
      → ((address : Address) → IsMintOf accounts address → IsMintOf (record accounts { mints = mints }) address)
      → IsOnce (record accounts { mints = mints }) → length mints ≤ limits.mints → AreAccepted limits (record accounts { mints = mints })
  with-mints mints are stay once few =
      let next = record accounts { mints = mints } in
      let Old : PlainAccount → Type 0 = λ wallet. IsMintOf accounts (wallet_words wallet.bytes).mint in
      let New : PlainAccount → Type 0 = λ wallet. IsMintOf next (wallet_words wallet.bytes).mint in
      record {
        mints = are;
        wallets = old.wallets;
        markets = old.markets;
        wallet_mints = All-weaker Old New (λ wallet h. stay (wallet_words wallet.bytes).mint h) accounts.wallets old.wallet_mints;
        market_mints = markets-stay accounts next stay accounts.markets old.market_mints;
        once = once;
        srm = name-stays accounts next stay accounts.srm old.srm;
        msrm = name-stays accounts next stay accounts.msrm old.msrm;
        apart = old.apart;
        within = old.within;
        few_mints = few;
        few_wallets = old.few_wallets;
        few_markets = old.few_markets;
        few_orders = old.few_orders;
      }

  -- other names of mints
  pub with-names : (srm msrm : Option Address) → IfSome srm (IsMintOf accounts) → IfSome msrm (IsMintOf accounts) → NamesApart srm msrm
      → AreAccepted limits (record accounts { srm = srm; msrm = msrm })
  with-names srm msrm is_srm is_msrm apart = record {
    mints = old.mints;
    wallets = old.wallets;
    markets = old.markets;
    wallet_mints = old.wallet_mints;
    market_mints = markets-stay accounts (record accounts { srm = srm; msrm = msrm }) (λ address is. is) accounts.markets old.market_mints;
    once = old.once;
    srm = is_srm;
    msrm = is_msrm;
    apart = apart;
    within = old.within;
    few_mints = old.few_mints;
    few_wallets = old.few_wallets;
    few_markets = old.few_markets;
    few_orders = old.few_orders;
  }

  pub with-wallet : (wallet : PlainAccount) → IsWallet wallet.bytes → IsMintOf accounts (wallet_words wallet.bytes).mint
      → IsOnce (with_line accounts (Wallet wallet)) → length (accounts.wallets ++ wallet ∷ []) ≤ limits.wallets
      → AreAccepted limits (with_line accounts (Wallet wallet))
  with-wallet wallet is of_mint once few = record {
    mints = old.mints;
    wallets = All-push (λ (other : PlainAccount). IsWallet other.bytes) accounts.wallets wallet old.wallets is;
    markets = old.markets;
    wallet_mints = All-push (λ (other : PlainAccount). IsMintOf accounts (wallet_words other.bytes).mint) accounts.wallets wallet old.wallet_mints of_mint;
    market_mints = markets-stay accounts (with_line accounts (Wallet wallet)) (λ address is. is) accounts.markets old.market_mints;
    once = once;
    srm = old.srm;
    msrm = old.msrm;
    apart = old.apart;
    within = old.within;
    few_mints = old.few_mints;
    few_wallets = few;
    few_markets = old.few_markets;
    few_orders = old.few_orders;
  }

  pub with-market : (market : PlainMarketAccounts) → IsAccepted market → HasMints accounts market → HasFew limits market
      → IsOnce (with_line accounts (Market market)) → length (accounts.markets ++ market ∷ []) ≤ limits.markets
      → AreAccepted limits (with_line accounts (Market market))
  with-market market is has few once few_markets =
      let next = with_line accounts (Market market) in
      record {
        mints = old.mints;
        wallets = old.wallets;
        markets = All-push IsAccepted accounts.markets market old.markets is;
        wallet_mints = old.wallet_mints;
        market_mints = All-push (HasMints next) accounts.markets market
            (markets-stay accounts next (λ address is. is) accounts.markets old.market_mints) (record { coin = has.coin; pc = has.pc });
        once = once;
        srm = old.srm;
        msrm = old.msrm;
        apart = old.apart;
        within = old.within;
        few_mints = old.few_mints;
        few_wallets = old.few_wallets;
        few_markets = few_markets;
        few_orders = All-push (HasFew limits) accounts.markets market old.few_orders few;
      }

  pub with-account : (name : Address) (account : PlainAccount) → IsOrders account.bytes → NamesMarket name account
      → has_room limits.orders name accounts.markets ≡ true → IsOnce (with_line accounts (Orders name account))
      → AreAccepted limits (with_line accounts (Orders name account))
  with-account name account is names room once =
      let next = with_line accounts (Orders name account) in
      record {
        mints = old.mints;
        wallets = old.wallets;
        markets = orders-each IsAccepted name account (orders-accepted name account is names) accounts.markets old.markets;
        wallet_mints = old.wallet_mints;
        market_mints = orders-each (HasMints next) name account (λ market here has. record { coin = has.coin; pc = has.pc }) accounts.markets
            (markets-stay accounts next (λ address is. is) accounts.markets old.market_mints);
        once = once;
        srm = old.srm;
        msrm = old.msrm;
        apart = old.apart;
        within = old.within;
        few_mints = old.few_mints;
        few_wallets = old.few_wallets;
        few_markets = omega (arith, orders-length name account accounts.markets, old.few_markets);
        few_orders = orders-few limits name account accounts.markets room old.few_orders;
      }

line-accepted : (limits : Limits) (reading : PlainReading) (line : PlainLine) → IsSoFar limits reading → IsRead line → is_allowed reading line ≡ true
    → AllHold (checks reading line) → ((address : Address) → times address (addresses_of (with_line reading.accounts line)) ≤ 1)
    → AreAccepted reading.limits (with_line reading.accounts line)
unfolding checks
line-accepted limits reading (Mint mint) so read allowed hold once =
    let mints = reading.accounts.mints in
    with-mints reading.limits reading.accounts so.accepted (mints ++ mint ∷ [])
    (All-push (λ (other : PlainAccount). IsMint other.bytes) mints mint so.accepted.mints (mint_from_none mint.bytes hold.0))
    (mint-stays reading.accounts mint) once (room-left mints mint reading.limits.mints (and_parts _ _ allowed).1)
line-accepted limits reading (Srm mint) so read allowed hold once =
    let accounts = reading.accounts in
    let named = named-mint accounts mint accounts.srm accounts.msrm allowed in
    with-names reading.limits accounts so.accepted (Some mint) accounts.msrm named.0 so.accepted.msrm named.1
line-accepted limits reading (Msrm mint) so read allowed hold once =
    let accounts = reading.accounts in
    let named = named-mint accounts mint accounts.msrm accounts.srm allowed in
    with-names reading.limits accounts so.accepted accounts.srm (Some mint) so.accepted.srm named.0 (names-swapped mint accounts.srm named.1)
line-accepted limits reading (Wallet wallet) so read allowed hold once =
    let held = wallet_held reading.accounts wallet.bytes hold.0 in
    with-wallet reading.limits reading.accounts so.accepted wallet held.0 held.1 once
    (room-left reading.accounts.wallets wallet reading.limits.wallets (and_parts _ _ allowed).1)
line-accepted limits reading (Market market) so read allowed hold once =
    let both = market-accepted reading market read hold in
    let none : HasFew reading.limits market = subst (λ (orders : List PlainAccount). length orders ≤ reading.limits.orders) (sym read.1) (omega arith) in
    with-market reading.limits reading.accounts so.accepted market both.1 (record { coin = both.0.coin_mint; pc = both.0.pc_mint }) none once
    (room-left reading.accounts.markets market reading.limits.markets (and_parts _ _ allowed).1)
line-accepted limits reading (Orders name account) so read allowed hold once =
    let held = orders_held name account.bytes read.0.size hold.0 in
    let room = (and_parts (not (is_among account.address reading.taken)) (has_room reading.limits.orders name reading.accounts.markets) allowed).1 in
    with-account reading.limits reading.accounts so.accepted name account held.0 held.1 room once
line-accepted limits reading End so read allowed hold once = so.accepted

-- what a line holds is held with the accounts so far
line-held : (accounts : PlainAccounts) (line : PlainLine) → HoldBytes accounts → IsRead line → HoldBytes (with_line accounts line)
line-held accounts (Mint mint) held read = record {
  mints = All-push IsHeld accounts.mints mint held.mints read;
  srm = held.srm;
  msrm = held.msrm;
  wallets = held.wallets;
  markets = held.markets;
}
line-held accounts (Srm mint) held read =
    record { mints = held.mints; srm = read; msrm = held.msrm; wallets = held.wallets; markets = held.markets }
line-held accounts (Msrm mint) held read =
    record { mints = held.mints; srm = held.srm; msrm = read; wallets = held.wallets; markets = held.markets }
line-held accounts (Wallet wallet) held read = record {
  mints = held.mints;
  srm = held.srm;
  msrm = held.msrm;
  wallets = All-push IsHeld accounts.wallets wallet held.wallets read;
  markets = held.markets;
}
line-held accounts (Market market) held read = record {
  mints = held.mints;
  srm = held.srm;
  msrm = held.msrm;
  wallets = held.wallets;
  markets = All-push IsHeldMarket accounts.markets market held.markets read.0;
}
line-held accounts (Orders name account) held read = record {
  mints = held.mints;
  srm = held.srm;
  msrm = held.msrm;
  wallets = held.wallets;
  markets = orders-each IsHeldMarket name account (λ market here h. record {
    address = h.address;
    authority = h.authority;
    market = h.market;
    coin_vault = h.coin_vault;
    pc_vault = h.pc_vault;
    requests = h.requests;
    events = h.events;
    bids = h.bids;
    asks = h.asks;
    orders = All-push IsHeld market.orders account h.orders read.1;
  }) accounts.markets held.markets;
}
line-held accounts End held read = held

-- ---- rows

allowed-parts : (reading : PlainReading) (found : Option PlainLine) (line : PlainLine) → if_allowed reading found ≡ Some line
    → (found ≡ Some line) × (is_allowed reading line ≡ true)
allowed-parts reading None line h = absurd (none-some line h)
allowed-parts reading (Some other) line h =
    let parts = cond_some (is_allowed reading other) other line h in
    (ap Some parts.1, subst (λ (l : PlainLine). is_allowed reading l ≡ true) parts.1 parts.0)

row-so-far : (limits : Limits) (reading next : PlainReading) (row : Fields) → IsSoFar limits reading → Adds reading row next → IsSoFar limits next
row-so-far limits reading next row so adds =
    let of = allowed-parts reading (line_of row) adds.line adds.states in
    let read = line-read row adds.line of.0 in
    let new = line-taken limits reading adds.line so read of.1 adds.hold in
    subst (IsSoFar limits) (sym adds.adds) (record {
      same = so.same;
      accepted = line-accepted limits reading adds.line so read of.1 adds.hold new.once;
      held = line-held reading.accounts adds.line so.held read;
      taken = new.taken;
    })

-- accepted accounts that hold bytes
pub record AreRead (limits : Limits) (accounts : PlainAccounts) : Type 0 where
  pub accepted : AreAccepted limits accounts
  pub held : HoldBytes accounts

ends-read : (limits : Limits) (number : ℕ) (reading : PlainReading) (row : Fields) (rows : List Fields) (dump : PlainDump) → IsSoFar limits reading
    → Ends number reading row rows (Ok dump) → AreRead limits dump.accounts
ends-read limits number reading row rows dump so (AtEnd states is) =
    let same : dump ≡ record { accounts = reading.accounts; count = number; behind = rows } = cc in
    let here : AreRead reading.limits reading.accounts = record { accepted = so.accepted; held = so.held } in
    subst (λ (d : PlainDump). AreRead limits d.accounts) (sym same) (subst (λ (l : Limits). AreRead l reading.accounts) so.same here)
ends-read limits number reading row rows dump so (AtRow states is) = absurd cc
ends-read limits number reading row rows dump so (AtAccount line states account fault fails is) = absurd cc

-- what rows give after accounts that are accepted
rows-read : (limits : Limits) (number : ℕ) (reading : PlainReading) (rows : List Fields) (dump : PlainDump) → IsSoFar limits reading → Answers number reading rows (Ok dump)
    → AreRead limits dump.accounts
rows-read limits number reading [] dump so h = absurd cc
rows-read limits number reading (row ∷ rows) dump so (inl ends) = ends-read limits number reading row rows dump so ends
rows-read limits number reading (row ∷ rows) dump so (inr more) =
    rows-read limits (next_number number) more.0 rows dump (row-so-far limits reading more.0 row so more.1) more.2

pub start-so-far : (limits : Limits) → AreLimits limits → IsSoFar limits (start limits)
start-so-far limits are = record {
  same = refl;
  accepted = record {
    mints = All-nil (λ (other : PlainAccount). IsMint other.bytes);
    wallets = All-nil (λ (other : PlainAccount). IsWallet other.bytes);
    markets = All-nil IsAccepted;
    wallet_mints = All-nil (λ (other : PlainAccount). IsMintOf no_accounts (wallet_words other.bytes).mint);
    market_mints = All-nil (HasMints no_accounts);
    once = λ address. omega arith;
    srm = tt;
    msrm = tt;
    apart = tt;
    within = are;
    few_mints = omega arith;
    few_wallets = omega arith;
    few_markets = omega arith;
    few_orders = All-nil (HasFew limits);
  };
  held = record { mints = All-nil IsHeld; srm = tt; msrm = tt; wallets = All-nil IsHeld; markets = All-nil IsHeldMarket };
  taken = λ address. refl;
}

-- what a dump is read as, whatever stands after it
pub dump-read : (limits : Limits) → AreLimits limits → (rows : List Fields) (dump : PlainDump) → AnswersDump limits rows (Ok dump)
    → AreRead limits dump.accounts
dump-read limits are [] dump h = absurd cc
dump-read limits are (row ∷ rows) dump (inl first) = rows-read limits 2 (start limits) rows dump (start-so-far limits are) first.1
dump-read limits are (row ∷ rows) dump (inr other) = absurd (let no = other.1 in cc)

ended : (accounts : PlainAccounts) (dump : PlainDump) (behind : List Fields) → Ok accounts ≡ if_over dump behind → accounts ≡ dump.accounts
ended accounts dump [] h = cc
ended accounts dump (row ∷ rows) h = absurd cc

answer-read : (limits : Limits) → AreLimits limits → (rows : List Fields) (answer : PlainAnswer) (accounts : PlainAccounts) → AnswersDump limits rows answer → Ok accounts ≡ with_end answer
    → AreRead limits accounts
answer-read limits are rows (Err fault) accounts h is = absurd cc
answer-read limits are rows (Ok dump) accounts h is =
    subst (AreRead limits) (sym (ended accounts dump dump.behind is)) (dump-read limits are rows dump h)

-- what a text is read as
pub text-read : (limits : Limits) → AreLimits limits → (text : List ℕ) (accounts : PlainAccounts) → AnswersText limits text (Ok accounts)
    → AreRead limits accounts
text-read limits are text accounts h = answer-read limits are (rows_of text) h.0 accounts h.1 h.2

-- what the rows after the first are read as
pub told-accepted : (limits : Limits) → AreLimits limits → (result : Result DumpRead DumpError) (rows left : List Fields)
    → TellsAccounts limits result rows left
    → IfOk result (λ (read : DumpRead). AreAccepted limits (accounts_of read.accounts))
told-accepted limits are (Ok read) rows left told = (rows-read limits 2 (start limits) rows (plain_dump read left) (start-so-far limits are) told).accepted
told-accepted limits are (Err error) rows left told = tt

pub told-held : (limits : Limits) → AreLimits limits → (result : Result DumpRead DumpError) (rows left : List Fields)
    → TellsAccounts limits result rows left
    → IfOk result (λ (read : DumpRead). HoldBytes (accounts_of read.accounts))
told-held limits are (Ok read) rows left told = (rows-read limits 2 (start limits) rows (plain_dump read left) (start-so-far limits are) told).held
told-held limits are (Err error) rows left told = tt
