-- What is written of accepted accounts is read back as them.
use Rattle.std.proofs.Common.{◌≡◌, ◌≤◌, ◌<◌, zero, suc, get_or, ◌+◌, ◌∷◌, ◌++◌, ◌∙◌, [], ℕ, List, All, IfSome, true, false, Option, Some, None, Ok, append_assoc, append-nil, arith, codes, refl, sym, ap, subst, inl, inr, length, map, nat_lt}
use Rattle.std.specs.List.{flat_map}
use Rattle.std.proofs.lemmas.Bool.{and_from, cases_Bool, lt-ltb, not_from_false}
use Rattle.std.proofs.lemmas.List.{length-append, map-append}
use Rattle.std.proofs.lemmas.List.Elements.{All-head, All-tail}
use Rattle.dex_types.specs.declared.addresses.Address.{Address}
use Rattle.dex_types.specs.declared.terms.Side.TheVariants.{Bid, Ask}
use Rattle.dex_types.specs.Accounts.{PlainAccount, PlainAccounts, PlainMarketAccounts}
use Rattle.dex_types.specs.Addresses.{is_same}
use Rattle.dex_laws.proofs.TraderLaws.{is_same-refl, is_same-sym}
use Rattle.dex_market.specs.MarketAccount.{market_terms}
use Rattle.dex_market.proofs.Verdicts.{none_from_requests}
use Rattle.dex_orders.specs.OrdersAccount.{IsOrders}
use Rattle.dex_ring.proofs.Verdicts.{none_from_queue}
use Rattle.dex_token.specs.MintAccount.{IsMint}
use Rattle.dex_token.specs.TokenAccount.{IsWallet, wallet_words}
use Rattle.dex_token.proofs.TokenRules.{none_from_mint}
use Rattle.dex_accounts.specs.Accepted.{IsAccepted, NamesMarket}
use Rattle.dex_types.specs.declared.limits.Limits.{Limits}
use Rattle.dex_state.specs.Addresses.{address_of, all_of_market, market_addresses, parts_of, times}
use Rattle.dex_state.specs.Accepted.{AreAccepted, AreApart as NamesApart, HasFew, HasMints, IsMintOf}
use Rattle.dex_state.specs.Held.{HoldBytes, IsAddress, IsHeld, IsHeldMarket}
use Rattle.dex_dump.specs.Answers.{Answers, AnswersDump, AnswersText, AreReadAs, IsReadAs, PlainDump, next_number}
use Rattle.dex_dump.specs.Answers.Ends.{AtEnd}
use Rattle.dex_dump.specs.Checks.{AllHold, checks}
use Rattle.dex_dump.specs.DumpText.{account_rows, dump_rows, dump_text, first_row, last_row, market_row, market_rows, mint_row, named_rows, orders_row, wallet_row}
use Rattle.dex_dump_rows.specs.Lines.{Fields, PlainLine, is_first_row, line_of}
use Rattle.dex_dump_rows.specs.Lines.PlainLine.{Mint, Srm, Msrm, Wallet, Market, Orders, End}
use Rattle.dex_dump.specs.Reading.{PlainReading, after_line, has_room, is_allowed, is_among, is_name, start, with_orders}
use Rattle.dex_dump.proofs.AnswerLaws.{stated-allowed}
use Rattle.dex_dump.proofs.CheckLaws.{IsMarketHere}
use Rattle.dex_dump.proofs.OneAnswer.{dump-once, text-once}
use Rattle.dex_dump.proofs.PassLaws.{market_passes, orders_pass, side_passes, vault_passes, wallet_passes}
use Rattle.dex_dump.proofs.RowLaws.{rows_of-dump}
use Rattle.dex_dump.proofs.StatedLaws.{last_stated, market_stated, mint_stated, msrm_stated, orders_stated, srm_stated, wallet_stated}
use Rattle.dex_state.proofs.Times.{one, times-append, times-cons}

-- ---- addresses that are left

-- no address stands twice among those that are taken and those that are left
abbrev FewLeft : List Address → List Address → Type 0
FewLeft taken left = (address : Address) → times address taken + times address left ≤ 1

among-none : (x : Address) (xs : List Address) → times x xs ≡ 0 → is_among x xs ≡ false
among-none x [] h = refl
among-none x (y ∷ xs) h = elim (cases_Bool (is_same x y)) [
  | inl same ↦
      let first : one x y ≡ 1 = rw same refl in
      absurd (omega (arith, times-cons x y xs))
  | inr other ↦ rw other (among-none x xs (omega (arith, times-cons x y xs)))
]

few-none : (taken : List Address) (x : Address) (left : List Address) → FewLeft taken (x ∷ left) → times x taken ≡ 0
few-none taken x left few =
    let first : one x x ≡ 1 = rw (is_same-refl x) refl in
    omega (arith, few x, times-cons x x left)

few-first : (taken : List Address) (x : Address) (left : List Address) → FewLeft taken (x ∷ left) → is_among x taken ≡ false
few-first taken x left few = among-none x taken (few-none taken x left few)

few-rest : (taken : List Address) (x : Address) (left : List Address) → FewLeft taken (x ∷ left) → FewLeft taken left
few-rest taken x left few = λ address. omega (arith, few address, times-cons address x left)

few-at : (taken xs left : List Address) (k : ℕ) (d : Address) → FewLeft taken (xs ++ left) → k < length xs → is_among (get_or xs k d) taken ≡ false
few-at taken [] left k d few below = absurd (omega arith)
few-at taken (x ∷ xs) left zero d few below = few-first taken x (xs ++ left) few
few-at taken (x ∷ xs) left (suc k) d few below = few-at taken xs left k d (few-rest taken x (xs ++ left) few) (omega arith)

few-moved : (taken xs left : List Address) → FewLeft taken (xs ++ left) → FewLeft (taken ++ xs) left
few-moved taken xs left few = λ address. omega (arith, few address, times-append address xs left, times-append address taken xs)

-- ---- the market that was read last

abbrev names : List PlainMarketAccounts → List Address
names markets = map (λ (market : PlainMarketAccounts). market.address) markets

room-last : (most : ℕ) (done : List PlainMarketAccounts) (market : PlainMarketAccounts) → times market.address (names done) ≡ 0
    → has_room most market.address (done ++ market ∷ []) ≡ nat_lt (length market.orders) most
room-last most [] market none = rw (is_same-refl market.address) refl
room-last most (other ∷ done) market none = elim (cases_Bool (is_same market.address other.address)) [
  | inl same ↦
      let first : one market.address other.address ≡ 1 = rw same refl in
      absurd (omega (arith, times-cons market.address other.address (names done)))
  | inr apart ↦ rw apart (room-last most done market (omega (arith, times-cons market.address other.address (names done))))
]

with-last : (done : List PlainMarketAccounts) (market : PlainMarketAccounts) (account : PlainAccount) → times market.address (names done) ≡ 0
    → with_orders market.address account (done ++ market ∷ []) ≡ done ++ (record market { orders = market.orders ++ account ∷ [] }) ∷ []
with-last [] market account none = rw (is_same-refl market.address) refl
with-last (other ∷ done) market account none = elim (cases_Bool (is_same market.address other.address)) [
  | inl same ↦
      let first : one market.address other.address ≡ 1 = rw same refl in
      absurd (omega (arith, times-cons market.address other.address (names done)))
  | inr apart ↦
      let rest = with-last done market account (omega (arith, times-cons market.address other.address (names done))) in
      rw apart (ap (λ (markets : List PlainMarketAccounts). other ∷ markets) rest)
]

-- one fact, and the others
infixr 4 ◌⨾◌
abbrev ◌⨾◌ : {A B : Type 0} → A → B → A × B
one ⨾ others = (one, others)

-- a mint may have the second name
name-allowed : (accounts : PlainAccounts) (mint : Address) (other : Option Address) → IsMintOf accounts mint → NamesApart other (Some mint)
    → is_name accounts mint None other ≡ true
name-allowed accounts mint None is apart = is
name-allowed accounts mint (Some other) is apart = and_from _ _ is (not_from_false _ (is_same-sym mint other ∙ apart))

module _ (limits : Limits) (whole : PlainAccounts) (behind : List Fields) where
  -- the rows give these accounts, with these rows after them, whatever the number of the first is
  abbrev Back : PlainReading → List Fields → Type 0
  Back reading rows =
      (number : ℕ) → (count : ℕ) × Answers number reading rows (Ok (record { accounts = whole; count = count; behind = behind }))

  back-last : (taken : List Address) → Back (record { accounts = whole; taken = taken; limits = limits }) (last_row ∷ behind)
  back-last taken = λ number.
      (number, inl (AtEnd (stated-allowed (record { accounts = whole; taken = taken; limits = limits }) last_row End last_stated refl) refl))

  back-row : (reading : PlainReading) (row : Fields) (line : PlainLine) (rows : List Fields) → line_of row ≡ Some line → (line ≡ End → ⊥)
      → is_allowed reading line ≡ true → AllHold (checks reading line) → Back (after_line reading line) rows → Back reading (row ∷ rows)
  back-row reading row line rows states goes allowed hold next = λ number.
      let more = next (next_number number) in (
        more.0,
        inr (
          after_line reading line,
          record {
            line = line;
            states = stated-allowed reading row line states allowed;
            goes_on = goes;
            hold = hold;
            adds = refl;
          },
          more.1,
        ),
      )

  -- ---- accounts of one kind

  -- what was read with one account more, at its address
  abbrev Step : (List PlainAccount → List Address → PlainReading) → (PlainAccount → Fields) → (PlainAccount → Type 0) → ℕ → Type 0
  Step at row_of IsKind limit =
      (x : PlainAccount) (done : List PlainAccount) (taken : List Address) (rows : List Fields) → IsHeld x → IsKind x → is_among x.address taken ≡ false
      → nat_lt (length done) limit ≡ true → Back (at (done ++ x ∷ []) (taken ++ x.address ∷ [])) rows → Back (at done taken) (row_of x ∷ rows)

  back-each : (at : List PlainAccount → List Address → PlainReading) (row_of : PlainAccount → Fields) (IsKind : PlainAccount → Type 0) (limit : ℕ)
      → Step at row_of IsKind limit → (xs done : List PlainAccount) (taken left : List Address) (rows : List Fields) → All IsHeld xs → All IsKind xs
      → FewLeft taken (map address_of xs ++ left) → length done + length xs ≤ limit → Back (at (done ++ xs) (taken ++ map address_of xs)) rows
      → Back (at done taken) (map row_of xs ++ rows)
  back-each at row_of IsKind limit step [] done taken left rows held are few size next = rw (append-nil done, append-nil taken) at next
  back-each at row_of IsKind limit step (x ∷ xs) done taken left rows held are few size next =
      let behind = map address_of xs ++ left in
      step x done taken (map row_of xs ++ rows) (All-head IsHeld x xs held) (All-head IsKind x xs are) (few-first taken x.address behind few)
      (lt-ltb (length done) limit (omega arith))
      (back-each at row_of IsKind limit step xs (done ++ x ∷ []) (taken ++ x.address ∷ []) left rows (All-tail IsHeld x xs held) (All-tail IsKind x xs are)
      (few-moved taken (x.address ∷ []) behind few) (omega (arith, length-append done (x ∷ [])))
      (rw (append_assoc done (x ∷ []) xs, append_assoc taken (x.address ∷ []) (map address_of xs)) next))

  -- ---- mints

  abbrev with_mints : List PlainAccount → List Address → PlainReading
  with_mints mints taken = record { accounts = record { mints = mints; srm = None; msrm = None; wallets = []; markets = [] }; taken = taken; limits = limits }

  abbrev IsMintKind : PlainAccount → Type 0
  IsMintKind mint = IsMint mint.bytes

  mint-step : Step with_mints mint_row IsMintKind limits.mints
  unfolding checks
  mint-step mint done taken rows held is free room next =
      back-row (with_mints done taken) (mint_row mint) (Mint mint) rows (mint_stated mint held) (λ e. cc e) (and_from _ _ (not_from_false _ free) room)
      (none_from_mint mint.bytes is, tt) next

  -- ---- the two names

  abbrev with_names : Option Address → Option Address → List Address → PlainReading
  with_names srm msrm taken = record { accounts = record { mints = whole.mints; srm = srm; msrm = msrm; wallets = []; markets = [] }; taken = taken; limits = limits }

  back-srm : (srm : Option Address) (taken : List Address) (rows : List Fields) → IfSome srm IsAddress → IfSome srm (IsMintOf whole)
      → Back (with_names srm None taken) rows → Back (with_names None None taken) (named_rows (codes "srm") srm ++ rows)
  unfolding checks
  back-srm None taken rows held is next = next
  back-srm (Some mint) taken rows held is next =
      back-row (with_names None None taken) _ (Srm mint) rows (srm_stated mint held) (λ e. cc e) is tt (rw (append-nil taken) next)

  back-msrm : (srm msrm : Option Address) (taken : List Address) (rows : List Fields) → IfSome msrm IsAddress → IfSome msrm (IsMintOf whole)
      → NamesApart srm msrm → Back (with_names srm msrm taken) rows → Back (with_names srm None taken) (named_rows (codes "msrm") msrm ++ rows)
  unfolding checks
  back-msrm srm None taken rows held is apart next = next
  back-msrm srm (Some mint) taken rows held is apart next =
      back-row (with_names srm None taken) _ (Msrm mint) rows (msrm_stated mint held) (λ e. cc e)
      (name-allowed (with_names srm None taken).accounts mint srm is apart) tt (rw (append-nil taken) next)

  -- ---- wallets

  abbrev with_wallets : List PlainAccount → List Address → PlainReading
  with_wallets wallets taken = record { accounts = record whole { wallets = wallets; markets = [] }; taken = taken; limits = limits }

  abbrev IsWalletKind : PlainAccount → Type 0
  IsWalletKind wallet = IsWallet wallet.bytes × IsMintOf whole (wallet_words wallet.bytes).mint

  wallet-step : Step with_wallets wallet_row IsWalletKind limits.wallets
  unfolding checks
  wallet-step wallet done taken rows held is free room next =
      let here = with_wallets done taken in
      back-row here (wallet_row wallet) (Wallet wallet) rows (wallet_stated wallet held) (λ e. cc e) (and_from _ _ (not_from_false _ free) room)
      (wallet_passes here.accounts wallet.bytes is.0 is.1, tt) next

  -- ---- open-orders accounts of the market that was read last

  abbrev with_markets : List PlainMarketAccounts → List Address → PlainReading
  with_markets markets taken = record { accounts = record whole { markets = markets }; taken = taken; limits = limits }

  abbrev with_last : List PlainMarketAccounts → PlainMarketAccounts → List PlainAccount → List Address → PlainReading
  with_last done market orders taken = with_markets (done ++ (record market { orders = orders }) ∷ []) taken

  abbrev IsOrdersKind : Address → PlainAccount → Type 0
  IsOrdersKind market account = IsOrders account.bytes × NamesMarket market account

  orders-step : (done : List PlainMarketAccounts) (market : PlainMarketAccounts) → times market.address (names done) ≡ 0 → IsAddress market.address
      → Step (with_last done market) (orders_row market.address) (IsOrdersKind market.address) limits.orders
  unfolding checks
  orders-step done market none at account before taken rows held is free room next =
      let last : PlainMarketAccounts = record market { orders = before } in
      back-row (with_last done market before taken) (orders_row market.address account) (Orders market.address account) rows
      (orders_stated market.address at account held) (λ e. cc e) (and_from _ _ (not_from_false _ free) (room-last limits.orders done last none ∙ room))
      (orders_pass market.address account.bytes is.0 is.1, tt)
      (subst (λ (markets : List PlainMarketAccounts). Back (with_markets markets (taken ++ account.address ∷ [])) rows) (sym (with-last done last account none)) next)

  -- ---- markets

  market-here : (done : List PlainMarketAccounts) (taken left : List Address) (market : PlainMarketAccounts) → IsAccepted market → HasMints whole market
      → FewLeft taken (market_addresses market ++ left) → IsMarketHere (with_markets done taken) market.address market.market
  market-here done taken left market accepted mints few =
      let free = λ (k : ℕ) (below : k < 7). few-at taken (market_addresses market) left k market.address few below in
      record {
        market = accepted.market;
        own_address = accepted.own_address;
        coin_mint = mints.coin;
        pc_mint = mints.pc;
        coin_vault = free 1 (omega arith);
        pc_vault = free 2 (omega arith);
        requests = free 3 (omega arith);
        events = free 4 (omega arith);
        bids = free 5 (omega arith);
        asks = free 6 (omega arith);
      }

  market-holds : (done : List PlainMarketAccounts) (taken left : List Address) (market : PlainMarketAccounts) → IsAccepted market → HasMints whole market
      → FewLeft taken (market_addresses market ++ left) → AllHold (checks (with_markets done taken) (Market (record market { orders = [] })))
  unfolding checks
  market-holds done taken left market accepted mints few =
      let t = market_terms market.market in
      market_passes (with_markets done taken) market.address market.market (market-here done taken left market accepted mints few)
      ⨾ vault_passes t.coin_mint market.coin_vault accepted.coin_vault accepted.coin_mint
      ⨾ vault_passes t.pc_mint market.pc_vault accepted.pc_vault accepted.pc_mint
      ⨾ none_from_requests market.requests accepted.requests ⨾ none_from_queue market.events accepted.events
      ⨾ side_passes Bid market.bids accepted.bids ⨾ accepted.bids.slab ⨾ side_passes Ask market.asks accepted.asks ⨾ accepted.asks.slab ⨾ tt

  -- what is known of the markets that are left
  record Markets (markets : List PlainMarketAccounts) : Type 0 where
    held : All IsHeldMarket markets
    accepted : All IsAccepted markets
    mints : All (HasMints whole) markets
    few : All (HasFew limits) markets

  -- the addresses of the markets that were read are taken
  abbrev AreTaken : List PlainMarketAccounts → List Address → Type 0
  AreTaken done taken = (address : Address) → times address (names done) ≤ times address taken

  taken-more : (done : List PlainMarketAccounts) (market : PlainMarketAccounts) (taken : List Address) → AreTaken done taken
      → AreTaken (done ++ market ∷ []) (taken ++ all_of_market market)
  taken-more done market taken are = λ address.
      let all = ap (times address) (map-append (λ (m : PlainMarketAccounts). m.address) done (market ∷ [])) in
      omega (
        arith,
        are address,
        all,
        times-append address (names done) (market.address ∷ []),
        times-cons address market.address [],
        times-append address taken (all_of_market market),
        times-cons address market.address (parts_of (market_terms market.market) ++ map address_of market.orders),
      )

  back-markets : (markets done : List PlainMarketAccounts) (taken : List Address) (rows : List Fields) → Markets markets → AreTaken done taken
      → FewLeft taken (flat_map all_of_market markets) → length done + length markets ≤ limits.markets
      → ((end : List Address) → Back (with_markets (done ++ markets) end) rows) → Back (with_markets done taken) (flat_map market_rows markets ++ rows)
  back-markets [] done taken rows are at few size next = rw (append-nil done) at (next taken)
  back-markets (market ∷ markets) done taken rows are at few size next =
      let here : PlainReading = with_markets done taken in
      let bare : PlainMarketAccounts = record market { orders = [] } in
      let held = All-head IsHeldMarket market markets are.held in
      let accepted = All-head IsAccepted market markets are.accepted in
      let left = flat_map all_of_market markets in
      let orders = map address_of market.orders in
      let split : FewLeft taken (market_addresses market ++ (orders ++ left)) = rw (append_assoc (market_addresses market) orders left) at few in
      let behind_first : List Address = parts_of (market_terms market.market) ++ (orders ++ left) in
      let free : is_among market.address taken ≡ false = few-first taken market.address behind_first split in
      let untaken : times market.address taken ≡ 0 = few-none taken market.address behind_first split in
      let none : times market.address (names done) ≡ 0 = omega (arith, at market.address) in
      let room : 0 + length market.orders ≤ limits.orders = omega (arith, All-head (HasFew limits) market markets are.few) in
      let allowed : is_allowed here (Market bare) ≡ true = and_from _ _ (not_from_false _ free) (lt-ltb (length done) limits.markets (omega arith)) in
      let more : Back (with_markets (done ++ market ∷ []) (taken ++ all_of_market market)) (flat_map market_rows markets ++ rows) =
      back-markets markets (done ++ market ∷ []) (taken ++ all_of_market market) rows (record {
        held = All-tail IsHeldMarket market markets are.held;
        accepted = All-tail IsAccepted market markets are.accepted;
        mints = All-tail (HasMints whole) market markets are.mints;
        few = All-tail (HasFew limits) market markets are.few;
      }) (taken-more done market taken at) (few-moved taken (all_of_market market) left few) (omega (arith, length-append done (market ∷ [])))
      (λ end. rw (append_assoc done (market ∷ []) markets) (next end)) in
      let accounts : Back (with_last done market [] (taken ++ market_addresses market)) (map (orders_row market.address) market.orders ++ (flat_map market_rows markets ++ rows)) =
      back-each (with_last done market) (orders_row market.address) (IsOrdersKind market.address) limits.orders (orders-step done market none held.address)
      market.orders [] (taken ++ market_addresses market) left (flat_map market_rows markets ++ rows) held.orders
      (λ k d below. (accepted.orders k d below, accepted.named k d below)) (few-moved taken (market_addresses market) (orders ++ left) split) room
      (rw (append_assoc taken (market_addresses market) orders) more) in
      back-row here (market_row market) (Market bare) ((map (orders_row market.address) market.orders ++ flat_map market_rows markets) ++ rows)
      (market_stated market held) (λ e. cc e) allowed
      (market-holds done taken (orders ++ left) market accepted (All-head (HasMints whole) market markets are.mints) split)
      (rw (append_assoc (map (orders_row market.address) market.orders) (flat_map market_rows markets) rows) accounts)

-- ---- all rows

pub accounts-back : (limits : Limits) (accounts : PlainAccounts) → AreAccepted limits accounts → HoldBytes accounts → (behind : List Fields)
    → Back limits accounts behind (start limits) (account_rows accounts ++ last_row ∷ behind)
unfolding account_rows
accounts-back limits accounts are held behind =
    let mints = map mint_row accounts.mints in
    let srms = named_rows (codes "srm") accounts.srm in
    let msrms = named_rows (codes "msrm") accounts.msrm in
    let wallets = map wallet_row accounts.wallets in
    let markets = flat_map market_rows accounts.markets in
    let last : List Fields = last_row ∷ behind in
    let of_mints = map address_of accounts.mints in
    let of_wallets = map address_of accounts.wallets in
    let of_markets = flat_map all_of_market accounts.markets in
    let few : FewLeft [] (of_mints ++ (of_wallets ++ of_markets)) = λ address. omega (arith, are.once address) in
    let few_wallets : FewLeft of_mints (of_wallets ++ of_markets) = few-moved [] of_mints (of_wallets ++ of_markets) few in
    let few_markets : FewLeft (of_mints ++ of_wallets) of_markets = few-moved of_mints of_wallets of_markets few_wallets in
    let from_markets = back-markets limits accounts behind accounts.markets [] (of_mints ++ of_wallets) last (record {
      held = held.markets;
      accepted = are.markets;
      mints = are.market_mints;
      few = are.few_orders;
    }) (λ address. omega arith) few_markets (omega (arith, are.few_markets)) (λ end. back-last limits accounts behind end) in
    let from_wallets = back-each limits accounts behind (with_wallets limits accounts behind) wallet_row (IsWalletKind limits accounts behind) limits.wallets (wallet-step limits accounts behind)
    accounts.wallets [] of_mints of_markets (markets ++ last) held.wallets (λ k d below. (are.wallets k d below, are.wallet_mints k d below)) few_wallets (omega (arith, are.few_wallets)) from_markets in
    let from_msrm = back-msrm limits accounts behind accounts.srm accounts.msrm of_mints (wallets ++ (markets ++ last)) held.msrm are.msrm are.apart from_wallets in
    let from_srm = back-srm limits accounts behind accounts.srm of_mints (msrms ++ (wallets ++ (markets ++ last))) held.srm are.srm from_msrm in
    let all = back-each limits accounts behind (with_mints limits accounts behind) mint_row (IsMintKind limits accounts behind) limits.mints (mint-step limits accounts behind) accounts.mints [] [] (of_wallets ++ of_markets) (srms ++ (msrms ++ (wallets ++ (markets ++ last)))) held.mints are.mints few
    (omega (arith, are.few_mints)) from_srm in
    rw (
      append_assoc mints (srms ++ (msrms ++ (wallets ++ markets))) last,
      append_assoc srms (msrms ++ (wallets ++ markets)) last,
      append_assoc msrms (wallets ++ markets) last,
      append_assoc wallets markets last,
    ) all

first_first : is_first_row first_row ≡ true
unfolding is_first_row
first_first = refl

-- the rows of a dump, whatever stands after them
pub rows-back : (limits : Limits) (accounts : PlainAccounts) → AreAccepted limits accounts → HoldBytes accounts → (behind : List Fields)
    → (count : ℕ) × AnswersDump limits (dump_rows accounts ++ behind) (Ok (record { accounts = accounts; count = count; behind = behind }))
rows-back limits accounts are held behind =
    let back = accounts-back limits accounts are held behind 2 in
    (back.0, inl (first_first, rw (append_assoc (account_rows accounts) (last_row ∷ []) behind) back.1))

-- the text of a dump
pub text-back : (limits : Limits) (accounts : PlainAccounts) → AreAccepted limits accounts → HoldBytes accounts → AnswersText limits (dump_text accounts) (Ok accounts)
text-back limits accounts are held =
    let back = rows-back limits accounts are held [] in
    let dump : PlainDump = record { accounts = accounts; count = back.0; behind = [] } in
    (Ok dump, subst (λ (rows : List Fields). AnswersDump limits rows (Ok dump)) (append-nil (dump_rows accounts) ∙ sym (rows_of-dump accounts held)) back.1, refl)

-- ---- and as nothing else

pub text-read : (limits : Limits) (accounts : PlainAccounts) → AreAccepted limits accounts → HoldBytes accounts → IsReadAs limits (dump_text accounts) accounts
text-read limits accounts are held = λ answer.
    let back = text-back limits accounts are held in
    (λ is. text-once limits (dump_text accounts) accounts answer back is, λ same. subst (AnswersText limits (dump_text accounts)) (sym same) back)

pub rows-read : (limits : Limits) (accounts : PlainAccounts) (behind : List Fields) → AreAccepted limits accounts → HoldBytes accounts
    → AreReadAs limits (dump_rows accounts ++ behind) accounts behind
rows-read limits accounts behind are held =
    let back = rows-back limits accounts are held behind in
    let dump : PlainDump = record { accounts = accounts; count = back.0; behind = behind } in (
      back.0,
      λ answer. (
        λ is. dump-once limits (dump_rows accounts ++ behind) dump answer back.1 is,
        λ same. subst (AnswersDump limits (dump_rows accounts ++ behind)) (sym same) back.1,
      ),
    )
