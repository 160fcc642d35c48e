-- An accepted account passes the checks of its row.
use Rattle.std.proofs.Common.{◌≡◌, ℕ, Bool, ◌∙◌, List, length, cond, eqb, ltb, Option, Some, None, true, false, arith, refl, sym, ap, inl, inr, slice_index}
use Rattle.std.specs.Option.{option_map, option_or}
use Rattle.std.proofs.lemmas.Bool.{cases_eq, cond-false, cond-true, eq-eqb, le-ltb, ne_eqb}
use Rattle.dex_fields.specs.declared.field.Field.{Field}
use Rattle.dex_fields.specs.declared.frame.Difference.{Difference}
use Rattle.dex_fields.specs.declared.market.TheConstants.{OWN_ADDRESS, COIN_MINT, PC_MINT, COIN_VAULT, PC_VAULT, REQ_Q, EVENT_Q, BIDS, ASKS}
use Rattle.dex_fields.specs.declared.open_orders.TheConstants as open_orders
use Rattle.dex_fields.specs.declared.slab.TheConstants as slab
use Rattle.dex_fields.specs.declared.token_account.TheConstants as token
use Rattle.dex_fields.specs.Bytes.{bytes_in, number_in}
use Rattle.dex_fields.specs.Frame.{difference_from}
use Rattle.dex_fields.proofs.FrameLaw.{difference_same, mapped_from_framed}
use Rattle.dex_fields.proofs.Rules.{none_or}
use Rattle.dex_types.specs.declared.addresses.Address.{Address}
use Rattle.dex_types.specs.declared.faults.AccountFault.{AccountFault}
use Rattle.dex_types.specs.declared.terms.Side.{Side}
use Rattle.dex_types.specs.AccountFaults.{text_fault}
use Rattle.dex_types.specs.Accounts.{PlainAccounts}
use Rattle.dex_market.specs.Faults.{address_fault, market_fault}
use Rattle.dex_market.specs.MarketAccount.{IsMarket, address_in, market_words}
use Rattle.dex_market.proofs.Verdicts.{none_from_market}
use Rattle.dex_orders.specs.Faults.{are_zeros, orders_fault}
use Rattle.dex_orders.specs.OrdersAccount.{IsOpened, IsOrders, market_of}
use Rattle.dex_orders.proofs.BlankLaw.{test_from_zeros}
use Rattle.dex_orders.proofs.Verdicts.{none_from_orders}
use Rattle.dex_slab.specs.Blank.{side_flags}
use Rattle.dex_slab.specs.StandsFor.{IsSideAccount}
use Rattle.dex_token.specs.Faults.{token_fault, wallet_fault}
use Rattle.dex_token.specs.TokenAccount.{IsWallet, wallet_words}
use Rattle.dex_token.proofs.TokenRules.{none_from_wallet}
use Rattle.dex_state.specs.Accepted.{IsMintOf}
use Rattle.dex_dump.specs.Checks.{address_rule, declared_rule, lower, market_others, market_rule, orders_others, orders_rule, own_rule, parts_rule, side_flags_rule, side_rule, side_size_rule, taken_rule, text_rule, token_differs, vault_others, vault_rule, wallet_others, wallet_rule, with_others, word_differs}
use Rattle.dex_state.specs.Addresses.{is_mint}
use Rattle.dex_dump.specs.Reading.{PlainReading, is_among}
use Rattle.dex_dump.proofs.CheckLaws.{IsFree, IsMarketHere}

-- an account that breaks no rule
none_with : (bytes : List ℕ) (size : ℕ) (itself others : Option AccountFault) → itself ≡ None → others ≡ None
    → with_others bytes size itself others ≡ None
none_with bytes size itself others own other = elim (cases_eq (length bytes) size) [
  | inl same ↦
      let both : lower itself others ≡ None = rw (own, other) refl in
      cond-true (eqb (length bytes) size) (lower itself others) itself (eq-eqb (length bytes) size same) ∙ both
  | inr apart ↦ cond-false (eqb (length bytes) size) (lower itself others) itself (ne_eqb (length bytes) size apart) ∙ own
]

-- an address differs nowhere from itself
address_same : (bytes : List ℕ) (field : Field) (wanted : Address) (at : ℕ) → address_in bytes field ≡ wanted
    → difference_from at (bytes_in bytes field) wanted.0 ≡ None
address_same bytes field wanted at same =
    ap (λ (a : Address). difference_from at (bytes_in bytes field) a.0) (sym same) ∙ difference_same at (bytes_in bytes field)

-- ---- a wallet, and a vault

pub wallet_passes : (accounts : PlainAccounts) (bytes : List ℕ) → IsWallet bytes → IsMintOf accounts (wallet_words bytes).mint
    → wallet_rule accounts bytes ≡ None
unfolding wallet_rule
wallet_passes accounts bytes is mint =
    none_with bytes 165 (wallet_fault bytes) (wallet_others accounts bytes) (none_from_wallet bytes is)
    (cond-true (is_mint accounts (address_in bytes token.MINT)) None (Some (token_fault 0 (slice_index bytes 0) 0)) mint)

pub vault_passes : (mint : Address) (bytes : List ℕ) → IsWallet bytes → (wallet_words bytes).mint ≡ mint → vault_rule mint bytes ≡ None
unfolding vault_rule
vault_passes mint bytes is same =
    none_with bytes 165 (wallet_fault bytes) (vault_others mint bytes) (none_from_wallet bytes is)
    (ap (option_map token_differs) (address_same bytes token.MINT mint 0 same))

-- ---- an open-orders account

pub orders_pass : (market : Address) (bytes : List ℕ) → IsOrders bytes → (IsOpened bytes → market_of bytes ≡ market)
    → orders_rule market bytes ≡ None
unfolding orders_rule
orders_pass market bytes is named =
    let opened = λ (opened : IsOpened bytes).
    let rule : address_rule bytes open_orders.MARKET market ≡ None =
    ap (option_map word_differs) (address_same bytes open_orders.MARKET market open_orders.MARKET.at (named opened)) in
    rule in
    let others : orders_others market bytes ≡ None = elim is [
      | inl blank ↦ cond-true (are_zeros bytes) None (address_rule bytes open_orders.MARKET market) (test_from_zeros bytes blank.zeros)
      | inr used ↦ elim used [
        | inl opened_now ↦ either_none (are_zeros bytes) (address_rule bytes open_orders.MARKET market) (opened opened_now.opened)
        | inr closed ↦ either_none (are_zeros bytes) (address_rule bytes open_orders.MARKET market) (opened closed.opened)
      ]
    ] in
    none_with bytes 3228 (orders_fault bytes) (orders_others market bytes) (none_from_orders bytes is) others
  where
    either_none : (b : Bool) (x : Option AccountFault) → x ≡ None → cond b None x ≡ None
    either_none true x h = refl
    either_none false x h = h

-- ---- a side

pub side_passes : (side : Side) (bytes : List ℕ) → IsSideAccount side bytes → side_rule side bytes ≡ None
unfolding side_rule
side_passes side bytes is =
    let size = is.slab.size in
    let least : ltb (length bytes) 124 ≡ false = le-ltb (length bytes) 124 (omega (arith, size.some)) in
    let most : ltb 4718715 (length bytes) ≡ false = le-ltb 4718715 (length bytes) (omega (arith, size.few)) in
    let sized : side_size_rule bytes ≡ None = rw (least, most) refl in
    let flags : side_flags_rule side bytes ≡ None = rw (eq-eqb (number_in bytes slab.ACCOUNT_FLAGS) (side_flags side) is.flags) refl in
    none_or (side_size_rule bytes) (option_or (text_rule bytes) (side_flags_rule side bytes)) sized
    (none_or (text_rule bytes) (side_flags_rule side bytes)
    (mapped_from_framed (λ (d : Difference). text_fault d.place d.found d.wanted) bytes is.framed) flags)

-- ---- a market account

free_passes : (taken : List Address) (bytes : List ℕ) (field : Field) → IsFree taken bytes field → taken_rule taken bytes field ≡ None
free_passes taken bytes field free = cond-false (is_among (address_in bytes field) taken) (Some (address_fault bytes field)) None free

declared_passes : (accounts : PlainAccounts) (bytes : List ℕ) (field : Field) → IsMintOf accounts (address_in bytes field)
    → declared_rule accounts bytes field ≡ None
declared_passes accounts bytes field mint = cond-true (is_mint accounts (address_in bytes field)) None (Some (address_fault bytes field)) mint

pub market_passes : (reading : PlainReading) (address : Address) (bytes : List ℕ) → IsMarketHere reading address bytes
    → market_rule reading address bytes ≡ None
unfolding market_rule market_others parts_rule
market_passes reading address bytes here =
    let own : address_rule bytes OWN_ADDRESS address ≡ None = ap (option_map word_differs) (address_same bytes OWN_ADDRESS address OWN_ADDRESS.at here.own_address) in
    let coin_mint = declared_passes reading.accounts bytes COIN_MINT here.coin_mint in
    let pc_mint = declared_passes reading.accounts bytes PC_MINT here.pc_mint in
    let coin_vault = free_passes reading.taken bytes COIN_VAULT here.coin_vault in
    let pc_vault = free_passes reading.taken bytes PC_VAULT here.pc_vault in
    let requests = free_passes reading.taken bytes REQ_Q here.requests in
    let events = free_passes reading.taken bytes EVENT_Q here.events in
    let bids = free_passes reading.taken bytes BIDS here.bids in
    let asks = free_passes reading.taken bytes ASKS here.asks in
    none_with bytes 388 (market_fault bytes) _ (none_from_market bytes here.market)
    (none_or _ _ (none_or _ _ (none_or _ _ own coin_mint) pc_mint)
    (none_or _ _ (none_or _ _ (none_or _ _ (none_or _ _ (none_or _ _ coin_vault pc_vault) requests) events) bids) asks))

pub own_passes : (address : Address) (bytes : List ℕ) → IsMarket bytes → (market_words bytes).terms.own_address ≡ address → own_rule address bytes ≡ None
unfolding own_rule
own_passes address bytes is same =
    none_with bytes 388 (market_fault bytes) (address_rule bytes OWN_ADDRESS address) (none_from_market bytes is)
    (ap (option_map word_differs) (address_same bytes OWN_ADDRESS address OWN_ADDRESS.at same))
