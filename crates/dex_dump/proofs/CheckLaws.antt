-- An account passes the checks of its row exactly where it is accepted, by itself and with the others.
use Rattle.std.proofs.Common.{◌≡◌, ℕ, ◌≤◌, ◌∙◌, List, length, cond, eqb, ltb, Option, Some, None, false, arith, refl, sym, ap, inl, inr, slice_index}
use Rattle.std.specs.Option.{option_or}
use Rattle.std.proofs.lemmas.Bool.{cases_Bool, cases_eq, cond-false, cond-true, eq-eqb, eqb-true, ltb-false, ne_eqb}
use Rattle.dex_fields.specs.declared.field.Field.{Field}
use Rattle.dex_fields.specs.declared.frame.Difference.{Difference}
use Rattle.dex_fields.specs.declared.frame.TheConstants.{FRONT, FRONT_TEXT}
use Rattle.dex_fields.specs.declared.market.TheConstants.{OWN_ADDRESS, COIN_MINT, PC_MINT, COIN_VAULT, PC_VAULT, REQ_Q, EVENT_Q, BIDS, ASKS}
use Rattle.dex_fields.specs.declared.open_orders.TheConstants as open_orders
use Rattle.dex_fields.specs.declared.slab.TheConstants as slab
use Rattle.dex_fields.specs.declared.token_account.TheConstants as token
use Rattle.dex_fields.specs.Bytes.{IsWithin, bytes_in, number_in, number_of_bytes}
use Rattle.dex_fields.specs.Frame.{difference_from}
use Rattle.dex_fields.proofs.FrameLaw.{difference_none, framed_from_mapped}
use Rattle.dex_fields.proofs.Reading.{length-bytes_in}
use Rattle.dex_fields.proofs.Rules.{cond_holds, cond_none, mapped_none, or_none}
use Rattle.dex_types.specs.declared.addresses.Address.{Address}
use Rattle.dex_types.specs.declared.faults.AccountFault.{AccountFault}
use Rattle.dex_types.specs.declared.terms.Side.{Side}
use Rattle.dex_types.specs.AccountFaults.{flags_fault, size_fault, text_fault}
use Rattle.dex_types.specs.Accounts.{PlainAccounts}
use Rattle.dex_market.specs.Faults.{address_fault, market_fault}
use Rattle.dex_market.specs.MarketAccount.{IsMarket, address_in, market_words}
use Rattle.dex_market.proofs.Verdicts.{market_from_none}
use Rattle.dex_orders.specs.Faults.{are_zeros, orders_fault}
use Rattle.dex_orders.specs.OrdersAccount.{IsOpened, IsOrders, market_of}
use Rattle.dex_orders.proofs.BlankLaw.{number_in-zeros, zeros_from_test}
use Rattle.dex_orders.proofs.Verdicts.{orders_from_none}
use Rattle.dex_slab.specs.Blank.{side_flags}
use Rattle.dex_slab.specs.Slab.{IsSlab}
use Rattle.dex_slab.specs.StandsFor.{IsSideAccount}
use Rattle.dex_token.specs.Faults.{token_fault, wallet_fault}
use Rattle.dex_token.specs.TokenAccount.{IsWallet, wallet_words}
use Rattle.dex_token.proofs.TokenRules.{wallet_from_none}
use Rattle.dex_state.specs.Accepted.{IsMintOf}
use Rattle.dex_dump.specs.Checks.{address_rule, comes_before, declared_rule, lower, market_others, market_rule, orders_others, orders_rule, own_rule, parts_rule, side_flags_rule, side_rule, side_size_rule, taken_rule, text_rule, token_differs, vault_others, vault_rule, wallet_others, wallet_rule, with_others, word_differs}
use Rattle.dex_state.specs.Addresses.{is_mint}
use Rattle.dex_dump.specs.Reading.{PlainReading, is_among}

-- ---- no fault of two

lower_none : (fault other : Option AccountFault) → lower fault other ≡ None → (fault ≡ None) × (other ≡ None)
lower_none None other h = (refl, h)
lower_none (Some fault) None h = absurd cc
lower_none (Some fault) (Some other) h = elim (cases_Bool (comes_before other fault)) [
  | inl first ↦ absurd (let told = rw first at h in cc)
  | inr second ↦ absurd (let told = rw second at h in cc)
]

-- an account breaks none of its own rules, and where it has its length none with others
with_none : (bytes : List ℕ) (size : ℕ) (itself others : Option AccountFault) → with_others bytes size itself others ≡ None
    → (itself ≡ None) × (length bytes ≡ size → others ≡ None)
with_none bytes size itself others h = elim (cases_eq (length bytes) size) [
  | inl same ↦
      let both = lower_none itself others (sym (cond-true (eqb (length bytes) size) (lower itself others) itself (eq-eqb (length bytes) size same)) ∙ h) in
      (both.0, λ _. both.1)
  | inr other ↦
      (sym (cond-false (eqb (length bytes) size) (lower itself others) itself (ne_eqb (length bytes) size other)) ∙ h, λ same. absurd (other same))
]

-- ---- addresses

address_held : (bytes : List ℕ) (field : Field) (wanted : Address) → IsWithin field bytes → field.len ≡ 32 → length wanted.0 ≡ 32
    → difference_from field.at (bytes_in bytes field) wanted.0 ≡ None → address_in bytes field ≡ wanted
address_held bytes field wanted within wide size none =
    let same : bytes_in bytes field ≡ wanted.0 =
    difference_none field.at (bytes_in bytes field) wanted.0 (length-bytes_in bytes field within ∙ wide ∙ sym size) none in
    ap (λ (b : List ℕ). let a : Address = record { 0 = b } in a) same

-- ---- a wallet, and a vault

pub wallet_held : (accounts : PlainAccounts) (bytes : List ℕ) → wallet_rule accounts bytes ≡ None
    → IsWallet bytes × IsMintOf accounts (wallet_words bytes).mint
unfolding wallet_rule
wallet_held accounts bytes h =
    let both = with_none bytes 165 (wallet_fault bytes) (wallet_others accounts bytes) h in
    let is = wallet_from_none bytes both.0 in
    (is, (cond_holds (is_mint accounts (address_in bytes token.MINT)) (token_fault 0 (slice_index bytes 0) 0) None (both.1 is.size)).0)

pub vault_held : (mint : Address) (bytes : List ℕ) → length mint.0 ≡ 32 → vault_rule mint bytes ≡ None
    → IsWallet bytes × ((wallet_words bytes).mint ≡ mint)
unfolding vault_rule
vault_held mint bytes size h =
    let both = with_none bytes 165 (wallet_fault bytes) (vault_others mint bytes) h in
    let is = wallet_from_none bytes both.0 in
    let none = mapped_none token_differs (difference_from 0 (bytes_in bytes token.MINT) mint.0) (both.1 is.size) in
    (is, address_held bytes token.MINT mint (omega (arith, is.size)) refl size none)

-- ---- an open-orders account

-- one that was ever opened is not blank
opened_zeros : (bytes : List ℕ) → IsOpened bytes → are_zeros bytes ≡ false
unfolding number_in number_of_bytes
opened_zeros bytes opened = elim (cases_Bool (are_zeros bytes)) [
  | inl zeros ↦
      let none : number_in bytes FRONT ≡ 0 = number_in-zeros bytes (zeros_from_test bytes zeros) FRONT (omega (arith, opened.size)) in
      let text : number_in bytes FRONT ≡ number_of_bytes FRONT_TEXT = ap number_of_bytes opened.framed.front in
      absurd (omega arith)
  | inr other ↦ other
]

pub orders_held : (market : Address) (bytes : List ℕ) → length market.0 ≡ 32 → orders_rule market bytes ≡ None
    → IsOrders bytes × (IsOpened bytes → market_of bytes ≡ market)
unfolding orders_rule
orders_held market bytes size h =
    let both = with_none bytes 3228 (orders_fault bytes) (orders_others market bytes) h in (
      orders_from_none bytes both.0,
      λ opened.
          let rule : address_rule bytes open_orders.MARKET market ≡ None =
          sym (cond-false (are_zeros bytes) None (address_rule bytes open_orders.MARKET market) (opened_zeros bytes opened)) ∙ both.1 opened.size in
          let none = mapped_none word_differs (difference_from open_orders.MARKET.at (bytes_in bytes open_orders.MARKET) market.0) rule in
          address_held bytes open_orders.MARKET market (omega (arith, opened.size)) refl size none,
    )

-- ---- a side

pub side_held : (side : Side) (bytes : List ℕ) → side_rule side bytes ≡ None → IsSlab bytes → IsSideAccount side bytes
unfolding side_rule
side_held side bytes h is =
    let rules = or_none (side_size_rule bytes) (option_or (text_rule bytes) (side_flags_rule side bytes)) h in
    let inner = or_none (text_rule bytes) (side_flags_rule side bytes) rules.1 in
    let sized = cond_none (ltb (length bytes) 124) (size_fault (length bytes) 124)
    (cond (ltb 4718715 (length bytes)) (Some (size_fault (length bytes) 4718715)) None) rules.0 in
    let long : 124 ≤ length bytes = ltb-false (length bytes) 124 sized.0 in
    let flags = cond_holds (eqb (number_in bytes slab.ACCOUNT_FLAGS) (side_flags side)) (flags_fault (number_in bytes slab.ACCOUNT_FLAGS) (side_flags side)) None inner.1 in
    record {
      slab = is;
      framed = framed_from_mapped (λ (d : Difference). text_fault d.place d.found d.wanted) bytes (omega arith) inner.0;
      flags = eqb-true (number_in bytes slab.ACCOUNT_FLAGS) (side_flags side) flags.0;
    }

-- ---- a market account

-- an address of a vault, a queue or a side is not taken
abbrev pub IsFree : List Address → List ℕ → Field → Type 0
IsFree taken bytes field = is_among (address_in bytes field) taken ≡ false

free_held : (taken : List Address) (bytes : List ℕ) (field : Field) → taken_rule taken bytes field ≡ None → IsFree taken bytes field
free_held taken bytes field h = (cond_none (is_among (address_in bytes field) taken) (address_fault bytes field) None h).0

declared_held : (accounts : PlainAccounts) (bytes : List ℕ) (field : Field) → declared_rule accounts bytes field ≡ None
    → IsMintOf accounts (address_in bytes field)
declared_held accounts bytes field h = (cond_holds (is_mint accounts (address_in bytes field)) (address_fault bytes field) None h).0

-- what the market account says with others
pub record IsMarketHere (reading : PlainReading) (address : Address) (bytes : List ℕ) : Type 0 where
  pub market : IsMarket bytes
  pub own_address : (market_words bytes).terms.own_address ≡ address
  pub coin_mint : IsMintOf reading.accounts (market_words bytes).terms.coin_mint
  pub pc_mint : IsMintOf reading.accounts (market_words bytes).terms.pc_mint
  pub coin_vault : IsFree reading.taken bytes COIN_VAULT
  pub pc_vault : IsFree reading.taken bytes PC_VAULT
  pub requests : IsFree reading.taken bytes REQ_Q
  pub events : IsFree reading.taken bytes EVENT_Q
  pub bids : IsFree reading.taken bytes BIDS
  pub asks : IsFree reading.taken bytes ASKS

pub market_held : (reading : PlainReading) (address : Address) (bytes : List ℕ) → length address.0 ≡ 32 → market_rule reading address bytes ≡ None
    → IsMarketHere reading address bytes
unfolding market_rule market_others parts_rule
market_held reading address bytes size h =
    let both = with_none bytes 388 (market_fault bytes) (market_others reading address bytes) h in
    let is = market_from_none bytes both.0 in
    let pc = or_none _ _ (both.1 is.size) in
    let coin = or_none _ _ pc.0 in
    let own = or_none _ _ coin.0 in
    let asks = or_none _ _ pc.1 in
    let bids = or_none _ _ asks.0 in
    let events = or_none _ _ bids.0 in
    let requests = or_none _ _ events.0 in
    let vaults = or_none _ _ requests.0 in
    let none = mapped_none word_differs (difference_from OWN_ADDRESS.at (bytes_in bytes OWN_ADDRESS) address.0) own.0 in
    record {
      market = is;
      own_address = address_held bytes OWN_ADDRESS address (omega (arith, is.size)) refl size none;
      coin_mint = declared_held reading.accounts bytes COIN_MINT own.1;
      pc_mint = declared_held reading.accounts bytes PC_MINT coin.1;
      coin_vault = free_held reading.taken bytes COIN_VAULT vaults.0;
      pc_vault = free_held reading.taken bytes PC_VAULT vaults.1;
      requests = free_held reading.taken bytes REQ_Q requests.1;
      events = free_held reading.taken bytes EVENT_Q events.1;
      bids = free_held reading.taken bytes BIDS bids.1;
      asks = free_held reading.taken bytes ASKS asks.1;
    }

-- a market account by itself and by its own address
pub own_held : (address : Address) (bytes : List ℕ) → length address.0 ≡ 32 → own_rule address bytes ≡ None
    → IsMarket bytes × ((market_words bytes).terms.own_address ≡ address)
unfolding own_rule
own_held address bytes size h =
    let both = with_none bytes 388 (market_fault bytes) (address_rule bytes OWN_ADDRESS address) h in
    let is = market_from_none bytes both.0 in
    let none = mapped_none word_differs (difference_from OWN_ADDRESS.at (bytes_in bytes OWN_ADDRESS) address.0) (both.1 is.size) in
    (is, address_held bytes OWN_ADDRESS address (omega (arith, is.size)) refl size none)
