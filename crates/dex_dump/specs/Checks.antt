-- What is checked of the accounts of a row, in their order, and which fault tells that a check fails.
use Rattle.std.specs.Prelude.{◌≡◌, ℕ, Bool, ◌&&◌, ◌||◌, ◌==◌, ◌⊎◌, nat_lt, if◌then◌else◌, List, [], ◌∷◌, ◌++◌, length, map, slice_index, Option, Some, None}
use Rattle.std.specs.Option.{option_map, option_or}
use Rattle.dex_fields.specs.declared.field.Field.{Field}
use Rattle.dex_fields.specs.declared.frame.Difference.{Difference}
use Rattle.dex_fields.specs.declared.market.TheConstants.{OWN_ADDRESS, COIN_MINT, PC_MINT, COIN_VAULT, PC_VAULT, REQ_Q, EVENT_Q, BIDS, ASKS}
use Rattle.dex_fields.specs.declared.open_orders.TheConstants as open_orders
use Rattle.dex_fields.specs.declared.slab.TheConstants as slab
use Rattle.dex_fields.specs.declared.token_account.TheConstants as token
use Rattle.dex_fields.specs.Bytes.{bytes_in, number_in}
use Rattle.dex_fields.specs.Frame.{difference_from, frame_difference}
use Rattle.dex_types.specs.declared.addresses.Address.{Address}
use Rattle.dex_types.specs.declared.faults.AccountFault.{AccountFault}
use Rattle.dex_types.specs.declared.terms.Side.{Side}
use Rattle.dex_types.specs.declared.terms.Side.TheVariants.{Bid, Ask}
use Rattle.dex_types.specs.AccountFaults.{flags_fault, size_fault, text_fault, word_fault}
use Rattle.dex_types.specs.Accounts.{PlainAccount, PlainAccounts, PlainMarketAccounts}
use Rattle.dex_market.specs.Faults.{address_fault, market_fault, requests_fault}
use Rattle.dex_market.specs.MarketAccount.{MarketTerms, address_in, market_terms}
use Rattle.dex_token.specs.Faults.{mint_fault, token_fault, wallet_fault}
use Rattle.dex_ring.specs.Faults.{queue_fault}
use Rattle.dex_orders.specs.Faults.{are_zeros, orders_fault}
use Rattle.dex_slab_check.specs.declared.slab_fault.SlabFault.{SlabFault}
use Rattle.dex_slab.specs.Blank.{side_flags}
use Rattle.dex_slab_check.specs.Faults.{IsFault}
use Rattle.dex_slab.specs.Slab.{IsSlab}
use Rattle.dex_dump_rows.specs.Lines.{PlainLine}
use Rattle.dex_dump_rows.specs.Lines.PlainLine.{Mint, Wallet, Market, Orders}
use Rattle.dex_state.specs.Addresses.{is_mint}
use Rattle.dex_dump.specs.Reading.{PlainReading, is_among}

-- ---- the lower of two faults of one account

-- a fault comes before another: by its kind, and then by its place
abbrev pub comes_before : AccountFault → AccountFault → Bool
comes_before fault other = nat_lt fault.kind other.kind || ((fault.kind == other.kind) && nat_lt fault.place other.place)

-- the lower of two, the first where neither comes before the other
abbrev pub lower : Option AccountFault → Option AccountFault → Option AccountFault
lower None other = other
lower (Some fault) None = Some fault
lower (Some fault) (Some other) = if comes_before other fault then Some other else Some fault

-- the rules of an account by itself, and with them those that look at other accounts, which are read where it has its
-- length
abbrev pub with_others : List ℕ → ℕ → Option AccountFault → Option AccountFault → Option AccountFault
with_others bytes size itself others = if length bytes == size then lower itself others else itself

-- ---- the accounts

-- kind 5: the first byte at which an address differs from the one that is wanted
abbrev pub word_differs : Difference → AccountFault
word_differs difference = word_fault difference.place difference.found difference.wanted

-- kind 10: the same, of an address in a token account
abbrev pub token_differs : Difference → AccountFault
token_differs difference = token_fault difference.place difference.found difference.wanted

-- the first byte at which a field of these bytes differs from the wanted address, if there is one
abbrev pub address_rule : List ℕ → Field → Address → Option AccountFault
address_rule bytes field wanted = option_map word_differs (difference_from field.at (bytes_in bytes field) wanted.0)

-- a mint that the market names is not declared
abbrev pub declared_rule : PlainAccounts → List ℕ → Field → Option AccountFault
declared_rule accounts bytes field =
    if is_mint accounts (address_in bytes field) then None else Some (address_fault bytes field)

-- an address of a vault, a queue or a side is taken
abbrev pub taken_rule : List Address → List ℕ → Field → Option AccountFault
taken_rule taken bytes field =
    if is_among (address_in bytes field) taken then Some (address_fault bytes field) else None

-- an address that the market's vaults, queues and sides have is taken
unfoldable pub parts_rule : List Address → List ℕ → Option AccountFault
parts_rule taken bytes =
    option_or (option_or (option_or (option_or (option_or (taken_rule taken bytes COIN_VAULT) (taken_rule taken bytes PC_VAULT))
    (taken_rule taken bytes REQ_Q)) (taken_rule taken bytes EVENT_Q)) (taken_rule taken bytes BIDS)) (taken_rule taken bytes ASKS)

-- what the market account has wrong with others: its own address, its mints, and what its vaults, queues and sides are
-- called
unfoldable pub market_others : PlainReading → Address → List ℕ → Option AccountFault
market_others reading address bytes =
    option_or (option_or (option_or (address_rule bytes OWN_ADDRESS address) (declared_rule reading.accounts bytes COIN_MINT))
    (declared_rule reading.accounts bytes PC_MINT)) (parts_rule reading.taken bytes)

-- a market account
unfoldable pub market_rule : PlainReading → Address → List ℕ → Option AccountFault
market_rule reading address bytes = with_others bytes 388 (market_fault bytes) (market_others reading address bytes)

-- the mint of a wallet is not declared
abbrev pub wallet_others : PlainAccounts → List ℕ → Option AccountFault
wallet_others accounts bytes =
    if is_mint accounts (address_in bytes token.MINT) then None else Some (token_fault 0 (slice_index bytes 0) 0)

-- a wallet: its mint is declared
unfoldable pub wallet_rule : PlainAccounts → List ℕ → Option AccountFault
wallet_rule accounts bytes = with_others bytes 165 (wallet_fault bytes)
    (wallet_others accounts bytes)

-- the mint of a vault is not the market's
abbrev pub vault_others : Address → List ℕ → Option AccountFault
vault_others mint bytes = option_map token_differs (difference_from 0 (bytes_in bytes token.MINT) mint.0)

-- a vault: its mint is the market's
unfoldable pub vault_rule : Address → List ℕ → Option AccountFault
vault_rule mint bytes = with_others bytes 165 (wallet_fault bytes)
    (vault_others mint bytes)

-- an open-orders account that is not blank names another market
abbrev pub orders_others : Address → List ℕ → Option AccountFault
orders_others market bytes = if are_zeros bytes then None else address_rule bytes open_orders.MARKET market

-- an open-orders account: unless it is blank, it names its market
unfoldable pub orders_rule : Address → List ℕ → Option AccountFault
orders_rule market bytes = with_others bytes 3228 (orders_fault bytes)
    (orders_others market bytes)

-- the length of a side's account: 1 to 65,536 nodes
abbrev pub side_size_rule : List ℕ → Option AccountFault
side_size_rule bytes =
    if nat_lt (length bytes) 124 then Some (size_fault (length bytes) 124)
    else (if nat_lt 4718715 (length bytes) then Some (size_fault (length bytes) 4718715) else None)

-- a byte of the text at the front or at the end
abbrev pub text_rule : List ℕ → Option AccountFault
text_rule bytes = option_map (λ (d : Difference). text_fault d.place d.found d.wanted) (frame_difference bytes)

-- the account flags of a slab are not those of its side
abbrev pub side_flags_rule : Side → List ℕ → Option AccountFault
side_flags_rule side bytes =
    if number_in bytes slab.ACCOUNT_FLAGS == side_flags side then None
    else Some (flags_fault (number_in bytes slab.ACCOUNT_FLAGS) (side_flags side))

-- a side's account, but for its slab
unfoldable pub side_rule : Side → List ℕ → Option AccountFault
side_rule side bytes = option_or (side_size_rule bytes) (option_or (text_rule bytes) (side_flags_rule side bytes))

-- ---- the checks of a line

-- rules of which the first that is broken is reported, or the rules of slabs, of which any that is broken is reported
pub data Check : Type 0 where
  Rules : Option AccountFault → Check
  Slab : List ℕ → Check

-- a check of the account with this address
pub record AccountCheck : Type 0 where
  pub account : Address
  pub check : Check

-- the check of an account by its rules, with the fault that they find, if any
abbrev pub by_rules : Address → Option AccountFault → AccountCheck
by_rules account fault = record { account = account; check = Rules fault }

-- the check that the bytes of an account are a well-formed slab
abbrev pub by_slab : Address → List ℕ → AccountCheck
by_slab account bytes = record { account = account; check = Slab bytes }

-- the vaults, at the addresses that the market account names
abbrev pub vault_checks : MarketTerms → PlainMarketAccounts → List AccountCheck
vault_checks terms market =
    by_rules terms.coin_vault (vault_rule terms.coin_mint market.coin_vault)
    ∷ by_rules terms.pc_vault (vault_rule terms.pc_mint market.pc_vault) ∷ []

-- the queues
abbrev pub queue_checks : MarketTerms → PlainMarketAccounts → List AccountCheck
queue_checks terms market =
    by_rules terms.req_q (requests_fault market.requests) ∷ by_rules terms.event_q (queue_fault market.events) ∷ []

-- a side, and then its slab
abbrev pub side_checks : Address → Side → List ℕ → List AccountCheck
side_checks account side bytes = by_rules account (side_rule side bytes) ∷ by_slab account bytes ∷ []

-- the checks of a market's vaults, queues and sides
abbrev pub part_checks : MarketTerms → PlainMarketAccounts → List AccountCheck
part_checks terms market =
    vault_checks terms market ++ (queue_checks terms market ++ (side_checks terms.bids Bid market.bids ++ side_checks terms.asks Ask market.asks))

-- the checks of what a row declares, in their order, after what was read
unfoldable pub checks : PlainReading → PlainLine → List AccountCheck
checks reading (Mint mint) = by_rules mint.address (mint_fault mint.bytes) ∷ []
checks reading (Wallet wallet) = by_rules wallet.address (wallet_rule reading.accounts wallet.bytes) ∷ []
checks reading (Market market) =
    by_rules market.address (market_rule reading market.address market.market) ∷ part_checks (market_terms market.market) market
checks reading (Orders market account) = by_rules account.address (orders_rule market account.bytes) ∷ []
checks reading _ = []

-- ---- the checks of a market's accounts, whatever other accounts there are

-- a market account, by itself and by its own address
unfoldable pub own_rule : Address → List ℕ → Option AccountFault
own_rule address bytes = with_others bytes 388 (market_fault bytes) (address_rule bytes OWN_ADDRESS address)

-- the check of one of its open-orders accounts
abbrev pub orders_check : Address → PlainAccount → AccountCheck
orders_check market account = by_rules account.address (orders_rule market account.bytes)

-- the checks of all its accounts, in their order
abbrev pub market_checks : PlainMarketAccounts → List AccountCheck
market_checks accounts =
    by_rules accounts.address (own_rule accounts.address accounts.market)
    ∷ (part_checks (market_terms accounts.market) accounts ++ map (orders_check accounts.address) accounts.orders)

-- ---- what holds and what fails

-- kind 6: a rule of slabs is broken at a node
abbrev pub slab_told : SlabFault → AccountFault
slab_told fault = record { kind = 6; place = fault.node; found = fault.found; wanted = fault.wanted }

-- a check holds: its rules find no fault, or the bytes are a slab
abbrev pub Holds : Check → Type 0
Holds (Rules fault) = fault ≡ None
Holds (Slab bytes) = IsSlab bytes

-- a check fails, and the fault tells how
abbrev pub Fails : Check → AccountFault → Type 0
Fails (Rules found) fault = found ≡ Some fault
Fails (Slab bytes) fault = ¬ IsSlab bytes × (broken : SlabFault) × IsFault bytes broken × (fault ≡ slab_told broken)

-- all checks hold
abbrev pub AllHold : List AccountCheck → Type 0
AllHold [] = Unit {0}
AllHold (first ∷ others) = Holds first.check × AllHold others

-- the first check that fails is one of this account, with this fault
abbrev pub FirstFails : List AccountCheck → Address → AccountFault → Type 0
FirstFails [] account fault = ⊥
FirstFails (first ∷ others) account fault =
    ((account ≡ first.account) × Fails first.check fault) ⊎ (Holds first.check × FirstFails others account fault)
