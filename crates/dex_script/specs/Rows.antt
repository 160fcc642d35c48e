-- The script with what one more row states, or the lowest fault that the row has after the rows before it.
use Rattle.std.specs.Prelude.{ℕ, ℤ, ◌+◌, ◌-◌, ◌^◌, Bool, true, false, not, ◌||◌, ◌==◌, nat_le, nat_lt, if◌then◌else◌, List, [], ◌∷◌, ◌++◌, length, max, Option, Some, None, Result, Ok, is_some}
use Rattle.std.specs.List.{list_any}
use Rattle.dex_types.specs.declared.addresses.Address.{Address}
use Rattle.dex_types.specs.declared.instructions.BadData.{BadData}
use Rattle.dex_types.specs.declared.instructions.Ix.{Ix}
use Rattle.dex_types.specs.declared.instructions.Ix.TheVariants.{InitializeMarket}
use Rattle.dex_types.specs.declared.terms.Program.{Program}
use Rattle.dex_types.specs.Accounts.{PlainAccounts}
use Rattle.dex_types.specs.Addresses.{is_same}
use Rattle.dex_types.specs.Rows.{PlainRow}
use Rattle.dex_instruction.specs.Reading.{decoded}
use Rattle.dex_history.specs.Journal.{is_take_or_bad}
use Rattle.dex_world.specs.Fold.{is_role}
use Rattle.dex_make.specs.declared.market.MarketSet.{MarketSet}
use Rattle.dex_make.specs.Blanks.{blank_account}
use Rattle.dex_make.specs.MarketBytes.{made_accounts}
use Rattle.dex_make.specs.TokenBytes.{mint_bytes, wallet_bytes}
use Rattle.dex_dump.specs.Reading.{is_among, with_orders}
use Rattle.dex_statement.specs.declared.faults.FaultKind.{FaultKind}
use Rattle.dex_statement.specs.declared.faults.FaultKind.TheVariants.{UnknownLabel, Duplicate, OverLimit, SetupRefused, BadSwap, NoBatch}
use Rattle.dex_statement.specs.declared.faults.SetupCode.TheVariants as code
use Rattle.dex_statement.specs.declared.statement.Statement.{Statement}
use Rattle.dex_statement.specs.declared.statement.Statement.TheVariants as row
use Rattle.dex_statement.specs.Faults.{◌>>=◌, found_or, unless}
use Rattle.dex_statement.specs.Stated.{PlainInstruction, PlainMarketWords, PlainParties, PlainSwap, leg_words}
use Rattle.dex_statement.specs.Statements.{statement_of}
use Rattle.dex_statement.specs.Words.{Fields}
use Rattle.dex_script_types.specs.Known.{has_account, has_market, is_known_role}
use Rattle.dex_script.specs.Drafts.{PlainDraft}
use Rattle.dex_script.specs.Known.{is_any_among, made_addresses, mint_at, orders_at, with_supply}

-- the script with other accounts, after a setup row that declares these addresses
abbrev pub with_start : PlainDraft → List Address → PlainAccounts → PlainDraft
with_start draft new start = record draft { script = record draft.script { start = start }; taken = draft.taken ++ new; is_first = false }

-- `program`: before every other row but those of a dump
unfoldable pub with_program : PlainDraft → Program → Result PlainDraft FaultKind
with_program draft program =
    unless (not draft.is_first) (SetupRefused code.Program)
    (Ok (record draft { script = record draft.script { program = program }; is_first = false }))

-- `clock`: the clock of the instruction rows behind it
abbrev pub with_clock : PlainDraft → ℤ → PlainDraft
with_clock draft now = record draft { clock = now; is_first = false }

-- what refuses a row that declares addresses: one of them is taken, there is no room for what they are of, or it comes
-- too late
unfoldable pub checked_new : PlainDraft → Bool → Bool → Result (Unit {0}) FaultKind
checked_new draft is_taken is_full = unless is_taken Duplicate (unless is_full OverLimit (unless draft.is_late (SetupRefused code.Late) (Ok tt)))

-- `mint`: of no supply yet
unfoldable pub with_mint : PlainDraft → Address → ℕ → Result PlainDraft FaultKind
with_mint draft address decimals =
    let start = draft.script.start in
    checked_new draft (is_among address draft.taken) (nat_le draft.script.limits.mints (length start.mints)) >>= λ _.
    Ok (with_start draft (address ∷ []) (record start { mints = start.mints ++ record { address = address; bytes = mint_bytes 0 decimals } ∷ [] }))

-- what refuses a row that gives a name to a mint, which must have this many decimals: the name is given already, or
-- not, to `named`
unfoldable pub checked_name : PlainDraft → Address → Option Address → ℕ → Result (Unit {0}) FaultKind
checked_name draft mint named decimals =
    found_or (mint_at mint draft.script.start.mints) UnknownLabel >>= λ words.
    unless (is_some named) Duplicate
    (unless draft.is_late (SetupRefused code.Late)
    (unless (not (words.decimals == decimals)) (SetupRefused code.Decimals) (Ok tt)))

-- `srm`: a mint with 6 decimals, once
unfoldable pub with_srm : PlainDraft → Address → Result PlainDraft FaultKind
with_srm draft mint =
    let start = draft.script.start in
    checked_name draft mint start.srm 6 >>= λ _. Ok (with_start draft [] (record start { srm = Some mint }))

-- `msrm`: a mint without decimals, once
unfoldable pub with_msrm : PlainDraft → Address → Result PlainDraft FaultKind
with_msrm draft mint =
    let start = draft.script.start in
    checked_name draft mint start.msrm 0 >>= λ _. Ok (with_start draft [] (record start { msrm = Some mint }))

-- `wallet`: its amount is new supply of its mint
unfoldable pub with_wallet : PlainDraft → Address → Address → Address → ℕ → Result PlainDraft FaultKind
with_wallet draft address mint owner amount =
    let start = draft.script.start in
    found_or (mint_at mint start.mints) UnknownLabel >>= λ words.
    checked_new draft (is_among address draft.taken) (nat_le draft.script.limits.wallets (length start.wallets)) >>= λ _.
    unless (nat_le (2 ^ 64) (words.supply + amount)) (SetupRefused code.Supply)
    (Ok (with_start draft (address ∷ []) (record start {
      mints = with_supply mint amount start.mints;
      wallets = start.wallets ++ record { address = address; bytes = wallet_bytes mint owner amount } ∷ [];
    })))

-- a market row passes a limit: 65,536 nodes a side, 65,535 events, 256 bytes of data
abbrev pub exceeds_market : PlainMarketWords → Bool
exceeds_market words =
    nat_lt 65536 words.bid_nodes || nat_lt 65536 words.ask_nodes || nat_lt 65535 words.events || nat_lt 256 (length words.bytes)

-- the instruction of a market row: InitializeMarket, with a fee rate below 100 basis points
abbrev pub market_ix : Result Ix BadData → Option Ix
market_ix (Ok (InitializeMarket coin_lot pc_lot fee_rate_bps nonce dust)) =
    if nat_lt fee_rate_bps 100 then Some (InitializeMarket coin_lot pc_lot fee_rate_bps nonce dust) else None
market_ix _ = None

-- what the market is made of
abbrev pub market_set : PlainMarketWords → Ix → MarketSet
market_set words ix = record {
  address = words.address;
  authority = words.authority;
  coin = words.coin;
  pc = words.pc;
  bid_nodes = words.bid_nodes;
  ask_nodes = words.ask_nodes;
  events = words.events;
  ix = ix;
}

-- a side without nodes, or a queue without room
abbrev pub has_no_room : PlainMarketWords → Bool
has_no_room words = (words.bid_nodes == 0) || (words.ask_nodes == 0) || (words.events == 0)

-- the market that a row asks for, if it can be made
unfoldable pub set_of : PlainMarketWords → Result MarketSet FaultKind
set_of words =
    unless (is_same words.coin words.pc) (SetupRefused code.OneMint)
    (found_or (market_ix (decoded words.bytes)) (SetupRefused code.Data) >>= λ ix.
    unless (has_no_room words) (SetupRefused code.Capacity) (Ok (market_set words ix)))

-- `market`: its accounts as they are made
unfoldable pub with_market : PlainDraft → PlainMarketWords → Result PlainDraft FaultKind
with_market draft words =
    let start = draft.script.start in
    unless (not (has_account words.coin start.mints) || not (has_account words.pc start.mints)) UnknownLabel
    (checked_new draft (is_any_among (made_addresses words.address) draft.taken)
    (nat_le draft.script.limits.markets (length start.markets) || exceeds_market words) >>= λ _.
    set_of words >>= λ set.
    Ok (with_start draft (made_addresses words.address) (record start { markets = start.markets ++ made_accounts set ∷ [] })))

-- `orders`: a blank account of a market
unfoldable pub with_orders_row : PlainDraft → Address → Address → Result PlainDraft FaultKind
with_orders_row draft market address =
    let start = draft.script.start in
    found_or (orders_at market start.markets) UnknownLabel >>= λ count.
    checked_new draft (is_among address draft.taken) (nat_le draft.script.limits.orders count) >>= λ _.
    Ok (with_start draft (address ∷ []) (record start { markets = with_orders market (blank_account address) start.markets }))

-- an instruction row names a market or a wallet that is not declared
abbrev pub is_unknown : PlainAccounts → PlainParties → Bool
is_unknown start parties =
    not (has_market parties.market start.markets) || not (is_known_role start.wallets parties.coin)
    || not (is_known_role start.wallets parties.pc) || not (is_known_role start.wallets parties.discount)
    || not (is_known_role start.wallets parties.referrer)

-- an instruction row passes a limit: 16 lanes, 16 named accounts, 256 bytes of data
abbrev pub exceeds_row : PlainInstruction → Bool
exceeds_row words = nat_le 16 words.lane || nat_lt 16 (length words.parties.named) || nat_lt 256 (length words.bytes)

-- an instruction row of this number, at this time
abbrev pub instruction_row : ℕ → ℤ → PlainInstruction → PlainRow
instruction_row number now words = record {
  lane = words.lane;
  number = number;
  market = words.parties.market;
  signer = words.parties.signer;
  named = words.parties.named;
  coin = words.parties.coin;
  pc = words.parties.pc;
  discount = words.parties.discount;
  referrer = words.parties.referrer;
  bytes = words.bytes;
  now = now;
}

-- no instruction row of this number finds room: a script has so many, where a swap is one, and numbers of rows stay
-- below the largest u32
abbrev pub is_full : PlainDraft → ℕ → Bool
is_full draft number = nat_le draft.script.limits.items draft.items || (number == 2 ^ 32 - 1)

-- the draft with the rows of one more instruction row, of this lane
abbrev pub with_item : PlainDraft → List PlainRow → ℕ → PlainDraft
with_item draft rows lane = record draft {
  script = record draft.script { rows = draft.script.rows ++ rows; lanes = max draft.script.lanes (lane + 1) };
  is_first = false;
  is_late = true;
  items = draft.items + 1;
}

-- the draft with one more row
abbrev pub with_one : PlainDraft → PlainRow → PlainDraft
with_one draft row = record draft { script = record draft.script { rows = draft.script.rows ++ row ∷ [] } }

-- an instruction row of known names, with the clock of the last `clock` row before it
unfoldable pub with_known : PlainDraft → ℕ → PlainInstruction → Result PlainDraft FaultKind
with_known draft number words =
    unless (is_full draft number || exceeds_row words) OverLimit
    (Ok (with_item draft (instruction_row number draft.clock words ∷ []) words.lane))

-- an instruction row
unfoldable pub with_instruction : PlainDraft → ℕ → PlainInstruction → Result PlainDraft FaultKind
with_instruction draft number words = unless (is_unknown draft.script.start words.parties) UnknownLabel (with_known draft number words)

-- two roles are those of one wallet
abbrev pub is_one_wallet : Option Address → Option Address → Bool
is_one_wallet None other = false
is_one_wallet (Some wallet) other = is_role other wallet

-- a role is that of a wallet of one of these roles
abbrev pub is_named_among : Option Address → List (Option Address) → Bool
is_named_among role roles = list_any (is_one_wallet role) roles

-- a wallet stands twice among the roles of two legs
abbrev pub is_named_twice : PlainParties → PlainParties → Bool
is_named_twice first second =
    is_named_among first.coin (first.pc ∷ second.coin ∷ second.pc ∷ [])
    || is_named_among first.pc (second.coin ∷ second.pc ∷ []) || is_named_among second.coin (second.pc ∷ [])

-- a leg's data decodes to another instruction than SendTake
abbrev pub is_no_leg : PlainInstruction → Bool
is_no_leg words = not (is_take_or_bad (decoded words.bytes))

-- no swap of two markets: the legs' markets are one, a wallet stands twice, or a leg is another instruction than a take
abbrev pub is_bad_swap : PlainInstruction → PlainInstruction → Bool
is_bad_swap first second =
    is_same first.parties.market second.parties.market || is_named_twice first.parties second.parties
    || is_no_leg first || is_no_leg second

-- a swap of known names: the rows of its legs, of one number
unfoldable pub with_legs : PlainDraft → ℕ → PlainInstruction → PlainInstruction → Result PlainDraft FaultKind
with_legs draft number first second =
    unless (is_full draft number || exceeds_row first || exceeds_row second) OverLimit
    (unless (is_bad_swap first second) BadSwap
    (unless draft.batch NoBatch
    (Ok (with_item draft (instruction_row number draft.clock first ∷ instruction_row number draft.clock second ∷ []) first.lane))))

-- the legs of a swap, which counts as one instruction row; where the script is to act in batches there is none
unfoldable pub with_two : PlainDraft → ℕ → PlainInstruction → PlainInstruction → Result PlainDraft FaultKind
with_two draft number first second =
    let start = draft.script.start in
    unless (is_unknown start first.parties) UnknownLabel
    (unless (is_unknown start second.parties) UnknownLabel (with_legs draft number first second))

-- a swap
abbrev pub with_swap : PlainDraft → ℕ → PlainSwap → Result PlainDraft FaultKind
with_swap draft number words =
    with_two draft number (leg_words words.lane words.signer words.first) (leg_words words.lane words.signer words.second)

-- a row declares accounts, or chooses the program
abbrev pub IsSetup : Statement → Type 0
IsSetup (row.Clock now) = ⊥
IsSetup (row.Instruction words) = ⊥
IsSetup (row.Swap words) = ⊥
IsSetup _ = Unit {0}

-- the script with what a row of this number states
abbrev pub with_statement : PlainDraft → ℕ → Statement → Result PlainDraft FaultKind
with_statement draft number (row.Program program) = with_program draft program
with_statement draft number (row.Clock now) = Ok (with_clock draft now)
with_statement draft number (row.Mint address decimals) = with_mint draft address decimals
with_statement draft number (row.Srm mint) = with_srm draft mint
with_statement draft number (row.Msrm mint) = with_msrm draft mint
with_statement draft number (row.Wallet address mint owner amount) = with_wallet draft address mint owner amount
with_statement draft number (row.Market words) = with_market draft words
with_statement draft number (row.Orders market address) = with_orders_row draft market address
with_statement draft number (row.Instruction words) = with_instruction draft number words
with_statement draft number (row.Swap words) = with_swap draft number words

-- the faults that a row has by itself come first, then those after the rows before it
unfoldable pub with_row : PlainDraft → ℕ → Fields → Result PlainDraft FaultKind
with_row draft number fields = statement_of fields >>= with_statement draft number
