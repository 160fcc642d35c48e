-- What a caller in C lends, and what an instruction does to it.
use Rattle.std.specs.Prelude.{ℕ, ◌≡◌, ◌<◌, ◌≤◌, ◌⊎◌, ◌==◌, if◌then◌else◌, List, Option, Some, None, [], ◌∷◌, slice_index_or, take}
use Rattle.dex_abi.specs.declared.numbers.ReplyNumbers.{ReplyNumbers}
use Rattle.dex_abi.specs.declared.numbers.Wide.{Wide}
use Rattle.dex_abi.specs.declared.records.Instruction.{Instruction}
use Rattle.dex_abi.specs.declared.records.MarketBytes.{MarketBytes}
use Rattle.dex_abi.specs.declared.records.WalletsBytes.{WalletsBytes}
use Rattle.dex_abi.specs.Numbers.{numbers_of, reply_in, too_many, whole}
use Rattle.dex_accounts.specs.Decoded.{AreSound, market_in}
use Rattle.dex_instruction.specs.Reading.{decoded}
use Rattle.dex_lent.specs.Flat.{accounts_in}
use Rattle.dex_plan.specs.declared.ask.Ask.{Ask}
use Rattle.dex_process.specs.declared.processing.Terms.{Terms}
use Rattle.dex_process.specs.Process.{Acting, HasProcessed, acting, purse_with, seen_by, step_of}
use Rattle.dex_purse.specs.declared.lent_wallets.Roles.{Roles}
use Rattle.dex_purse.specs.declared.lent_wallets.Slot.{Slot}
use Rattle.dex_purse.specs.declared.lent_wallets.Slot.TheVariants.{First, Second, Third, Fourth}
use Rattle.dex_purse.specs.Purse.{AreApart, AreWallets, Purse}
use Rattle.dex_ring.specs.declared.pending_fills.PendingFills.{PendingFills}
use Rattle.dex_ring.specs.PendingFills.{pending_fills_of}
use Rattle.dex_step.specs.Acting.{accounts_with}
use Rattle.dex_types.specs.declared.addresses.Address.{Address}
use Rattle.dex_types.specs.declared.replies.Reply.{Reply}
use Rattle.dex_types.specs.declared.terms.Program.TheVariants.{OpenBook, Serum}
use Rattle.dex_types.specs.Accounts.{PlainMarketAccounts}
use Rattle.dex_types.specs.Requests.{Request}
use Rattle.dex_types.specs.Steps.{step}

-- the address that 32 bytes are
abbrev pub address_of : List ℕ → Address
address_of word = record { 0 = word }

-- the address that the word at a place is
abbrev pub name_at : List (List ℕ) → ℕ → Address
name_at words place = address_of (slice_index_or words place [])

-- the addresses that sixteen words are
abbrev pub names_in : List (List ℕ) → List Address
names_in words =
    name_at words 0 ∷ name_at words 1 ∷ name_at words 2 ∷ name_at words 3 ∷ name_at words 4 ∷ name_at words 5
    ∷ name_at words 6 ∷ name_at words 7 ∷ name_at words 8 ∷ name_at words 9 ∷ name_at words 10 ∷ name_at words 11
    ∷ name_at words 12 ∷ name_at words 13 ∷ name_at words 14 ∷ name_at words 15 ∷ []

-- an address, where there is one
abbrev pub address_where : ℕ → List ℕ → Option Address
address_where has word = if has == 0 then None else Some (address_of word)

-- the sums that halves are
abbrev pub sums_of : Wide → Wide → PendingFills
sums_of coin pc = record { coin = whole coin; pc = whole pc }

-- the wallet that a number names
abbrev pub slot_in : ℕ → Option Slot
slot_in number =
    if number == 0 then Some First else
    if number == 1 then Some Second else
    if number == 2 then Some Third else
    if number == 3 then Some Fourth else None

-- the wallets that an instruction names under its roles
abbrev pub roles_in : Instruction → Roles
roles_in i = record {
  coin = slot_in i.coin;
  pc = slot_in i.pc;
  discount = slot_in i.discount;
  referrer = slot_in i.referrer;
}

-- what holds for all instructions
abbrev pub terms_in : Instruction → Terms
terms_in i = record {
  srm = address_where i.has_srm i.srm;
  msrm = address_where i.has_msrm i.msrm;
  program = if i.program == 0 then Serum else OpenBook;
}

-- the accounts, the wallets and the sums that are lent
abbrev pub accounts_of : MarketBytes → PlainMarketAccounts
accounts_of m =
    accounts_with (address_of m.address) (address_of m.authority) m.market.now m.coin_vault.now m.pc_vault.now
    m.requests.now m.events.now m.bids.now m.asks.now (accounts_in m.orders.now)

abbrev pub purse_of : WalletsBytes → Purse
purse_of w =
    purse_with (address_of w.first_address) w.first.now (address_of w.second_address) w.second.now
    (address_of w.third_address) w.third.now (address_of w.fourth_address) w.fourth.now

abbrev pub acting_on : MarketBytes → WalletsBytes → Acting
acting_on m w = acting (accounts_of m) (purse_of w) (sums_of m.pending_coin m.pending_pc)

-- the accounts stand for a sound market, the named wallets are token accounts of distinct addresses, and the sums are
-- those of the queue
pub record CanProcess (roles : Roles) (m : MarketBytes) (w : WalletsBytes) : Type 0 where
  pub sound : AreSound (accounts_of m)
  pub wallets : AreWallets roles (purse_of w)
  pub apart : AreApart roles (purse_of w)
  pub pending : sums_of m.pending_coin m.pending_pc ≡ pending_fills_of (market_in (accounts_of m)).events

-- what was asked was done on what is lent, or refused
abbrev pub HasAnswered : Roles → Terms → Ask → Reply → MarketBytes → WalletsBytes → MarketBytes → WalletsBytes → Type 0
HasAnswered roles terms ask reply m w after moved =
    HasProcessed roles reply (acting_on m w) (acting_on after moved)
    (step_of ask (seen_by roles terms (purse_of w)) (accounts_of m))

-- what an instruction asks, of accounts of these addresses
abbrev pub request_by : Instruction → List Address → Request
request_by i named = record {
  instruction = decoded i.data.now;
  signer = address_of i.signer;
  named = named;
  now = i.clock;
}

-- what an instruction asks
abbrev pub request_in : Instruction → Request
request_in i = request_by i (take i.named_count (names_in i.named))

-- an instruction was done on what is lent, or refused, and its reply told: by the reply's own numbers, all others 0
pub record HasProcessedOn (i : Instruction) (numbers : ReplyNumbers) (before after : Acting) : Type 0 where
  pub reply : Reply
  pub exact : numbers ≡ numbers_of reply
  pub told : reply_in numbers ≡ Some reply
  pub processed : HasProcessed (roles_in i) reply before after
      (step (request_in i) (seen_by (roles_in i) (terms_in i) before.wallets) (market_in before.accounts))

-- how an instruction ends: it was done or refused; or it names too many accounts, and nothing was changed
abbrev pub EndsOn : Instruction → ReplyNumbers → Acting → Acting → Type 0
EndsOn i numbers before after =
    ((i.named_count ≤ 16) × HasProcessedOn i numbers before after)
    ⊎ ((16 < i.named_count) × (numbers ≡ too_many) × (after ≡ before))

-- the same, of what is lent
abbrev pub HasProcessedIn : Instruction → ReplyNumbers → MarketBytes → WalletsBytes → MarketBytes → WalletsBytes
    → Type 0
HasProcessedIn i numbers m w after moved = HasProcessedOn i numbers (acting_on m w) (acting_on after moved)

abbrev pub EndsIn : Instruction → ReplyNumbers → MarketBytes → WalletsBytes → MarketBytes → WalletsBytes → Type 0
EndsIn i numbers m w after moved = EndsOn i numbers (acting_on m w) (acting_on after moved)

-- each of a market's accounts lies where it did
pub record KeepsMarketPlaces (m after : MarketBytes) : Type 0 where
  pub market : after.market.ghost_name ≡ m.market.ghost_name
  pub coin_vault : after.coin_vault.ghost_name ≡ m.coin_vault.ghost_name
  pub pc_vault : after.pc_vault.ghost_name ≡ m.pc_vault.ghost_name
  pub requests : after.requests.ghost_name ≡ m.requests.ghost_name
  pub events : after.events.ghost_name ≡ m.events.ghost_name
  pub bids : after.bids.ghost_name ≡ m.bids.ghost_name
  pub asks : after.asks.ghost_name ≡ m.asks.ghost_name
  pub orders : after.orders.ghost_name ≡ m.orders.ghost_name

-- each account and each wallet lies where it did: what was written is seen by whoever lent it
pub record KeepsPlaces (m : MarketBytes) (w : WalletsBytes) (after : MarketBytes) (moved : WalletsBytes) : Type 0 where
  pub market : KeepsMarketPlaces m after
  pub first : moved.first.ghost_name ≡ w.first.ghost_name
  pub second : moved.second.ghost_name ≡ w.second.ghost_name
  pub third : moved.third.ghost_name ≡ w.third.ghost_name
  pub fourth : moved.fourth.ghost_name ≡ w.fourth.ghost_name
