-- The wallets that an instruction names: what it sees of them, and how it moves them.
use Rattle.std.specs.Prelude.{ℕ, ◌+◌, ◌-◌, ◌<◌, ◌≤◌, ◌^◌, ◌≡◌, ◌⊎◌, ◌==◌, ◌&&◌, Bool, true, false, if◌then◌else◌, List, Option, Some, None}
use Rattle.dex_token.specs.TokenAccount.{IsWallet, wallet_words, with_amount}
use Rattle.dex_history.specs.Journal.{Asked}
use Rattle.dex_types.specs.declared.addresses.Address.{Address}
use Rattle.dex_types.specs.declared.rows.Seen.{Seen}
use Rattle.dex_types.specs.declared.rows.WalletSeen.{WalletSeen}
use Rattle.dex_types.specs.Accounts.{PlainAccount}
use Rattle.dex_types.specs.Addresses.{is_same}
use Rattle.dex_types.specs.Transfers.{Transfers}
use Rattle.dex_purse.specs.declared.lent_wallets.LentWallets.{LentWallets}
use Rattle.dex_purse.specs.declared.lent_wallets.Roles.{Roles}
use Rattle.dex_purse.specs.declared.lent_wallets.Slot.{Slot}
use Rattle.dex_purse.specs.declared.lent_wallets.Slot.TheVariants.{First, Second, Third, Fourth}

abbrev pub TheSlot : Type 0
TheSlot = Slot

-- four wallets, by their addresses and bytes
pub record Purse : Type 0 where
  pub first : PlainAccount
  pub second : PlainAccount
  pub third : PlainAccount
  pub fourth : PlainAccount

-- what is lent
abbrev pub purse_of : LentWallets → Purse
purse_of lent = record {
  first = record { address = lent.first_address; bytes = lent.first.now };
  second = record { address = lent.second_address; bytes = lent.second.now };
  third = record { address = lent.third_address; bytes = lent.third.now };
  fourth = record { address = lent.fourth_address; bytes = lent.fourth.now };
}

-- the same memory is lent before and after
pub record AreSameLoans (before after : LentWallets) : Type 0 where
  pub first : after.first.ghost_name ≡ before.first.ghost_name
  pub second : after.second.ghost_name ≡ before.second.ghost_name
  pub third : after.third.ghost_name ≡ before.third.ghost_name
  pub fourth : after.fourth.ghost_name ≡ before.fourth.ghost_name

-- the wallet of a place
abbrev pub wallet_at : Slot → Purse → PlainAccount
wallet_at First purse = purse.first
wallet_at Second purse = purse.second
wallet_at Third purse = purse.third
wallet_at Fourth purse = purse.fourth

-- this holds of the place that a role names, if it names one
abbrev pub IfNamed : Option Slot → (Slot → Type 0) → Type 0
IfNamed None P = Unit {0}
IfNamed (Some slot) P = P slot

-- what an instruction sees of a wallet
abbrev pub seen_in : PlainAccount → WalletSeen
seen_in wallet = record {
  address = wallet.address;
  mint = (wallet_words wallet.bytes).mint;
  owner = (wallet_words wallet.bytes).owner;
  balance = (wallet_words wallet.bytes).amount;
}

-- what an instruction sees under a role
abbrev pub seen_as : Option Slot → Purse → Option WalletSeen
seen_as None purse = None
seen_as (Some slot) purse = Some (seen_in (wallet_at slot purse))

-- two places are one
abbrev pub is_slot : Slot → Slot → Bool
is_slot First First = true
is_slot Second Second = true
is_slot Third Third = true
is_slot Fourth Fourth = true
is_slot _ _ = false

-- the amount of a role, where it names this wallet
abbrev pub amount_for : Slot → Option Slot → ℕ → ℕ
amount_for slot None amount = 0
amount_for slot (Some other) amount = if is_slot slot other then amount else 0

-- the native amount that transfers take from a wallet
abbrev pub taken_at : Slot → Roles → Transfers → ℕ
taken_at slot roles t = amount_for slot roles.coin t.coin_in + amount_for slot roles.pc t.pc_in

-- the native amount that transfers bring to a wallet, under all its roles together
abbrev pub brought_at : Slot → Roles → Transfers → ℕ
brought_at slot roles t =
    amount_for slot roles.coin t.coin_out + amount_for slot roles.pc t.pc_out + amount_for slot roles.referrer t.referrer_out

-- nothing moves, or the bytes are a wallet that has what is taken, and its balance with what is brought stays below 2^64
abbrev pub CanMove : ℕ → ℕ → List ℕ → Type 0
CanMove taken brought bytes =
    ((taken ≡ 0) × (brought ≡ 0))
    ⊎ (IsWallet bytes × (taken ≤ (wallet_words bytes).amount) × ((brought ≡ 0) ⊎ ((wallet_words bytes).amount + brought < 2 ^ 64)))

-- a wallet after it
abbrev pub moved : ℕ → ℕ → List ℕ → List ℕ
moved taken brought bytes =
    if (taken == 0) && (brought == 0) then bytes else with_amount bytes ((wallet_words bytes).amount + brought - taken)

-- each wallet can be moved
abbrev pub CanMoveEach : Roles → Transfers → Purse → Type 0
CanMoveEach roles t purse = (slot : Slot) → CanMove (taken_at slot roles t) (brought_at slot roles t) (wallet_at slot purse).bytes

abbrev moved_at : Slot → Roles → Transfers → PlainAccount → PlainAccount
moved_at slot roles t wallet = record wallet { bytes = moved (taken_at slot roles t) (brought_at slot roles t) wallet.bytes }

-- all wallets after the transfers
abbrev pub moved_by : Roles → Transfers → Purse → Purse
moved_by roles t purse = record {
  first = moved_at First roles t purse.first;
  second = moved_at Second roles t purse.second;
  third = moved_at Third roles t purse.third;
  fourth = moved_at Fourth roles t purse.fourth;
}

-- ---- beside what a row sees

-- a role names a place
abbrev pub names : Slot → Option Slot → Bool
names slot None = false
names slot (Some other) = is_slot slot other

-- a place is named under some role
abbrev pub IsNamed : Slot → Roles → Type 0
IsNamed slot roles =
    (names slot roles.coin ≡ true)
    ⊎ ((names slot roles.pc ≡ true) ⊎ ((names slot roles.discount ≡ true) ⊎ (names slot roles.referrer ≡ true)))

-- an instruction sees the wallets that it names
pub record Sees (roles : Roles) (purse : Purse) (seen : Seen) : Type 0 where
  pub coin : seen.coin ≡ seen_as roles.coin purse
  pub pc : seen.pc ≡ seen_as roles.pc purse
  pub discount : seen.discount ≡ seen_as roles.discount purse
  pub referrer : seen.referrer ≡ seen_as roles.referrer purse

-- no two of the wallets that are named have one address
abbrev pub AreApart : Roles → Purse → Type 0
AreApart roles purse = (one other : Slot) → IsNamed one roles → IsNamed other roles
    → is_same (wallet_at one purse).address (wallet_at other purse).address ≡ is_slot one other

-- each place that is named has a wallet
abbrev pub AreWallets : Roles → Purse → Type 0
AreWallets roles purse = (slot : Slot) → IsNamed slot roles → IsWallet (wallet_at slot purse).bytes

-- the address that a role names
abbrev pub address_as : Option Slot → Purse → Option Address
address_as None purse = None
address_as (Some slot) purse = Some (wallet_at slot purse).address

-- what was asked for names the wallets of these roles
pub record Names (asked : Asked) (roles : Roles) (purse : Purse) : Type 0 where
  pub coin : asked.coin ≡ address_as roles.coin purse
  pub pc : asked.pc ≡ address_as roles.pc purse
  pub discount : asked.discount ≡ address_as roles.discount purse
  pub referrer : asked.referrer ≡ address_as roles.referrer purse
