-- What holds of every script.
use Rattle.std.specs.Prelude.{◌≡◌, ℕ, ◌+◌, ◌<◌, ◌≤◌, true, false, List, [], ◌∷◌, None, length, max, slice_index_or, All}
use Rattle.std.specs.List.{AllPairs}
use Rattle.dex_types.specs.declared.addresses.Address.{Address}
use Rattle.dex_types.specs.Accounts.{PlainAccounts}
use Rattle.dex_types.specs.Rows.{PlainRow}
use Rattle.dex_accounts.specs.Decoded.{AreSound}
use Rattle.dex_types.specs.declared.limits.Limits.{Limits}
use Rattle.dex_state.specs.Conserved.{IsConserved}
use Rattle.dex_state.specs.Accepted.{AreAccepted}
use Rattle.dex_instruction.specs.Reading.{decoded}
use Rattle.dex_history.specs.Journal.{is_take_or_bad}
use Rattle.dex_world.specs.Fold.{is_role}
use Rattle.dex_world.specs.Items.{ShareNothing, items_of}
use Rattle.dex_script_types.specs.PlainScript.{PlainScript}
use Rattle.dex_script_types.specs.Known.{has_market, is_known_role}

-- accounts that a script within these limits can start with: they are accepted, market by market those of a sound
-- market, and of each mint wallets and vaults hold its supply
pub record IsStart (limits : Limits) (accounts : PlainAccounts) : Type 0 where
  pub accepted : AreAccepted limits accounts
  pub sound : All AreSound accounts.markets
  pub conserved : All (IsConserved accounts) accounts.mints

-- the highest lane of some rows and 1, or 1
abbrev pub lanes_of : List PlainRow → ℕ
lanes_of [] = 1
lanes_of (row ∷ rows) = max (row.lane + 1) (lanes_of rows)

-- a row names only markets and wallets of these accounts, and is within the limits
pub record IsRowOf (start : PlainAccounts) (row : PlainRow) : Type 0 where
  pub market : has_market row.market start.markets ≡ true
  pub coin : is_known_role start.wallets row.coin ≡ true
  pub pc : is_known_role start.wallets row.pc ≡ true
  pub discount : is_known_role start.wallets row.discount ≡ true
  pub referrer : is_known_role start.wallets row.referrer ≡ true
  pub lane : row.lane < 16
  pub named : length row.named ≤ 16
  pub bytes : length row.bytes ≤ 256

-- a row that may be a leg of a swap: its data is a take's or does not decode, its coin and its pc wallet are not one,
-- and it names no open-orders account, no discount and no referrer
pub record IsLeg (row : PlainRow) : Type 0 where
  pub take : is_take_or_bad (decoded row.bytes) ≡ true
  pub wallets : (wallet : Address) → is_role row.coin wallet ≡ true → is_role row.pc wallet ≡ false
  pub named : row.named ≡ []
  pub discount : row.discount ≡ None
  pub referrer : row.referrer ≡ None

-- two legs of one swap: they are of one lane and one signer, at one time, and share no market and no wallet
pub record AreLegs (one other : PlainRow) : Type 0 where
  pub lane : one.lane ≡ other.lane
  pub signer : one.signer ≡ other.signer
  pub now : one.now ≡ other.now
  pub first : IsLeg one
  pub second : IsLeg other
  pub apart : ShareNothing one other

-- no two of these rows have one number: there is no swap
abbrev pub HasNoSwap : List PlainRow → Type 0
HasNoSwap rows = AllPairs (λ (one other : PlainRow). one.number < other.number) rows

-- of three neighbours the first and the last have two numbers: no three rows have one
abbrev pub HasNoThree : List PlainRow → Type 0
HasNoThree rows =
    (place : ℕ) (row : PlainRow) → place + 2 < length rows
    → (slice_index_or rows place row).number < (slice_index_or rows (place + 2) row).number

-- the rows of a script: not too many items, each row of the start, with numbers that never fall, and rows of one number
-- are two legs
pub record AreRows (script : PlainScript) : Type 0 where
  pub few : length (items_of script.rows) ≤ script.limits.items
  pub each : All (IsRowOf script.start) script.rows
  pub rising : AllPairs (λ (one other : PlainRow). one.number ≤ other.number) script.rows
  pub legs : AllPairs (λ (one other : PlainRow). one.number ≡ other.number → AreLegs one other) script.rows
  pub two : HasNoThree script.rows
  pub lanes : script.lanes ≡ lanes_of script.rows

-- what holds of every script
pub record IsScript (script : PlainScript) : Type 0 where
  pub start : IsStart script.limits script.start
  pub rows : AreRows script
