-- What the types of an outcome's parts say of them, and where the movements of its entries stand.
use Rattle.std.specs.Prelude.{◌≡◌, ◌<◌, ◌^◌, Bool, true, List, [], ◌∷◌, length, Option, Some, None, is_none}
use Rattle.std.specs.Int.{w64}
use Rattle.std.specs.Int.RustNames.{FitsSigned}
use Rattle.std.specs.List.{All, list_all}
use Rattle.dex_types.specs.declared.addresses.Address.{Address}
use Rattle.dex_types.specs.declared.movements.Entry.{Entry}
use Rattle.dex_types.specs.declared.movements.Movement.{Movement}
use Rattle.dex_types.specs.declared.movements.WalletEntry.{WalletEntry}
use Rattle.dex_types.specs.declared.refusals.Refusal.{Refusal}
use Rattle.dex_types.specs.declared.refusals.Refusal.TheVariants as refusal
use Rattle.dex_types.specs.declared.replies.Reply.{Reply}
use Rattle.dex_types.specs.declared.replies.Reply.TheVariants.{Ordered, Took, Cancelled, Consumed, Settled, Swept, Done, Refused}
use Rattle.dex_state.specs.Held.{HoldBytes, IsAddress}
use Rattle.dex_state.specs.Outcomes.{PlainMarketJournal, PlainOutcome, PlainWalletJournal}

-- the movements stand from the front: after an empty place there is none
abbrev pub stand_from_front : List (Option Movement) → Bool
stand_from_front [] = true
stand_from_front (Some movement ∷ rest) = stand_from_front rest
stand_from_front (None ∷ rest) = list_all is_none rest

-- the values of a refusal fit: addresses 32 bytes, times 64 bits, other numbers 128
abbrev pub FitRefusal : Refusal → Type 0
FitRefusal (refusal.BadData a) = Unit {0}
FitRefusal refusal.MarketDisabled = Unit {0}
FitRefusal refusal.NoAccount = Unit {0}
FitRefusal refusal.AccountExists = Unit {0}
FitRefusal (refusal.NotOwner a) = IsAddress a
FitRefusal (refusal.NotAuthority a) = IsAddress a
FitRefusal (refusal.WrongMint a) = IsAddress a
FitRefusal (refusal.WalletNotSigned a) = IsAddress a
FitRefusal (refusal.NotEmpty a b) = (a < 2 ^ 128) × (b < 2 ^ 128)
FitRefusal refusal.TooManyOpenOrders = Unit {0}
FitRefusal refusal.AskTooLarge = Unit {0}
FitRefusal refusal.SequenceExhausted = Unit {0}
FitRefusal (refusal.TimePast a b) = FitsSigned w64 a × FitsSigned w64 b
FitRefusal refusal.OrderNotFound = Unit {0}
FitRefusal refusal.SideMismatch = Unit {0}
FitRefusal (refusal.OrderNotYours a) = IsAddress a
FitRefusal refusal.ClientIdZero = Unit {0}
FitRefusal refusal.ClientIdNotFound = Unit {0}
FitRefusal (refusal.WouldSelfTrade a) = (a < 2 ^ 128)
FitRefusal (refusal.BelowMinimum a) = (a < 2 ^ 128)
FitRefusal (refusal.EventQueueFull a b) = (a < 2 ^ 128) × (b < 2 ^ 128)
FitRefusal (refusal.InsufficientFunds a b) = (a < 2 ^ 128) × (b < 2 ^ 128)
FitRefusal (refusal.BalanceTooLarge a b) = (a < 2 ^ 128) × (b < 2 ^ 128)
FitRefusal (refusal.SumTooLarge a b) = (a < 2 ^ 128) × (b < 2 ^ 128)

-- the values of a reply fit 128 bits
abbrev pub FitReply : Reply → Type 0
FitReply (Ordered a b c d e f) = (a < 2 ^ 128) × (b < 2 ^ 128) × (c < 2 ^ 128) × (d < 2 ^ 128) × (e < 2 ^ 128) × (f < 2 ^ 128)
FitReply (Took a b c) = (a < 2 ^ 128) × (b < 2 ^ 128) × (c < 2 ^ 128)
FitReply (Cancelled a) = (a < 2 ^ 128)
FitReply (Consumed a) = (a < 2 ^ 128)
FitReply (Settled a b c) = (a < 2 ^ 128) × (b < 2 ^ 128) × (c < 2 ^ 128)
FitReply (Swept a) = (a < 2 ^ 128)
FitReply Done = Unit {0}
FitReply (Refused why) = FitRefusal why

-- a movement, where there is one
abbrev pub FitMove : Option Movement → Type 0
FitMove None = Unit {0}
FitMove (Some movement) = IsAddress movement.wallet × (movement.amount < 2 ^ 64) × (movement.before < 2 ^ 64)

-- an entry of a market's journal
pub record FitEntry (entry : Entry) : Type 0 where
  pub lane : entry.lane < 2 ^ 32
  pub row : entry.row < 2 ^ 32
  pub reply : FitReply entry.reply
  pub places : length entry.moves ≡ 4
  pub moves : All FitMove entry.moves

-- an entry of a wallet's journal
pub record FitWalletEntry (entry : WalletEntry) : Type 0 where
  pub market : IsAddress entry.market
  pub lane : entry.lane < 2 ^ 32
  pub row : entry.row < 2 ^ 32
  pub amount : entry.amount < 2 ^ 64
  pub before : entry.before < 2 ^ 64

-- a journal: its address has 32 bytes, its entries can be counted, and this holds of each
pub record IsJournal {A : Type 0} (Holds : A → Type 0) (place : Address) (items : List A) : Type 0 where
  pub address : IsAddress place
  pub count : length items < 2 ^ 64
  pub entries : All Holds items

-- the values of a market's journal fit
abbrev pub FitMarket : PlainMarketJournal → Type 0
FitMarket journal = IsJournal FitEntry journal.address journal.entries

-- an entry whose values fit, and whose movements stand from the front
pub record IsTold (entry : Entry) : Type 0 where
  pub fits : FitEntry entry
  pub front : stand_from_front entry.moves ≡ true

-- the journal of a market
abbrev pub IsToldMarket : PlainMarketJournal → Type 0
IsToldMarket journal = IsJournal IsTold journal.address journal.entries

-- the journal of a wallet
abbrev pub IsToldWallet : PlainWalletJournal → Type 0
IsToldWallet journal = IsJournal FitWalletEntry journal.address journal.entries

-- an outcome whose values fit their types, and the movements of whose entries stand from the front
pub record IsToldOutcome (outcome : PlainOutcome) : Type 0 where
  pub accounts : HoldBytes outcome.accounts
  pub markets : All IsToldMarket outcome.markets
  pub wallets : All IsToldWallet outcome.wallets

-- all values of an outcome fit: addresses 32 bytes, lanes and rows 32 bits, amounts of movements 64, numbers of replies
-- and refusals 128
pub record FitOutcome (outcome : PlainOutcome) : Type 0 where
  pub accounts : HoldBytes outcome.accounts
  pub markets : All FitMarket outcome.markets
  pub wallets : All IsToldWallet outcome.wallets

-- the movements of each entry of a market's journal stand from the front
abbrev pub AreInFront : PlainMarketJournal → Type 0
AreInFront journal = All (λ (entry : Entry). stand_from_front entry.moves ≡ true) journal.entries
