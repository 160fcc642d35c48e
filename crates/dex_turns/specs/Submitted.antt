-- What a row leaves of a seat.
use Rattle.std.specs.Prelude.{ℕ, ◌≡◌, ◌<◌, ◌||◌, ◌++◌, ◌∷◌, [], All, Bool, true, false, List, length, take}
use Rattle.dex_types.specs.declared.addresses.Address.{Address}
use Rattle.dex_types.specs.declared.movements.WalletEntry.{WalletEntry}
use Rattle.dex_types.specs.declared.replies.Reply.{Reply}
use Rattle.dex_types.specs.Accounts.{PlainAccount, PlainMarketAccounts}
use Rattle.dex_types.specs.Addresses.{is_same}
use Rattle.dex_types.specs.Rows.{PlainRow}
use Rattle.dex_types.specs.WalletJournal.{IsWalletLegal}
use Rattle.dex_accounts.specs.Decoded.{market_in}
use Rattle.dex_world.specs.Fold.{names}
use Rattle.dex_gate.specs.History.{Extends}
use Rattle.dex_gate.specs.PassView.{PassView}
use Rattle.dex_history.specs.Journal.{Call, IsLegal, asked_of, is_done, is_held, is_refusal, is_took}
use Rattle.dex_wallet.specs.CellState.{balance_of}
use Rattle.dex_world.specs.Lists.{AllThree}
use Rattle.dex_script_types.specs.Sight.{IsSight}
use Rattle.dex_stamps.specs.Stamped.{Stamped, items_of}
use Rattle.dex_journals.specs.StampedCalls.{entries_in}
use Rattle.dex_world.specs.Items.{rows_of_lane}
use Rattle.dex_journals.specs.Lanes.{AreAllOrNone, MovesEach}
use Rattle.dex_script_types.specs.Facts.{AreLegs}
use Rattle.dex_turns.specs.Seats.{MarketPass, SeatState, WalletPass}

-- a pass with a longer history, and with these entries made
abbrev pub grown : {E O : Type 0} → PassView E O → List E → List E → PassView E O
grown pass seen made = record pass { seen = seen; mine = pass.mine ++ made }

-- a pass has seen a longer history, which is such and ends with these, and has made these
pub record HasMade {E O : Type 0} (made : List E) (Legal : List E → Type 0) (before after : PassView E O)
    : Type 0 where
  pub pass : after ≡ grown before after.seen made
  pub seen : Extends before.seen after.seen
  pub earlier : List E
  pub last : after.seen ≡ earlier ++ made
  pub legal : Legal after.seen

-- the row is one on this market: the pass has seen a longer history, which is legal from the market's start and ends
-- with the call, and has made the call
abbrev pub HasCalled : Stamped Call → PlainMarketAccounts → MarketPass → MarketPass → Type 0
HasCalled call start before after =
    HasMade (call ∷ []) (λ (seen : List (Stamped Call)). IsLegal (market_in start) (items_of seen)) before after

-- what an item writes into the journals of wallets: its lane, its stamp, and its entries in the journal of each
pub record Written : Type 0 where
  pub lane : ℕ
  pub stamp : ℕ
  pub at : Address → List (Stamped WalletEntry)

-- what the calls of two legs write, under their one stamp
abbrev pub written_by_two : Stamped Call → Stamped Call → Written
written_by_two one two = record {
  lane = one.item.asked.lane;
  stamp = one.stamp;
  at = λ address. entries_in address one ++ entries_in address two;
}

-- what the call of a row writes
abbrev pub written_by : Stamped Call → Written
written_by call = record { lane = call.item.asked.lane; stamp = call.stamp; at = λ address. entries_in address call }

-- the item names this wallet: the pass has seen a longer history of movements, which is legal from the wallet's first
-- amount and ends with what the item writes there, and has made that
abbrev pub HasWritten : Written → PlainAccount → WalletPass → WalletPass → Type 0
HasWritten written start before after =
    HasMade (written.at start.address)
    (λ (seen : List (Stamped WalletEntry)). IsWalletLegal (balance_of start.bytes) (items_of seen)) before after

-- a pass has written what a row's call writes
abbrev pub HasMoved : Stamped Call → PlainAccount → WalletPass → WalletPass → Type 0
HasMoved call start before after = HasWritten (written_by call) start before after

-- where a row acts on a market or wallet, this holds of its pass; and else the pass is as it was
abbrev pub Where : Bool → Type 0 → Type 0 → Type 0
Where true here elsewhere = here
Where false here elsewhere = elsewhere

-- where the first or the second of two acts on a market or wallet, this holds of its pass; and where neither does, it
-- is as it was
pub record WhereEither (one other : Bool) (One Other Elsewhere : Type 0) : Type 0 where
  pub first : one ≡ true → One
  pub second : other ≡ true → Other
  pub neither : one ≡ false → other ≡ false → Elsewhere

-- the pass of a market has grown by the call where the row acts on it, and else is as it was
abbrev pub MarketGrows : PlainRow → Stamped Call → PlainMarketAccounts → MarketPass → MarketPass → Type 0
MarketGrows row call start before after =
    Where (is_same row.market start.address) (HasCalled call start before after) (after ≡ before)

-- the pass of a wallet has grown by the call where the row names it, and else is as it was
abbrev pub WalletGrows : PlainRow → Stamped Call → PlainAccount → WalletPass → WalletPass → Type 0
WalletGrows row call start before after =
    Where (names row start.address) (HasMoved call start before after) (after ≡ before)

-- the row is the next of the seat's lane, after those of its calls, whose numbers are lower; and it is an item by
-- itself: those after it have higher numbers
pub record IsNext (row : PlainRow) (seat : SeatState) : Type 0 where
  pub later : List PlainRow
  pub is : rows_of_lane seat.lane seat.script.rows
      ≡ take (length seat.calls) (rows_of_lane seat.lane seat.script.rows) ++ row ∷ later
  pub lower : All (λ (one : PlainRow). one.number < row.number)
      (take (length seat.calls) (rows_of_lane seat.lane seat.script.rows))
  pub alone : All (λ (other : PlainRow). row.number < other.number) later

-- a row was submitted at a seat: its lane has one call more, which is this row's, has this reply, was not held back,
-- saw the script's wallets, and moves each wallet that the row names once; and the passes of its market and of these
-- wallets have grown by it, and no others
pub record HasSubmitted (row : PlainRow) (reply : Reply) (before after : SeatState) : Type 0 where
  pub call : Stamped Call
  pub asked : call.item.asked ≡ asked_of row
  pub answered : call.item.entry.reply ≡ reply
  pub own : is_held call.item ≡ false
  pub sees : IsSight before.script call.item.seen
  pub moves : MovesEach call.item
  pub lane : after.lane ≡ before.lane
  pub script : after.script ≡ before.script
  pub calls : after.calls ≡ before.calls ++ call ∷ []
  pub markets : AllThree (MarketGrows row call) before.script.start.markets before.markets after.markets
  pub wallets : AllThree (WalletGrows row call) before.script.start.wallets before.wallets after.wallets

-- ---- the two legs of a swap

-- the passes of markets and wallets have grown by the call of the leg that acts on them, and else are as they were
abbrev pub LegMarketGrows : PlainRow → PlainRow → Stamped Call → Stamped Call → PlainMarketAccounts
    → MarketPass → MarketPass → Type 0
LegMarketGrows first second one two start before after =
    WhereEither (is_same first.market start.address) (is_same second.market start.address)
    (HasCalled one start before after) (HasCalled two start before after) (after ≡ before)

abbrev pub LegWalletGrows : PlainRow → PlainRow → Stamped Call → Stamped Call → PlainAccount
    → WalletPass → WalletPass → Type 0
LegWalletGrows first second one two start before after =
    WhereEither (names first start.address) (names second start.address) (HasMoved one start before after)
    (HasMoved two start before after) (after ≡ before)

-- the rows are the two legs of one swap, and the next of the seat's lane, after those of its calls, whose numbers are
-- lower
pub record AreNext (first second : PlainRow) (seat : SeatState) : Type 0 where
  pub later : List PlainRow
  pub are : rows_of_lane seat.lane seat.script.rows
      ≡ take (length seat.calls) (rows_of_lane seat.lane seat.script.rows) ++ first ∷ second ∷ later
  pub lower : All (λ (one : PlainRow). one.number < first.number)
      (take (length seat.calls) (rows_of_lane seat.lane seat.script.rows))
  pub together : second.number ≡ first.number
  pub legs : AreLegs first second

-- the replies to two legs: both took; or one at least is a refusal, neither took, and each that is no refusal tells
-- that nothing was done, which it does only where the other is a refusal
pub record AreLegReplies (one other : Reply) : Type 0 where
  pub both : is_took one ≡ is_took other
  pub refused : is_took one ≡ false → (is_refusal one || is_refusal other) ≡ true
  pub done : is_done one ≡ true → is_refusal other ≡ true
  pub other_done : is_done other ≡ true → is_refusal one ≡ true
  pub told : (is_took one || is_refusal one || is_done one) ≡ true
  pub other_told : (is_took other || is_refusal other || is_done other) ≡ true

-- two legs were submitted at a seat: its lane has two calls more, which are theirs, under one stamp; both acted, or one
-- at least was refused and each other held back; each saw the script's wallets and moves each wallet that its leg names
-- once; and the passes of their markets and wallets have grown by them, each by that of the leg that acts there, and no
-- others
pub record HaveSubmitted (first second : PlainRow) (replies : Reply × Reply) (before after : SeatState) : Type 0 where
  pub one : Stamped Call
  pub two : Stamped Call
  pub asked : (one.item.asked ≡ asked_of first) × (two.item.asked ≡ asked_of second)
  pub answered : (one.item.entry.reply ≡ replies.0) × (two.item.entry.reply ≡ replies.1)
  pub replies_are : AreLegReplies replies.0 replies.1
  pub together : two.stamp ≡ one.stamp
  pub all_or_none : AreAllOrNone (record { first = one; others = two ∷ [] })
  pub sees : IsSight before.script one.item.seen × IsSight before.script two.item.seen
  pub moves : MovesEach one.item × MovesEach two.item
  pub lane : after.lane ≡ before.lane
  pub script : after.script ≡ before.script
  pub calls : after.calls ≡ before.calls ++ one ∷ two ∷ []
  pub markets : AllThree (LegMarketGrows first second one two) before.script.start.markets before.markets after.markets
  pub wallets : AllThree (LegWalletGrows first second one two) before.script.start.wallets before.wallets after.wallets
