-- An item while it has turns: those of its markets, and those of the first of its wallets, whose cells are in hand.
use Rattle.std.specs.Prelude.{ℕ, ◌≡◌, ◌<◌, ◌==◌, true, false, List, [], ◌∷◌, ◌++◌, Option, Some, None, All}
use Rattle.std.specs.Prelude.{drop, if◌then◌else◌, length, map, slice_index_or, slice_set}
use Rattle.std.specs.List.{AllZip, Any, list_any}
use Rattle.dex_types.specs.declared.addresses.Address.{Address}
use Rattle.dex_types.specs.declared.movements.WalletEntry.{WalletEntry}
use Rattle.dex_world.specs.declared.places.RowWallets.{RowWallets}
use Rattle.dex_types.specs.Accounts.{PlainAccount, PlainMarketAccounts}
use Rattle.dex_types.specs.Addresses.{is_same}
use Rattle.dex_types.specs.Rows.{PlainRow}
use Rattle.dex_types.specs.Wallets.{is_lower, with_address}
use Rattle.dex_types.specs.WalletJournal.{IsWalletLegal}
use Rattle.dex_gate.specs.AwayView.{AwayView}
use Rattle.dex_gate.specs.GateView.{GateView}
use Rattle.dex_gate.specs.History.{AddsOne, Extends, added, of_lane}
use Rattle.dex_gate.specs.PassView.{PassView}
use Rattle.dex_gate.specs.declared.stage.Stage.TheVariants.{Idle, Out}
use Rattle.dex_history.specs.Journal.{Call, is_held}
use Rattle.dex_wallet.specs.CellState.{CellState, HasSpare, IsWalletCell, balance_of}
use Rattle.dex_act.specs.Wallets.{made_of}
use Rattle.dex_script_types.specs.PlainScript.{PlainScript}
use Rattle.dex_script_types.specs.Facts.{AreLegs}
use Rattle.dex_script_types.specs.Places.{wallet_place}
use Rattle.dex_world.specs.Lists.{AllThree}
use Rattle.dex_world.specs.Places.{AreWalletsAt, wallets_of_roles}
use Rattle.dex_world.specs.RowsOf.{rows_of_market, rows_of_wallet}
use Rattle.dex_script_types.specs.Sight.{IsSight}
use Rattle.dex_stamps.specs.Stamped.{Stamped, items_of}
use Rattle.dex_journals.specs.Journals.{BankMarketState, IsBankMarket, IsBankWallet, MarketOrigin, TrailState}
use Rattle.dex_journals.specs.Journals.{calls_by, entries_by, left_by, market_calls, market_origin}
use Rattle.dex_journals.specs.Journals.{wallet_entries, wallet_origin}
use Rattle.dex_journals.specs.Lanes.{AreAllOrNone, MovesEach}
use Rattle.dex_turns.specs.declared.legs.TwoMarkets.{TwoMarkets}
use Rattle.dex_turns.specs.Bank.{BankState, MarketGate, WalletGate}
use Rattle.dex_turns.specs.Seats.{MarketPass, WalletPass}
use Rattle.dex_turns.specs.Submitted.{AreLegReplies, HasWritten, Where, Written}

-- ---- the order of turns

-- a pass holds a ticket, or its turn is out
abbrev pub HoldsTurn : {E O : Type 0} → PassView E O → Type 0
HoldsTurn pass = pass.stage ≡ Idle → ⊥

-- the market of a gate has a lower address than that of another
abbrev pub IsBelow : MarketGate → MarketGate → Type 0
IsBelow one two = is_lower one.origin.start.address two.origin.start.address ≡ true

-- a market's gate is above all of these passes that hold turns: theirs are of markets of lower addresses
abbrev pub IsAboveMarkets : MarketGate → List MarketPass → Type 0
IsAboveMarkets gate passes =
    All (λ (pass : MarketPass). HoldsTurn pass → (other : MarketGate) → pass.gate ≡ Some other → IsBelow other gate)
    passes

-- a wallet's gate, likewise
abbrev pub IsAboveWallets : WalletGate → List WalletPass → Type 0
IsAboveWallets gate passes =
    All (λ (pass : WalletPass). HoldsTurn pass → (other : WalletGate)
    → pass.gate ≡ Some other → is_lower other.origin.start.address gate.origin.start.address ≡ true) passes

-- none of these passes holds a turn
abbrev pub AreIdle : List MarketPass → Type 0
AreIdle passes = All (λ (pass : MarketPass). pass.stage ≡ Idle) passes

-- addresses that rise
abbrev pub AreRising : List Address → Type 0
AreRising [] = Unit {0}
AreRising (address ∷ others) = All (λ (other : Address). is_lower address other ≡ true) others × AreRising others

-- ---- its market

-- the market is the row's, and its lane may call once more
pub record MayCall (row : PlainRow) (market : BankMarketState) : Type 0 where
  pub on : row.market ≡ market.cell.accounts.address
  pub lane : calls_by row.lane market.cell.calls
      < length (rows_of_market row.lane market.cell.start.address market.script.rows)

-- the pass may draw at the gate of the row's market: it is of the row's lane, which has made fewer calls there than it
-- has rows
pub record MayEnter (script : PlainScript) (row : PlainRow) (gate : MarketGate)
    (pass : MarketPass) : Type 0 where
  pub home : pass.gate ≡ Some gate
  pub number : pass.number ≡ row.lane
  pub left : length pass.mine < length (rows_of_market row.lane gate.origin.start.address script.rows)
  pub idle : pass.stage ≡ Idle
  pub on : row.market ≡ gate.origin.start.address
  pub rows : gate.origin.script ≡ script
  pub opening : gate.opening ≡ []

-- the market's turn is out, with its value
pub record IsMarketOut (gate : MarketGate)
    (before after : MarketPass) (market : BankMarketState) : Type 0 where
  pub pass : after ≡ record before { stage = Out (market_calls market) }
  pub origin : market_origin market ≡ gate.origin
  pub seen : Extends before.seen (market_calls market)
  pub mine : of_lane (λ (call : Stamped Call). call.item.asked.lane) before.number
      (added gate.opening (market_calls market)) ≡ before.mine
  pub kept : IsBankMarket market

-- the market has the call after its others
pub record HasCall (call : Stamped Call) (before after : BankMarketState) : Type 0 where
  pub calls : after.cell.calls ≡ before.cell.calls ++ call.item ∷ []
  pub stamps : after.stamps ≡ before.stamps ++ call.stamp ∷ []
  pub start : after.cell.start ≡ before.cell.start
  pub script : after.script ≡ before.script
  pub kept : IsBankMarket after

-- ---- the markets of two legs

-- the market at a place among the gates is the row's, and its pass may draw
pub record MayEnterAt (bank : BankState) (row : PlainRow) (passes : List MarketPass) (place : ℕ) : Type 0 where
  pub within : (place < length bank.script.start.markets) × (place < length bank.markets) × (place < length passes)
  pub here : (start : PlainMarketAccounts)
      → (slice_index_or bank.script.start.markets place start).address ≡ row.market
  pub from : (start : PlainMarketAccounts) (gate : MarketGate)
      → (slice_index_or bank.markets place gate).origin.start ≡ slice_index_or bank.script.start.markets place start
  pub enters : (gate : MarketGate) (pass : MarketPass)
      → MayEnter bank.script row (slice_index_or bank.markets place gate) (slice_index_or passes place pass)

-- the pass at a place is of this gate, and holds no ticket
pub record IsHomeAt {E O : Type 0} (gate : GateView E O) (place : ℕ) (passes : List (PassView E O)) : Type 0 where
  pub within : place < length passes
  pub home : (pass : PassView E O) → (slice_index_or passes place pass).gate ≡ Some gate
  pub idle : (pass : PassView E O) → (slice_index_or passes place pass).stage ≡ Idle

-- what stays behind of the turn of a market, as it is seen
abbrev pub MarketAway : Type 0
MarketAway = AwayView (Stamped Call) MarketOrigin

-- what stays behind of the turn of the pass at a place, which was taken with these entries
abbrev pub IsAwayFor : {E O : Type 0} → GateView E O → ℕ → List (PassView E O) → List E → AwayView E O → Type 0
IsAwayFor {E} {O} gate place passes entries away = (pass : PassView E O) → away ≡ record {
  gate = Some gate;
  number = (slice_index_or passes place pass).number;
  start = entries;
}

-- the market may be given back with a call more, at the turn of the pass at a place
pub record MayLeaveAt (gate : MarketGate) (place : ℕ) (passes : List MarketPass)
    (away : MarketAway) (market : BankMarketState) : Type 0 where
  pub within : place < length passes
  pub away_home : away.gate ≡ Some gate
  pub home : (pass : MarketPass) → (slice_index_or passes place pass).gate ≡ Some gate
  pub number : (pass : MarketPass) → away.number ≡ (slice_index_or passes place pass).number
  pub out : (pass : MarketPass) → (slice_index_or passes place pass).stage ≡ Out away.start
  pub origin : market_origin market ≡ gate.origin
  pub adds : AddsOne (λ (call : Stamped Call). call.item.asked.lane) away.number away.start (market_calls market)

-- a pass whose turn was left with these calls, where there were those before
abbrev pub left_with : MarketPass → List (Stamped Call) → List (Stamped Call) → MarketPass
left_with pass before after = record pass { seen = after; mine = pass.mine ++ added before after; stage = Idle }

-- the pass at a place had seen a part of these
abbrev pub HasSeenAt : ℕ → List MarketPass → List (Stamped Call) → Type 0
HasSeenAt place passes calls = (pass : MarketPass) → Extends (slice_index_or passes place pass).seen calls

-- the turn of the market at a place is out, and the other passes are as they were
pub record IsOutAt (gate : MarketGate) (place : ℕ) (before after : List MarketPass) (market : BankMarketState)
    : Type 0 where
  pub out : MarketPass
  pub is : after ≡ slice_set before place out
  pub taken : (pass : MarketPass) → IsMarketOut gate (slice_index_or before place pass) out market

-- the turns of the markets at two places are out, and the other passes are as they were
pub record AreOutAt (one two : MarketGate) (place next : ℕ)
    (before after : List MarketPass) (first second : BankMarketState) : Type 0 where
  pub out : MarketPass
  pub out_next : MarketPass
  pub are : after ≡ slice_set (slice_set before place out) next out_next
  pub taken : (pass : MarketPass) → IsMarketOut one (slice_index_or before place pass) out first
  pub taken_next : (pass : MarketPass) → IsMarketOut two (slice_index_or before next pass) out_next second

-- ---- its wallets

-- where the wallet of an address stands among those with which a script starts
abbrev pub place_of : PlainScript → Address → Option ℕ
place_of script address = wallet_place address script.start.wallets

-- the markets of two legs, by rising address
abbrev pub leg_markets : PlainRow → PlainRow → List Address
leg_markets first second = with_address first.market (with_address second.market [])

-- the wallets that two legs name as coin and as pc, by rising address, each once. They name no others
abbrev pub leg_wallets : PlainRow → PlainRow → List Address
leg_wallets first second = wallets_of_roles first.coin first.pc second.coin second.pc

-- the wallets of two legs stand there, those of the second as if they were discount and referrer of the first
pub record AreLegsAt (script : PlainScript) (first second : PlainRow) (at : RowWallets) : Type 0 where
  pub legs : AreLegs first second
  pub wallets : AreWalletsAt (place_of script) first.coin first.pc second.coin second.pc at

-- the first of some places, and none where 65535 is the first, at which no wallet stands
abbrev pub first_in : List ℕ → Option ℕ
first_in [] = None
first_in (place ∷ places) = if place == 65535 then None else Some place

-- of the wallets of an item those that are still to come, when the cells of the others are in hand
abbrev pub left_of : List Address → List CellState → List Address
left_of named cells = drop (length cells) named

-- the cell is that of a wallet of the script, with room for an entry
pub record IsReady (script : PlainScript) (cell : CellState) : Type 0 where
  pub kept : IsWalletCell cell
  pub spare : HasSpare cell
  pub start : Any (λ (account : PlainAccount). account ≡ record { address = cell.address; bytes = cell.start })
      script.start.wallets

-- the cells are those of the first of these wallets, and these are the others' addresses
pub record AreInHand (script : PlainScript) (named : List Address) (others : List Address) (cells : List CellState)
    : Type 0 where
  pub ready : All (IsReady script) cells
  pub are : map (λ (cell : CellState). cell.address) cells ++ others ≡ named

-- the cell has the item's entry after its others
pub record HasEntry (written : Written) (before after : CellState) : Type 0 where
  pub entry : WalletEntry
  pub is : written.at before.address ≡ record { item = entry; stamp = written.stamp } ∷ []
  pub lane : entry.lane ≡ written.lane
  pub entries : after.entries ≡ before.entries ++ entry ∷ []
  pub made : made_of after ≡ made_of before
  pub kept : IsWalletCell after

-- ---- the passes for its wallets

-- a pass is of the lane, and where its wallet is still to come it holds no ticket, and its lane has made fewer entries
-- there than it has rows that name the wallet; where it holds a turn its wallet is below all that are still to come
pub record MayDraw (script : PlainScript) (lane : ℕ) (others : List Address) (start : PlainAccount) (pass : WalletPass)
    : Type 0 where
  pub number : pass.number ≡ lane
  pub idle : list_any (is_same start.address) others ≡ true → pass.stage ≡ Idle
  pub left : list_any (is_same start.address) others ≡ true
      → length pass.mine < length (rows_of_wallet lane start.address script.rows)
  pub below : HoldsTurn pass → All (λ (other : Address). is_lower start.address other ≡ true) others

-- the passes are those of this bank's gates, and may draw
pub record AreReady (bank : BankState) (lane : ℕ) (others : List Address) (passes : List WalletPass) : Type 0 where
  pub gates : AllZip (λ (gate : WalletGate) (pass : WalletPass). pass.gate ≡ Some gate) bank.wallets passes
  pub each : AllZip (MayDraw bank.script lane others) bank.script.start.wallets passes

-- the pass of a wallet has grown by what the item writes where it was still to come, and else is as it was
abbrev pub OneGrows : List Address → Written → PlainAccount → WalletPass → WalletPass → Type 0
OneGrows others written start before after =
    Where (list_any (is_same start.address) others) (HasWritten written start before after) (after ≡ before)

-- the passes of the wallets that were still to come have grown by what the item writes, and the others are as they were
abbrev pub HaveGrown : BankState → List Address → Written → List WalletPass → List WalletPass → Type 0
HaveGrown bank others written before after = AllThree (OneGrows others written) bank.script.start.wallets before after

-- ---- the turn of one wallet

-- the wallet's turn is out: its cell is in hand, and its trail is that of the gate's value
pub record IsOut (gate : WalletGate) (before after : WalletPass) (trail : TrailState) : Type 0 where
  pub pass : after ≡ record before { stage = Out (wallet_entries (left_by trail)) }
  pub origin : wallet_origin (left_by trail) ≡ gate.origin
  pub seen : Extends before.seen (wallet_entries (left_by trail))
  pub mine : of_lane (λ (entry : Stamped WalletEntry). entry.item.lane) before.number
      (added gate.opening (wallet_entries (left_by trail))) ≡ before.mine
  pub kept : IsBankWallet (left_by trail)

-- the turn of the wallet at a place is out, and the other passes are as they were
pub record IsWalletOutAt (gate : WalletGate) (place : ℕ) (before after : List WalletPass) (trail : TrailState)
    : Type 0 where
  pub out : WalletPass
  pub is : after ≡ slice_set before place out
  pub taken : (pass : WalletPass) → IsOut gate (slice_index_or before place pass) out trail

-- the item's entry may be given back with the cell
pub record MayLeave (written : Written) (gate : WalletGate) (pass : WalletPass) (trail : TrailState) (cell : CellState)
    : Type 0 where
  pub home : pass.gate ≡ Some gate
  pub out : pass.stage ≡ Out (wallet_entries (left_by trail))
  pub origin : wallet_origin (left_by trail) ≡ gate.origin
  pub entry : HasEntry written trail.before cell
  pub number : written.lane ≡ pass.number
  pub lane : entries_by written.lane trail.before.entries
      < length (rows_of_wallet written.lane trail.before.address trail.script.rows)
  pub stamp : trail.last < written.stamp

-- the turn was left: the pass has seen the entry after the others, and has made it
pub record HasLeft (written : Written) (trail : TrailState) (before after : WalletPass) : Type 0 where
  pub pass : after ≡ record before {
    seen = wallet_entries (left_by trail) ++ written.at trail.before.address;
    mine = before.mine ++ written.at trail.before.address;
    stage = Idle;
  }
  pub seen : Extends before.seen (wallet_entries (left_by trail) ++ written.at trail.before.address)
  pub legal : IsWalletLegal (balance_of trail.before.start)
      (items_of (wallet_entries (left_by trail) ++ written.at trail.before.address))

-- ---- what is told of an item

-- what is written is of this lane, under a stamp above this one
pub record IsWritten (lane stamp : ℕ) (written : Written) : Type 0 where
  pub of_lane : written.lane ≡ lane
  pub later : stamp < written.stamp

-- the call sees what a row of the script may see, and moves the wallets of its row
pub record IsTold (script : PlainScript) (call : Stamped Call) : Type 0 where
  pub sees : IsSight script call.item.seen
  pub moves : MovesEach call.item

-- a row alone acted on its market, and was not held back
pub record HasRowActed (script : PlainScript) (call : Stamped Call) (before after : BankMarketState) : Type 0 where
  pub own : is_held call.item ≡ false
  pub told : IsTold script call
  pub market : HasCall call before after

-- two legs acted on their markets under one stamp, both or neither
pub record HaveLegsActed (script : PlainScript) (one two : Stamped Call) (before after : TwoMarkets) : Type 0 where
  pub together : two.stamp ≡ one.stamp
  pub all_or_none : AreAllOrNone (record { first = one; others = two ∷ [] })
  pub replies : AreLegReplies one.item.entry.reply two.item.entry.reply
  pub told : IsTold script one × IsTold script two
  pub first : HasCall one before.first after.first
  pub second : HasCall two before.second after.second

-- what is recorded of two legs: both did what they ask, or neither, under one stamp above this one
pub record HaveLegsTold (script : PlainScript) (stamp : ℕ) (one two : Stamped Call) : Type 0 where
  pub together : two.stamp ≡ one.stamp
  pub all_or_none : AreAllOrNone (record { first = one; others = two ∷ [] })
  pub replies : AreLegReplies one.item.entry.reply two.item.entry.reply
  pub told : IsTold script one × IsTold script two
  pub later : stamp < one.stamp

-- both legs may call on their markets
pub record MayCallBoth (first second : PlainRow) (markets : TwoMarkets) : Type 0 where
  pub first_may : MayCall first markets.first
  pub second_may : MayCall second markets.second
  pub legs : AreLegs first second
