-- One row, or the two legs of a swap, on the cells in hand.
use Rattle.std.specs.Prelude.{◌≡◌, ◌++◌, ◌∷◌, ◌||◌, ◌&&◌, Bool, true, false, not, List, [], None, is_some, map}
use Rattle.std.specs.List.{All}
use Rattle.dex_types.specs.declared.replies.Reply.{Reply}
use Rattle.dex_types.specs.declared.rows.Seen.{Seen}
use Rattle.dex_types.specs.Market.{Market}
use Rattle.dex_types.specs.Rows.{PlainRow, row_of}
use Rattle.dex_types.specs.Why.{why}
use Rattle.dex_history.specs.Journal.{Call, Sees, asked_of, is_refusal, is_take, request_of, row_step}
use Rattle.dex_cell.specs.CellState.{HasSpare, IsMarketCell, MarketCellState, call_made, market_at}
use Rattle.dex_wallet.specs.CellState as wallet
use Rattle.dex_wallet.specs.CellState.{CellState, IsWalletCell}
use Rattle.dex_world.specs.Fold.{market_acted, names}
use Rattle.dex_world.specs.Items.{ShareNothing, doing}
use Rattle.dex_world.specs.World.{World, seen_by}
use Rattle.dex_act.specs.declared.places.WalletPlaces.{WalletPlaces}
pub use Rattle.dex_process.specs.declared.processing.Terms.{Terms}
use Rattle.dex_act.specs.declared.steps.Legs.{Legs}
use Rattle.dex_act.specs.declared.steps.RowDone.{RowDone}
use Rattle.dex_act.specs.Acted.{HaveActed}
use Rattle.dex_act.specs.Opened.{market_state_of}
use Rattle.dex_act.specs.Wallets.{AreApart, ArePlacesAmong, wallet_state_of}

-- ---- what a row sees

-- what a row sees that names no wallet
abbrev pub nothing_seen : Terms → Seen
nothing_seen terms = record {
  coin = None;
  pc = None;
  discount = None;
  referrer = None;
  srm = terms.srm;
  msrm = terms.msrm;
  program = terms.program;
}

-- the wallets in hand, as a world in which rows see
abbrev pub world_in_hand : Terms → List CellState → World
world_in_hand terms cells = record {
  markets = [];
  wallets = map wallet_state_of cells;
  srm = terms.srm;
  msrm = terms.msrm;
  program = terms.program;
}

-- ---- what a row needs

-- the wallets that a row names stand at these places among the cells, each with room for an entry
pub record HasWallets (row : PlainRow) (places : WalletPlaces) (cells : List CellState) : Type 0 where
  pub apart : AreApart cells
  pub kept : All IsWalletCell cells
  pub spare : All (λ (cell : CellState). names row cell.address ≡ true → wallet.HasSpare cell) cells
  pub at : ArePlacesAmong cells row places

-- so they do, and the market is the row's, with room for an entry
pub record CanStep (row : PlainRow) (places : WalletPlaces) (cell : MarketCellState) (cells : List CellState) : Type 0 where
  pub on : row.market ≡ cell.accounts.address
  pub market : IsMarketCell cell
  pub spare : HasSpare cell
  pub wallets : HasWallets row places cells

-- what is no take is refused by the market
abbrev pub IsTakeOrRefused : Terms → PlainRow → MarketCellState → List CellState → Type 0
IsTakeOrRefused terms row market cells =
    is_take (asked_of row).request.instruction ≡ false
    → is_some (why (request_of row) (seen_by row (world_in_hand terms cells)) (market_at market)) ≡ true

-- both legs can act, and share no market and no wallet; each of the two is a take, or is refused
pub record CanStepBoth (terms : Terms) (legs : Legs) (first second : MarketCellState) (cells : List CellState) : Type 0 where
  pub first_can : CanStep (row_of legs.first.row.now) legs.first.places first cells
  pub second_can : CanStep (row_of legs.second.row.now) legs.second.places second cells
  pub share : ShareNothing (row_of legs.first.row.now) (row_of legs.second.row.now)
  pub first_take : IsTakeOrRefused terms (row_of legs.first.row.now) first cells
  pub second_take : IsTakeOrRefused terms (row_of legs.second.row.now) second cells

-- ---- what it leaves

-- the call of a row that acts on a market or is held back there
abbrev pub made_by : Bool → PlainRow → Seen → Market → Call
made_by waits row seen m = record (call_made (doing waits row) seen m) { asked = asked_of row }

-- a row entered its market's journal: its call stands after the others, the accounts are those of the market after its
-- step, or as they were where it is refused or held back, and this is a cell again
pub record HasEntered (row : PlainRow) (waits : Bool) (seen : Seen) (before after : MarketCellState) : Type 0 where
  pub calls : after.calls ≡ before.calls ++ made_by waits row seen (market_at before) ∷ []
  pub market : market_at after ≡ (row_step (doing waits row) seen (market_at before)).market
  pub kept : IsMarketCell after
  pub start : after.start ≡ before.start
  pub room : after.room ≡ before.room
  pub refused : (waits || is_refusal (row_step (doing waits row) seen (market_at before)).reply) ≡ true
      → after.accounts ≡ before.accounts

-- a row acted, or was held back, on a market and on the wallets that it names, and this was its reply
pub record HasDone (row : PlainRow) (waits : Bool) (seen : Seen) (answer : Reply) (before after : MarketCellState)
    (cells left : List CellState) : Type 0 where
  pub reply : answer ≡ (row_step (doing waits row) seen (market_at before)).reply
  pub calls : after.calls ≡ before.calls ++ made_by waits row seen (market_at before) ∷ []
  pub kept : IsMarketCell after
  pub state : market_state_of after ≡ market_acted (doing waits row) seen (market_state_of before)
  pub start : after.start ≡ before.start
  pub room : after.room ≡ before.room
  pub refused : (waits || is_refusal answer) ≡ true → after.accounts ≡ before.accounts
  pub wallets : HaveActed (doing waits row) seen (row_step (doing waits row) seen (market_at before)).transfers cells left

-- the call that is recorded of a row
abbrev pub call_of : PlainRow → RowDone → Call
call_of row done = record { asked = asked_of row; seen = done.seen.value; entry = done.entry.value }

-- what is recorded of a row is its call, and that call's reply
pub record IsRecorded (row : PlainRow) (waits : Bool) (m : Market) (done : RowDone) : Type 0 where
  pub call : call_of row done ≡ made_by waits row done.seen.value m
  pub reply : done.reply ≡ done.entry.value.reply

-- a row saw the wallets as they were, and acted or was held back
pub record IsStepOn (terms : Terms) (row : PlainRow) (waits : Bool) (done : RowDone) (before after : MarketCellState)
    (cells left : List CellState) : Type 0 where
  pub seen : done.seen.value ≡ seen_by row (world_in_hand terms cells)
  pub sees : Sees (asked_of row) done.seen.value
  pub recorded : IsRecorded row waits (market_at before) done
  pub did : HasDone row waits done.seen.value done.reply before after cells left

-- a row is refused by the market, by what it saw
abbrev pub is_refused_by : PlainRow → RowDone → MarketCellState → Bool
is_refused_by row done market = is_some (why (request_of row) done.seen.value (market_at market))

-- two legs acted one after the other, each of which was held back where the other would be refused and it would not.
-- The second saw the same before the first and behind it
pub record AreStepsOn (terms : Terms) (legs : Legs) (dones : RowDone × RowDone) (first first_after second second_after : MarketCellState)
    (cells left : List CellState) : Type 0 where
  pub one_refused : Bool
  pub two_refused : Bool
  pub one_is : one_refused ≡ is_refused_by (row_of legs.first.row.now) dones.0 first
  pub two_is : two_refused ≡ is_refused_by (row_of legs.second.row.now) dones.1 second
  pub between : List CellState
  pub one : IsStepOn terms (row_of legs.first.row.now) (two_refused && not one_refused) dones.0 first first_after cells between
  pub two : IsStepOn terms (row_of legs.second.row.now) (one_refused && not two_refused) dones.1 second second_after between left
  pub two_seen : dones.1.seen.value ≡ seen_by (row_of legs.second.row.now) (world_in_hand terms cells)
