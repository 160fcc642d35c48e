-- What the fields of a bank and of a seat stand for.
use Rattle.std.specs.Prelude.{◌≡◌, ◌≤◌, [], map, vec_capacity}
use Rattle.dex_types.specs.declared.rows.Row.{Row}
use Rattle.dex_types.specs.Accounts.{named_of}
use Rattle.dex_types.specs.Rows.{row_of}
use Rattle.dex_history.specs.Journal.{Call, asked_of}
use Rattle.dex_stamps.specs.Stamped.{Stamped}
use Rattle.dex_turns.specs.declared.bank.Bank.TheInside as bank
use Rattle.dex_turns.specs.declared.bank.BankParts.{BankParts}
use Rattle.dex_turns.specs.declared.seat.LaneSeat.TheInside as seat
use Rattle.dex_turns.specs.declared.stamped_record.StampedRecord.{StampedRecord}
use Rattle.dex_turns.specs.Bank.{BankState, IsBank}
use Rattle.dex_turns.specs.Outline.{terms_of}
use Rattle.dex_turns.specs.Seats.{IsSeat, SeatState}
use Rattle.dex_turns.specs.Submitted.{Written, written_by}

-- the bank that its fields stand for
abbrev pub bank_inside : bank.Inside → BankState
bank_inside inside = record {
  script = inside.outline;
  markets = inside.markets.items;
  wallets = inside.wallets.items;
}

-- the fields are a bank, with the mints of its script
pub record IsBankKept (inside : bank.Inside) : Type 0 where
  pub bank : IsBank (bank_inside inside)
  pub mints : map named_of inside.mints.items ≡ inside.outline.start.mints

-- these are a bank's gates, with what of its start no row changes
pub record ArePartsOf (bank : BankState) (parts : BankParts) : Type 0 where
  pub mints : map named_of parts.mints.items ≡ bank.script.start.mints
  pub terms : parts.terms ≡ terms_of bank.script
  pub markets : parts.markets.items ≡ bank.markets
  pub wallets : parts.wallets.items ≡ bank.wallets

-- the call of a row, with what it saw, the entry that it made, and its stamp
abbrev pub call_made : Row × StampedRecord → Stamped Call
call_made made = record {
  item = record { asked = asked_of (row_of made.0); seen = made.1.seen.value; entry = made.1.entry.value };
  stamp = made.1.stamp.number;
}

-- what it writes into the journals of wallets
abbrev pub written_of : Row × StampedRecord → Written
written_of made = written_by (call_made made)

-- the seat that its fields stand for
abbrev pub seat_inside : seat.Inside → SeatState
seat_inside inside = record {
  lane = inside.lane;
  script = inside.script.value;
  calls = map call_made inside.calls.items;
  last = inside.last.number;
  markets = inside.markets.items;
  wallets = inside.wallets.passes.items;
}

-- the fields are a seat, with empty hands that have room for four cells
pub record IsSeatKept (inside : seat.Inside) : Type 0 where
  pub seat : IsSeat (seat_inside inside)
  pub hands : inside.wallets.hands.items ≡ []
  pub room : 4 ≤ vec_capacity inside.wallets.hands
