-- What an entry tells of deposits.
use Rattle.std.specs.Prelude.{ℕ}
use Rattle.dex_types.specs.declared.movements.Entry.{Entry}
use Rattle.dex_types.specs.Totals.{total}
use Rattle.dex_history.specs.Journal.{front}
use Rattle.dex_history.specs.Mints.{debited}

-- all that an entry's movements take from wallets
abbrev pub debits_in : Entry → ℕ
debits_in entry = total debited (front entry.moves)
