-- Calls that were made, with their stamps, and what they are on one market and in one wallet's journal.
use Rattle.std.specs.Prelude.{ℕ, ◌==◌, List, [], ◌∷◌, ◌++◌, map}
use Rattle.std.specs.List.{filter}
use Rattle.dex_types.specs.declared.addresses.Address.{Address}
use Rattle.dex_types.specs.declared.movements.Movement.{Movement}
use Rattle.dex_types.specs.declared.movements.WalletEntry.{WalletEntry}
use Rattle.dex_types.specs.Addresses.{is_same}
use Rattle.dex_history.specs.Journal.{Call, front, wallet_entry_of}
use Rattle.dex_stamps.specs.Stamped.{Stamped}

-- the calls of a lane
abbrev pub calls_of_lane : ℕ → List (Stamped Call) → List (Stamped Call)
calls_of_lane lane calls = filter (λ (call : Stamped Call). call.item.asked.lane == lane) calls

-- the entries of a lane in a wallet's journal
abbrev pub entries_of_lane : ℕ → List (Stamped WalletEntry) → List (Stamped WalletEntry)
entries_of_lane lane entries = filter (λ (entry : Stamped WalletEntry). entry.item.lane == lane) entries

-- the calls on the market of an address
abbrev pub calls_on : Address → List (Stamped Call) → List (Stamped Call)
calls_on address calls = filter (λ (call : Stamped Call). is_same call.item.asked.market address) calls

-- the entry of a call's movement in its wallet's journal: it has the call's stamp
abbrev pub entry_made : Stamped Call → Movement → Stamped WalletEntry
entry_made call move = record { item = wallet_entry_of call.item.asked.market call.item.entry move; stamp = call.stamp }

-- the entries of a call in the journal of the wallet of an address: one where its row names the wallet, and else none
abbrev pub entries_in : Address → Stamped Call → List (Stamped WalletEntry)
entries_in address call =
    map (entry_made call) (filter (λ (move : Movement). is_same move.wallet address) (front call.item.entry.moves))

-- and those of several calls
abbrev pub entries_on : Address → List (Stamped Call) → List (Stamped WalletEntry)
entries_on address [] = []
entries_on address (call ∷ calls) = entries_in address call ++ entries_on address calls
