-- The entries that the call of a row makes: one in the journal of each wallet that the row names.
use Rattle.std.proofs.Common.{◌≡◌, Bool, cond, List, [], ◌∷◌, map, ap, ◌∙◌, arith}
use Rattle.dex_world.proofs.Common.{Address, Call, Entry, Market, Movement, PlainRow, Transfers, WalletEntry, filter, is_same, movement_of, names, places-movements, row_step, wallet_entry_by, wallet_entry_of}
use Rattle.dex_serializable.proofs.Common.{Stamped, entries_in, entry_made, map-map}
use Rattle.dex_history.specs.Journal.{front}
use Rattle.dex_stamps.specs.Stamped.{items_of}
use Rattle.dex_world.proofs.KeptMoves.{moves-kept}
use Rattle.dex_serializable.proofs.Acts.{Acts}

-- ---- the entries of a row's call

pub entries-made : (row : PlainRow) (call : Stamped Call) (m : Market) → Acts row call.item m → (wallet : Address)
    → items_of (entries_in wallet call) ≡ cond (names row wallet) (wallet_entry_by row (movement_of call.item.seen (row_step row call.item.seen m).transfers wallet) ∷ []) []
entries-made row call m acts wallet =
    let t : Transfers = (row_step row call.item.seen m).transfers in
    let own : List Movement → List Movement = filter (λ (move : Movement). is_same move.wallet wallet) in
    map-map (entry_made call) (λ (made : Stamped WalletEntry). made.item) (own (front call.item.entry.moves))
    ∙ ap (λ (market : Address). map (wallet_entry_of market call.item.entry) (own (front call.item.entry.moves))) acts.market
    ∙ ap (λ (entry : Entry). map (wallet_entry_of row.market entry) (own (front entry.moves))) acts.entry
    ∙ ap (λ (moves : List Movement). map (wallet_entry_by row) (own moves)) (places-movements call.item.seen t)
    ∙ ap (map (wallet_entry_by row)) (moves-kept row call.item.seen t acts.sees wallet)
    ∙ either (names row wallet) (movement_of call.item.seen t wallet)
  where
    either : (b : Bool) (move : Movement) → map (wallet_entry_by row) (cond b (move ∷ []) []) ≡ cond b (wallet_entry_by row move ∷ []) []
    either b move = grind arith
