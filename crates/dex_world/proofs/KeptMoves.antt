-- Of the movements of a row, those of one wallet.
use Rattle.std.proofs.Common.{◌≡◌, Bool, true, false, cond, List, [], ◌∷◌, map, refl, sym, ap, ◌∙◌}
use Rattle.dex_world.proofs.Common.{Address, Movement, PlainRow, Seen, Sees, Transfers, asked-once, asked_of, balance_seen, brought_to, filter, is_same, movement_of, names, row_wallets, seen-wallets, seen_wallets, taken_from, wallet-movement_by}
use Rattle.std.proofs.lemmas.List.Elements.{filter_agree}
use Rattle.dex_types.specs.Wallets.{movements}
use Rattle.dex_world.proofs.MappedLists.{filter-of}
use Rattle.dex_world.proofs.OnceLaws.{one-kept}

module _ (row : PlainRow) (seen : Seen) (t : Transfers) (sees : Sees (asked_of row) seen) (wallet : Address) where
  abbrev moved : Address → Movement
  moved address = movement_of seen t address

  abbrev of_wallet : Movement → Bool
  of_wallet move = is_same move.wallet wallet

  moved-wallet : (address : Address) → of_wallet (moved address) ≡ is_same address wallet
  moved-wallet address =
      ap (λ (a : Address). is_same a wallet) (wallet-movement_by address (balance_seen seen address) (taken_from seen t address) (brought_to seen t address))

  pub moves-kept : filter of_wallet (movements seen t) ≡ cond (names row wallet) (moved wallet ∷ []) []
  moves-kept =
      sym (filter-of moved of_wallet (seen_wallets seen))
      ∙ ap (map moved) (filter_agree (λ (address : Address). of_wallet (moved address)) (λ (address : Address). is_same address wallet) moved-wallet (seen_wallets seen))
      ∙ ap (λ (addresses : List Address). map moved (filter (λ (address : Address). is_same address wallet) addresses)) (seen-wallets row seen sees)
      ∙ ap (map moved) (one-kept wallet (row_wallets row) (asked-once (asked_of row)))
      ∙ either (names row wallet)
    where
      either : (b : Bool) → map moved (cond b (wallet ∷ []) []) ≡ cond b (moved wallet ∷ []) []
      either true = refl
      either false = refl
