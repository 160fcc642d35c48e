-- The movements of the wallets of four places.
use Rattle.std.proofs.Common.{◌≡◌, ◌+◌, ℕ, zero, suc, List, [], ◌∷◌, get_or, Option, Some, None, map, refl, ap, ◌∙◌, arith}
use Rattle.dex_types.specs.declared.addresses.Address.{Address}
use Rattle.dex_types.specs.declared.rows.Seen.{Seen}
use Rattle.dex_types.specs.declared.rows.WalletSeen.{WalletSeen}
use Rattle.dex_types.specs.Transfers.{Transfers}
use Rattle.dex_types.specs.Rows.{PlainRow}
use Rattle.dex_types.specs.Wallets.{address_seen, movement_by, movement_of, row_wallets, seen_wallets, with_role}
use Rattle.dex_history.specs.Journal.{Sees, asked_of, places}
use Rattle.dex_locks.specs.Places.{AreFree, StandInFront, front}
use Rattle.dex_laws.proofs.TraderLaws.{is_same-refl, is_same-sym}
use Rattle.dex_movements.specs.Amounts.{SeesTwo, moved_place}

-- what stands in a place among free ones
free-at : (places : List (Option Address)) → AreFree places → (k : ℕ) → get_or places k None ≡ None
free-at [] free k = refl
free-at (None ∷ places) free zero = refl
free-at (None ∷ places) free (suc k) = free-at places free k
free-at ((Some address) ∷ places) free k = absurd free

-- where wallets stand in front, so do the movements of the first four of them
pub places-moved : (seen : Seen) (t : Transfers) (wallets : List (Option Address)) → StandInFront wallets
    → moved_place seen t (get_or wallets 0 None) ∷ moved_place seen t (get_or wallets 1 None) ∷ moved_place seen t (get_or wallets 2 None)
    ∷ moved_place seen t (get_or wallets 3 None) ∷ []
    ≡ places (map (movement_of seen t) (front wallets))
places-moved seen t [] stand = refl
places-moved seen t (None ∷ r) free = rw (free-at r free 0, free-at r free 1, free-at r free 2) refl
places-moved seen t ((Some a) ∷ []) stand = refl
places-moved seen t ((Some a) ∷ None ∷ r) free = rw (free-at r free 0, free-at r free 1) refl
places-moved seen t ((Some a) ∷ (Some b) ∷ []) stand = refl
places-moved seen t ((Some a) ∷ (Some b) ∷ None ∷ r) free = rw (free-at r free 0) refl
places-moved seen t ((Some a) ∷ (Some b) ∷ (Some c) ∷ []) stand = refl
places-moved seen t ((Some a) ∷ (Some b) ∷ (Some c) ∷ None ∷ r) stand = refl
places-moved seen t ((Some a) ∷ (Some b) ∷ (Some c) ∷ (Some d) ∷ r) stand = refl

-- a row that sees the wallets that it names sees them in its order
pub seen-wallets : (row : PlainRow) (seen : Seen) → Sees (asked_of row) seen → seen_wallets seen ≡ row_wallets row
seen-wallets row seen sees =
    ap (λ (r : Option Address). with_role r (with_role (address_seen seen.pc) (with_role (address_seen seen.discount) (with_role (address_seen seen.referrer) [])))) sees.coin
    ∙ ap (λ (r : Option Address). with_role row.coin (with_role r (with_role (address_seen seen.discount) (with_role (address_seen seen.referrer) [])))) sees.pc
    ∙ ap (λ (r : Option Address). with_role row.coin (with_role row.pc (with_role r (with_role (address_seen seen.referrer) [])))) sees.discount
    ∙ ap (λ (r : Option Address). with_role row.coin (with_role row.pc (with_role row.discount (with_role r [])))) sees.referrer

-- ---- a row that sees two wallets, which are not one, and no others

module _ (seen : Seen) (t : Transfers) (first second : WalletSeen) (two : SeesTwo seen first second) where
  alone : (wallet : WalletSeen) (taken brought taken_is brought_is : ℕ) → taken ≡ taken_is → brought ≡ brought_is
      → movement_by wallet.address wallet.balance taken brought ≡ movement_by wallet.address wallet.balance taken_is brought_is
  alone wallet taken brought taken_is brought_is takes brings = rw (takes, brings) refl

  -- each moves by its own role
  pub two-first : movement_of seen t first.address ≡ movement_by first.address first.balance t.coin_in t.coin_out
  two-first =
      rw (two.coin, two.pc, two.discount, two.referrer, is_same-refl first.address, two.apart)
      (alone first (t.coin_in + 0) (t.coin_out + 0 + 0) t.coin_in t.coin_out (omega arith) (omega arith))

  pub two-second : movement_of seen t second.address ≡ movement_by second.address second.balance t.pc_in t.pc_out
  two-second =
      rw (two.coin, two.pc, two.discount, two.referrer, is_same-refl second.address, is_same-sym second.address first.address, two.apart)
      (alone second (0 + t.pc_in) (0 + t.pc_out + 0) t.pc_in t.pc_out (omega arith) (omega arith))
