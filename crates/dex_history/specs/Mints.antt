-- What movements take from and bring to the wallets of a mint, and what enters and leaves vaults.
use Rattle.std.specs.Prelude.{ℕ, ◌+◌, ◌≡◌, Bool, false, List, [], ◌∷◌, Option, Some, None, if◌then◌else◌}
use Rattle.dex_types.specs.declared.addresses.Address.{Address}
use Rattle.dex_types.specs.declared.movements.MoveKind.{MoveKind}
use Rattle.dex_types.specs.declared.movements.MoveKind.TheVariants.{Debit, Credit}
use Rattle.dex_types.specs.declared.movements.Movement.{Movement}
use Rattle.dex_types.specs.declared.rows.Seen.{Seen}
use Rattle.dex_types.specs.declared.rows.WalletSeen.{WalletSeen}
use Rattle.dex_types.specs.Addresses.{is_same}
use Rattle.dex_types.specs.Market.{Market}
use Rattle.dex_types.specs.Side.{Token, by_token}
use Rattle.dex_types.specs.Totals.{total, weighed_where}
use Rattle.dex_types.specs.Transfers.{Transfers}
use Rattle.dex_history.specs.Balances.{mint_of}

-- the wallet at an address is of a mint, as the first of these that is seen has it
abbrev pub is_mint_in : Address → Address → List (Option WalletSeen) → Bool
is_mint_in mint address [] = false
is_mint_in mint address (None ∷ roles) = is_mint_in mint address roles
is_mint_in mint address ((Some wallet) ∷ roles) =
    if is_same address wallet.address then is_same mint wallet.mint else is_mint_in mint address roles

-- a wallet that a row sees is of a mint
abbrev pub is_of_mint : Seen → Address → Address → Bool
is_of_mint seen mint address = is_mint_in mint address (seen.coin ∷ seen.pc ∷ seen.discount ∷ seen.referrer ∷ [])

-- what a movement takes from its wallet
abbrev pub debited_as : MoveKind → ℕ → ℕ
debited_as Debit amount = amount
debited_as _ amount = 0

-- the native amount that this movement takes from its wallet; 0 unless it is a debit
abbrev pub debited : Movement → ℕ
debited move = debited_as move.kind move.amount

-- what a movement brings to its wallet
abbrev pub credited_as : MoveKind → ℕ → ℕ
credited_as Credit amount = amount
credited_as _ amount = 0

-- the native amount that this movement brings to its wallet; 0 unless it is a credit
abbrev pub credited : Movement → ℕ
credited move = credited_as move.kind move.amount

-- what movements take from all wallets of a mint
abbrev pub all_debited : Seen → Address → List Movement → ℕ
all_debited seen mint moves = total (weighed_where (λ (move : Movement). is_of_mint seen mint move.wallet) debited) moves

-- what they bring to them
abbrev pub all_credited : Seen → Address → List Movement → ℕ
all_credited seen mint moves = total (weighed_where (λ (move : Movement). is_of_mint seen mint move.wallet) credited) moves

-- what transfers bring into the vault of a token
abbrev pub into_vault : Token → Transfers → ℕ
into_vault token t = by_token token t.coin_in t.pc_in

-- what they take out of it
abbrev pub out_of_vault : Token → Transfers → ℕ
out_of_vault token t = by_token token t.coin_out (t.pc_out + t.referrer_out)

-- of each token of the market, what the movements take from wallets of its mint enters its vault, and what they bring
-- to them leaves it; and no wallet of another mint is moved
pub record MeetVaults (seen : Seen) (m : Market) (t : Transfers) (moves : List Movement) : Type 0 where
  pub debits : (token : Token) → all_debited seen (mint_of token m) moves ≡ into_vault token t
  pub credits : (token : Token) → all_credited seen (mint_of token m) moves ≡ out_of_vault token t
  pub others_debits : (mint : Address) → is_same mint m.listing.coin_mint ≡ false → is_same mint m.listing.pc_mint ≡ false → all_debited seen mint moves ≡ 0
  pub others_credits : (mint : Address) → is_same mint m.listing.coin_mint ≡ false → is_same mint m.listing.pc_mint ≡ false → all_credited seen mint moves ≡ 0
