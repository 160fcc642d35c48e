-- Journals of wallets: each movement follows from the balance before it.
use Rattle.std.specs.Prelude.{ℕ, ◌+◌, ◌-◌, ◌≡◌, ◌≤◌, ◌<◌, ◌^◌, List, [], ◌∷◌}
use Rattle.dex_types.specs.declared.movements.MoveKind.{MoveKind}
use Rattle.dex_types.specs.declared.movements.MoveKind.TheVariants.{Probe, Debit, Credit}
use Rattle.dex_types.specs.declared.movements.WalletEntry.{WalletEntry}

-- a balance after a movement of this kind and amount
abbrev pub moved_balance : MoveKind → ℕ → ℕ → ℕ
moved_balance Probe amount balance = balance
moved_balance Debit amount balance = balance - amount
moved_balance Credit amount balance = balance + amount

-- the movement is possible at the balance: a probe moves nothing, a debit moves something that is there, and a credit
-- moves something and leaves a balance below 2^64
abbrev pub CanMove : MoveKind → ℕ → ℕ → Type 0
CanMove Probe amount balance = amount ≡ 0
CanMove Debit amount balance = (1 ≤ amount) × (amount ≤ balance)
CanMove Credit amount balance = (1 ≤ amount) × (balance + amount < 2 ^ 64)

-- these movements are a wallet's from this balance on: each was made at the balance that it states
abbrev pub IsWalletLegal : ℕ → List WalletEntry → Type 0
IsWalletLegal balance [] = Unit {0}
IsWalletLegal balance (entry ∷ entries) =
    (entry.before ≡ balance) × CanMove entry.kind entry.amount balance × IsWalletLegal (moved_balance entry.kind entry.amount balance) entries

-- the balance after these movements
abbrev pub balance_after : ℕ → List WalletEntry → ℕ
balance_after balance [] = balance
balance_after balance (entry ∷ entries) = balance_after (moved_balance entry.kind entry.amount balance) entries
