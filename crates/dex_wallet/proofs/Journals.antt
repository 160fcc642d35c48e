-- A wallet's journal with one movement more.
use Rattle.std.proofs.Common.{◌≡◌, ℕ, ◌<◌, ◌^◌, List, [], ◌∷◌, ◌++◌, refl, arith}
use Rattle.dex_types.specs.declared.movements.MoveKind.{MoveKind}
use Rattle.dex_types.specs.declared.movements.MoveKind.TheVariants.{Probe, Debit, Credit}
use Rattle.dex_types.specs.declared.movements.WalletEntry.{WalletEntry}
use Rattle.dex_types.specs.WalletJournal.{CanMove, IsWalletLegal, balance_after, moved_balance}

-- a movement that is possible leaves a balance of 64 bits
pub moved_balance-lt : (kind : MoveKind) (amount balance : ℕ) → balance < 2 ^ 64 → CanMove kind amount balance → moved_balance kind amount balance < 2 ^ 64
moved_balance-lt Probe amount balance fits can = fits
moved_balance-lt Debit amount balance fits can = omega arith
moved_balance-lt Credit amount balance fits can = can.1

pub balance_after-append : (balance : ℕ) (entries : List WalletEntry) (entry : WalletEntry)
    → balance_after balance (entries ++ entry ∷ []) ≡ moved_balance entry.kind entry.amount (balance_after balance entries)
balance_after-append balance [] entry = refl
balance_after-append balance (first ∷ entries) entry = balance_after-append (moved_balance first.kind first.amount balance) entries entry

-- a movement at the balance after the others
pub IsWalletLegal-append : (balance : ℕ) (entries : List WalletEntry) (entry : WalletEntry) → IsWalletLegal balance entries
    → entry.before ≡ balance_after balance entries → CanMove entry.kind entry.amount (balance_after balance entries)
    → IsWalletLegal balance (entries ++ entry ∷ [])
IsWalletLegal-append balance [] entry legal before can = (before, can, tt)
IsWalletLegal-append balance (first ∷ entries) entry legal before can =
    (legal.0, legal.1, IsWalletLegal-append (moved_balance first.kind first.amount balance) entries entry legal.2 before can)
