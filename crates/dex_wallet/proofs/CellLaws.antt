-- A wallet's cell after a movement.
use Rattle.std.proofs.Common.{◌≡◌, ℕ, ◌<◌, ◌^◌, List, [], ◌∷◌, ◌++◌, refl, sym, ap, subst, ◌∙◌, arith, length-append}
use Rattle.dex_types.specs.declared.addresses.Address.{Address}
use Rattle.dex_types.specs.declared.movements.MoveKind.{MoveKind}
use Rattle.dex_types.specs.declared.movements.WalletEntry.{WalletEntry}
use Rattle.dex_types.specs.WalletJournal.{CanMove, moved_balance}
use Rattle.dex_token.specs.TokenAccount.{WalletWords, wallet_words, with_amount}
use Rattle.dex_token.proofs.AmountWrites.{IsWallet-with_amount, amount-with_amount, wallet_words-with_amount, with_amount-again}
use Rattle.dex_wallet.specs.TokenAmount.{TokenAmount}
use Rattle.dex_wallet.specs.CellState.{CellState, HasSpare, IsWalletCell, balance_of, with_entry}
use Rattle.dex_wallet.specs.declared.wallet_cell.Kept.{Kept}
use Rattle.dex_wallet.specs.CellInside.{cell_of, kept_cell}
use Rattle.dex_wallet.proofs.Journals.{IsWalletLegal-append, balance_after-append, moved_balance-lt}

-- the amount after a movement
abbrev moved_amount : MoveKind → ℕ → TokenAmount → TokenAmount
moved_amount kind amount share = record share { amount = moved_balance kind amount share.amount }

-- what a token account holds, by what it says
abbrev held : WalletWords → TokenAmount
held words = record { mint = words.mint; amount = words.amount }

-- it stays a cell
pub IsWalletCell-with_entry : (cell : CellState) (entry : WalletEntry) → IsWalletCell cell → balance_of cell.bytes < 2 ^ 64
    → entry.before ≡ balance_of cell.bytes → CanMove entry.kind entry.amount (balance_of cell.bytes) → HasSpare cell
    → IsWalletCell (with_entry cell entry)
IsWalletCell-with_entry cell entry kept fits before can spare =
    let after : ℕ = moved_balance entry.kind entry.amount (balance_of cell.bytes) in
    let amount : balance_of (with_amount cell.bytes after) ≡ after = amount-with_amount cell.bytes after kept.accepted (moved_balance-lt entry.kind entry.amount (balance_of cell.bytes) fits can) in
    record {
      accepted = IsWallet-with_amount cell.bytes after kept.accepted;
      others = ap (λ (bytes : List ℕ). with_amount bytes after) kept.others
          ∙ with_amount-again cell.start (balance_of cell.bytes) after ∙ ap (with_amount cell.start) (sym amount);
      balance = amount ∙ ap (moved_balance entry.kind entry.amount) kept.balance
          ∙ sym (balance_after-append (balance_of cell.start) cell.entries entry);
      legal = IsWalletLegal-append (balance_of cell.start) cell.entries entry kept.legal (before ∙ kept.balance) (subst (CanMove entry.kind entry.amount) kept.balance can);
      share = ap (moved_amount entry.kind entry.amount) kept.share
          ∙ sym (ap held (wallet_words-with_amount cell.bytes after amount));
      room = omega (arith, length-append cell.entries (entry ∷ []));
    }

-- what its token account then says
pub words-with_entry : (cell : CellState) (entry : WalletEntry) → IsWalletCell cell → balance_of cell.bytes < 2 ^ 64
    → CanMove entry.kind entry.amount (balance_of cell.bytes)
    → wallet_words (with_entry cell entry).bytes ≡ record (wallet_words cell.bytes) { amount = moved_balance entry.kind entry.amount (balance_of cell.bytes) }
words-with_entry cell entry kept fits can =
    let after : ℕ = moved_balance entry.kind entry.amount (balance_of cell.bytes) in
    wallet_words-with_amount cell.bytes after (amount-with_amount cell.bytes after kept.accepted (moved_balance-lt entry.kind entry.amount (balance_of cell.bytes) fits can))

-- the parts of a cell after a movement
pub cell_of-moved : (address : Address) (starting : ℕ) (bytes now : List ℕ) (share left : TokenAmount) (entries more : List WalletEntry) (room : ℕ) (entry : WalletEntry)
    → now ≡ with_amount bytes (moved_balance entry.kind entry.amount (balance_of bytes))
    → left ≡ moved_amount entry.kind entry.amount share → more ≡ entries ++ entry ∷ []
    → cell_of address starting now left more room ≡ with_entry (cell_of address starting bytes share entries room) entry
cell_of-moved address starting bytes now share left entries more room entry written taken appended =
    let after : ℕ = moved_balance entry.kind entry.amount (balance_of bytes) in
    ap (λ (b : List ℕ). cell_of address starting b left more room) written
    ∙ ap (λ (s : TokenAmount). cell_of address starting (with_amount bytes after) s more room) taken
    ∙ ap (λ (es : List WalletEntry). cell_of address starting (with_amount bytes after) (moved_amount entry.kind entry.amount share) es room) appended
    ∙ rw (with_amount-again bytes after starting) refl

-- a cell after a movement, by what it kept and by what it keeps then
pub record HasMoved (before : Kept) (now : List ℕ) (left : TokenAmount) (more : List WalletEntry) (cell : CellState) (entry : WalletEntry) : Type 0 where
  pub moved : cell_of before.address before.starting now left more before.room ≡ with_entry cell entry
  pub kept : IsWalletCell (cell_of before.address before.starting now left more before.room)
  pub words : wallet_words now ≡ record (wallet_words cell.bytes) { amount = moved_balance entry.kind entry.amount (balance_of cell.bytes) }

pub has-moved : (before : Kept) (cell : CellState) (entry : WalletEntry) (now : List ℕ) (left : TokenAmount) (more : List WalletEntry)
    → IsWalletCell cell → balance_of cell.bytes < 2 ^ 64 → kept_cell before ≡ cell
    → entry.before ≡ balance_of cell.bytes → CanMove entry.kind entry.amount (balance_of cell.bytes) → HasSpare cell
    → now ≡ with_amount before.bytes.items (moved_balance entry.kind entry.amount (balance_of before.bytes.items))
    → left ≡ moved_amount entry.kind entry.amount before.share.parcel → more ≡ before.entries.items ++ entry ∷ []
    → HasMoved before now left more cell entry
has-moved before cell entry now left more kept fits is at can spare written taken appended =
    let moved : cell_of before.address before.starting now left more before.room ≡ with_entry cell entry =
    cell_of-moved before.address before.starting before.bytes.items now before.share.parcel left before.entries.items more before.room entry written taken appended
    ∙ ap (λ (c : CellState). with_entry c entry) is in
    record {
      moved = moved;
      kept = subst IsWalletCell (sym moved) (IsWalletCell-with_entry cell entry kept fits at can spare);
      words = ap (λ (c : CellState). wallet_words c.bytes) moved ∙ words-with_entry cell entry kept fits can;
    }
