-- What a write of the amount leaves of a token account.
use Rattle.std.proofs.Common.{◌≡◌, ℕ, ◌<◌, ◌^◌, List, refl, ◌∙◌, arith}
use Rattle.dex_fields.specs.declared.token_account.TheConstants.{MINT, OWNER, AMOUNT, DELEGATE, STATE, IS_NATIVE, DELEGATED_AMOUNT, CLOSE_AUTHORITY}
use Rattle.dex_fields.specs.Bytes.{AreBytes, number_in, with_number}
use Rattle.dex_fields.proofs.Places.{bytes_in-other, number_in-other}
use Rattle.dex_fields.proofs.Writing.{length-with_number, number_in-with_number, with_number-again, with_number-same}
use Rattle.dex_token.specs.TokenAccount.{IsWallet, wallet_words, with_amount}

-- it stays one
pub IsWallet-with_amount : (bytes : List ℕ) (x : ℕ) → IsWallet bytes → IsWallet (with_number bytes AMOUNT x)
IsWallet-with_amount bytes x wallet = record {
  size = length-with_number bytes AMOUNT x ∙ wallet.size;
  delegate = bytes_in-other bytes AMOUNT x DELEGATE refl ∙ wallet.delegate;
  state = number_in-other bytes AMOUNT x STATE refl ∙ wallet.state;
  is_native = bytes_in-other bytes AMOUNT x IS_NATIVE refl ∙ wallet.is_native;
  delegated_amount = bytes_in-other bytes AMOUNT x DELEGATED_AMOUNT refl ∙ wallet.delegated_amount;
  close_authority = bytes_in-other bytes AMOUNT x CLOSE_AUTHORITY refl ∙ wallet.close_authority;
}

-- it says the same of everything else
pub wallet_words-with_amount : (bytes : List ℕ) (x : ℕ) → number_in (with_number bytes AMOUNT x) AMOUNT ≡ x
    → wallet_words (with_number bytes AMOUNT x) ≡ record (wallet_words bytes) { amount = x }
wallet_words-with_amount bytes x given = rw (bytes_in-other bytes AMOUNT x MINT refl, bytes_in-other bytes AMOUNT x OWNER refl, given) refl

-- the amount that was written is the one that it says
pub amount-with_amount : (bytes : List ℕ) (x : ℕ) → IsWallet bytes → x < 2 ^ 64 → (wallet_words (with_amount bytes x)).amount ≡ x
amount-with_amount bytes x wallet fits = number_in-with_number bytes AMOUNT x (omega (arith, wallet.size)) fits

-- of two writes the later one stands
pub with_amount-again : (bytes : List ℕ) (x y : ℕ) → with_amount (with_amount bytes x) y ≡ with_amount bytes y
with_amount-again bytes x y = with_number-again bytes AMOUNT x y

-- the amount that it says, written again
pub with_amount-same : (bytes : List ℕ) → AreBytes bytes → IsWallet bytes → with_amount bytes (wallet_words bytes).amount ≡ bytes
with_amount-same bytes low wallet = with_number-same bytes AMOUNT low (omega (arith, wallet.size))
