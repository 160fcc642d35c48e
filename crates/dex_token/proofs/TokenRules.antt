-- An account breaks no rule exactly where it is a token account, or a mint.
use Rattle.std.proofs.Common.{◌≡◌, ◌≢◌, ℕ, zero, suc, ◌+◌, ◌<◌, ◌≤◌, List, [], ◌∷◌, length, drop, replicate, get_or, eqb, Some, None, refl, ap, ◌∙◌, arith}
use Rattle.std.proofs.lemmas.Bool.{cond-false, cond-true, eq-eqb, eqb-true, ne_eqb}
use Rattle.std.proofs.lemmas.List.{drop_all, drop_more}
use Rattle.dex_fields.specs.declared.field.Field.{Field}
use Rattle.dex_fields.specs.declared.token_account.TheConstants.{DELEGATE, STATE, IS_NATIVE, DELEGATED_AMOUNT, CLOSE_AUTHORITY}
use Rattle.dex_fields.specs.declared.mint.TheConstants.{IS_INITIALIZED}
use Rattle.dex_fields.specs.Bytes.{IsWithin, bytes_in, number_in}
use Rattle.dex_fields.proofs.Reading.{length-bytes_in}
use Rattle.dex_fields.proofs.Rules.{cond_holds, none_or, or_none}
use Rattle.dex_types.specs.AccountFaults.{size_fault}
use Rattle.dex_token.specs.TokenAccount.{IsWallet, IsZero}
use Rattle.dex_token.specs.MintAccount.{IsMint}
use Rattle.dex_token.specs.Faults.{byte_rule, first_set, mint_fault, rest_rule, token_fault, wallet_fault, zero_rule}

-- ---- zeros

-- the byte at i is set
pub first_set-found : (start i : ℕ) (bytes : List ℕ) → i < length bytes → get_or bytes i 0 ≢ 0
    → first_set (start + i) (drop i bytes) ≡ Some (token_fault (start + i) (get_or bytes i 0) 0)
unfolding first_set
first_set-found start i bytes lt other =
    ap (first_set (start + i)) (drop_more bytes i 0 lt)
    ∙ cond-false (eqb (get_or bytes i 0) 0) (first_set (suc (start + i)) (drop (i + 1) bytes)) (Some (token_fault (start + i) (get_or bytes i 0) 0)) (ne_eqb (get_or bytes i 0) 0 other)

-- the byte at i is zero
pub first_set-more : (start i : ℕ) (bytes : List ℕ) → i < length bytes → get_or bytes i 0 ≡ 0
    → first_set (start + i) (drop i bytes) ≡ first_set (start + (i + 1)) (drop (i + 1) bytes)
unfolding first_set
first_set-more start i bytes lt same =
    ap (first_set (start + i)) (drop_more bytes i 0 lt)
    ∙ cond-true (eqb (get_or bytes i 0) 0) (first_set (suc (start + i)) (drop (i + 1) bytes)) (Some (token_fault (start + i) (get_or bytes i 0) 0)) (eq-eqb (get_or bytes i 0) 0 same)
    ∙ ap (λ (n : ℕ). first_set n (drop (i + 1) bytes)) (omega arith)

-- nothing is left
pub first_set-end : (start i : ℕ) (bytes : List ℕ) → length bytes ≤ i → first_set start (drop i bytes) ≡ None
unfolding first_set
first_set-end start i bytes le = ap (first_set start) (drop_all i bytes le)

zeros_from_none : (start : ℕ) (bytes : List ℕ) → first_set start bytes ≡ None → bytes ≡ replicate (length bytes) 0
unfolding first_set
zeros_from_none start [] h = refl
zeros_from_none start (b ∷ bytes) h =
    let whole = cond_holds (eqb b 0) (token_fault start b 0) (first_set (suc start) bytes) h in
    let first : b ≡ 0 = eqb-true b 0 whole.0 in
    rw first (ap (λ (l : List ℕ). 0 ∷ l) (zeros_from_none (suc start) bytes whole.1))

none_from_zeros : (start count : ℕ) → first_set start (replicate count 0) ≡ None
unfolding first_set
none_from_zeros start zero = refl
none_from_zeros start (suc count) = none_from_zeros (suc start) count

zero_from_rule : (bytes : List ℕ) (field : Field) → IsWithin field bytes → zero_rule bytes field ≡ None → IsZero field bytes
zero_from_rule bytes field within h =
    zeros_from_none field.at (bytes_in bytes field) h ∙ ap (λ (n : ℕ). replicate n 0) (length-bytes_in bytes field within)

rule_from_zero : (bytes : List ℕ) (field : Field) → IsZero field bytes → zero_rule bytes field ≡ None
rule_from_zero bytes field h = ap (first_set field.at) h ∙ none_from_zeros field.at field.len

-- ---- single bytes

byte_from_rule : (bytes : List ℕ) (field : Field) (wanted : ℕ) → byte_rule bytes field wanted ≡ None → number_in bytes field ≡ wanted
byte_from_rule bytes field wanted h =
    eqb-true (number_in bytes field) wanted (cond_holds (eqb (number_in bytes field) wanted) (token_fault field.at (number_in bytes field) wanted) None h).0

rule_from_byte : (bytes : List ℕ) (field : Field) (wanted : ℕ) → number_in bytes field ≡ wanted → byte_rule bytes field wanted ≡ None
rule_from_byte bytes field wanted h =
    cond-true (eqb (number_in bytes field) wanted) None (Some (token_fault field.at (number_in bytes field) wanted)) (eq-eqb (number_in bytes field) wanted h)

-- ---- token accounts

rest_from_none : (bytes : List ℕ) → length bytes ≡ 165 → rest_rule bytes ≡ None → IsWallet bytes
unfolding rest_rule
rest_from_none bytes size h =
    let close = or_none _ _ h in
    let amount = or_none _ _ close.0 in
    let native = or_none _ _ amount.0 in
    let state = or_none _ _ native.0 in
    record {
      size = size;
      delegate = zero_from_rule bytes DELEGATE (omega arith) state.0;
      state = byte_from_rule bytes STATE 1 state.1;
      is_native = zero_from_rule bytes IS_NATIVE (omega arith) native.1;
      delegated_amount = zero_from_rule bytes DELEGATED_AMOUNT (omega arith) amount.1;
      close_authority = zero_from_rule bytes CLOSE_AUTHORITY (omega arith) close.1;
    }

none_from_rest : (bytes : List ℕ) → IsWallet bytes → rest_rule bytes ≡ None
unfolding rest_rule
none_from_rest bytes w =
    none_or _ _
    (none_or _ _
    (none_or _ _
    (none_or _ _ (rule_from_zero bytes DELEGATE w.delegate) (rule_from_byte bytes STATE 1 w.state))
    (rule_from_zero bytes IS_NATIVE w.is_native))
    (rule_from_zero bytes DELEGATED_AMOUNT w.delegated_amount))
    (rule_from_zero bytes CLOSE_AUTHORITY w.close_authority)

pub wallet_from_none : (bytes : List ℕ) → wallet_fault bytes ≡ None → IsWallet bytes
unfolding wallet_fault
wallet_from_none bytes h =
    let whole = cond_holds (eqb (length bytes) 165) (size_fault (length bytes) 165) (rest_rule bytes) h in
    rest_from_none bytes (eqb-true (length bytes) 165 whole.0) whole.1

pub none_from_wallet : (bytes : List ℕ) → IsWallet bytes → wallet_fault bytes ≡ None
unfolding wallet_fault
none_from_wallet bytes w =
    cond-true (eqb (length bytes) 165) (rest_rule bytes) (Some (size_fault (length bytes) 165)) (eq-eqb (length bytes) 165 w.size)
    ∙ none_from_rest bytes w

-- ---- mints

pub mint_from_none : (bytes : List ℕ) → mint_fault bytes ≡ None → IsMint bytes
unfolding mint_fault
mint_from_none bytes h =
    let whole = cond_holds (eqb (length bytes) 82) (size_fault (length bytes) 82) (byte_rule bytes IS_INITIALIZED 1) h in
    record {
      size = eqb-true (length bytes) 82 whole.0;
      initialized = byte_from_rule bytes IS_INITIALIZED 1 whole.1;
    }

pub none_from_mint : (bytes : List ℕ) → IsMint bytes → mint_fault bytes ≡ None
unfolding mint_fault
none_from_mint bytes m =
    cond-true (eqb (length bytes) 82) (byte_rule bytes IS_INITIALIZED 1) (Some (size_fault (length bytes) 82)) (eq-eqb (length bytes) 82 m.size)
    ∙ rule_from_byte bytes IS_INITIALIZED 1 m.initialized
