-- Open-orders accounts, copied one after another.
use Rattle.std.proofs.Common.{◌≡◌, ◌<◌, ◌≤◌, ◌+◌, ◌-◌, ◌*◌, ◌/◌, ◌∙◌, ℕ, zero, suc, List, [], ◌∷◌, ◌++◌, length, map, take, drop, All, arith, refl, sym, ap}
use Rattle.std.proofs.lemmas.List.{length-drop, length-take-le, map-append, take_all, take_more}
use Rattle.std.proofs.lemmas.List.Elements.{All-cons, All-nil}
use Rattle.hex.specs.Hex.{IsBytes}
use Rattle.dex_fields.specs.Bytes.{bytes_in}
use Rattle.dex_types.specs.declared.account_bytes.OrdersAccount.{OrdersAccount}
use Rattle.dex_types.specs.Accounts.{PlainAccount, orders_account_of}
use Rattle.dex_lent.specs.Flat.{account_in, accounts_from, accounts_in, record_in}
use Rattle.dex_lent.proofs.FlatLaws.{account-in}
use Rattle.dex_state.specs.Held.{IsHeld}
use Rattle.dex_check.specs.declared.copying.TheConstants.{ADDRESS}
use Rattle.dex_dump.proofs.ByteLaws.{bytes-drop, bytes-take}

pub copied-more : (bytes : List ℕ) (place : ℕ) (before after : List OrdersAccount) (copy : OrdersAccount) → place < length (accounts_in bytes)
    → after ≡ before ++ copy ∷ [] → map orders_account_of before ≡ take place (accounts_in bytes) → orders_account_of copy ≡ account_in (record_in place bytes)
    → map orders_account_of after ≡ take (place + 1) (accounts_in bytes)
copied-more bytes place before after copy lt is so told =
    let here : PlainAccount = account_in (record_in place bytes) in
    ap (map orders_account_of) is ∙ map-append orders_account_of before (copy ∷ [])
    ∙ ap (λ (l : List PlainAccount). l ++ orders_account_of copy ∷ []) so
    ∙ ap (λ (a : PlainAccount). take place (accounts_in bytes) ++ a ∷ []) (told ∙ sym (account-in place bytes here lt))
    ∙ sym (take_more (accounts_in bytes) place here lt)

held-from : (count : ℕ) (bytes : List ℕ) → 3260 * count ≤ length bytes → IsBytes bytes → All IsHeld (accounts_from count bytes)
held-from zero bytes fits are = All-nil IsHeld
held-from (suc count) bytes fits are =
    let record_bytes = take 3260 bytes in
    let long : length record_bytes ≡ 3260 = length-take-le 3260 bytes (omega arith) in
    let front = bytes-take 3260 bytes are in
    All-cons IsHeld (account_in record_bytes) (accounts_from count (drop 3260 bytes))
    (record {
      address = record { size = length-take-le 32 record_bytes (omega arith); bytes = bytes-take 32 record_bytes front };
      bytes = bytes-drop 32 record_bytes front;
    })
    (held-from count (drop 3260 bytes) (omega (arith, length-drop 3260 bytes)) (bytes-drop 3260 bytes are))

pub all-held : (bytes : List ℕ) → IsBytes bytes → All IsHeld (accounts_in bytes)
unfolding accounts_in
all-held bytes are = held-from (length bytes / 3260) bytes (omega arith) are

-- the account that a record is
pub account-is : (bytes word held : List ℕ) → length bytes ≡ 3260 → word ≡ bytes_in bytes ADDRESS → held ≡ take (length bytes - 32) (drop 32 bytes)
    → (let made : PlainAccount = record { address = record { 0 = word }; bytes = held } in made) ≡ account_in bytes
unfolding bytes_in
account-is bytes word held size first rest =
    let all : take (length bytes - 32) (drop 32 bytes) ≡ drop 32 bytes = take_all (length bytes - 32) (drop 32 bytes) (omega (arith, length-drop 32 bytes)) in
    rw (first, rest, all) refl
