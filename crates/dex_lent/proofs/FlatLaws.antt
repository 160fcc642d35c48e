-- Accounts one after another in one list of bytes: the one at a place, and what other data in it leave.
use Rattle.std.proofs.Common.{◌≡◌, ℕ, zero, suc, ◌+◌, ◌*◌, ◌/◌, ◌<◌, ◌≤◌, List, [], ◌∷◌, ◌++◌, take, drop, length, set, get_or, Some, true, false, ⊎_elim, refl, sym, ap, ◌∙◌, arith}
use Rattle.std.proofs.lemmas.List.{append_assoc, drop_at, length-append, length-drop, drop-drop, length-take-le, take-append-drop, take-take, take_at}
use Rattle.std.proofs.lemmas.Bool.{cases_Bool, cond-false, cond-true}
use Rattle.std.proofs.Math.Seq.{drop-append-add, take-append-add}
use borrow.Rule.Slice.PartMut.{put_mid}
use Rattle.dex_types.specs.Accounts.{PlainAccount}
use Rattle.dex_types.specs.declared.addresses.Address.{Address}
use Rattle.dex_fields.specs.Bytes.{bytes_in}
use Rattle.dex_types.specs.Addresses.{is_same}
use Rattle.dex_lent.specs.declared.flat.TheConstants.{ADDRESS}
use Rattle.dex_accounts.specs.Owners.{IsFirst, bytes_at, changed_at}
use Rattle.dex_accounts.proofs.OwnerLaws.{bytes_at-first, changed_at-first}
use Rattle.dex_lent.specs.Flat.{IsDataAt, account_in, accounts_from, accounts_in, record_in, with_data}

-- ---- fronts and rests

take-more : (a b : ℕ) (l : List ℕ) → a ≤ length l → take (a + b) l ≡ take a l ++ take b (drop a l)
take-more a b l le =
    let n : length (take a l) ≡ a = length-take-le a l le in
    ap (take (a + b)) (sym (take-append-drop a l))
    ∙ ap (λ (n : ℕ). take (n + b) (take a l ++ drop a l)) (sym n)
    ∙ take-append-add (take a l) (drop a l) b
    ∙ ap (λ (front : List ℕ). front ++ take b (drop a l)) refl

drop-more : (a b : ℕ) (l : List ℕ) → a ≤ length l → drop (a + b) l ≡ drop b (drop a l)
drop-more a b l le =
    let n : length (take a l) ≡ a = length-take-le a l le in
    ap (drop (a + b)) (sym (take-append-drop a l))
    ∙ ap (λ (n : ℕ). drop (n + b) (take a l ++ drop a l)) (sym n)
    ∙ drop-append-add (take a l) (drop a l) b

left : (count : ℕ) (bytes : List ℕ) → 3260 * suc count ≤ length bytes → 3260 * count ≤ length (drop 3260 bytes)
left count bytes fits = omega (arith, length-drop 3260 bytes)

-- ---- the account at a place

pub length-accounts : (count : ℕ) (bytes : List ℕ) → length (accounts_from count bytes) ≡ count
length-accounts zero bytes = refl
length-accounts (suc count) bytes = ap suc (length-accounts count (drop 3260 bytes))

pub account-at : (count place : ℕ) (bytes : List ℕ) (default : PlainAccount) → place < count → 3260 * count ≤ length bytes
    → get_or (accounts_from count bytes) place default ≡ account_in (record_in place bytes)
account-at zero place bytes default lt fits = absurd (omega arith)
account-at (suc count) zero bytes default lt fits = refl
account-at (suc count) (suc place) bytes default lt fits =
    let next : 3260 * suc place ≡ 3260 + 3260 * place = omega arith in
    let le : 3260 ≤ length bytes = omega arith in
    account-at count place (drop 3260 bytes) default (omega arith) (left count bytes fits)
    ∙ ap (λ (rest : List ℕ). account_in (take 3260 rest)) (sym (drop-more 3260 (3260 * place) bytes le))
    ∙ ap (λ (n : ℕ). account_in (take 3260 (drop n bytes))) (sym next)

-- ---- other data

-- the front record, and then the others
fronted : (count : ℕ) (front others : List ℕ) → length front ≡ 3260 → accounts_from (suc count) (front ++ others) ≡ account_in front ∷ accounts_from count others
fronted count front others len =
    ap (λ (f : List ℕ). account_in f ∷ accounts_from count (drop 3260 (front ++ others))) (take_at front others 3260 len)
    ∙ ap (λ (o : List ℕ). account_in front ∷ accounts_from count o) (drop_at front others 3260 len)

-- an account with other data
abbrev pub with_written : List ℕ → PlainAccount → PlainAccount
with_written written account = record { address = account.address; bytes = written }

written-front : (written bytes : List ℕ) → 3260 ≤ length bytes
    → account_in (take 32 bytes ++ written) ≡ with_written written (account_in (take 3260 bytes))
written-front written bytes le =
    let n : length (take 32 bytes) ≡ 32 = length-take-le 32 bytes (omega arith) in
    let made : List ℕ → List ℕ → PlainAccount = λ a b. record { address = record { 0 = a }; bytes = b } in
    ap (λ (a : List ℕ). made a (drop 32 (take 32 bytes ++ written))) (take_at (take 32 bytes) written 32 n ∙ sym (take-take 32 3260 bytes (omega arith)))
    ∙ ap (made (take 32 (take 3260 bytes))) (drop_at (take 32 bytes) written 32 n)

pub written-at : (count place : ℕ) (bytes written : List ℕ) (default : PlainAccount) → place < count → 3260 * count ≤ length bytes → length written ≡ 3228
    → accounts_from count (with_data (3260 * place + 32) written bytes)
    ≡ set (accounts_from count bytes) place (with_written written (get_or (accounts_from count bytes) place default))
written-at zero place bytes written default lt fits len = absurd (omega arith)
written-at (suc count) zero bytes written default lt fits len =
    let le : 3260 ≤ length bytes = omega arith in
    let n : length (take 32 bytes ++ written) ≡ 3260 = omega (arith, length-append (take 32 bytes) written, length-take-le 32 bytes (omega arith)) in
    ap (accounts_from (suc count)) (sym (append_assoc (take 32 bytes) written (drop 3260 bytes)))
    ∙ fronted count (take 32 bytes ++ written) (drop 3260 bytes) n
    ∙ ap (λ (a : PlainAccount). a ∷ accounts_from count (drop 3260 bytes)) (written-front written bytes le)
written-at (suc count) (suc place) bytes written default lt fits len =
    let le : 3260 ≤ length bytes = omega arith in
    let a : 3260 * suc place + 32 ≡ 3260 + (3260 * place + 32) = omega arith in
    let b : 3260 * suc place + 32 + 3228 ≡ 3260 + (3260 * place + 32 + 3228) = omega arith in
    let rest = drop 3260 bytes in
    let split : with_data (3260 * suc place + 32) written bytes ≡ take 3260 bytes ++ with_data (3260 * place + 32) written rest =
    ap (λ (n : ℕ). take n bytes ++ (written ++ drop (3260 * suc place + 32 + 3228) bytes)) a
    ∙ ap (λ (n : ℕ). take (3260 + (3260 * place + 32)) bytes ++ (written ++ drop n bytes)) b
    ∙ ap (λ (l : List ℕ). l ++ (written ++ drop (3260 + (3260 * place + 32 + 3228)) bytes)) (take-more 3260 (3260 * place + 32) bytes le)
    ∙ ap (λ (l : List ℕ). (take 3260 bytes ++ take (3260 * place + 32) rest) ++ (written ++ l)) (drop-more 3260 (3260 * place + 32 + 3228) bytes le)
    ∙ append_assoc (take 3260 bytes) (take (3260 * place + 32) rest) (written ++ drop (3260 * place + 32 + 3228) rest) in
    ap (accounts_from (suc count)) split
    ∙ fronted count (take 3260 bytes) (with_data (3260 * place + 32) written rest) (length-take-le 3260 bytes le)
    ∙ ap (λ (l : List PlainAccount). account_in (take 3260 bytes) ∷ l) (written-at count place rest written default (omega arith) (left count bytes fits) len)

pub data-in : (place : ℕ) (bytes : List ℕ) → 3260 * place + 3260 ≤ length bytes → drop 32 (record_in place bytes) ≡ take 3228 (drop (3260 * place + 32) bytes)
data-in place bytes le =
    let rest = drop (3260 * place) bytes in
    let long : 3260 ≤ length rest = omega (arith, length-drop (3260 * place) bytes) in
    let n : length (take 32 rest) ≡ 32 = length-take-le 32 rest (omega arith) in
    ap (drop 32) (take-more 32 3228 rest (omega arith))
    ∙ drop_at (take 32 rest) (take 3228 (drop 32 rest)) 32 n
    ∙ ap (take 3228) (sym (drop-more (3260 * place) 32 bytes (omega arith)))

-- ---- the account of an address

pub length-in : (bytes : List ℕ) → length (accounts_in bytes) ≡ length bytes / 3260
unfolding accounts_in
length-in bytes = length-accounts (length bytes / 3260) bytes

-- an account at a place lies in the bytes
pub lies-in : (place : ℕ) (bytes : List ℕ) → place < length (accounts_in bytes) → 3260 * place + 3260 ≤ length bytes
lies-in place bytes lt = omega (arith, length-in bytes)

pub account-in : (place : ℕ) (bytes : List ℕ) (default : PlainAccount) → place < length (accounts_in bytes)
    → get_or (accounts_in bytes) place default ≡ account_in (record_in place bytes)
unfolding accounts_in
account-in place bytes default lt = account-at (length bytes / 3260) place bytes default (omega (arith, length-in bytes)) (omega arith)

written-in : (place : ℕ) (bytes written : List ℕ) (default : PlainAccount) → place < length (accounts_in bytes) → length written ≡ 3228
    → accounts_in (with_data (3260 * place + 32) written bytes) ≡ set (accounts_in bytes) place (with_written written (get_or (accounts_in bytes) place default))
unfolding accounts_in
written-in place bytes written default lt len =
    let le = lies-in place bytes lt in
    let same : length (with_data (3260 * place + 32) written bytes) ≡ length bytes =
    omega (
      arith,
      length-append (take (3260 * place + 32) bytes) (written ++ drop (3260 * place + 32 + 3228) bytes),
      length-append written (drop (3260 * place + 32 + 3228) bytes),
      length-take-le (3260 * place + 32) bytes (omega arith),
      length-drop (3260 * place + 32 + 3228) bytes,
    ) in
    ap (λ (n : ℕ). accounts_from (n / 3260) (with_data (3260 * place + 32) written bytes)) same
    ∙ written-at (length bytes / 3260) place bytes written default (omega (arith, length-in bytes)) (omega arith) len

pub found-in : (address : Address) (place : ℕ) (bytes : List ℕ) (default : PlainAccount) → IsFirst address (accounts_in bytes) place → IsDataAt address bytes (3260 * place + 32)
found-in address place bytes default first =
    let le = lies-in place bytes first.within in
    record {
      within = omega arith;
      found =
          bytes_at-first address (accounts_in bytes) place default first
          ∙ ap (λ (a : PlainAccount). Some a.bytes) (account-in place bytes default first.within) ∙ ap (λ (l : List ℕ). Some l) (data-in place bytes le);
      changed = λ written len.
          written-in place bytes written default first.within len ∙ sym (changed_at-first address (λ old. written) (accounts_in bytes) place default first);
    }

-- the address of the account at a place is the one that stands in front of its record
pub address-in : (address : Address) (place : ℕ) (bytes lies got : List ℕ) (default : PlainAccount) → place < length (accounts_in bytes) → lies ≡ record_in place bytes
    → got ≡ bytes_in lies ADDRESS → is_same address (get_or (accounts_in bytes) place default).address ≡ is_same address (record { 0 = got })
unfolding bytes_in
address-in address place bytes lies got default lt is read =
    ap (λ (a : PlainAccount). is_same address a.address) (account-in place bytes default lt)
    ∙ ap (λ (l : List ℕ). is_same address (record { 0 = take 32 l })) (sym is)
    ∙ ap (λ (l : List ℕ). is_same address (record { 0 = l })) (sym read)

-- ---- what a write into the data of an account leaves, as the check writes it down

-- the bytes that are written to are that account's
pub here-data : (address : Address) (bytes old : List ℕ) (at k : ℕ) → IsDataAt address bytes at → bytes_at address (accounts_in bytes) ≡ Some old → k ≡ 3228
    → old ≡ take k (drop at bytes)
here-data address bytes old at k is found size =
    let same : Some old ≡ Some (take 3228 (drop at bytes)) = sym found ∙ is.found in
    let e : old ≡ take 3228 (drop at bytes) = cc in
    e ∙ ap (λ (k : ℕ). take k (drop at bytes)) (sym size)

-- there are as many afterwards
pub long-data : (address : Address) (bytes written : List ℕ) (at k : ℕ) → IsDataAt address bytes at → k ≡ 3228 → length written ≡ length (take k (drop at bytes)) → length written ≡ 3228
long-data address bytes written at k is size len =
    let within = is.within in
    omega (arith, length-take-le k (drop at bytes) (omega (arith, length-drop at bytes)))

pub here-written : (address : Address) (bytes written : List ℕ) (at k : ℕ) → IsDataAt address bytes at → k ≡ 3228 → length written ≡ length (take k (drop at bytes))
    → accounts_in (put_mid at k bytes written) ≡ changed_at address (λ old. written) (accounts_in bytes)
here-written address bytes written at k is size len =
    ap (λ (rest : List ℕ). accounts_in (take at bytes ++ (written ++ rest))) (drop-drop k at bytes)
    ∙ ap (λ (k : ℕ). accounts_in (take at bytes ++ (written ++ drop (at + k) bytes))) size
    ∙ is.changed written (long-data address bytes written at k is size len)

-- a change to what was changed is the change
pub changed-as : (address : Address) (change : List ℕ → List ℕ) (accounts : List PlainAccount) (bytes : List ℕ) → bytes_at address accounts ≡ Some bytes
    → changed_at address (λ old. change bytes) accounts ≡ changed_at address change accounts
changed-as address change [] bytes found = refl
changed-as address change (first ∷ others) bytes found =
    ⊎_elim
    (λ (same : is_same address first.address ≡ true).
    let at : bytes_at address (first ∷ others) ≡ Some first.bytes = cond-true _ _ _ same in
    let is : Some first.bytes ≡ Some bytes = sym at ∙ found in
    let e : first.bytes ≡ bytes = cc in
    let now : changed_at address change (first ∷ others) ≡ with_written (change first.bytes) first ∷ others = cond-true _ _ _ same in
    let written : changed_at address (λ old. change bytes) (first ∷ others) ≡ with_written (change bytes) first ∷ others = cond-true _ _ _ same in
    written ∙ ap (λ (b : List ℕ). with_written (change b) first ∷ others) (sym e) ∙ sym now)
    (λ (apart : is_same address first.address ≡ false).
    let past : bytes_at address (first ∷ others) ≡ bytes_at address others = cond-false _ _ _ apart in
    let now : changed_at address change (first ∷ others) ≡ first ∷ changed_at address change others = cond-false _ _ _ apart in
    let written : changed_at address (λ old. change bytes) (first ∷ others) ≡ first ∷ changed_at address (λ old. change bytes) others = cond-false _ _ _ apart in
    written ∙ ap (λ (l : List PlainAccount). first ∷ l) (changed-as address change others bytes (sym past ∙ found)) ∙ sym now)
    (cases_Bool (is_same address first.address))

-- ---- records tell their bytes

no-bytes : (bytes : List ℕ) → length bytes ≡ 0 → bytes ≡ []
no-bytes [] none = refl
no-bytes (byte ∷ bytes) none = absurd (omega arith)

same-record : (front other : List ℕ) → account_in front ≡ account_in other → front ≡ other
same-record front other same =
    let address : take 32 front ≡ take 32 other = ap (λ (a : PlainAccount). a.address.0) same in
    let written : drop 32 front ≡ drop 32 other = ap (λ (a : PlainAccount). a.bytes) same in
    sym (take-append-drop 32 front) ∙ ap (λ (l : List ℕ). l ++ drop 32 front) address ∙ ap (λ (l : List ℕ). take 32 other ++ l) written ∙ take-append-drop 32 other

same-first : (x y : PlainAccount) (xs ys : List PlainAccount) → x ∷ xs ≡ y ∷ ys → x ≡ y
same-first x y xs ys same = cc

same-others : (x y : PlainAccount) (xs ys : List PlainAccount) → x ∷ xs ≡ y ∷ ys → xs ≡ ys
same-others x y xs ys same = cc

told-from : (count : ℕ) (bytes other : List ℕ) → length bytes ≡ 3260 * count → length other ≡ 3260 * count → accounts_from count bytes ≡ accounts_from count other → bytes ≡ other
told-from zero bytes other all every same = no-bytes bytes (omega arith) ∙ sym (no-bytes other (omega arith))
told-from (suc count) bytes other all every same =
    let first = same-record (take 3260 bytes) (take 3260 other) (same-first _ _ _ _ same) in
    let others =
    told-from count (drop 3260 bytes) (drop 3260 other) (omega (arith, length-drop 3260 bytes)) (omega (arith, length-drop 3260 other)) (same-others _ _ _ _ same) in
    sym (take-append-drop 3260 bytes) ∙ ap (λ (l : List ℕ). l ++ drop 3260 bytes) first ∙ ap (λ (l : List ℕ). take 3260 other ++ l) others ∙ take-append-drop 3260 other

pub told-in : (count : ℕ) (bytes other : List ℕ) → length bytes ≡ 3260 * count → length other ≡ 3260 * count → accounts_in bytes ≡ accounts_in other → bytes ≡ other
unfolding accounts_in
told-in count bytes other all every same =
    let n : length bytes / 3260 ≡ count = omega arith in
    let k : length other / 3260 ≡ count = omega arith in
    told-from count bytes other all every
    (ap (λ (n : ℕ). accounts_from n bytes) (sym n) ∙ same ∙ ap (λ (n : ℕ). accounts_from n other) k)
