-- What is known of a line that a row states: it holds bytes, its addresses have 32 of them, and a market has no
-- open-orders accounts so far.
use Rattle.std.proofs.Common.{◌≡◌, ◌<◌, ◌≤◌, ◌+◌, ◌-◌, ◌∷◌, ◌++◌, ◌∙◌, ◌==◌, ◌&&◌, [], ℕ, zero, suc, List, Bool, true, false, cond, Option, Some, None, Result, Ok, Err, arith, refl, sym, subst, inl, inr, length, replicate, eqb, leb, codes}
use Rattle.std.specs.List.{list_all}
use Rattle.std.specs.Option.{option_map}
use Rattle.std.specs.Result.{result_ok}
use Rattle.std.specs.Str.{bytes_eq}
use Rattle.std.proofs.lemmas.Bool.{and_parts, cases_Bool, leb-true}
use Rattle.std.proofs.lemmas.Bool.Decides.{nat_tests}
use Rattle.std.proofs.lemmas.List.{length-append, length-replicate}
use Rattle.std.proofs.lemmas.List.Elements.{All-nil}
use Rattle.std.proofs.lemmas.Option.{none-some, same_Some}
use Rattle.dex_types.specs.declared.addresses.Address.{Address}
use Rattle.dex_types.specs.Accounts.{PlainAccount}
use Rattle.dex_types.specs.Text.{is_label, is_label_character, label_address}
use Rattle.hex.specs.Hex.{IsBytes, decode_sized}
use Rattle.hex.proofs.HexLemmas.{decode_of-ok, decode_sized-ok, decode_sized-twice}
use Rattle.dex_rows.specs.Addresses.{address_of, digits_address, is_lower_hexdigit, prefixed_address}
use Rattle.dex_rows.specs.Base64.{base64_of}
use Rattle.dex_rows.specs.Printable.{is_printable, is_printable_byte, row_is_printable}
use Rattle.dex_state.specs.Held.{IsAddress, IsHeld, IsHeldMarket}
use Rattle.dex_dump_rows.specs.Lines.{Fields, PlainLine, ◌>>=◌, account_at, end_of, field_at, form_of, line_of, market_of, mint_of, msrm_of, orders_of, srm_of, wallet_of}
use Rattle.dex_dump_rows.specs.Lines.PlainLine.{Mint, Srm, Msrm, Wallet, Market, Orders, End}
use Rattle.dex_dump.proofs.ByteLaws.{base64_of-bytes, bytes-append, bytes-cons}

-- ---- addresses that are read are of 32 bytes

character-byte : (c : ℕ) → is_label_character c ≡ true → c < 256
character-byte c h = grind (arith, nat_tests)

characters-bytes : (word : List ℕ) → list_all is_label_character word ≡ true → IsBytes word
characters-bytes [] h = λ i. omega arith
characters-bytes (c ∷ word) h =
    let parts = and_parts (is_label_character c) (list_all is_label_character word) h in
    bytes-cons c word (character-byte c parts.0) (characters-bytes word parts.1)

zeros-bytes : (count : ℕ) → IsBytes (replicate count 0)
zeros-bytes zero = λ i. omega arith
zeros-bytes (suc count) = bytes-cons 0 (replicate count 0) (omega arith) (zeros-bytes count)

label-address : (word : List ℕ) → is_label word ≡ true → IsAddress (label_address word)
label-address word is =
    let parts = and_parts (leb 1 (length word) && leb (length word) 24) (list_all is_label_character word) is in
    let few : length word ≤ 24 = leb-true (length word) 24 (and_parts (leb 1 (length word)) (leb (length word) 24) parts.0).1 in
    let rest : List ℕ = replicate (32 - length word) 0 in
    let zeros : length rest ≡ 32 - length word = length-replicate {A = ℕ} (32 - length word) 0 in
    let both : length (word ++ rest) ≡ length word + length rest = length-append word rest in
    let whole : length word + length rest ≡ 32 = omega arith in
    record { size = both ∙ whole; bytes = bytes-append word rest (characters-bytes word parts.1) (zeros-bytes (32 - length word)) }

decoded-address : (digits : List ℕ) (read : Result (List ℕ) _) (address : Address) → decode_sized digits 32 ≡ read
    → option_map (λ (bytes : List ℕ). let a : Address = record { 0 = bytes } in a) (result_ok read) ≡ Some address → IsAddress address
decoded-address digits (Err e) address is h = absurd cc
decoded-address digits (Ok bytes) address is h =
    let long = decode_sized-ok digits 32 bytes is in
    let parts = decode_of-ok digits bytes (sym (decode_sized-twice digits 32 long) ∙ is) in
    let size : length bytes ≡ 32 = omega (arith, long, parts.2) in
    let found : IsAddress (record { 0 = bytes }) = record { size = size; bytes = parts.3 } in
    subst IsAddress (same_Some _ address h) found

digits-address : (digits : List ℕ) (address : Address) → digits_address digits ≡ Some address → IsAddress address
unfolding digits_address
digits-address digits address h = elim (cases_Bool (list_all is_lower_hexdigit digits)) [
  | inl digit ↦ decoded-address digits (decode_sized digits 32) address refl (rw digit at h)
  | inr other ↦ absurd (none-some address (rw other at h))
]

prefixed-address : (word : List ℕ) (address : Address) → prefixed_address word ≡ Some address → IsAddress address
prefixed-address [] address h = absurd cc
prefixed-address (first ∷ []) address h = absurd cc
prefixed-address (first ∷ second ∷ digits) address h = elim (cases_Bool ((first == 48) && (second == 120))) [
  | inl prefix ↦ digits-address digits address (rw prefix at h)
  | inr other ↦ absurd (none-some address (rw other at h))
]

pub address_of-address : (word : List ℕ) (address : Address) → address_of word ≡ Some address → IsAddress address
unfolding address_of
address_of-address word address h = elim (cases_Bool (is_label word)) [
  | inl label ↦ subst IsAddress (same_Some _ address (rw label at h)) (label-address word label)
  | inr other ↦ prefixed-address word address (rw other at h)
]

-- ---- whatever is found has a property

abbrev Gives : {A : Type 0} → (A → Type 0) → Option A → Type 0
Gives {A} P found = (x : A) → found ≡ Some x → P x

gives-none : {A : Type 0} (P : A → Type 0) → Gives P None
gives-none P x h = absurd (none-some x h)

gives-some : {A : Type 0} (P : A → Type 0) (x : A) → P x → Gives P (Some x)
gives-some P x is y h = subst P (same_Some x y h) is

gives-cond : {A : Type 0} (P : A → Type 0) (b : Bool) (x y : Option A) → Gives P x → Gives P y → Gives P (cond b x y)
gives-cond P true x y hx hy = hx
gives-cond P false x y hx hy = hy

gives-found : {A B : Type 0} (P : B → Type 0) (found : Option A) (next : A → Option B) → ((x : A) → found ≡ Some x → Gives P (next x))
    → Gives P (found >>= next)
gives-found P None next each y h = absurd (none-some y h)
gives-found P (Some x) next each y h = each x refl y h

-- where a row has this many fields
gives-fields : {A : Type 0} (P : A → Type 0) (row : Fields) (count : ℕ) (x : Option A) → Gives P x → Gives P (cond (eqb (length row) count) x None)
gives-fields P row count x h = gives-cond P (eqb (length row) count) x None h (gives-none P)

-- ---- fields

printable-byte : (c : ℕ) → is_printable_byte c ≡ true → c < 256
printable-byte c h = grind (arith, nat_tests)

printable-bytes : (field : List ℕ) → is_printable field ≡ true → IsBytes field
unfolding is_printable
printable-bytes [] h = λ i. omega arith
printable-bytes (c ∷ field) h =
    let parts = and_parts (is_printable_byte c) (list_all is_printable_byte field) h in
    bytes-cons c field (printable-byte c parts.0) (printable-bytes field parts.1)

-- each field of the row is bytes
abbrev pub AreFields : Fields → Type 0
AreFields row = (place : ℕ) → IsBytes (field_at row place)

pub fields-bytes : (row : Fields) → row_is_printable row ≡ true → AreFields row
unfolding row_is_printable
fields-bytes [] h place = λ i. omega arith
fields-bytes (field ∷ row) h zero = printable-bytes field (and_parts (is_printable field) (list_all is_printable row) h).0
fields-bytes (field ∷ row) h (suc place) = fields-bytes row (and_parts (is_printable field) (list_all is_printable row) h).1 place

-- ---- lines

-- what a line holds
abbrev pub IsRead : PlainLine → Type 0
IsRead (Mint mint) = IsHeld mint
IsRead (Srm mint) = IsAddress mint
IsRead (Msrm mint) = IsAddress mint
IsRead (Wallet wallet) = IsHeld wallet
IsRead (Market market) = IsHeldMarket market × (market.orders ≡ [])
IsRead (Orders market account) = IsAddress market × IsHeld account
IsRead End = Unit {0}

module _ (row : Fields) (are : AreFields row) where
  account-read : (place : ℕ) → Gives IsHeld (account_at row place)
  unfolding account_at
  account-read place =
      gives-found IsHeld (address_of (field_at row place)) _ (λ address h.
      gives-found IsHeld (base64_of (field_at row (place + 1))) _ (λ bytes k.
      gives-some IsHeld _ (record {
        address = address_of-address (field_at row place) address h;
        bytes = base64_of-bytes (field_at row (place + 1)) bytes (are (place + 1)) k;
      })))

  mint-read : Gives IsRead (mint_of row)
  unfolding mint_of
  mint-read =
      gives-fields IsRead row 3 _ (gives-found IsRead (account_at row 1) (λ (account : PlainAccount). Some (Mint account)) (λ account h.
      gives-some IsRead (Mint account) (account-read 1 account h)))

  wallet-read : Gives IsRead (wallet_of row)
  unfolding wallet_of
  wallet-read =
      gives-fields IsRead row 3 _ (gives-found IsRead (account_at row 1) (λ (account : PlainAccount). Some (Wallet account)) (λ account h.
      gives-some IsRead (Wallet account) (account-read 1 account h)))

  srm-read : Gives IsRead (srm_of row)
  unfolding srm_of
  srm-read =
      gives-fields IsRead row 2 _ (gives-found IsRead (address_of (field_at row 1)) (λ (mint : Address). Some (Srm mint)) (λ mint h.
      gives-some IsRead (Srm mint) (address_of-address (field_at row 1) mint h)))

  msrm-read : Gives IsRead (msrm_of row)
  unfolding msrm_of
  msrm-read =
      gives-fields IsRead row 2 _ (gives-found IsRead (address_of (field_at row 1)) (λ (mint : Address). Some (Msrm mint)) (λ mint h.
      gives-some IsRead (Msrm mint) (address_of-address (field_at row 1) mint h)))

  orders-read : Gives IsRead (orders_of row)
  unfolding orders_of
  orders-read =
      gives-fields IsRead row 4 _ (gives-found IsRead (address_of (field_at row 1)) _ (λ market h.
      gives-found IsRead (account_at row 2) (λ (account : PlainAccount). Some (Orders market account)) (λ account k.
      gives-some IsRead (Orders market account) (address_of-address (field_at row 1) market h, account-read 2 account k))))

  market-read : Gives IsRead (market_of row)
  unfolding market_of
  market-read =
      gives-fields IsRead row 10 _ (gives-found IsRead (address_of (field_at row 1)) _ (λ address h1.
      gives-found IsRead (address_of (field_at row 2)) _ (λ authority h2.
      gives-found IsRead (base64_of (field_at row 3)) _ (λ market h3.
      gives-found IsRead (base64_of (field_at row 4)) _ (λ coin_vault h4.
      gives-found IsRead (base64_of (field_at row 5)) _ (λ pc_vault h5.
      gives-found IsRead (base64_of (field_at row 6)) _ (λ requests h6.
      gives-found IsRead (base64_of (field_at row 7)) _ (λ events h7.
      gives-found IsRead (base64_of (field_at row 8)) _ (λ bids h8.
      gives-found IsRead (base64_of (field_at row 9)) _ (λ asks h9.
      gives-some IsRead _ (
        record {
          address = address_of-address (field_at row 1) address h1;
          authority = address_of-address (field_at row 2) authority h2;
          market = base64_of-bytes (field_at row 3) market (are 3) h3;
          coin_vault = base64_of-bytes (field_at row 4) coin_vault (are 4) h4;
          pc_vault = base64_of-bytes (field_at row 5) pc_vault (are 5) h5;
          requests = base64_of-bytes (field_at row 6) requests (are 6) h6;
          events = base64_of-bytes (field_at row 7) events (are 7) h7;
          bids = base64_of-bytes (field_at row 8) bids (are 8) h8;
          asks = base64_of-bytes (field_at row 9) asks (are 9) h9;
          orders = All-nil IsHeld;
        },
        refl,
      )))))))))))

  end-read : Gives IsRead (end_of row)
  unfolding end_of
  end-read = gives-fields IsRead row 1 (Some End) (gives-some IsRead End tt)

  form-read : (word : List ℕ) → Gives IsRead (form_of word row)
  unfolding form_of
  form-read word =
      gives-cond IsRead (bytes_eq word (codes "mint")) _ _ mint-read
      (gives-cond IsRead (bytes_eq word (codes "srm")) _ _ srm-read
      (gives-cond IsRead (bytes_eq word (codes "msrm")) _ _ msrm-read
      (gives-cond IsRead (bytes_eq word (codes "wallet")) _ _ wallet-read
      (gives-cond IsRead (bytes_eq word (codes "market")) _ _ market-read
      (gives-cond IsRead (bytes_eq word (codes "orders")) _ _ orders-read
      (gives-cond IsRead (bytes_eq word (codes "enddump")) _ _ end-read (gives-none IsRead)))))))

-- a line that a row states
pub line-read : (row : Fields) (line : PlainLine) → line_of row ≡ Some line → IsRead line
unfolding line_of
line-read row line h = elim (cases_Bool (row_is_printable row)) [
  | inl printable ↦ form-read row (fields-bytes row printable) (field_at row 0) line (rw printable at h)
  | inr other ↦ absurd (none-some line (rw other at h))
]
