-- What is read of base64 are bytes.
use Rattle.std.proofs.Common.{◌≡◌, ◌<◌, ◌+◌, ◌*◌, ◌/◌, ◌%◌, ◌==◌, ◌∷◌, ◌++◌, ◌∙◌, [], ℕ, zero, suc, List, Bool, Option, Some, None, Result, Ok, Err, arith, refl, sym, subst, inl, inr, drop, length, slice_index, take}
use Rattle.std.specs.Result.{result_ok}
use Rattle.std.proofs.lemmas.Bool.{cases_Bool, eqb-false}
use Rattle.std.proofs.lemmas.List.{get_or-drop, take-append-drop}
use Rattle.base64.specs.declared.decode.DecodeError.{DecodeError}
use Rattle.base64.specs.declared.engine.DecodePaddingMode.{DecodePaddingMode}
use Rattle.base64.specs.declared.engine.general_purpose.GeneralPurpose.{GeneralPurpose}
use Rattle.base64.specs.Decode.{IsDecodeTable, decode_error, decode_group, decode_outcome, decoded_bytes, group_bytes, group_error, groups_before_last, groups_bytes, groups_error, lone_error, no_leftover, or_else, push_leftover, scan, scan_bytes, scan_last, suffix_bytes, suffix_error, symbol_error}
use Rattle.base64.specs.Engines.{standard}
use Rattle.base64.specs.GeneralPurpose.{decoded_of}
use Rattle.base64.proofs.Decoding.{IsLeftover, IsLeftover_next, scan-cons_err, scan-cons_ok, scan-nil}
use Rattle.base64.proofs.EngineFacts.{front_bytes}
use Rattle.base64.proofs.Tables.{IsDecodeTable_from, are_tables_inverse}
use Rattle.hex.specs.Hex.{IsBytes}
use Rattle.dex_rows.specs.Base64.{base64_of}

-- ---- bytes

pub bytes-cons : (x : ℕ) (a : List ℕ) → x < 256 → IsBytes a → IsBytes (x ∷ a)
bytes-cons x a hx ha zero = hx
bytes-cons x a hx ha (suc i) = ha i

pub bytes-append : (a b : List ℕ) → IsBytes a → IsBytes b → IsBytes (a ++ b)
bytes-append [] b ha hb i = hb i
bytes-append (x ∷ a) b ha hb zero = ha 0
bytes-append (x ∷ a) b ha hb (suc i) = bytes-append a b (λ k. ha (suc k)) hb i

pub bytes-take : (count : ℕ) (a : List ℕ) → IsBytes a → IsBytes (take count a)
bytes-take count a h = front_bytes (take count a) (drop count a) (subst IsBytes (sym (take-append-drop count a)) h)

pub bytes-drop : (count : ℕ) (a : List ℕ) → IsBytes a → IsBytes (drop count a)
bytes-drop count a h = λ i. rw (get_or-drop count a i 0) (h (count + i))

three : (a b c : ℕ) → a < 256 → b < 256 → c < 256 → IsBytes (a ∷ b ∷ c ∷ [])
three a b c ha hb hc zero = ha
three a b c ha hb hc (suc zero) = hb
three a b c ha hb hc (suc (suc zero)) = hc
three a b c ha hb hc (suc (suc (suc i))) = omega arith

-- four values of six bits are three bytes
group-whole : (a b c d : ℕ) → a < 64 → b < 64 → c < 64 → d < 64 → IsBytes (decode_group a b c d)
group-whole a b c d ha hb hc hd = three (a * 4 + b / 16) (b % 16 * 16 + c / 4) (c % 4 * 64 + d) (omega arith) (omega arith) (omega arith)

zeros-below : (k : ℕ) → slice_index (0 ∷ 0 ∷ 0 ∷ 0 ∷ []) k < 64
zeros-below zero = omega arith
zeros-below (suc zero) = omega arith
zeros-below (suc (suc zero)) = omega arith
zeros-below (suc (suc (suc zero))) = omega arith
zeros-below (suc (suc (suc (suc k)))) = omega arith

neither : (a b : Option DecodeError) → or_else a b ≡ None → (a ≡ None) × (b ≡ None)
neither None b h = (refl, h)
neither (Some e) b h = absurd cc

-- ---- what is decoded

module _ (dec s : List ℕ) (table : IsDecodeTable dec) (bytes : IsBytes s) where
  symbol-below : (i : ℕ) → symbol_error dec s i ≡ None → slice_index dec (slice_index s i) < 64
  symbol-below i h = elim (cases_Bool (slice_index dec (slice_index s i) == 255)) [
    | inl bad ↦ absurd (let no = rw bad at h in cc)
    | inr good ↦ elim (table (slice_index s i) (bytes i)) [
      | inl is ↦ absurd (eqb-false (slice_index dec (slice_index s i)) 255 good is)
      | inr small ↦ small
    ]
  ]

  group-read : (i : ℕ) → group_error dec s i ≡ None → IsBytes (group_bytes dec s i)
  group-read i h =
      let a = neither (symbol_error dec s i) (or_else (symbol_error dec s (i + 1)) (or_else (symbol_error dec s (i + 2)) (symbol_error dec s (i + 3)))) h in
      let b = neither (symbol_error dec s (i + 1)) (or_else (symbol_error dec s (i + 2)) (symbol_error dec s (i + 3))) a.1 in
      let c = neither (symbol_error dec s (i + 2)) (symbol_error dec s (i + 3)) b.1 in
      group-whole (slice_index dec (slice_index s i)) (slice_index dec (slice_index s (i + 1))) (slice_index dec (slice_index s (i + 2)))
      (slice_index dec (slice_index s (i + 3))) (symbol-below i a.0) (symbol-below (i + 1) b.0) (symbol-below (i + 2) c.0) (symbol-below (i + 3) c.1)

  groups-read : (count : ℕ) → groups_error dec s count ≡ None → IsBytes (groups_bytes dec s count)
  unfolding groups_error groups_bytes
  groups-read zero h = λ i. omega arith
  groups-read (suc count) h =
      let parts = neither (groups_error dec s count) (group_error dec s (4 * count)) h in
      bytes-append (groups_bytes dec s count) (group_bytes dec s (4 * count)) (groups-read count parts.0) (group-read (4 * count) parts.1)

  -- the last symbols: the values that were kept of them are of six bits
  scan-step : (pad at i b : ℕ) (st end : _) (rest : List ℕ) (r : Result _ DecodeError) → push_leftover dec pad at st i b ≡ r
      → IsLeftover st i → b < 256 → scan dec pad at st i (b ∷ rest) ≡ Ok end
      → ((next : _) → IsLeftover next (i + 1) → scan dec pad at next (i + 1) rest ≡ Ok end → (count : ℕ) × IsLeftover end count)
      → (count : ℕ) × IsLeftover end count
  scan-step pad at i b st end rest (Err e) is held byte h more = absurd (let no = scan-cons_err dec pad at st i b rest e is in cc)
  scan-step pad at i b st end rest (Ok next) is held byte h more =
      more next (IsLeftover_next dec pad at st i b next table held byte is) (sym (scan-cons_ok dec pad at st i b rest next is) ∙ h)

  scan-small : (pad at : ℕ) (rest : List ℕ) → IsBytes rest → (i : ℕ) (st end : _) → IsLeftover st i → scan dec pad at st i rest ≡ Ok end
      → (count : ℕ) × IsLeftover end count
  scan-small pad at [] byte i st end held h =
      let nil = scan-nil dec pad at st i in
      let same : st ≡ end = cc in
      (i, subst (λ (l : _). IsLeftover l i) same held)
  scan-small pad at (b ∷ rest) byte i st end held h =
      scan-step pad at i b st end rest (push_leftover dec pad at st i b) refl held (byte 0) h
      (λ next kept read. scan-small pad at rest (λ k. byte (suc k)) (i + 1) next end kept read)

  last-read : (r : Result _ DecodeError) → ((end : _) → r ≡ Ok end → (count : ℕ) × IsLeftover end count) → IsBytes (scan_bytes r)
  last-read (Err e) small = λ i. omega arith
  last-read (Ok end) small =
      let all = (small end refl).1.3 in
      bytes-take (end.morsels_count * 6 / 8) (decode_group (slice_index end.morsels 0) (slice_index end.morsels 1) (slice_index end.morsels 2) (slice_index end.morsels 3))
      (group-whole (slice_index end.morsels 0) (slice_index end.morsels 1) (slice_index end.morsels 2) (slice_index end.morsels 3) (all 0) (all 1) (all 2) (all 3))

  suffix-read : (pad at : ℕ) → IsBytes (suffix_bytes dec pad at s)
  suffix-read pad at =
      last-read (scan_last dec pad at s) (λ end h.
      scan-small pad at (drop at s) (bytes-drop at s bytes) 0 no_leftover end (omega arith, omega arith, omega arith, zeros-below) h)

  all-read : (pad : ℕ) (allow : Bool) (mode : DecodePaddingMode) → decode_error dec pad allow mode s ≡ None → IsBytes (decoded_bytes dec pad s)
  all-read pad allow mode h =
      let groups = groups_before_last (length s) in
      let lone = neither (lone_error dec pad s) (or_else (groups_error dec s groups) (suffix_error dec pad allow mode (4 * groups) s)) h in
      let both = neither (groups_error dec s groups) (suffix_error dec pad allow mode (4 * groups) s) lone.1 in
      bytes-append (groups_bytes dec s groups) (suffix_bytes dec pad (4 * groups) s) (groups-read groups both.0) (suffix-read pad (4 * groups))

-- ---- base64

outcome-read : (error : Option DecodeError) (read out : List ℕ) → result_ok (decode_outcome error read) ≡ Some out → (error ≡ None → IsBytes read) → IsBytes out
outcome-read None read out h are =
    let same : read ≡ out = cc in
    subst IsBytes same (are refl)
outcome-read (Some error) read out h are = absurd cc

engine-read : (e : GeneralPurpose) (word out : List ℕ) → IsBytes word → decoded_of e word ≡ Some out → IsBytes out
unfolding decoded_of
engine-read e word out are h =
    let table = IsDecodeTable_from e.encode_table e.decode_table (are_tables_inverse e.encode_table e.decode_table e.padding.value e.tables) in
    outcome-read (decode_error e.decode_table e.padding.value e.config.decode_allow_trailing_bits e.config.decode_padding_mode word)
    (decoded_bytes e.decode_table e.padding.value word) out h
    (all-read e.decode_table word table are e.padding.value e.config.decode_allow_trailing_bits e.config.decode_padding_mode)

pub base64_of-bytes : (word bytes : List ℕ) → IsBytes word → base64_of word ≡ Some bytes → IsBytes bytes
unfolding base64_of
base64_of-bytes word bytes are h = engine-read standard word bytes are h
