-- Bytes that break no rule are the spelling of the instruction that is read of them.
use Rattle.std.proofs.Common.{◌≡◌, ℕ, ℤ, zero, suc, ◌+◌, ◌-◌, ◌*◌, ◌%◌, ◌^◌, ◌<◌, ◌≤◌, List, [], ◌∷◌, length, replicate, Option, Some, None, Bool, true, false, cond, refl, sym, ap, subst, ◌∙◌, arith, eqb, inl, inr, ◌⊎◌}
use Rattle.std.specs.Prelude.{if◌then◌else◌, ◌==◌, ◌||◌, ◌&&◌, nat_lt, not}
use Rattle.std.specs.Int.{w64}
use Rattle.std.proofs.lemmas.Bool.{eqb-true, ltb-false, leb-true, cases_lt}
use Rattle.std.proofs.lemmas.Int.{of_z-to_z}
use Rattle.std.proofs.Math.Facts.{Fits-of_lt, sfits_to_z}
use Rattle.std.proofs.lemmas.List.{length-append, take_at}
use Rattle.std.proofs.Math.ListN.{length-replicate}
use Rattle.dex_types.specs.declared.instructions.BadData.{BadData}
use Rattle.dex_types.specs.declared.instructions.Ix.{Ix}
use Rattle.dex_types.specs.declared.instructions.Ix.TheVariants.{NewOrderV3}
use Rattle.dex_instruction.specs.Codes.{side_code, side_of, self_trade_code, self_trade_of, order_type_code, order_type_of, time_code, time_of}
use Rattle.dex_instruction.specs.IdFacts.{length-numbers_at}
use Rattle.dex_instruction.specs.IdList.{id_count, ids_in}
use Rattle.dex_instruction.specs.Numbers.{AreBytes, Field, number_at, numbers_at, spelled}
use Rattle.dex_instruction.specs.Rules.{tag_in, is_retired, is_body_length, has_zero_field, has_bad_enum, broken}
use Rattle.dex_instruction.specs.Reading.{instruction, latest_in, order_in, tagged}
use Rattle.dex_instruction.specs.Spelling.{AllFit, Fits, id_fields, spelling}
use Rattle.dex_instruction.proofs.Bytes.{number_at-lt}
use Rattle.dex_instruction.proofs.Fields.{AllFit-fields_at, fields_at, spelled-fields_at, total}
use Rattle.dex_instruction.proofs.IdLists.{as_fields}

-- what holds of bytes with a tag that break no rule
pub record IsWhole (tag : ℕ) (bytes : List ℕ) : Type 0 where
  pub room : 5 ≤ length bytes
  pub version : number_at 1 0 bytes ≡ 0
  pub tag_is : tag_in bytes ≡ tag
  pub known : tag ≤ 18
  pub current : is_retired tag ≡ false
  pub size : is_body_length tag (length bytes - 5) ≡ true
  pub fields : has_zero_field tag bytes ≡ false
  pub codes : has_bad_enum tag bytes ≡ false

passed : (b : Bool) (fault : BadData) (others : Option BadData) → cond b (Some fault) others ≡ None → (b ≡ false) × (others ≡ None)
passed true fault others e = absurd cc
passed false fault others e = (refl, e)

not_false : (b : Bool) → not b ≡ false → b ≡ true
not_false true e = refl
not_false false e = absurd cc

pub is_whole : (bytes : List ℕ) → broken bytes ≡ None → IsWhole (tag_in bytes) bytes
unfolding broken
is_whole bytes e =
    let short = passed _ _ _ e in
    let version = passed _ _ _ short.1 in
    let unknown = passed _ _ _ version.1 in
    let retired = passed _ _ _ unknown.1 in
    let size = passed _ _ _ retired.1 in
    let zero_field = passed _ _ _ size.1 in
    let codes = passed _ _ _ zero_field.1 in
    record {
      room = ltb-false (length bytes) 5 short.0;
      version = eqb-true _ _ (not_false _ version.0);
      tag_is = refl;
      known = ltb-false 18 (tag_in bytes) unknown.0;
      current = retired.0;
      size = not_false _ size.0;
      fields = zero_field.0;
      codes = codes.0;
    }

-- the instruction that is read is spelled as the bytes, and its numbers are within their types
pub record IsSpelled (tag : ℕ) (bytes : List ℕ) : Type 0 where
  pub same : spelling (tagged tag bytes) ≡ bytes
  pub fits : Fits (tagged tag bytes)

-- fields of these widths after the tag, up to the end
spelled-tagged : (tag : ℕ) (sizes : List ℕ) (bytes : List ℕ) → AreBytes bytes → IsWhole tag bytes → 5 + total sizes ≡ length bytes
    → spelled ((1, 0) ∷ (4, tag) ∷ fields_at sizes 5 bytes) ≡ bytes
spelled-tagged tag sizes bytes h whole size =
    ap (λ (v : ℕ). spelled ((1, v) ∷ (4, tag) ∷ fields_at sizes 5 bytes)) (sym whole.version)
    ∙ ap (λ (t : ℕ). spelled ((1, number_at 1 0 bytes) ∷ (4, t) ∷ fields_at sizes 5 bytes)) (sym whole.tag_is)
    ∙ spelled-fields_at (1 ∷ 4 ∷ sizes) 0 bytes h (omega arith)

size_of : (tag n : ℕ) (bytes : List ℕ) → IsWhole tag bytes → is_body_length tag (length bytes - 5) ≡ eqb (length bytes - 5) n → length bytes ≡ 5 + n
size_of tag n bytes whole one =
    let body : length bytes - 5 ≡ n = eqb-true _ _ (sym one ∙ whole.size) in
    omega (arith, whole.room)

empty_body : (tag : ℕ) (bytes : List ℕ) → AreBytes bytes → IsWhole tag bytes → is_body_length tag (length bytes - 5) ≡ eqb (length bytes - 5) 0
    → spelled ((1, 0) ∷ (4, tag) ∷ []) ≡ bytes
empty_body tag bytes h whole one =
    spelled-tagged tag [] bytes h whole (omega (arith, size_of tag 0 bytes whole one))

at_5 : (bytes : List ℕ) → AreBytes bytes → IsWhole 5 bytes → IsSpelled 5 bytes
unfolding spelling
at_5 bytes h whole = record { same = empty_body 5 bytes h whole refl; fits = (tt, tt) }

at_7 : (bytes : List ℕ) → AreBytes bytes → IsWhole 7 bytes → IsSpelled 7 bytes
unfolding spelling
at_7 bytes h whole = record { same = empty_body 7 bytes h whole refl; fits = (tt, tt) }

at_8 : (bytes : List ℕ) → AreBytes bytes → IsWhole 8 bytes → IsSpelled 8 bytes
unfolding spelling
at_8 bytes h whole = record { same = empty_body 8 bytes h whole refl; fits = (tt, tt) }

at_14 : (bytes : List ℕ) → AreBytes bytes → IsWhole 14 bytes → IsSpelled 14 bytes
unfolding spelling
at_14 bytes h whole = record { same = empty_body 14 bytes h whole refl; fits = (tt, tt) }

at_15 : (bytes : List ℕ) → AreBytes bytes → IsWhole 15 bytes → IsSpelled 15 bytes
unfolding spelling
at_15 bytes h whole = record { same = empty_body 15 bytes h whole refl; fits = (tt, tt) }

-- the bodies of fields whose numbers are the instruction's
plain_body : (tag n : ℕ) (sizes : List ℕ) (bytes : List ℕ) → AreBytes bytes → IsWhole tag bytes → is_body_length tag (length bytes - 5) ≡ eqb (length bytes - 5) n → total sizes ≡ n
    → (spelled ((1, 0) ∷ (4, tag) ∷ fields_at sizes 5 bytes) ≡ bytes) × AllFit (fields_at sizes 5 bytes)
plain_body tag n sizes bytes h whole one sum =
    (spelled-tagged tag sizes bytes h whole (omega (arith, size_of tag n bytes whole one)), AllFit-fields_at sizes 5 bytes h)

at_0 : (bytes : List ℕ) → AreBytes bytes → IsWhole 0 bytes → IsSpelled 0 bytes
unfolding spelling
at_0 bytes h whole =
    let body = plain_body 0 34 (8 ∷ 8 ∷ 2 ∷ 8 ∷ 8 ∷ []) bytes h whole refl refl in
    record { same = body.0; fits = (body.1, tt) }

at_2 : (bytes : List ℕ) → AreBytes bytes → IsWhole 2 bytes → IsSpelled 2 bytes
unfolding spelling
at_2 bytes h whole =
    let body = plain_body 2 2 (2 ∷ []) bytes h whole refl refl in
    record { same = body.0; fits = (body.1, tt) }

at_3 : (bytes : List ℕ) → AreBytes bytes → IsWhole 3 bytes → IsSpelled 3 bytes
unfolding spelling
at_3 bytes h whole =
    let body = plain_body 3 2 (2 ∷ []) bytes h whole refl refl in
    record { same = body.0; fits = (body.1, tt) }

at_16 : (bytes : List ℕ) → AreBytes bytes → IsWhole 16 bytes → IsSpelled 16 bytes
unfolding spelling
at_16 bytes h whole =
    let body = plain_body 16 2 (2 ∷ []) bytes h whole refl refl in
    record { same = body.0; fits = (body.1, tt) }

at_12 : (bytes : List ℕ) → AreBytes bytes → IsWhole 12 bytes → IsSpelled 12 bytes
unfolding spelling
at_12 bytes h whole =
    let body = plain_body 12 8 (8 ∷ []) bytes h whole refl refl in
    record { same = body.0; fits = (body.1, tt) }

-- ---- codes

side_back : (n : ℕ) → nat_lt 1 n ≡ false → side_code (side_of n) ≡ n
side_back zero h = refl
side_back (suc zero) h = refl
side_back (suc (suc n)) h = absurd (omega (arith, ltb-false 1 (suc (suc n)) h))

self_trade_back : (n : ℕ) → nat_lt 2 n ≡ false → self_trade_code (self_trade_of n) ≡ n
self_trade_back zero h = refl
self_trade_back (suc zero) h = refl
self_trade_back (suc (suc zero)) h = refl
self_trade_back (suc (suc (suc n))) h = absurd (omega (arith, ltb-false 2 (suc (suc (suc n))) h))

order_type_back : (n : ℕ) → nat_lt 2 n ≡ false → order_type_code (order_type_of n) ≡ n
order_type_back zero h = refl
order_type_back (suc zero) h = refl
order_type_back (suc (suc zero)) h = refl
order_type_back (suc (suc (suc n))) h = absurd (omega (arith, ltb-false 2 (suc (suc (suc n))) h))

either_false : (a b : Bool) → (a || b) ≡ false → (a ≡ false) × (b ≡ false)
either_false true b e = absurd cc
either_false false b e = (refl, e)

-- fields with other numbers that are equal
same_fields : (tag : ℕ) (fields others : List Field) (bytes : List ℕ) → fields ≡ others → spelled ((1, 0) ∷ (4, tag) ∷ others) ≡ bytes → AllFit others
    → (spelled ((1, 0) ∷ (4, tag) ∷ fields) ≡ bytes) × AllFit fields
same_fields tag fields others bytes e same fit =
    subst (λ (fs : List Field). (spelled ((1, 0) ∷ (4, tag) ∷ fs) ≡ bytes) × AllFit fs) (sym e) (same, fit)

at_11 : (bytes : List ℕ) → AreBytes bytes → IsWhole 11 bytes → IsSpelled 11 bytes
unfolding spelling
at_11 bytes h whole =
    let plain = plain_body 11 20 (4 ∷ 16 ∷ []) bytes h whole refl refl in
    let side_is = side_back (number_at 4 5 bytes) whole.codes in
    let fields_are = ap (λ (s : ℕ). (4, s) ∷ (16, number_at 16 9 bytes) ∷ []) side_is in
    let body = same_fields 11 _ _ bytes fields_are plain.0 plain.1 in
    record { same = body.0; fits = (body.1, tt) }

at_13 : (bytes : List ℕ) → AreBytes bytes → IsWhole 13 bytes → IsSpelled 13 bytes
unfolding spelling
at_13 bytes h whole =
    let plain = plain_body 13 46 (4 ∷ 8 ∷ 8 ∷ 8 ∷ 8 ∷ 8 ∷ 2 ∷ []) bytes h whole refl refl in
    let side_is = side_back (number_at 4 5 bytes) whole.codes in
    let fields_are = ap (λ (s : ℕ). (4, s) ∷ fields_at (8 ∷ 8 ∷ 8 ∷ 8 ∷ 8 ∷ 2 ∷ []) 9 bytes) side_is in
    let body = same_fields 13 _ _ bytes fields_are plain.0 plain.1 in
    record { same = body.0; fits = (body.1, tt) }

-- ---- an order, with a latest time or without

-- the fields of an order in the bytes, with codes and after them a latest time as given
order_fields : List ℕ → ℕ → ℕ → ℕ → List Field → List Field
order_fields bytes side self_trade order_type latest =
    (4, side) ∷ (8, number_at 8 9 bytes) ∷ (8, number_at 8 17 bytes) ∷ (8, number_at 8 25 bytes) ∷ (4, self_trade) ∷ (4, order_type)
    ∷ (8, number_at 8 41 bytes) ∷ (2, number_at 2 49 bytes) ∷ latest

order_codes : (bytes : List ℕ) (latest : List Field) → IsWhole 10 bytes
    → order_fields bytes (side_code (side_of (number_at 4 5 bytes))) (self_trade_code (self_trade_of (number_at 4 33 bytes))) (order_type_code (order_type_of (number_at 4 37 bytes))) latest
    ≡ order_fields bytes (number_at 4 5 bytes) (number_at 4 33 bytes) (number_at 4 37 bytes) latest
unfolding order_fields
order_codes bytes latest whole =
    let first = either_false _ _ whole.codes in
    let second = either_false _ _ first.0 in
    let side_is = side_back (number_at 4 5 bytes) second.0 in
    let self_trade_is = self_trade_back (number_at 4 33 bytes) second.1 in
    let order_type_is = order_type_back (number_at 4 37 bytes) first.1 in
    ap (λ (s : ℕ). order_fields bytes s (self_trade_code (self_trade_of (number_at 4 33 bytes))) (order_type_code (order_type_of (number_at 4 37 bytes))) latest) side_is
    ∙ ap (λ (t : ℕ). order_fields bytes (number_at 4 5 bytes) t (order_type_code (order_type_of (number_at 4 37 bytes))) latest) self_trade_is
    ∙ ap (λ (o : ℕ). order_fields bytes (number_at 4 5 bytes) (number_at 4 33 bytes) o latest) order_type_is

-- the order in the bytes, with a latest time as given
order_with : List ℕ → Option ℤ → Ix
order_with bytes latest =
    NewOrderV3 (side_of (number_at 4 5 bytes)) (number_at 8 9 bytes) (number_at 8 17 bytes) (number_at 8 25 bytes)
    (self_trade_of (number_at 4 33 bytes)) (order_type_of (number_at 4 37 bytes)) (number_at 8 41 bytes) (number_at 2 49 bytes) latest

abbrev pub IsTheirs : List ℕ → Ix → Type 0
IsTheirs bytes ix = (spelling ix ≡ bytes) × Fits ix

order_of_51 : (bytes : List ℕ) → AreBytes bytes → IsWhole 10 bytes → length bytes ≡ 51 → IsTheirs bytes (order_with bytes None)
unfolding spelling order_with order_fields
order_of_51 bytes h whole size =
    let sizes : List ℕ = 4 ∷ 8 ∷ 8 ∷ 8 ∷ 4 ∷ 4 ∷ 8 ∷ 2 ∷ [] in
    let same = spelled-tagged 10 sizes bytes h whole (sym size) in
    let body = same_fields 10 _ _ bytes (order_codes bytes [] whole) same (AllFit-fields_at sizes 5 bytes h) in
    (body.0, (body.1, tt))

order_of_59 : (bytes : List ℕ) → AreBytes bytes → IsWhole 10 bytes → length bytes ≡ 59 → IsTheirs bytes (order_with bytes (Some (time_of (number_at 8 51 bytes))))
unfolding spelling order_with order_fields
order_of_59 bytes h whole size =
    let sizes : List ℕ = 4 ∷ 8 ∷ 8 ∷ 8 ∷ 4 ∷ 4 ∷ 8 ∷ 2 ∷ 8 ∷ [] in
    let same = spelled-tagged 10 sizes bytes h whole (sym size) in
    let time_fits : number_at 8 51 bytes < 2 ^ 64 = number_at-lt 8 51 bytes h in
    let time_is = of_z-to_z w64 (number_at 8 51 bytes) time_fits in
    let codes_are = order_codes bytes ((8, time_code (time_of (number_at 8 51 bytes))) ∷ []) whole in
    let fields_are = codes_are ∙ ap (λ (t : ℕ). order_fields bytes (number_at 4 5 bytes) (number_at 4 33 bytes) (number_at 4 37 bytes) ((8, t) ∷ [])) time_is in
    let body = same_fields 10 _ _ bytes fields_are same (AllFit-fields_at sizes 5 bytes h) in
    (body.0, (body.1, sfits_to_z (Fits-of_lt {w = w64} {n = number_at 8 51 bytes} time_fits)))

either_true : (a b : Bool) → (a || b) ≡ true → (a ≡ true) ⊎ (b ≡ true)
either_true true b e = inl refl
either_true false b e = inr e

at_10 : (bytes : List ℕ) → AreBytes bytes → IsWhole 10 bytes → IsSpelled 10 bytes
unfolding order_with
at_10 bytes h whole =
    let theirs : IsTheirs bytes (order_in bytes) =
    elim (either_true _ _ whole.size) [
      | inl short ↦
          let body : length bytes - 5 ≡ 46 = eqb-true _ _ short in
          let size : length bytes ≡ 51 = omega (arith, whole.room) in
          let latest_is : latest_in bytes ≡ None = ap (λ (n : ℕ). if n == 59 then Some (time_of (number_at 8 51 bytes)) else None) size in
          subst (λ (latest : Option ℤ). IsTheirs bytes (order_with bytes latest)) (sym latest_is) (order_of_51 bytes h whole size)
      | inr long ↦
          let body : length bytes - 5 ≡ 54 = eqb-true _ _ long in
          let size : length bytes ≡ 59 = omega (arith, whole.room) in
          let latest_is : latest_in bytes ≡ Some (time_of (number_at 8 51 bytes)) = ap (λ (n : ℕ). if n == 59 then Some (time_of (number_at 8 51 bytes)) else None) size in
          subst (λ (latest : Option ℤ). IsTheirs bytes (order_with bytes latest)) (sym latest_is) (order_of_59 bytes h whole size)
    ] in
    record { same = theirs.0; fits = theirs.1 }

-- ---- client ids

both_true : (a b : Bool) → (a && b) ≡ true → (a ≡ true) × (b ≡ true)
both_true true b e = (refl, e)
both_true false b e = absurd cc

eights : ℕ → List ℕ
eights count = replicate count 8

total-eights : (count : ℕ) → total (eights count) ≡ 8 * count
unfolding eights
total-eights zero = refl
total-eights (suc count) = omega (arith, total-eights count)

fields_at-eights : (count place : ℕ) (bytes : List ℕ) → fields_at (eights count) place bytes ≡ as_fields (numbers_at count place bytes)
unfolding numbers_at eights
fields_at-eights zero place bytes = refl
fields_at-eights (suc count) place bytes = ap (λ (fs : List Field). (8, number_at 8 place bytes) ∷ fs) (fields_at-eights count (place + 8) bytes)

id_fields-ids_in : (bytes : List ℕ) → id_fields (ids_in bytes) ≡ fields_at (eights (id_count bytes)) 5 bytes
unfolding ids_in
id_fields-ids_in bytes =
    let ids = numbers_at (id_count bytes) 5 bytes in
    ap as_fields (take_at ids (replicate (8 - id_count bytes) 0) (id_count bytes) (length-numbers_at (id_count bytes) 5 bytes))
    ∙ sym (fields_at-eights (id_count bytes) 5 bytes)

length-ids_in : (bytes : List ℕ) → length (ids_in bytes).ids ≡ 8
unfolding ids_in
length-ids_in bytes =
    omega (arith, length-append (numbers_at (id_count bytes) 5 bytes) (replicate (8 - id_count bytes) 0), length-numbers_at (id_count bytes) 5 bytes, length-replicate {A = ℕ} (8 - id_count bytes) 0)

at_18 : (bytes : List ℕ) → AreBytes bytes → IsWhole 18 bytes → IsSpelled 18 bytes
unfolding spelling
at_18 bytes h whole =
    let first = both_true _ _ whole.size in
    let second = both_true _ _ first.0 in
    let eighth : (length bytes - 5) % 8 ≡ 0 = eqb-true _ _ second.0 in
    let some : 8 ≤ length bytes - 5 = leb-true _ _ second.1 in
    let few : length bytes - 5 ≤ 64 = leb-true _ _ first.1 in
    let sizes : List ℕ = eights (id_count bytes) in
    let size : 5 + total sizes ≡ length bytes = omega (arith, total-eights (id_count bytes)) in
    let same = spelled-tagged 18 sizes bytes h whole size in
    let body = same_fields 18 _ _ bytes (id_fields-ids_in bytes) same (AllFit-fields_at sizes 5 bytes h) in
    record { same = body.0; fits = (body.1, length-ids_in bytes) }

-- ---- every tag

retired : (tag : ℕ) (bytes : List ℕ) → is_retired tag ≡ true → IsWhole tag bytes → IsSpelled tag bytes
retired tag bytes e whole =
    let both : false ≡ true = sym whole.current ∙ e in
    absurd cc

-- a tag below the next is this one or below it
next : (top tag : ℕ) (bytes : List ℕ) → (IsWhole top bytes → IsSpelled top bytes) → (tag < top → IsWhole tag bytes → IsSpelled tag bytes)
    → tag < suc top → IsWhole tag bytes → IsSpelled tag bytes
next top tag bytes here below lt whole =
    elim (cases_lt tag top) [
      | inl less ↦ below less whole
      | inr le ↦
          let e : tag ≡ top = omega arith in
          subst (λ (t : ℕ). IsSpelled t bytes) (sym e) (here (subst (λ (t : ℕ). IsWhole t bytes) e whole))
    ]

every_tag : (tag : ℕ) (bytes : List ℕ) → AreBytes bytes → tag < 19 → IsWhole tag bytes → IsSpelled tag bytes
every_tag tag bytes h =
    next 18 tag bytes (at_18 bytes h)
    (next 17 tag bytes (retired 17 bytes refl)
    (next 16 tag bytes (at_16 bytes h)
    (next 15 tag bytes (at_15 bytes h)
    (next 14 tag bytes (at_14 bytes h)
    (next 13 tag bytes (at_13 bytes h)
    (next 12 tag bytes (at_12 bytes h)
    (next 11 tag bytes (at_11 bytes h)
    (next 10 tag bytes (at_10 bytes h)
    (next 9 tag bytes (retired 9 bytes refl)
    (next 8 tag bytes (at_8 bytes h)
    (next 7 tag bytes (at_7 bytes h)
    (next 6 tag bytes (retired 6 bytes refl)
    (next 5 tag bytes (at_5 bytes h)
    (next 4 tag bytes (retired 4 bytes refl)
    (next 3 tag bytes (at_3 bytes h)
    (next 2 tag bytes (at_2 bytes h)
    (next 1 tag bytes (retired 1 bytes refl)
    (next 0 tag bytes (at_0 bytes h) (λ lt. absurd (omega arith))))))))))))))))))))

-- the instruction that is read of bytes that break no rule is spelled as they are
pub spelling-instruction : (bytes : List ℕ) → AreBytes bytes → broken bytes ≡ None → IsTheirs bytes (instruction bytes)
unfolding instruction
spelling-instruction bytes h none =
    let whole = is_whole bytes none in
    let theirs = every_tag (tag_in bytes) bytes h (omega (arith, whole.known)) whole in
    (theirs.same, theirs.fits)
