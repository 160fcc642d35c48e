-- Worked examples of rows and words, by computation.
use Rattle.std.proofs.Common.{◌≡◌, ◌^◌, ◌++◌, ◌∷◌, [], Some, None, false, codes, replicate, refl}
use Rattle.dex_types.specs.Text.{is_label}
use Rattle.dex_rows.specs.Addresses.{address_of, role_of}
use Rattle.dex_rows.specs.Base64.{base64_of}
use Rattle.dex_rows.specs.Numbers.{number_of}
use Rattle.dex_rows.specs.Printable.{is_printable}
use Rattle.dex_rows.specs.Records.{rows_of}
use Rattle.dex_rows.proofs.OnLiterals.{rows_on_literals}

no_rows : rows_of [] ≡ []
unfolding rows_on_literals
no_rows = refl

-- rows of any lengths, a quoted field, empty lines left out, and a last row with no line end
rows_of-ragged : rows_of (codes "mint,usd,6\n\nsrm,usd\r\n\"a,b\"") ≡ (codes "mint" ∷ codes "usd" ∷ codes "6" ∷ []) ∷ (codes "srm" ∷ codes "usd" ∷ []) ∷ (codes "a,b" ∷ []) ∷ []
unfolding rows_on_literals
rows_of-ragged = refl

-- a byte-order mark is no part of the first field
rows_of-mark : rows_of (239 ∷ 187 ∷ 191 ∷ codes "dump\n") ≡ (codes "dump" ∷ []) ∷ []
unfolding rows_on_literals
rows_of-mark = refl

number_of-zero : number_of (2 ^ 8) (codes "0") ≡ Some 0
unfolding rows_on_literals
number_of-zero = refl

number_of-zeros : number_of (2 ^ 64) (codes "007") ≡ None
unfolding rows_on_literals
number_of-zeros = refl

number_of-sign : number_of (2 ^ 64) (codes "+7") ≡ None
unfolding rows_on_literals
number_of-sign = refl

number_of-empty : number_of (2 ^ 64) [] ≡ None
unfolding rows_on_literals
number_of-empty = refl

number_of-most : number_of (2 ^ 64) (codes "18446744073709551615") ≡ Some 18446744073709551615
unfolding rows_on_literals
number_of-most = refl

number_of-limit : number_of (2 ^ 64) (codes "18446744073709551616") ≡ None
unfolding rows_on_literals
number_of-limit = refl

address_of-amy : address_of (codes "amy") ≡ Some (record { 0 = codes "amy" ++ replicate 29 0 })
unfolding rows_on_literals
address_of-amy = refl

-- 25 characters are too many
is_label-long : is_label (codes "abcdefghijklmnopqrstuvwxy") ≡ false
unfolding rows_on_literals
is_label-long = refl

-- short hexadecimal digits are a label
address_of-short : address_of (codes "0x12") ≡ Some (record { 0 = codes "0x12" ++ replicate 28 0 })
unfolding rows_on_literals
address_of-short = refl

-- the pc vault of the market `m`
address_of-vault : address_of (codes "0x6d00000000000000000000000000000000000000000000000000000000000002") ≡ Some (record { 0 = 109 ∷ replicate 30 0 ++ 2 ∷ [] })
unfolding rows_on_literals
address_of-vault = refl

address_of-upper : address_of (codes "0x6D00000000000000000000000000000000000000000000000000000000000002") ≡ None
unfolding rows_on_literals
address_of-upper = refl

role_of-absent : role_of (codes "-") ≡ Some None
unfolding rows_on_literals
role_of-absent = refl

base64_of-four : base64_of (codes "AQAAAAA=") ≡ Some (1 ∷ 0 ∷ 0 ∷ 0 ∷ 0 ∷ [])
unfolding rows_on_literals
base64_of-four = refl

base64_of-bare : base64_of (codes "AQAAAAA") ≡ None
unfolding rows_on_literals
base64_of-bare = refl

is_printable-delete : is_printable (127 ∷ []) ≡ false
unfolding rows_on_literals
is_printable-delete = refl
