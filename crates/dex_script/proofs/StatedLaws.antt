-- What a row states: its addresses are of 32 bytes, its numbers fit, and its data are bytes.
use Rattle.std.proofs.Common.{◌≡◌, ◌<◌, ◌^◌, ◌==◌, ◌&&◌, ℕ, not, List, Option, Some, None, Ok, refl, subst, length, nat_lt, slice_index}
use Rattle.std.specs.Str.Parse.{digits_value}
use Rattle.std.proofs.lemmas.Bool.{and_parts, eqb-true, ltb-true, not-false}
use Rattle.std.proofs.lemmas.Option.{cond_some, none-some}
use Rattle.dex_instruction.specs.Numbers.{AreBytes}
use Rattle.dex_types.specs.declared.addresses.Address.{Address}
use Rattle.dex_rows.specs.Addresses.{address_of}
use Rattle.dex_rows.specs.Base64.{base64_of}
use Rattle.dex_rows.specs.Numbers.{is_numeral, number_of}
use Rattle.dex_rows.specs.Printable.{row_is_printable}
use Rattle.dex_dump.proofs.ByteLaws.{base64_of-bytes}
use Rattle.dex_dump.proofs.LineLaws.{AreFields, address_of-address, fields-bytes}
use Rattle.dex_statement.specs.declared.faults.FaultKind.TheVariants.{BadCsv, UnknownRow, FieldCount, BadNumber, BadLabel}
use Rattle.dex_statement.specs.declared.forms.Form.{Form}
use Rattle.dex_statement.specs.declared.forms.Form.TheVariants as form
use Rattle.dex_statement.specs.declared.statement.Statement.{Statement}
use Rattle.dex_statement.specs.declared.statement.Statement.TheVariants as row
use Rattle.dex_statement.specs.Forms.{form_of}
use Rattle.dex_statement.specs.Setup.{clock_of, discount_of, market_of, market_word, mint_of, orders_of, program_of, wallet_of, with_last_zero}
use Rattle.dex_statement.specs.Stated.{PlainMarketWords}
use Rattle.dex_statement.specs.Statements.{bytes_row, stated, statement_of, words_row}
use Rattle.dex_statement.specs.Swaps.{swap_row}
use Rattle.dex_statement.specs.Words.{Fields, field_at}
use Rattle.dex_script.proofs.FaultLaws.{Gives, gives-bind, gives-found, gives-ok, gives-past, gives-unless}

-- ---- words

number-fits : (limit : ℕ) (word : List ℕ) (n : ℕ) → number_of limit word ≡ Some n → n < limit
unfolding number_of
number-fits limit word n is =
    let value = digits_value 10 word in
    let a = cond_some (is_numeral word && nat_lt value limit) value n is in
    let small : value < limit = ltb-true value limit (and_parts (is_numeral word) (nat_lt value limit) a.0).1 in
    subst (λ (x : ℕ). x < limit) a.1 small

last-zero : (found : Option Address) (address : Address) → with_last_zero found ≡ Some address
    → (found ≡ Some address) × (slice_index address.0 31 ≡ 0)
last-zero None address is = absurd (none-some address is)
last-zero (Some other) address is =
    let a = cond_some (slice_index other.0 31 == 0) other address is in
    let same : Some other ≡ Some address = subst (λ (x : Address). Some other ≡ Some x) a.1 refl in
    let zero_there : slice_index other.0 31 ≡ 0 = eqb-true (slice_index other.0 31) 0 a.0 in
    (same, subst (λ (x : Address). slice_index x.0 31 ≡ 0) a.1 zero_there)

market-address : (word : List ℕ) (address : Address) → market_word word ≡ Some address
    → (address_of word ≡ Some address) × (slice_index address.0 31 ≡ 0)
unfolding market_word
market-address word address is = last-zero (address_of word) address is

-- ---- statements

-- a market row: addresses of 32 bytes, the last of the market's 0, and bytes
pub record IsMarketStated (words : PlainMarketWords) : Type 0 where
  pub address : length words.address.0 ≡ 32
  pub last_byte : slice_index words.address.0 31 ≡ 0
  pub coin : length words.coin.0 ≡ 32
  pub pc : length words.pc.0 ≡ 32
  pub bytes : AreBytes words.bytes

-- a wallet row: addresses of 32 bytes, and an amount of 64 bits
pub record IsWalletStated (mint owner : Address) (amount : ℕ) : Type 0 where
  pub mint_size : length mint.0 ≡ 32
  pub owner_size : length owner.0 ≡ 32
  pub fits : amount < 2 ^ 64

-- what a row states
abbrev pub IsStated : Statement → Type 0
IsStated (row.Mint address decimals) = decimals < 2 ^ 8
IsStated (row.Wallet address mint owner amount) = IsWalletStated mint owner amount
IsStated (row.Market words) = IsMarketStated words
IsStated _ = Unit {0}

module _ (fields : Fields) (are : AreFields fields) where
  wide : (place : ℕ) (address : Address) → address_of (field_at fields place) ≡ Some address → length address.0 ≡ 32
  wide place address is = (address_of-address (field_at fields place) address is).size

  market-stated : Gives IsMarketStated (market_of fields)
  unfolding market_of
  market-stated =
      gives-past IsMarketStated _ FieldCount _ (
      gives-found IsMarketStated (number_of (2 ^ 32) (field_at fields 5)) BadNumber _ (λ bid_nodes h5.
      gives-found IsMarketStated (number_of (2 ^ 32) (field_at fields 6)) BadNumber _ (λ ask_nodes h6.
      gives-found IsMarketStated (number_of (2 ^ 32) (field_at fields 7)) BadNumber _ (λ events h7.
      gives-found IsMarketStated (base64_of (field_at fields 8)) BadNumber _ (λ bytes h8.
      gives-found IsMarketStated (market_word (field_at fields 1)) BadLabel _ (λ address h1.
      gives-found IsMarketStated (address_of (field_at fields 2)) BadLabel _ (λ coin h2.
      gives-found IsMarketStated (address_of (field_at fields 3)) BadLabel _ (λ pc h3.
      gives-found IsMarketStated (address_of (field_at fields 4)) BadLabel _ (λ authority h4.
      let own = market-address (field_at fields 1) address h1 in
      gives-ok IsMarketStated _ (record {
        address = wide 1 address own.0;
        last_byte = own.1;
        coin = wide 2 coin h2;
        pc = wide 3 pc h3;
        bytes = base64_of-bytes (field_at fields 8) bytes (are 8) h8;
      }))))))))))

  form-stated : (kind : Form) → Gives IsStated (stated kind fields)
  unfolding program_of clock_of mint_of wallet_of orders_of
  form-stated form.Program = gives-past IsStated _ FieldCount _ (gives-found IsStated _ UnknownRow _ (λ program h. gives-ok IsStated (row.Program program) tt))
  form-stated form.Clock = gives-past IsStated _ FieldCount _ (gives-found IsStated _ BadNumber _ (λ now h. gives-ok IsStated (row.Clock now) tt))
  form-stated form.Mint =
      gives-past IsStated _ FieldCount _ (
      gives-found IsStated (number_of (2 ^ 8) (field_at fields 2)) BadNumber _ (λ decimals h.
      gives-found IsStated (address_of (field_at fields 1)) BadLabel _ (λ address h1.
      gives-ok IsStated (row.Mint address decimals) (number-fits (2 ^ 8) (field_at fields 2) decimals h))))
  form-stated form.Srm = gives-bind IsStated (discount_of fields) _ (λ mint h. gives-ok IsStated (row.Srm mint) tt)
  form-stated form.Msrm = gives-bind IsStated (discount_of fields) _ (λ mint h. gives-ok IsStated (row.Msrm mint) tt)
  form-stated form.Wallet =
      gives-past IsStated _ FieldCount _ (
      gives-found IsStated (number_of (2 ^ 64) (field_at fields 4)) BadNumber _ (λ amount h.
      gives-found IsStated (address_of (field_at fields 1)) BadLabel _ (λ address h1.
      gives-found IsStated (address_of (field_at fields 2)) BadLabel _ (λ mint h2.
      gives-found IsStated (address_of (field_at fields 3)) BadLabel _ (λ owner h3.
      gives-ok IsStated (row.Wallet address mint owner amount) (record {
        mint_size = wide 2 mint h2;
        owner_size = wide 3 owner h3;
        fits = number-fits (2 ^ 64) (field_at fields 4) amount h;
      }))))))
  form-stated form.Orders =
      gives-past IsStated _ FieldCount _ (
      gives-found IsStated (address_of (field_at fields 1)) BadLabel _ (λ market h1.
      gives-found IsStated (address_of (field_at fields 2)) BadLabel _ (λ address h2.
      gives-ok IsStated (row.Orders market address) tt)))
  form-stated form.Market =
      gives-bind IsStated (market_of fields) _ (λ words h. gives-ok IsStated (row.Market words) (market-stated words h))
  form-stated form.Bytes = gives-bind IsStated (bytes_row fields) _ (λ words h. gives-ok IsStated (row.Instruction words) tt)
  form-stated form.Words = gives-bind IsStated (words_row fields) _ (λ words h. gives-ok IsStated (row.Instruction words) tt)
  form-stated form.Swap = gives-bind IsStated (swap_row fields) _ (λ words h. gives-ok IsStated (row.Swap words) tt)

pub row-stated : (fields : Fields) (statement : Statement) → statement_of fields ≡ Ok statement → IsStated statement
unfolding statement_of
row-stated fields statement is =
    gives-unless IsStated (not (row_is_printable fields)) BadCsv _ (λ printable.
    let are = fields-bytes fields (not-false (row_is_printable fields) printable) in
    gives-found IsStated (form_of (field_at fields 0)) UnknownRow (λ kind. stated kind fields) (λ kind h. form-stated fields are kind))
    statement is
