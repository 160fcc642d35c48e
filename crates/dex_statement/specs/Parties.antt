-- Whom an instruction row names.
use Rattle.std.specs.Prelude.{ℕ, if◌then◌else◌, List, [], ◌∷◌, ◌++◌, bytes_eq, codes, Result, Ok}
use Rattle.dex_types.specs.declared.addresses.Address.{Address}
use Rattle.dex_rows.specs.Addresses.{address_of, role_of}
use Rattle.dex_statement.specs.declared.faults.FaultKind.{FaultKind}
use Rattle.dex_statement.specs.declared.faults.FaultKind.TheVariants.{BadLabel}
use Rattle.dex_statement.specs.Faults.{◌>>=◌, found_or}
use Rattle.dex_statement.specs.Stated.{PlainParties}
use Rattle.dex_statement.specs.Words.{Fields, field_at, words_of}

-- the addresses that words name, one a word, after those that were read
abbrev pub named_behind : List Address → Fields → Result (List Address) FaultKind
named_behind named [] = Ok named
named_behind named (word ∷ words) = found_or (address_of word) BadLabel >>= λ address. named_behind (named ++ address ∷ []) words

-- none for `-`, or address words with one space between two
unfoldable pub named_of : List ℕ → Result (List Address) FaultKind
named_of field = if bytes_eq field (codes "-") then Ok [] else named_behind [] (words_of field)

-- the fields from MARKET to REFERRER
unfoldable pub parties_of : Fields → Result PlainParties FaultKind
parties_of row = do
  market ← found_or (address_of (field_at row 2)) BadLabel
  signer ← found_or (address_of (field_at row 3)) BadLabel
  coin ← found_or (role_of (field_at row 5)) BadLabel
  pc ← found_or (role_of (field_at row 6)) BadLabel
  discount ← found_or (role_of (field_at row 7)) BadLabel
  referrer ← found_or (role_of (field_at row 8)) BadLabel
  named ← named_of (field_at row 4)
  Ok (record { market = market; signer = signer; named = named; coin = coin; pc = pc; discount = discount; referrer = referrer })
