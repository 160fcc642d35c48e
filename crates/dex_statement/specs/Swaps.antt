-- Swap rows: two legs, each a take on a market of its own.
use Rattle.std.specs.Prelude.{ℕ, ◌^◌, not, ◌==◌, List, length, Result, Ok}
use Rattle.dex_rows.specs.Addresses.{address_of, role_of}
use Rattle.dex_rows.specs.Base64.{base64_of}
use Rattle.dex_rows.specs.Numbers.{number_of}
use Rattle.dex_statement.specs.declared.faults.FaultKind.{FaultKind}
use Rattle.dex_statement.specs.declared.faults.FaultKind.TheVariants.{FieldCount, BadNumber, BadLabel}
use Rattle.dex_statement.specs.Faults.{◌>>=◌, found_or, unless}
use Rattle.dex_statement.specs.Stated.{PlainLeg, PlainSwap}
use Rattle.dex_statement.specs.Words.{Fields, field_at}

-- a leg of these words, MARKET, COIN and PC, and of these bytes
unfoldable pub leg_of : List ℕ → List ℕ → List ℕ → List ℕ → Result PlainLeg FaultKind
leg_of market_word coin_word pc_word bytes = do
  market ← found_or (address_of market_word) BadLabel
  coin ← found_or (role_of coin_word) BadLabel
  pc ← found_or (role_of pc_word) BadLabel
  Ok (record { market = market; coin = coin; pc = pc; bytes = bytes })

-- `swap,LANE,SIGNER,MARKET1,COIN1,PC1,DATA1,MARKET2,COIN2,PC2,DATA2`, with the instructions' bytes in base64
unfoldable pub swap_row : Fields → Result PlainSwap FaultKind
swap_row row = unless (not (length row == 11)) FieldCount (do
  lane ← found_or (number_of (2 ^ 32) (field_at row 1)) BadNumber
  first_bytes ← found_or (base64_of (field_at row 6)) BadNumber
  second_bytes ← found_or (base64_of (field_at row 10)) BadNumber
  signer ← found_or (address_of (field_at row 2)) BadLabel
  first ← leg_of (field_at row 3) (field_at row 4) (field_at row 5) first_bytes
  second ← leg_of (field_at row 7) (field_at row 8) (field_at row 9) second_bytes
  Ok (record { lane = lane; signer = signer; first = first; second = second }))
