use Rattle.std.proofs.Common.{◌≡◌, ℕ, sym, ◌∙◌, ◌%◌, ◌/◌, ◌^◌}
use Rattle.dex_fields.specs.Bytes.{bytes_of_number}
use Rattle.dex_fields.proofs.Numbers.{bytes_low_first-is, bytes_of_number-append}
use Rattle.dex_fields.proofs.put.halves.Goals as goal

pub returns : goal.returns
unfolding bytes_of_number
returns c =
    let low : ℕ = c.args.value % 2 ^ 64 in
    let high : ℕ = c.args.value / 2 ^ 64 in
    let first : c.copy_from_slice.new.self ≡ bytes_of_number 8 low = c.copy_from_slice.ensures.after ∙ c.to_le_bytes.ensures ∙ bytes_low_first-is 8 low in
    let second : c.copy_from_slice-2.new.self ≡ bytes_of_number 8 high = c.copy_from_slice-2.ensures.after ∙ c.to_le_bytes-2.ensures ∙ bytes_low_first-is 8 high in
    rw (first, second) (sym (bytes_of_number-append 8 8 c.args.value))
