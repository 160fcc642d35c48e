use Rattle.std.proofs.Common.{arith, refl, List, [], ◌∷◌, ℕ, true, ◌≡◌, ◌<◌}
use Rattle.std.proofs.lemmas.Bool.{and_parts}
use Rattle.std.proofs.lemmas.Bool.Decides.{nat_tests}
use Rattle.std.proofs.lemmas.Str.Ascii.{IsAscii-nil, IsAscii-cons}
use Rattle.std.specs.Prelude.{nat_lt}
use Rattle.std.specs.List.{list_all}
use Rattle.std.specs.Str.{IsAscii}
use Rattle.hex.specs.Hex.{lower_digits}
use Rattle.hex.proofs.HexLemmas.{IsAscii-encode_with}
use Rattle.dex_types.proofs.addresses.digits_of.Goals as goal

below : (b : ℕ) → nat_lt b 128 ≡ true → b < 128
below b h = grind (arith, nat_tests)

-- the test of each byte, which computes, shows that a text is ASCII
IsAscii-from_test : (bytes : List ℕ) → list_all (λ b. nat_lt b 128) bytes ≡ true → IsAscii bytes
IsAscii-from_test [] h = IsAscii-nil
IsAscii-from_test (b ∷ bytes) h =
    let parts = and_parts (nat_lt b 128) (list_all (λ b. nat_lt b 128) bytes) h in
    IsAscii-cons b bytes (below b parts.0) (IsAscii-from_test bytes parts.1)

pub returns-clause-ascii : goal.returns-clause-ascii
returns-clause-ascii c = rw c.in-Ok.ensures.written (IsAscii-encode_with lower_digits c.args.bytes.now (IsAscii-from_test lower_digits refl))
