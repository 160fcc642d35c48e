-- Words that write bytes.
use Rattle.std.specs.Prelude.{ℕ, List, Option}
use Rattle.base64.specs.Engines.{standard}
use Rattle.base64.specs.GeneralPurpose.{decoded_of}

-- the bytes that a word writes in base64, of the standard alphabet and with padding
unfoldable pub base64_of : List ℕ → Option (List ℕ)
base64_of word = decoded_of standard word
