-- Zeros in base64.
use Rattle.std.proofs.Common.{◌≡◌, ◌∙◌, ℕ, zero, suc, ◌+◌, ◌*◌, List, ◌∷◌, ◌++◌, replicate, length, true, ap, arith, refl, sym}
use Rattle.std.proofs.lemmas.List.{replicate-append-replicate}
use Rattle.base64.specs.Engines.{standard}
use Rattle.base64.specs.GeneralPurpose.{encode_of}
use Rattle.base64.specs.Rfc4648.{encode_symbols}
use Rattle.base64.proofs.EngineFacts.{encode_of-append, encode_of-nil}
use Rattle.dex_orders.specs.Faults.{are_zeros}
use Rattle.dex_dump.specs.DumpText.{base64_text}
use Rattle.dex_dump.specs.Pieces.{zeros_text}
use Rattle.dex_dump.proofs.FieldLaws.{zeros}

-- some more of the same in front
more : (front count all x : ℕ) → all ≡ front + count → replicate all x ≡ replicate front x ++ replicate count x
more front count all x whole = ap (λ n. replicate n x) whole ∙ sym (replicate-append-replicate front count x)

-- three zeros give four times `A`
pub zeros-text : (groups : ℕ) → base64_text (replicate (3 * groups) 0) ≡ replicate (4 * groups) 65
unfolding base64_text encode_symbols
zeros-text zero = encode_of-nil standard
zeros-text (suc groups) =
    ap (encode_of standard) (more 3 (3 * groups) (3 * suc groups) 0 (omega arith))
    ∙ encode_of-append standard (replicate 3 0) (replicate (3 * groups) 0) refl
    ∙ ap (λ (text : List ℕ). 65 ∷ 65 ∷ 65 ∷ 65 ∷ text) (zeros-text groups)
    ∙ sym (more 4 (4 * groups) (4 * suc groups) 65 (omega arith))

-- a block of zeros
pub block-of-zeros : (block : List ℕ) → length block ≡ 49152 → are_zeros block ≡ true → base64_text block ≡ zeros_text
unfolding zeros_text
block-of-zeros block size all = ap base64_text (zeros block all ∙ ap (λ n. replicate n 0) size) ∙ zeros-text 16384

-- a piece of zeros
pub piece-of-zeros : (piece : List ℕ) → length piece ≡ 768 → are_zeros piece ≡ true → base64_text piece ≡ replicate 1024 65
piece-of-zeros piece size all = ap base64_text (zeros piece all ∙ ap (λ n. replicate n 0) size) ∙ zeros-text 256
