-- The text of bytes that are written piece by piece.
use Rattle.std.proofs.Common.{◌≡◌, ◌*◌, ◌++◌, ◌∙◌, [], min, List, ℕ, ap, arith, append-nil, inl, inr, length, length-append, sym}
use Rattle.std.proofs.lemmas.Bool.{cases_lt}
use Rattle.std.proofs.lemmas.List.{nil_from_length}
use Rattle.base64.specs.Engines.{standard}
use Rattle.base64.specs.GeneralPurpose.{encode_of}
use Rattle.base64.proofs.EngineFacts.{encode_of-append, encode_of-nil}
use Rattle.dex_dump.specs.DumpText.{base64_text}

-- a piece is of this many bytes, three by three, or the last
pub piece-first : (size thirds : ℕ) (bytes piece rest : List ℕ) → size ≡ 3 * thirds → bytes ≡ piece ++ rest → length piece ≡ min size (length bytes)
    → base64_text bytes ≡ base64_text piece ++ base64_text rest
unfolding base64_text
piece-first size thirds bytes piece rest whole parts short =
    let sum = ap length parts ∙ length-append piece rest in
    elim (cases_lt (length bytes) size) [
      | inl less ↦
          let none : rest ≡ [] = nil_from_length rest (omega arith) in
          rw (parts, none, append-nil piece, encode_of-nil standard) (sym (append-nil (encode_of standard piece)))
      | inr long ↦ ap base64_text parts ∙ encode_of-append standard piece rest (omega arith)
    ]
