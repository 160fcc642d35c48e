use Rattle.std.proofs.Common.{ap, sym}
use Rattle.std.specs.Result.{result_ok}
use Rattle.base64.specs.GeneralPurpose.{decoded_of}
use Rattle.dex_rows.specs.Base64.{base64_of}
use Rattle.dex_rows.proofs.base64_words.base64_word.Goals as goal

pub returns-in-Ok : goal.returns-in-Ok
unfolding base64_of decoded_of
returns-in-Ok c = sym (ap result_ok c.in-Ok.ensures.ok)

pub returns-in-Err-DecodeError : goal.returns-in-Err-DecodeError
unfolding base64_of decoded_of
returns-in-Err-DecodeError c = sym (ap result_ok (rw c.in-Err-DecodeError.field-0-is at c.in-Err-DecodeError.ensures.err))
