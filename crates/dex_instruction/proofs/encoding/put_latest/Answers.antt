use Rattle.std.proofs.Common.{◌≡◌, rules, ap, sym, ◌∙◌, arith}
use Rattle.std.specs.Int.{w64, cast_unsigned}
use Rattle.std.specs.Prelude.{FitsSigned}
use Rattle.std.proofs.lemmas.Int.{to_z-of_z}
use Rattle.byteorder.specs.Endian.{little_bytes}
use Rattle.dex_instruction.specs.Codes.{time_code}
use Rattle.dex_instruction.proofs.Writing.{last_number, written-nothing}
use Rattle.dex_instruction.proofs.encoding.put_latest.Goals as goal

pub returns-in-None-clause-bytes : goal.returns-in-None-clause-bytes
returns-in-None-clause-bytes c = rw c.in-None.is (sym (written-nothing 51 c.args.out.now (omega arith)))

pub returns-in-Some-clause-bytes : goal.returns-in-Some-clause-bytes
returns-in-Some-clause-bytes c =
    let time = c.in-Some.time in
    let fits : FitsSigned w64 time = search rules in
    let code : c.time_code.result ≡ time_code time = c.time_code.ensures ∙ ap (cast_unsigned w64) (to_z-of_z w64 time fits) in
    rw c.in-Some.is (last_number 51 8 (time_code time) _ c.args.out.now c.put.new.out (c.to_le_bytes.ensures ∙ ap (little_bytes 8) code) c.put.ensures.bytes)
