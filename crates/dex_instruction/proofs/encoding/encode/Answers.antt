use Rattle.std.proofs.Common.{◌≡◌, ◌∷◌, length, take, drop, refl, ap, ◌∙◌, arith}
use Rattle.byteorder.specs.Endian.{little_bytes}
use Rattle.dex_instruction.specs.Reading.{decoded}
use Rattle.dex_instruction.specs.Spelling.{fields_of, spelling, tag_of}
use Rattle.dex_instruction.specs.Writing.{written}
use Rattle.dex_instruction.proofs.Again.{length-spelling}
use Rattle.dex_instruction.proofs.Ranges.{widths-fields_of-le}
use Rattle.dex_instruction.proofs.Unbroken.{decoded-spelling}
use Rattle.dex_instruction.proofs.Writing.{behind_number, drop-written, take-written}
use Rattle.dex_instruction.proofs.encoding.encode.Goals as goal

whole : (c : goal.After-put_fields) → c.put_fields.new.out ≡ written 0 (spelling c.args.ix.now) c.args.out.now
unfolding spelling
whole c =
    let ix = c.args.ix.now in
    let end = c.put_fields.new.out in
    let tag_bytes = c.to_le_bytes.ensures ∙ ap (little_bytes 4) c.tag_of.ensures in
    let from_tag = behind_number 1 5 4 (tag_of ix) (fields_of ix) _ c.put.new.out c.put-2.new.out end (omega arith) (omega arith) tag_bytes c.put-2.ensures.bytes c.put_fields.ensures.bytes in
    behind_number 0 1 1 0 ((4, tag_of ix) ∷ fields_of ix) _ c.args.out.now c.put.new.out end (omega arith) (omega arith) refl c.put.ensures.bytes from_tag

size : (c : goal.After-put_fields) → c.put_fields.result ≡ length (spelling c.args.ix.now)
size c = omega (arith, length-spelling c.args.ix.now, c.put_fields.ensures.end)

pub returns-clause-front : goal.returns-clause-front
returns-clause-front c = ap (take c.put_fields.result) (whole c) ∙ take-written c.put_fields.result (spelling c.args.ix.now) c.args.out.now (size c)

pub returns-clause-behind : goal.returns-clause-behind
returns-clause-behind c = ap (drop c.put_fields.result) (whole c) ∙ drop-written c.put_fields.result (spelling c.args.ix.now) c.args.out.now (size c)

pub returns-clause-few : goal.returns-clause-few
returns-clause-few c = omega (arith, widths-fields_of-le c.args.ix.now c.put_fields.ensures.fits, c.put_fields.ensures.end)

pub returns-clause-decodes : goal.returns-clause-decodes
returns-clause-decodes c = ap decoded (returns-clause-front c) ∙ decoded-spelling c.args.ix.now c.put_fields.ensures.fits
