use Rattle.std.proofs.Common.{◌≡◌, ◌∙◌, ◌==◌, length, take, arith, sym}
use Rattle.std.proofs.lemmas.Bool.Decides.{nat_tests}
use Rattle.std.proofs.lemmas.List.{length-set, take_all}
use Rattle.dex_rows.proofs.SplitLemmas.{part_cut, part_end, part_more}
use Rattle.dex_statement.specs.Words.{texts}
use Rattle.dex_statement.proofs.WordLaws.{word_more}
use Rattle.dex_statement.proofs.words.few_words.Goals.{then-field-place-eq32+else-count, else-field-place-eq32}
use Rattle.dex_statement.proofs.words.few_words.Goals as goal

pub bytes-preserved : goal.bytes-preserved
bytes-preserved c =
    let field = c.args.field.now in
    let done = texts (take c.bytes.count c.bytes.words) in
    let here = c.bytes.invariant.2 in
    elim c.if-field-place-eq32.branch [
      | then-field-place-eq32+else-count w ↦
          rw (w.words-is, w.start-is, w.count-is) (
            omega arith,
            length-set c.bytes.words c.bytes.count _ ∙ c.bytes.invariant.1,
            rw (word_more c.bytes.words c.bytes.count _ (omega arith)) (part_cut (λ byte. byte == 32) field c.bytes.start c.bytes.place done c.bytes-test.true (grind (arith, nat_tests)) here),
          )
      | else-field-place-eq32 w ↦
          rw (w.words-is, w.start-is, w.count-is)
          (c.bytes.invariant.0, c.bytes.invariant.1, part_more (λ byte. byte == 32) field c.bytes.start c.bytes.place done c.bytes-test.true (grind (arith, nat_tests)) here)
    ]

pub returns-clause-words : goal.returns-clause-words
returns-clause-words c =
    let field = c.args.field.now in
    let end : c.bytes.place ≡ length field = omega arith in
    let words = part_end (λ byte. byte == 32) field c.bytes.start c.bytes.place (texts (take c.bytes.count c.bytes.words)) c.bytes.invariant.2 in
    word_more c.bytes.words c.bytes.count _ (omega arith) ∙ sym (rw (take_all c.bytes.place field c.bytes-test.false, end) at words)
