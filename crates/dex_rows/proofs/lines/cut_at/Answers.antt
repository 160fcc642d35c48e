use Rattle.std.proofs.Common.{◌≡◌, ◌∙◌, ◌+◌, length, arith, sym}
use Rattle.std.proofs.lemmas.Bool.Decides.{nat_tests}
use Rattle.dex_rows.proofs.LineLemmas.{line_comma, line_end, line_far, line_more}
use Rattle.dex_rows.proofs.lines.cut_at.Goals as goal

pub bytes-preserved-then-byte-gt44 : goal.bytes-preserved-then-byte-gt44
bytes-preserved-then-byte-gt44 c =
    let i = c.bytes.invariant in
    (i.0, omega arith, line_more c.args.text.now c.bytes.start c.bytes.at c.bytes.count c.bytes.fields (omega arith) (grind (arith, nat_tests)) (grind (arith, nat_tests)) i.2)

pub bytes-preserved-then-byte-eq44 : goal.bytes-preserved-then-byte-eq44
bytes-preserved-then-byte-eq44 c =
    let text = c.args.text.now in
    let i = c.bytes.invariant in
    let passed = c.next_place-at.ensures in (
      c.keep.ensures.size,
      passed.within,
      line_far text (c.bytes.at + 1) (c.bytes.at + 1) c.next_place-at.result (c.bytes.count + 1) c.keep.new.fields passed
          (line_comma text c.bytes.start c.bytes.at c.bytes.count c.bytes.fields c.keep.new.fields i.0 (omega arith) (grind (arith, nat_tests)) (grind (arith, nat_tests)) c.keep.ensures.kept i.2),
    )

pub returns-then-ends_row-clause-cut : goal.returns-then-ends_row-clause-cut
returns-then-ends_row-clause-cut c =
    let i = c.bytes.invariant in
    line_end c.args.text.now c.bytes.start c.bytes.at c.bytes.count c.bytes.fields _ i.0 c.keep-then-ends_row.ensures.kept i.2

pub bytes-preserved : goal.bytes-preserved
bytes-preserved c =
    let i = c.bytes.invariant in
    (i.0, omega arith, line_more c.args.text.now c.bytes.start c.bytes.at c.bytes.count c.bytes.fields (omega arith) (sym c.ends_row.ensures ∙ c.if-ends_row.false) (grind (arith, nat_tests)) i.2)

pub returns-clause-cut : goal.returns-clause-cut
returns-clause-cut c =
    let text = c.args.text.now in
    let i = c.bytes.invariant in
    let end : c.bytes.at ≡ length text = omega arith in
    line_end text c.bytes.start (length text) c.bytes.count c.bytes.fields _ i.0 c.keep-2.ensures.kept (rw end at i.2)

pub returns-clause-front : goal.returns-clause-front
returns-clause-front c =
    let end : c.bytes.at ≡ length c.args.text.now = omega arith in
    record { fits = omega arith; whole = rw end at c.bytes.invariant.2.whole; ended = λ below. absurd (omega arith) }
