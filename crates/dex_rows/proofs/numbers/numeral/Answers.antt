use Rattle.std.proofs.Common.{◌∙◌, sym}
use Rattle.dex_rows.proofs.NumberLemmas.{numeral_text}
use Rattle.dex_rows.proofs.numbers.numeral.Goals as goal

pub returns-then-is_numeral : goal.returns-then-is_numeral
returns-then-is_numeral c =
    rw c.ok.ensures.value (numeral_text _ c.args.text.now c.from_utf8.result (sym c.is_numeral.ensures ∙ c.if-is_numeral.true) c.from_utf8.ensures.cases)
