use Rattle.std.proofs.Common.{◌∙◌, ◌^◌, sym}
use Rattle.dex_rows.proofs.NumberLemmas.{number_of-none, number_of-parsed}
use Rattle.dex_rows.proofs.numbers.long_word.Goals as goal

pub returns-in_err-numeral : goal.returns-in_err-numeral
returns-in_err-numeral c = c.from_residual.ensures ∙ sym (number_of-none (2 ^ 64) c.args.text.now (c.in_err-numeral.ensures {u = tt}))

pub returns : goal.returns
returns c =
    let text = c.in_ok-numeral.ensures {u = tt} in
    c.ok.ensures.value ∙ number_of-parsed 64 c.args.text.now c.in_ok-numeral.field-0.now c.parse.result text.0 text.1 c.parse.ensures.value.0
