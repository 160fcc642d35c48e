use Rattle.std.proofs.Common.{◌∙◌, sym}
use Rattle.dex_rows.proofs.NumberLemmas.{number_of-digits, number_of-other}
use Rattle.dex_rows.proofs.numbers.short_word.Goals as goal

pub returns-then-is_bare : goal.returns-then-is_bare
returns-then-is_bare c = number_of-digits c.args.text.now c.digits_value.result c.requires (sym c.is_bare.ensures ∙ c.if-is_bare.true) c.digits_value.ensures

pub returns-else-is_bare : goal.returns-else-is_bare
returns-else-is_bare c = sym (number_of-other c.args.text.now (sym c.is_bare.ensures ∙ c.if-is_bare.false))
