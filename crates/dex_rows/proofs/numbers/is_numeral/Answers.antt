use Rattle.std.proofs.Common.{◌∙◌, false, refl, sym, true}
use Rattle.std.specs.Char.{is_ascii_digit}
use Rattle.std.specs.List.{list_all}
use Rattle.dex_rows.proofs.NumberLemmas.{numeral_bare}
use Rattle.dex_rows.proofs.numbers.is_numeral.Goals as goal

pub returns-then-is_bare : goal.returns-then-is_bare
returns-then-is_bare c =
    let text = c.args.text.now in
    c.all_digits.ensures ∙ sym (numeral_bare text true (list_all is_ascii_digit text) (sym c.is_bare.ensures ∙ c.if-is_bare.true) refl)

pub returns-else-is_bare : goal.returns-else-is_bare
returns-else-is_bare c =
    let text = c.args.text.now in
    c.if-is_bare.false ∙ sym (numeral_bare text false (list_all is_ascii_digit text) (sym c.is_bare.ensures ∙ c.if-is_bare.false) refl)
