use Rattle.std.proofs.Common.{sym, ap, ◌∙◌}
use Rattle.std.proofs.lemmas.List.Folds.{flat_map-map}
use Rattle.std.proofs.lemmas.Result.{IfOk-weaker}
use Rattle.dex_worth.specs.Rows.{plain_row}
use Rattle.dex_replay.specs.WorthText.{trader_line, with_lines}
use Rattle.dex_worth.proofs.text.worth_text.Goals as goal

pub returns : goal.returns
returns c = IfOk-weaker c.lines_of.result _ _ (λ text is. is ∙ ap (with_lines c.args.markets) (sym (flat_map-map trader_line plain_row c.args.table.now))) c.lines_of.ensures
