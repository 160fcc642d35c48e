use Rattle.std.proofs.Common.{◌≡◌, ◌∙◌, ap, subst, sym}
use Rattle.dex_cell.specs.CellState.{IsMarketCell, MarketCellState}
use Rattle.dex_world.specs.RowsOf.{rows_on}
use Rattle.dex_journals.specs.Inside.{numbers_in}
use Rattle.dex_journals.proofs.MarketLaws.{begun}
use Rattle.dex_journals.proofs.market.BankMarket.open.Goals as goal

pub invariant_of-result : goal.invariant_of-result
invariant_of-result c =
    let same : c.in_ok-new.field-0.value ≡ c.args.cell = c.in_ok-new.ensures.ok in
    begun c.in_ok-new.field-0.value c.args.script.value (numbers_in c.new-2.result.items) c.first.result.number (subst IsMarketCell (sym same) c.spare-spare.ensures.cell)
    (ap (λ (cell : MarketCellState). cell.calls) same ∙ c.requires.fresh)
    (ap numbers_in c.new-2.ensures)
    (subst (λ (cell : MarketCellState). cell.room ≡ rows_on cell.start.address c.args.script.value.rows) (sym same) c.requires.room)
