use Rattle.std.proofs.Common.{◌≡◌, length, subst, sym, ap, ◌∙◌}
use Rattle.dex_world.proofs.Common.{Call, length-map}
use Rattle.dex_cell.specs.CellState.{entries_of}
use Rattle.dex_journals.specs.Inside.{market_inside}
use Rattle.dex_journals.specs.Journals.{BankMarketState, market_calls}
use Rattle.dex_journals.proofs.StampedLists.{length-stamped}
use Rattle.dex_journals.proofs.market.BankMarketJournaled.count.Goals as goal

pub returns-clause-length : goal.returns-clause-length
returns-clause-length c =
    let market = market_inside c.self.inside in
    subst (λ (one : BankMarketState). length c.entries.result.now ≡ length (market_calls one)) c.self.view_is
    (ap length (c.entries.ensures.entries ∙ ap entries_of c.deref.ensures)
    ∙ length-map market.cell.calls (λ (call : Call). call.entry)
    ∙ sym (length-stamped market.cell.calls market.stamps c.self.invariant.counted))
