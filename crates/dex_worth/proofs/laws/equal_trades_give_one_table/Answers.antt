use Rattle.std.proofs.Common.{sym, ap, ◌∙◌}
use Rattle.dex_accounts.specs.Decoded.{market_in}
use Rattle.dex_eager.specs.Eager.{Eager}
use Rattle.dex_eager.specs.Histories.{counted, eager_start}
use Rattle.dex_eager.proofs.DelayLaws.{deals-after}
use Rattle.dex_worth.proofs.Outcomes.{one-table}
use Rattle.dex_worth.proofs.laws.equal_trades_give_one_table.Goals as goal

pub returns-clause-market : goal.returns-clause-market
returns-clause-market c = λ script other first last late journal second one two same.
    one.worths
    ∙ ap (λ (e : Eager). e.worths) (deals-after (counted one.calls) (counted two.calls) (eager_start (market_in first)) same)
    ∙ sym two.worths

pub returns-clause-table : goal.returns-clause-table
returns-clause-table c = λ script other outcome second is is_other lawful lawful_other start same.
    one-table script other outcome second is is_other lawful lawful_other (c.an_entry_tells_its_call.ensures.outcome script is outcome lawful)
    (c.an_entry_tells_its_call.ensures.outcome other is_other second lawful_other) start same
