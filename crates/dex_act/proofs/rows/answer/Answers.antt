use Rattle.std.proofs.Common.{sym, ◌∙◌}
use Rattle.dex_act.proofs.Rowing.{refused-moves}
use Rattle.dex_act.proofs.rows.answer.Goals as goal

pub returns-in-Err-clause-wallets : goal.returns-in-Err-clause-wallets
returns-in-Err-clause-wallets c =
    refused-moves c.args.asked.now.row.now c.args.asked.now.seen.now c.in-Err.refusal c.args.market.now c.args.wallets.now (sym c.in-Err.is ∙ c.decide_into.ensures)
