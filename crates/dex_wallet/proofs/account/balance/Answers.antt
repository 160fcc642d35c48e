use Rattle.std.proofs.Common.{ap, ◌∙◌, arith}
use Rattle.dex_token.specs.TokenAccount.{with_amount}
use Rattle.dex_token.proofs.AmountWrites.{with_amount-same}
use Rattle.dex_wallet.proofs.account.balance.Goals as goal

pub returns-clause-again : goal.returns-clause-again
returns-clause-again c =
    ap (with_amount c.args.bytes.now) c.amount.ensures ∙ with_amount-same c.args.bytes.now (λ place. omega (arith, c.type_inv.bytes place)) c.requires
