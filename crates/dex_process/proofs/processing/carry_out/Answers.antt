use Rattle.dex_lent.specs.Lent.{lent_of}
use Rattle.dex_movements.specs.Amounts.{transfers_of}
use Rattle.dex_process.proofs.ActLaws as laws
use Rattle.dex_process.proofs.processing.carry_out.Goals as goal
use Rattle.dex_process.specs.Process.{acting}
use Rattle.dex_purse.specs.Purse.{purse_of}

pub move_wallets-requires : goal.move_wallets-requires
move_wallets-requires g c slot =
    laws.can-move-each c.args.ask.now c.args.roles.now c.args.seen.now
    (acting (lent_of g.O.OrdersAccounts.held c.args.market.now) (purse_of c.args.wallets.now) c.args.pending.now)
    c.args.plan.now (transfers_of c.amounts_of-amounts.result) c.requires.can c.requires.decided c.amounts_of-amounts.ensures slot

pub returns-clause-acted : goal.returns-clause-acted
returns-clause-acted g c =
    laws.acted c.args.ask.now c.args.roles.now c.args.seen.now
    (acting (lent_of g.O.OrdersAccounts.held c.args.market.now) (purse_of c.args.wallets.now) c.args.pending.now)
    c.args.plan.now (transfers_of c.amounts_of-amounts.result) (lent_of g.O.OrdersAccounts.held c.apply_ask-reply.new.accounts)
    (purse_of c.move_wallets.new.wallets) c.apply_ask-reply.new.pending c.apply_ask-reply.result c.requires.decided c.amounts_of-amounts.ensures
    c.apply_ask-reply.ensures.stepped c.move_wallets.ensures.moved
