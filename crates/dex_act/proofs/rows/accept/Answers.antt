use Rattle.dex_act.proofs.Rowing.{behind-both, coin-paid, gets, pays, pc-paid}
use Rattle.dex_act.proofs.rows.accept.Goals as goal

pub debits-deposits-requires : goal.debits-deposits-requires
debits-deposits-requires c = pays c.requires.can c.requires.decided c.amounts_of-amounts.result c.amounts_of-amounts.ensures

pub carry_out-payouts-requires-clause-coin : goal.carry_out-payouts-requires-clause-coin
carry_out-payouts-requires-clause-coin c =
    coin-paid c.requires.can c.requires.decided c.amounts_of-amounts.result c.amounts_of-amounts.ensures c.debits-deposits.result.coin c.debits-deposits.ensures.coin

pub carry_out-payouts-requires-clause-pc : goal.carry_out-payouts-requires-clause-pc
carry_out-payouts-requires-clause-pc c =
    pc-paid c.requires.can c.requires.decided c.amounts_of-amounts.result c.amounts_of-amounts.ensures c.debits-deposits.result.pc c.debits-deposits.ensures.pc

pub credits-requires : goal.credits-requires
credits-requires c =
    gets c.requires.can c.requires.decided c.amounts_of-amounts.result c.amounts_of-amounts.ensures
    c.debits-deposits.new.cells c.debits-deposits.ensures.moved c.carry_out-payouts.result c.carry_out-payouts.ensures.paid

pub returns-clause-wallets : goal.returns-clause-wallets
returns-clause-wallets c =
    behind-both c.requires.can c.requires.decided c.amounts_of-amounts.result c.amounts_of-amounts.ensures
    c.debits-deposits.new.cells c.debits-deposits.ensures.moved c.carry_out-payouts.result c.carry_out-payouts.ensures.paid
    c.credits.new.cells c.credits.ensures
