use Rattle.dex_abi.specs.Lent.{acting_on}
use Rattle.dex_abi.proofs.CheckedLaws.{can-process, counted-ends}
use Rattle.dex_abi.proofs.checking.process_counted.Goals as goal

pub process_in-requires : goal.process_in-requires
process_in-requires c =
    can-process c.args.instruction.now c.args.market.now c.args.wallets.now c.count_pending.new.market c.requires c.count_pending.ensures.counted
    c.count_pending.ensures.accounts

pub returns-clause-ends : goal.returns-clause-ends
returns-clause-ends c =
    counted-ends c.args.instruction.now c.process_in.result c.args.market.now c.args.wallets.now c.count_pending.new.market
    (acting_on c.process_in.new.market c.process_in.new.wallets) c.count_pending.ensures.counted c.count_pending.ensures.accounts c.process_in.ensures.ends
