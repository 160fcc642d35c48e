-- What a plan moves between wallets and vaults, and what it says of the sums after it.
use Rattle.std.specs.Prelude.{Option, Some, None}
use Rattle.dex_types.specs.Side.{locked_token}
use Rattle.dex_types.specs.Transfers.{Transfers, deposit, exchange, no_transfers, payout}
use Rattle.dex_ring.specs.declared.pending_fills.PendingFills.{PendingFills}
use Rattle.dex_plan.specs.declared.plan.Deposit.{Deposit}
use Rattle.dex_plan.specs.declared.plan.Plan.{Plan}
use Rattle.dex_plan.specs.declared.plan.Plan.TheVariants as plans

-- the transfers of a plan: an order's deposit, what a take pays and gets, what is settled, the fees that are swept
abbrev pub plan_transfers : Plan → Transfers
plan_transfers (plans.Order taker plan pending) = deposit (locked_token taker.id_side) plan.deposit
plan_transfers (plans.Take taker plan pending) = exchange (locked_token taker.id_side) plan.deposit plan.payout
plan_transfers (plans.Settle plan) = payout plan.coin plan.pc plan.referrer
plan_transfers (plans.Sweep fees) = payout 0 fees 0
plan_transfers _ = no_transfers

-- what enters vaults by transfers
abbrev pub entering : Transfers → Deposit
entering moved = record { coin = moved.coin_in; pc = moved.pc_in }

-- what a plan takes into the vaults
abbrev pub deposit_of : Plan → Deposit
deposit_of plan = entering (plan_transfers plan)

-- the sums after it that a plan tells: those of an order and of a take
abbrev pub sums_told : Plan → Option PendingFills
sums_told (plans.Order taker plan pending) = Some pending
sums_told (plans.Take taker plan pending) = Some pending
sums_told _ = None
