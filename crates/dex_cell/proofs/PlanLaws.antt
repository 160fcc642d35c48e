-- What a decided plan moves is what the row's step moves.
use Rattle.std.proofs.Common.{◌≡◌, false, is_some, Option, Some, None, Result, Ok, Err, refl, sym, ap, subst, ◌∙◌}
use Rattle.std.specs.Result.{is_err}
use Rattle.dex_types.specs.declared.refusals.Refusal.{Refusal}
use Rattle.dex_types.specs.declared.rows.Row.{Row}
use Rattle.dex_types.specs.declared.rows.Seen.{Seen}
use Rattle.dex_types.specs.Market.{Market}
use Rattle.dex_types.specs.Reasons.{answered}
use Rattle.dex_types.specs.Requests.{Request}
use Rattle.dex_types.specs.Rows.{row_of}
use Rattle.dex_types.specs.Steps.{refused, step}
use Rattle.dex_types.specs.Transfers.{Transfers}
use Rattle.dex_types.specs.Why.{why}
use Rattle.dex_plan.specs.declared.plan.Plan.{Plan}
use Rattle.dex_plan.specs.Owing.{plan_transfers}
use Rattle.dex_plan.specs.Plans.{decided, plan_decoded}
use Rattle.dex_plan.proofs.StepLaws as laws
use Rattle.dex_history.specs.Journal.{is_refusal, request_of}
use Rattle.dex_history.proofs.RefusalLaws.{step-refused}
use Rattle.dex_cell.specs.CellState.{MarketCellState, answer_on, market_at, step_on}

-- a row that is refused by deciding makes the refused step
pub refused-step : (refusal : Refusal) (request : Request) (seen : Seen) (m : Market) → Err refusal ≡ decided request seen m
    → step request seen m ≡ refused refusal m
refused-step refusal request seen m is = laws.step-refused request seen m refusal (sym is)

-- what a plan moves that was decided for a cell is what the row's step at the end of its calls moves
pub plan-moves-cell : (cell now : MarketCellState) (row : Row) (seen : Seen) (plan : Plan) (t : Transfers) → cell ≡ now
    → Ok plan ≡ answer_on row seen now → t ≡ plan_transfers plan → t ≡ (step_on row seen cell).transfers
plan-moves-cell cell now row seen plan t same decided_is is =
    is ∙ laws.planned-moves plan (request_of (row_of row)) seen (market_at cell)
    (subst (λ (cell : MarketCellState). Ok plan ≡ answer_on row seen cell) (sym same) decided_is)

-- ---- an accepted row is answered by no refusal

pub answered-refused : {X : Type 0} → (found : Option Refusal) (plan : X) → is_err (answered found plan) ≡ is_some found
answered-refused None plan = refl
answered-refused (Some why) plan = refl

pub planned-done : (plan : Plan) (request : Request) (seen : Seen) (m : Market) → Ok plan ≡ decided request seen m
    → is_refusal (step request seen m).reply ≡ false
planned-done plan request seen m is =
    step-refused request seen m
    ∙ sym (ap (λ (answer : Result Plan Refusal). is_err answer) is ∙ answered-refused (why request seen m) (plan_decoded request.instruction request seen m))
