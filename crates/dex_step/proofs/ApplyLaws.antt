-- What was decided of a row, by the kind of its plan, and what was done of it.
use Rattle.std.proofs.Common.{◌≡◌, List, ◌∷◌, Ok, sym, subst}
use Rattle.dex_types.specs.declared.addresses.Address.{Address}
use Rattle.dex_types.specs.declared.replies.Reply.{Reply}
use Rattle.dex_types.specs.declared.rows.Seen.{Seen}
use Rattle.dex_types.specs.Accounts.{PlainMarketAccounts}
use Rattle.dex_types.specs.Requests.{HasPrice, Request}
use Rattle.dex_types.specs.Steps.{Step, step}
use Rattle.dex_accounts.specs.Decoded.{AreSound, market_in}
use Rattle.dex_plan.specs.declared.plan.Plan.{Plan}
use Rattle.dex_plan.specs.Plans.{decided}
use Rattle.dex_ring.specs.declared.pending_fills.PendingFills.{PendingFills}
use Rattle.dex_step.specs.Acting.{HasStepped}
use Rattle.dex_step.specs.Planned.{IsPlanned, OfFirst}
use Rattle.dex_step.proofs.PlannedLaws.{asked-planned}

-- the plan is of this kind, so what its kind needs was decided
pub planned-as : (accounts : PlainMarketAccounts) (request : Request) (seen : Seen) (plan kind : Plan) → AreSound accounts → HasPrice request.instruction
    → Ok plan ≡ decided request seen (market_in accounts) → plan ≡ kind
    → IsPlanned kind request (market_in accounts) (step request seen (market_in accounts))
planned-as accounts request seen plan kind sound priced is kind_is =
    subst (λ (p : Plan). IsPlanned p request (market_in accounts) (step request seen (market_in accounts))) kind_is
    (asked-planned request seen (market_in accounts) plan sound.sound priced is)

-- what was done of a kind's step was done of the row's
pub stepped-as : (before after : PlainMarketAccounts) (reply : Reply) (pending now : PendingFills) (s s' : Step) → HasStepped before after reply pending s → s' ≡ s → now ≡ pending
    → HasStepped before after reply now s'
stepped-as before after reply pending now s s' stepped same sums =
    subst (λ (l : PendingFills). HasStepped before after reply l s') (sym sums) (subst (HasStepped before after reply pending) (sym same) stepped)

pub first-holds : (named : List Address) (P : Address → Type 0) (first : Address) → OfFirst named P
    → ((address : Address) (others : List Address) → named ≡ address ∷ others → first ≡ address) → P first
first-holds named P first of is = subst P (sym (is of.address of.others of.is)) of.holds
