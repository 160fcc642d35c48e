-- a step is answered by a refusal where there is a reason, and only there
use Rattle.std.proofs.Common.{◌≡◌, is_some, false, List, [], ◌∷◌, Option, Some, None, Result, Ok, Err, refl}
use Rattle.dex_types.specs.declared.addresses.Address.{Address}
use Rattle.dex_types.specs.declared.instructions.BadData.{BadData}
use Rattle.dex_types.specs.declared.instructions.Ix.{Ix}
use Rattle.dex_types.specs.declared.instructions.Ix.TheVariants.{InitializeMarket, MatchOrders, ConsumeEvents, SettleFunds, DisableMarket, SweepFees, NewOrderV3, CancelOrderV2, CancelOrderByClientIdV2, SendTake, CloseOpenOrders, InitOpenOrders, Prune, CancelOrdersByClientIds}
use Rattle.dex_types.specs.declared.refusals.Refusal.{Refusal}
use Rattle.dex_types.specs.declared.rows.Seen.{Seen}
use Rattle.dex_types.specs.Market.{Market}
use Rattle.dex_types.specs.Requests.{Party, Request, party_of}
use Rattle.dex_types.specs.Steps.{Step, act, act_decoded, act_init, by_party, step, unless_refused}
use Rattle.dex_types.specs.Why.{why}
use Rattle.dex_history.specs.Journal.{is_refusal}

party-accepts : (acts : Party → Step) (m : Market) (found : Option Party) → ((party : Party) → is_refusal (acts party).reply ≡ false)
    → is_refusal (by_party acts m found).reply ≡ false
party-accepts acts m None each = refl
party-accepts acts m (Some party) each = each party

init-accepts : (named : List Address) (signer : Address) (m : Market) → is_refusal (act_init named signer m).reply ≡ false
init-accepts [] signer m = refl
init-accepts (address ∷ others) signer m = refl

act-accepts : (ix : Ix) (request : Request) (seen : Seen) (m : Market) → is_refusal (act ix request seen m).reply ≡ false
act-accepts (InitializeMarket coin_lot pc_lot fee_rate_bps nonce dust) request seen m = refl
act-accepts (MatchOrders limit) request seen m = refl
act-accepts (ConsumeEvents limit) request seen m = refl
act-accepts SettleFunds request seen m = party-accepts _ m (party_of request.named m.traders) (λ party. refl)
act-accepts DisableMarket request seen m = refl
act-accepts SweepFees request seen m = refl
act-accepts (NewOrderV3 side price lots max_pc self_trade order_type client limit latest) request seen m =
    party-accepts _ m (party_of request.named m.traders) (λ party. refl)
act-accepts (CancelOrderV2 side id) request seen m = party-accepts _ m (party_of request.named m.traders) (λ party. refl)
act-accepts (CancelOrderByClientIdV2 client) request seen m = party-accepts _ m (party_of request.named m.traders) (λ party. refl)
act-accepts (SendTake side price lots max_pc min_lots min_pc limit) request seen m = refl
act-accepts CloseOpenOrders request seen m = party-accepts _ m (party_of request.named m.traders) (λ party. refl)
act-accepts InitOpenOrders request seen m = init-accepts request.named request.signer m
act-accepts (Prune limit) request seen m = party-accepts _ m (party_of request.named m.traders) (λ party. refl)
act-accepts (CancelOrdersByClientIds ids) request seen m = party-accepts _ m (party_of request.named m.traders) (λ party. refl)

decoded-accepts : (instruction : Result Ix BadData) (request : Request) (seen : Seen) (m : Market) → is_refusal (act_decoded instruction request seen m).reply ≡ false
decoded-accepts (Err rule) request seen m = refl
decoded-accepts (Ok ix) request seen m = act-accepts ix request seen m

refused-so : (reason : Option Refusal) (request : Request) (seen : Seen) (m : Market)
    → is_refusal (unless_refused reason m (act_decoded request.instruction request seen m)).reply ≡ is_some reason
refused-so None request seen m = decoded-accepts request.instruction request seen m
refused-so (Some refusal) request seen m = refl

-- a step is refused where there is a reason, and only there
pub step-refused : (request : Request) (seen : Seen) (m : Market) → is_refusal (step request seen m).reply ≡ is_some (why request seen m)
step-refused request seen m = refused-so (why request seen m) request seen m
