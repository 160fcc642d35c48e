-- a sum is too large where the bound would break
use Rattle.std.proofs.Common.{ℕ, ◌+◌, ◌≤◌, ◌≡◌, ◌≢◌, ◌^◌, true, [], ◌∷◌, Option, Some, None, Result, Ok, Err, is_some, length, take, refl, subst, arith, ◌↔◌, sym, ◌∙◌}
use Rattle.std.proofs.lemmas.Bool.{leb-true, false≢true}
use Rattle.dex_types.specs.declared.addresses.Address.{Address}
use Rattle.dex_types.specs.declared.instructions.BadData.{BadData}
use Rattle.dex_types.specs.declared.instructions.Ix.{Ix}
use Rattle.dex_types.specs.declared.instructions.Ix.TheVariants.{InitializeMarket, MatchOrders, ConsumeEvents, SettleFunds, DisableMarket, SweepFees, NewOrderV3, CancelOrderV2, CancelOrderByClientIdV2, SendTake, CloseOpenOrders, InitOpenOrders, Prune, CancelOrdersByClientIds}
use Rattle.dex_types.specs.declared.refusals.Refusal.{Refusal}
use Rattle.dex_types.specs.declared.refusals.Refusal.TheVariants.{SumTooLarge}
use Rattle.dex_types.specs.declared.rows.Seen.{Seen}
use Rattle.dex_types.specs.declared.rows.WalletSeen.{WalletSeen}
use Rattle.dex_types.specs.declared.terms.Side.{Side}
use Rattle.dex_types.specs.Cancel.{CancelBy, ById, ByClient, ByClients, First}
use Rattle.dex_types.specs.Market.{Market, orders}
use Rattle.dex_types.specs.Meeting.{Meeting}
use Rattle.dex_types.specs.NewOrder.{NewOrder, Ordering, order_on, after_order}
use Rattle.dex_types.specs.Reasons.{ask_too_large, disabled, first_of, too_full, past_bound}
use Rattle.dex_types.specs.Requests.{Request, Party, HasPrice, party_of}
use Rattle.dex_types.specs.Settle.{settlement, settle_transfers, sweep_transfers}
use Rattle.dex_types.specs.Side.{Token, Coin, Pc, opposite}
use Rattle.dex_types.specs.Solvency.{vault, all_leaving}
use Rattle.dex_types.specs.Soundness.{IsSound}
use Rattle.dex_types.specs.Steps.{Step, by_party, act_order, act_cancel, act_settle, act_close, act, act_decoded, unless_refused}
use Rattle.dex_types.specs.Take.{Take, take_meeting, take_transfers, take_paid, too_little, after_take}
use Rattle.dex_types.specs.Terms.{terms_order, terms_take}
use Rattle.dex_types.specs.Transfers.{Transfers}
use Rattle.dex_types.specs.Trader.{Account}
use Rattle.dex_types.specs.Why.{Limits, TakeReading, limits_of, order_reading, ordering_reasons, settling_reasons, standing_reasons, sweeping_reasons, take_reading, taking_reasons, payer, of_party, why_order_early, why_ordering, why_order, why_take_early, why_taking, why_take, why_cancel, why_prune, why_close, why_settle, why_sweep, why_instruction, why_decoded, why}
use Rattle.dex_sound.specs.Bounds.{IsBeyond, BreaksBound, IsRefusedForSum, HasNoOtherReason, is_for_sum, would_leave}
use Rattle.dex_sound.proofs.GivenLaws.{is_plain, Gives, IsPlain, first_of-gives, plain-gives, none-gives, some-gives, where-gives, disabled-plain, missing-plain, not_owner-plain, not_authority-plain, other_mint-plain, would_self_trade-plain, below_minimum-plain, queue_full-plain, short_of-plain, why_init-plain, why_close-plain, why_disable-plain, why_order_early-plain, why_take_early-plain, standing-plain, ask_too_large-plain, why_cancel-plain, why_prune-plain}
use Rattle.dex_sound.proofs.StepSound.{step-sound}

-- a refusal for a sum tells of one of this market that passes the bound
abbrev pub TellsSum : Market → Refusal → Type 0
TellsSum after (SumTooLarge held pending) = IsBeyond after held pending
TellsSum after _ = Unit {0}

plain-tells : (after : Market) (refusal : Refusal) → is_plain refusal ≡ true → TellsSum after refusal
plain-tells after (SumTooLarge held pending) plain = absurd (false≢true plain)
plain-tells after refusal plain = tt

-- plain reasons tell of no sum, nor does a balance
tells : (after : Market) (reason : Option Refusal) → IsPlain reason → Gives (TellsSum after) reason
tells after reason plain = plain-gives (TellsSum after) (plain-tells after) reason plain

too_full-tells : (after : Market) (seen : Seen) (t : Transfers) (wallet : Option WalletSeen) → Gives (TellsSum after) (too_full seen t wallet)
too_full-tells after seen t None = none-gives (TellsSum after)
too_full-tells after seen t (Some wallet) = where-gives (TellsSum after) _ _ (λ full. tt)

past_bound-tells : (token : Token) (after : Market) → Gives (TellsSum after) (past_bound token after)
past_bound-tells token after =
    where-gives (TellsSum after) _ _ (λ beyond. record {
      token = token;
      in_vault = refl;
      in_events = refl;
      beyond = leb-true (2 ^ 64) (vault token after + all_leaving token after.events) beyond;
    })

-- orders and takes
ordering-tells : (side : Side) (n : NewOrder) (seen : Seen) (m : Market) (account : Account)
    → Gives (TellsSum (after_order side account n (order_on side m account n) m)) (why_ordering side n (order_reading side n seen m account))
ordering-tells side n seen m account =
    let ordering : Ordering = order_on side m account n in
    let after : Market = after_order side account n ordering m in
    let limits : Limits = limits_of side seen m after in
    first_of-gives (TellsSum after) (first_of (standing_reasons side n m.listing.sizes m.next_sequence account) ∷ first_of (ordering_reasons ordering limits) ∷ []) (
      tells after _ (standing-plain side n m.listing.sizes m.next_sequence account),
      λ standing. (
        first_of-gives (TellsSum after) (ordering_reasons ordering limits) (
          tells after _ (would_self_trade-plain ordering.met.aborts),
          λ aborts. (
            tells after _ (queue_full-plain (length ordering.events) m),
            λ room. (
              tells after _ (short_of-plain ordering.deposit (payer side seen)),
              λ pays. (past_bound-tells Coin after, λ coin. (past_bound-tells Pc after, λ pc. tt)),
            ),
          ),
        ),
        λ then. tt,
      ),
    )

order-tells : (side : Side) (order : Address → NewOrder) (request : Request) (seen : Seen) (m : Market) (party : Party)
    → Gives (TellsSum (act_order side order m party).market) (why_order side order request seen m party)
order-tells side order request seen m party =
    let n : NewOrder = order party.address in
    let after : Market = after_order side party.account n (order_on side m party.account n) m in
    first_of-gives (TellsSum after) (why_order_early side request seen m party ∷ why_ordering side n (order_reading side n seen m party.account) ∷ [])
    (tells after _ (why_order_early-plain side request seen m party), λ early. (ordering-tells side n seen m party.account, λ then. tt))

taking-tells : (side : Side) (t : Take) (seen : Seen) (m : Market)
    → Gives (TellsSum (after_take side t (take_meeting side m.listing.sizes t (orders (opposite side) m)) m)) (why_taking side t seen (take_reading side t seen m))
taking-tells side t seen m =
    let met : Meeting = take_meeting side m.listing.sizes t (orders (opposite side) m) in
    let after : Market = after_take side t met m in
    let transfers : Transfers = take_transfers side m.listing.sizes t met in
    let reading : TakeReading = take_reading side t seen m in
    first_of-gives (TellsSum after) (ask_too_large side m.listing.sizes t.lots ∷ first_of (taking_reasons side t seen reading) ∷ []) (
      tells after _ (ask_too_large-plain side m.listing.sizes t.lots),
      λ size. (
        first_of-gives (TellsSum after) (taking_reasons side t seen reading) (
          tells after _ (below_minimum-plain (too_little side t met)),
          λ enough. (
            tells after _ (queue_full-plain (length met.events) m),
            λ room. (
              tells after _ (short_of-plain (take_paid side m.listing.sizes t met) (payer side seen)),
              λ pays. (
                too_full-tells after seen transfers seen.coin,
                λ coin_fits. (
                  too_full-tells after seen transfers seen.pc,
                  λ pc_fits. (past_bound-tells Coin after, λ coin. (past_bound-tells Pc after, λ pc. tt)),
                ),
              ),
            ),
          ),
        ),
        λ then. tt,
      ),
    )

take-tells : (side : Side) (t : Take) (request : Request) (seen : Seen) (m : Market)
    → Gives (TellsSum (after_take side t (take_meeting side m.listing.sizes t (orders (opposite side) m)) m)) (why_take side t request seen m)
take-tells side t request seen m =
    let after : Market = after_take side t (take_meeting side m.listing.sizes t (orders (opposite side) m)) m in
    first_of-gives (TellsSum after) (why_take_early side request seen m ∷ why_taking side t seen (take_reading side t seen m) ∷ [])
    (tells after _ (why_take_early-plain side request seen m), λ early. (taking-tells side t seen m, λ then. tt))

-- what an open account asks
party-tells : (why : Party → Option Refusal) (acts : Party → Step) (m : Market) (party : Option Party)
    → ((found : Party) → Gives (TellsSum (acts found).market) (why found)) → Gives (TellsSum (by_party acts m party).market) (of_party why party)
party-tells why acts m None each = some-gives (TellsSum m) _ tt
party-tells why acts m (Some found) each = each found

settle-tells : (after : Market) (request : Request) (seen : Seen) (m : Market) (party : Party) → Gives (TellsSum after) (why_settle request seen m party)
settle-tells after request seen m party =
    let transfers : Transfers = settle_transfers (settlement (is_some seen.referrer) party.account) in
    first_of-gives (TellsSum after) (settling_reasons seen request.signer m.listing.coin_mint m.listing.pc_mint party.account) (
      tells after _ (missing-plain seen.coin),
      λ coin. (
        tells after _ (missing-plain seen.pc),
        λ pc. (
          tells after _ (not_owner-plain request party.account),
          λ owned. (
            tells after _ (other_mint-plain m.listing.coin_mint seen.coin),
            λ coin_mint. (
              tells after _ (other_mint-plain m.listing.pc_mint seen.pc),
              λ pc_mint. (
                tells after _ (other_mint-plain m.listing.pc_mint seen.referrer),
                λ referrer_mint. (
                  too_full-tells after seen transfers seen.coin,
                  λ coin_fits. (too_full-tells after seen transfers seen.pc, λ pc_fits. (too_full-tells after seen transfers seen.referrer, λ fits. tt)),
                ),
              ),
            ),
          ),
        ),
      ),
    )

sweep-tells : (after : Market) (request : Request) (seen : Seen) (m : Market) → Gives (TellsSum after) (why_sweep request seen m)
sweep-tells after request seen m =
    first_of-gives (TellsSum after) (sweeping_reasons seen request.signer m.listing.authority m.listing.pc_mint m.pc_fees) (
      tells after _ (missing-plain seen.pc),
      λ pc. (
        tells after _ (not_authority-plain request m),
        λ signed. (tells after _ (other_mint-plain m.listing.pc_mint seen.pc), λ mint. (too_full-tells after seen (sweep_transfers m) seen.pc, λ fits. tt)),
      ),
    )

cancel-tells : (by : CancelBy) (request : Request) (m : Market) → Gives (TellsSum (by_party (act_cancel by m) m (party_of request.named m.traders)).market) (of_party (why_cancel by request m) (party_of request.named m.traders))
cancel-tells by request m =
    party-tells (why_cancel by request m) (act_cancel by m) m (party_of request.named m.traders)
    (λ party. tells (act_cancel by m party).market _ (why_cancel-plain by request m party))

instruction-tells : (ix : Ix) (request : Request) (seen : Seen) (m : Market) → Gives (TellsSum (act ix request seen m).market) (why_instruction ix request seen m)
instruction-tells (InitializeMarket coin_lot pc_lot fee_rate_bps nonce dust) request seen m = some-gives (TellsSum m) _ tt
instruction-tells (MatchOrders limit) request seen m = none-gives (TellsSum m)
instruction-tells (ConsumeEvents limit) request seen m = none-gives (TellsSum (act (ConsumeEvents limit) request seen m).market)
instruction-tells SettleFunds request seen m =
    party-tells (why_settle request seen m) (act_settle seen m) m (party_of request.named m.traders) (λ party. settle-tells (act_settle seen m party).market request seen m party)
instruction-tells DisableMarket request seen m = tells (act DisableMarket request seen m).market _ (why_disable-plain request m)
instruction-tells SweepFees request seen m = sweep-tells (act SweepFees request seen m).market request seen m
instruction-tells (NewOrderV3 side price lots max_pc self_trade order_type client limit latest) request seen m =
    let order : Address → NewOrder = terms_order request seen price lots max_pc self_trade order_type client limit latest in
    let after : Market = (act (NewOrderV3 side price lots max_pc self_trade order_type client limit latest) request seen m).market in
    first_of-gives (TellsSum after) (disabled m ∷ of_party (why_order side order request seen m) (party_of request.named m.traders) ∷ []) (
      tells after _ (disabled-plain m),
      λ enabled. (party-tells (why_order side order request seen m) (act_order side order m) m (party_of request.named m.traders) (order-tells side order request seen m), λ then. tt),
    )
instruction-tells (CancelOrderV2 side id) request seen m = cancel-tells (ById side id) request m
instruction-tells (CancelOrderByClientIdV2 client) request seen m = cancel-tells (ByClient client) request m
instruction-tells (SendTake side price lots max_pc min_lots min_pc limit) request seen m = take-tells side (terms_take seen price lots max_pc min_lots min_pc limit) request seen m
instruction-tells CloseOpenOrders request seen m =
    party-tells (why_close request) (act_close m) m (party_of request.named m.traders) (λ party. tells (act_close m party).market _ (why_close-plain request party))
instruction-tells InitOpenOrders request seen m = tells (act InitOpenOrders request seen m).market _ (why_init-plain request m)
instruction-tells (Prune limit) request seen m =
    party-tells (why_prune (First limit) request m) (act_cancel (First limit) m) m (party_of request.named m.traders)
    (λ party. tells (act_cancel (First limit) m party).market _ (why_prune-plain (First limit) request m party))
instruction-tells (CancelOrdersByClientIds ids) request seen m = cancel-tells (ByClients (take ids.count ids.ids)) request m

decoded-tells : (instruction : Result Ix BadData) (request : Request) (seen : Seen) (m : Market) → Gives (TellsSum (act_decoded instruction request seen m).market) (why_decoded instruction request seen m)
decoded-tells (Err rule) request seen m = some-gives (TellsSum m) _ tt
decoded-tells (Ok ix) request seen m = instruction-tells ix request seen m

-- a refusal for a sum tells of one that passes the bound in the market that the row would leave
pub sum-beyond : (request : Request) (seen : Seen) (m : Market) (held pending : ℕ) → why request seen m ≡ Some (SumTooLarge held pending) → IsBeyond (would_leave request seen m) held pending
sum-beyond request seen m held pending is = decoded-tells request.instruction request seen m (SumTooLarge held pending) is

-- and a row that would leave such a market is refused
pub beyond-refused : (request : Request) (seen : Seen) (m : Market) (token : Token) → IsSound m → HasPrice request.instruction
    → 2 ^ 64 ≤ vault token (would_leave request seen m) + all_leaving token (would_leave request seen m).events → why request seen m ≢ None
beyond-refused request seen m token sound priced beyond none =
    let after : IsSound (unless_refused (why request seen m) m (act_decoded request.instruction request seen m)).market = step-sound request seen m sound priced in
    let left : IsSound (would_leave request seen m) =
    subst (λ reason. IsSound (unless_refused reason m (act_decoded request.instruction request seen m)).market) none after in
    omega (arith, left.funds.bounded token)

-- so a row is refused for a sum exactly where it would leave a market beyond the bound and no other reason holds
sum-breaks : (request : Request) (seen : Seen) (m : Market) (refusal : Refusal) → why request seen m ≡ Some refusal → is_for_sum refusal ≡ true → BreaksBound (would_leave request seen m)
sum-breaks request seen m (SumTooLarge held pending) given sum =
    let tells : IsBeyond (would_leave request seen m) held pending = sum-beyond request seen m held pending given in
    record { token = tells.token; beyond = omega (arith, tells.in_vault, tells.in_events, tells.beyond) }
sum-breaks request seen m refusal given sum = absurd (false≢true sum)

refused-by : (request : Request) (seen : Seen) (m : Market) (reason : Option Refusal) → why request seen m ≡ reason → reason ≢ None → HasNoOtherReason request seen m → IsRefusedForSum request seen m
refused-by request seen m None is some no_other = absurd (some refl)
refused-by request seen m (Some refusal) is some no_other = record { refusal = refusal; given = is; sum = no_other refusal is }

pub sum-exactly : (request : Request) (seen : Seen) (m : Market) → IsSound m → HasPrice request.instruction
    → IsRefusedForSum request seen m ↔ (BreaksBound (would_leave request seen m) × HasNoOtherReason request seen m)
sum-exactly request seen m sound priced = (
  λ refused. (
    sum-breaks request seen m refused.refusal refused.given refused.sum,
    λ other given.
        let both : Some refused.refusal ≡ Some other = sym refused.given ∙ given in
        let same : refused.refusal ≡ other = cc in
        subst (λ r. is_for_sum r ≡ true) same refused.sum,
  ),
  λ breaks. refused-by request seen m (why request seen m) refl (beyond-refused request seen m breaks.0.token sound priced breaks.0.beyond) breaks.1,
)
