-- why a take is refused, by its parts and on its market
use Rattle.std.proofs.Common.{◌≡◌, ℕ, ◌+◌, ◌-◌, ◌*◌, List, [], ◌∷◌, ◌++◌, Option, Some, None, length, refl, sym, ap, ◌∙◌, arith}
use Rattle.dex_types.specs.declared.refusals.Refusal.{Refusal}
use Rattle.dex_types.specs.declared.rows.Seen.{Seen}
use Rattle.dex_types.specs.declared.rows.WalletSeen.{WalletSeen}
use Rattle.dex_types.specs.declared.terms.Lots.{Lots}
use Rattle.dex_types.specs.declared.terms.Side.{Side}
use Rattle.dex_types.specs.declared.terms.Side.TheVariants.{Bid, Ask}
use Rattle.dex_types.specs.Market.{Market, orders}
use Rattle.dex_types.specs.Meeting.{Meeting}
use Rattle.dex_types.specs.Owed.{leaving}
use Rattle.dex_types.specs.Reasons.{answered, ask_too_large, balance_of, event_room, first_of, too_full}
use Rattle.dex_types.specs.Side.{Coin, Pc, by_side, opposite}
use Rattle.dex_types.specs.Solvency.{all_leaving, vault}
use Rattle.dex_types.specs.Soundness.{IsSound}
use Rattle.dex_types.specs.Take.{Take, after_take, take_demand, take_meeting, take_terms, take_transfers, too_little}
use Rattle.dex_types.specs.Transfers.{Transfers, payout}
use Rattle.dex_types.specs.Why.{TakeReading, payer, take_reading, taking_reasons, why_taking}
use Rattle.dex_laws.proofs.TotalLaws.{total-append}
use Rattle.dex_market.specs.StandsFor.{words_of}
use Rattle.dex_market.specs.MarketAccount.{sizes_of}
use Rattle.dex_ring.specs.Ring.{room_of}
use Rattle.dex_reasons.proofs.FirstReasons.{first_of-early, first_of-late, first_of-one}
use Rattle.dex_sound.proofs.FillLaws.{meet-leaving}
use Rattle.dex_take.specs.declared.outlook.TakeOutlook.{TakeOutlook}
use Rattle.dex_ring.specs.declared.pending_fills.PendingFills.{PendingFills}
use Rattle.dex_ring.specs.PendingFills.{pending_fills_of}
use Rattle.dex_take.specs.declared.plan.DecidedTake.{DecidedTake}
use Rattle.dex_take.specs.declared.plan.TakePlan.{TakePlan}
use Rattle.dex_take.specs.TakeGiven.{TakeGiven, TakeRead, read_of}
use Rattle.dex_take.specs.Taking.{IsForeseen, IsWithin, at_bound, before_bound, leaving_after, left_in, meeting_in, plan_by, plan_in, reading_in, take_outcome, take_reason, too_little_by, transfers_by, vault_after}
use Rattle.dex_take.proofs.TakeAmounts.{IsGivenOf, of_market, read-of}

-- on a sound market the vaults after a take are what its words say, so the reasons are the market's
vault-coin : (t : Transfers) (m : Market) → IsSound m → vault_after Coin t (words_of m) ≡ m.coin_vault + t.coin_in - t.coin_out
vault-coin t m sound = omega (arith, sound.funds.solvent.vaults Coin)

vault-pc : (t : Transfers) (m : Market) → IsSound m → t.referrer_out ≡ 0 → vault_after Pc t (words_of m) ≡ m.pc_vault + t.pc_in - t.pc_out - t.referrer_out
vault-pc t m sound none = omega (arith, sound.funds.solvent.vaults Pc)

reading-market : (side : Side) (t : Take) (m : Market) (seen : Seen) → IsSound m → reading_in side t seen (of_market side m) ≡ take_reading side t seen m
reading-market side t m seen sound =
    let met : Meeting = take_meeting side m.listing.sizes t (orders (opposite side) m) in
    let moved : Transfers = take_transfers side m.listing.sizes t met in
    let after : Market = after_take side t met m in
    let reading : ℕ → ℕ → TakeReading = λ coin pc. record {
      sizes = m.listing.sizes;
      met = met;
      limits = record {
        room = event_room m;
        balance = balance_of (payer side seen);
        coin = record { vault = coin; leaving = all_leaving Coin after.events };
        pc = record { vault = pc; leaving = all_leaving Pc after.events };
      };
    } in
    ap (λ coin. reading coin (vault_after Pc moved (words_of m))) (vault-coin moved m sound) ∙ ap (reading (vault Coin after)) (vault-pc moved m sound refl)

pub reason-given : (side : Side) (t : Take) (given : TakeGiven) (m : Market) (seen : Seen) → IsSound m → IsGivenOf side given m
    → take_reason side t (read_of given) seen ≡ why_taking side t seen (take_reading side t seen m)
reason-given side t given m seen sound of =
    ap (λ (r : TakeRead). take_reason side t r seen) (read-of side given m of) ∙ ap (why_taking side t seen) (reading-market side t m seen sound)

too_little-by : (side : Side) (sizes : Lots) (t : Take) (met : Meeting) → too_little side t met ≡ too_little_by side (plan_by side sizes t met) t.min_lots t.min_pc
too_little-by Bid sizes t met = refl
too_little-by Ask sizes t met = refl

-- what pending fills are to take off totals after a take
leaving-base : (side : Side) (t : Take) (parts : TakeRead)
    → leaving_after Coin parts (meeting_in side t parts) ≡ all_leaving Coin parts.ring.events + by_side side ((meeting_in side t parts).lots * (sizes_of parts.words).coin) 0
leaving-base side t parts =
    omega (
      arith,
      total-append (leaving Coin) parts.ring.events (meeting_in side t parts).events,
      meet-leaving side (take_terms (sizes_of parts.words) t) (take_demand side (sizes_of parts.words) t) parts.opposing Coin,
    )

leaving-quote : (side : Side) (t : Take) (parts : TakeRead)
    → leaving_after Pc parts (meeting_in side t parts) ≡ all_leaving Pc parts.ring.events + by_side side 0 ((meeting_in side t parts).pc - (meeting_in side t parts).rebates)
leaving-quote side t parts =
    omega (
      arith,
      total-append (leaving Pc) parts.ring.events (meeting_in side t parts).events,
      meet-leaving side (take_terms (sizes_of parts.words) t) (take_demand side (sizes_of parts.words) t) parts.opposing Pc,
    )

-- a wallet is too full by what is brought to it alone
too_full-out : (seen : Seen) (t other : Transfers) (role : Option WalletSeen) → t.coin_out ≡ other.coin_out → t.pc_out ≡ other.pc_out → t.referrer_out ≡ other.referrer_out
    → too_full seen t role ≡ too_full seen other role
too_full-out seen t other None coin pc referrer = refl
too_full-out seen t other (Some wallet) coin pc referrer = rw (coin, pc, referrer) refl

-- what a take brings to wallets, in the words of payouts
pub too_full-paid : (side : Side) (plan : TakePlan) (seen : Seen) (moved : Transfers) (role : Option WalletSeen) → moved ≡ transfers_by side plan → moved.referrer_out ≡ 0
    → too_full seen (payout moved.coin_out moved.pc_out 0) role ≡ too_full seen (transfers_by side plan) role
too_full-paid side plan seen moved role is none =
    too_full-out seen (payout moved.coin_out moved.pc_out 0) (transfers_by side plan) role (ap (λ (t : Transfers). t.coin_out) is) (ap (λ (t : Transfers). t.pc_out) is) refl

-- the reasons by a plan and by what was read are those of the take
reasons-in : (side : Side) (t : Take) (parts : TakeRead) (seen : Seen)
    → before_bound side (plan_in side t parts) t.min_lots t.min_pc (length (meeting_in side t parts).events) (room_of parts.ring) seen
    ++ at_bound side (plan_in side t parts) parts.words (left_in side t parts)
    ≡ taking_reasons side t seen (reading_in side t seen parts)
reasons-in side t parts seen =
    rw (← (too_little-by side (sizes_of parts.words) t (meeting_in side t parts))) refl

-- then it is refused for the first reason before the bound
pub answer-early : (side : Side) (t : Take) (parts : TakeRead) (seen : Seen) (why : Refusal) → ask_too_large side (sizes_of parts.words) t.lots ≡ None
    → first_of (before_bound side (plan_in side t parts) t.min_lots t.min_pc (length (meeting_in side t parts).events) (room_of parts.ring) seen) ≡ Some why
    → take_reason side t parts seen ≡ Some why
answer-early side t parts seen why size is =
    let early : List (Option Refusal) = before_bound side (plan_in side t parts) t.min_lots t.min_pc (length (meeting_in side t parts).events) (room_of parts.ring) seen in
    let late : List (Option Refusal) = at_bound side (plan_in side t parts) parts.words (left_in side t parts) in
    ap (λ (r : Option Refusal). first_of (r ∷ first_of (taking_reasons side t seen (reading_in side t seen parts)) ∷ [])) size
    ∙ first_of-one (first_of (taking_reasons side t seen (reading_in side t seen parts)))
    ∙ ap first_of (sym (reasons-in side t parts seen)) ∙ first_of-early early late why is

abbrev the_sums : ℕ → ℕ → PendingFills
the_sums coin pc = record { coin = coin; pc = pc }

abbrev pub decided_as : TakePlan → PendingFills → DecidedTake
decided_as plan left = record { plan = plan; pending = left }

-- what is pending with the take's own fills
pub left-is : (side : Side) (t : Take) (parts : TakeRead) (now left : PendingFills) (base quote : ℕ) → now ≡ pending_fills_of parts.ring.events
    → base ≡ (meeting_in side t parts).lots * (sizes_of parts.words).coin → quote ≡ (meeting_in side t parts).pc - (meeting_in side t parts).rebates
    → left.coin ≡ now.coin + by_side side base 0 → left.pc ≡ now.pc + by_side side 0 quote → left ≡ left_in side t parts
left-is side t parts now left base quote is base_is quote_is coin pc =
    let coin_is : left.coin ≡ all_leaving Coin parts.ring.events + by_side side ((meeting_in side t parts).lots * (sizes_of parts.words).coin) 0 =
    coin ∙ ap (λ (l : PendingFills). l.coin + by_side side base 0) is ∙ ap (λ k. all_leaving Coin parts.ring.events + by_side side k 0) base_is in
    let pc_is : left.pc ≡ all_leaving Pc parts.ring.events + by_side side 0 ((meeting_in side t parts).pc - (meeting_in side t parts).rebates) =
    pc ∙ ap (λ (l : PendingFills). l.pc + by_side side 0 quote) is ∙ ap (λ k. all_leaving Pc parts.ring.events + by_side side 0 k) quote_is in
    both left.coin left.pc (coin_is ∙ sym (leaving-base side t parts)) (pc_is ∙ sym (leaving-quote side t parts))
  where
    both : (x y : ℕ) → x ≡ leaving_after Coin parts (meeting_in side t parts) → y ≡ leaving_after Pc parts (meeting_in side t parts)
        → the_sums x y ≡ left_in side t parts
    both x y one two = rw (one, two) refl

-- and else for the bound alone
pub outcome-late : (side : Side) (t : Take) (parts : TakeRead) (seen : Seen) (outlook : TakeOutlook) (left : PendingFills)
    → IsWithin side t parts seen → IsForeseen side t parts outlook → left ≡ left_in side t parts
    → answered (first_of (at_bound side outlook.plan parts.words left)) (decided_as outlook.plan left) ≡ take_outcome side t parts seen
outcome-late side t parts seen outlook left within is left_is =
    let early : List (Option Refusal) = before_bound side (plan_in side t parts) t.min_lots t.min_pc (length (meeting_in side t parts).events) (room_of parts.ring) seen in
    let late : List (Option Refusal) = at_bound side (plan_in side t parts) parts.words (left_in side t parts) in
    let reasons : Option Refusal = first_of (taking_reasons side t seen (reading_in side t seen parts)) in
    let same : first_of late ≡ take_reason side t parts seen =
    sym (first_of-late early late within.rest) ∙ ap first_of (reasons-in side t parts seen) ∙ sym (first_of-one reasons)
    ∙ ap (λ (r : Option Refusal). first_of (r ∷ reasons ∷ [])) (sym within.size) in
    rw (is.plan, left_is) (ap (λ (r : Option Refusal). answered r (decided_as (plan_in side t parts) (left_in side t parts))) same)
