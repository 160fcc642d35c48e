-- histories: the eager market's end is the market's, and cranks change neither
use Rattle.std.proofs.Common.{ℕ, pos, ◌+◌, ◌-ℤ◌, ◌≡◌, true, false, not, ◌&&◌, List, [], ◌∷◌, ◌++◌, map, take, Option, Some, None, Result, Ok, Err, refl, sym, ap, ◌∙◌, arith, ⊎_elim}
use Rattle.std.proofs.lemmas.Bool.{cases_Bool, cond-true, cond-false}
use Rattle.std.proofs.lemmas.Int.{ints}
use Rattle.dex_types.specs.declared.addresses.Address.{Address}
use Rattle.dex_types.specs.declared.instructions.BadData.{BadData}
use Rattle.dex_types.specs.declared.instructions.Ix.{Ix}
use Rattle.dex_types.specs.declared.instructions.Ix.TheVariants.{NewOrderV3, SendTake}
use Rattle.dex_types.specs.declared.rows.Seen.{Seen}
use Rattle.dex_types.specs.declared.terms.Program.{Program}
use Rattle.dex_types.specs.declared.terms.Tier.{Tier}
use Rattle.dex_types.specs.Market.{Market}
use Rattle.dex_types.specs.NewOrder.{NewOrder}
use Rattle.dex_types.specs.QueuedEvent.{QueuedEvent}
use Rattle.dex_types.specs.Requests.{Request}
use Rattle.dex_types.specs.Side.{Token}
use Rattle.dex_types.specs.Solvency.{own_locked}
use Rattle.dex_types.specs.Soundness.{IsSound}
use Rattle.dex_types.specs.Take.{Take}
use Rattle.dex_types.specs.Terms.{tier_seen}
use Rattle.dex_types.specs.Trader.{Trader, Traders, trader_at}
use Rattle.dex_laws.proofs.TraderLaws.{is_same-true, traders-induction, trader_at-here, trader_at-there}
use Rattle.dex_sound.proofs.KeepLaws.{step-keeps}
use Rattle.dex_sound.specs.Kept.{addresses}
use Rattle.dex_history.proofs.HistoryLaws.{IsLegal-front}
use Rattle.dex_history.proofs.HeldLaws.{acted-priced}
use Rattle.dex_history.proofs.PriceLaws.{asked-sound}
use Rattle.dex_history.specs.Journal.{Call, IsLegal, acted_of, is_refusal, step_of, entry_on, market_after}
use Rattle.dex_eager.specs.Eager.{Eager, EagerStep, eager_at, worth_at, unchanged, by_account, eager_order, eager_take, eager_act, eager_decoded, eager_step}
use Rattle.dex_eager.specs.Histories.{IsPaidAs, Fill, Deal, Trade, is_crank, counts, counted, deal_of, trade_of, trades, eager_call, eager_after, eager_start, eager_end, eager_fills, fills_by, fills_of, appended, moves_after, moves_of}
use Rattle.dex_eager.specs.Slots.{maker_fills}
use Rattle.dex_eager.specs.Worth.{Worth, Ledger, no_moves, with_step, free_in, own_owed, worth_in, worth_of}
use Rattle.dex_eager.proofs.HistorySteps.{Goes, step-goes}
use Rattle.dex_eager.proofs.WorthLists.{worths_by, worths-by}

-- a call that counts is the eager market's, and any other changes nothing there
call-goes : (call : Call) (m : Market) (ledger : Ledger) → IsSound m → Goes m ledger (acted_of call).request call.seen
call-goes call m ledger sound = step-goes m ledger (acted_of call).request call.seen sound

answered : (call : Call) (m : Market) → call.entry ≡ entry_on call m → call.entry.reply ≡ (step_of call m).reply
answered call m is = ap (λ entry. entry.reply) is

counted-goes : (call : Call) (m : Market) (ledger : Ledger) → IsSound m → call.entry ≡ entry_on call m → counts call ≡ true
    → IsPaidAs m ledger (acted_of call).request.named (step_of call m) (eager_call call (eager_at m ledger))
counted-goes call m ledger sound is does =
    (call-goes call m ledger sound).counted
    (sym (ap (λ reply. not (is_refusal reply) && not (is_crank (acted_of call).request.instruction)) (answered call m is)) ∙ does)

passed-goes : (call : Call) (m : Market) (ledger : Ledger) → IsSound m → call.entry ≡ entry_on call m → counts call ≡ false
    → IsPaidAs m ledger (acted_of call).request.named (step_of call m) (unchanged (eager_at m ledger))
passed-goes call m ledger sound is not_counted =
    (call-goes call m ledger sound).passed
    (sym (ap (λ reply. not (is_refusal reply) && not (is_crank (acted_of call).request.instruction)) (answered call m is)) ∙ not_counted)

counted-true : (call : Call) (calls : List Call) → counts call ≡ true → counted (call ∷ calls) ≡ call ∷ counted calls
counted-true call calls is = cond-true _ _ _ is

counted-false : (call : Call) (calls : List Call) → counts call ≡ false → counted (call ∷ calls) ≡ counted calls
counted-false call calls is = cond-false _ _ _ is

-- from any place on, the eager market goes along with the market
pub history-market : (calls : List Call) (m : Market) (ledger : Ledger) → IsSound m → IsLegal m calls
    → eager_after (eager_at m ledger) (counted calls) ≡ eager_at (market_after m calls) (moves_after m calls ledger)
history-market [] m ledger sound legal = refl
history-market (call ∷ calls) m ledger sound legal =
    let after : Market = (step_of call m).market in
    let later : Ledger = with_step (acted_of call).request.named (step_of call m) ledger in
    let rest : eager_after (eager_at after later) (counted calls) ≡ eager_at (market_after after calls) (moves_after after calls later) =
    history-market calls after later (asked-sound (acted_of call) call.seen m sound (acted-priced call legal.0.price)) legal.1 in
    ⊎_elim
    (λ (does : counts call ≡ true).
    ap (eager_after (eager_at m ledger)) (counted-true call calls does)
    ∙ ap (λ e. eager_after e (counted calls)) (sym (counted-goes call m ledger sound legal.0.entry does).market)
    ∙ rest)
    (λ (passes : counts call ≡ false).
    ap (eager_after (eager_at m ledger)) (counted-false call calls passes)
    ∙ ap (λ e. eager_after e (counted calls)) (sym (passed-goes call m ledger sound legal.0.entry passes).market)
    ∙ rest)
    (cases_Bool (counts call))

-- and makes the fills that the market appends
pub history-fills : (calls : List Call) (m : Market) (ledger : Ledger) → IsSound m → IsLegal m calls
    → eager_fills (eager_at m ledger) (counted calls) ≡ fills_of m calls
history-fills [] m ledger sound legal = refl
history-fills (call ∷ calls) m ledger sound legal =
    let after : Market = (step_of call m).market in
    let later : Ledger = with_step (acted_of call).request.named (step_of call m) ledger in
    let rest : eager_fills (eager_at after later) (counted calls) ≡ fills_of after calls =
    history-fills calls after later (asked-sound (acted_of call) call.seen m sound (acted-priced call legal.0.price)) legal.1 in
    ⊎_elim
    (λ (does : counts call ≡ true).
    let paid : IsPaidAs m ledger (acted_of call).request.named (step_of call m) (eager_call call (eager_at m ledger)) = counted-goes call m ledger sound legal.0.entry does in
    ap (eager_fills (eager_at m ledger)) (counted-true call calls does)
    ∙ ap (λ fills. fills_by call fills ++ eager_fills (eager_call call (eager_at m ledger)).market (counted calls)) (sym paid.fills)
    ∙ ap (λ e. fills_by call (maker_fills (appended m after)) ++ eager_fills e (counted calls)) (sym paid.market)
    ∙ ap (λ fills. fills_by call (maker_fills (appended m after)) ++ fills) rest)
    (λ (passes : counts call ≡ false).
    let paid : IsPaidAs m ledger (acted_of call).request.named (step_of call m) (unchanged (eager_at m ledger)) = passed-goes call m ledger sound legal.0.entry passes in
    ap (eager_fills (eager_at m ledger)) (counted-false call calls passes)
    ∙ ap (λ e. eager_fills e (counted calls)) (sym paid.market)
    ∙ rest
    ∙ ap (λ fills. fills_by call fills ++ fills_of after calls) (sym paid.fills))
    (cases_Bool (counts call))

-- at each place
pub place-market : (count : ℕ) (calls : List Call) (m : Market) → IsSound m → IsLegal m calls
    → eager_end m (take count calls) ≡ eager_at (market_after m (take count calls)) (moves_of m (take count calls))
place-market count calls m sound legal = history-market (take count calls) m no_moves sound (IsLegal-front count calls m legal)

-- what an instruction does on the eager market goes by the tier and the program alone of what it sees
act-sees : (ix : Ix) (request : Request) (seen other : Seen) (e : Eager) → tier_seen seen ≡ tier_seen other → seen.program ≡ other.program
    → eager_act ix request seen e ≡ eager_act ix request other e
act-sees (NewOrderV3 side price lots max_pc self_trade order_type client limit latest) request seen other e tier program =
    let orders : Program → Tier → Address → NewOrder = λ p t owner. record {
      program = p;
      tier = t;
      owner = owner;
      price = price;
      lots = lots;
      max_pc = max_pc;
      self_trade = self_trade;
      order_type = order_type;
      client = client;
      matches = limit;
      now = request.now;
      latest = latest;
    } in
    ap (λ p. by_account (eager_order side (orders p (tier_seen seen)) e) e request.named) program
    ∙ ap (λ t. by_account (eager_order side (orders other.program t) e) e request.named) tier
act-sees (SendTake side price lots max_pc min_lots min_pc limit) request seen other e tier program =
    let takes : Program → Tier → Take = λ p t. record {
      program = p;
      tier = t;
      price = price;
      lots = lots;
      max_pc = max_pc;
      matches = limit;
      min_lots = min_lots;
      min_pc = min_pc;
    } in
    ap (λ p. eager_take side (takes p (tier_seen seen)) e) program ∙ ap (λ t. eager_take side (takes other.program t) e) tier
act-sees ix request seen other e tier program = refl

decoded-sees : (instruction : Result Ix BadData) (request : Request) (seen other : Seen) (e : Eager) → tier_seen seen ≡ tier_seen other → seen.program ≡ other.program
    → eager_decoded instruction request seen e ≡ eager_decoded instruction request other e
decoded-sees (Err rule) request seen other e tier program = refl
decoded-sees (Ok ix) request seen other e tier program = act-sees ix request seen other e tier program

-- so one deal does one thing
deal-same : (call other : Call) (e : Eager) → deal_of call ≡ deal_of other → eager_call call e ≡ eager_call other e
deal-same call other e same =
    ap (λ (deal : Deal). eager_step deal.request call.seen e) same
    ∙ decoded-sees (acted_of other).request.instruction (acted_of other).request call.seen other.seen e (ap (λ (deal : Deal). deal.tier) same) (ap (λ (deal : Deal). deal.program) same)

-- and so does one trade
trade-same : (call other : Call) (e : Eager) → trade_of call ≡ trade_of other → eager_call call e ≡ eager_call other e
trade-same call other e same =
    deal-same call other e (ap (λ (trade : Trade). record { request = trade.asked.request; tier = trade.tier; program = trade.program }) same)

-- the first and the others of two equal lists
abbrev first_or : Trade → List Trade → Trade
first_or none [] = none
first_or none (trade ∷ others) = trade

abbrev behind : List Trade → List Trade
behind [] = []
behind (trade ∷ others) = others

-- equal deals leave equal eager markets
abbrev deal_or : Deal → List Deal → Deal
deal_or none [] = none
deal_or none (deal ∷ others) = deal

abbrev deals_behind : List Deal → List Deal
deals_behind [] = []
deals_behind (deal ∷ others) = others

pub deals-after : (calls others : List Call) (e : Eager) → map deal_of calls ≡ map deal_of others → eager_after e calls ≡ eager_after e others
deals-after [] [] e same = refl
deals-after [] (other ∷ others) e same = absurd cc
deals-after (call ∷ calls) [] e same = absurd cc
deals-after (call ∷ calls) (other ∷ others) e same =
    let one : deal_of call ≡ deal_of other = ap (deal_or (deal_of call)) same in
    ap (λ (s : EagerStep). eager_after s.market calls) (deal-same call other e one)
    ∙ deals-after calls others (eager_call other e).market (ap deals_behind same)

-- equal trades leave equal eager markets
pub trades-after : (calls others : List Call) (e : Eager) → map trade_of calls ≡ map trade_of others → eager_after e calls ≡ eager_after e others
trades-after [] [] e same = refl
trades-after [] (other ∷ others) e same = absurd cc
trades-after (call ∷ calls) [] e same = absurd cc
trades-after (call ∷ calls) (other ∷ others) e same =
    let one : trade_of call ≡ trade_of other = ap (first_or (trade_of call)) same in
    ap (λ (s : EagerStep). eager_after s.market calls) (trade-same call other e one)
    ∙ trades-after calls others (eager_call other e).market (ap behind same)

-- and make equal fills
pub trades-fills : (calls others : List Call) (e : Eager) → map trade_of calls ≡ map trade_of others → eager_fills e calls ≡ eager_fills e others
trades-fills [] [] e same = refl
trades-fills [] (other ∷ others) e same = absurd cc
trades-fills (call ∷ calls) [] e same = absurd cc
trades-fills (call ∷ calls) (other ∷ others) e same =
    let one : trade_of call ≡ trade_of other = ap (first_or (trade_of call)) same in
    let numbered : ℕ → List QueuedEvent → List Fill = λ number events. map (λ event. record { row = number; event = event }) events in
    ap (λ (s : EagerStep). numbered (acted_of call).number s.fills ++ eager_fills s.market calls) (trade-same call other e one)
    ∙ ap (λ (trade : Trade). numbered trade.asked.number (eager_call other e).fills ++ eager_fills (eager_call other e).market calls) one
    ∙ ap (λ fills. fills_by other (eager_call other e).fills ++ fills) (trades-fills calls others (eager_call other e).market (ap behind same))

-- so do two histories of one start with equal trades
pub delay-market : (first second : List Call) (m : Market) → IsSound m → IsLegal m first → IsLegal m second → trades first ≡ trades second
    → eager_at (market_after m first) (moves_of m first) ≡ eager_at (market_after m second) (moves_of m second)
delay-market first second m sound legal other same =
    sym (history-market first m no_moves sound legal)
    ∙ trades-after (counted first) (counted second) (eager_start m) same
    ∙ history-market second m no_moves sound other

pub delay-fills : (first second : List Call) (m : Market) → IsSound m → IsLegal m first → IsLegal m second → trades first ≡ trades second
    → fills_of m first ≡ fills_of m second
delay-fills first second m sound legal other same =
    sym (history-fills first m no_moves sound legal)
    ∙ trades-fills (counted first) (counted second) (eager_start m) same
    ∙ history-fills second m no_moves sound other

-- the worth of an account, as the eager market has it
pub worth-found : (worth : Address → Worth) (owner : Address) (trader : Trader) (traders : Traders) → trader_at owner traders ≡ Some trader
    → worth_at owner (map (λ (entry : Address × Trader). (entry.0, worth entry.0)) traders) ≡ Some (worth owner)
worth-found worth owner trader =
    traders-induction owner (λ traders. trader_at owner traders ≡ Some trader → worth_at owner (map (λ (entry : Address × Trader). (entry.0, worth entry.0)) traders) ≡ Some (worth owner))
    (λ found. absurd (cc))
    (λ entry others same found. rw same (ap (λ a. Some (worth a)) (sym (is_same-true owner entry.0 same))))
    (λ entry others apart rest found. rw apart (rest (sym (trader_at-there owner entry others apart) ∙ found)))

pub worth-absent : (worth : Address → Worth) (owner : Address) (traders : Traders) → trader_at owner traders ≡ None
    → worth_at owner (map (λ (entry : Address × Trader). (entry.0, worth entry.0)) traders) ≡ None
worth-absent worth owner =
    traders-induction owner (λ traders. trader_at owner traders ≡ None → worth_at owner (map (λ (entry : Address × Trader). (entry.0, worth entry.0)) traders) ≡ None)
    (λ absent. refl)
    (λ entry others same absent. let here : trader_at owner (entry ∷ others) ≡ Some entry.1 = trader_at-here owner entry others same in absurd (cc))
    (λ entry others apart rest absent. rw apart (rest (sym (trader_at-there owner entry others apart) ∙ absent)))

-- with nothing pending, worth is what is free and what rests, less what was deposited net of what was settled
pub worth-drained : (token : Token) (owner : Address) (m : Market) (ledger : Ledger) → m.events ≡ []
    → worth_in token owner m ledger
    ≡ pos (free_in token (trader_at owner m.traders) + own_locked token owner m) -ℤ (pos (ledger.deposited token owner) -ℤ pos (ledger.settled token owner))
worth-drained token owner m ledger drained =
    let owes : own_owed token owner m.events ≡ 0 = ap (own_owed token owner) drained in
    omega (arith, ints, owes)

-- a history keeps the accounts
pub addresses-after : (calls : List Call) (m : Market) → addresses (market_after m calls).traders ≡ addresses m.traders
addresses-after [] m = refl
addresses-after (call ∷ calls) m =
    addresses-after calls (step_of call m).market ∙ (step-keeps (acted_of call).request call.seen m).accounts

-- so the worths at its end are of the accounts at its start
worths-at-start : (calls : List Call) (m : Market) (worth : Address → Worth)
    → map {B = Address × Worth} (λ (entry : Address × Trader). (entry.0, worth entry.0)) (market_after m calls).traders
    ≡ map (λ (entry : Address × Trader). (entry.0, worth entry.0)) m.traders
worths-at-start calls m worth =
    worths-by worth (market_after m calls).traders ∙ ap (worths_by worth) (addresses-after calls m) ∙ sym (worths-by worth m.traders)

end-worths : (calls : List Call) (m : Market) → IsSound m → IsLegal m calls
    → (eager_end m calls).worths ≡ map (λ (entry : Address × Trader). (entry.0, worth_of entry.0 (market_after m calls) (moves_of m calls))) m.traders
end-worths calls m sound legal =
    ap (λ e. e.worths) (history-market calls m no_moves sound legal)
    ∙ worths-at-start calls m (λ a. worth_of a (market_after m calls) (moves_of m calls))

pub end-worth : (calls : List Call) (m : Market) (owner : Address) (trader : Trader) → IsSound m → IsLegal m calls → trader_at owner m.traders ≡ Some trader
    → worth_at owner (eager_end m calls).worths ≡ Some (worth_of owner (market_after m calls) (moves_of m calls))
end-worth calls m owner trader sound legal found =
    ap (worth_at owner) (end-worths calls m sound legal) ∙ worth-found (λ a. worth_of a (market_after m calls) (moves_of m calls)) owner trader m.traders found

pub end-absent : (calls : List Call) (m : Market) (owner : Address) → IsSound m → IsLegal m calls → trader_at owner m.traders ≡ None
    → worth_at owner (eager_end m calls).worths ≡ None
end-absent calls m owner sound legal absent =
    ap (worth_at owner) (end-worths calls m sound legal) ∙ worth-absent (λ a. worth_of a (market_after m calls) (moves_of m calls)) owner m.traders absent

-- equal trades give each account one worth
abbrev or_else : Worth → Option Worth → Worth
or_else other None = other
or_else other (Some worth) = worth

pub delay-worth : (first second : List Call) (m : Market) (owner : Address) (trader : Trader) → IsSound m → IsLegal m first → IsLegal m second
    → trades first ≡ trades second → trader_at owner m.traders ≡ Some trader
    → worth_of owner (market_after m first) (moves_of m first) ≡ worth_of owner (market_after m second) (moves_of m second)
delay-worth first second m owner trader sound legal other same found =
    let both : eager_end m first ≡ eager_end m second = trades-after (counted first) (counted second) (eager_start m) same in
    ap (or_else (worth_of owner m no_moves))
    (sym (end-worth first m owner trader sound legal found) ∙ ap (λ e. worth_at owner e.worths) both ∙ end-worth second m owner trader sound other found)
