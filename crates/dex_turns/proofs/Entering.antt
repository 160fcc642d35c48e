-- The turn of a row's market: what is known when it is taken, and when it is left.
use Rattle.std.proofs.Common.{◌≡◌, ℕ, ◌==◌, ◌<◌, List, get_or, length, sym, ap, ◌∙◌, subst, arith}
use Rattle.dex_world.proofs.Common.{Call, PlainMarketAccounts, PlainRow, asked_of}
use Rattle.dex_turns.proofs.Common.{AddsOne, BankMarketState, BankState, Extends, HasCall, HasCalled, MarketOrigin, MayEnter, PlainScript, Stamped, added, market_calls, of_lane, rows_of_market}
use Rattle.dex_gate.specs.declared.stage.Stage.TheVariants.{Out}
use Rattle.dex_journals.specs.Journals.{calls_by}
use Rattle.dex_turns.specs.Bank.{MarketGate}
use Rattle.dex_turns.specs.Seats.{MarketPass}
use Rattle.dex_turns.specs.Turns.{HasSeenAt, IsAwayFor, IsHomeAt, IsMarketOut, MarketAway, MayCall, MayEnterAt, MayLeaveAt, left_with}
use Rattle.dex_turns.proofs.Counts.{length-stamped}
use Rattle.dex_turns.proofs.LeavingTurns as leaving

-- a row may enter at a place by another name
pub at-place : {bank : BankState} {row : PlainRow} {passes : List MarketPass} {place other : ℕ} → other ≡ place → MayEnterAt bank row passes place → MayEnterAt bank row passes other
at-place {bank} {row} {passes} same may = subst (MayEnterAt bank row passes) (sym same) may

module _ {bank : BankState} {row : PlainRow} {passes : List MarketPass} {place : ℕ} {gate : MarketGate} (may : MayEnterAt bank row passes place)
    (gate_is : (default : MarketGate) → gate ≡ get_or bank.markets place default) where
  enter : (pass : MarketPass) → MayEnter bank.script row gate (get_or passes place pass)
  enter pass = subst (λ (g : MarketGate). MayEnter bank.script row g (get_or passes place pass)) (sym (gate_is gate)) (may.enters gate pass)

  start-at : (d : PlainMarketAccounts) → gate.origin.start ≡ get_or bank.script.start.markets place d
  start-at d = ap (λ (g : MarketGate). g.origin.start) (gate_is gate) ∙ may.from d gate

  -- the market of its gate
  pub market-is : gate.origin.start.address ≡ row.market
  market-is = ap (λ (s : PlainMarketAccounts). s.address) (start-at gate.origin.start) ∙ may.here gate.origin.start

  pub home-at : IsHomeAt gate place passes
  home-at = record { within = may.within.2; home = λ pass. (enter pass).home; idle = λ pass. (enter pass).idle }

  module _ {out : MarketPass} {market : BankMarketState} (taken : (pass : MarketPass) → IsMarketOut gate (get_or passes place pass) out market) where
    mine : of_lane (λ (c : Stamped Call). c.item.asked.lane) row.lane (market_calls market) ≡ (get_or passes place out).mine
    mine =
        ap (λ (n : ℕ). of_lane (λ (c : Stamped Call). c.item.asked.lane) n (market_calls market)) (sym (enter out).number)
        ∙ ap (λ (l : List (Stamped Call)). of_lane (λ (c : Stamped Call). c.item.asked.lane) (get_or passes place out).number (added l (market_calls market))) (sym (enter out).opening)
        ∙ (taken out).mine

    -- the row may call on it
    pub may-call : MayCall row market
    may-call =
        let is_out = taken out in
        let count : calls_by row.lane market.cell.calls ≡ length (get_or passes place out).mine =
        sym (length-stamped (λ (c : Call). c.asked.lane == row.lane) market.cell.calls market.stamps is_out.kept.counted) ∙ ap length mine in
        let rows : length (rows_of_market row.lane market.cell.start.address market.script.rows) ≡ length (rows_of_market row.lane gate.origin.start.address bank.script.rows) =
        ap (λ (o : MarketOrigin). length (rows_of_market row.lane o.start.address o.script.rows)) is_out.origin
        ∙ ap (λ (s : PlainScript). length (rows_of_market row.lane gate.origin.start.address s.rows)) (enter out).rows in
        record {
          on = (enter out).on ∙ sym (ap (λ (o : MarketOrigin). o.start.address) is_out.origin) ∙ sym is_out.kept.cell.one_market.address;
          lane = omega (arith, count, rows, (enter out).left);
        }

    -- the passes now, among which its turn is out, when the market has the row's call
    module _ {away : MarketAway} {call : Stamped Call} {after : BankMarketState} (away_is : IsAwayFor gate place passes (market_calls market) away)
        (has : HasCall call market after) (asked : call.item.asked ≡ asked_of row) (now : List MarketPass) (at : (pass : MarketPass) → get_or now place pass ≡ out) where
      now-is : (pass e : MarketPass) → get_or now place pass ≡ record (get_or passes place e) { stage = Out (market_calls market) }
      now-is pass e = at pass ∙ (taken e).pass

      -- it may be given back
      pub may-leave : place < length now → MayLeaveAt gate place now away after
      may-leave within = record {
        within = within;
        away_home = ap (λ (a : MarketAway). a.gate) (away_is out);
        home = λ pass. ap (λ (p : MarketPass). p.gate) (now-is pass out) ∙ (enter out).home;
        number = λ pass. ap (λ (a : MarketAway). a.number) (away_is out) ∙ sym (ap (λ (p : MarketPass). p.number) (now-is pass out));
        out = λ pass. ap (λ (p : MarketPass). p.stage) (now-is pass out) ∙ ap (λ (a : MarketAway). Out a.start) (sym (away_is out));
        origin =
            ap (λ (s : PlainMarketAccounts). record { start = s; script = after.script }) has.start ∙ ap (λ (s : PlainScript). record { start = market.cell.start; script = s }) has.script
            ∙ (taken out).origin;
        adds =
            subst (λ (a : MarketAway). AddsOne (λ (c : Stamped Call). c.item.asked.lane) a.number a.start (market_calls after)) (sym (away_is out))
            (leaving.market-adds has (get_or passes place out).number (ap (λ a. a.lane) asked ∙ sym (enter out).number));
      }

      -- what is left of its pass
      pub left-is : (pass : MarketPass) → left_with (get_or now place pass) away.start (market_calls after) ≡ left_with out (market_calls market) (market_calls after)
      left-is pass =
          ap (λ (p : MarketPass). left_with p away.start (market_calls after)) (at pass)
          ∙ ap (λ (a : MarketAway). left_with out a.start (market_calls after)) (away_is out)

      -- it has made the call
      pub has-called : HasSeenAt place now (market_calls after) → (d : PlainMarketAccounts) (e : MarketPass)
          → HasCalled call (get_or bank.script.start.markets place d) (get_or passes place e) (left_with out (market_calls market) (market_calls after))
      has-called seen d e =
          leaving.has-called has (get_or bank.script.start.markets place d) (get_or passes place e) (left_with out (market_calls market) (market_calls after))
          (ap (λ (o : MarketOrigin). o.start) (taken e).origin ∙ start-at d) (enter e).idle (ap (λ (p : MarketPass). left_with p (market_calls market) (market_calls after)) (taken e).pass)
          (subst (λ (p : MarketPass). Extends p.seen (market_calls after)) (now-is out e) (seen out))
