-- The turn of the market of a row alone, and those of two legs: what is known when they are taken, and when they are left.
use Rattle.std.proofs.Common.{◌≡◌, ℕ, List, get_or, length, set, sym, ap, ◌∙◌, subst, arith}
use Rattle.dex_world.proofs.Common.{PlainMarketAccounts, PlainRow, asked_of, false≢true, is_same, is_same-refl}
use Rattle.dex_turns.proofs.Common.{AllThree, BankMarketState, BankState, HasCall, IsBank, Stamped, market_calls}
use Rattle.std.proofs.lemmas.List.{get_or-set_same, length-set}
use Rattle.dex_history.specs.Journal.{Call}
use Rattle.dex_script_types.specs.Facts.{AreLegs}
use Rattle.dex_turns.specs.Bank.{MarketGate}
use Rattle.dex_turns.specs.Submitted.{LegMarketGrows, MarketGrows}
use Rattle.dex_turns.specs.Turns.{AreOutAt, HasSeenAt, IsAwayFor, IsOutAt, MarketAway, MayCallBoth, MayEnterAt, MayLeaveAt, left_with}
use Rattle.dex_script_types.proofs.Apart.{markets-distinct}
use Rattle.dex_turns.proofs.Entering.{has-called, left-is, may-call, may-leave}
use Rattle.dex_turns.specs.Seats.{MarketPass}
use Rattle.dex_turns.proofs.LegSeat.{legs-grow}
use Rattle.dex_turns.proofs.SeatAfter.{markets-grow}
use Rattle.dex_turns.proofs.TwoPlaces.{get-first, get-second, set-again, set-both}

-- ---- the market of a row alone

module _ {bank : BankState} {row : PlainRow} {place : ℕ} {passes taken : List MarketPass} {gate : MarketGate} {market after : BankMarketState} {away : MarketAway} {call : Stamped Call}
    (may : MayEnterAt bank row passes place) (gate_is : (default : MarketGate) → gate ≡ get_or bank.markets place default) (out : IsOutAt gate place passes taken market)
    (away_is : IsAwayFor gate place passes (market_calls market) away) (has : HasCall call market after) (asked : call.item.asked ≡ asked_of row) where
  at-taken : (pass : MarketPass) → get_or taken place pass ≡ out.out
  at-taken pass = ap (λ (l : List MarketPass). get_or l place pass) out.is ∙ get_or-set_same passes place out.out pass may.within.2

  pub one-leave : MayLeaveAt gate place taken away after
  one-leave = may-leave may gate_is out.taken away_is has asked taken at-taken (omega (arith, ap length out.is, length-set passes place out.out, may.within.2))

  -- its pass has grown, and no other
  pub one-grown : IsBank bank → length passes ≡ length bank.script.start.markets → (end : List MarketPass)
      → ((default : MarketPass) → end ≡ set taken place (left_with (get_or taken place default) away.start (market_calls after)))
      → HasSeenAt place taken (market_calls after) → AllThree (MarketGrows row call) bank.script.start.markets passes end
  one-grown kept many end end_is seen =
      let left : MarketPass = left_with out.out (market_calls market) (market_calls after) in
      let is : end ≡ set passes place left =
      end_is out.out
      ∙ ap (set taken place) (left-is may gate_is out.taken away_is has asked taken at-taken out.out)
      ∙ ap (λ (l : List MarketPass). set l place left) out.is
      ∙ set-again passes place out.out left in
      subst (AllThree (MarketGrows row call) bank.script.start.markets passes) (sym is)
      (markets-grow row call asked bank.script.start.markets passes place left (markets-distinct bank.script.start kept.script.start.accepted) may.within.0 many may.here
      (has-called may gate_is out.taken away_is has asked taken at-taken seen))

-- ---- those of two legs

module _ {bank : BankState} {first second : PlainRow} {place next : ℕ} {passes : List MarketPass} (legs : AreLegs first second) (one_may : MayEnterAt bank first passes place)
    (two_may : MayEnterAt bank second passes next) where
  -- they are not one
  pub places-differ : PlainMarketAccounts → place ≡ next → ⊥
  places-differ d same =
      let one : first.market ≡ second.market = sym (one_may.here d) ∙ ap (λ (n : ℕ). (get_or bank.script.start.markets n d).address) same ∙ two_may.here d in
      false≢true (sym legs.apart.markets ∙ ap (is_same first.market) (sym one) ∙ is_same-refl first.market)

  module _ {taken : List MarketPass} {gate gate_next : MarketGate} {m n : BankMarketState} (gate_is : (default : MarketGate) → gate ≡ get_or bank.markets place default)
      (next_is : (default : MarketGate) → gate_next ≡ get_or bank.markets next default) (out : AreOutAt gate gate_next place next passes taken m n) where
    apart : place ≡ next → ⊥
    apart = places-differ gate.origin.start

    pub may-call-both : MayCallBoth first second (record { first = m; second = n })
    may-call-both = record { first_may = may-call one_may gate_is out.taken; second_may = may-call two_may next_is out.taken_next; legs = legs }

    long : length taken ≡ length passes
    long = ap length out.are ∙ length-set (set passes place out.out) next out.out_next ∙ length-set passes place out.out

    at-first : (pass : MarketPass) → get_or taken place pass ≡ out.out
    at-first pass =
        ap (λ (l : List MarketPass). get_or l place pass) out.are ∙ get-first passes place next out.out out.out_next apart one_may.within.2 two_may.within.2 pass

    module _ {away away_next : MarketAway} {one two : Stamped Call} {after after_next : BankMarketState} (away_is : IsAwayFor gate place passes (market_calls m) away)
        (away_next_is : IsAwayFor gate_next next passes (market_calls n) away_next) (has : HasCall one m after) (has_next : HasCall two n after_next)
        (asked : (one.item.asked ≡ asked_of first) × (two.item.asked ≡ asked_of second)) where
      pub first-leave : MayLeaveAt gate place taken away after
      first-leave = may-leave one_may gate_is out.taken away_is has asked.0 taken at-first (omega (arith, long, one_may.within.2))

      abbrev left : MarketPass
      left = left_with out.out (market_calls m) (market_calls after)

      abbrev left_next : MarketPass
      left_next = left_with out.out_next (market_calls n) (market_calls after_next)

      module _ {mid : List MarketPass} (mid_is : (default : MarketPass) → mid ≡ set taken place (left_with (get_or taken place default) away.start (market_calls after)))
          (seen : HasSeenAt place taken (market_calls after)) where
        mid-so : mid ≡ set (set (set passes place out.out) next out.out_next) place left
        mid-so =
            mid_is out.out
            ∙ ap (set taken place) (left-is one_may gate_is out.taken away_is has asked.0 taken at-first out.out)
            ∙ ap (λ (l : List MarketPass). set l place left) out.are

        at-second : (pass : MarketPass) → get_or mid next pass ≡ out.out_next
        at-second pass =
            ap (λ (l : List MarketPass). get_or l next pass) mid-so
            ∙ get-second passes place next out.out out.out_next apart one_may.within.2 two_may.within.2 left pass

        pub second-leave : MayLeaveAt gate_next next mid away_next after_next
        second-leave =
            may-leave two_may next_is out.taken_next away_next_is has_next asked.1 mid at-second
            (omega (arith, ap length (mid_is out.out), length-set taken place (left_with (get_or taken place out.out) away.start (market_calls after)), long, two_may.within.2))

        -- the passes of both markets have grown, and no others
        pub markets-grown : IsBank bank → length passes ≡ length bank.script.start.markets → (end : List MarketPass)
            → ((default : MarketPass) → end ≡ set mid next (left_with (get_or mid next default) away_next.start (market_calls after_next)))
            → HasSeenAt next mid (market_calls after_next) → AllThree (LegMarketGrows first second one two) bank.script.start.markets passes end
        markets-grown kept many end end_is seen_next =
            let is : end ≡ set (set passes place left) next left_next =
            end_is out.out
            ∙ ap (set mid next) (left-is two_may next_is out.taken_next away_next_is has_next asked.1 mid at-second out.out)
            ∙ ap (λ (l : List MarketPass). set l next left_next) mid-so
            ∙ set-both passes place next out.out out.out_next apart one_may.within.2 two_may.within.2 left left_next in
            subst (AllThree (LegMarketGrows first second one two) bank.script.start.markets passes) (sym is)
            (legs-grow first second legs one two asked bank.script.start.markets passes place next left left_next (markets-distinct bank.script.start kept.script.start.accepted)
            one_may.within.0 two_may.within.0 many one_may.here two_may.here (has-called one_may gate_is out.taken away_is has asked.0 taken at-first seen)
            (has-called two_may next_is out.taken_next away_next_is has_next asked.1 mid at-second seen_next))
