-- The turns of two markets, taken in the one order and told in the other; and which order it is.
use Rattle.std.proofs.Common.{◌≡◌, ℕ, Bool, true, false, List, [], ◌∷◌, Some, sym, ap, ◌∙◌, subst, ⊎_elim}
use Rattle.std.specs.List.{All}
use Rattle.std.proofs.lemmas.Bool.{cond-false}
use Rattle.dex_world.proofs.Common.{Address, All-head, All-nil, All-weaker, cases_Bool, is_same}
use Rattle.dex_types.specs.Wallets.{is_lower}
use Rattle.dex_history.proofs.AddressOrder.{AreRising, with_address-rising}
use Rattle.dex_turns.proofs.Common.{BankMarketState, Idle}
use Rattle.dex_turns.specs.Bank.{MarketGate}
use Rattle.std.proofs.lemmas.List.Elements.{All-set}
use Rattle.dex_turns.specs.Turns.{AreIdle, HoldsTurn, IsAboveMarkets, IsBelow, IsHomeAt, IsOutAt}
use Rattle.dex_turns.specs.declared.two_turns.TwoTurns.{TwoTurns}
use Rattle.dex_turns.specs.Submitted.{Where}
use Rattle.dex_turns.specs.TwoTurns.{HaveTaken}
use Rattle.dex_turns.specs.Seats.{MarketPass}
use Rattle.dex_turns.proofs.TwoPlaces.{set-swap}

pub exchanged-taken : (one two : MarketGate) (place next : ℕ) (before after : List MarketPass) (last : ℕ) (turns : TwoTurns) → (place ≡ next → ⊥)
    → HaveTaken two one next place before after last turns
    → HaveTaken one two place next before after last (record {
      markets = record { first = turns.markets.second; second = turns.markets.first };
      first = turns.second;
      second = turns.first;
      stamp = turns.stamp;
    })
exchanged-taken one two place next before after last turns apart taken = record {
  out = record {
    out = taken.out.out_next;
    out_next = taken.out.out;
    are = taken.out.are ∙ set-swap before next place taken.out.out taken.out.out_next (λ same. apart (sym same));
    taken = taken.out.taken_next;
    taken_next = taken.out.taken;
  };
  away = taken.away_next;
  away_next = taken.away;
  market = taken.market_next;
  market_next = taken.market;
  stamp = taken.stamp;
}

abbrev pub IsHeldBelow : MarketGate → MarketPass → Type 0
IsHeldBelow gate pass = HoldsTurn pass → (other : MarketGate) → pass.gate ≡ Some other → IsBelow other gate

-- where no turn of a market is out, each is above all
pub idle-below : (gate : MarketGate) (passes : List MarketPass) → AreIdle passes → IsAboveMarkets gate passes
idle-below gate passes idle =
    All-weaker (λ (pass : MarketPass). pass.stage ≡ Idle) (IsHeldBelow gate) (λ pass is holds other at. absurd (holds is)) passes idle

-- where the lower market's turn alone is out, the higher one is above all whose turns the lane has
pub taken-below : (lower higher : MarketGate) (place : ℕ) (before after : List MarketPass) (market : BankMarketState) → IsBelow lower higher
    → AreIdle before → IsHomeAt lower place before → IsOutAt lower place before after market → IsAboveMarkets higher after
taken-below lower higher place before after market order idle home out =
    subst (All (IsHeldBelow higher)) (sym out.is)
    (All-set (IsHeldBelow higher) before place out.out one (idle-below higher before idle))
  where
    one : IsHeldBelow higher out.out
    one holds other at =
        let both : Some lower ≡ Some other = sym (ap (λ (p : MarketPass). p.gate) (out.taken out.out).pass ∙ home.home out.out) ∙ at in
        let other_is : other ≡ lower = (cc) in
        subst (λ (gate : MarketGate). IsBelow gate higher) (sym other_is) order

-- ---- which of two addresses is the lower

pub one-lower : (a b : Address) → is_same a b ≡ false → Where (is_lower a b) (is_lower a b ≡ true) (is_lower b a ≡ true)
one-lower a b apart =
    let Told : Bool → Type 0 = λ t. Where t (is_lower a b ≡ true) (is_lower b a ≡ true) in
    ⊎_elim (λ (low : is_lower a b ≡ true). subst Told (sym low) low)
    (λ (high : is_lower a b ≡ false).
    let rising : AreRising (b ∷ a ∷ []) =
    subst AreRising (cond-false (is_same a b) _ _ apart ∙ cond-false (is_lower a b) _ _ high) (with_address-rising a (b ∷ []) (All-nil _, tt)) in
    subst Told (sym high) (All-head (λ (x : Address). is_lower b x ≡ true) a [] rising.0))
    (cases_Bool (is_lower a b))
