-- Sums that would be too large.
use Rattle.std.specs.Prelude.{ℕ, ◌+◌, ◌^◌, ◌≡◌, ◌≤◌, Bool, true, false, Some}
use Rattle.dex_types.specs.declared.refusals.Refusal.{Refusal}
use Rattle.dex_types.specs.declared.refusals.Refusal.TheVariants.{SumTooLarge}
use Rattle.dex_types.specs.declared.rows.Seen.{Seen}
use Rattle.dex_types.specs.Market.{Market}
use Rattle.dex_types.specs.Requests.{Request}
use Rattle.dex_types.specs.Side.{Token}
use Rattle.dex_types.specs.Solvency.{vault, all_leaving}
use Rattle.dex_types.specs.Steps.{act_decoded}
use Rattle.dex_types.specs.Why.{why}

-- the market that a row would leave, if nothing refused it
abbrev pub would_leave : Request → Seen → Market → Market
would_leave request seen m = (act_decoded request.instruction request seen m).market

-- for a token these are the market's vault and what its pending makers' fills are still to take, and together they pass
-- the bound
pub record IsBeyond (m : Market) (held pending : ℕ) : Type 0 where
  pub token : Token
  pub in_vault : held ≡ vault token m
  pub in_events : pending ≡ all_leaving token m.events
  pub beyond : 2 ^ 64 ≤ held + pending

-- for a token the market passes the bound
pub record BreaksBound (m : Market) : Type 0 where
  pub token : Token
  pub beyond : 2 ^ 64 ≤ vault token m + all_leaving token m.events

-- the refusal is for a sum
abbrev pub is_for_sum : Refusal → Bool
is_for_sum (SumTooLarge held pending) = true
is_for_sum _ = false

-- the row is refused for a sum
pub record IsRefusedForSum (request : Request) (seen : Seen) (m : Market) : Type 0 where
  pub refusal : Refusal
  pub given : why request seen m ≡ Some refusal
  pub sum : is_for_sum refusal ≡ true

-- no reason that comes before the sums holds: where one does, it is given
abbrev pub HasNoOtherReason : Request → Seen → Market → Type 0
HasNoOtherReason request seen m = (refusal : Refusal) → why request seen m ≡ Some refusal → is_for_sum refusal ≡ true
