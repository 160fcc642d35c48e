-- A take, over a sound market's accounts.
use Rattle.std.proofs.Common.{◌≡◌, ℕ, List, [], ◌∷◌, Option, None, refl, sym, ap, ◌∙◌}
use Rattle.dex_types.specs.declared.refusals.Refusal.{Refusal}
use Rattle.dex_types.specs.declared.rows.Seen.{Seen}
use Rattle.dex_types.specs.declared.terms.Side.{Side}
use Rattle.dex_types.specs.Accounts.{PlainMarketAccounts}
use Rattle.dex_types.specs.Market.{orders}
use Rattle.dex_types.specs.Reasons.{first_of}
use Rattle.dex_types.specs.Requests.{Request}
use Rattle.dex_types.specs.Side.{opposite}
use Rattle.dex_types.specs.Take.{Take, take_meeting}
use Rattle.dex_types.specs.Why.{take_reading, why_take, why_take_early, why_taking}
use Rattle.dex_reasons.proofs.FirstReasons.{first_of-one}
use Rattle.dex_take.specs.declared.plan.DecidedTake.{DecidedTake}
use Rattle.dex_take.specs.TakeGiven.{IsOfSound, TakeRead, given, read_of, take_given}
use Rattle.dex_take.specs.Taking.{left_in, plan_by, plan_in, take_reason}
use Rattle.dex_take.proofs.TakeAmounts.{given-of, read-of}
use Rattle.dex_take.proofs.TakeReasons.{reason-given}
use Rattle.dex_slab.specs.declared.slab_ref.SlabRef.{SlabRef}
use Rattle.dex_slab.specs.Slab.{resting}
use Rattle.dex_accounts.specs.Decoded.{AreSound, market_in}
use Rattle.dex_accounts.specs.Parts.{parts_of}
use Rattle.dex_plan.specs.Given.{bytes_on}
use Rattle.dex_plan.specs.Plans.{sums_with}
use Rattle.dex_decide.proofs.OrderLaws.{orders-on}
use Rattle.dex_decide.proofs.PartLaws.{are, sound-parts}

module _ (accounts : PlainMarketAccounts) (sound : AreSound accounts) where
  -- what is shown of bytes and a side that are those of the accounts
  pub take-shown : (side : Side) (market events opposing : List ℕ) (opposing_side : Side) → market ≡ accounts.market → events ≡ accounts.events
      → opposing ≡ bytes_on (opposite side) accounts → opposing_side ≡ opposite side
      → given market events (resting opposing_side opposing) ≡ take_given side (parts_of accounts)
  take-shown side market events opposing opposing_side a b c d = rw (a, b, c, d, orders-on accounts sound (opposite side)) refl

  -- what is shown of views of them, lent as one value
  pub take-lent : (side : Side) (market events : List ℕ) (opposing view : SlabRef) → market ≡ accounts.market → events ≡ accounts.events → opposing ≡ view
      → view.bytes.now ≡ bytes_on (opposite side) accounts → view.side ≡ opposite side
      → given market events (resting opposing.side opposing.bytes.now) ≡ take_given side (parts_of accounts)
  take-lent side market events opposing view a b is c d = rw (is) (take-shown side market events view.bytes.now view.side a b c d)

  pub take-sound : (side : Side) → IsOfSound side (take_given side (parts_of accounts))
  take-sound side = record { whole = parts_of accounts; sound = sound-parts accounts sound; is = refl }

  -- what is decided, once the flags, the wallets and the signer have passed
  pub take-late : (side : Side) (t : Take) (request : Request) (seen : Seen) → why_take_early side request seen (market_in accounts) ≡ None
      → take_reason side t (read_of (take_given side (parts_of accounts))) seen ≡ why_take side t request seen (market_in accounts)
  take-late side t request seen none =
      let m = market_in accounts in
      let late = why_taking side t seen (take_reading side t seen m) in
      reason-given side t (take_given side (parts_of accounts)) m seen sound.sound (given-of side (parts_of accounts) m (are accounts sound))
      ∙ sym (first_of-one late)
      ∙ ap (λ (r : Option Refusal). first_of (r ∷ late ∷ [])) (sym none)

  -- what is planned is the market's
  pub take-decided : (side : Side) (t : Take)
      → (let read = read_of (take_given side (parts_of accounts)) in
      let m = market_in accounts in
      let met = take_meeting side m.listing.sizes t (orders (opposite side) m) in
      let decided : DecidedTake = record { plan = plan_in side t read; pending = left_in side t read } in
      decided ≡ record { plan = plan_by side m.listing.sizes t met; pending = sums_with met.events m })
  take-decided side t =
      let m = market_in accounts in
      ap (λ (r : TakeRead). let decided : DecidedTake = record { plan = plan_in side t r; pending = left_in side t r } in decided)
      (read-of side (take_given side (parts_of accounts)) m (given-of side (parts_of accounts) m (are accounts sound)))
