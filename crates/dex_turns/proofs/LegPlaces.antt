-- The wallets of two legs, found by what stands beside the legs: each is found, and stands there among those of the script.
use Rattle.std.proofs.Common.{◌≡◌, ◌∙◌, ℕ, true, Option, Some, None, ap, arith, is_some, refl}
use Rattle.std.specs.Option.{option_or}
use Rattle.std.proofs.lemmas.Bool.{cond_both}
use Rattle.std.proofs.lemmas.Option.{none-some}
use Rattle.dex_world.proofs.Common.{Address, PlainRow, is_same, is_same-refl, is_same-true}
use Rattle.dex_world.specs.declared.places.RowPlaces.{RowPlaces}
use Rattle.dex_world.specs.declared.places.RowWallets.{RowWallets}
use Rattle.dex_world.specs.Places.{AreWalletsAt, coin_at, pc_at}
use Rattle.dex_script_types.specs.Facts.{AreLegs}
use Rattle.dex_script_types.specs.Found.{are_found, is_found}
use Rattle.dex_script_types.specs.Places.{IsPlaced, IsRolePlaced}
use Rattle.dex_script_types.specs.PlainScript.{PlainScript}
use Rattle.dex_script_types.proofs.FoundLaws.{wallets-weaker}
use Rattle.dex_script_types.proofs.PlacedLaws.{role-placed}
use Rattle.dex_turns.specs.Legs.{at_role, beside_legs}
use Rattle.dex_turns.specs.Turns.{AreLegsAt, place_of}

-- ---- each is found

own : (role : Option Address) (place : ℕ) (found : Address → Option ℕ)
    → ((address : Address) → is_some (at_role role place address) ≡ true → is_some (found address) ≡ true) → is_found found role ≡ true
own None place found by = refl
own (Some address) place found by = by address (rw (is_same-refl address) refl)

pub legs-found : (first second : PlainRow) (one two : RowPlaces)
    → are_found (beside_legs first second one two) first.coin first.pc second.coin second.pc ≡ true
legs-found first second one two =
    let found = beside_legs first second one two in
    rw (
      own first.coin (coin_at one) found (λ address some. grind arith),
      own first.pc (pc_at one) found (λ address some. grind arith),
      own second.coin (coin_at two) found (λ address some. grind arith),
      own second.pc (pc_at two) found (λ address some. grind arith),
    ) refl

-- ---- where it is

module _ (script : PlainScript) (address : Address) where
  -- what is told, if it is, is its place
  abbrev Tells : Option ℕ → Type 0
  Tells told = (place : ℕ) → told ≡ Some place → place_of script address ≡ Some place

  tells-or : (one other : Option ℕ) → Tells one → Tells other → Tells (option_or one other)
  tells-or None other first second = second
  tells-or (Some place) other first second = first

  tells-role : (role : Option Address) (at : ℕ) → IsRolePlaced script.start.wallets role at → Tells (at_role role at address)
  tells-role None at placed = λ place is. absurd (none-some place is)
  tells-role (Some wallet) at placed =
      cond_both (is_same address wallet) (Some at) None Tells
      (λ same place is. ap (place_of script) (is_same-true address wallet same) ∙ placed ∙ is)
      (λ apart place is. absurd (none-some place is))

-- the wallets of both legs stand together where those of each stand
pub both-at : (script : PlainScript) (first second : PlainRow) (one two : RowPlaces) (at : RowWallets) → AreLegs first second
    → AreWalletsAt (beside_legs first second one two) first.coin first.pc second.coin second.pc at
    → IsPlaced script.start first one → IsPlaced script.start second two → AreLegsAt script first second at
both-at script first second one two at legs found one_at two_at =
    let tells = tells-role script in
    let or = tells-or script in
    record {
      legs = legs;
      wallets =
          wallets-weaker (beside_legs first second one two) (place_of script)
          (λ address.
          or address _ _
          (or address _ _
          (or address _ _ (tells address first.coin (coin_at one) (role-placed script.start first one one_at first.coin one.wallets.coin one_at.wallets.of_coin))
          (tells address first.pc (pc_at one) (role-placed script.start first one one_at first.pc one.wallets.pc one_at.wallets.of_pc)))
          (tells address second.coin (coin_at two) (role-placed script.start second two two_at second.coin two.wallets.coin two_at.wallets.of_coin)))
          (tells address second.pc (pc_at two) (role-placed script.start second two two_at second.pc two.wallets.pc two_at.wallets.of_pc)))
          first.coin first.pc second.coin second.pc at found;
    }
