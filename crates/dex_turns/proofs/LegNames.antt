-- The wallets of two legs are those that the two name, each once.
use Rattle.std.proofs.Common.{◌≡◌, Bool, true, false, ◌||◌, List, [], None, Option, sym, ap, ◌∙◌, subst, arith}
use Rattle.dex_world.proofs.Common.{Address, All-weaker, PlainRow, is_same, list_any, names}
use Rattle.dex_turns.proofs.Common.{All-unmap, CellState, PlainScript}
use Rattle.std.specs.List.{All}
use Rattle.dex_world.specs.Fold.{is_role}
use Rattle.dex_world.proofs.OnceLaws.{each-any}
use Rattle.dex_world.proofs.NameLaws.{names-roles, roles-any}
use Rattle.dex_script_types.specs.Facts.{AreLegs}
use Rattle.dex_turns.specs.Turns.{AreInHand, leg_wallets}
use Rattle.dex_turns.proofs.InHand.{hands-are}

-- a leg names what its coin and its pc name
leg-names : (row : PlainRow) → row.discount ≡ None → row.referrer ≡ None → (address : Address)
    → names row address ≡ (is_role row.coin address || (is_role row.pc address || false))
leg-names row discount referrer address =
    names-roles row address
    ∙ ap (λ (b : Bool). is_role row.coin address || (is_role row.pc address || b))
    (ap (λ (role : Option Address). is_role role address || (is_role row.referrer address || false)) discount ∙ ap (λ (role : Option Address). is_role role address || false) referrer)

module _ (first second : PlainRow) (legs : AreLegs first second) where
  -- a wallet is one of these just where one of the legs names it
  pub named-is : (address : Address) → list_any (is_same address) (leg_wallets first second) ≡ (names first address || names second address)
  named-is address =
      roles-any first.coin first.pc second.coin second.pc address
      ∙ four (is_role first.coin address) (is_role first.pc address) (is_role second.coin address) (is_role second.pc address)
      ∙ ap (λ (b : Bool). b || (is_role second.coin address || (is_role second.pc address || false))) (sym (leg-names first legs.first.discount legs.first.referrer address))
      ∙ ap (λ (b : Bool). names first address || b) (sym (leg-names second legs.second.discount legs.second.referrer address))
    where
      four : (a b c d : Bool) → (a || (b || (c || (d || false)))) ≡ ((a || (b || false)) || (c || (d || false)))
      four a b c d = grind arith

  -- each cell in hand is named by one of them
  pub each-named : (script : PlainScript) (cells : List CellState) → AreInHand script (leg_wallets first second) [] cells
      → All (λ (cell : CellState). (names first cell.address || names second cell.address) ≡ true) cells
  each-named script cells hand =
      All-unmap (λ (address : Address). (names first address || names second address) ≡ true) (λ (cell : CellState). cell.address) cells
      (subst (All (λ (address : Address). (names first address || names second address) ≡ true)) (sym (hands-are script (leg_wallets first second) cells hand))
      (All-weaker (λ (address : Address). list_any (is_same address) (leg_wallets first second) ≡ true) (λ (address : Address). (names first address || names second address) ≡ true)
      (λ address among. sym (named-is address) ∙ among) (leg_wallets first second) (each-any (leg_wallets first second))))
