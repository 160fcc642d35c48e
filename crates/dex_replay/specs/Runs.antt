-- What every way to run a script promises of its outcome.
use Rattle.std.specs.Prelude.{ℕ, ◌≡◌, List, All}
use Rattle.dex_types.specs.Rows.{PlainRow}
use Rattle.dex_accounts.specs.Decoded.{AreSound}
use Rattle.dex_state.specs.Conserved.{IsConserved}
use Rattle.dex_state.specs.Accepted.{AreAccepted}
use Rattle.dex_world.specs.Items.{Item, items_of, items_of_lane, rows_of_lane}
use Rattle.dex_state.specs.Outcomes.{PlainOutcome}
use Rattle.dex_script_types.specs.PlainScript.{PlainScript}
use Rattle.dex_replay.specs.Lawful.{IsLawful}
use Rattle.dex_replay.specs.Replays.{IsLeftBy, IsLeftByRows}

-- an order of items has the script's items, and of each lane in the lane's order
abbrev pub KeepsLanes : PlainScript → List Item → Type 0
KeepsLanes script order = (lane : ℕ) → items_of_lane lane order ≡ items_of (rows_of_lane lane script.rows)

-- there is an order of all the script's items that keeps the order of each lane, such that the outcome is what is left
-- when the items act one after the other in it
pub record IsOneOrder (script : PlainScript) (outcome : PlainOutcome) : Type 0 where
  pub order : List Item
  pub lanes : KeepsLanes script order
  pub replay : IsLeftBy script order outcome

-- the outcome is what is left when rows have acted, each by itself, in an order that has the script's rows, and of each
-- lane in the lane's order
pub record IsOneOrderOfRows (script : PlainScript) (outcome : PlainOutcome) : Type 0 where
  pub order : List PlainRow
  pub lanes : (lane : ℕ) → rows_of_lane lane order ≡ rows_of_lane lane script.rows
  pub replay : IsLeftByRows script order outcome

-- the outcome is lawful; its accounts are accepted, and each market's those of a sound market; and of each mint the
-- wallets and the vaults hold its supply together
pub record IsRunOf (script : PlainScript) (outcome : PlainOutcome) : Type 0 where
  pub lawful : IsLawful script outcome
  pub accepted : AreAccepted script.limits outcome.accounts
  pub sound : All AreSound outcome.accounts.markets
  pub conserved : All (IsConserved outcome.accounts) outcome.accounts.mints
