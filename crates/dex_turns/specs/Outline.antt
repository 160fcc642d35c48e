-- What a bank keeps of its script beside the cells.
use Rattle.std.specs.Prelude.{◌≡◌, List}
use Rattle.dex_turns.specs.declared.outline.Outline.TheInside as outline
use Rattle.dex_script_types.specs.PlainScript.{PlainScript}
use Rattle.dex_script_types.specs.Facts.{IsScript}
use Rattle.dex_script_types.specs.Places.{market_addresses, wallet_addresses}
use Rattle.dex_wallet.specs.CellState.{CellState}
use Rattle.dex_world.specs.World.{World}
use Rattle.dex_act.specs.Steps.{Terms}
use Rattle.dex_act.specs.Steps.{world_in_hand}

-- what the rows of a script see beside their wallets
abbrev pub terms_of : PlainScript → Terms
terms_of script = record { srm = script.start.srm; msrm = script.start.msrm; program = script.program }

-- wallets in hand beside what a script says, as a world in which rows see
abbrev pub world_with : PlainScript → List CellState → World
world_with script cells = world_in_hand (terms_of script) cells

-- the script that the fields are of
abbrev pub outlined : outline.Inside → PlainScript
outlined inside = inside.script.value

-- the fields are this script's
pub record IsOutline (inside : outline.Inside) : Type 0 where
  pub script : IsScript inside.script.value
  pub lanes : inside.lanes ≡ inside.script.value.lanes
  pub terms : inside.terms ≡ terms_of inside.script.value
  pub markets : inside.markets.items ≡ market_addresses inside.script.value
  pub wallets : inside.wallets.items ≡ wallet_addresses inside.script.value
