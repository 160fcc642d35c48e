-- an item of one row acts as the row
use Rattle.std.proofs.Common.{◌≡◌, ◌||◌, ◌&&◌, not, Bool, true, false, cond, List, [], ◌∷◌, arith, is_some, Result, Ok, refl, ap}
use Rattle.std.proofs.lemmas.Bool.{false≢true}
use Rattle.dex_types.specs.declared.instructions.BadData.{BadData}
use Rattle.dex_types.specs.declared.instructions.Ix.{Ix}
use Rattle.dex_types.specs.declared.instructions.Ix.TheVariants.{MatchOrders}
use Rattle.dex_types.specs.declared.rows.Seen.{Seen}
use Rattle.dex_types.specs.Market.{Market}
use Rattle.dex_types.specs.Rows.{PlainRow}
use Rattle.dex_types.specs.Steps.{done, step}
use Rattle.dex_instruction.specs.Numbers.{number_at}
use Rattle.dex_instruction.specs.Reading.{decoded, instruction}
use Rattle.dex_instruction.specs.Rules.{broken}
use Rattle.dex_history.specs.Journal.{request_of, row_step}
use Rattle.dex_world.specs.Fold.{act, fold}
use Rattle.dex_world.specs.Groups.{alone}
use Rattle.dex_world.specs.Items.{act_item, chosen, idle_row, nothing_to_do, why_in}
use Rattle.dex_world.specs.World.{World}

alone-chosen : (row : PlainRow) (world : World) → chosen world (row ∷ []) ≡ row ∷ []
alone-chosen row world = grind arith

pub alone-acts : (row : PlainRow) (world : World) → act_item (alone row) world ≡ act row world
alone-acts row world = ap (λ (rows : List PlainRow). fold rows world) (alone-chosen row world)

-- ---- a row with nothing to do

pub nothing-decodes : decoded nothing_to_do ≡ Ok (MatchOrders 0)
unfolding decoded instruction broken number_at
nothing-decodes = refl

-- it does nothing
pub idle-step : (row : PlainRow) (seen : Seen) (m : Market) → row_step (idle_row row) seen m ≡ done m
idle-step row seen m = ap (λ (it : Result Ix BadData). step (record (request_of row) { instruction = it }) seen m) nothing-decodes

-- ---- each waits where one of the two is refused and it is not

pub not-refused : (any refused : Bool) → (any && not refused) ≡ true → refused ≡ false
not-refused any refused held = grind arith
