-- Swaps: both legs, or neither.
use Rattle.std.specs.Prelude.{◌≡◌, ◌⊎◌, true, List, [], All}
use Rattle.std.specs.List.{Any}
use Rattle.dex_types.specs.Rows.{PlainRow}
use Rattle.dex_history.specs.Journal.{is_done, is_refusal, is_took}
use Rattle.dex_world.specs.Groups.{members}
use Rattle.dex_world.specs.Items.{Item, items_of}
use Rattle.dex_state.specs.Outcomes.{PlainMarketJournal, PlainOutcome}
use Rattle.dex_script_types.specs.PlainScript.{PlainScript}
use Rattle.dex_replay.specs.Lawful.{is_answered}

-- a leg took, as its entry in its market's journal tells
abbrev pub HasTaken : List PlainMarketJournal → PlainRow → Type 0
HasTaken journals row = is_answered is_took journals row ≡ true

-- it was refused
abbrev pub WasRefused : List PlainMarketJournal → PlainRow → Type 0
WasRefused journals row = is_answered is_refusal journals row ≡ true

-- it was held back: there was nothing to do. That it would not have been refused at its place is a part of its market's
-- legal history
abbrev pub WasHeldBack : List PlainMarketJournal → PlainRow → Type 0
WasHeldBack journals row = is_answered is_done journals row ≡ true

-- of a swap each leg took; or one is refused, and each that is not was held back
abbrev pub BothOrNeither : List PlainMarketJournal → Item → Type 0
BothOrNeither journals item = ¬ (item.others ≡ [])
    → All (HasTaken journals) (members item)
    ⊎ (Any (WasRefused journals) (members item)
    × All (λ (row : PlainRow). WasRefused journals row ⊎ WasHeldBack journals row) (members item))

-- so it is of each swap of the script
abbrev pub ArePaired : PlainScript → PlainOutcome → Type 0
ArePaired script outcome = All (BothOrNeither outcome.markets) (items_of script.rows)
