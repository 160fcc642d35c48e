-- Instructions that rows of a replay are.
use Rattle.std.specs.Prelude.{◌≡◌, List, [], ◌∷◌, map, if◌then◌else◌}
use Rattle.dex_types.specs.declared.addresses.Address.{Address}
use Rattle.dex_types.specs.declared.movements.Entry.{Entry}
use Rattle.dex_types.specs.declared.replies.Reply.{Reply}
use Rattle.dex_types.specs.Addresses.{is_same}
use Rattle.dex_types.specs.Rows.{PlainRow}
use Rattle.dex_history.specs.Journal.{asked_of}
use Rattle.dex_process.specs.Histories.{Processed}
use Rattle.dex_world.specs.Fold.{act}
use Rattle.dex_world.specs.World.{MarketState, World, seen_by}

-- an instruction is a row's in a world: it asks what the row asks, and saw what the row sees there
pub record IsOfRow (one : Processed) (row : PlainRow) (world : World) : Type 0 where
  pub asked : one.asked ≡ asked_of row
  pub seen : one.seen ≡ seen_by row world

-- instructions are those of rows that act one after the other in a world
abbrev pub AreOfRows : World → List PlainRow → List Processed → Type 0
AreOfRows world [] [] = Unit {0}
AreOfRows world (row ∷ rows) (one ∷ others) = IsOfRow one row world × AreOfRows (act row world) rows others
AreOfRows world _ _ = ⊥

-- the replies in the journal of the market of an address
abbrev pub replies_at : Address → List MarketState → List Reply
replies_at address [] = []
replies_at address (state ∷ states) =
    if is_same address state.market.listing.address then map (λ (entry : Entry). entry.reply) state.entries
    else replies_at address states
