-- What a row, or the two legs of a swap, do to all cells.
use Rattle.std.specs.Prelude.{◌≡◌, ◌||◌, Bool, true, false, is_some}
use Rattle.dex_types.specs.declared.replies.Reply.{Reply}
use Rattle.dex_types.specs.Rows.{PlainRow}
use Rattle.dex_history.specs.Journal.{is_refusal}
use Rattle.dex_world.specs.Fold.{act}
use Rattle.dex_world.specs.Items.{act_item, doing, pair_of, why_in}
use Rattle.dex_bank.specs.Cells.{AreCells, AreReplies, CellsState, IsReply, OthersStay, OthersThanTwoStay, accounts_in, opened_of, world_of}

-- a row acted on cells, or waited: then it did nothing, and looked at the wallets that it names. This was its reply
pub record HasActedOrWaited (row : PlainRow) (waits : Bool) (answer : Reply) (before after : CellsState) : Type 0 where
  pub reply : IsReply (world_of before) (doing waits row) answer
  pub acted : world_of after ≡ act (doing waits row) (world_of before)
  pub kept : opened_of after ≡ opened_of before
  pub others : OthersStay row.market before.markets after.markets
  pub refused : (waits || is_refusal answer) ≡ true → accounts_in after.markets ≡ accounts_in before.markets
  pub cells : AreCells after

-- a row acted on cells, and this was its reply: the world is that after it, no cell was opened otherwise, cells of
-- other markets are as they were, and where it was refused so are the accounts of all markets
abbrev pub HasStepped : PlainRow → Reply → CellsState → CellsState → Type 0
HasStepped row answer before after = HasActedOrWaited row false answer before after

-- two legs of one swap acted on cells, both or neither, and these were their replies
pub record HaveBothStepped (first second : PlainRow) (answers : Reply × Reply) (before after : CellsState) : Type 0 where
  pub replies : AreReplies (world_of before) (pair_of first second) answers
  pub acted : world_of after ≡ act_item (pair_of first second) (world_of before)
  pub kept : opened_of after ≡ opened_of before
  pub others : OthersThanTwoStay first.market second.market before.markets after.markets
  pub stays : (is_some (why_in (world_of before) first) || is_some (why_in (world_of before) second)) ≡ true
      → accounts_in after.markets ≡ accounts_in before.markets
  pub cells : AreCells after
