-- Two rows that share nothing, one after the other.
use Rattle.std.proofs.Common.{◌≡◌, ◌||◌, ◌&&◌, not, Bool, true, false, cond, List, [], ◌∷◌, is_some, Option, Some, None, refl, sym, ap, ◌∙◌, subst, arith}
use Rattle.dex_world.proofs.Common.{Address, AllZip, Market, PlainRow, Refusal, Reply, Seen, ShareNothing, World, act, chosen, false≢true, fold, idle_row, is_refusal, is_same, request_of, row_step, seen_by, step-refused, why-far, why_in, why_on}
use Rattle.dex_bank.proofs.Common.{CellsState, IsReply, MarketCellState, OthersStay, market_at, world_of}
use Rattle.dex_world.specs.Items.{doing}
use Rattle.dex_world.proofs.FarLaws.{market-far, seen-far}
use Rattle.dex_bank.specs.Cells.{OthersThanTwoStay}
use Rattle.dex_bank.specs.Stepped.{HasActedOrWaited, HaveBothStepped}

-- a row that is refused is answered so
refused-reply : (row : PlainRow) (world : World) (reply : Reply) → IsReply world row reply → is_some (why_in world row) ≡ true → is_refusal reply ≡ true
refused-reply row world reply told refused = on (market_at row.market world.markets) refl refused
  where
    on : (found : Option Market) → market_at row.market world.markets ≡ found → is_some (why_on row (seen_by row world) found) ≡ true
        → is_refusal reply ≡ true
    on None at some = absurd (false≢true some)
    on (Some m) at some = ap (λ (r : Reply). is_refusal r) (told m at) ∙ step-refused (request_of row) (seen_by row world) m ∙ some

-- ---- behind a row that shares nothing with it

module _ (one other : PlainRow) (share : ShareNothing one other) (waits : Bool) (answer : Reply) (before after : CellsState)
    (step : HasActedOrWaited one waits answer before after) where
  abbrev done : PlainRow
  done = doing waits one

  done-share : ShareNothing done other
  done-share = record { markets = share.markets; wallets = share.wallets }

  -- it is refused where it was
  pub why-still : why_in (world_of after) other ≡ why_in (world_of before) other
  why-still = ap (λ (world : World). why_in world other) step.acted ∙ why-far done other done-share (world_of before)

  -- and is answered as it would be before it
  reply-still : (other_waits : Bool) (reply : Reply) → IsReply (world_of after) (doing other_waits other) reply → IsReply (world_of before) (doing other_waits other) reply
  reply-still other_waits reply told m at =
      told m (ap (λ (world : World). market_at other.market world.markets) step.acted ∙ market-far done other done-share (world_of before) ∙ at)
      ∙ ap (λ (seen : Seen). (row_step (doing other_waits other) seen m).reply) (ap (seen_by other) step.acted ∙ seen-far done other done-share (world_of before))

-- markets of neither stay
both-stay : (one other : Address) (before mid after : List MarketCellState) → OthersStay one before mid → OthersStay other mid after
    → OthersThanTwoStay one other before after
both-stay one other [] [] [] first second = tt
both-stay one other [] (m ∷ mid) after first second = absurd first
both-stay one other (b ∷ before) [] after first second = absurd first
both-stay one other (b ∷ before) (m ∷ mid) (a ∷ after) first second = (
  (λ not_one not_other.
      let same : m ≡ b = first.0 not_one in
      second.0 (ap (λ (cell : MarketCellState). is_same other cell.accounts.address) same ∙ not_other) ∙ same),
  both-stay one other before mid after first.1 second.1,
)
both-stay one other _ _ _ first second = absurd second

-- ---- each waits where the other is refused and it is not

-- what the item makes them do
chosen-two : (world : World) (first second : PlainRow) (one two : Bool) → one ≡ is_some (why_in world first) → two ≡ is_some (why_in world second)
    → chosen world (first ∷ second ∷ []) ≡ doing (two && not one) first ∷ doing (one && not two) second ∷ []
chosen-two world first second one two one_is two_is =
    ap (λ (b : Bool). rows_by b (is_some (why_in world second))) (sym one_is) ∙ ap (rows_by one) (sym two_is) ∙ by one two
  where
    rows_by : Bool → Bool → List PlainRow
    rows_by a b = cond (a || (b || false)) (cond a first (idle_row first) ∷ cond b second (idle_row second) ∷ []) (first ∷ second ∷ [])

    by : (a b : Bool) → rows_by a b ≡ doing (b && not a) first ∷ doing (a && not b) second ∷ []
    by a b = grind arith

-- a row that waits where it is not refused waits, or is answered by a refusal
waits-or-refused : (row : PlainRow) (world : World) (waits refused : Bool) (reply : Reply) → IsReply world (doing waits row) reply
    → refused ≡ is_some (why_in world row) → (refused ≡ false → waits ≡ true) → (waits || is_refusal reply) ≡ true
waits-or-refused row world true refused reply told is spared = refl
waits-or-refused row world false true reply told is spared = refused-reply row world reply told (sym is)
waits-or-refused row world false false reply told is spared = absurd (false≢true (spared refl))

-- what two rows leave, each of which waits where the other is refused and it is not
module _ (first second : PlainRow) (share : ShareNothing first second) (one two : Bool) (answer other_answer : Reply)
    (before between after : CellsState) (step : HasActedOrWaited first (two && not one) answer before between)
    (other_step : HasActedOrWaited second (one && not two) other_answer between after) (one_is : one ≡ is_some (why_in (world_of before) first))
    (two_is : two ≡ is_some (why_in (world_of before) second)) where
  -- they did what the item chooses for them
  done-both : doing (two && not one) first ∷ doing (one && not two) second ∷ [] ≡ chosen (world_of before) (first ∷ second ∷ [])
  done-both = sym (chosen-two (world_of before) first second one two one_is two_is)

  pub both-stepped : HaveBothStepped first second (answer, other_answer) before after
  both-stepped = record {
    replies =
        subst (λ (rows : List PlainRow). AllZip (IsReply (world_of before)) rows (answer ∷ other_answer ∷ [])) done-both
        (step.reply, (reply-still first second share (two && not one) answer before between step (one && not two) other_answer other_step.reply, tt));
    acted = other_step.acted
        ∙ ap (act (doing (one && not two) second)) step.acted
        ∙ ap (λ (rows : List PlainRow). fold rows (world_of before)) done-both;
    kept = other_step.kept ∙ step.kept;
    others = both-stay first.market second.market before.markets between.markets after.markets step.others other_step.others;
    stays = λ some.
        let either : (one || two) ≡ true = ap (λ (b : Bool). b || two) one_is ∙ ap (λ (b : Bool). is_some (why_in (world_of before) first) || b) two_is ∙ some in
        let told : two ≡ is_some (why_in (world_of between) second) =
        two_is ∙ ap (λ (found : Option Refusal). is_some found) (sym (why-still first second share (two && not one) answer before between step)) in
        other_step.refused (waits-or-refused second (world_of between) (one && not two) two other_answer other_step.reply told (λ none. grind (arith, either, none)))
        ∙ step.refused (waits-or-refused first (world_of before) (two && not one) one answer step.reply one_is (λ none. grind (arith, either, none)));
    cells = other_step.cells;
  }
