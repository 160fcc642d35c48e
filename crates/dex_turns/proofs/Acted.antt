-- A row that acts on its market and on the cells in hand, or is held back there, and what is recorded of it.
use Rattle.std.proofs.Common.{◌≡◌, ℕ, ◌&&◌, not, Bool, true, false, List, [], ◌∷◌, arith, is_some, Result, Ok, Err, refl, sym, ap, ◌∙◌, subst}
use Rattle.dex_world.proofs.Common.{All-cons, All-nil, AllZip, Call, Market, PlainRow, Seen, Sees, Step, asked_of, decoded, false≢true, idle-step, is_done, is_held, is_refusal, is_refused, is_take, request_of, row_of, row_step, row_wallets, seen_by, step-refused, why}
use Rattle.dex_turns.proofs.Common.{AreAllOrNone, AreInHand, BankMarketState, CellState, HasCall, HasEntry, IsAsOthers, IsSight, MarketCellState, PlainScript, Stamped, call_made, terms_of, world_with}
use Rattle.dex_types.specs.declared.instructions.BadData.{BadData}
use Rattle.dex_types.specs.declared.instructions.Ix.{Ix}
use Rattle.dex_types.specs.declared.movements.Entry.{Entry}
use Rattle.dex_types.specs.declared.rows.Row.{Row}
use Rattle.dex_types.specs.Requests.{Request}
use Rattle.dex_types.specs.Why.{why_decoded}
use Rattle.dex_history.specs.Journal.{is_take_or_bad}
use Rattle.dex_history.proofs.HeldLaws.{own-not_held}
use Rattle.dex_cell.specs.CellState.{market_at}
use Rattle.dex_act.specs.Acted.{HaveActed}
use Rattle.dex_world.specs.Items.{doing}
use Rattle.dex_world.proofs.ItemLaws.{not-refused}
use Rattle.dex_script_types.specs.Facts.{IsLeg}
use Rattle.dex_turns.specs.Submitted.{written_by}
use Rattle.dex_act.specs.Steps.{Terms}
use Rattle.dex_act.specs.declared.steps.RowDone.{RowDone}
use Rattle.dex_act.specs.Steps.{IsRecorded, IsStepOn, IsTakeOrRefused, made_by}
use Rattle.dex_journals.specs.Journals.{IsBankMarket, market_more}
use Rattle.dex_turns.specs.declared.stamped_record.StampedRecord.{StampedRecord}
use Rattle.dex_turns.specs.Turns.{IsTold}
use Rattle.dex_turns.proofs.InHand.{HasHands, cells-named, have-entries, moves-each, sight}
use Rattle.std.proofs.lemmas.Bool.{true_from_ne_false}

-- ---- what is recorded of its call

pub call-is : (row : Row) (made : StampedRecord) (done : RowDone) (waits : Bool) (m : Market) → made.seen.value ≡ done.seen.value → made.entry.value ≡ done.entry.value
    → IsRecorded (row_of row) waits m done
    → call_made (row, made) ≡ record { item = made_by waits (row_of row) done.seen.value m; stamp = made.stamp.number }
call-is row made done waits m seen_is entry_is recorded =
    let stamped : Call → Stamped Call = λ call. record { item = call; stamp = made.stamp.number } in
    ap (λ (seen : Seen). stamped (record { asked = asked_of (row_of row); seen = seen; entry = made.entry.value })) seen_is
    ∙ ap (λ (entry : Entry). stamped (record { asked = asked_of (row_of row); seen = done.seen.value; entry = entry })) entry_is
    ∙ ap stamped recorded.call

-- its market has it
pub has-call : (terms : Terms) (row : PlainRow) (waits : Bool) (done : RowDone) (stamp : ℕ) (before after : BankMarketState) (cells left : List CellState)
    → IsStepOn terms row waits done before.cell after.cell cells left → after ≡ market_more before after.cell stamp → IsBankMarket after
    → HasCall (record { item = made_by waits row done.seen.value (market_at before.cell); stamp = stamp }) before after
has-call terms row waits done stamp before after cells left step more kept = record {
  calls = step.did.calls;
  stamps = ap (λ (market : BankMarketState). market.stamps) more;
  start = step.did.start;
  script = ap (λ (market : BankMarketState). market.script) more;
  kept = kept;
}

pub is-told : (script : PlainScript) (row : PlainRow) (cells : List CellState) (seen : Seen) → HasHands script cells → seen ≡ seen_by row (world_with script cells)
    → Sees (asked_of row) seen → (waits : Bool) (m : Market) (stamp : ℕ) → IsTold script (record { item = made_by waits row seen m; stamp = stamp })
is-told script row cells seen hand seen_is sees waits m stamp =
    let s : Step = row_step (doing waits row) seen m in
    record {
      sees = subst (IsSight script) (sym seen_is) (sight script row cells hand);
      moves = moves-each row seen s.reply s.transfers stamp sees;
    }

-- ---- what it writes

-- where the item is a row, each cell in hand has its entry
pub row-entries : (script : PlainScript) (row : PlainRow) (seen : Seen) (waits : Bool) (m : Market) (stamp : ℕ) (cells after : List CellState)
    → AreInHand script (row_wallets row) [] cells → Sees (asked_of row) seen
    → HaveActed (doing waits row) seen (row_step (doing waits row) seen m).transfers cells after
    → AllZip (HasEntry (written_by (record { item = made_by waits row seen m; stamp = stamp }))) cells after
row-entries script row seen waits m stamp cells after hand sees moved =
    let s : Step = row_step (doing waits row) seen m in
    have-entries row seen s.reply s.transfers stamp sees cells after (cells-named script row cells hand) moved.states moved.kept moved.made

-- ---- whether it was held back, and whether it was refused

-- a row waits only where it is a take that would not be refused
pub record MayWait (waits : Bool) (row : PlainRow) (seen : Seen) (m : Market) : Type 0 where
  pub take : waits ≡ true → is_take (asked_of row).request.instruction ≡ true
  pub spared : waits ≡ true → is_some (why (request_of row) seen m) ≡ false

pub held-is : (waits : Bool) (row : PlainRow) (seen : Seen) (m : Market) → MayWait waits row seen m → is_held (made_by waits row seen m) ≡ waits
held-is true row seen m may =
    ap (λ (b : Bool). b && is_done (row_step (doing true row) seen m).reply) (may.take refl) ∙ ap (λ (s : Step). is_done s.reply) (idle-step row seen m)
held-is false row seen m may = own-not_held (made_by false row seen m) m refl

pub refused-is : (waits : Bool) (row : PlainRow) (seen : Seen) (m : Market) → MayWait waits row seen m
    → is_refused (made_by waits row seen m) ≡ is_some (why (request_of row) seen m)
refused-is true row seen m may = ap (λ (s : Step). is_refusal s.reply) (idle-step row seen m) ∙ sym (may.spared refl)
refused-is false row seen m may = step-refused (request_of row) seen m

-- a leg waits where it is a take that would not be refused
pub take-of : (it : Result Ix BadData) (request : Request) (seen : Seen) (m : Market) → is_take_or_bad it ≡ true → is_some (why_decoded it request seen m) ≡ false → is_take it ≡ true
take-of (Err bad) request seen m good spared = absurd (false≢true (sym spared))
take-of (Ok ix) request seen m good spared = good

pub leg-waits : (row : PlainRow) → IsLeg row → (seen : Seen) (m : Market) (waits other refused : Bool) → waits ≡ (other && not refused)
    → refused ≡ is_some (why (request_of row) seen m) → MayWait waits row seen m
leg-waits row leg seen m waits other refused is told = record {
  take = λ on. take-of (decoded row.bytes) (request_of row) seen m leg.take (spared on);
  spared = spared;
}
  where
    spared : waits ≡ true → is_some (why (request_of row) seen m) ≡ false
    spared on = sym told ∙ not-refused other refused (sym is ∙ on)

-- a leg is a take, or is refused
pub take-or-refused : (script : PlainScript) (row : PlainRow) → IsLeg row → (market : MarketCellState) (cells : List CellState)
    → IsTakeOrRefused (terms_of script) row market cells
take-or-refused script row leg market cells isnt =
    let seen : Seen = seen_by row (world_with script cells) in
    true_from_ne_false (is_some (why (request_of row) seen (market_at market))) (λ none.
    false≢true (sym isnt ∙ take-of (decoded row.bytes) (request_of row) seen (market_at market) leg.take none))

-- two calls of which each waits where the other is refused and it is not
pub all-or-none : (one two : Stamped Call) (waits next refused other : Bool) → is_held one.item ≡ waits → is_held two.item ≡ next → is_refused one.item ≡ refused
    → is_refused two.item ≡ other → waits ≡ (other && not refused) → next ≡ (refused && not other) → AreAllOrNone (record { first = one; others = two ∷ [] })
all-or-none one two waits next refused other one_held two_held one_refused two_refused first second =
    All-cons (IsAsOthers (one ∷ two ∷ [])) one (two ∷ []) (grind arith) (All-cons (IsAsOthers (one ∷ two ∷ [])) two [] (grind arith) (All-nil (IsAsOthers (one ∷ two ∷ []))))
