-- What two legs are answered.
use Rattle.std.proofs.Common.{◌≡◌, ◌&&◌, not, Bool, true, false, Option, Some, None, Result, Ok, is_some, refl, sym, ap, ◌∙◌, ⊎_elim, arith}
use Rattle.dex_world.proofs.Common.{Market, PlainRow, Refusal, Reply, Seen, Step, asked_of, cases_Bool, decoded, false≢true, idle-step, is_done, is_refusal, is_take, request_of, row_step, why}
use Rattle.dex_types.specs.declared.instructions.BadData.{BadData}
use Rattle.dex_types.specs.declared.instructions.Ix.{Ix}
use Rattle.dex_types.specs.declared.instructions.Ix.TheVariants.{SendTake}
use Rattle.dex_types.specs.Requests.{Request}
use Rattle.dex_types.specs.Steps.{act_decoded, unless_refused}
use Rattle.dex_history.specs.Journal.{is_took}
use Rattle.dex_history.proofs.HeldLaws.{take-tells}
use Rattle.dex_script_types.specs.Facts.{IsLeg}
use Rattle.dex_turns.specs.Submitted.{AreLegReplies}
use Rattle.dex_act.specs.Steps.{made_by}
use Rattle.dex_turns.proofs.Acted.{MayWait, take-of}

-- ---- one leg

-- a take that is not refused took
took-by : (it : Result Ix BadData) (request : Request) (seen : Seen) (m : Market) (refusal : Option Refusal) → is_take it ≡ true
    → is_took (unless_refused refusal m (act_decoded it request seen m)).reply ≡ not (is_some refusal)
took-by (Ok (SendTake side price lots max_pc min_lots min_pc limit)) request seen m None take = refl
took-by (Ok (SendTake side price lots max_pc min_lots min_pc limit)) request seen m (Some refusal) take = refl
took-by it request seen m refusal take = absurd (false≢true take)

-- and what is refused does not, nor is it done
refused-reply : (refusal : Option Refusal) (m : Market) (acted : Step) → is_some refusal ≡ true
    → (is_took (unless_refused refusal m acted).reply ≡ false) × (is_done (unless_refused refusal m acted).reply ≡ false)
refused-reply None m acted some = absurd (false≢true some)
refused-reply (Some refusal) m acted some = (refl, refl)

module _ (row : PlainRow) (leg : IsLeg row) (seen : Seen) (m : Market) where
  abbrev refused : Bool
  refused = is_some (why (request_of row) seen m)

  own-took : is_took (row_step row seen m).reply ≡ not refused
  own-took =
      ⊎_elim
      (λ (some : refused ≡ true).
      (refused-reply (why (request_of row) seen m) m (act_decoded (decoded row.bytes) (request_of row) seen m) some).0 ∙ sym (ap not some))
      (λ (none : refused ≡ false).
      took-by (decoded row.bytes) (request_of row) seen m (why (request_of row) seen m) (take-of (decoded row.bytes) (request_of row) seen m leg.take none))
      (cases_Bool refused)

  own-done : is_done (row_step row seen m).reply ≡ false
  own-done =
      ⊎_elim
      (λ (some : refused ≡ true). (refused-reply (why (request_of row) seen m) m (act_decoded (decoded row.bytes) (request_of row) seen m) some).1)
      (λ (none : refused ≡ false). take-tells (asked_of row) seen m (take-of (decoded row.bytes) (request_of row) seen m leg.take none)) (cases_Bool refused)

  pub took-is : (waits : Bool) → MayWait waits row seen m → is_took (made_by waits row seen m).entry.reply ≡ (not refused && not waits)
  took-is true may = ap (λ (s : Step). is_took s.reply) (idle-step row seen m) ∙ sym (ap (λ (b : Bool). not b && false) (may.spared refl))
  took-is false may = own-took ∙ grind arith

  pub done-is : (waits : Bool) → MayWait waits row seen m → is_done (made_by waits row seen m).entry.reply ≡ waits
  done-is true may = ap (λ (s : Step). is_done s.reply) (idle-step row seen m)
  done-is false may = own-done

-- ---- both

-- two legs of which each waits where the other is refused and it is not
pub leg-replies : (one other : Reply) (waits next refused also : Bool) → is_took one ≡ (not refused && not waits) → is_took other ≡ (not also && not next)
    → is_refusal one ≡ refused → is_refusal other ≡ also → is_done one ≡ waits → is_done other ≡ next → waits ≡ (also && not refused) → next ≡ (refused && not also)
    → AreLegReplies one other
leg-replies one other waits next refused also took other_took is_refused other_refused is_waiting other_waits first second = record {
  both = grind arith;
  refused = λ is. grind arith;
  done = λ is. grind arith;
  other_done = λ is. grind arith;
  told = grind arith;
  other_told = grind arith;
}
