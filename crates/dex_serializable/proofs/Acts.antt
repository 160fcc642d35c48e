-- What a call did: its row as it acted, which has nothing to do where the call was held back.
use Rattle.std.proofs.Common.{◌≡◌, Bool, true, false, cond, Result, refl, sym, ap, ◌∙◌, subst}
use Rattle.dex_world.proofs.Common.{Asked, BadData, Call, Ix, Market, PlainRow, Sees, Stands, Step, World, acted_of, asked_of, cond_both, entry_by, idle_row, is_held, row_step, seen_by, step_of}
use Rattle.dex_history.specs.Journal as history
use Rattle.dex_history.specs.Journal.{asked_step, idle}
use Rattle.dex_history.proofs.HeldLaws.{acted-market, acted-sees}
use Rattle.dex_world.proofs.ItemLaws.{nothing-decodes}

-- a row as it acted: with nothing to do where its call was held back
abbrev pub acted_row : PlainRow → Call → PlainRow
acted_row row call = cond (is_held call) (idle_row row) row

idle-asked : (row : PlainRow) → asked_of (idle_row row) ≡ idle (asked_of row)
idle-asked row = ap (λ (it : Result Ix BadData). record (asked_of row) { request = record (asked_of row).request { instruction = it } }) nothing-decodes

acted-asked : (row : PlainRow) (call : Call) → call.asked ≡ asked_of row → acted_of call ≡ asked_of (acted_row row call)
acted-asked row call asks = either (is_held call)
  where
    either : (b : Bool) → cond b (idle call.asked) call.asked ≡ asked_of (cond b (idle_row row) row)
    either true = ap idle asks ∙ sym (idle-asked row)
    either false = asks

-- it is on the row's market, and sees what the row sees
pub acted_row-market : (row : PlainRow) (call : Call) → (acted_row row call).market ≡ row.market
acted_row-market row call = cond_both (is_held call) (idle_row row) row (λ (one : PlainRow). one.market ≡ row.market) (λ held. refl) (λ own. refl)

pub acted_row-sees : (row : PlainRow) (call : Call) (world : World) → seen_by (acted_row row call) world ≡ seen_by row world
acted_row-sees row call world =
    cond_both (is_held call) (idle_row row) row (λ (one : PlainRow). seen_by one world ≡ seen_by row world) (λ held. refl) (λ own. refl)

-- ---- a row did what a call tells, on this market

pub record Acts (row : PlainRow) (call : Call) (m : Market) : Type 0 where
  pub market : call.asked.market ≡ row.market
  pub sees : Sees (asked_of row) call.seen
  pub step : (n : Market) → step_of call n ≡ row_step row call.seen n
  pub entry : call.entry ≡ entry_by row call.seen (row_step row call.seen m).reply (row_step row call.seen m).transfers

-- an entry goes by lane, number and what moves alone, which are those of the row
acted-entry : (call : Call) (s : Step) → history.entry_by call s ≡ history.entry_by (record { asked = acted_of call; seen = call.seen; entry = call.entry }) s
acted-entry call s =
    cond_both (is_held call) (idle call.asked) call.asked
    (λ (asked : Asked). history.entry_by call s ≡ history.entry_by (record { asked = asked; seen = call.seen; entry = call.entry }) s) (λ held. refl) (λ own. refl)

-- where the call stands its row did, as it acted
pub stands-acts : (row : PlainRow) (call : Call) (m : Market) → call.asked ≡ asked_of row → Stands call m → Acts (acted_row row call) call m
stands-acts row call m asks stands =
    let own : acted_of call ≡ asked_of (acted_row row call) = acted-asked row call asks in
    record {
      market = sym (acted-market call) ∙ ap (λ (asked : Asked). asked.market) own;
      sees = subst (λ (asked : Asked). Sees asked call.seen) own (acted-sees call stands.sees);
      step = λ n. ap (λ (asked : Asked). asked_step asked call.seen n) own;
      entry = stands.entry ∙ acted-entry call (step_of call m)
          ∙ ap (λ (asked : Asked). history.entry_by (record { asked = asked; seen = call.seen; entry = call.entry }) (asked_step asked call.seen m)) own;
    }
