-- Rows that are read beside a script, as a script that starts with other accounts of the same markets and wallets.
use Rattle.std.proofs.Common.{◌≡◌, ◌∙◌, ◌+◌, ◌≤◌, ℕ, List, [], Ok, ap, arith, refl}
use Rattle.std.proofs.lemmas.List.Elements.{All-nil}
use Rattle.dex_types.specs.Accounts.{PlainAccounts}
use Rattle.dex_types.specs.Rows.{PlainRow}
use Rattle.dex_statement.specs.Words.{Fields}
use Rattle.dex_script_types.specs.Facts.{AreRows}
use Rattle.dex_script.specs.Drafts.{IsGood, PlainDraft}
use Rattle.dex_script.specs.Pieces.{HaveSamePlaces, IsReadyBehind, cleared, joined, part_of}
use Rattle.dex_script.specs.Scripts.{draft_after}
use Rattle.dex_script.proofs.OrderLaws.{AreFrom, first-good, goes-on, none-lower, same-rows}
use Rattle.dex_script.proofs.PieceLaws.{read-behind, stays-behind}

-- a script so far, without its rows, and with these accounts
abbrev emptied : PlainDraft → PlainAccounts → PlainDraft
emptied draft start = record draft { script = record draft.script { start = start; rows = []; lanes = 1 }; items = 0 }

-- what is read of these rows is read after this script too, and when it is taken out those behind may be read. By itself
-- it is a script that starts with these accounts, with no lower numbers
pub record IsPart (draft : PlainDraft) (number : ℕ) (rows : List Fields) (piece : PlainDraft) (start : PlainAccounts) : Type 0 where
  pub read : draft_after draft number rows ≡ Ok (joined draft piece)
  pub ready : IsReadyBehind (joined draft piece) (cleared piece)
  pub places : HaveSamePlaces piece.script.start start
  pub order : AreRows (part_of piece start)
  pub from : AreFrom number piece.script.rows

pub is-part : (draft none : PlainDraft) (number : ℕ) (rows : List Fields) (piece : PlainDraft) (start : PlainAccounts) → IsGood number draft
    → IsReadyBehind draft none → HaveSamePlaces draft.script.start start → draft_after none number rows ≡ Ok piece
    → draft.items + piece.items ≤ draft.script.limits.items → IsPart draft number rows piece start
is-part draft none number rows piece start good ready places is room =
    let alike = ready.alike in
    let under = alike.draft_underway in
    let own = emptied draft start in
    let own_ready : IsReadyBehind own none = record {
      alike = record {
        draft_underway = record { late = under.late; first = under.first };
        piece_underway = alike.piece_underway;
        batch = alike.batch;
        limits = alike.limits;
        places = record {
          markets = λ address. alike.places.markets address ∙ places.markets address;
          wallets = λ address. alike.places.wallets address ∙ places.wallets address;
        };
      };
      rows = ready.rows;
      lanes = ready.lanes;
      items = ready.items;
      clock = ready.clock;
      program = ready.program;
    } in
    let whole = read-behind draft none number rows piece ready is room in
    let by_itself = read-behind own none number rows piece own_ready is (omega (arith, room)) in
    let stays = stays-behind none number piece rows alike.piece_underway is in
    let goes = goes-on number own (joined own piece) rows (first-good number own refl refl refl good.small) by_itself.0 in record {
      read = whole.0;
      ready = record {
        alike = record {
          draft_underway = record { late = under.late; first = under.first };
          piece_underway = record { late = stays.under.late; first = stays.under.first };
          batch = whole.1.batch;
          limits = whole.1.limits;
          places = whole.1.places;
        };
        rows = refl;
        lanes = refl;
        items = refl;
        clock = refl;
        program = ap (λ (d : PlainDraft). d.script.program) (stays.same draft.clock) ∙ ready.program;
      };
      places = by_itself.1.places;
      order = same-rows (joined own piece).script (part_of piece start) refl refl refl by_itself.1.limits goes.good.rows;
      from = none-lower number own (joined own piece) rows good.small (All-nil (λ (row : PlainRow). number ≤ row.number)) by_itself.0;
    }
