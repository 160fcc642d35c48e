-- What a row does where it acts, and where it is held back: a call that stands in its market's history.
use Rattle.std.proofs.Common.{◌≡◌, ℕ, ◌&&◌, Bool, true, List, None, refl, sym, ap, ◌∙◌}
use Rattle.dex_world.proofs.Common.{Call, Market, PlainRow, Seen, Sees, Stands, Step, asked_of, decoded, done, entry_by, idle-step, is_done, is_held, is_take, nothing_to_do, request_of, row_step, step_of, why}
use Rattle.dex_history.specs.Journal as history
use Rattle.dex_history.proofs.HeldLaws.{held-stands, held-step, own-stands, own-step}
use Rattle.dex_history.proofs.PriceLaws.{decoded-priced}

-- a row with other bytes: what it asks, or nothing
abbrev pub doing : PlainRow → List ℕ → PlainRow
doing row bytes = record row { bytes = bytes }

-- the call of a row that does this
abbrev pub made : PlainRow → List ℕ → Seen → Market → Call
made row bytes seen m =
    let s = row_step (doing row bytes) seen m in
    record { asked = asked_of row; seen = seen; entry = entry_by row seen s.reply s.transfers }

-- it stands there, and its step is that of what it does
pub record Does (row : PlainRow) (bytes : List ℕ) (seen : Seen) (m : Market) : Type 0 where
  pub stands : row.market ≡ m.listing.address → Sees (asked_of row) seen → Stands (made row bytes seen m) m
  pub step : (n : Market) → step_of (made row bytes seen m) n ≡ row_step (doing row bytes) seen n

pub does-own : (row : PlainRow) (seen : Seen) (m : Market) → Does row row.bytes seen m
does-own row seen m =
    let call : Call = made row row.bytes seen m in
    record {
      stands = λ own sees. own-stands call m own (decoded-priced row.bytes) sees refl;
      step = λ n. own-step call m n refl;
    }

pub does-nothing : (row : PlainRow) (seen : Seen) (m : Market) → is_take (decoded row.bytes) ≡ true → why (request_of row) seen m ≡ None
    → Does row nothing_to_do seen m
does-nothing row seen m take spared =
    let call : Call = made row nothing_to_do seen m in
    let is : call.entry ≡ history.entry_by call (done m) = ap (history.entry_by call) (idle-step row seen m) in
    let held : is_held call ≡ true = ap (λ (b : Bool). b && is_done call.entry.reply) take ∙ ap (λ (s : Step). is_done s.reply) (idle-step row seen m) in
    record {
      stands = λ own sees. held-stands call m own (decoded-priced row.bytes) sees take spared is;
      step = λ n. held-step call n held ∙ sym (idle-step row seen n);
    }
