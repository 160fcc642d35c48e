-- Items that act one after the other leave a run of their rows, of which those of one item all acted, or none did.
use Rattle.std.proofs.Common.{◌≡◌, ℕ, ◌&&◌, ◌||◌, not, Bool, true, false, cond, List, [], ◌∷◌, ◌++◌, get_or, map, Option, Some, None, Result, Ok, Err, is_some, refl, sym, ap, ◌∙◌, subst}
use Rattle.dex_world.proofs.Common.{All-cons, All-head, All-nil, All-tail, All-weaker, BadData, Contains, Contains-append_left, EachApart, EachTwo, Ix, Market, PlainRow, Refusal, Seen, ShareNothing, Step, World, act, act_item, chosen, decoded, false≢true, flat_map, fold, fold_items, idle-step, idle_row, is_done, is_refusal, is_take, list_any, map-id, members, nothing_to_do, request_of, row_step, seen_by, step-refused, why, why-far, why_in, why_on}
use Rattle.dex_replay.proofs.Common.{All, AreLegs, IsLeg, IsRowOf, IsStart, Item, PlainScript, held_in}
use Rattle.std.proofs.lemmas.List.{append-nil, append_assoc, map-append}
use Rattle.std.proofs.lemmas.List.Elements.{All-contains_itself, Contains-append_right}
use Rattle.dex_types.specs.Requests.{Request}
use Rattle.dex_types.specs.Why.{why_decoded}
use Rattle.dex_history.specs.Journal.{is_take_or_bad}
use Rattle.dex_history.proofs.HeldLaws.{own-not_held}
use Rattle.dex_replay.proofs.MappedLists.{list_any-agree, list_any-map, map-agree}
use Rattle.dex_replay.proofs.Orders.{IsItemIn, legs-apart}
use Rattle.dex_replay.proofs.Doing.{Does, does-nothing, does-own, doing, made}
use Rattle.dex_replay.proofs.RunSteps.{act-run, found-market}
use Rattle.dex_replay.proofs.Runs.{IsRun, RowReply}

abbrev pub row_told : RowReply → PlainRow
row_told told = told.row

-- ---- what a row does in its item

-- a row does what it asks; but where one of its item is refused and it is not, it does nothing
abbrev bytes_by : Bool → Bool → PlainRow → List ℕ
bytes_by any refused row = cond any (cond refused row.bytes nothing_to_do) row.bytes

-- what a row of an item did: it is a call of its market, it was refused or not as it would be, and held back or not
record Settles (row : PlainRow) (bytes : List ℕ) (seen : Seen) (m : Market) (any refused : Bool) : Type 0 where
  does : Does row bytes seen m
  refused_is : is_refusal (row_step (doing row bytes) seen m).reply ≡ refused
  held : (is_take (decoded row.bytes) && is_done (row_step (doing row bytes) seen m).reply) ≡ (any && not refused)

module _ (row : PlainRow) (seen : Seen) (m : Market) where
  -- a take that acts tells what it took, or why it is refused
  own-told : (is_take (decoded row.bytes) && is_done (row_step row seen m).reply) ≡ false
  own-told = own-not_held (made row row.bytes seen m) m refl

  none : (reason : Option Refusal) → is_some reason ≡ false → reason ≡ None
  none None is = refl
  none (Some refusal) is = absurd (false≢true (sym is))

  settles : (any refused : Bool) → is_some (why (request_of row) seen m) ≡ refused → (any ≡ true → refused ≡ false → is_take (decoded row.bytes) ≡ true)
      → Settles row (bytes_by any refused row) seen m any refused
  settles false refused is can = record { does = does-own row seen m; refused_is = step-refused (request_of row) seen m ∙ is; held = own-told }
  settles true true is can = record { does = does-own row seen m; refused_is = step-refused (request_of row) seen m ∙ is; held = own-told }
  settles true false is can =
      let take : is_take (decoded row.bytes) ≡ true = can refl refl in
      record {
        does = does-nothing row seen m take (none (why (request_of row) seen m) is);
        refused_is = ap (λ (s : Step). is_refusal s.reply) (idle-step row seen m);
        held = ap (λ (b : Bool). b && is_done (row_step (idle_row row) seen m).reply) take ∙ ap (λ (s : Step). is_done s.reply) (idle-step row seen m);
      }

-- ---- the rows of an item

-- in a world, a row that is told of was refused as it would be, and held back where another of its item is refused and
-- it is not
record IsReplied (before : World) (any : Bool) (told : RowReply) : Type 0 where
  refused : is_refusal told.reply ≡ is_some (why_in before told.row)
  held : (is_take (decoded told.row.bytes) && is_done told.reply) ≡ (any && not (is_some (why_in before told.row)))

-- one that another's refusal holds back is a take
abbrev CanWait : World → Bool → PlainRow → Type 0
CanWait before any row = any ≡ true → is_some (why_in before row) ≡ false → is_take (decoded row.bytes) ≡ true

-- what a row does
abbrev done_in : World → Bool → PlainRow → PlainRow
done_in before any row = doing row (bytes_by any (is_some (why_in before row)) row)

record HaveRun (script : PlainScript) (before : World) (any : Bool) (rows : List PlainRow) (done : List RowReply) (world : World) : Type 0 where
  told : List RowReply
  are : map row_told told ≡ rows
  replied : All (IsReplied before any) told
  run : IsRun script (done ++ told) (fold (map (done_in before any) rows) world)

module _ (script : PlainScript) (start : IsStart script.limits script.start) (before : World) (any : Bool) where
  -- a row that is looked at in the world before the item is refused there as now
  abbrev IsStill : World → PlainRow → Type 0
  IsStill world row = why_in world row ≡ why_in before row

  rows-run : (rows : List PlainRow) (done : List RowReply) (world : World) → IsRun script done world → EachApart rows → All (IsRowOf script.start) rows
      → All (IsStill world) rows → All (CanWait before any) rows → HaveRun script before any rows done world
  rows-run [] done world run apart fits still can = record {
    told = [];
    are = refl;
    replied = All-nil (IsReplied before any);
    run = subst (λ (all : List RowReply). IsRun script all world) (sym (append-nil done)) run;
  }
  rows-run (row ∷ rows) done world run apart fits still can =
      let seen : Seen = seen_by row world in
      let refused : Bool = is_some (why_in before row) in
      let bytes : List ℕ = bytes_by any refused row in
      let fit : IsRowOf script.start row = All-head (IsRowOf script.start) row rows fits in
      let at = found-market script start done world run row fit in
      let m : Market = at.0 in
      let why_now : is_some (why (request_of row) seen m) ≡ refused =
      ap is_some (sym (ap (why_on row seen) at.1) ∙ All-head (IsStill world) row rows still) in
      let settled : Settles row bytes seen m any refused = settles row seen m any refused why_now (All-head (CanWait before any) row rows can) in
      let new : RowReply = record { row = row; reply = (row_step (doing row bytes) seen m).reply } in
      let next : World = act (doing row bytes) world in
      let later : HaveRun script before any rows (done ++ new ∷ []) next =
      rows-run rows (done ++ new ∷ []) next (act-run script start done world run row fit bytes m at.1 at.2 settled.does) apart.1
      (All-tail (IsRowOf script.start) row rows fits)
      (λ k d within.
      let other : PlainRow = get_or rows k d in
      let share : ShareNothing row other = apart.0 k d within in
      why-far (doing row bytes) other (record { markets = share.markets; wallets = share.wallets }) world ∙ All-tail (IsStill world) row rows still k d within)
      (All-tail (CanWait before any) row rows can) in
      record {
        told = new ∷ later.told;
        are = ap (λ (all : List PlainRow). row ∷ all) later.are;
        replied = All-cons (IsReplied before any) new later.told (record { refused = settled.refused_is; held = settled.held }) later.replied;
        run = subst (λ (all : List RowReply). IsRun script all (fold (map (done_in before any) rows) next)) (append_assoc done (new ∷ []) later.told) later.run;
      }

-- ---- an item

abbrev is_refused_in : World → PlainRow → Bool
is_refused_in world row = is_some (why_in world row)

-- the rows of an item do what is chosen for them
chosen-done : (world : World) (rows : List PlainRow) → map (done_in world (list_any (is_refused_in world) rows)) rows ≡ chosen world rows
chosen-done world rows = either (list_any (is_refused_in world) rows)
  where
    one : (refused : Bool) (row : PlainRow) → doing row (bytes_by true refused row) ≡ cond refused row (idle_row row)
    one true row = refl
    one false row = refl

    either : (any : Bool) → map (done_in world any) rows ≡ cond any (map (held_in world) rows) rows
    either true = map-agree (done_in world true) (held_in world) rows (λ k d within. one (is_refused_in world (get_or rows k d)) (get_or rows k d))
    either false = map-id rows

-- rows that are told of: a row of an item was held back just where it was not refused and another was
abbrev pub is_refused_told : RowReply → Bool
is_refused_told told = is_refusal told.reply

abbrev pub IsHeldRight : List RowReply → RowReply → Type 0
IsHeldRight all told = (is_take (decoded told.row.bytes) && is_done told.reply) ≡ (list_any is_refused_told all && not (is_refused_told told))

-- the rows of an item, among all that are told of
pub record IsSettled (all : List RowReply) (item : Item) : Type 0 where
  pub told : List RowReply
  pub rows : map row_told told ≡ members item
  pub inside : All (Contains all) told
  pub held : All (IsHeldRight told) told

-- so they are among more
settled-among : (some all : List RowReply) → ((told : RowReply) → Contains some told → Contains all told) → (item : Item) → IsSettled some item → IsSettled all item
settled-among some all more item is =
    record { told = is.told; rows = is.rows; inside = All-weaker (Contains some) (Contains all) more is.told is.inside; held = is.held }

module _ (script : PlainScript) (start : IsStart script.limits script.start) (done : List RowReply) (world : World) (run : IsRun script done world) where
  -- of more rows than one each is a leg, and so a take, unless it is refused
  pub take-or-refused : (row : PlainRow) → IsRowOf script.start row → IsLeg row → is_some (why_in world row) ≡ false → is_take (decoded row.bytes) ≡ true
  take-or-refused row fits leg spared =
      let at = found-market script start done world run row fits in
      told (decoded row.bytes) (request_of row) (seen_by row world) at.0 leg.take (ap is_some (sym (ap (why_on row (seen_by row world)) at.1)) ∙ spared)
    where
      told : (it : Result Ix BadData) (request : Request) (seen : Seen) (m : Market) → is_take_or_bad it ≡ true → is_some (why_decoded it request seen m) ≡ false → is_take it ≡ true
      told (Err bad) request seen m good spared = absurd (false≢true (sym spared))
      told (Ok ix) request seen m good spared = good

  can-wait : (rows : List PlainRow) → All (IsRowOf script.start) rows → EachTwo AreLegs rows → All (CanWait world (list_any (is_refused_in world) rows)) rows
  can-wait [] fits legs = All-nil (CanWait world false)
  can-wait (row ∷ []) fits legs =
      All-cons (CanWait world (is_refused_in world row || false)) row []
      (λ any spared. absurd (false≢true (sym (ap (λ (b : Bool). b || false) spared) ∙ any))) (All-nil (CanWait world (is_refused_in world row || false)))
  can-wait (row ∷ other ∷ rows) fits legs =
      let Can : PlainRow → Type 0 = CanWait world (list_any (is_refused_in world) (row ∷ other ∷ rows)) in
      All-cons Can row (other ∷ rows)
      (λ any spared. take-or-refused row (All-head (IsRowOf script.start) row (other ∷ rows) fits) (All-head (AreLegs row) other rows legs.0).first spared)
      (λ k d within any spared.
      take-or-refused (get_or (other ∷ rows) k d) (All-tail (IsRowOf script.start) row (other ∷ rows) fits k d within) (legs.0 k d within).second spared)

  record ItemHasRun (item : Item) : Type 0 where
    told : List RowReply
    rows : map row_told told ≡ members item
    held : All (IsHeldRight told) told
    after : IsRun script (done ++ told) (act_item item world)

  item-run : (lane : ℕ) (item : Item) → IsItemIn script lane item → ItemHasRun item
  item-run lane item is =
      let any : Bool = list_any (is_refused_in world) (members item) in
      let have : HaveRun script world any (members item) done world =
      rows-run script start world any (members item) done world run (legs-apart (members item) is.legs) is.fits (λ k d within. refl) (can-wait (members item) is.fits is.legs) in
      let same : list_any is_refused_told have.told ≡ any =
      list_any-agree is_refused_told (λ (told : RowReply). is_refused_in world told.row) have.told
      (All-weaker (IsReplied world any) (λ (told : RowReply). is_refused_told told ≡ is_refused_in world told.row) (λ told replied. replied.refused) have.told have.replied)
      ∙ sym (list_any-map (is_refused_in world) row_told have.told)
      ∙ ap (list_any (is_refused_in world)) have.are in
      record {
        told = have.told;
        rows = have.are;
        held = All-weaker (IsReplied world any) (IsHeldRight have.told)
            (λ told replied.
            replied.held ∙ ap (λ (b : Bool). b && not (is_refused_in world told.row)) (sym same)
            ∙ ap (λ (b : Bool). list_any is_refused_told have.told && not b) (sym replied.refused)) have.told have.replied;
        after = subst (λ (rows : List PlainRow). IsRun script (done ++ have.told) (fold rows world)) (chosen-done world (members item)) have.run;
      }

-- ---- all items

pub record HaveAllRun (script : PlainScript) (items : List Item) (done : List RowReply) (world : World) : Type 0 where
  pub told : List RowReply
  pub rows : map row_told told ≡ flat_map members items
  pub settled : All (IsSettled told) items
  pub run : IsRun script (done ++ told) (fold_items items world)

pub items-run : (script : PlainScript) → IsStart script.limits script.start → (items : List Item) (done : List RowReply) (world : World)
    → All (λ (item : Item). IsItemIn script item.first.lane item) items → IsRun script done world → HaveAllRun script items done world
items-run script start [] done world are run = record {
  told = [];
  rows = refl;
  settled = All-nil (IsSettled []);
  run = subst (λ (all : List RowReply). IsRun script all world) (sym (append-nil done)) run;
}
items-run script start (item ∷ items) done world are run =
    let Is : Item → Type 0 = λ (one : Item). IsItemIn script one.first.lane one in
    let first : ItemHasRun script start done world run item = item-run script start done world run item.first.lane item (All-head Is item items are) in
    let later : HaveAllRun script items (done ++ first.told) (act_item item world) =
    items-run script start items (done ++ first.told) (act_item item world) (All-tail Is item items are) first.after in
    let all : List RowReply = first.told ++ later.told in
    record {
      told = all;
      rows = map-append row_told first.told later.told
          ∙ ap (λ (some : List PlainRow). some ++ map row_told later.told) first.rows ∙ ap (λ (some : List PlainRow). members item ++ some) later.rows;
      settled = All-cons (IsSettled all) item items
          (settled-among first.told all (Contains-append_left first.told later.told) item
          (record { told = first.told; rows = first.rows; inside = All-contains_itself first.told; held = first.held }))
          (All-weaker (IsSettled later.told) (IsSettled all) (settled-among later.told all (Contains-append_right first.told later.told)) items later.settled);
      run = subst (λ (some : List RowReply). IsRun script some (fold_items items (act_item item world))) (append_assoc done first.told later.told) later.run;
    }
