use Rattle.std.proofs.Common.{ℕ, ◌≡◌, ◌<◌, List, [], ◌∷◌, ◌++◌, append_assoc, get_or, length, map, take, sym, ap, ◌∙◌, arith}
use Rattle.std.proofs.lemmas.List.{get_or-map, length-map, map_more, map_push, take_all}
use Rattle.dex_types.specs.declared.addresses.Address.{Address}
use Rattle.dex_replay.specs.WorthTold.{PlainWorthRow}
use Rattle.dex_worth.specs.declared.amounts.TokenAmounts.{TokenAmounts}
use Rattle.dex_worth.specs.declared.entries.Moved.{Moved}
use Rattle.dex_worth.specs.declared.table.WorthRow.{WorthRow}
use Rattle.dex_worth.specs.Amounts.{capped_amounts, none}
use Rattle.dex_worth.specs.Entries.{all_in, all_out, moved_told}
use Rattle.dex_worth.specs.Rows.{plain_row, row_by}
use Rattle.dex_worth.proofs.table.add_rows.Goals as goal

pub loop-place-preserved : goal.loop-place-preserved
loop-place-preserved c = λ amounts owners calls held moved.
    let a : Address = record { 0 = [] } in
    let place : ℕ = c.loop-place.place in
    let owner : Address = get_or owners place a in
    let lt : place < length owners = omega (arith, c.loop-place-test.true, ap (λ (all : List Moved). length all) moved, length-map owners (moved_told calls)) in
    let before : List PlainWorthRow = map plain_row c.args.table.now.items in
    let shown : Address → PlainWorthRow = row_by c.args.market amounts (all_in calls) (all_out calls) in
    let nobody : Moved = record { owner = a; deposited = none; settled = none } in
    let here : get_or c.args.accounts.now place nobody ≡ moved_told calls owner =
    ap (λ (all : List Moved). get_or all place nobody) moved ∙ get_or-map (moved_told calls) owners place a nobody lt in
    let held_here : get_or c.args.held.now place none ≡ capped_amounts (amounts owner) =
    ap (λ (all : List TokenAmounts). get_or all place none) held ∙ get_or-map (λ (of : Address). capped_amounts (amounts of)) owners place a none lt in
    let worth = c.in_ok-worth.ensures (amounts owner) (all_in calls owner) (all_out calls owner) held_here
    (ap (λ (one : Moved). one.deposited) here) (ap (λ (one : Moved). one.settled) here) in
    let row : WorthRow = record { market = c.args.market; account = (get_or c.args.accounts.now place nobody).owner; worth = c.in_ok-worth.worth } in
    ap (map plain_row) c.in_ok-push.ensures.items
    ∙ map_push plain_row c.loop-place.table.items row
    ∙ ap (λ (rows : List PlainWorthRow). rows ++ plain_row row ∷ []) (c.loop-place.invariant amounts owners calls held moved)
    ∙ append_assoc before (map shown (take place owners)) (plain_row row ∷ [])
    ∙ (λ i. before ++ (map shown (take place owners) ++ record { market = c.args.market; account = ap (λ (one : Moved). one.owner) here i; worth = worth i } ∷ []))
    ∙ ap (λ (rows : List PlainWorthRow). before ++ rows) (sym (map_more shown owners place a lt))

pub returns : goal.returns
returns c = λ amounts owners calls held moved.
    c.loop-place.invariant amounts owners calls held moved
    ∙ ap (λ (some : List Address). map plain_row c.args.table.now.items ++ map (row_by c.args.market amounts (all_in calls) (all_out calls)) some)
    (take_all c.loop-place.place owners (omega (arith, c.loop-place-test.false, ap (λ (all : List Moved). length all) moved, length-map owners (moved_told calls))))
