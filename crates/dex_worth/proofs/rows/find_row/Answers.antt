use Rattle.std.proofs.Common.{rules, ◌≡◌, ◌<◌, map, length, get_or, Some, sym, ap, ◌∙◌, arith}
use Rattle.std.proofs.lemmas.List.{get_or-map, get_or_default, length-map}
use Rattle.std.proofs.lemmas.List.Sorted.{IsPartitionPoint-from_clause}
use Rattle.dex_types.specs.declared.rows.Row.{Row}
use Rattle.dex_types.specs.Rows.{PlainRow, row_of}
use Rattle.dex_replay.specs.EntryCalls.{is_row_on}
use Rattle.dex_worth.proofs.Lists.{first-here, first-later}
use Rattle.dex_worth.proofs.Rising.{found-behind, is_before, parted-rising}
use Rattle.dex_worth.proofs.rows.find_row.Goals as goal

pub loop-place-init : goal.loop-place-init
loop-place-init c =
    let number = c.args.number in
    let parts =
    IsPartitionPoint-from_clause (is_before number) c.args.rows.now c.partition_point-before.result c.partition_point-before.ensures.partitioned
    (parted-rising c.args.rows.now number c.requires) (λ a r q k. search rules) in
    found-behind c.args.market number c.args.rows.now c.partition_point-before.result (λ k d low high. parts.0 k d (omega arith) low)

pub returns-then-is_on : goal.returns-then-is_on
returns-then-is_on c =
    let r : Row = c.index-rows-place.result in
    let rows = map row_of c.args.rows.now in
    let lt : c.loop-place.place < length c.args.rows.now = c.loop-place-test.true in
    let at : get_or rows c.loop-place.place (row_of r) ≡ row_of r =
    get_or-map row_of c.args.rows.now c.loop-place.place r (row_of r) lt ∙ ap row_of (sym c.index-rows-place.is) in
    let passes = ap (is_row_on c.args.market c.args.number) at ∙ sym c.is_on.ensures ∙ c.if-is_on.true in (
      lt,
      λ d.
          c.loop-place.invariant
          ∙ first-here (is_row_on c.args.market c.args.number) (λ (row : PlainRow). row) rows c.loop-place.place (row_of r) (omega (arith, lt, length-map c.args.rows.now row_of)) passes
          ∙ ap (λ (row : PlainRow). Some row) (at ∙ ap row_of (c.index-rows-place.is ∙ get_or_default c.args.rows.now c.loop-place.place r d lt)),
    )

pub loop-place-preserved : goal.loop-place-preserved
loop-place-preserved c =
    let r : Row = c.index-rows-place.result in
    let rows = map row_of c.args.rows.now in
    let lt : c.loop-place.place < length c.args.rows.now = c.loop-place-test.true in
    let at : get_or rows c.loop-place.place (row_of r) ≡ row_of r =
    get_or-map row_of c.args.rows.now c.loop-place.place r (row_of r) lt ∙ ap row_of (sym c.index-rows-place.is) in
    let fails = ap (is_row_on c.args.market c.args.number) at ∙ sym c.is_on.ensures ∙ c.if-is_on.false in
    c.loop-place.invariant
    ∙ first-later (is_row_on c.args.market c.args.number) (λ (row : PlainRow). row) rows c.loop-place.place (row_of r) (omega (arith, lt, length-map c.args.rows.now row_of)) fails
