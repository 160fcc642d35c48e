use Rattle.std.proofs.Common.{ℕ, ◌≡◌, ◌+◌, ◌<◌, ◌∙◌, ap, arith, get_or, length, set, subst, sym, length-set}
use Rattle.dex_run.proofs.LaneItems.{AreFound, found-all, found-alone, found-none, found-two}
use Rattle.dex_run.proofs.LaneRows.{begins-alone, begins-first, begins-two, beside-long, lane-beside, lane-within, nothing}
use Rattle.dex_run.proofs.index.places_by_lane.Goals as goal
use Rattle.dex_world.proofs.MappedLists.{item-at, item_at}

pub item-init : goal.item-init
item-init c = record {
  begins = begins-first c.requires.rows.0 c.args.rows.now c.requires.rows.2 c.requires.rows.1;
  count = c.in-Some.ensures.so_many;
  found = found-none c.args.rows.now c.in-Some.columns.items c.in-Some.ensures.empty;
}

pub index_mut-requires : goal.index_mut-requires
index_mut-requires c =
    let rows = c.args.rows.now in
    let within : c.item.place < length rows = omega (arith, c.item-test.true, c.len.ensures) in
    omega (
      arith,
      c.item.by_lane.ok.0,
      c.item.invariant.count,
      c.requires.rows.3,
      lane-beside rows c.args.places.now c.item.place within c.requires.beside,
      lane-within c.requires.rows.0 rows c.requires.rows.2 c.requires.rows.1 c.item.place (item_at rows c.item.place within) within (item-at rows c.item.place within),
    )

pub offset_bounds-places-place : goal.offset_bounds-places-place
offset_bounds-places-place c = omega (arith, c.item-test.true, c.len.ensures, beside-long c.args.rows.now c.args.places.now c.requires.beside)

pub bounds-places-place : goal.bounds-places-place
bounds-places-place c = omega (arith, c.item-test.true, c.len.ensures, beside-long c.args.rows.now c.args.places.now c.requires.beside)

pub is_swap-requires : goal.is_swap-requires
is_swap-requires c = omega (arith, c.item-test.true, c.len.ensures, beside-long c.args.rows.now c.args.places.now c.requires.beside)

pub overflow_add-place : goal.overflow_add-place
overflow_add-place c = omega (arith, c.item-test.true, c.len.ensures, beside-long c.args.rows.now c.args.places.now c.requires.beside)

pub item-preserved-then-is_swap : goal.item-preserved-then-is_swap
item-preserved-then-is_swap c =
    let rows = c.args.rows.now in
    let within : c.item.place < length rows = omega (arith, c.item-test.true, c.len.ensures) in
    let row = item_at rows c.item.place within in
    let at = item-at rows c.item.place within in
    let here : ℕ = (get_or c.args.places.now c.item.place nothing).lane in
    let same : here ≡ row.lane = lane-beside rows c.args.places.now c.item.place within c.requires.beside in
    let swap = c.is_swap.ensures.yes c.if-is_swap.true rows c.requires.beside in
    let lane = lane-within c.requires.rows.0 rows c.requires.rows.2 c.requires.rows.1 c.item.place row within at in
    record {
      begins = begins-two c.requires.rows.0 rows c.requires.rows.2 c.requires.rows.1 c.item.place c.item.invariant.begins swap;
      count = length-set c.item.by_lane.items here c.add.new.items ∙ c.item.invariant.count;
      found =
          subst (λ (n : ℕ). AreFound rows (c.item.place + 2) (set c.item.by_lane.items n c.add.new.items)) (sym same)
          (found-two rows c.item.place row within at c.item.invariant.begins c.item.by_lane.items c.index_mut.result.now c.add.new.items
          (omega (arith, lane, c.item.invariant.count, c.requires.rows.3))
          (c.index_mut.ensures.value ∙ ap (λ (n : ℕ). get_or c.item.by_lane.items n c.index_mut.result.now) same)
          c.in_ok-add.ensures c.item.invariant.found c.requires.rows.0 c.requires.rows.2 c.requires.rows.1 swap);
    }

pub item-preserved : goal.item-preserved
item-preserved c =
    let rows = c.args.rows.now in
    let within : c.item.place < length rows = omega (arith, c.item-test.true, c.len.ensures) in
    let row = item_at rows c.item.place within in
    let at = item-at rows c.item.place within in
    let here : ℕ = (get_or c.args.places.now c.item.place nothing).lane in
    let same : here ≡ row.lane = lane-beside rows c.args.places.now c.item.place within c.requires.beside in
    let alone = c.is_swap.ensures.no c.if-is_swap.false rows c.requires.beside in
    let lane = lane-within c.requires.rows.0 rows c.requires.rows.2 c.requires.rows.1 c.item.place row within at in
    record {
      begins = begins-alone c.requires.rows.0 rows c.requires.rows.2 c.requires.rows.1 c.item.place c.item.invariant.begins alone;
      count = length-set c.item.by_lane.items here c.add.new.items ∙ c.item.invariant.count;
      found =
          subst (λ (n : ℕ). AreFound rows (c.item.place + 1) (set c.item.by_lane.items n c.add.new.items)) (sym same)
          (found-alone rows c.item.place row within at c.item.invariant.begins c.item.by_lane.items c.index_mut.result.now c.add.new.items
          (omega (arith, lane, c.item.invariant.count, c.requires.rows.3))
          (c.index_mut.ensures.value ∙ ap (λ (n : ℕ). get_or c.item.by_lane.items n c.index_mut.result.now) same)
          c.in_ok-add.ensures c.item.invariant.found alone);
    }

pub returns-clause-count : goal.returns-clause-count
returns-clause-count c = c.item.invariant.count

pub returns-clause-index : goal.returns-clause-index
returns-clause-index c = found-all c.args.rows.now c.item.place c.item.by_lane.items (omega (arith, c.item-test.false, c.len.ensures)) c.item.invariant.found
