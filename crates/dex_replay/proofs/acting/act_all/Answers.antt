use Rattle.std.proofs.Common.{List, drop, map, sym, subst, ◌∙◌, arith}
use Rattle.dex_world.proofs.Common.{Row, length-map, row_of}
use Rattle.dex_world.specs.declared.places.RowPlaces.{RowPlaces}
use Rattle.dex_replay.specs.Acting.{AreLeft}
use Rattle.dex_replay.proofs.ActedTo.{all-acted, all-left, as-many, behind-item}
use Rattle.dex_replay.proofs.Starts.{opened-opened}
use Rattle.dex_replay.proofs.acting.act_all.Goals as goal

pub item-init : goal.item-init
item-init c = λ script is made same. all-left script (map row_of c.args.rows.now) c.args.places.now c.args.cells is made same c.requires.places

pub bounds-places-min : goal.bounds-places-min
bounds-places-min c =
    let script = c.requires.script in
    omega (arith, c.min.ensures, as-many (c.item.invariant script.0 script.1 script.2 script.3) c.in-Some.ensures.cases.0)

pub split_at-requires-in-Some : goal.split_at-requires-in-Some
split_at-requires-in-Some c =
    let script = c.requires.script in
    (behind-item (c.item.invariant script.0 script.1 script.2 script.3) c.in-Some.ensures.cases.0 _ _ script.1 c.first.ensures.value c.min.ensures c.act_item-count.ensures.acted).2

pub item-smaller : goal.item-smaller
item-smaller c =
    let script = c.requires.script in
    let behind = behind-item (c.item.invariant script.0 script.1 script.2 script.3) c.in-Some.ensures.cases.0 _ _ script.1 c.first.ensures.value c.min.ensures c.act_item-count.ensures.acted in
    omega (arith, behind.0, behind.1, c.split_at.ensures.back_len)

pub item-preserved : goal.item-preserved
item-preserved c = λ script is made same.
    let behind = behind-item (c.item.invariant script is made same) c.in-Some.ensures.cases.0 _ _ is c.first.ensures.value c.min.ensures c.act_item-count.ensures.acted in
    subst (λ (rows : List Row). AreLeft script (map row_of rows) c.split_at-in-Some.result.1.now c.act_item-count.new.cells) (sym c.split_at.ensures.back)
    (subst (λ (places : List RowPlaces). AreLeft script (map row_of (drop c.act_item-count.result c.item.rows.now)) places c.act_item-count.new.cells)
    (sym c.split_at-in-Some.ensures.back) behind.3)

pub returns-clause-acted : goal.returns-clause-acted
returns-clause-acted c = λ script is made same.
    all-acted script (map row_of c.item.rows.now) c.item.places.now c.item.cells (c.item.invariant script is made same)
    (length-map c.item.rows.now row_of ∙ c.in_default.ensures.cases)

pub returns-clause-kept : goal.returns-clause-kept
returns-clause-kept c =
    let script = c.requires.script in
    (c.item.invariant script.0 script.1 script.2 script.3).opened ∙ sym (opened-opened script.0 c.args.cells script.2)
