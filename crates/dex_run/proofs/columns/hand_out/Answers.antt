use Rattle.std.proofs.Common.{◌<◌, ◌∷◌, [], ◌∙◌, length, length-append, vec_len, vec_capacity, sym, subst, rules, arith}
use Rattle.dex_world.proofs.Common.{YieldsList-from_vec, YieldsList-turn}
use Rattle.dex_run.proofs.Common.{IsLonger}
use Rattle.dex_run.proofs.ColumnLists.{AreLonger-behind, AreLonger-length, AreLonger-more}
use Rattle.dex_run.proofs.columns.hand_out.Goals as goal

pub index_mut-requires : goal.index_mut-requires
index_mut-requires g c =
    let more : length c.loop-item.yielded < length c.args.items.items = (YieldsList-turn (YieldsList-from_vec c.args.items.items c.into_iter-item-iterator.ensures.into_iter_gives.0 (search rules)) c.loop-item.yielded c.loop-item.item-iterator c.loop-item.yielded_by c.next.result c.next.new.self c.in-Some.item c.in-Some.is c.next.ensures.steps).0 in
    omega (arith, more, c.loop-item.invariant.place, AreLonger-length _ _ _ c.loop-item.invariant.longer, c.requires.count)

pub append-requires : goal.append-requires
append-requires g c =
    let more : length c.loop-item.yielded < length c.args.items.items = (YieldsList-turn (YieldsList-from_vec c.args.items.items c.into_iter-item-iterator.ensures.into_iter_gives.0 (search rules)) c.loop-item.yielded c.loop-item.item-iterator c.loop-item.yielded_by c.next.result c.next.new.self c.in-Some.item c.in-Some.is c.next.ensures.steps).0 in
    let here = AreLonger-behind c.args.columns.now.items c.loop-item.columns.items c.loop-item.yielded c.loop-item.place c.index_mut.result.now c.loop-item.invariant.longer (omega (arith, c.loop-item.invariant.place)) in
    subst (λ column. vec_len column < vec_capacity column) (sym here ∙ sym c.index_mut.ensures.value)
    (c.requires.room c.loop-item.place c.index_mut.result.now (omega (arith, more, c.loop-item.invariant.place, c.requires.count)))

pub loop-item-preserved : goal.loop-item-preserved
loop-item-preserved g c =
    let more : length c.loop-item.yielded < length c.args.items.items = (YieldsList-turn (YieldsList-from_vec c.args.items.items c.into_iter-item-iterator.ensures.into_iter_gives.0 (search rules)) c.loop-item.yielded c.loop-item.item-iterator c.loop-item.yielded_by c.next.result c.next.new.self c.in-Some.item c.in-Some.is c.next.ensures.steps).0 in
    let here = AreLonger-behind c.args.columns.now.items c.loop-item.columns.items c.loop-item.yielded c.loop-item.place c.index_mut.result.now c.loop-item.invariant.longer (omega (arith, c.loop-item.invariant.place)) in
    record {
      place = omega (arith, c.loop-item.invariant.place, length-append c.loop-item.yielded (c.in-Some.item ∷ []));
      longer = AreLonger-more c.args.columns.now.items c.loop-item.columns.items c.loop-item.yielded c.loop-item.place c.in-Some.item c.append.new.items c.index_mut.result.now c.loop-item.invariant.longer
          c.loop-item.invariant.place (omega (arith, more, c.loop-item.invariant.place, c.requires.count))
          (subst (λ column. IsLonger column c.in-Some.item c.append.new.items) (c.index_mut.ensures.value ∙ here) c.append.ensures);
    }
