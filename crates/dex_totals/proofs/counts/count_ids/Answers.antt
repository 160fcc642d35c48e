use Rattle.std.proofs.Common.{ℕ, [], get_or, ap, ◌∙◌, arith}
use Rattle.dex_types.specs.declared.orders.Order.{Order}
use Rattle.dex_types.specs.declared.terms.Side.TheVariants.{Bid}
use Rattle.std.proofs.lemmas.List.{take_all}
use Rattle.dex_types.specs.Soundness.{counts_order}
use Rattle.dex_types.specs.Totals.{total}
use Rattle.dex_totals.proofs.SumLaws.{counts-few, counts-id, total-more}
use Rattle.dex_totals.proofs.counts.count_ids.Goals as goal

pub count-requires : goal.count-requires
count-requires c =
    let d : Order = record { id = 0; owner = record { 0 = [] }; slot = 0; tier = 0; lots = 0; client = 0 } in
    let id : ℕ = (get_or c.args.orders.now c.loop-place.place d).id in
    omega (arith, c.loop-place.invariant Bid id 0, counts-few Bid id 0 c.args.orders.now c.loop-place.place)

pub loop-place-preserved : goal.loop-place-preserved
loop-place-preserved c = λ side id client.
    let d : Order = record { id = 0; owner = record { 0 = [] }; slot = 0; tier = 0; lots = 0; client = 0 } in
    let order : Order = get_or c.args.orders.now c.loop-place.place d in
    omega (
      arith,
      c.in_ok-count.ensures id,
      c.loop-place.invariant side id client,
      counts-id side id client order,
      total-more (counts_order side (record { id = id; side = side; client = client })) c.args.orders.now c.loop-place.place d (omega arith),
    )

pub returns : goal.returns
returns c = λ side id client.
    c.loop-place.invariant side id client
    ∙ ap (total (counts_order side (record { id = id; side = side; client = client }))) (take_all c.loop-place.place c.args.orders.now (omega arith))
