use Rattle.std.proofs.Common.{arith, map, sym, ◌∙◌}
use Rattle.dex_types.specs.Rows.{row_of}
use Rattle.dex_batch.proofs.ActLaws.{places-long, window-can, window-more}
use Rattle.dex_batch.proofs.RoomLaws.{same-sizes}
use Rattle.dex_batch.proofs.windows.work_all.Goals as goal

pub split_at-requires-in-window : goal.split_at-requires-in-window
split_at-requires-in-window g c = omega (arith, c.window_of-count.ensures.within, places-long c.window.rows.now c.window.places.now c.window.cells c.window.invariant.can)

pub act_window-requires-clause-groups : goal.act_window-requires-clause-groups
act_window-requires-clause-groups g c κs within =
    let sizes = same-sizes c.args.cells c.window.cells c.window.invariant.so.2.kept in
    record {
      markets_long = c.in_ok-groups.ensures.markets_long ∙ sym c.requires.sizes.0 ∙ sym sizes.0;
      wallets_long = c.in_ok-groups.ensures.wallets_long ∙ sym c.requires.sizes.1 ∙ sym sizes.1;
      markets_within = c.in_ok-groups.ensures.markets_within;
      wallets_within = c.in_ok-groups.ensures.wallets_within;
    }

pub act_window-requires-clause-can : goal.act_window-requires-clause-can
act_window-requires-clause-can g c κs within =
    window-can c.window.rows.now c.split_at.result.0.now c.split_at.result.1.now c.window.places.now c.split_at-in-window.result.0.now c.split_at-in-window.result.1.now
    c.window_of-count.result c.window.cells c.window.invariant.can c.split_at.ensures.front c.split_at.ensures.back c.split_at-in-window.ensures.front c.split_at-in-window.ensures.back

pub window-preserved : goal.window-preserved
window-preserved g c =
    let more =
    window-more c.window.rows.now c.split_at.result.0.now c.split_at.result.1.now c.window.places.now c.split_at-in-window.result.0.now c.split_at-in-window.result.1.now
    c.window_of-count.result c.window.cells c.window.invariant.can c.split_at.ensures.front c.split_at.ensures.back c.split_at-in-window.ensures.front c.split_at-in-window.ensures.back
    c.window.invariant.so.0 (map row_of c.args.rows.now) c.args.cells c.in_ok-cells.cells c.window.invariant.so.1 c.window.invariant.so.2 c.in_ok-cells.ensures in
    record { can = more.0; so = more.1; span = c.next_span-span.ensures }
