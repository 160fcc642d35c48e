use Rattle.std.proofs.Common.{List, map, ap, sym, ◌∙◌}
use Rattle.dex_types.specs.declared.addresses.Address.{Address}
use Rattle.dex_types.specs.Rows.{row_of}
use Rattle.dex_types.specs.Wallets.{movement_of}
use Rattle.dex_history.specs.Journal.{places}
use Rattle.dex_movements.specs.Amounts.{transfers_of}
use Rattle.dex_movements.proofs.PlaceLaws.{places-moved, seen-wallets}
use Rattle.dex_movements.proofs.places.put_moves_of_any.Goals as goal

pub returns : goal.returns
returns c =
    let seen = c.args.seen.now in
    let t = transfers_of c.args.amounts.now in
    rw (c.moved_at.ensures, c.moved_at-2.ensures, c.moved_at-3.ensures, c.moved_at-4.ensures)
    (places-moved seen t c.plan_locks.result.wallets c.plan_locks.ensures.none_between
    ∙ ap (λ (ws : List Address). places (map (movement_of seen t) ws)) (c.plan_locks.ensures.wallets ∙ sym (seen-wallets (row_of c.args.row.now) seen c.requires.sees)))
