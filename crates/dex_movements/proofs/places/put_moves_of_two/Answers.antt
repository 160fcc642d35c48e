use Rattle.std.proofs.Common.{subst}
use Rattle.dex_types.specs.declared.movements.Movement.{Movement}
use Rattle.dex_types.specs.WalletJournal.{CanMove}
use Rattle.dex_movements.specs.Amounts.{transfers_of}
use Rattle.dex_movements.proofs.PlaceLaws.{two-first, two-second}
use Rattle.dex_movements.proofs.places.put_moves_of_two.Goals as goal

pub movement_by-requires : goal.movement_by-requires
movement_by-requires c =
    subst (λ (move : Movement). CanMove move.kind move.amount move.before)
    (two-first c.args.seen.now (transfers_of c.args.amounts.now) c.args.coin.now c.args.pc.now c.requires.two) (c.requires.moves c.args.coin.now.address).possible

pub movement_by-requires-2 : goal.movement_by-requires-2
movement_by-requires-2 c =
    subst (λ (move : Movement). CanMove move.kind move.amount move.before)
    (two-second c.args.seen.now (transfers_of c.args.amounts.now) c.args.coin.now c.args.pc.now c.requires.two) (c.requires.moves c.args.pc.now.address).possible
