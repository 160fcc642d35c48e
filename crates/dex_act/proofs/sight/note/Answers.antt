use Rattle.std.proofs.Common.{Option, Some, map, sym, ap, ◌∙◌, subst}
use Rattle.dex_world.proofs.Common.{Address, WalletSeen, role_at}
use Rattle.dex_wallet.specs.CellState.{CellState, seen_of}
use Rattle.dex_act.specs.Wallets.{IsRoleAt, wallet_state_of}
use Rattle.dex_act.proofs.Seeing.{found-there}
use Rattle.dex_act.proofs.sight.note.Goals as goal

pub returns-in-Some-clause-seen : goal.returns-in-Some-clause-seen
returns-in-Some-clause-seen c =
    let cells = c.args.wallets.now in
    let read : CellState = c.index-wallets-place.result in
    ap (λ (wallet : WalletSeen). Some wallet) (c.seen.ensures.seen ∙ ap seen_of c.index-wallets-place.is)
    ∙ sym (ap (λ (role : Option Address). role_at role (map wallet_state_of cells)) c.in-Some.is
    ∙ found-there c.in-Some.field-0 cells c.args.place read c.requires.apart (subst (λ (role : Option Address). IsRoleAt cells role c.args.place) c.in-Some.is c.requires.here))
