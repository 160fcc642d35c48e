use Rattle.std.proofs.Common.{rules, [], ◌∷◌, ◌++◌, ap, arith, length, ◌∙◌}
use Rattle.dex_world.proofs.Common.{All-push, PlainAccount, YieldsList-from_vec, YieldsList-turn, named_of}
use Rattle.dex_bank.proofs.Common.{IsWalletCell, wallet_opened, rows_naming}
use Rattle.std.proofs.lemmas.List.Elements.{All-same}
use Rattle.std.proofs.lemmas.List.{length-append}
use Rattle.dex_wallet.specs.CellState.{new_cell}
use Rattle.dex_bank.proofs.OpenLists.{mapped-more, told-at}
use Rattle.dex_bank.proofs.opening.wallet_cells.Goals as goal

pub loop-account-preserved : goal.loop-account-preserved
loop-account-preserved c =
    let yielded = c.loop-account.yielded in
    let item = c.in-Some.account in
    let here = YieldsList-turn (YieldsList-from_vec c.args.wallets.items c.into_iter-account-iterator.ensures.into_iter_gives.0 (search rules)) yielded c.loop-account.account-iterator c.loop-account.yielded_by c.next.result c.next.new.self item c.in-Some.is c.next.ensures.steps in
    record {
      place = omega (arith, c.loop-account.invariant.place, length-append yielded (item ∷ []));
      cells = λ rows told.
          mapped-more (wallet_opened rows) named_of yielded item c.in_ok-wallet_cell.field-0 c.loop-account.cells.items c.add.new.items.items
          (c.in_ok-wallet_cell.ensures.opened ∙ ap (new_cell c.in-Some.account.address c.in-Some.account.bytes.items) (told-at (λ (one : PlainAccount). rows_naming one.address rows) named_of c.args.wallets.items item (length yielded) c.loop-account.place c.args.rooms.now told here c.loop-account.invariant.place))
          (c.loop-account.invariant.cells rows told) c.in_ok-add.ensures;
      kept = All-same IsWalletCell c.add.new.items.items (c.loop-account.cells.items ++ c.in_ok-wallet_cell.field-0 ∷ []) c.in_ok-add.ensures
          (All-push IsWalletCell c.loop-account.cells.items c.in_ok-wallet_cell.field-0 c.loop-account.invariant.kept c.in_ok-wallet_cell.ensures.cell);
    }
