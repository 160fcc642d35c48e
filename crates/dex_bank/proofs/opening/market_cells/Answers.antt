use Rattle.std.proofs.Common.{rules, [], ◌∷◌, ap, arith, length, ◌∙◌}
use Rattle.dex_world.proofs.Common.{PlainMarketAccounts, YieldsList-from_vec, YieldsList-turn, market_accounts_of}
use Rattle.dex_bank.proofs.Common.{market_opened, rows_on}
use Rattle.std.proofs.lemmas.List.{length-append}
use Rattle.dex_cell.specs.CellState.{new_cell}
use Rattle.dex_bank.proofs.OpenLists.{mapped-more, told-at}
use Rattle.dex_bank.proofs.opening.market_cells.Goals as goal

pub loop-accounts-preserved : goal.loop-accounts-preserved
loop-accounts-preserved c =
    let yielded = c.loop-accounts.yielded in
    let item = c.in-Some.accounts in
    let here = YieldsList-turn (YieldsList-from_vec c.args.markets.items c.into_iter-accounts-iterator.ensures.into_iter_gives.0 (search rules)) yielded c.loop-accounts.accounts-iterator c.loop-accounts.yielded_by c.next.result c.next.new.self item c.in-Some.is c.next.ensures.steps in
    record {
      place = omega (arith, c.loop-accounts.invariant.place, length-append yielded (item ∷ []));
      cells = λ rows told.
          mapped-more (market_opened rows) market_accounts_of yielded item c.in_ok-market_cell.field-0 c.loop-accounts.cells.items c.add.new.items.items
          (c.in_ok-market_cell.ensures ∙ ap (new_cell (market_accounts_of c.in-Some.accounts)) (told-at (λ (one : PlainMarketAccounts). rows_on one.address rows) market_accounts_of c.args.markets.items item (length yielded) c.loop-accounts.place c.args.rooms.now told here c.loop-accounts.invariant.place))
          (c.loop-accounts.invariant.cells rows told) c.in_ok-add.ensures;
    }
