use Rattle.std.proofs.Common.{arith, ◌≡◌, ◌∙◌, ◌+◌, ◌++◌, drop, length, map, take, sym, ap, subst}
use Rattle.std.specs.List.{All}
use Rattle.std.proofs.lemmas.Grind.{common_steps, elements, moves, pieces}
use Rattle.dex_eager_market.specs.Accounts.{IsWithin, changed, entry_of}
use Rattle.dex_eager_market.proofs.Changes.{all-changed, entries-changed}
use Rattle.dex_eager_market.proofs.accounts.add.Goals as goal

pub returns : goal.returns
returns c =
    let new = c.change_worth.new.accounts in
    let is : take c.args.accounts.now.len (new ++ drop (length new) c.args.accounts.now.items) ≡ new = grind (arith, common_steps, elements, moves, pieces) in
    let left = is ∙ c.change_worth.ensures ∙ ap (map (changed c.args.owner c.args.change)) c.deref_mut.ensures.value in
    record {
      worths = ap (map entry_of) left ∙ entries-changed c.args.owner c.args.change c.args.accounts.now.items;
      within = λ bound more all small. subst (All (IsWithin (bound + more))) (sym left) (all-changed bound more c.args.owner c.args.change c.args.accounts.now.items small all);
    }
