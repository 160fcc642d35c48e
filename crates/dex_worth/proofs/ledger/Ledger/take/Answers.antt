use Rattle.std.proofs.Common.{arith, ◌≡◌, ◌++◌, drop, length, take, ap, ◌∙◌}
use Rattle.std.proofs.lemmas.Grind.{common_steps, elements, moves, pieces}
use Rattle.dex_replay.specs.EntryCalls.{calls_told}
use Rattle.dex_worth.proofs.ledger.Ledger.take.Goals as goal

pub returns : goal.returns
returns c = λ script are owners calls more told tells.
    let new = c.add_entries.new.accounts in
    let is : take c.args.self.now.accounts.len (new ++ drop (length new) c.args.self.now.accounts.items) ≡ new = grind (arith, common_steps, elements, moves, pieces) in
    is
    ∙ c.add_entries.ensures script owners calls more are (ap (calls_told script c.args.journal.now.address) c.deref.ensures.value ∙ told)
    (c.deref_mut.ensures.value ∙ tells)
