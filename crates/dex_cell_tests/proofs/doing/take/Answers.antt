use Rattle.std.proofs.Common.{refl, sym, ap, ◌∙◌}
use Rattle.dex_types.specs.declared.terms.Side.{Side}
use Rattle.dex_types.specs.Accounts.{market_accounts_of}
use Rattle.dex_types.specs.Side.{opposite}
use Rattle.dex_plan.specs.Given.{bytes_on}
use Rattle.dex_cell_tests.proofs.CallLaws.{take-can}
use Rattle.dex_cell_tests.proofs.doing.take.Goals as goal

pub take_on-requires-clause-parts : goal.take_on-requires-clause-parts
take_on-requires-clause-parts c =
    take-can (market_accounts_of c.args.accounts.now) c.requires c.args.taker.now.id_side c.deref_mut.result.now c.deref_mut-in-Bid.result.now c.deref_mut-in-Bid-2.result.now
    (opposite c.args.taker.now.id_side) c.deref_mut.ensures.value c.deref_mut-in-Bid.ensures.value
    (c.deref_mut-in-Bid-2.ensures.value ∙ ap (λ (s : Side). bytes_on (opposite s) (market_accounts_of c.args.accounts.now)) (sym c.in-Bid.is)) refl

pub take_on-requires-in-Ask-clause-parts : goal.take_on-requires-in-Ask-clause-parts
take_on-requires-in-Ask-clause-parts c =
    take-can (market_accounts_of c.args.accounts.now) c.requires c.args.taker.now.id_side c.deref_mut-in-Ask.result.now c.deref_mut-in-Ask-2.result.now
    c.deref_mut-in-Ask-3.result.now (opposite c.args.taker.now.id_side) c.deref_mut-in-Ask.ensures.value c.deref_mut-in-Ask-2.ensures.value
    (c.deref_mut-in-Ask-3.ensures.value ∙ ap (λ (s : Side). bytes_on (opposite s) (market_accounts_of c.args.accounts.now)) (sym c.in-Ask.is)) refl
