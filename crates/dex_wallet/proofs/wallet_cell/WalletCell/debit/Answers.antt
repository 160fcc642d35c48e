use Rattle.std.proofs.Common.{◌-◌, [], ◌∷◌, ◌++◌, refl, ap, sym, subst, ◌∙◌, arith}
use Rattle.dex_types.specs.declared.movements.MoveKind.TheVariants.{Debit}
use Rattle.dex_types.specs.declared.movements.WalletEntry.{WalletEntry}
use Rattle.dex_token.specs.TokenAccount.{with_amount}
use Rattle.dex_wallet.specs.CellInside.{IsKept, kept_cell}
use Rattle.dex_wallet.specs.CellState.{CellState, balance_of, movement}
use Rattle.dex_wallet.proofs.CellLaws.{HasMoved, has-moved}
use Rattle.dex_wallet.proofs.wallet_cell.WalletCell.debit.Goals as goal
use Rattle.dex_wallet.proofs.wallet_cell.WalletCell.debit.Goals.{After-take}

abbrev debit : After-take → WalletEntry
debit c = movement c.args.self.now c.args.market c.args.lane c.args.row Debit c.args.amount

did : (c : After-take) → HasMoved c.as_mut-kept.result.now c.set_balance.new.bytes.items c.take.new.self c.push_reserved.new.self.items c.args.self.now (debit c)
did c =
    let is = ap kept_cell c.as_mut-kept.ensures.value ∙ c.self.view_is in
    let told = c.movement-debit.ensures.entry in
    has-moved c.as_mut-kept.result.now c.args.self.now (debit c) _ _ _ c.movement-debit.ensures.cell c.movement-debit.ensures.fits is refl (c.requires.some, c.requires.funds) c.requires.spare
    (c.set_balance.ensures ∙ ap (λ (e : WalletEntry). with_amount c.as_mut-kept.result.now.bytes.items (e.before - c.args.amount)) told
    ∙ ap (λ (cell : CellState). with_amount c.as_mut-kept.result.now.bytes.items (balance_of cell.bytes - c.args.amount)) (sym is))
    c.take.ensures.rest (c.push_reserved.ensures.items ∙ ap (λ (e : WalletEntry). c.as_mut-kept.result.now.entries.items ++ e ∷ []) told)

pub invariant_of-self : goal.invariant_of-self
invariant_of-self c =
    let kept = subst IsKept (sym c.as_mut-kept.ensures.value) c.self.invariant in
    record { cell = (did (goal.at.invariant_of-self c).After-take).kept; reserved = omega (arith, kept.reserved) }

pub returns-clause-moved : goal.returns-clause-moved
returns-clause-moved c = (did (goal.at.returns-clause-moved c).After-take).moved

pub returns-clause-cell : goal.returns-clause-cell
returns-clause-cell c = (did (goal.at.returns-clause-cell c).After-take).kept

pub returns-clause-words : goal.returns-clause-words
returns-clause-words c = (did (goal.at.returns-clause-words c).After-take).words
