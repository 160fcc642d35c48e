use Rattle.std.proofs.Common.{◌≡◌, ℕ, ◌+◌, [], ◌∷◌, ◌++◌, refl, ap, sym, subst, ◌∙◌, arith}
use Rattle.dex_types.specs.declared.movements.MoveKind.TheVariants.{Credit}
use Rattle.dex_types.specs.declared.movements.WalletEntry.{WalletEntry}
use Rattle.dex_token.specs.TokenAccount.{with_amount}
use Rattle.dex_wallet.specs.CellInside.{IsKept, kept_cell}
use Rattle.dex_wallet.specs.CellState.{CellState, balance_of, movement}
use Rattle.dex_wallet.proofs.CellLaws.{HasMoved, has-moved}
use Rattle.dex_wallet.proofs.wallet_cell.WalletCell.credit.Goals as goal
use Rattle.dex_wallet.proofs.wallet_cell.WalletCell.credit.Goals.{After-put}

-- the movement by this amount
abbrev credit_by : After-put → ℕ → WalletEntry
credit_by c amount = movement c.args.self.now c.args.market c.args.lane c.args.row Credit amount

abbrev credit : After-put → WalletEntry
credit c = credit_by c c.args.parcel.amount

did : (c : After-put) → HasMoved c.as_mut-kept.result.now c.set_balance.new.bytes.items c.put.new.self c.push_reserved.new.self.items c.args.self.now (credit c)
did c =
    let is = ap kept_cell c.as_mut-kept.ensures.value ∙ c.self.view_is in
    let told : c.movement-credit.result ≡ credit c = c.movement-credit.ensures.entry ∙ ap (credit_by c) c.amount-amount.ensures in
    has-moved c.as_mut-kept.result.now c.args.self.now (credit c) _ _ _ c.movement-credit.ensures.cell c.movement-credit.ensures.fits is refl (c.requires.some, c.requires.fits) c.requires.spare
    (c.set_balance.ensures ∙ ap (λ (a : ℕ). with_amount c.as_mut-kept.result.now.bytes.items (c.movement-credit.result.before + a)) c.amount-amount.ensures
    ∙ ap (λ (e : WalletEntry). with_amount c.as_mut-kept.result.now.bytes.items (e.before + c.args.parcel.amount)) told
    ∙ ap (λ (cell : CellState). with_amount c.as_mut-kept.result.now.bytes.items (balance_of cell.bytes + c.args.parcel.amount)) (sym is))
    c.put.ensures (c.push_reserved.ensures.items ∙ ap (λ (e : WalletEntry). c.as_mut-kept.result.now.entries.items ++ e ∷ []) told)

pub invariant_of-self : goal.invariant_of-self
invariant_of-self c =
    let kept = subst IsKept (sym c.as_mut-kept.ensures.value) c.self.invariant in
    record { cell = (did (goal.at.invariant_of-self c).After-put).kept; reserved = omega (arith, kept.reserved) }

pub returns-clause-moved : goal.returns-clause-moved
returns-clause-moved c = (did (goal.at.returns-clause-moved c).After-put).moved

pub returns-clause-cell : goal.returns-clause-cell
returns-clause-cell c = (did (goal.at.returns-clause-cell c).After-put).kept

pub returns-clause-words : goal.returns-clause-words
returns-clause-words c = (did (goal.at.returns-clause-words c).After-put).words
