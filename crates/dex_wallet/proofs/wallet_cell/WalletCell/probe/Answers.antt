use Rattle.std.proofs.Common.{[], ◌∷◌, ◌++◌, refl, ap, sym, subst, ◌∙◌, arith}
use Rattle.dex_types.specs.declared.movements.MoveKind.TheVariants.{Probe}
use Rattle.dex_types.specs.declared.movements.WalletEntry.{WalletEntry}
use Rattle.dex_token.proofs.AmountWrites.{with_amount-again}
use Rattle.dex_wallet.specs.CellInside.{IsKept, kept_cell}
use Rattle.dex_wallet.specs.CellState.{balance_of, movement}
use Rattle.dex_wallet.proofs.CellLaws.{HasMoved, has-moved}
use Rattle.dex_wallet.proofs.wallet_cell.WalletCell.probe.Goals as goal
use Rattle.dex_wallet.proofs.wallet_cell.WalletCell.probe.Goals.{After-push_reserved}

abbrev probe : After-push_reserved → WalletEntry
probe c = movement c.args.self.now c.args.market c.args.lane c.args.row Probe 0

did : (c : After-push_reserved) → HasMoved c.deref_mut.result.now c.deref_mut.result.now.bytes.items c.deref_mut.result.now.share.parcel c.push_reserved.new.self.items c.args.self.now (probe c)
did c =
    let is = ap kept_cell c.deref_mut.ensures.value ∙ c.self.view_is in
    let told = c.movement-probe.ensures.entry in
    has-moved c.deref_mut.result.now c.args.self.now (probe c) _ _ _ c.movement-probe.ensures.cell c.movement-probe.ensures.fits is refl refl c.requires
    ((subst IsKept (sym c.deref_mut.ensures.value) c.self.invariant).cell.others ∙ with_amount-again c.deref_mut.result.now.bytes.items c.deref_mut.result.now.starting (balance_of c.deref_mut.result.now.bytes.items))
    refl (c.push_reserved.ensures.items ∙ ap (λ (e : WalletEntry). c.deref_mut.result.now.entries.items ++ e ∷ []) told)

pub invariant_of-self : goal.invariant_of-self
invariant_of-self c =
    let kept = subst IsKept (sym c.deref_mut.ensures.value) c.self.invariant in
    record { cell = (did (goal.at.invariant_of-self c).After-push_reserved).kept; reserved = omega (arith, kept.reserved) }

pub returns-clause-moved : goal.returns-clause-moved
returns-clause-moved c = (did (goal.at.returns-clause-moved c).After-push_reserved).moved

pub returns-clause-cell : goal.returns-clause-cell
returns-clause-cell c = (did (goal.at.returns-clause-cell c).After-push_reserved).kept
