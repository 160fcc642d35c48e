use Rattle.std.proofs.Common.{rules, ◌<◌, arith, subst, sym}
use Rattle.dex_wallet.specs.CellState.{IsWalletCell}
use Rattle.dex_journals.specs.Inside.{numbers_in, trail_inside}
use Rattle.dex_journals.specs.Journals.{MayComeBack, TrailState}
use Rattle.dex_journals.proofs.StampedLists.{numbers-more}
use Rattle.dex_journals.proofs.WalletLaws.{comes-back}
use Rattle.dex_journals.proofs.wallet.WalletTrail.with.Goals as goal

pub invariant_of-result : goal.invariant_of-result
invariant_of-result c =
    let trail = trail_inside c.self.inside in
    let stamp = c.args.stamp.now.number in
    let is_cell : IsWalletCell c.args.cell = search rules in
    let may = subst (λ (one : TrailState). MayComeBack one c.args.cell) (sym c.self.view_is) c.requires.entry in
    let above : trail.last < stamp =
    subst (λ (one : TrailState). one.last < stamp) (sym c.self.view_is) c.requires.stamp in
    comes-back trail c.args.cell stamp c.later.result.number (numbers_in c.and.result.items) may c.self.invariant is_cell
    above (numbers-more c.self.inside.stamps.items c.and.result.items c.args.stamp.now c.and.ensures)
    (omega (arith, c.later.ensures))

pub returns-clause-kept : goal.returns-clause-kept
returns-clause-kept c = invariant_of-result c
