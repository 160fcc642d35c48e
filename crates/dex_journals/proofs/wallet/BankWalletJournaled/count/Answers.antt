use Rattle.std.proofs.Common.{◌≡◌, length, subst, sym, ap, ◌∙◌}
use Rattle.dex_journals.specs.Inside.{wallet_inside}
use Rattle.dex_journals.specs.Journals.{BankWalletState, wallet_entries}
use Rattle.dex_journals.proofs.StampedLists.{length-stamped}
use Rattle.dex_journals.proofs.wallet.BankWalletJournaled.count.Goals as goal

pub returns-clause-length : goal.returns-clause-length
returns-clause-length c =
    let wallet = wallet_inside c.self.inside in
    subst (λ (one : BankWalletState). length c.entries.result.now ≡ length (wallet_entries one)) c.self.view_is
    (ap length c.entries.ensures.entries ∙ sym (length-stamped wallet.cell.entries wallet.stamps c.self.invariant.counted))
