use Rattle.std.proofs.Common.{List, ℕ, Some, sym, ap, ◌∙◌}
use Rattle.dex_accounts.proofs.OwnerLaws.{bytes_at-here}
use Rattle.dex_accounts.proofs.owners.find_bytes.Goals as goal

pub returns : goal.returns
returns c =
    let here = c.index-accounts-place.result in
    bytes_at-here c.args.address c.args.accounts.now c.in_ok-place.place here c.in_ok-place.ensures
    ∙ ap (λ (l : List ℕ). Some l) (sym c.deref.ensures.value)
