use Rattle.std.proofs.Common.{refl, arith}
use Rattle.std.proofs.lemmas.Bool.Decides.{nat_tests}
use Rattle.std.proofs.lemmas.Cmp.{same_from_slice_cmp_tested}
use Rattle.std.specs.Ordering.{is_lt, nat_cmp}
use Rattle.dex_types.specs.Wallets.{is_less}
use Rattle.dex_locks.proofs.insert.is_lower.Goals as goal

pub returns : goal.returns
returns c =
    let by = same_from_slice_cmp_tested nat_cmp is_lt is_less refl (λ _ _. refl) (λ _ _. refl) (λ x y xs ys o h. grind (arith, nat_tests)) in
    by c.args.address.0 c.args.other.0 c.lt.result c.lt.ensures
