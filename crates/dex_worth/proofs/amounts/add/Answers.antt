use Rattle.std.proofs.Common.{ℕ, suc, ◌≡◌, [], ◌∙◌, ◌+◌, take, get_or, set, List, sym, ap, arith}
use Rattle.dex_types.specs.declared.addresses.Address.{Address}
use Rattle.dex_worth.specs.declared.amounts.TokenAmounts.{TokenAmounts}
use Rattle.dex_worth.specs.Amounts.{added, none, with_own}
use Rattle.dex_worth.proofs.Lists.{added-more}
use Rattle.dex_worth.proofs.amounts.add.Goals as goal

pub loop-place-preserved : goal.loop-place-preserved
loop-place-preserved c =
    let a : Address = record { 0 = [] } in
    let next : suc c.loop-place.place ≡ c.loop-place.place + 1 = omega arith in
    ap (λ (sum : TokenAmounts). set c.loop-place.sums c.loop-place.place sum) c.with_own.ensures
    ∙ ap (λ (sums : List TokenAmounts). set sums c.loop-place.place (with_own c.args.owner c.args.more (get_or c.args.owners.now c.loop-place.place a) (get_or sums c.loop-place.place none))) c.loop-place.invariant
    ∙ sym (added-more c.args.owner c.args.more c.args.owners.now c.args.sums.now c.loop-place.place a none (omega arith) c.requires)
    ∙ ap (λ (n : ℕ). added c.args.owner c.args.more (take n c.args.owners.now) c.args.sums.now) next
