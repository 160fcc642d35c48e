use Rattle.std.proofs.Common.{rules, ap, ◌∙◌}
use Rattle.std.proofs.lemmas.Int.{to_z-of_z}
use mir.Syntax.{w128}
use mir.Val.{SFits}
use Rattle.dex_worth.specs.declared.amounts.TokenAmounts.{TokenAmounts}
use Rattle.dex_worth.proofs.table.worth_of.Goals as goal

pub returns : goal.returns
returns c = λ h d s held deposited settled.
    let coin : SFits w128 c.in_ok-coin.coin = search rules in
    let pc : SFits w128 c.in_ok-pc.pc = search rules in
    let coin_is = to_z-of_z w128 c.in_ok-coin.coin coin
    ∙ c.in_ok-coin.ensures h.coin d.coin s.coin (ap (λ (a : TokenAmounts). a.coin) held) (ap (λ (a : TokenAmounts). a.coin) deposited) (ap (λ (a : TokenAmounts). a.coin) settled) in
    let pc_is = to_z-of_z w128 c.in_ok-pc.pc pc
    ∙ c.in_ok-pc.ensures h.pc d.pc s.pc (ap (λ (a : TokenAmounts). a.pc) held) (ap (λ (a : TokenAmounts). a.pc) deposited) (ap (λ (a : TokenAmounts). a.pc) settled) in
    λ i. record { coin = coin_is i; pc = pc_is i }
