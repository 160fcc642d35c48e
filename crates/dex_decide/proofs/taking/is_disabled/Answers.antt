use Rattle.std.proofs.Common.{◌==◌, ℕ, ap, ◌∙◌}
use Rattle.dex_types.specs.Reasons.{when_disabled}
use Rattle.dex_decide.proofs.PartLaws.{disabled-told}
use Rattle.dex_decide.proofs.taking.is_disabled.Goals as goal

pub returns : goal.returns
returns g c =
    c.disabled.ensures ∙ ap (λ (flags : ℕ). when_disabled (flags == 131)) c.account_flags.ensures
    ∙ disabled-told (g.M.ReadMarket.held c.args.accounts.now) c.requires c.market.result.now c.market.ensures
