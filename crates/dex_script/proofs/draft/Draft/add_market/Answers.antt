use Rattle.std.proofs.Common.{◌∙◌, nat_le, sym}
use Rattle.dex_script.specs.Telling.{draft_of}
use Rattle.dex_script.proofs.FaultLaws.{or-none}
use Rattle.dex_script.proofs.RowParts.{checked}
use Rattle.dex_script.proofs.draft.Draft.add_market.Goals as goal

pub set_of-requires : goal.set_of-requires
set_of-requires c =
    let new = checked (draft_of c.args.self.now) _ _ c.in_ok-check_new.field-0 (sym c.check_new.ensures ∙ c.in_ok-check_new.was) in
    sym c.exceeds_market.ensures ∙ (or-none (nat_le c.args.self.now.limits.markets c.len.result) c.exceeds_market.result new.few).1
