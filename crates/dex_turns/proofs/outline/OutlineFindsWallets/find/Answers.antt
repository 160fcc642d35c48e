use Rattle.std.proofs.Common.{◌∙◌, ap}
use Rattle.std.specs.List.{position}
use Rattle.dex_world.proofs.Common.{PlainAccount, is_same}
use Rattle.dex_script_types.specs.Places.{wallet_addresses}
use Rattle.dex_script_types.proofs.PlacedLaws.{position-map}
use Rattle.dex_turns.proofs.outline.OutlineFindsWallets.find.Goals as goal

pub returns : goal.returns
returns c =
    c.place_among.ensures
    ∙ ap (position (is_same c.args.address)) (c.deref.ensures.value ∙ c.self.invariant.wallets ∙ ap wallet_addresses c.self.view_is)
    ∙ position-map (λ (account : PlainAccount). account.address) c.args.address c.args.self.now.start.wallets
