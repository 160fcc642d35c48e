use Rattle.std.proofs.Common.{◌≡◌, is_some, sym, ap, ◌∙◌}
use Rattle.std.specs.List.{position}
use Rattle.dex_world.proofs.Common.{PlainMarketAccounts, false≢true, is_same}
use Rattle.dex_script_types.specs.Places.{market_addresses, market_place}
use Rattle.dex_script_types.proofs.FoundLaws.{position-any}
use Rattle.dex_script_types.proofs.PlacedLaws.{position-map}
use Rattle.dex_turns.proofs.outline.Outline.market_of.Goals.{After-place_among}
use Rattle.dex_turns.proofs.outline.Outline.market_of.Goals as goal

-- the addresses are those of the script's markets
found : (c : After-place_among) → c.place_among.result ≡ market_place c.args.address c.args.self.now.start.markets
found c =
    c.place_among.ensures
    ∙ ap (position (is_same c.args.address)) (c.deref.ensures.value ∙ c.self.invariant.markets ∙ ap market_addresses c.self.view_is)
    ∙ position-map (λ (accounts : PlainMarketAccounts). accounts.address) c.args.address c.args.self.now.start.markets

pub unreachable-requires : goal.unreachable-requires
unreachable-requires c =
    false≢true
    (ap is_some (sym c.in-None.is ∙ found (goal.at.unreachable-requires c).After-place_among)
    ∙ position-any (λ (accounts : PlainMarketAccounts). is_same c.args.address accounts.address) c.args.self.now.start.markets ∙ c.requires)

pub returns : goal.returns
returns c = sym (found (goal.at.returns c).After-place_among) ∙ c.in-Some.is
