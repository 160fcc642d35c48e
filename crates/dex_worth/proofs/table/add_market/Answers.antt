use Rattle.std.proofs.Common.{◌≡◌, ◌++◌, List, map, ap, ◌∙◌}
use Rattle.std.proofs.lemmas.List.{map-id}
use Rattle.std.proofs.lemmas.Result.{on_ok_weaker}
use Rattle.std.proofs.lemmas.Simd.{map-map}
use Rattle.dex_types.specs.declared.addresses.Address.{Address}
use Rattle.dex_types.specs.Accounts.{PlainMarketAccounts, market_accounts_of}
use Rattle.dex_types.specs.Market.{Market}
use Rattle.dex_accounts.specs.Decoded.{market_in}
use Rattle.dex_replay.specs.WorthTold.{PlainWorthRow}
use Rattle.dex_worth.specs.declared.entries.Moved.{Moved}
use Rattle.dex_worth.specs.Amounts.{capped_amounts}
use Rattle.dex_worth.specs.Entries.{all_in, all_out, moved_told}
use Rattle.dex_worth.specs.Holdings.{held_amounts}
use Rattle.dex_worth.specs.Ledgers.{owners_in}
use Rattle.dex_worth.specs.Rows.{plain_row, row_by}
use Rattle.dex_worth.proofs.Markets.{market-shown}
use Rattle.dex_worth.proofs.table.add_market.Goals as goal

pub returns : goal.returns
returns c =
    let last : PlainMarketAccounts = market_accounts_of c.args.last.now in
    let m : Market = market_in last in
    on_ok_weaker c.add_rows.result
    (λ told script journal is same.
    let owner : Moved → Address = λ (moved : Moved). moved.owner in
    let owners : c.deref-2.result.now ≡ owners_in last =
    c.deref-2.ensures.value ∙ c.in_ok-owners.ensures ∙ ap (map owner) (c.deref.ensures.value ∙ is.tells) ∙ map-map owner (moved_told is.calls) (owners_in last) ∙ map-id (owners_in last) in
    told (held_amounts m) (owners_in last) is.calls
    (c.deref-3.ensures.value ∙ c.in_ok-held.ensures ∙ ap (map (λ (of : Address). capped_amounts (held_amounts m of))) owners)
    (c.deref-4.ensures.value ∙ is.tells)
    ∙ ap (λ (rows : List PlainWorthRow). map plain_row c.args.table.now.items ++ rows)
    (ap (λ (address : Address). map (row_by address (held_amounts m) (all_in is.calls) (all_out is.calls)) (owners_in last)) same ∙ market-shown script last journal is.calls is.told))
    c.add_rows.ensures
