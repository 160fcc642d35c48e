use Rattle.std.proofs.Common.{ℕ, List, ◌≡◌, ◌∙◌, ◌∷◌, [], ◌++◌, get_or, map, take_all, ap, sym, arith}
use Rattle.std.proofs.lemmas.List.{get_or-map, map_more}
use Rattle.dex_types.specs.declared.addresses.Address.{Address}
use Rattle.dex_worth.specs.declared.amounts.TokenAmounts.{TokenAmounts}
use Rattle.dex_worth.specs.Amounts.{capped_amounts, none}
use Rattle.dex_eager_market.specs.Making.{account_of}
use Rattle.dex_eager_market.proofs.Acts.{no_address}
use Rattle.dex_eager_market.proofs.making.accounts_of.Goals as goal

pub loop-place-preserved : goal.loop-place-preserved
loop-place-preserved c = λ amounts are.
    let place : ℕ = c.loop-place.place in
    let owners : List Address = c.args.owners.now in
    let here : get_or c.args.held.now place none ≡ capped_amounts (amounts (get_or owners place no_address)) =
    ap (λ (all : List TokenAmounts). get_or all place none) are ∙ get_or-map (λ (of : Address). capped_amounts (amounts of)) owners place no_address none (omega arith) in
    c.in_ok-push.ensures.items
    ∙ (λ i. c.loop-place.invariant amounts are i ++ record { address = get_or owners place no_address; total = record { gained = here i; paid = none } } ∷ [])
    ∙ sym (map_more (account_of amounts) owners place no_address (omega arith))

pub returns : goal.returns
returns c = λ amounts are.
    c.loop-place.invariant amounts are ∙ ap (map (account_of amounts)) (take_all c.loop-place.place c.args.owners.now (omega arith))
