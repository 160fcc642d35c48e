use Rattle.std.proofs.Common.{◌∙◌, ap, arith, map-id}
use Rattle.std.specs.List.{position}
use Rattle.dex_types.specs.declared.addresses.Address.{Address}
use Rattle.dex_types.specs.Addresses.{is_same}
use Rattle.dex_script.proofs.NameLaws.{from-first, put-first}
use Rattle.dex_script.proofs.names.places_of.Goals as goal

pub loop-place-preserved : goal.loop-place-preserved
loop-place-preserved c = λ address.
    put-first (λ (one : Address). one) c.args.addresses.now c.loop-place.place address _ _ _ (omega arith) (omega arith)
    (c.loop-place.invariant address) (c.in_ok-put.ensures address)

pub returns : goal.returns
returns c = λ address.
    c.loop-place.invariant address
    ∙ from-first (λ (one : Address). is_same address one) (λ one. one) c.args.addresses.now c.loop-place.place (omega arith)
    ∙ ap (position (λ (one : Address). is_same address one)) (map-id c.args.addresses.now)
