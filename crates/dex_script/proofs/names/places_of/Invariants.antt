use Rattle.std.proofs.Common.{◌≡◌, drop}
use Rattle.std.specs.HashMap as hash
use Rattle.std.specs.List.{position_from}
use Rattle.dex_types.specs.declared.addresses.Address.{Address}
use Rattle.dex_types.specs.Addresses.{is_same}
use Rattle.dex_script.proofs.names.places_of.Given as goal

-- the map has those after
abbrev pub invariant-loop-place : goal.invariant-loop-place
invariant-loop-place l =
    (address : Address) → hash.get is_same l.places address ≡ position_from (λ (one : Address). is_same address one) l.place (drop l.place l.addresses)
