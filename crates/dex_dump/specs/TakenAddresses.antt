-- Addresses that are taken, with a set that finds them.
use Rattle.std.specs.Prelude.{◌≡◌, List}
use Rattle.std.specs.HashSet as hash
use Rattle.dex_types.specs.declared.addresses.Address.{Address}
use Rattle.dex_types.specs.Addresses.{is_same}
use Rattle.dex_dump.specs.declared.taken.TakenAddresses.TheInside.{Inside}
use Rattle.dex_dump.specs.Reading.{is_among}

-- the addresses, in the order in which they were taken
abbrev pub taken_inside : Inside → List Address
taken_inside inside = inside.in_order.items

-- the set has these addresses and no others
abbrev pub IsFound : Inside → Type 0
IsFound inside = (address : Address) → hash.contains is_same inside.found address ≡ is_among address inside.in_order.items
