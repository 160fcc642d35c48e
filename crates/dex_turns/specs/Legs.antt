-- What is recorded of the two legs of a swap, what they write, and where their wallets stand.
use Rattle.std.specs.Prelude.{ℕ, Option, Some, None, if◌then◌else◌}
use Rattle.std.specs.Option.{option_or}
use Rattle.dex_types.specs.declared.addresses.Address.{Address}
use Rattle.dex_types.specs.declared.rows.Row.{Row}
use Rattle.dex_types.specs.Rows.{PlainRow}
use Rattle.dex_history.specs.Journal.{Call}
use Rattle.dex_stamps.specs.Stamped.{Stamped}
use Rattle.dex_world.specs.Fold.{is_role}
use Rattle.dex_world.specs.Places.{coin_at, pc_at}
use Rattle.dex_world.specs.declared.places.RowPlaces.{RowPlaces}
use Rattle.dex_turns.specs.declared.legs.TwoRecords.{TwoRecords}
use Rattle.dex_turns.specs.Inside.{call_made}
use Rattle.dex_turns.specs.Submitted.{Written, written_by_two}

-- the call of the first leg
abbrev pub one_made : Row → TwoRecords → Stamped Call
one_made first made = call_made (first, made.first)

-- the call of the second
abbrev pub two_made : Row → TwoRecords → Stamped Call
two_made second made = call_made (second, made.second)

-- what the two write into the journals of wallets
abbrev pub legs_written : Row → Row → TwoRecords → Written
legs_written first second made = written_by_two (one_made first made) (two_made second made)

-- the place of a role's wallet, where it is this one
abbrev pub at_role : Option Address → ℕ → Address → Option ℕ
at_role role place address = if is_role role address then Some place else None

-- the place of a wallet that two legs name as coin or as pc, as what stands beside them tells
abbrev pub beside_legs : PlainRow → PlainRow → RowPlaces → RowPlaces → Address → Option ℕ
beside_legs first second one two address =
    option_or
    (option_or
    (option_or (at_role first.coin (coin_at one) address) (at_role first.pc (pc_at one) address))
    (at_role second.coin (coin_at two) address))
    (at_role second.pc (pc_at two) address)
