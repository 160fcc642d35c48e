-- Fees, rebates and tiers: rates, and how each amount is rounded.
use Rattle.std.specs.Prelude.{ℕ, ◌+◌, ◌*◌, ◌/◌, Bool, true, false, nat_le, ◌==◌, if◌then◌else◌}
use Rattle.dex_types.specs.declared.terms.Program.{Program}
use Rattle.dex_types.specs.declared.terms.Program.TheVariants.{Serum, OpenBook}
use Rattle.dex_types.specs.declared.terms.Tier.{Tier}
use Rattle.dex_types.specs.declared.terms.Tier.TheVariants.{Base, Srm2, Srm3, Srm4, Srm5, Srm6, Msrm}

-- what a taker pays, in hundredths of a percent of the quote that was traded
unfoldable pub taker_rate : Program → Tier → ℕ
taker_rate Serum Base = 22
taker_rate Serum Srm2 = 20
taker_rate Serum Srm3 = 18
taker_rate Serum Srm4 = 16
taker_rate Serum Srm5 = 14
taker_rate Serum Srm6 = 12
taker_rate Serum Msrm = 10
taker_rate OpenBook _ = 4

-- what a maker gets back, in hundredths of a percent
unfoldable pub maker_rate : Program → Tier → ℕ
maker_rate Serum Msrm = 5
maker_rate Serum _ = 3
maker_rate OpenBook _ = 2

-- the taker's fee on the native quote of all its fills, rounded up
abbrev pub taker_fee : Program → Tier → ℕ → ℕ
taker_fee program tier pc = (pc * taker_rate program tier + 9999) / 10000

-- the maker's rebate on the native quote of one fill, rounded down
abbrev pub maker_rebate : Program → Tier → ℕ → ℕ
maker_rebate program tier pc = pc * maker_rate program tier / 10000

-- the referrer's part of a fee, a fifth of it, rounded down
abbrev pub referrer_part : ℕ → ℕ
referrer_part fee = fee / 5

-- the most native quote that a bid can trade with this lock, so that its fee is covered too
abbrev pub spendable : Program → Tier → ℕ → ℕ
spendable program tier lock = 10000 * lock / (10000 + taker_rate program tier)

-- the tier that a discount wallet reaches, by its native MSRM (no decimals) or SRM (six decimals)
abbrev pub tier_reached : Bool → ℕ → Tier
tier_reached true balance = if nat_le 1 balance then Msrm else Base
tier_reached false balance =
    if nat_le 1000000000000 balance then Srm6
    else (if nat_le 100000000000 balance then Srm5
    else (if nat_le 10000000000 balance then Srm4
    else (if nat_le 1000000000 balance then Srm3
    else (if nat_le 100000000 balance then Srm2 else Base))))

-- the number of a tier in orders and events
abbrev pub tier_number : Tier → ℕ
tier_number Base = 0
tier_number Srm2 = 1
tier_number Srm3 = 2
tier_number Srm4 = 3
tier_number Srm5 = 4
tier_number Srm6 = 5
tier_number Msrm = 6

-- the tier of a number below 7
abbrev pub tier_at : ℕ → Tier
tier_at number =
    if number == 0 then Base
    else (if number == 1 then Srm2
    else (if number == 2 then Srm3
    else (if number == 3 then Srm4
    else (if number == 4 then Srm5
    else (if number == 5 then Srm6 else Msrm)))))
