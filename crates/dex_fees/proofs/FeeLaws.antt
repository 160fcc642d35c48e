-- laws of rates, fees and what a lock pays
use Rattle.std.proofs.Common.{ℕ, ◌+◌, ◌-◌, ◌*◌, ◌≤◌, ◌≡◌, arith, rules}
use Rattle.std.proofs.Math.Nat.{mul-le-mul_left, mul-le-mul_right, mul_comm, mul-div-le}
use Rattle.std.proofs.lemmas.Nat.{le-div}
use Rattle.dex_types.specs.declared.terms.Program.{Program}
use Rattle.dex_types.specs.declared.terms.Program.TheVariants.{Serum, OpenBook}
use Rattle.dex_types.specs.declared.terms.Tier.{Tier}
use Rattle.dex_types.specs.declared.terms.Tier.TheVariants.{Base, Srm2, Srm3, Srm4, Srm5, Srm6, Msrm}
use Rattle.dex_types.specs.Fees.{taker_rate, maker_rate, taker_fee, maker_rebate, referrer_part, spendable}
use Rattle.dex_fees.specs.Rates.{greatest_maker_rate, IsLeast, IsGreatest, Covers, Pays}

-- a taker's rate is at most a percent of a percent's hundred
pub taker_rate-le : (program : Program) (tier : Tier) → taker_rate program tier ≤ 22
unfolding taker_rate
taker_rate-le Serum Base = omega arith
taker_rate-le Serum Srm2 = omega arith
taker_rate-le Serum Srm3 = omega arith
taker_rate-le Serum Srm4 = omega arith
taker_rate-le Serum Srm5 = omega arith
taker_rate-le Serum Srm6 = omega arith
taker_rate-le Serum Msrm = omega arith
taker_rate-le OpenBook tier = omega arith

-- a maker's rate is at most the program's greatest
pub maker_rate-le : (program : Program) (tier : Tier) → maker_rate program tier ≤ greatest_maker_rate program
unfolding maker_rate greatest_maker_rate
maker_rate-le Serum Base = omega arith
maker_rate-le Serum Srm2 = omega arith
maker_rate-le Serum Srm3 = omega arith
maker_rate-le Serum Srm4 = omega arith
maker_rate-le Serum Srm5 = omega arith
maker_rate-le Serum Srm6 = omega arith
maker_rate-le Serum Msrm = omega arith
maker_rate-le OpenBook tier = omega arith

-- twice the greatest maker's rate is at most every taker's rate
pub greatest_maker_rate-half : (program : Program) (tier : Tier) → 2 * greatest_maker_rate program ≤ taker_rate program tier
unfolding taker_rate greatest_maker_rate
greatest_maker_rate-half Serum Base = omega arith
greatest_maker_rate-half Serum Srm2 = omega arith
greatest_maker_rate-half Serum Srm3 = omega arith
greatest_maker_rate-half Serum Srm4 = omega arith
greatest_maker_rate-half Serum Srm5 = omega arith
greatest_maker_rate-half Serum Srm6 = omega arith
greatest_maker_rate-half Serum Msrm = omega arith
greatest_maker_rate-half OpenBook tier = omega arith

-- twice a maker's rate is at most every taker's
pub maker_rate-half : (program : Program) (maker taker : Tier) → 2 * maker_rate program maker ≤ taker_rate program taker
maker_rate-half program maker taker = omega (arith, maker_rate-le program maker, greatest_maker_rate-half program taker)

-- the fee covers the rate, and it is the least amount that does
pub taker_fee-covers : (program : Program) (tier : Tier) (pc : ℕ) → pc * taker_rate program tier ≤ 10000 * taker_fee program tier pc
taker_fee-covers program tier pc = omega arith

-- and no lesser amount covers it
pub taker_fee-least : (program : Program) (tier : Tier) (pc fee : ℕ) → pc * taker_rate program tier ≤ 10000 * fee → taker_fee program tier pc ≤ fee
taker_fee-least program tier pc fee covered = omega arith

-- so it is the least that does
pub IsLeast-taker_fee : (program : Program) (tier : Tier) (pc : ℕ) → IsLeast (Covers program tier pc) (taker_fee program tier pc)
IsLeast-taker_fee program tier pc = record { meets = taker_fee-covers program tier pc; least = taker_fee-least program tier pc }

-- a part of the quote at the taker's rate is below a hundredth of it
rate-of-quote : (program : Program) (tier : Tier) (pc : ℕ) → pc * taker_rate program tier ≤ 22 * pc
rate-of-quote program tier pc = omega (arith, mul-le-mul_left pc (taker_rate-le program tier))

-- a fee is at most the quote that it is taken of
pub taker_fee-le : (program : Program) (tier : Tier) (pc : ℕ) → taker_fee program tier pc ≤ pc
taker_fee-le program tier pc = taker_fee-least program tier pc pc (omega (arith, rate-of-quote program tier pc))

-- more quote, no less fee
pub taker_fee-monotone : (program : Program) (tier : Tier) (pc more : ℕ) → pc ≤ more → taker_fee program tier pc ≤ taker_fee program tier more
taker_fee-monotone program tier pc more grows =
    let products : pc * taker_rate program tier ≤ more * taker_rate program tier = mul-le-mul_right (taker_rate program tier) grows in
    omega arith

-- the quote that a lock pays with its fee, in one product
pub Pays-product : (program : Program) (tier : Tier) (lock pc : ℕ) → Pays program tier lock pc → pc * (10000 + taker_rate program tier) ≤ 10000 * lock
Pays-product program tier lock pc pays = omega (arith, taker_fee-covers program tier pc)

-- and back from the product
pub product-Pays : (program : Program) (tier : Tier) (lock pc : ℕ) → pc * (10000 + taker_rate program tier) ≤ 10000 * lock → Pays program tier lock pc
product-Pays program tier lock pc product = omega (arith, taker_fee-least program tier pc (lock - pc))

-- a lock pays what it can spend with the fee, and no more
pub spendable-pays : (program : Program) (tier : Tier) (lock : ℕ) → spendable program tier lock + taker_fee program tier (spendable program tier lock) ≤ lock
spendable-pays program tier lock =
    product-Pays program tier lock (spendable program tier lock)
    (rw (mul_comm (spendable program tier lock) (10000 + taker_rate program tier)) (mul-div-le (10000 * lock) (10000 + taker_rate program tier)))

-- what a lock pays with its fee is at most what it can spend
pub spendable-greatest : (program : Program) (tier : Tier) (lock pc : ℕ) → pc + taker_fee program tier pc ≤ lock → pc ≤ spendable program tier lock
spendable-greatest program tier lock pc pays =
    le-div pc (10000 * lock) (10000 + taker_rate program tier) (omega arith) (Pays-product program tier lock pc pays)

-- so it is the greatest that it pays
pub IsGreatest-spendable : (program : Program) (tier : Tier) (lock : ℕ) → IsGreatest (Pays program tier lock) (spendable program tier lock)
IsGreatest-spendable program tier lock = record { meets = spendable-pays program tier lock; greatest = spendable-greatest program tier lock }

-- a lock spends no more than itself
pub spendable-le : (program : Program) (tier : Tier) (lock : ℕ) → spendable program tier lock ≤ lock
spendable-le program tier lock = omega (arith, spendable-pays program tier lock)

-- what is at most spendable is paid with its fee
pub spendable-within : (program : Program) (tier : Tier) (lock pc : ℕ) → pc ≤ spendable program tier lock → pc + taker_fee program tier pc ≤ lock
spendable-within program tier lock pc within =
    omega (arith, spendable-pays program tier lock, taker_fee-monotone program tier pc (spendable program tier lock) within)

-- a rebate is at most the greatest rate of the quote
pub maker_rebate-rate : (program : Program) (tier : Tier) (pc : ℕ) → 10000 * maker_rebate program tier pc ≤ greatest_maker_rate program * pc
maker_rebate-rate program tier pc =
    omega (arith, mul-div-le (pc * maker_rate program tier) 10000, mul-le-mul_left pc (maker_rate-le program tier), mul_comm pc (greatest_maker_rate program))

-- rebates of at most the greatest rate, and the referrer's part, are at most the fee
pub fee-covers : (program : Program) (tier : Tier) (pc rebates : ℕ) → 10000 * rebates ≤ greatest_maker_rate program * pc
    → referrer_part (taker_fee program tier pc) + rebates ≤ taker_fee program tier pc
fee-covers program tier pc rebates bounded =
    let halves : pc * (2 * greatest_maker_rate program) ≤ pc * taker_rate program tier = mul-le-mul_left pc (greatest_maker_rate-half program tier) in
    let twice : pc * (2 * greatest_maker_rate program) ≡ 2 * (greatest_maker_rate program * pc) = search rules in
    omega (arith, taker_fee-covers program tier pc)

-- no maker gets back more than five hundredths of a percent
pub greatest_maker_rate-le : (program : Program) → greatest_maker_rate program ≤ 5
unfolding greatest_maker_rate
greatest_maker_rate-le Serum = omega arith
greatest_maker_rate-le OpenBook = omega arith

-- a rebate is at most the quote
pub maker_rebate-le : (program : Program) (tier : Tier) (pc : ℕ) → maker_rebate program tier pc ≤ pc
maker_rebate-le program tier pc =
    omega (arith, maker_rebate-rate program tier pc, mul-le-mul_right pc (greatest_maker_rate-le program))
