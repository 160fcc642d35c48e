-- integers that are what came in less what went out
use Rattle.std.proofs.Common.{ℕ, ℤ, pos, ◌+◌, ◌≡◌, ◌+ℤ◌, ◌-ℤ◌, arith}
use Rattle.std.proofs.lemmas.Int.{ints}

-- an account's worth changes by what it gained less what it paid, where what is held for it and what was settled out to
-- it did
pub worth-changes : (held deposited settled after deposit payout gains pays : ℕ) → after + payout + pays ≡ held + deposit + gains
    → (pos after -ℤ pos (deposited + deposit)) +ℤ pos (settled + payout)
    ≡ ((pos held -ℤ pos deposited) +ℤ pos settled) +ℤ (pos gains -ℤ pos pays)
worth-changes held deposited settled after deposit payout gains pays moves = omega (arith, ints)

pub nothing-more : (x : ℤ) → x +ℤ (pos 0 -ℤ pos 0) ≡ x
nothing-more x = omega (arith, ints)

pub more-and-more : (x : ℤ) (gains pays more other : ℕ) → (x +ℤ (pos gains -ℤ pos pays)) +ℤ (pos more -ℤ pos other) ≡ x +ℤ (pos (gains + more) -ℤ pos (pays + other))
more-and-more x gains pays more other = omega (arith, ints)
