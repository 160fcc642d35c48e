use Rattle.std.proofs.Common.{◌≡◌, ℕ, ◌<◌, false, get_or}
use Rattle.dex_types.specs.Accounts.{PlainAccount}
use Rattle.dex_types.specs.Addresses.{is_same}
use Rattle.dex_lent.specs.Flat.{accounts_in}
use Rattle.dex_lent.proofs.flat.place_in.Given as goal

abbrev pub invariant-loop-place : goal.invariant-loop-place
invariant-loop-place l =
    (earlier : ℕ) → earlier < l.place → (default : PlainAccount) → is_same l.address (get_or (accounts_in l.bytes) earlier default).address ≡ false
