-- what transfers bring to one wallet is part of what they bring in all
use Rattle.std.proofs.Common.{ℕ, ◌+◌, ◌≤◌, Option, Some, None, arith}
use Rattle.std.proofs.lemmas.Bool.{cond_both}
use Rattle.dex_types.specs.declared.addresses.Address.{Address}
use Rattle.dex_types.specs.declared.rows.Seen.{Seen}
use Rattle.dex_types.specs.declared.rows.WalletSeen.{WalletSeen}
use Rattle.dex_types.specs.Addresses.{is_same}
use Rattle.dex_types.specs.Transfers.{Transfers}
use Rattle.dex_types.specs.Wallets.{amount_at, brought_to}

-- a role brings its amount or nothing
pub amount-le : (address : Address) (role : Option WalletSeen) (amount : ℕ) → amount_at address role amount ≤ amount
amount-le address None amount = omega arith
amount-le address (Some wallet) amount = cond_both (is_same address wallet.address) amount 0 (λ part. part ≤ amount) (λ is. omega arith) (λ is. omega arith)

-- a payout brings to no wallet more than it pays in all
pub brought-le : (seen : Seen) (t : Transfers) (address : Address) → brought_to seen t address ≤ t.coin_out + t.pc_out + t.referrer_out
brought-le seen t address =
    omega (arith, amount-le address seen.coin t.coin_out, amount-le address seen.pc t.pc_out, amount-le address seen.referrer t.referrer_out)
