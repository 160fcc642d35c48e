-- What a row pays into vaults and out of them, as parcels.
use Rattle.std.specs.Prelude.{ℕ, ◌≡◌, ◌+◌, ◌-◌, ◌<◌, ◌≤◌, ◌^◌, ◌==◌, Option, Some, None, if◌then◌else◌}
use Rattle.dex_types.specs.declared.addresses.Address.{Address}
use Rattle.dex_types.specs.Market.{Market}
use Rattle.dex_types.specs.Side.{Token, Coin, Pc, by_token}
use Rattle.dex_types.specs.Transfers.{Transfers}
use Rattle.dex_plan.specs.declared.plan.Plan.{Plan}
use Rattle.dex_plan.specs.Owing.{deposit_of}
use Rattle.dex_history.specs.Balances.{mint_of}
use Rattle.dex_cell.specs.declared.payouts.Payouts.{Payouts}
use Rattle.dex_wallet.specs.TokenAmount.{TokenAmount}

-- so much of a mint as a parcel, and none of nothing
abbrev pub parcel_of : Address → ℕ → Option TokenAmount
parcel_of mint amount = if amount == 0 then None else Some (record { mint = mint; amount = amount })

-- the parcel of a plan's deposit of a token
abbrev pub paid_in : Token → Plan → Market → Option TokenAmount
paid_in token plan m = parcel_of (mint_of token m) (by_token token (deposit_of plan).coin (deposit_of plan).pc)

-- the parcels that the wallets of a row's three roles are paid
abbrev pub paid_out : Market → Transfers → Payouts
paid_out m t = record {
  coin = parcel_of (mint_of Coin m) t.coin_out;
  pc = parcel_of (mint_of Pc m) t.pc_out;
  referrer = parcel_of (mint_of Pc m) t.referrer_out;
}

-- a vault's parcel after so much was paid out of it and brought into it
abbrev pub moved_share : TokenAmount → ℕ → ℕ → TokenAmount
moved_share share out into = record share { amount = share.amount - out + into }

-- `out` can be taken from the vault's parcel, what is left and `into` fit 64 bits together, and `parcel` is one of
-- `into` (none where that is 0)
pub record CanMoveShare (share : TokenAmount) (out into : ℕ) (parcel : Option TokenAmount) : Type 0 where
  pub held : out ≤ share.amount
  pub fits : share.amount - out + into < 2 ^ 64
  pub brought : parcel ≡ parcel_of share.mint into
