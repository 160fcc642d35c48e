-- Native amounts that a row moves between wallets and the market's vaults.
use Rattle.std.specs.Prelude.{ℕ, ◌+◌, ◌-◌}
use Rattle.dex_types.specs.Market.{Market}
use Rattle.dex_types.specs.Side.{Token, by_token}

-- what leaves and enters wallets, by the role under which the row names the wallet
pub record Transfers : Type 0 where
  pub coin_in : ℕ
  pub pc_in : ℕ
  pub coin_out : ℕ
  pub pc_out : ℕ
  pub referrer_out : ℕ

-- nothing moves
abbrev pub no_transfers : Transfers
no_transfers = record { coin_in = 0; pc_in = 0; coin_out = 0; pc_out = 0; referrer_out = 0 }

-- a deposit of a token from the wallet of its role into its vault
abbrev pub deposit : Token → ℕ → Transfers
deposit token amount = record no_transfers { coin_in = by_token token amount 0; pc_in = by_token token 0 amount }

-- a payment of one token and a payout of the other
abbrev pub exchange : Token → ℕ → ℕ → Transfers
exchange token paid got = record {
  coin_in = by_token token paid 0;
  pc_in = by_token token 0 paid;
  coin_out = by_token token 0 got;
  pc_out = by_token token got 0;
  referrer_out = 0;
}

-- payouts to the wallets of the three roles
abbrev pub payout : ℕ → ℕ → ℕ → Transfers
payout coin pc referrer = record { coin_in = 0; pc_in = 0; coin_out = coin; pc_out = pc; referrer_out = referrer }

-- the market with its vaults after the transfers
abbrev pub with_transfers : Transfers → Market → Market
with_transfers t m = record m {
  coin_vault = m.coin_vault + t.coin_in - t.coin_out;
  pc_vault = m.pc_vault + t.pc_in - t.pc_out - t.referrer_out;
}
