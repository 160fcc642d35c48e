-- Funds out: an account's free funds and referrer part, and the market's fees.
use Rattle.std.specs.Prelude.{ℕ, ◌+◌, ◌-◌, Bool, if◌then◌else◌}
use Rattle.dex_types.specs.declared.addresses.Address.{Address}
use Rattle.dex_types.specs.declared.replies.Reply.{Reply}
use Rattle.dex_types.specs.declared.replies.Reply.TheVariants.{Settled, Swept}
use Rattle.dex_types.specs.Market.{Market}
use Rattle.dex_types.specs.Trader.{Account, Balance, Open, put_trader}
use Rattle.dex_types.specs.Transfers.{Transfers, payout, with_transfers}

-- what settling an account pays, in native amounts: to the three wallets, and of the referrer part to the market's fees
pub record Settlement : Type 0 where
  pub coin : ℕ
  pub pc : ℕ
  pub referrer : ℕ
  pub to_fees : ℕ

-- all free funds are paid out; the referrer part goes to the referrer's wallet, or to the market's fees where none is
-- named
abbrev pub settlement : Bool → Account → Settlement
settlement has_referrer account = record {
  coin = account.coin.free;
  pc = account.pc.free;
  referrer = if has_referrer then account.referrer else 0;
  to_fees = if has_referrer then 0 else account.referrer;
}

-- funds of which all that is free was paid out
abbrev pub paid_out : Balance → Balance
paid_out funds = record { free = 0; total = funds.total - funds.free }

-- the account after it was settled
abbrev pub settled_account : Account → Account
settled_account account = record account { coin = paid_out account.coin; pc = paid_out account.pc; referrer = 0 }

-- what moves to the wallets
abbrev pub settle_transfers : Settlement → Transfers
settle_transfers s = payout s.coin s.pc s.referrer

-- the market after an account was settled: its referrer rebates fall by the referrer part, wherever that goes
abbrev pub after_settle : Address → Account → Settlement → Market → Market
after_settle owner account s m =
    record (with_transfers (settle_transfers s) m) {
      traders = put_trader owner (Open (settled_account account)) m.traders;
      pc_fees = m.pc_fees + s.to_fees;
      referrer_rebates = m.referrer_rebates - (s.referrer + s.to_fees);
    }

-- what settling is answered
abbrev pub settle_reply : Settlement → Reply
settle_reply s = Settled s.coin s.pc s.referrer

-- what sweeping the fees moves to the quote wallet
abbrev pub sweep_transfers : Market → Transfers
sweep_transfers m = payout 0 m.pc_fees 0

-- the market after its quote fees were swept
abbrev pub after_sweep : Market → Market
after_sweep m = record (with_transfers (sweep_transfers m) m) { pc_fees = 0 }

-- what sweeping is answered
abbrev pub sweep_reply : Market → Reply
sweep_reply m = Swept m.pc_fees
