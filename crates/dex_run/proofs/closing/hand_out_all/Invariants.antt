use Rattle.std.proofs.Common.{◌≤◌, All, vec_capacity, vec_len}
use Rattle.dex_run.proofs.Common.{IsSeat, MarketColumns, WalletColumns}
use Rattle.dex_run.proofs.closing.hand_out_all.Given as goal

abbrev pub invariant-loop-seat : goal.invariant-loop-seat
invariant-loop-seat l = record {
  markets : MarketColumns l.bank l.yielded l.markets.items;
  market_room : All (λ column. vec_len l.fn.seats ≤ vec_capacity column) l.markets.items;
  wallets : WalletColumns l.bank l.yielded l.wallets.items;
  wallet_room : All (λ column. vec_len l.fn.seats ≤ vec_capacity column) l.wallets.items;
  kept : All IsSeat l.yielded;
}
