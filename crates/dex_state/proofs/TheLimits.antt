-- The limits that have names are limits, and the widest allow what others do.
use Rattle.std.proofs.Common.{arith}
use Rattle.std.proofs.lemmas.List.Elements.{All-weaker}
use Rattle.dex_types.specs.Accounts.{PlainAccounts}
use Rattle.dex_state.specs.Accepted.{AreAccepted, HasFew}
use Rattle.dex_types.specs.declared.limits.Limits.{Limits}
use Rattle.dex_types.specs.declared.limits.TheConstants.{STANDARD, WIDE}
use Rattle.dex_types.specs.Limits.{AreLimits}

pub standard-are : AreLimits STANDARD
standard-are = record {
  mints = omega arith;
  wallets = omega arith;
  markets = omega arith;
  orders = omega arith;
  items = omega arith;
}

pub wide-are : AreLimits WIDE
wide-are = record {
  mints = omega arith;
  wallets = omega arith;
  markets = omega arith;
  orders = omega arith;
  items = omega arith;
}

pub widened : (limits : Limits) (accounts : PlainAccounts) → AreAccepted limits accounts → AreAccepted WIDE accounts
widened limits accounts are = record {
  mints = are.mints;
  wallets = are.wallets;
  markets = are.markets;
  wallet_mints = are.wallet_mints;
  market_mints = are.market_mints;
  once = are.once;
  srm = are.srm;
  msrm = are.msrm;
  apart = are.apart;
  within = wide-are;
  few_mints = omega (arith, are.few_mints, are.within.mints);
  few_wallets = omega (arith, are.few_wallets, are.within.wallets);
  few_markets = omega (arith, are.few_markets, are.within.markets);
  few_orders = All-weaker (HasFew limits) (HasFew WIDE) (λ market few. omega (arith, few, are.within.orders)) accounts.markets are.few_orders;
}
