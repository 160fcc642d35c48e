-- An instruction that is done behind a check.
use Rattle.std.proofs.Common.{◌≡◌, ◌∙◌, ap, subst, sym}
use Rattle.dex_abi.specs.declared.numbers.ReplyNumbers.{ReplyNumbers}
use Rattle.dex_abi.specs.declared.records.Instruction.{Instruction}
use Rattle.dex_abi.specs.declared.records.MarketBytes.{MarketBytes}
use Rattle.dex_abi.specs.declared.records.WalletsBytes.{WalletsBytes}
use Rattle.dex_abi.specs.Checked.{counted_on}
use Rattle.dex_abi.specs.Lent.{CanProcess, EndsOn, accounts_of, acting_on, purse_of, roles_in, sums_of}
use Rattle.dex_accounts.specs.Decoded.{AreSound, market_in}
use Rattle.dex_check.specs.Both.{CanAct}
use Rattle.dex_process.specs.Process.{Acting, acting}
use Rattle.dex_ring.specs.declared.pending_fills.PendingFills.{PendingFills}
use Rattle.dex_ring.specs.PendingFills.{pending_fills_of}
use Rattle.dex_ring.specs.Ring.{ring_of}
use Rattle.dex_types.specs.Accounts.{PlainMarketAccounts}

-- what was counted
abbrev pub AreCounted : MarketBytes → MarketBytes → Type 0
AreCounted m counted = sums_of counted.pending_coin counted.pending_pc ≡ pending_fills_of (ring_of m.events.now).events

are-pending : (m counted : MarketBytes) → AreCounted m counted → sums_of counted.pending_coin counted.pending_pc ≡ pending_fills_of (market_in (accounts_of m)).events
unfolding market_in
are-pending m counted is = is

pub can-process : (i : Instruction) (m : MarketBytes) (w : WalletsBytes) (counted : MarketBytes) → CanAct (roles_in i) (accounts_of m) (purse_of w)
    → AreCounted m counted → accounts_of counted ≡ accounts_of m → CanProcess (roles_in i) counted w
can-process i m w counted can is same = record {
  sound = subst AreSound (sym same) can.sound;
  wallets = can.wallets;
  apart = can.apart;
  pending = are-pending m counted is ∙ ap (λ (a : PlainMarketAccounts). pending_fills_of (market_in a).events) (sym same);
}

pub counted-ends : (i : Instruction) (numbers : ReplyNumbers) (m : MarketBytes) (w : WalletsBytes) (counted : MarketBytes) (left : Acting)
    → AreCounted m counted → accounts_of counted ≡ accounts_of m → EndsOn i numbers (acting_on counted w) left → EndsOn i numbers (counted_on m w) left
counted-ends i numbers m w counted left is same ends =
    subst (λ (before : Acting). EndsOn i numbers before left)
    (ap (λ (a : PlainMarketAccounts). acting a (purse_of w) (sums_of counted.pending_coin counted.pending_pc)) same
    ∙ ap (λ (sums : PendingFills). acting (accounts_of m) (purse_of w) sums) (are-pending m counted is))
    ends
