-- What an instruction does to the accounts of a market and to the wallets that it names.
use Rattle.std.specs.Prelude.{ℕ, List, ◌≡◌, true}
use Rattle.dex_accounts.specs.Decoded.{AreSound, market_in}
use Rattle.dex_history.specs.Journal.{is_refusal}
use Rattle.dex_plan.specs.declared.ask.Ask.{Ask}
use Rattle.dex_plan.specs.Given.{asked_by}
use Rattle.dex_process.specs.declared.processing.Terms.{Terms}
use Rattle.dex_purse.specs.declared.lent_wallets.Roles.{Roles}
use Rattle.dex_purse.specs.Purse.{AreApart, AreWallets, Purse, Sees, moved_by, seen_as}
use Rattle.dex_ring.specs.declared.pending_fills.PendingFills.{PendingFills}
use Rattle.dex_ring.specs.PendingFills.{pending_fills_of}
use Rattle.dex_step.specs.Acting.{KeepsAccounts}
use Rattle.dex_types.specs.declared.addresses.Address.{Address}
use Rattle.dex_types.specs.declared.replies.Reply.{Reply}
use Rattle.dex_types.specs.declared.rows.Seen.{Seen}
use Rattle.dex_types.specs.Accounts.{PlainMarketAccounts}
use Rattle.dex_types.specs.Steps.{Step, step}

-- what an instruction acts on: a market's accounts, the wallets that it names, and what pending makers' fills are to
-- take off totals
pub record Acting : Type 0 where
  pub accounts : PlainMarketAccounts
  pub wallets : Purse
  pub pending : PendingFills

-- these together
abbrev pub acting : PlainMarketAccounts → Purse → PendingFills → Acting
acting accounts wallets pending = record { accounts = accounts; wallets = wallets; pending = pending }

-- four wallets by their addresses and bytes
abbrev pub purse_with : Address → List ℕ → Address → List ℕ → Address → List ℕ → Address → List ℕ → Purse
purse_with first_address first second_address second third_address third fourth_address fourth = record {
  first = record { address = first_address; bytes = first };
  second = record { address = second_address; bytes = second };
  third = record { address = third_address; bytes = third };
  fourth = record { address = fourth_address; bytes = fourth };
}

-- what an instruction sees: the wallets of its roles, and what holds for all
abbrev pub seen_by : Roles → Terms → Purse → Seen
seen_by roles terms purse = record {
  coin = seen_as roles.coin purse;
  pc = seen_as roles.pc purse;
  discount = seen_as roles.discount purse;
  referrer = seen_as roles.referrer purse;
  srm = terms.srm;
  msrm = terms.msrm;
  program = terms.program;
}

-- the step that an instruction asks of the market that accounts stand for
abbrev pub step_of : Ask → Seen → PlainMarketAccounts → Step
step_of ask seen accounts = step (asked_by ask) seen (market_in accounts)

-- the accounts stand for a sound market, the named wallets are token accounts of distinct addresses, and the sums are
-- those of the queue
pub record CanAct (roles : Roles) (seen : Seen) (on : Acting) : Type 0 where
  pub sound : AreSound on.accounts
  pub wallets : AreWallets roles on.wallets
  pub apart : AreApart roles on.wallets
  pub sees : Sees roles on.wallets seen
  pub pending : on.pending ≡ pending_fills_of (market_in on.accounts).events

-- a step was done: its reply was answered; the accounts stand for the market that it leaves, which is sound; each
-- wallet moved by exactly what it takes and brings; the sums are those of the events that are pending there; and
-- addresses, the authority and accepted accounts stay so
pub record HasActed (roles : Roles) (reply : Reply) (before after : Acting) (s : Step) : Type 0 where
  pub reply_is : reply ≡ s.reply
  pub market : market_in after.accounts ≡ s.market
  pub sound : AreSound after.accounts
  pub wallets : after.wallets ≡ moved_by roles s.transfers before.wallets
  pub pending : after.pending ≡ pending_fills_of (market_in after.accounts).events
  pub kept : KeepsAccounts before.accounts after.accounts

-- a step was done; and where it was refused, nothing was changed, byte by byte
pub record HasProcessed (roles : Roles) (reply : Reply) (before after : Acting) (s : Step) : Type 0 where
  pub acted : HasActed roles reply before after s
  pub same : is_refusal reply ≡ true → after ≡ before
