use Rattle.std.proofs.Common.{◌≡◌, ◌≤◌, map, vec_len, vec_capacity}
use Rattle.dex_world.proofs.Common.{named_of}
use Rattle.dex_bank.proofs.Common.{account_in, wallet_journal_in}
use Rattle.dex_state.specs.Outcomes.{wallet_journal_of}
use Rattle.dex_bank.proofs.closing.wallets_left.Given as goal

abbrev pub invariant-loop-cell : goal.invariant-loop-cell
invariant-loop-cell l = record {
  accounts : map named_of l.accounts.items ≡ map account_in l.yielded;
  journals : map wallet_journal_of l.journals.items ≡ map wallet_journal_in l.yielded;
  accounts_room : vec_len l.fn.cells ≤ vec_capacity l.accounts;
  journals_room : vec_len l.fn.cells ≤ vec_capacity l.journals;
}
