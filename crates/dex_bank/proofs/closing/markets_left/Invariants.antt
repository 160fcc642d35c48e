use Rattle.std.proofs.Common.{◌≡◌, ◌≤◌, length, map, vec_len, vec_capacity}
use Rattle.dex_world.proofs.Common.{market_accounts_of}
use Rattle.dex_bank.proofs.Common.{MarketCellState, market_journal_in}
use Rattle.dex_state.specs.Outcomes.{market_journal_of}
use Rattle.dex_bank.proofs.closing.markets_left.Given as goal

abbrev pub invariant-loop-cell : goal.invariant-loop-cell
invariant-loop-cell l = record {
  accounts : map market_accounts_of l.accounts.items ≡ map (λ (cell : MarketCellState). cell.accounts) l.yielded;
  journals : map market_journal_of l.journals.items ≡ map market_journal_in l.yielded;
  accounts_so_far : vec_len l.accounts ≡ length l.yielded;
  journals_so_far : vec_len l.journals ≡ length l.yielded;
  accounts_room : vec_len l.fn.cells ≤ vec_capacity l.accounts;
  journals_room : vec_len l.fn.cells ≤ vec_capacity l.journals;
}
