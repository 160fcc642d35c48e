-- The summary of a large run.
use Rattle.std.specs.Prelude.{◌+◌, ℕ, not, List, ◌++◌, length, codes, count_by}
use Rattle.std.specs.Fmt.{decimal}
use Rattle.std.specs.List.{flat_map, sum_by}
use Rattle.dex_types.specs.declared.movements.Entry.{Entry}
use Rattle.dex_types.specs.Accounts.{PlainMarketAccounts}
use Rattle.dex_types.specs.Market.{Market}
use Rattle.dex_types.specs.Text.{address_text, spaced}
use Rattle.dex_accounts.specs.Decoded.{market_in}
use Rattle.dex_history.specs.Journal.{is_refusal}
use Rattle.dex_report.specs.declared.bulk.BookCounts.{BookCounts}
use Rattle.dex_report.specs.declared.bulk.Counts.{Counts}
use Rattle.dex_report.specs.declared.bulk.MarketFunds.{MarketFunds}
use Rattle.dex_report.specs.declared.bulk.MarketSummary.{MarketSummary}
use Rattle.dex_report.specs.Lines.{line}
use Rattle.dex_state.specs.Outcomes.{PlainMarketJournal, PlainOutcome}

-- how many rows of a journal were refused
abbrev pub refused_in : PlainMarketJournal → ℕ
refused_in journal = count_by (λ (entry : Entry). is_refusal entry.reply) journal.entries

-- how many rows of a journal were not refused
abbrev pub accepted_in : PlainMarketJournal → ℕ
accepted_in journal = count_by (λ (entry : Entry). not (is_refusal entry.reply)) journal.entries

-- what the summary tells of a market
abbrev pub summary_of : Market → MarketSummary
summary_of m = record {
  address = m.listing.address;
  counts = record { bids = length m.bids; asks = length m.asks; events = length m.events };
  funds = record { coin = m.coin_vault; pc = m.pc_vault; fees = m.pc_fees };
}

-- the resting bids and asks, and the pending events
unfoldable pub counts_text : BookCounts → List ℕ
counts_text counts = codes "bids" ++ spaced (decimal counts.bids) ++ codes " asks" ++ spaced (decimal counts.asks) ++ codes " events" ++ spaced (decimal counts.events)

-- the two vaults, and the fees
unfoldable pub funds_text : MarketFunds → List ℕ
funds_text funds = codes "coin" ++ spaced (decimal funds.coin) ++ codes " pc" ++ spaced (decimal funds.pc) ++ codes " fees" ++ spaced (decimal funds.fees)

-- the line of a market
abbrev pub summary_line : MarketSummary → List ℕ
summary_line s = line (codes "market" ++ spaced (address_text s.address) ++ spaced (counts_text s.counts) ++ spaced (funds_text s.funds))

-- the market that these accounts tell
abbrev pub market_line : PlainMarketAccounts → List ℕ
market_line accounts = summary_line (summary_of (market_in accounts))

-- a count, and further entries counted too
abbrev pub counts_with : Counts → List PlainMarketJournal → Counts
counts_with counts journals = record {
  accepted = counts.accepted + sum_by accepted_in journals;
  refused = counts.refused + sum_by refused_in journals;
}

-- how many instructions of an outcome were accepted, and how many refused
abbrev pub counts_of : PlainOutcome → Counts
counts_of outcome =
    record { accepted = sum_by accepted_in outcome.markets; refused = sum_by refused_in outcome.markets }

-- the summary: the number and the rows of the script, how many instructions were accepted and refused, and each market
abbrev pub summary_text : ℕ → ℕ → Counts → List PlainMarketAccounts → List ℕ
summary_text number rows counts markets =
    line (codes "bulk" ++ spaced (decimal number) ++ spaced (decimal rows))
    ++ line (codes "accepted" ++ spaced (decimal counts.accepted))
    ++ line (codes "refused" ++ spaced (decimal counts.refused))
    ++ flat_map market_line markets

-- the summary of an outcome
abbrev pub bulk_text : ℕ → ℕ → PlainOutcome → List ℕ
bulk_text number rows outcome = summary_text number rows (counts_of outcome) outcome.accounts.markets
