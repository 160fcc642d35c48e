-- Entries found for rows.
use Rattle.std.proofs.Common.{◌≡◌, ◌∙◌, ◌==◌, ℕ, Bool, List, [], Option, None, Some, ap, get_or, map, map-id, sym}
use Rattle.std.specs.List.{position}
use Rattle.dex_types.specs.declared.movements.Entry.{Entry}
use Rattle.dex_types.specs.Addresses.{is_same}
use Rattle.dex_types.specs.Rows.{PlainRow}
use Rattle.dex_state.specs.declared.outcome.MarketJournal.{MarketJournal}
use Rattle.dex_state.specs.Outcomes.{PlainMarketJournal, market_journal_of}
use Rattle.dex_script_types.specs.Firsts.{first_of}
use Rattle.dex_script.proofs.FirstLaws.{first-at, first-none, is-first, none-passes}
use Rattle.dex_desk.specs.Replies.{answer_to, entry_of, line_told}

-- ---- the entry of a number

abbrev of_row : ℕ → Entry → Bool
of_row number entry = entry.row == number

abbrev itself : Entry → Entry
itself entry = entry

pub entry-none : (entries : List Entry) (number : ℕ) → position (of_row number) entries ≡ None → entry_of number entries ≡ None
entry-none entries number none =
    ap (λ (l : List Entry). first_of (of_row number) itself l) (sym (map-id entries))
    ∙ first-none (of_row number) itself itself entries (none-passes (of_row number) entries none)

pub entry-found : (entries : List Entry) (number place : ℕ) (d : Entry) → position (of_row number) entries ≡ Some place → entry_of number entries ≡ Some (get_or entries place d)
entry-found entries number place d found =
    let first = is-first (of_row number) entries place d found in
    ap (λ (l : List Entry). first_of (of_row number) itself l) (sym (map-id entries))
    ∙ first-at (of_row number) itself itself entries place d first.within first.passes first.others

-- ---- the journal of a market

abbrev is_of : PlainRow → PlainMarketJournal → Bool
is_of row journal = is_same row.market journal.address

abbrev tells : PlainRow → PlainMarketJournal → Option Entry
tells row journal = entry_of row.number journal.entries

pub no-journal : (journals : List MarketJournal) (row : PlainRow) → position (λ (journal : MarketJournal). is_same row.market journal.address) journals ≡ None
    → answer_to (map market_journal_of journals) row ≡ []
no-journal journals row none =
    ap line_told (first-none (is_of row) (tells row) market_journal_of journals (none-passes (λ (journal : MarketJournal). is_same row.market journal.address) journals none))

pub journal-found : (journals : List MarketJournal) (row : PlainRow) (place : ℕ) (d : MarketJournal)
    → position (λ (journal : MarketJournal). is_same row.market journal.address) journals ≡ Some place
    → answer_to (map market_journal_of journals) row ≡ line_told (Some (entry_of row.number (get_or journals place d).entries.items))
journal-found journals row place d found =
    let first = is-first (λ (journal : MarketJournal). is_same row.market journal.address) journals place d found in
    ap line_told (first-at (is_of row) (tells row) market_journal_of journals place d first.within first.passes first.others)
