-- What a part of a report says, and what it is to write it.
use Rattle.std.specs.Prelude.{◌≡◌, [], ℕ, List, Vec, IfOk}
use Rattle.std.specs.declared.alloc.Global.{Global}
use Rattle.std.specs.List.{All, flat_map}
use Rattle.dex_types.specs.Accounts.{market_accounts_of}
use Rattle.dex_state.specs.Held.{IsHeldMarket}
use Rattle.dex_dump.specs.DumpText.{lines_text, market_rows}
use Rattle.dex_dump.specs.Pieces.{piece_text}
use Rattle.dex_dump.specs.declared.pieces.Piece.{Piece}
use Rattle.dex_state.specs.Outcomes.{market_journal_of, wallet_journal_of}
use Rattle.dex_report.specs.Report.{market_lines, wallet_lines}
use Rattle.dex_report.specs.Telling.{FitMarket, IsToldWallet}
use Rattle.dex_report.specs.declared.part.Part.{Part}
use Rattle.dex_report.specs.declared.part.Part.TheVariants.{Text, Market, Wallets, Rows, Spent}
use Rattle.dex_report.specs.declared.writing.Writing.{Writing}

-- the values of a part fit their types
abbrev pub FitPart : Part → Type 0
FitPart (Text bytes) = Unit {0}
FitPart (Market journal) = FitMarket (market_journal_of journal)
FitPart (Wallets journals) = All (λ journal. IsToldWallet (wallet_journal_of journal)) journals.items
FitPart (Rows market) = IsHeldMarket (market_accounts_of market)
FitPart (Spent rows) = Unit {0}

-- the lines of a part
abbrev pub part_lines : Part → List ℕ
part_lines (Text bytes) = bytes.items
part_lines (Market journal) = market_lines (market_journal_of journal)
part_lines (Wallets journals) = flat_map (λ journal. wallet_lines (wallet_journal_of journal)) journals.items
part_lines (Rows market) = lines_text (market_rows (market_accounts_of market))
part_lines (Spent rows) = []

-- the parts of groups, in their order
abbrev pub parts_in : List (Vec Part Global) → List Part
parts_in groups = flat_map (λ (group : Vec Part Global). group.items) groups

-- pieces, one after the other
abbrev pub whole : List Piece → List ℕ
whole pieces = flat_map piece_text pieces

-- parts were written: the text is their lines, and their values fit
pub record WritesParts (before after : Writing) : Type 0 where
  pub fits : IfOk after.text (λ pieces. All FitPart before.parts.items)
  pub text : IfOk after.text (λ pieces. whole pieces.items ≡ flat_map part_lines before.parts.items)
