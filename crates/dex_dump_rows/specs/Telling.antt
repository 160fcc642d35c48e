-- What the answer of a call about a row tells, without its buffers.
use Rattle.std.specs.Prelude.{◌≡◌, Option, Some, None, Result, Ok, Err}
use Rattle.dex_types.specs.Accounts.{market_accounts_of, named_of, orders_account_of}
use Rattle.dex_dump_rows.specs.declared.lines.Line.{Line}
use Rattle.dex_dump_rows.specs.declared.lines.Line.TheVariants as row
use Rattle.dex_dump_rows.specs.declared.lines.LineError.{LineError}
use Rattle.dex_dump_rows.specs.declared.lines.LineError.TheVariants.{Grammar, NoMemory}
use Rattle.dex_dump_rows.specs.Lines.{PlainLine}
use Rattle.dex_dump_rows.specs.Lines.PlainLine.{Mint, Srm, Msrm, Wallet, Market, Orders, End}

-- a line without its buffers
abbrev pub plain_line : Line → PlainLine
plain_line (row.Mint mint) = Mint (named_of mint)
plain_line (row.Srm mint) = Srm mint
plain_line (row.Msrm mint) = Msrm mint
plain_line (row.Wallet wallet) = Wallet (named_of wallet)
plain_line (row.Market market) = Market (market_accounts_of market)
plain_line (row.Orders market account) = Orders market (orders_account_of account)
plain_line row.End = End

-- The answer is what is meant, as a view shows it, or that the row has no such form. A lack of memory tells nothing.
abbrev pub TellsAs : {A B : Type 0} → (A → B) → Result A LineError → Option B → Type 0
TellsAs view (Ok x) meant = meant ≡ Some (view x)
TellsAs view (Err Grammar) meant = meant ≡ None
TellsAs view (Err NoMemory) meant = Unit {0}

-- the line is what is meant, or the row has no such form
abbrev pub TellsLine : Result Line LineError → Option PlainLine → Type 0
TellsLine result meant = TellsAs plain_line result meant
