-- The setup rows of made scripts, and the rows that open the accounts.
use Rattle.std.specs.Prelude.{ℕ, ◌++◌, List, codes}
use Rattle.std.specs.Fmt.{decimal}
use Rattle.dex_report.specs.declared.made_rows.MadeMarket.{MadeMarket}
use Rattle.dex_report.specs.declared.made_rows.MadeMarket.TheVariants.{First, Second}
use Rattle.dex_report.specs.Lines.{line, numbered}
use Rattle.dex_report.specs.MadeRows.{account_text, market_text, opening_line}

-- trader k's two wallets
abbrev pub wallet_lines : ℕ → List ℕ
wallet_lines k =
    line (codes "wallet,c" ++ decimal k ++ codes ",base,u" ++ decimal k ++ codes ",1000000000")
    ++ line (codes "wallet,q" ++ decimal k ++ codes ",quote,u" ++ decimal k ++ codes ",1000000000")

-- a market of the usual sizes, with lots of 100 and 10
abbrev pub market_line : MadeMarket → List ℕ
market_line market =
    line (codes "market," ++ market_text market ++ codes ",base,quote,admin,909,909,2978,AAAAAABkAAAAAAAAAAoAAAAAAAAAAAAAAAAAAAAAAAEAAAAAAAAA")

-- trader k's account on a market
abbrev pub orders_line : MadeMarket → ℕ → List ℕ
orders_line market k = line (codes "orders," ++ market_text market ++ codes "," ++ account_text market k)

-- the accounts: two mints, the wallets of eight traders, two markets, and the accounts on each
abbrev pub accounts_text : List ℕ
accounts_text =
    line (codes "mint,base,6") ++ line (codes "mint,quote,6") ++ numbered wallet_lines 8 ++ market_line First ++ market_line Second
    ++ numbered (orders_line First) 8 ++ numbered (orders_line Second) 8

-- the accounts, and the rows that open those on markets
abbrev pub setup_text : List ℕ
setup_text = accounts_text ++ numbered (opening_line First) 8 ++ numbered (opening_line Second) 8
