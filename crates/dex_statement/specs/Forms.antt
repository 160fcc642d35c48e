-- The forms of rows, by their first field.
use Rattle.std.specs.Prelude.{ℕ, if◌then◌else◌, List, bytes_eq, codes, Option, Some, None}
use Rattle.dex_statement.specs.declared.forms.Form.{Form}
use Rattle.dex_statement.specs.declared.forms.Form.TheVariants.{Program, Clock, Mint, Srm, Msrm, Wallet, Market, Orders, Bytes, Words, Swap}

-- setup rows
abbrev pub setup_form_of : List ℕ → Option Form
setup_form_of word =
    if bytes_eq word (codes "mint") then Some Mint
    else (if bytes_eq word (codes "srm") then Some Srm
    else (if bytes_eq word (codes "msrm") then Some Msrm
    else (if bytes_eq word (codes "wallet") then Some Wallet
    else (if bytes_eq word (codes "market") then Some Market
    else (if bytes_eq word (codes "orders") then Some Orders
    else None)))))

-- all rows: `ix` has an instruction's bytes, `do` its words, and `swap` has two legs
abbrev pub form_of : List ℕ → Option Form
form_of word =
    if bytes_eq word (codes "program") then Some Program
    else (if bytes_eq word (codes "clock") then Some Clock
    else (if bytes_eq word (codes "ix") then Some Bytes
    else (if bytes_eq word (codes "do") then Some Words
    else (if bytes_eq word (codes "swap") then Some Swap
    else setup_form_of word))))
