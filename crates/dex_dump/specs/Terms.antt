-- A market's row before its queues and its sides.
use Rattle.std.specs.Prelude.{ℕ, List, [], ◌∷◌, ◌++◌, codes}
use Rattle.dex_types.specs.Accounts.{PlainMarketAccounts}
use Rattle.dex_types.specs.Text.{address_text}
use Rattle.dex_dump.specs.DumpText.{base64_text}

-- a market without queues, sides and open-orders accounts
abbrev pub terms_of : PlainMarketAccounts → PlainMarketAccounts
terms_of market = record market { requests = []; events = []; bids = []; asks = []; orders = [] }

-- what is written of it
abbrev pub terms_text : PlainMarketAccounts → List ℕ
terms_text market =
    codes "market" ++ ((44 ∷ address_text market.address) ++ ((44 ∷ address_text market.authority)
    ++ ((44 ∷ base64_text market.market) ++ ((44 ∷ base64_text market.coin_vault) ++ (44 ∷ base64_text market.pc_vault)))))
