-- The cells with which a script starts are cells.
use Rattle.std.proofs.Common.{◌≡◌, ℕ, suc, Bool, false, ◌||◌, List, [], ◌∷◌, get_or, map, refl, sym, ap, subst, ◌∙◌, arith}
use Rattle.dex_world.proofs.Common.{Address, All-head, All-map, All-tail, PlainAccount, PlainAccounts, PlainMarketAccounts, PlainRow, is_same}
use Rattle.dex_bank.proofs.Common.{All, AreAccepted, AreCells, AreSound, CellsState, IsAccepted, IsMarketCell, IsStart, IsWalletCell, Limits, address_of, is_among, market_opened, wallet_opened}
use Rattle.dex_cell.specs.CellState as market
use Rattle.dex_act.specs.Wallets.{AreApart}
use Rattle.dex_script_types.proofs.Apart.{AreDistinct, wallets-distinct}

-- ---- each of them

pub IsMarketCell-new : (accounts : PlainMarketAccounts) (room : ℕ) → AreSound accounts → IsAccepted accounts → IsMarketCell (market.new_cell accounts room)
IsMarketCell-new accounts room sound accepted = record {
  sound = sound;
  accepted = accepted;
  one_market = record { address = refl; authority = refl; orders = refl };
  start = sound.sound;
  legal = tt;
  end_is = refl;
  coin = refl;
  pc = refl;
  room = omega arith;
}

market_cells : (rows : List PlainRow) (markets : List PlainMarketAccounts) → All AreSound markets → All IsAccepted markets → All IsMarketCell (map (market_opened rows) markets)
market_cells rows markets sound accepted =
    All-map IsMarketCell (market_opened rows) markets (λ k d within. IsMarketCell-new (get_or markets k d) _ (sound k d within) (accepted k d within))

-- ---- no two wallets have one address

cells-apart : (rows : List PlainRow) (accounts : List PlainAccount) → AreDistinct (map address_of accounts) → AreApart (map (wallet_opened rows) accounts)
cells-apart rows [] distinct = tt
cells-apart rows (first ∷ others) distinct = (
  none-among others (λ k d within. distinct 0 (suc k) d (omega arith) (omega (arith, within))),
  cells-apart rows others (λ i j d less within. distinct (suc i) (suc j) d (omega (arith, less)) (omega (arith, within))),
)
  where
    -- an address that is none of theirs is that of no cell
    none-among : (some : List PlainAccount) → All (λ (other : Address). is_same first.address other ≡ false) (map address_of some)
        → is_among first.address (map (wallet_opened rows) some) ≡ false
    none-among [] away = refl
    none-among (account ∷ some) away =
        let Away : Address → Type 0 = λ (other : Address). is_same first.address other ≡ false in
        ap (λ (b : Bool). b || is_among first.address (map (wallet_opened rows) some)) (All-head Away account.address (map address_of some) away)
        ∙ none-among some (All-tail Away account.address (map address_of some) away)

pub wallets-apart : {limits : Limits} (rows : List PlainRow) (accounts : PlainAccounts) → AreAccepted limits accounts → AreApart (map (wallet_opened rows) accounts.wallets)
wallets-apart rows accounts accepted = cells-apart rows accounts.wallets (wallets-distinct accounts accepted)

-- ---- all of them

pub AreCells-opened : {limits : Limits} (start : PlainAccounts) (rows : List PlainRow) (cells : CellsState) → IsStart limits start → cells.markets ≡ map (market_opened rows) start.markets
    → cells.wallets ≡ map (wallet_opened rows) start.wallets → All IsWalletCell cells.wallets → AreCells cells
AreCells-opened start rows cells is markets wallets kept = record {
  markets = subst (All IsMarketCell) (sym markets) (market_cells rows start.markets is.sound is.accepted.markets);
  wallets = kept;
  apart = subst AreApart (sym wallets) (wallets-apart rows start is.accepted);
}
