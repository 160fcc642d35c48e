-- A cell's parcels move as its row's step says.
use Rattle.std.proofs.Common.{◌≡◌, ℕ, ◌+◌, ◌<◌, ◌^◌, Option, sym, ap, subst, ◌∙◌, arith}
use Rattle.dex_types.specs.declared.addresses.Address.{Address}
use Rattle.dex_types.specs.declared.rows.Row.{Row}
use Rattle.dex_types.specs.declared.rows.Seen.{Seen}
use Rattle.dex_types.specs.Accounts.{PlainMarketAccounts}
use Rattle.dex_types.specs.Market.{Listing, Market}
use Rattle.dex_types.specs.Rows.{row_of}
use Rattle.dex_types.specs.Side.{Coin, Pc}
use Rattle.dex_types.specs.Soundness.{IsSound}
use Rattle.dex_types.specs.Steps.{Step}
use Rattle.dex_types.specs.Transfers.{Transfers}
use Rattle.dex_accounts.specs.Decoded.{AreSound, market_in}
use Rattle.dex_history.specs.Balances.{mint_of}
use Rattle.dex_history.specs.Journal.{asked_of, request_of, row_step}
use Rattle.dex_history.proofs.BalanceLaws.{ArePaid}
use Rattle.dex_history.proofs.PriceLaws.{row-sound}
use Rattle.dex_history.proofs.StepConserves.{row-paid}
use Rattle.dex_sound.specs.Kept.{KeepsMarket}
use Rattle.dex_sound.proofs.KeepLaws.{step-keeps}
use Rattle.dex_token.specs.TokenAccount.{WalletWords}
use Rattle.dex_wallet.specs.TokenAmount.{TokenAmount, held_in}
use Rattle.dex_cell.specs.declared.payouts.Payouts.{Payouts}
use Rattle.dex_cell.specs.CellState.{IsMarketCell, MarketCellState, market_at, step_on}
use Rattle.dex_cell.specs.Paying.{CanMoveShare, moved_share, paid_out, parcel_of}

-- so much of a mint
abbrev so_much : Address → ℕ → TokenAmount
so_much mint amount = record { mint = mint; amount = amount }

-- what the vaults of a market's accounts hold
pub coin-held : (accounts : PlainMarketAccounts) → AreSound accounts
    → held_in accounts.coin_vault ≡ so_much (market_in accounts).listing.coin_mint (market_in accounts).coin_vault
coin-held accounts sound = ap (λ (words : WalletWords). so_much words.mint words.amount) sound.stands.coin_vault.words

pub pc-held : (accounts : PlainMarketAccounts) → AreSound accounts
    → held_in accounts.pc_vault ≡ so_much (market_in accounts).listing.pc_mint (market_in accounts).pc_vault
pc-held accounts sound = ap (λ (words : WalletWords). so_much words.mint words.amount) sound.stands.pc_vault.words

-- a step's vaults: what is paid out was there, what is there afterwards fits
record Flows (m : Market) (s : Step) : Type 0 where
  paid : ArePaid s.transfers m
  keeps : KeepsMarket m s
  coin : s.market.coin_vault < 2 ^ 64
  pc : s.market.pc_vault < 2 ^ 64

flows : (row : Row) (seen : Seen) (m : Market) → IsSound m → Flows m (row_step (row_of row) seen m)
flows row seen m sound =
    let bounded = (row-sound (row_of row) seen m sound).funds.bounded in
    record {
      paid = row-paid (asked_of (row_of row)) seen m sound;
      keeps = step-keeps (request_of (row_of row)) seen m;
      coin = omega (arith, bounded Coin);
      pc = omega (arith, bounded Pc);
    }

-- the cell's parcels can be moved so
pub coin-moves : (cell : MarketCellState) (row : Row) (seen : Seen) (parcel : Option TokenAmount) → IsMarketCell cell
    → parcel ≡ parcel_of (mint_of Coin (market_at cell)) (step_on row seen cell).transfers.coin_in
    → CanMoveShare cell.coin (step_on row seen cell).transfers.coin_out (step_on row seen cell).transfers.coin_in parcel
coin-moves cell row seen parcel is brought =
    let m = market_at cell in
    let f = flows row seen m is.sound.sound in
    subst (λ (share : TokenAmount). CanMoveShare share (step_on row seen cell).transfers.coin_out (step_on row seen cell).transfers.coin_in parcel)
    (sym (is.coin ∙ coin-held cell.accounts is.sound)) (record { held = f.paid.coin; fits = omega (arith, f.coin, f.keeps.coin, f.paid.coin); brought = brought })

pub pc-moves : (cell : MarketCellState) (row : Row) (seen : Seen) (parcel : Option TokenAmount) → IsMarketCell cell
    → parcel ≡ parcel_of (mint_of Pc (market_at cell)) (step_on row seen cell).transfers.pc_in
    → CanMoveShare cell.pc ((step_on row seen cell).transfers.pc_out + (step_on row seen cell).transfers.referrer_out) (step_on row seen cell).transfers.pc_in parcel
pc-moves cell row seen parcel is brought =
    let m = market_at cell in
    let f = flows row seen m is.sound.sound in
    subst (λ (share : TokenAmount). CanMoveShare share ((step_on row seen cell).transfers.pc_out + (step_on row seen cell).transfers.referrer_out) (step_on row seen cell).transfers.pc_in parcel)
    (sym (is.pc ∙ pc-held cell.accounts is.sound)) (record { held = f.paid.pc; fits = omega (arith, f.pc, f.keeps.pc, f.paid.pc); brought = brought })

-- and are then what the vaults of the accounts after the step hold
pub coin-moved : (cell : MarketCellState) (row : Row) (seen : Seen) (accounts : PlainMarketAccounts) → IsMarketCell cell → AreSound accounts
    → market_in accounts ≡ (step_on row seen cell).market
    → moved_share cell.coin (step_on row seen cell).transfers.coin_out (step_on row seen cell).transfers.coin_in ≡ held_in accounts.coin_vault
coin-moved cell row seen accounts is sound market =
    let m = market_at cell in
    let s = step_on row seen cell in
    let f = flows row seen m is.sound.sound in
    ap (λ (share : TokenAmount). moved_share share s.transfers.coin_out s.transfers.coin_in) (is.coin ∙ coin-held cell.accounts is.sound)
    ∙ ap (so_much m.listing.coin_mint) (omega (arith, f.keeps.coin, f.paid.coin))
    ∙ ap (λ (l : Listing). so_much l.coin_mint s.market.coin_vault) (sym f.keeps.listing)
    ∙ ap (λ (x : Market). so_much x.listing.coin_mint x.coin_vault) (sym market)
    ∙ sym (coin-held accounts sound)

pub pc-moved : (cell : MarketCellState) (row : Row) (seen : Seen) (accounts : PlainMarketAccounts) → IsMarketCell cell → AreSound accounts
    → market_in accounts ≡ (step_on row seen cell).market
    → moved_share cell.pc ((step_on row seen cell).transfers.pc_out + (step_on row seen cell).transfers.referrer_out) (step_on row seen cell).transfers.pc_in ≡ held_in accounts.pc_vault
pc-moved cell row seen accounts is sound market =
    let m = market_at cell in
    let s = step_on row seen cell in
    let f = flows row seen m is.sound.sound in
    ap (λ (share : TokenAmount). moved_share share (s.transfers.pc_out + s.transfers.referrer_out) s.transfers.pc_in) (is.pc ∙ pc-held cell.accounts is.sound)
    ∙ ap (so_much m.listing.pc_mint) (omega (arith, f.keeps.pc, f.paid.pc))
    ∙ ap (λ (l : Listing). so_much l.pc_mint s.market.pc_vault) (sym f.keeps.listing)
    ∙ ap (λ (x : Market). so_much x.listing.pc_mint x.pc_vault) (sym market)
    ∙ sym (pc-held accounts sound)

-- what parcels of two mints are paid out
abbrev pub paid_by : Address → Address → Transfers → Payouts
paid_by coin pc t = record { coin = parcel_of coin t.coin_out; pc = parcel_of pc t.pc_out; referrer = parcel_of pc t.referrer_out }

-- the cell's parcels are of the market's mints
pub mints-are : (cell : MarketCellState) (t : Transfers) → IsMarketCell cell → paid_by cell.coin.mint cell.pc.mint t ≡ paid_out (market_at cell) t
mints-are cell t is =
    ap (λ (share : TokenAmount). paid_by share.mint cell.pc.mint t) (is.coin ∙ coin-held cell.accounts is.sound)
    ∙ ap (λ (share : TokenAmount). paid_by (market_at cell).listing.coin_mint share.mint t) (is.pc ∙ pc-held cell.accounts is.sound)
