-- The seats of a script's lanes, when no row has acted.
use Rattle.std.proofs.Common.{◌≡◌, ℕ, zero, suc, ◌+◌, ◌-◌, ◌<◌, ◌≤◌, List, [], ◌∷◌, ◌++◌, map, refl, sym, ap, ◌∙◌, subst, arith, All}
use Rattle.dex_world.proofs.Common.{All-map, AllZip, Call, PlainAccount, PlainMarketAccounts, WalletEntry, map-id, range_with_len}
use Rattle.dex_world.proofs.MappedLists.{All-second, map-agree, map-map}
use Rattle.dex_replay.proofs.Common.{CellState, MarketCellState, PlainScript, market_opened, wallet_opened}
use Rattle.dex_serializable.proofs.Common.{MarketOrigin, Stamped, WalletOrigin}
use Rattle.dex_run.proofs.Common.{BankState, GateView, IsMarketGate, IsPass, IsSeatOf, IsWalletGate, PassView, SeatState, first_passes, fresh_pass, passes_of, seat_in}
use Rattle.std.proofs.lemmas.List.FromFn.{map-range_with_len_more}
use Rattle.dex_turns.specs.Bank.{IsGate}
use Rattle.dex_turns.specs.Seats.{fresh_seat}
use Rattle.dex_run.proofs.Openings.{all-mapped, passes-of_gates, zip-map, zip-unmap}

-- ---- passes of a lane

-- what the gate of a market was opened with, and that of a wallet
abbrev pub market_from : PlainScript → PlainMarketAccounts → MarketOrigin
market_from script start = record { start = start; script = script }

abbrev pub wallet_from : PlainScript → PlainAccount → WalletOrigin
wallet_from script start = record { start = start; script = script }

module _ {S E O : Type 0} (lanes : ℕ) (from : S → O) (starts : List S) (gates : List (GateView E O)) (passes : List (PassView E O))
    (all : AllZip (λ (start : S) (gate : GateView E O). IsGate lanes (from start) gate) starts gates) where
  abbrev Opened : S → GateView E O → Type 0
  Opened start gate = IsGate lanes (from start) gate

  -- passes that made nothing
  pub passes-are : (lane : ℕ) → passes ≡ passes_of lane gates → AllZip (λ (start : S) (pass : PassView E O). IsPass lane [] pass) starts passes
  passes-are lane are =
      subst (AllZip (λ (start : S) (pass : PassView E O). IsPass lane [] pass) starts) (sym are)
      (zip-map Opened (λ (start : S) (pass : PassView E O). IsPass lane [] pass) (λ (gate : GateView E O). fresh_pass lane gate.passes gate)
      (λ start gate is. record { number = refl; none_left = omega arith; idle = refl; mine = refl }) starts gates all)

  -- while a number is left, the first passes may hand it out
  pub passes-some : (next : ℕ) → passes ≡ first_passes next gates → next < lanes → All (λ (pass : PassView E O). pass.next < pass.until) passes
  passes-some next is some =
      subst (All (λ (pass : PassView E O). pass.next < pass.until)) (sym is)
      (All-map (λ (pass : PassView E O). pass.next < pass.until) (λ (gate : GateView E O). fresh_pass 0 next gate) gates
      (All-second Opened (λ (gate : GateView E O). next < gate.passes) (λ start gate opened. omega (arith, some, opened.passes)) starts gates all))

  -- when all numbers are handed out, the first passes are those of lane 0
  pub passes-first : (next : ℕ) → passes ≡ first_passes next gates → next ≡ lanes → passes ≡ passes_of 0 gates
  passes-first next is done =
      is
      ∙ map-agree (λ (gate : GateView E O). fresh_pass 0 next gate) (λ (gate : GateView E O). fresh_pass 0 gate.passes gate) gates
      (All-second Opened (λ (gate : GateView E O). fresh_pass 0 next gate ≡ fresh_pass 0 gate.passes gate)
      (λ start gate opened. ap (λ (n : ℕ). fresh_pass 0 n gate) (done ∙ sym opened.passes)) starts gates all)

-- ---- seats

pub seat-is : (bank : BankState) (lane : ℕ) (seat : SeatState) (markets : List (PassView (Stamped Call) MarketOrigin)) (wallets : List (PassView (Stamped WalletEntry) WalletOrigin))
    → seat ≡ fresh_seat lane bank.script markets wallets → markets ≡ passes_of lane bank.markets → wallets ≡ passes_of lane bank.wallets → seat ≡ seat_in bank lane
seat-is bank lane seat markets wallets is markets_are wallets_are =
    is ∙ (λ k. fresh_seat lane bank.script (markets_are k) (wallets_are k))

-- one seat more
pub seats-more : (bank : BankState) (lane : ℕ) (old new : List SeatState) (seat : SeatState) → 1 ≤ lane → old ≡ map (seat_in bank) (range_with_len 1 (lane - 1))
    → seat ≡ seat_in bank lane → new ≡ old ++ seat ∷ [] → new ≡ map (seat_in bank) (range_with_len 1 (lane + 1 - 1))
seats-more bank lane old new seat some before is added =
    added
    ∙ (λ k. before k ++ is k ∷ [])
    ∙ sym (map-range_with_len_more (seat_in bank) 1 (lane - 1) lane (omega (arith, some)))
    ∙ ap (λ (n : ℕ). map (seat_in bank) (range_with_len 1 n)) (omega (arith, some))

-- the seat of lane 0 comes first
pub seats-all : (bank : BankState) (lane lanes : ℕ) (old : List SeatState) (seat : SeatState) → 1 ≤ lanes → lane ≡ lanes
    → old ≡ map (seat_in bank) (range_with_len 1 (lane - 1)) → seat ≡ seat_in bank 0 → seat ∷ old ≡ map (seat_in bank) (range_with_len 0 lanes)
seats-all bank lane zero old seat some done before is = absurd (omega (arith, some))
seats-all bank lane (suc n) old seat some done before is =
    ap (λ (s : SeatState). s ∷ old) is
    ∙ ap (λ (l : List SeatState). seat_in bank 0 ∷ l) (before ∙ ap (λ (k : ℕ). map (seat_in bank) (range_with_len 1 k)) (omega (arith, done)))

-- all of them are the bank's
IsSeatOf-fresh : (bank : BankState) (lane : ℕ) → IsSeatOf bank (seat_in bank lane)
IsSeatOf-fresh bank lane = record {
  script = refl;
  markets = passes-of_gates (λ (gate : GateView (Stamped Call) MarketOrigin). fresh_pass lane gate.passes gate) (λ gate. refl) bank.markets;
  wallets = passes-of_gates (λ (gate : GateView (Stamped WalletEntry) WalletOrigin). fresh_pass lane gate.passes gate) (λ gate. refl) bank.wallets;
}

pub seats-of_bank : (bank : BankState) (numbers : List ℕ) (seats : List SeatState) → seats ≡ map (seat_in bank) numbers → All (IsSeatOf bank) seats
seats-of_bank bank numbers seats are = all-mapped (IsSeatOf bank) (seat_in bank) (IsSeatOf-fresh bank) numbers seats are

pub seats-fresh : (bank : BankState) (numbers : List ℕ) (seats : List SeatState) → seats ≡ map (seat_in bank) numbers
    → All (λ (seat : SeatState). seat.calls ≡ []) seats
seats-fresh bank numbers seats are = all-mapped (λ (seat : SeatState). seat.calls ≡ []) (seat_in bank) (λ lane. refl) numbers seats are

pub seats-numbers : (bank : BankState) (numbers : List ℕ) (seats : List SeatState) → seats ≡ map (seat_in bank) numbers
    → map (λ (seat : SeatState). seat.lane) seats ≡ numbers
seats-numbers bank numbers seats are =
    ap (map (λ (seat : SeatState). seat.lane)) are ∙ map-map (seat_in bank) (λ (seat : SeatState). seat.lane) numbers ∙ map-id numbers

-- ---- the bank

-- the gates of cells that were opened
pub market-gates : (script : PlainScript) (cells : List MarketCellState) (gates now : List (GateView (Stamped Call) MarketOrigin))
    → cells ≡ map (market_opened script.rows) script.start.markets
    → AllZip (λ (cell : MarketCellState) (gate : GateView (Stamped Call) MarketOrigin). IsMarketGate script cell.start gate) cells gates → now ≡ gates
    → AllZip (IsMarketGate script) script.start.markets now
market-gates script cells gates now are all is =
    let Q = λ (cell : MarketCellState) (gate : GateView (Stamped Call) MarketOrigin). IsMarketGate script cell.start gate in
    subst (AllZip (IsMarketGate script) script.start.markets) (sym is)
    (zip-unmap Q (IsMarketGate script) (market_opened script.rows) (λ start gate opened. opened) script.start.markets gates
    (subst (λ (l : List MarketCellState). AllZip Q l gates) are all))

pub wallet-gates : (script : PlainScript) (cells : List CellState) (gates now : List (GateView (Stamped WalletEntry) WalletOrigin))
    → cells ≡ map (wallet_opened script.rows) script.start.wallets
    → AllZip (λ (cell : CellState) (gate : GateView (Stamped WalletEntry) WalletOrigin). IsWalletGate script (record { address = cell.address; bytes = cell.start }) gate) cells gates
    → now ≡ gates → AllZip (IsWalletGate script) script.start.wallets now
wallet-gates script cells gates now are all is =
    let Q = λ (cell : CellState) (gate : GateView (Stamped WalletEntry) WalletOrigin). IsWalletGate script (record { address = cell.address; bytes = cell.start }) gate in
    subst (AllZip (IsWalletGate script) script.start.wallets) (sym is)
    (zip-unmap Q (IsWalletGate script) (wallet_opened script.rows) (λ start gate opened. opened) script.start.wallets gates
    (subst (λ (l : List CellState). AllZip Q l gates) are all))

-- the seats at the gates are those at the bank
pub seats-at_bank : (script : PlainScript) (markets markets' : List (GateView (Stamped Call) MarketOrigin)) (wallets wallets' : List (GateView (Stamped WalletEntry) WalletOrigin))
    (bank : BankState) (numbers : List ℕ) (seats : List SeatState)
    → seats ≡ map (seat_in (record { script = script; markets = markets; wallets = wallets })) numbers
    → markets ≡ markets' → wallets ≡ wallets' → bank ≡ record { script = script; markets = markets'; wallets = wallets' } → seats ≡ map (seat_in bank) numbers
seats-at_bank script markets markets' wallets wallets' bank numbers seats are same_markets same_wallets is =
    are
    ∙ (λ i. map (seat_in (record { script = script; markets = same_markets i; wallets = same_wallets i })) numbers)
    ∙ ap (λ (b : BankState). map (seat_in b) numbers) (sym is)
