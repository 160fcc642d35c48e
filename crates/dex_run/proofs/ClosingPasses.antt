-- The passes of all seats, gate by gate: they are all passes of their gates.
use Rattle.std.proofs.Common.{◌≡◌, ℕ, zero, suc, ◌+◌, ◌<◌, ◌≤◌, ◌⊎◌, List, [], ◌∷◌, ◌++◌, Any, Some, Vec, drop, get_or, eq-or-lt_of_le, inl, inr, length, map, refl, sym, ap, ◌∙◌, subst, arith}
use Rattle.dex_world.proofs.Common.{AllZip, AllZip-long, Call, PlainAccount, PlainMarketAccounts, WalletEntry, range_with_len}
use Rattle.dex_replay.proofs.Common.{AllThree}
use Rattle.dex_serializable.proofs.Common.{MarketOrigin, Stamped, WalletOrigin, any-there}
use Rattle.dex_run.proofs.Common.{AreLonger, BankState, CanClose, GateView, Idle, IsBank, IsMarketGate, IsMarketPassAt, IsWalletGate, IsWalletPassAt, MarketColumns, PassView, SeatState, WalletColumns, IsPass}
use Rattle.dex_gate.specs.PassView.{Accounts, AreAll}
use Rattle.dex_serializable.proofs.Common.{calls_on, entries_on}
use Rattle.dex_run.specs.Closing.{IsPassAt}
use Rattle.dex_world.proofs.MappedLists.{All-second, zip-map}
use Rattle.dex_run.proofs.ColumnLists.{AllThree-of, AllZip-of, Columns, columns-length, columns-more}

-- ---- passes of one kind, those of markets or those of wallets, and what a seat made with each

module _ {S E O : Type 0} (made : S → SeatState → List E) where
  abbrev PassAt : S → GateView E O → SeatState → PassView E O → Type 0
  PassAt start gate seat pass = IsPassAt (made start seat) gate seat pass

  module _ (starts : List S) (gates : List (GateView E O)) (seat : SeatState) (passes own : List (PassView E O)) (is : own ≡ passes)
      (of_gates : AllZip (λ gate pass. pass.gate ≡ Some gate) gates passes) {Z : Type 0} (rows : List SeatState) (before : List (Vec (PassView E O) Z)) (columns : Columns PassAt starts gates rows before) where
    -- the columns with one seat more
    pub one-more : (after : List (Vec (PassView E O) Z)) → AllZip (λ (start : S) (pass : PassView E O). IsPass seat.lane (made start seat) pass) starts passes → AreLonger before own after
        → Columns PassAt starts gates (rows ++ seat ∷ []) after
    one-more after kept longer =
        columns-more PassAt starts gates rows seat own before after columns
        (subst (λ list. AllThree (λ start gate pass. PassAt start gate seat pass) starts gates list) (sym is)
        (AllThree-of (λ start pass. IsPass seat.lane (made start seat) pass) (λ gate pass. pass.gate ≡ Some gate) (λ start gate pass. PassAt start gate seat pass)
        (λ start gate pass made_so of_gate. record { of_gate = of_gate; made = made_so }) starts gates passes kept of_gates)) longer

    -- it has a pass for each column
    pub one-each : length own ≡ length before
    one-each = ap length is ∙ AllZip-long (λ gate pass. pass.gate ≡ Some gate) gates passes of_gates ∙ sym (columns-length PassAt starts gates rows before columns)

-- ---- all seats

-- the first has the number, or one of the others
number-at : {E O : Type 0} (pass : PassView E O) (passes : List (PassView E O)) (first k : ℕ) → pass.number ≡ first → (first < k → Any (Accounts k) passes)
    → (first ≡ k) ⊎ (first < k) → Any (Accounts k) (pass ∷ passes)
number-at pass passes first k here others (inl is) = (0, pass, omega arith, refl, inl (here ∙ is))
number-at pass passes first k here others (inr more) = any-there (Accounts k) pass passes (others more)

-- passes with the numbers from one on, each once
numbered : {E O : Type 0} (passes : List (PassView E O)) (first count k : ℕ) → map (λ (pass : PassView E O). pass.number) passes ≡ range_with_len first count
    → first ≤ k → k < first + count → Any (Accounts k) passes
numbered passes first zero k are least most = absurd (omega (arith, least, most))
numbered [] first (suc count) k are least most = absurd (omega (arith, ap length are))
numbered (pass ∷ passes) first (suc count) k are least most =
    number-at pass passes first k (ap (λ list. get_or list 0 first) are)
    (λ more. numbered passes (first + 1) count k (ap (λ list. drop 1 list) are) (omega (arith, more)) (omega (arith, most))) (eq-or-lt_of_le least)

pub all-numbered : {E O : Type 0} (passes : List (PassView E O)) (count : ℕ) → map (λ (pass : PassView E O). pass.number) passes ≡ range_with_len 0 count → AreAll count passes
all-numbered passes count are k below = numbered passes 0 count k are (omega arith) (omega (arith, below))

-- a gate can close with the passes of all seats
closes : {S E O : Type 0} (made : S → SeatState → List E) (count : ℕ) (seats : List SeatState) → map (λ (seat : SeatState). seat.lane) seats ≡ range_with_len 0 count → (start : S) (gate : GateView E O)
    (passes : List (PassView E O)) → gate.passes ≡ count → AllZip (PassAt made start gate) seats passes → CanClose gate passes
closes made count seats lanes start gate passes so_many all = record {
  of_gate = All-second (PassAt made start gate) (λ pass. pass.gate ≡ Some gate) (λ seat pass at. at.of_gate) seats passes all;
  idle = All-second (PassAt made start gate) (λ pass. pass.stage ≡ Idle) (λ seat pass at. at.made.idle) seats passes all;
  numbers = subst (λ n. AreAll n passes) (sym so_many) (all-numbered passes count
      (zip-map (PassAt made start gate) (λ (seat : SeatState). seat.lane) (λ pass. pass.number) (λ seat pass at. at.made.number) seats passes all ∙ lanes));
}

module _ (bank : BankState) (seats : List SeatState) (facts : IsBank bank) (lanes : map (λ (seat : SeatState). seat.lane) seats ≡ range_with_len 0 bank.script.lanes) where
  pub markets-close : {Z : Type 0} (columns : List (Vec (PassView (Stamped Call) MarketOrigin) Z)) → MarketColumns bank seats columns
      → AllZip (λ gate column. CanClose gate column.items) bank.markets columns
  markets-close columns all =
      AllZip-of (IsMarketGate bank.script) (λ start gate column. AllZip (IsMarketPassAt start gate) seats column.items) (λ gate column. CanClose gate column.items)
      (λ start gate column is each. closes (λ (start : PlainMarketAccounts) (seat : SeatState). calls_on start.address seat.calls) bank.script.lanes seats lanes start gate column.items is.passes each) bank.script.start.markets bank.markets columns facts.markets all

  pub wallets-close : {Z : Type 0} (columns : List (Vec (PassView (Stamped WalletEntry) WalletOrigin) Z)) → WalletColumns bank seats columns
      → AllZip (λ gate column. CanClose gate column.items) bank.wallets columns
  wallets-close columns all =
      AllZip-of (IsWalletGate bank.script) (λ start gate column. AllZip (IsWalletPassAt start gate) seats column.items) (λ gate column. CanClose gate column.items)
      (λ start gate column is each. closes (λ (start : PlainAccount) (seat : SeatState). entries_on start.address seat.calls) bank.script.lanes seats lanes start gate column.items is.passes each) bank.script.start.wallets bank.wallets columns facts.wallets all
