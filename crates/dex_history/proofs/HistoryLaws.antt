-- histories grow at their end
use Rattle.std.proofs.Common.{ℕ, zero, suc, take, ◌≡◌, ◌↔◌, List, [], ◌∷◌, ◌++◌, refl, subst}
use Rattle.dex_types.specs.declared.movements.WalletEntry.{WalletEntry}
use Rattle.dex_types.specs.Market.{Market}
use Rattle.dex_types.specs.WalletJournal.{IsWalletLegal, CanMove, balance_after, moved_balance}
use Rattle.dex_history.specs.Journal.{Call, IsLegal, Stands, market_after, step_of}

pub IsLegal-append : (calls later : List Call) (m : Market) → IsLegal m (calls ++ later) ↔ (IsLegal m calls × IsLegal (market_after m calls) later)
IsLegal-append [] later m = (λ legal. (tt, legal), λ (front, legal). legal)
IsLegal-append (call ∷ calls) later m =
    let rest : IsLegal (step_of call m).market (calls ++ later) ↔ (IsLegal (step_of call m).market calls × IsLegal (market_after (step_of call m).market calls) later) =
    IsLegal-append calls later (step_of call m).market in
    (λ legal. ((legal.0, (rest.0 legal.1).0), (rest.0 legal.1).1), λ both. (both.0.0, rest.1 (both.0.1, both.1)))

pub IsLegal-one : (calls : List Call) (call : Call) (m : Market)
    → IsLegal m (calls ++ (call ∷ [])) ↔ (IsLegal m calls × Stands call (market_after m calls))
IsLegal-one calls call m =
    let both : IsLegal m (calls ++ (call ∷ [])) ↔ (IsLegal m calls × IsLegal (market_after m calls) (call ∷ [])) = IsLegal-append calls (call ∷ []) m in
    (λ legal. ((both.0 legal).0, (both.0 legal).1.0), λ parts. both.1 (parts.0, (parts.1, tt)))

-- the front of a legal history is legal
pub IsLegal-front : (count : ℕ) (calls : List Call) (m : Market) → IsLegal m calls → IsLegal m (take count calls)
IsLegal-front zero calls m legal = tt
IsLegal-front (suc count) [] m legal = tt
IsLegal-front (suc count) (call ∷ calls) m legal = (legal.0, IsLegal-front count calls (step_of call m).market legal.1)

pub market_after-append : (calls later : List Call) (m : Market) → market_after m (calls ++ later) ≡ market_after (market_after m calls) later
market_after-append [] later m = refl
market_after-append (call ∷ calls) later m = market_after-append calls later (step_of call m).market

pub market_after-one : (calls : List Call) (call : Call) (m : Market) → market_after m (calls ++ (call ∷ [])) ≡ (step_of call (market_after m calls)).market
market_after-one calls call m = market_after-append calls (call ∷ []) m

pub balance_after-append : (entries later : List WalletEntry) (balance : ℕ) → balance_after balance (entries ++ later) ≡ balance_after (balance_after balance entries) later
balance_after-append [] later balance = refl
balance_after-append (entry ∷ entries) later balance = balance_after-append entries later (moved_balance entry.kind entry.amount balance)

pub IsWalletLegal-append : (entries later : List WalletEntry) (balance : ℕ)
    → IsWalletLegal balance (entries ++ later) ↔ (IsWalletLegal balance entries × IsWalletLegal (balance_after balance entries) later)
IsWalletLegal-append [] later balance = (λ legal. (tt, legal), λ (front, legal). legal)
IsWalletLegal-append (entry ∷ entries) later balance =
    let next : ℕ = moved_balance entry.kind entry.amount balance in
    let rest : IsWalletLegal next (entries ++ later) ↔ (IsWalletLegal next entries × IsWalletLegal (balance_after next entries) later) =
    IsWalletLegal-append entries later next in
    (λ legal. ((legal.0, legal.1, (rest.0 legal.2).0), (rest.0 legal.2).1), λ both. (both.0.0, both.0.1, rest.1 (both.0.2, both.1)))

pub IsWalletLegal-one : (entries : List WalletEntry) (entry : WalletEntry) (balance : ℕ) → IsWalletLegal balance entries
    → entry.before ≡ balance_after balance entries → CanMove entry.kind entry.amount entry.before → IsWalletLegal balance (entries ++ (entry ∷ []))
IsWalletLegal-one entries entry balance legal at can =
    (IsWalletLegal-append entries (entry ∷ []) balance).1 (legal, (at, subst (CanMove entry.kind entry.amount) at can, tt))
