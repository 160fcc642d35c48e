-- the movements of each entry of a legal history stand from the front
use Rattle.std.proofs.Common.{ℕ, zero, suc, ◌≡◌, ◌++◌, true, List, [], ◌∷◌, Some, None, map, take, replicate, refl, sym, subst}
use Rattle.std.specs.List.{All}
use Rattle.std.proofs.lemmas.List.Elements.{All-nil, All-cons}
use Rattle.dex_types.specs.declared.movements.Entry.{Entry}
use Rattle.dex_types.specs.declared.movements.Movement.{Movement}
use Rattle.dex_types.specs.Market.{Market}
use Rattle.dex_types.specs.Wallets.{movements}
use Rattle.dex_history.specs.Journal.{Call, IsLegal, step_of}
use Rattle.dex_state.specs.Outcomes.{PlainOutcome}
use Rattle.dex_report.specs.Telling.{AreInFront, FitOutcome, IsToldOutcome, stand_from_front}

-- in a front of four empty places none is taken
none-taken : (count : ℕ) → stand_from_front (take count (replicate 4 None)) ≡ true
none-taken zero = refl
none-taken (suc zero) = refl
none-taken (suc (suc zero)) = refl
none-taken (suc (suc (suc zero))) = refl
none-taken (suc (suc (suc (suc zero)))) = refl
none-taken (suc (suc (suc (suc (suc count))))) = refl

-- movements, and empty places after them, stand from the front
in-front : (count : ℕ) (moves : List Movement) → stand_from_front (take count (map (λ move. Some move) moves ++ replicate 4 None)) ≡ true
in-front zero moves = refl
in-front (suc count) [] = none-taken (suc count)
in-front (suc count) (move ∷ moves) = in-front count moves

-- an entry's movements do
abbrev IsInFront : Entry → Type 0
IsInFront entry = stand_from_front entry.moves ≡ true

-- those of the entries of a legal history do
pub legal-in_front : (calls : List Call) (m : Market) → IsLegal m calls → All IsInFront (map (λ (call : Call). call.entry) calls)
legal-in_front [] m legal = All-nil IsInFront
legal-in_front (call ∷ calls) m legal =
    All-cons IsInFront call.entry (map (λ (call : Call). call.entry) calls)
    (subst IsInFront (sym legal.0.entry) (in-front 4 (movements call.seen (step_of call m).transfers)))
    (legal-in_front calls (step_of call m).market legal.1)

-- so an outcome whose values fit is told in one way
pub fit-told : (outcome : PlainOutcome) → FitOutcome outcome → All AreInFront outcome.markets → IsToldOutcome outcome
fit-told outcome fits front = record {
  accounts = fits.accounts;
  markets = λ i journal standing. record {
    address = (fits.markets i journal standing).address;
    count = (fits.markets i journal standing).count;
    entries = λ j entry written. record { fits = (fits.markets i journal standing).entries j entry written; front = front i journal standing j entry written };
  };
  wallets = fits.wallets;
}
