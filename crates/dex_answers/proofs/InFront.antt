-- the movements of each entry of a lawful outcome stand from the front
use Rattle.std.proofs.Common.{◌≡◌, true, List, [], ◌∷◌, sym, subst}
use Rattle.std.specs.List.{All}
use Rattle.std.proofs.lemmas.List.Elements.{All-nil, All-cons}
use Rattle.dex_types.specs.declared.movements.Entry.{Entry}
use Rattle.dex_types.specs.Accounts.{PlainMarketAccounts}
use Rattle.dex_accounts.specs.Decoded.{market_in}
use Rattle.dex_state.specs.Outcomes.{PlainMarketJournal, PlainOutcome}
use Rattle.dex_report.specs.Telling.{AreInFront, FitOutcome, IsToldOutcome, stand_from_front}
use Rattle.dex_report.proofs.Fronts.{fit-told, legal-in_front}
use Rattle.dex_script_types.specs.PlainScript.{PlainScript}
use Rattle.dex_replay.specs.Lawful.{AllThree, IsLawful, IsLawfulMarket}
use Rattle.dex_replay.specs.Runs.{IsRunOf}

journal-in_front : (script : PlainScript) (first last : PlainMarketAccounts) (journal : PlainMarketJournal) → IsLawfulMarket script first last journal → AreInFront journal
journal-in_front script first last journal lawful =
    subst (All (λ (entry : Entry). stand_from_front entry.moves ≡ true)) (sym lawful.entries) (legal-in_front lawful.calls (market_in first) lawful.legal)

each-in_front : (script : PlainScript) (firsts lasts : List PlainMarketAccounts) (journals : List PlainMarketJournal)
    → AllThree (IsLawfulMarket script) firsts lasts journals → All AreInFront journals
each-in_front script [] [] [] all = All-nil AreInFront
each-in_front script (first ∷ firsts) (last ∷ lasts) (journal ∷ journals) all =
    All-cons AreInFront journal journals (journal-in_front script first last journal all.0) (each-in_front script firsts lasts journals all.1)
each-in_front script [] [] (journal ∷ journals) all = absurd all
each-in_front script [] (last ∷ lasts) journals all = absurd all
each-in_front script (first ∷ firsts) [] journals all = absurd all
each-in_front script (first ∷ firsts) (last ∷ lasts) [] all = absurd all

pub lawful-in_front : (script : PlainScript) (outcome : PlainOutcome) → IsLawful script outcome → All AreInFront outcome.markets
lawful-in_front script outcome lawful = each-in_front script script.start.markets outcome.accounts.markets outcome.markets lawful.markets

pub run-told : (script : PlainScript) (outcome : PlainOutcome) → IsRunOf script outcome → FitOutcome outcome → IsToldOutcome outcome
run-told script outcome run fits = fit-told outcome fits (lawful-in_front script outcome run.lawful)
