-- What is known of a text and its status, of the two.
use Rattle.std.proofs.Common.{ℕ, List, Result, Ok, Err, IfOk, subst, sym}
use Rattle.dex_answers.specs.declared.status.Status.{Status}
use Rattle.dex_answers.specs.declared.told.StatusText.{StatusText}
use Rattle.dex_answers.specs.Telling.{IsText}
use Rattle.dex_answers.specs.Told.{text_of}

pub says : {E : Type 0} (result : Result StatusText E) (P : Status → List ℕ → Type 0) (stood : Status) (text : List ℕ)
    → IfOk result (λ told. IsText told stood text) → P stood text → IfOk result (λ told. P told.status (text_of told))
says (Ok told) P stood text is holds =
    subst (λ (s : Status). P s (text_of told)) (sym is.status) (subst (λ (t : List ℕ). P stood t) (sym is.text) holds)
says (Err e) P stood text is holds = tt

-- what is told satisfies a fact that holds where more is known of it
pub says-more : {E : Type 0} (result : Result StatusText E) (P : Status → List ℕ → Type 0) (stood : Status) (text : List ℕ) (More : Type 0)
    → IfOk result (λ told. IsText told stood text) → IfOk result (λ told. More) → (More → P stood text) → IfOk result (λ told. P told.status (text_of told))
says-more {E} (Ok told) P stood text More is more holds = says {E = E} (Ok told) P stood text is (holds more)
says-more (Err e) P stood text More is more holds = tt
