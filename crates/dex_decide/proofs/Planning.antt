-- What is answered, with another value in the place of a plan's.
use Rattle.std.proofs.Common.{◌≡◌, Option, Some, None, Result, Ok, Err, [], ◌∷◌, sym, ap, ◌∙◌}
use Rattle.dex_types.specs.declared.refusals.Refusal.{Refusal}
use Rattle.dex_types.specs.declared.refusals.Refusal.TheVariants.{NoAccount}
use Rattle.dex_types.specs.Reasons.{answered, first_of}
use Rattle.dex_types.specs.Requests.{Party}
use Rattle.dex_types.specs.Why.{of_party}
use Rattle.dex_reasons.proofs.FirstReasons.{first_of-one}

-- what is Ok with a value is Ok with any function of it
pub ok-planned : {X Y : Type 0} (f : X → Y) (why : Option Refusal) (x y : X) → Ok y ≡ answered why x → Ok (f y) ≡ answered why (f x)
ok-planned f None x y e = let same : y ≡ x = cc in ap (λ v. Ok (f v)) same
ok-planned f (Some refusal) x y e = absurd (cc)

-- and what is refused is refused whatever it would have been
pub err-planned : {X Y : Type 0} (why : Option Refusal) (x : X) (planned : Y) (refusal : Refusal) → Err refusal ≡ answered why x → Err refusal ≡ answered why planned
err-planned None x planned refusal e = absurd (cc)
err-planned (Some given) x planned refusal e = let same : refusal ≡ given = cc in ap (λ r. Err r) same

-- what is given as a reason is answered
pub given-planned : {Y : Type 0} (why : Option Refusal) (planned : Y) (refusal : Refusal) → Some refusal ≡ why → Err refusal ≡ answered why planned
given-planned why planned refusal given = ap (λ r. answered r planned) given

-- an instruction that needs an open account is refused without one, and else as that account's
pub no-party : {P : Type 0} (W : Party → Option Refusal) (planned : P) (party : Option Party) → party ≡ None → Err NoAccount ≡ answered (of_party W party) planned
no-party W planned party none = ap (λ p. answered (of_party W p) planned) (sym none)

pub of-party : {P : Type 0} (W : Party → Option Refusal) (f : Option Party → P) (party : Option Party) (acting : Party) (result : Result P Refusal) → party ≡ Some acting
    → result ≡ answered (W acting) (f (Some acting)) → result ≡ answered (of_party W party) (f party)
of-party W f party acting result some answers = answers ∙ ap (λ p. answered (of_party W p) (f p)) (sym some)

-- of two reasons the first is given, and where it does not hold the second
pub refused-first : {P : Type 0} (first second : Option Refusal) (why : Refusal) (planned : P) → first ≡ Some why → Err why ≡ answered (first_of (first ∷ second ∷ [])) planned
refused-first first second why planned holds = ap (λ r. answered (first_of (r ∷ second ∷ [])) planned) (sym holds)

pub passed-first : {P : Type 0} (first second : Option Refusal) (planned : P) (result : Result P Refusal) → first ≡ None → result ≡ answered second planned
    → result ≡ answered (first_of (first ∷ second ∷ [])) planned
passed-first first second planned result none answers =
    answers ∙ ap (λ r. answered r planned) (sym (first_of-one second)) ∙ ap (λ r. answered (first_of (r ∷ second ∷ [])) planned) (sym none)
