-- What is known where a row has no fault.
use Rattle.std.proofs.Common.{◌≡◌, ◌||◌, Bool, true, false, Option, Some, None, Result, Ok, Err, ap, refl, subst}
use Rattle.dex_statement.specs.declared.faults.FaultKind.{FaultKind}
use Rattle.dex_statement.specs.Faults.{◌>>=◌, found_or, unless}

pub ok-same : {A E : Type 0} (x y : A) → ◌≡◌ {A = Result A E} (Ok x) (Ok y) → x ≡ y
ok-same x y is = cc

pub no-error : {A E : Type 0} (e : E) (x : A) → Err e ≡ Ok x → ⊥
no-error e x is = cc

pub differ : true ≡ false → ⊥
differ e = cc

pub bind-ok : {A B E : Type 0} (r : Result A E) (next : A → Result B E) (y : B) → (r >>= next) ≡ Ok y
    → (x : A) × (r ≡ Ok x) × (next x ≡ Ok y)
bind-ok (Ok x) next y is = (x, refl, is)
bind-ok (Err e) next y is = absurd (no-error e y is)

pub unless-ok : {A : Type 0} (test : Bool) (kind : FaultKind) (next : Result A FaultKind) (x : A) → unless test kind next ≡ Ok x
    → (test ≡ false) × (next ≡ Ok x)
unless-ok true kind next x is = absurd (no-error kind x is)
unless-ok false kind next x is = (refl, is)

pub found-ok : {A : Type 0} (found : Option A) (kind : FaultKind) (x : A) → found_or found kind ≡ Ok x → found ≡ Some x
found-ok {A} (Some y) kind x is = ap (λ (z : A). Some z) (ok-same y x is)
found-ok None kind x is = absurd (no-error kind x is)

pub or-none : (a b : Bool) → a || b ≡ false → (a ≡ false) × (b ≡ false)
or-none true b is = absurd (differ is)
or-none false b is = (refl, is)

-- ---- what holds of each answer that is Ok

abbrev pub Gives : {A : Type 0} → (A → Type 0) → Result A FaultKind → Type 0
Gives {A} P r = (x : A) → r ≡ Ok x → P x

pub gives-ok : {A : Type 0} (P : A → Type 0) (x : A) → P x → Gives P (Ok x)
gives-ok P x holds y is = subst P (ok-same x y is) holds

pub gives-unless : {A : Type 0} (P : A → Type 0) (test : Bool) (kind : FaultKind) (next : Result A FaultKind) → (test ≡ false → Gives P next)
    → Gives P (unless test kind next)
gives-unless P test kind next each x is = let a = unless-ok test kind next x is in each a.0 x a.1

-- whatever the test says
pub gives-past : {A : Type 0} (P : A → Type 0) (test : Bool) (kind : FaultKind) (next : Result A FaultKind) → Gives P next → Gives P (unless test kind next)
gives-past P test kind next holds = gives-unless P test kind next (λ _. holds)

pub gives-bind : {A B : Type 0} (P : B → Type 0) (r : Result A FaultKind) (next : A → Result B FaultKind) → ((x : A) → r ≡ Ok x → Gives P (next x))
    → Gives P (r >>= next)
gives-bind P r next each y is = let a = bind-ok r next y is in each a.0 a.1 y a.2

pub gives-found : {A B : Type 0} (P : B → Type 0) (found : Option A) (kind : FaultKind) (next : A → Result B FaultKind)
    → ((x : A) → found ≡ Some x → Gives P (next x)) → Gives P (found_or found kind >>= next)
gives-found P found kind next each = gives-bind P (found_or found kind) next (λ x is. each x (found-ok found kind x is))
