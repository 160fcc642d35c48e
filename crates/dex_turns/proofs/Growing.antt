-- Passes in declared order, one of which takes a turn.
use Rattle.std.proofs.Common.{◌≡◌, ℕ, zero, suc, ◌<◌, ◌≤◌, Bool, true, false, ◌||◌, List, [], ◌∷◌, ◌++◌, length, map, set, get_or, Some, refl, sym, ap, ◌∙◌, subst, arith}
use Rattle.dex_world.proofs.Common.{Address, All-tail, AllZip, PlainAccount, false≢true, get_or-map, is_same, is_same-refl, is_same-sym, length-map, list_any, or_right}
use Rattle.dex_world.proofs.MappedLists.{three-at, three-long, zip-weaker}
use Rattle.dex_script_types.proofs.Apart.{AreDistinct}
use Rattle.std.proofs.lemmas.List.{append-nil, get_or-set_same, length-set}
use Rattle.dex_turns.proofs.Common.{AllThree, GateView, IsPass, MayDraw, OneGrows, PassView, PlainScript, Where}
use Rattle.std.specs.List.{All}
use Rattle.dex_turns.proofs.Rising.{IsAbove, not-among}
use Rattle.dex_turns.specs.Bank.{WalletGate}
use Rattle.dex_turns.specs.Seats.{WalletPass}
use Rattle.dex_turns.specs.Turns.{AreRising}
use Rattle.dex_turns.specs.Submitted.{HasMade, HasWritten, WhereEither, Written, grown}

-- ---- by place

pub where-on : (b : Bool) (Here Elsewhere : Type 0) → b ≡ true → Where b Here Elsewhere → Here
where-on true Here Elsewhere on is = is
where-on false Here Elsewhere on is = absurd (false≢true on)

pub where-off : (b : Bool) (Here Elsewhere : Type 0) → b ≡ false → Where b Here Elsewhere → Elsewhere
where-off true Here Elsewhere off is = absurd (false≢true (sym off))
where-off false Here Elsewhere off is = is

-- nothing changed
pub three-same : {A P : Type 0} (xs : List A) (ps : List P) → length ps ≡ length xs → AllThree (λ (x : A) (p q : P). q ≡ p) xs ps ps
three-same [] [] long = tt
three-same (x ∷ xs) (p ∷ ps) long = (refl, three-same xs ps (omega (arith, long)))
three-same _ _ long = absurd (omega (arith, long))

module _ {A P : Type 0} (key : A → Address) (R S : A → P → P → Type 0) (address : Address)
    (others : (x : A) → is_same (key x) address ≡ false → (p q : P) → R x p q → S x p q) where
  rest-three : (xs : List A) (before after : List P) → ((k : ℕ) (d : Address) → k < length (map key xs) → is_same address (get_or (map key xs) k d) ≡ false)
      → AllThree R xs before after → AllThree S xs before after
  rest-three [] [] [] none all = tt
  rest-three (x ∷ xs) (p ∷ before) (q ∷ after) none all = (
    others x (is_same-sym (key x) address ∙ none 0 (key x) (omega arith)) p q all.0,
    rest-three xs before after (λ k d within. none (suc k) d (omega (arith, within))) all.1,
  )
  rest-three _ _ _ none all = absurd all

  -- what holds where one place was set before and is set after
  pub set-three : (xs : List A) (before mid : List P) (place : ℕ) (out left : P) → AreDistinct (map key xs) → place < length xs
      → ((d : A) → key (get_or xs place d) ≡ address) → AllThree R xs (set before place out) mid → ((d : A) (e : P) → S (get_or xs place d) (get_or before place e) left)
      → AllThree S xs before (set mid place left)
  set-three (x ∷ xs) (b ∷ before) (m ∷ mid) zero out left apart within here all one = (
    one x b,
    rest-three xs before mid
        (λ k d inside. subst (λ (a : Address). is_same a (get_or (map key xs) k d) ≡ false) (here x) (apart 0 (suc k) d (omega arith) (omega (arith, inside)))) all.1,
  )
  set-three (x ∷ xs) (b ∷ before) (m ∷ mid) (suc place) out left apart within here all one =
      let inside : place < length xs = omega (arith, within) in (
        others x
            (subst (λ (a : Address). is_same (key x) a ≡ false) (get_or-map key xs place x (key x) inside ∙ here x)
            (apart 0 (suc place) (key x) (omega arith) (omega (arith, inside, length-map xs key)))) b m all.0,
        set-three xs before mid place out left (λ i j d less behind. apart (suc i) (suc j) d (omega (arith, less)) (omega (arith, behind))) inside here all.1 one,
      )
  set-three [] before mid place out left apart within here all one = absurd (omega (arith, within))
  set-three (x ∷ xs) (b ∷ before) [] zero out left apart within here all one = absurd all
  set-three (x ∷ xs) (b ∷ before) [] (suc place) out left apart within here all one = absurd all
  set-three (x ∷ xs) [] mid place out left apart within here all one = absurd all

-- ---- the passes for wallets

module _ (address : Address) (others : List Address) where
  -- one pass holds its turn, the others may draw as before
  still-may : (script : PlainScript) (lane : ℕ) (start : PlainAccount) (pass : WalletPass) → MayDraw script lane (address ∷ others) start pass → MayDraw script lane others start pass
  still-may script lane start pass may = record {
    number = may.number;
    idle = λ among. may.idle (or_right (is_same start.address address) (list_any (is_same start.address) others) among);
    left = λ among. may.left (or_right (is_same start.address address) (list_any (is_same start.address) others) among);
    below = λ holds. All-tail (IsAbove start.address) address others (may.below holds);
  }

  pub drawn-ready : (script : PlainScript) (lane : ℕ) (starts : List PlainAccount) (passes : List WalletPass) (place : ℕ) (out : WalletPass)
      → AllZip (MayDraw script lane (address ∷ others)) starts passes → AreRising (address ∷ others) → place < length starts
      → ((d : PlainAccount) → (get_or starts place d).address ≡ address) → ((d : WalletPass) → out.number ≡ (get_or passes place d).number)
      → AllZip (MayDraw script lane others) starts (set passes place out)
  drawn-ready script lane (start ∷ starts) (pass ∷ passes) zero out each rising within here same =
      let none : list_any (is_same start.address) others ≡ false = ap (λ (a : Address). list_any (is_same a) others) (here start) ∙ not-among address others rising.0 in (
        record {
          number = same pass ∙ each.0.number;
          idle = λ among. absurd (false≢true (sym none ∙ among));
          left = λ among. absurd (false≢true (sym none ∙ among));
          below = λ holds. subst (λ (a : Address). All (IsAbove a) others) (sym (here start)) rising.0;
        },
        zip-weaker (MayDraw script lane (address ∷ others)) (MayDraw script lane others) (still-may script lane) starts passes each.1,
      )
  drawn-ready script lane (start ∷ starts) (pass ∷ passes) (suc place) out each rising within here same =
      (still-may script lane start pass each.0, drawn-ready script lane starts passes place out each.1 rising (omega (arith, within)) here same)
  drawn-ready script lane [] passes place out each rising within here same = absurd (omega (arith, within))
  drawn-ready script lane (start ∷ starts) [] place out each rising within here same = absurd each

  -- another wallet's pass grows as it did
  other-grows : (written : Written) (start : PlainAccount) → is_same start.address address ≡ false → (p q : WalletPass) → OneGrows others written start p q
      → OneGrows (address ∷ others) written start p q
  other-grows written start apart p q grows =
      subst (λ (b : Bool). Where (b || list_any (is_same start.address) others) (HasWritten written start p q) (q ≡ p)) (sym apart) grows

  -- the pass of the wallet has grown with the others
  pub one-grows : (written : Written) (starts : List PlainAccount) (before mid : List WalletPass) (place : ℕ) (out left : WalletPass)
      → AreDistinct (map (λ (start : PlainAccount). start.address) starts) → place < length starts → ((d : PlainAccount) → (get_or starts place d).address ≡ address)
      → AllThree (OneGrows others written) starts (set before place out) mid
      → ((d : PlainAccount) (e : WalletPass) → HasWritten written (get_or starts place d) (get_or before place e) left)
      → AllThree (OneGrows (address ∷ others) written) starts before (set mid place left)
  one-grows written starts before mid place out left apart within here grown moved =
      set-three (λ (start : PlainAccount). start.address) (OneGrows others written) (OneGrows (address ∷ others) written) address (other-grows written) starts before mid place out left
      apart within here grown
      (λ d e.
      let same : is_same (get_or starts place d).address address ≡ true =
      ap (λ (a : Address). is_same a address) (here d) ∙ is_same-refl address in
      subst (λ (b : Bool). Where (b || list_any (is_same (get_or starts place d).address) others) (HasWritten written (get_or starts place d) (get_or before place e) left) (left ≡ get_or before place e))
      (sym same) (moved d e))

-- the turn that is out is as it was taken
pub still-out : (others : List Address) (written : Written) (starts : List PlainAccount) (before mid : List WalletPass) (place : ℕ) (out : WalletPass) (address : Address)
    → list_any (is_same address) others ≡ false → place < length starts → ((d : PlainAccount) → (get_or starts place d).address ≡ address)
    → AllThree (OneGrows others written) starts (set before place out) mid → (e : WalletPass) → get_or mid place e ≡ out
still-out others written starts before mid place out address none within here grown e =
    let any : PlainAccount = record { address = address; bytes = [] } in
    let long = three-long (OneGrows others written) starts (set before place out) mid grown in
    where-off (list_any (is_same (get_or starts place any).address) others) _ _ (ap (λ (a : Address). list_any (is_same a) others) (here any) ∙ none)
    (three-at (OneGrows others written) starts (set before place out) mid place any e e grown within)
    ∙ get_or-set_same before place out e (omega (arith, within, long.0, length-set before place out))

-- ---- passes of any kind

module _ {E O : Type 0} where
  -- a pass that made nothing is as it was
  stays : (all : List E) (p q : PassView E O) → all ≡ [] → q ≡ p → q ≡ grown p q.seen all
  stays all p q none same =
      subst (λ (x : PassView E O). x ≡ grown p x.seen all) (sym same)
      (ap (λ (l : List E). record p { mine = l }) (sym (append-nil p.mine) ∙ ap (λ (l : List E). p.mine ++ l) (sym none)))

  module _ (Legal : List E → Type 0) (p q : PassView E O) where
    made-so : (new all : List E) → all ≡ new → HasMade new Legal p q → q ≡ grown p q.seen all
    made-so new all is has = subst (λ (l : List E). q ≡ grown p q.seen l) (sym is) has.pass

    -- what a pass made where the test passes
    pub where-grew : (b : Bool) (new all : List E) → (b ≡ true → all ≡ new) → (b ≡ false → all ≡ []) → Where b (HasMade new Legal p q) (q ≡ p) → q ≡ grown p q.seen all
    where-grew true new all on off has = made-so new all (on refl) has
    where-grew false new all on off same = stays all p q (off refl) same

    -- and where one of two tests does
    pub either-grew : (b c : Bool) (new other all : List E) → (b ≡ true → all ≡ new) → (b ≡ false → c ≡ true → all ≡ other) → (b ≡ false → c ≡ false → all ≡ [])
        → WhereEither b c (HasMade new Legal p q) (HasMade other Legal p q) (q ≡ p) → q ≡ grown p q.seen all
    either-grew true c new other all one two none is = made-so new all (one refl) (is.first refl)
    either-grew false true new other all one two none is = made-so other all (two refl refl) (is.second refl)
    either-grew false false new other all one two none is = stays all p q (none refl refl) (is.neither refl refl)

  module _ {A : Type 0} (new : A → List E) where
    -- each pass made what it made before, and then this
    pub passes-after : (lane : ℕ) (old more : A → List E) → ((x : A) → more x ≡ old x ++ new x) → (xs : List A) (ps qs : List (PassView E O)) → AllZip (λ (x : A) (pass : PassView E O). IsPass lane (old x) pass) xs ps
        → AllThree (λ (x : A) (p q : PassView E O). q ≡ grown p q.seen (new x)) xs ps qs → AllZip (λ (x : A) (pass : PassView E O). IsPass lane (more x) pass) xs qs
    passes-after lane old more longer [] [] [] is grew = tt
    passes-after lane old more longer (x ∷ xs) (p ∷ ps) (q ∷ qs) is grew = (
      record {
        number = ap (λ (pass : PassView E O). pass.number) grew.0 ∙ is.0.number;
        none_left = subst (λ (pass : PassView E O). pass.until ≤ pass.next) (sym grew.0) is.0.none_left;
        idle = ap (λ (pass : PassView E O). pass.stage) grew.0 ∙ is.0.idle;
        mine = ap (λ (pass : PassView E O). pass.mine) grew.0 ∙ ap (λ (l : List E). l ++ new x) is.0.mine ∙ sym (longer x);
      },
      passes-after lane old more longer xs ps qs is.1 grew.1,
    )
    passes-after lane old more longer _ _ _ is grew = absurd grew

    -- it is of the gate that it was of
    pub three-gates : (xs : List A) (gates : List (GateView E O)) (ps qs : List (PassView E O)) → AllThree (λ (x : A) (p q : PassView E O). q ≡ grown p q.seen (new x)) xs ps qs
        → AllZip (λ (gate : GateView E O) (pass : PassView E O). pass.gate ≡ Some gate) gates ps → AllZip (λ (gate : GateView E O) (pass : PassView E O). pass.gate ≡ Some gate) gates qs
    three-gates [] [] [] [] grew of = tt
    three-gates (x ∷ xs) (g ∷ gates) (p ∷ ps) (q ∷ qs) grew of =
        (ap (λ (pass : PassView E O). pass.gate) grew.0 ∙ of.0, three-gates xs gates ps qs grew.1 of.1)
    three-gates [] (g ∷ gates) [] [] grew of = absurd of
    three-gates (x ∷ xs) [] (p ∷ ps) (q ∷ qs) grew of = absurd of
    three-gates _ _ _ _ grew of = absurd grew

abbrev pub IsAtGate : WalletGate → WalletPass → Type 0
IsAtGate gate pass = pass.gate ≡ Some gate

-- a pass that holds a turn is of its gate
pub gates-set : (gates : List _) (passes : List WalletPass) (place : ℕ) (out : WalletPass) → AllZip IsAtGate gates passes
    → ((d : WalletPass) → out.gate ≡ (get_or passes place d).gate) → AllZip IsAtGate gates (set passes place out)
gates-set [] [] place out are same = tt
gates-set (g ∷ gates) (p ∷ passes) zero out are same = (same p ∙ are.0, are.1)
gates-set (g ∷ gates) (p ∷ passes) (suc place) out are same = (are.0, gates-set gates passes place out are.1 same)
gates-set _ _ place out are same = absurd are
