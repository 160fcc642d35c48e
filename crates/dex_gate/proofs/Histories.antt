-- Histories that grow.
use Rattle.std.proofs.Common.{◌≡◌, ◌≢◌, ℕ, Bool, true, false, cond, eqb, List, [], ◌∷◌, ◌++◌, length, sym, refl, ap, ◌∙◌, subst, arith, append_assoc, append-nil, length-append, eq-eqb, ne_eqb, eqb-true}
use Rattle.std.proofs.lemmas.List.Prefix.{front_rest}
use Rattle.dex_gate.specs.History.{added, Extends, of_lane, AddsOne}

module _ {E : Type 0} where
  pub extends_by : (before rest after : List E) → after ≡ before ++ rest → Extends before after
  extends_by before rest after e = ap (λ r. before ++ r) (front_rest after before rest e) ∙ sym e

  pub extends_self : (l : List E) → Extends l l
  extends_self l = extends_by l [] l (sym (append-nil l))

  pub extends_through : (a b c : List E) → Extends a b → Extends b c → Extends a c
  extends_through a b c f g = extends_by a (added a b ++ added b c) c (sym g ∙ (ap (λ l. l ++ added b c) (sym f) ∙ append_assoc a (added a b) (added b c)))

  -- what is added grows with the list
  pub added-append : (a b rest : List E) → Extends a b → added a (b ++ rest) ≡ added a b ++ rest
  added-append a b rest f = front_rest (b ++ rest) a (added a b ++ rest) (ap (λ l. l ++ rest) (sym f) ∙ append_assoc a (added a b) rest)

  pub extends-append : (a b rest : List E) → Extends a b → Extends a (b ++ rest)
  extends-append a b rest f = extends_through a b (b ++ rest) f (extends_by b rest (b ++ rest) refl)

  one_of : (l : List E) → length l ≡ 1 → (e : E) × (l ≡ e ∷ [])
  one_of [] h = absurd (omega arith)
  one_of (x ∷ []) h = (x, refl)
  one_of (x ∷ y ∷ l) h = absurd (omega arith)

  module _ (lane : E → ℕ) where
    lane_is : (n : ℕ) (e : E) (b : Bool) → eqb (lane e) n ≡ b → cond b (e ∷ []) [] ≡ e ∷ [] → lane e ≡ n
    lane_is n e true is h = eqb-true (lane e) n is
    lane_is n e false is h = cc

    pub of_lane-here : (k : ℕ) (e : E) → lane e ≡ k → of_lane lane k (e ∷ []) ≡ e ∷ []
    of_lane-here k e is = ap (λ b. cond b (e ∷ []) []) (eq-eqb (lane e) k is)

    pub of_lane-else : (k : ℕ) (e : E) → lane e ≢ k → of_lane lane k (e ∷ []) ≡ []
    of_lane-else k e is = ap (λ b. cond b (e ∷ []) []) (ne_eqb (lane e) k is)

    -- the entry that a turn added
    pub record OneEntry (n : ℕ) (before after : List E) : Type 0 where
      pub entry : E
      pub after_is : after ≡ before ++ entry ∷ []
      pub added_is : added before after ≡ entry ∷ []
      pub lane_is_n : lane entry ≡ n

    pub one_entry : (n : ℕ) (before after : List E) → AddsOne lane n before after → OneEntry n before after
    one_entry n before after h = let short : length (added before after) ≡ 1 = omega (arith, length-append before (added before after), ap length h.0, h.1) in let o = one_of (added before after) short in record {
      entry = o.0;
      after_is = sym h.0 ∙ ap (λ l. before ++ l) o.1;
      added_is = o.1;
      lane_is_n = lane_is n o.0 (eqb (lane o.0) n) refl (subst (λ l. of_lane lane n l ≡ l) o.1 h.2);
    }
