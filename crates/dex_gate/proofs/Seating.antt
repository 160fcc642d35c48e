-- What a step at its seat does to a pass.
use Rattle.std.proofs.Common.{◌≡◌, ℕ, ◌+◌, List, [], ◌∷◌, get_or, Option, Some, None, sym, refl, ap, ◌∙◌, subst}
use Rattle.std.proofs.lemmas.Option.{same_Some}
use Rattle.atomic_table.specs.Table.{Me, rest}
use Rattle.atomic_table.specs.Seated.{TableId}
use Rattle.dex_gate.specs.declared.board.Card.{Card}
use Rattle.dex_gate.specs.declared.board.View.{View}
use Rattle.dex_gate.specs.declared.stage.Stage.{Stage}
use Rattle.dex_gate.specs.declared.stage.Stage.TheVariants.{Idle, Waiting, Out}
use Rattle.dex_gate.specs.GateView.{GateView}
use Rattle.dex_gate.specs.PassView.{PassView}
use Rattle.dex_gate.specs.Steps.{lone, handing, handed, new_card, Shows}
use Rattle.dex_gate.specs.Seats.{gate_view, shown, pass_view, posed, IsPass, Takes}

module _ {V E O : Type 0} where
  -- what the seat of a pass knows, beside what contracts see of the pass and of its gate
  pub record Sits (z : TableId) (m : Me (Option V) (View E O)) (ticket : ℕ) (stage : Stage E) (p : PassView E O) (g : GateView E O) : Type 0 where
    pub card : Card E O
    pub posed_so : m ≡ posed card ticket stage
    pub shown_so : shown z card stage ≡ p
    pub gate_so : gate_view z card ≡ g
    pub table_so : z ≡ g.table

  pub sits : (z : TableId) (m : Me (Option V) (View E O)) (ticket : ℕ) (stage : Stage E) (p : PassView E O) (g : GateView E O) → IsPass ticket m → pass_view z m.0 ≡ p → p.gate ≡ Some g → p.stage ≡ stage → Sits z m ticket stage p g
  sits z m ticket stage p g ok is gate at =
      let whole : shown z ok.0 m.0.stage ≡ p = sym (ap (λ (y : Me (Option V) (View E O)). pass_view z y.0) ok.1) ∙ is in
      let staged : m.0.stage ≡ stage = ap (λ (q : PassView E O). q.stage) whole ∙ at in
      let gated : gate_view z ok.0 ≡ g = same_Some (gate_view z ok.0) g (ap (λ (q : PassView E O). q.gate) whole ∙ gate) in record {
        card = ok.0;
        posed_so = ok.1 ∙ ap (posed ok.0 ticket) staged;
        shown_so = ap (shown z ok.0) (sym staged) ∙ whole;
        gate_so = gated;
        table_so = ap (λ (y : GateView E O). y.table) gated;
      }

  -- a seat that is posed so is that of a pass
  pub is_pass : (m : Me (Option V) (View E O)) (c : Card E O) (ticket : ℕ) (stage : Stage E) → m ≡ posed c ticket stage → IsPass ticket m
  is_pass m c ticket stage e = (c, subst (λ (y : Me (Option V) (View E O)). y ≡ posed c ticket y.0.stage) (sym e) refl)

  -- what contracts see of it
  pub view_of_posed : (z z' : TableId) (m : Me (Option V) (View E O)) (c : Card E O) (ticket : ℕ) (stage : Stage E) → z' ≡ z → m ≡ posed c ticket stage → pass_view z' m.0 ≡ shown z c stage
  view_of_posed z z' m c ticket stage table e = (λ i. pass_view (table i) (e i).0)

  -- the seat after a ticket was drawn
  pub drawn : (m m' : Me (Option V) (View E O)) (c : Card E O) (ticket n : ℕ) → m ≡ posed c ticket Idle → m' ≡ (record m.0 { ticket = n; stage = Waiting }, m.1) → m' ≡ posed c n Waiting
  drawn m m' c ticket n e is = is ∙ (λ i. (record (e i).0 { ticket = n; stage = Waiting }, (e i).1))

  -- the seat that has handed out a number
  pub handed_out : (m m' : Me (Option V) (View E O)) (c : Card E O) (ticket : ℕ) (stage : Stage E) → m ≡ posed c ticket stage → m' ≡ (handing m.0, m.1) → m' ≡ posed (record c { next = c.next + 1 }) ticket stage
  handed_out m m' c ticket stage e is = is ∙ ap (λ (y : Me (Option V) (View E O)). (handing y.0, y.1)) e

  -- the seat that has it
  pub given_to : (m m' : Me (Option V) (View E O)) (c : Card E O) (ticket : ℕ) (stage : Stage E) → m ≡ posed c ticket stage → m' ≡ (handed m.0, []) → m' ≡ posed (new_card c) 0 Idle
  given_to m m' c ticket stage e is = is ∙ ap (λ (y : Me (Option V) (View E O)). (handed y.0, [])) e

module _ {V E O : Type 0} where
  -- a slot with a value may be exchanged
  pub in_hand : (m : Me (Option V) (View E O)) (v : View E O) (y : Option V) → m ≡ (v, (0, y) ∷ []) → (old : Option V) × (m.1 ≡ (0, old) ∷ rest m.1)
  in_hand m v y e = (y, subst (λ (z : Me (Option V) (View E O)). z.1 ≡ (0, y) ∷ rest z.1) (sym e) refl)

  -- what an exchange finds
  pub found_in_hand : (m : Me (Option V) (View E O)) (v : View E O) (y result : Option V) → m ≡ (v, (0, y) ∷ []) → m.1 ≡ (0, result) ∷ rest m.1 → result ≡ y
  found_in_hand m v y result e got =
      ap (λ (hand : List (ℕ × Option V)). (get_or hand 0 (0, y)).1) (sym got ∙ ap (λ (z : Me (Option V) (View E O)). z.1) e)

  -- what an exchange leaves
  pub left_in_hand : (m m' : Me (Option V) (View E O)) (v : View E O) (y new : Option V) → m ≡ (v, (0, y) ∷ []) → m' ≡ (m.0, (0, new) ∷ rest m.1) → m' ≡ (v, (0, new) ∷ [])
  left_in_hand m m' v y new e got = got ∙ ap (λ (z : Me (Option V) (View E O)). (z.0, (0, new) ∷ rest z.1)) e

module _ {V E O : Type 0} (entries : V → List E) (lane : E → ℕ) (origin : V → O) where
  pub takes_turn : (m m' : Me (Option V) (View E O)) (c : Card E O) (ticket : ℕ) (result : Option V) (value : V)
      → (x : V) × (m ≡ (lone c ticket (Out (entries x)), (0, Some x) ∷ [])) × Shows entries lane origin c x
      → m.1 ≡ (0, result) ∷ rest m.1 → m' ≡ (m.0, (0, None) ∷ rest m.1) → result ≡ Some value → Takes entries lane origin c ticket m' value
  takes_turn m m' c ticket result value took got left is =
      let same : took.0 ≡ value = same_Some took.0 value (sym (found_in_hand m _ _ result took.1 got) ∙ is) in record {
        posed_so = left_in_hand m m' _ _ None took.1 left ∙ ap (λ (x : V). posed c ticket (Out (entries x))) same;
        shows = subst (Shows entries lane origin c) same took.2;
      }
