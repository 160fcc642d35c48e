-- Steps of a desk, put together.
use Rattle.std.proofs.Common.{◌≡◌, ◌∙◌, List, [], ◌∷◌, ◌++◌, None, Some, ap, append_assoc, refl, subst, sym, ℕ, ⊎_elim}
use Rattle.std.proofs.lemmas.List.{append-nil}
use Rattle.std.proofs.lemmas.List.Concat.{flat_map-append}
use Rattle.dex_statement.specs.Words.{Fields}
use Rattle.dex_desk.specs.Blocks.{PlainBlock}
use Rattle.dex_desk.specs.Replies.{Acted, ActedIn, HadNone, HaveActed}
use Rattle.dex_desk.specs.Steps.{AreSteps, IsStepBy, PlainStep, SaidIn, Went, row_taken, rows_taken, text_said}

abbrev said_at : PlainStep → List ℕ
said_at step = step.said

steps-append : (before : PlainBlock) (steps : List PlainStep) (between : PlainBlock) (more : List PlainStep) (after : PlainBlock) → AreSteps before steps between
    → AreSteps between more after → AreSteps before (steps ++ more) after
steps-append before [] between more after is rest = subst (λ (b : PlainBlock). AreSteps b more after) is rest
steps-append before (step ∷ steps) between more after are rest = (are.0, steps-append step.after steps between more after are.1 rest)

-- nothing happened
pub went-none : (block : PlainBlock) (text : List ℕ) → Went [] block block text text
went-none block text = record { steps = []; are = refl; taken = refl; said = sym (append-nil text) }

-- one after the other
pub went-on : (rows more : List Fields) (before between after : PlainBlock) (old mid new : List ℕ) → Went rows before between old mid → Went more between after mid new
    → Went (rows ++ more) before after old new
went-on rows more before between after old mid new one two = record {
  steps = one.steps ++ two.steps;
  are = steps-append before one.steps between two.steps after one.are two.are;
  taken = flat_map-append row_taken one.steps two.steps ∙ ap (λ (l : List Fields). l ++ rows_taken two.steps) one.taken ∙ ap (λ (l : List Fields). rows ++ l) two.taken;
  said = two.said ∙ ap (λ (l : List ℕ). l ++ text_said two.steps) one.said ∙ append_assoc old (text_said one.steps) (text_said two.steps) ∙ ap (λ (l : List ℕ). old ++ l) (sym (flat_map-append said_at one.steps two.steps));
}

-- behind what was said before
pub went-behind : (rows : List Fields) (before after : PlainBlock) (said old new : List ℕ) → Went rows before after old new → Went rows before after (said ++ old) (said ++ new)
went-behind rows before after said old new went = record {
  steps = went.steps;
  are = went.are;
  taken = went.taken;
  said = ap (λ (l : List ℕ). said ++ l) went.said ∙ sym (append_assoc said old (text_said went.steps));
}

-- rows acted
pub went-acted : (before after : PlainBlock) (old new : List ℕ) → ActedIn before after old new → Went [] before after old new
went-acted before after old new acted = record {
  steps = record { row = None; said = acted.said; after = after } ∷ [];
  are = (acted.acted, refl);
  taken = refl;
  said = acted.text ∙ ap (λ (l : List ℕ). old ++ l) (sym (append-nil acted.said));
}

-- a row was taken
pub went-row : (row : Fields) (before after : PlainBlock) (said old new : List ℕ) → IsStepBy (Some row) before (record { row = Some row; said = said; after = after })
    → new ≡ old ++ said → Went (row ∷ []) before after old new
went-row row before after said old new is more = record {
  steps = record { row = Some row; said = said; after = after } ∷ [];
  are = (is, refl);
  taken = refl;
  said = more ∙ ap (λ (l : List ℕ). old ++ l) (sym (append-nil said));
}

-- the number of the next row stays where rows act
pub number-kept : (before after : PlainBlock) (said : List ℕ) → Acted before after said → after.number ≡ before.number
number-kept before after said acted =
    ⊎_elim (λ (none : HadNone before after said). ap (λ (b : PlainBlock). b.number) none.same)
    (λ (have : HaveActed before after said). ap (λ (b : PlainBlock). b.number) have.left) acted

-- and behind that something was said
pub said-behind : (before after : PlainBlock) (text old mid new : List ℕ) → ActedIn before after old mid → new ≡ mid ++ text → SaidIn before after text old new
said-behind before after text old mid new acted more = record {
  said = acted.said ++ text;
  is = more ∙ ap (λ (l : List ℕ). l ++ text) acted.text ∙ append_assoc old acted.said text;
  behind = record { answers = acted.said; acted = acted.acted; is = refl };
}
