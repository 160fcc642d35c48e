-- Instruction rows and swap rows without a fault.
use Rattle.std.proofs.Common.{◌≡◌, ◌||◌, ◌∷◌, [], ℕ, false, Ok, refl}
use Rattle.dex_statement.specs.declared.faults.FaultKind.TheVariants.{UnknownLabel, OverLimit, BadSwap, NoBatch}
use Rattle.dex_statement.specs.Stated.{PlainInstruction, PlainSwap, leg_words}
use Rattle.dex_script.specs.Drafts.{PlainDraft}
use Rattle.dex_script.specs.Rows.{exceeds_row, instruction_row, is_bad_swap, is_full, is_unknown, with_instruction, with_item, with_known, with_legs, with_swap, with_two}
use Rattle.dex_script.proofs.FaultLaws.{gives-ok, gives-unless, or-none}

-- what is known of an instruction row, and what it leaves
pub record IsOneRow (number : ℕ) (before after : PlainDraft) (words : PlainInstruction) : Type 0 where
  pub known : is_unknown before.script.start words.parties ≡ false
  pub room : is_full before number ≡ false
  pub within : exceeds_row words ≡ false
  pub is : with_item before (instruction_row number before.clock words ∷ []) words.lane ≡ after

pub instruction-row : (number : ℕ) (before after : PlainDraft) (words : PlainInstruction) → with_instruction before number words ≡ Ok after
    → IsOneRow number before after words
unfolding with_instruction with_known
instruction-row number before after words =
    let P : PlainDraft → Type 0 = λ left. IsOneRow number before left words in
    gives-unless P (is_unknown before.script.start words.parties) UnknownLabel _ (λ known.
    gives-unless P (is_full before number || exceeds_row words) OverLimit _ (λ limits.
    let c = or-none (is_full before number) (exceeds_row words) limits in
    gives-ok P _ (record { known = known; room = c.0; within = c.1; is = refl }))) after

-- the legs of a swap row, as instruction rows
abbrev pub first_leg : PlainSwap → PlainInstruction
first_leg words = leg_words words.lane words.signer words.first

abbrev pub second_leg : PlainSwap → PlainInstruction
second_leg words = leg_words words.lane words.signer words.second

-- what is known of a swap row, and what it leaves
pub record IsSwapRow (number : ℕ) (before after : PlainDraft) (words : PlainSwap) : Type 0 where
  pub first_known : is_unknown before.script.start (first_leg words).parties ≡ false
  pub second_known : is_unknown before.script.start (second_leg words).parties ≡ false
  pub room : is_full before number ≡ false
  pub first_within : exceeds_row (first_leg words) ≡ false
  pub second_within : exceeds_row (second_leg words) ≡ false
  pub good : is_bad_swap (first_leg words) (second_leg words) ≡ false
  pub apart : before.batch ≡ false
  pub is :
      with_item before
      (instruction_row number before.clock (first_leg words) ∷ instruction_row number before.clock (second_leg words) ∷ []) words.lane
      ≡ after

pub swap-row : (number : ℕ) (before after : PlainDraft) (words : PlainSwap) → with_swap before number words ≡ Ok after
    → IsSwapRow number before after words
unfolding with_two with_legs
swap-row number before after words =
    let P : PlainDraft → Type 0 = λ left. IsSwapRow number before left words in
    let start = before.script.start in
    let first = first_leg words in
    let second = second_leg words in
    gives-unless P (is_unknown start first.parties) UnknownLabel _ (λ first_known.
    gives-unless P (is_unknown start second.parties) UnknownLabel _ (λ second_known.
    gives-unless P (is_full before number || exceeds_row first || exceeds_row second) OverLimit _ (λ limits.
    gives-unless P (is_bad_swap first second) BadSwap _ (λ good.
    gives-unless P before.batch NoBatch _ (λ apart.
    let e = or-none (is_full before number || exceeds_row first) (exceeds_row second) limits in
    let f = or-none (is_full before number) (exceeds_row first) e.0 in
    gives-ok P _ (record {
      first_known = first_known;
      second_known = second_known;
      room = f.0;
      first_within = f.1;
      second_within = e.1;
      good = good;
      apart = apart;
      is = refl;
    })))))) after
