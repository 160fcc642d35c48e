use Rattle.std.proofs.Common.{◌≡◌, ◌∙◌, ◌+◌, ◌++◌, ℕ, ap, refl, add-one}
use Rattle.dex_report.specs.Draws.{generator_of}
use Rattle.dex_report.specs.Made.{after_row, generator_at, row_of, row_text}
use Rattle.dex_report.proofs.Numbered.{numbered-more, numbered-none}
use Rattle.dex_report.proofs.made.write_rows.Goals as goal

first-generator : (number : ℕ) → generator_of number ≡ generator_at number 0
unfolding generator_at
first-generator number = refl

next-generator : (number i : ℕ) → after_row i (generator_at number i) ≡ generator_at number (i + 1)
unfolding generator_at
next-generator number i = rw add-one refl

pub rows-init : goal.rows-init
rows-init c = record {
  generator = c.generator_of-generator.ensures ∙ first-generator c.args.number;
  text = numbered-none (row_of c.args.number) _;
}

pub rows-preserved : goal.rows-preserved
rows-preserved c = record {
  generator = c.in_ok-write_row.ensures.generator ∙ ap (after_row c.rows.i) c.rows.invariant.generator ∙ next-generator c.args.number c.rows.i;
  text = numbered-more (row_of c.args.number) _ _ _ c.rows.i c.rows.invariant.text
      (c.in_ok-write_row.ensures.text ∙ ap (λ g. c.rows.text.items ++ row_text c.rows.i g) c.rows.invariant.generator);
}
