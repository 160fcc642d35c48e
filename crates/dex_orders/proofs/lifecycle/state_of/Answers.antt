use Rattle.std.proofs.Common.{refl, sym, ◌∙◌, arith}
use Rattle.std.proofs.lemmas.Bool.{eqb-true}
use Rattle.dex_orders.proofs.Verdicts.{closed_from_flags, not_blank, open_from_flags}
use Rattle.dex_orders.proofs.lifecycle.state_of.Goals as goal

pub returns-then-eq-clause-blank : goal.returns-then-eq-clause-blank
returns-then-eq-clause-blank c = (
  (λ h. absurd cc),
  (λ blank. absurd (not_blank c.args.bytes.now
      (omega (arith, c.get_u64.ensures, c.from_bits_retain-flags.ensures tt, eqb-true c.from_bits_retain-flags.result.0 5 (sym c.eq.ensures ∙ c.if-eq.true))) blank)),
)

pub returns-then-eq-clause-open : goal.returns-then-eq-clause-open
returns-then-eq-clause-open c = (
  (λ h. open_from_flags c.args.bytes.now c.requires
      (omega (arith, c.get_u64.ensures, c.from_bits_retain-flags.ensures tt, eqb-true c.from_bits_retain-flags.result.0 5 (sym c.eq.ensures ∙ c.if-eq.true)))),
  (λ h. refl),
)

pub returns-then-eq-2-clause-blank : goal.returns-then-eq-2-clause-blank
returns-then-eq-2-clause-blank c = (
  (λ h. absurd cc),
  (λ blank. absurd (not_blank c.args.bytes.now
      (omega (arith, c.get_u64.ensures, c.from_bits_retain-flags.ensures tt, eqb-true c.from_bits_retain-flags.result.0 256 (sym c.eq-else-eq.ensures ∙ c.if-eq-2.true))) blank)),
)

pub returns-then-eq-2-clause-closed : goal.returns-then-eq-2-clause-closed
returns-then-eq-2-clause-closed c = (
  (λ h. closed_from_flags c.args.bytes.now c.requires
      (omega (arith, c.get_u64.ensures, c.from_bits_retain-flags.ensures tt, eqb-true c.from_bits_retain-flags.result.0 256 (sym c.eq-else-eq.ensures ∙ c.if-eq-2.true)))),
  (λ h. refl),
)
