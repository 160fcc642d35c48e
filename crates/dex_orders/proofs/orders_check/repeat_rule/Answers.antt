use Rattle.std.proofs.Common.{◌≡◌, None, sym, subst, arith, inl, inr}
use Rattle.std.proofs.lemmas.Bool.{cases_lt}
use Rattle.dex_orders.specs.Faults.{pair_rule, repeat_rule}
use Rattle.dex_fields.proofs.FirstFault.{front_none, front_some}
use Rattle.dex_orders.proofs.orders_check.repeat_rule.Goals as goal

pub returns-in-Some : goal.returns-in-Some
unfolding repeat_rule
returns-in-Some c =
    sym (front_some (pair_rule c.args.bytes.now c.args.slot) c.args.slot c.loop-lower.lower c.in-Some.fault (omega arith) c.loop-lower.invariant (sym c.in-Some.ensures))

pub loop-lower-preserved : goal.loop-lower-preserved
loop-lower-preserved c k lt =
    elim (cases_lt k c.loop-lower.lower) [
      | inl before ↦ c.loop-lower.invariant k before
      | inr past ↦
          let same : c.loop-lower.lower ≡ k = omega arith in
          subst (λ n. pair_rule c.args.bytes.now c.args.slot n ≡ None) same (sym c.in_default.ensures)
    ]

pub returns : goal.returns
unfolding repeat_rule
returns c = sym (front_none (pair_rule c.args.bytes.now c.args.slot) c.args.slot (λ k lt. c.loop-lower.invariant k (omega arith)))
