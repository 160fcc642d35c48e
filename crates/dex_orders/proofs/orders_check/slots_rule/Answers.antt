use Rattle.std.proofs.Common.{◌≡◌, None, sym, subst, arith, inl, inr}
use Rattle.std.proofs.lemmas.Bool.{cases_lt}
use Rattle.dex_orders.specs.Faults.{place_rule, slots_rule}
use Rattle.dex_fields.proofs.FirstFault.{front_none, front_some}
use Rattle.dex_orders.proofs.orders_check.slots_rule.Goals as goal

pub returns-in-Some : goal.returns-in-Some
unfolding slots_rule
returns-in-Some c =
    sym (front_some (place_rule c.args.bytes.now) 128 c.loop-place.place c.in-Some.fault (omega arith) c.loop-place.invariant (sym c.in-Some.ensures))

pub loop-place-preserved : goal.loop-place-preserved
loop-place-preserved c k lt =
    elim (cases_lt k c.loop-place.place) [
      | inl before ↦ c.loop-place.invariant k before
      | inr past ↦
          let same : c.loop-place.place ≡ k = omega arith in
          subst (λ n. place_rule c.args.bytes.now n ≡ None) same (sym c.in_default.ensures)
    ]

pub returns : goal.returns
unfolding slots_rule
returns c = sym (front_none (place_rule c.args.bytes.now) 128 (λ k lt. c.loop-place.invariant k (omega arith)))
