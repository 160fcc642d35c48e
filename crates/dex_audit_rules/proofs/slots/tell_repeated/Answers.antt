use Rattle.std.proofs.Common.{◌≡◌, ℕ, [], eqb, not, take, get_or, sym, ap, ◌∙◌, arith, cond}
use Rattle.dex_types.specs.declared.terms.Side.TheVariants.{Bid}
use Rattle.dex_audit_rules.specs.declared.taken.Taken.{Taken}
use Rattle.dex_audit_rules.specs.Slots.{is_number_of, number_of, repeated}
use Rattle.dex_totals.specs.Tallies.{times}
use Rattle.dex_audit_rules.proofs.ListLaws.{told-more}
use Rattle.dex_audit_rules.proofs.MetLaws.{is_number_of-more, met-more}
use Rattle.dex_audit_rules.proofs.slots.tell_repeated.Goals as goal

pub loop-place-preserved : goal.loop-place-preserved
loop-place-preserved c =
    let all = c.args.taken.now in
    let at = c.loop-place.place in
    let d : Taken = record { owner = record { 0 = [] }; slot = 0; id = 0; side = Bid; client = 0 } in
    let number : c.number_of-number.result ≡ number_of (get_or all at d) = c.number_of-number.ensures in
    let fresh : c.is_fresh.result ≡ not (is_number_of (number_of (get_or all at d)) (take at all)) =
    c.is_fresh.ensures ∙ sym (c.loop-place.invariant.met c.number_of-number.result) ∙ ap (λ (n : ℕ). not (is_number_of n (take at all))) number in
    record {
      told =
          told-more (repeated all) all at d c.args.found.now.items c.loop-place.found.items c.tell_unless.new.found.items (omega arith) c.loop-place.invariant.told
          (rw (c.from.ensures, fresh) at c.in_ok-tell_unless.ensures);
      met = λ n.
          ap not (is_number_of-more n all at d (omega arith))
          ∙ met-more n (number_of (get_or all at d)) (times c.loop-place.met n) (times c.mark.new.tally n) (is_number_of n (take at all)) (c.loop-place.invariant.met n)
          (c.in_ok-mark.ensures n ∙ ap (λ (k : ℕ). cond (eqb n k) 1 (times c.loop-place.met n)) (c.from-in-loop-place.ensures ∙ number));
    }
