use Rattle.std.proofs.Common.{ℕ, ◌↔◌, Result, Ok, Err, IsOk, MatchResult, List, refl, arith}
use Rattle.std.proofs.lemmas.Result.{MatchResult-weaker, err_from_is_err_and}
use Rattle.dex_slab_check.specs.declared.slab_fault.SlabFault.{SlabFault}
use Rattle.dex_slab_check.specs.Faults.{AtFree, AtNode, IsFault}
use Rattle.dex_slab.specs.Slab.{IsSlab}
use Rattle.dex_slab_check.proofs.WellFormedLaws.{length-met_in, no_fault, slab_from_parts}
use Rattle.dex_slab_check.proofs.check.is_well_formed.Goals as goal

ok_iff : (bytes : List ℕ) (answer : Result (Unit {0}) SlabFault) → MatchResult answer (λ _. IsSlab bytes) (IsFault bytes) → IsOk answer ↔ IsSlab bytes
ok_iff bytes (Ok nothing) slab = ((λ _. slab), (λ _. refl))
ok_iff bytes (Err fault) breaks = ((λ ok. absurd cc), (λ slab. absurd (no_fault bytes fault slab breaks)))

pub returns-in_err-size-clause-ok : goal.returns-in_err-size-clause-ok
returns-in_err-size-clause-ok c =
    let p = err_from_is_err_and c.from_residual-in_err-size.result c.from_residual-in_err-size.ensures.1 in
    rw p.1 (ok_iff c.args.bytes.now (Err c.in_err-size.field-0.0) (AtNode c.in_err-size.ensures))

pub check_free-requires-clause-few : goal.check_free-requires-clause-few
check_free-requires-clause-few c =
    let met = length-met_in c.args.bytes.now in
    omega (arith, c.in_ok-whole_rule.ensures)

pub returns-clause-ok : goal.returns-clause-ok
returns-clause-ok c =
    let bytes = c.args.bytes.now in
    let size = c.in_ok-size.size in
    ok_iff bytes c.check_free.result
    (MatchResult-weaker c.check_free.result c.check_free.ensures
    (λ _ free. slab_from_parts bytes size.nodes size.leaves c.requires c.in_ok-bump_rule.ensures c.in_ok-size.ensures c.in_ok-count_rule.ensures c.in_ok-whole_rule.ensures free)
    (λ fault breaks. AtFree breaks))
