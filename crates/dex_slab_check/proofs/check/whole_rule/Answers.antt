use Rattle.std.proofs.Common.{◌≡◌, ◌+◌, length, sym, ap, ◌∙◌, arith}
use Rattle.dex_slab_check.specs.Faults.{fault_of, met_in}
use Rattle.dex_slab.specs.Nodes.{bump_of}
use Rattle.dex_slab_check.proofs.WellFormedLaws.{length-met_in}
use Rattle.dex_slab_check.proofs.check.whole_rule.Goals as goal

pub returns-then-met-used : goal.returns-then-met-used
returns-then-met-used c =
    let met = length-met_in c.args.bytes.now in
    omega (arith, met, c.requires.nodes, c.from.ensures, c.free_len.ensures, c.from-2.ensures, c.bump.ensures, c.from-used.ensures, c.if-met-used.true)

pub returns-else-met-used : goal.returns-else-met-used
returns-else-met-used c =
    let bytes = c.args.bytes.now in
    let met : c.from.result + c.from-2.result ≡ length (met_in bytes) =
    omega (arith, length-met_in bytes, c.requires.nodes, c.from.ensures, c.free_len.ensures, c.from-2.ensures) in
    let used : c.from-used.result ≡ bump_of bytes = c.from-used.ensures ∙ c.bump.ensures in (
      (λ whole. c.if-met-used.false (met ∙ whole ∙ sym used)),
      c.of_header.ensures ∙ ap (λ n. fault_of 9 0 n c.from-used.result) met ∙ ap (λ n. fault_of 9 0 (length (met_in bytes)) n) used,
    )
