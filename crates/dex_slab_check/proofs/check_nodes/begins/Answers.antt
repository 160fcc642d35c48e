use Rattle.std.proofs.Common.{arith}
use Rattle.std.proofs.lemmas.Bool.{eq-eqb, eqb-true}
use Rattle.dex_slab_check.proofs.PrefixLaws.{Begins-from_halves, halves_from_Begins}
use Rattle.dex_slab_check.proofs.check_nodes.begins.Goals as goal

pub returns-then-front-from : goal.returns-then-front-from
returns-then-front-from c =
    let a = c.args in (
      (λ same. Begins-from_halves a.prefix a.other a.bit a.key c.requires.short (omega arith) (eqb-true _ _ same)),
      (λ begins. eq-eqb _ _ (halves_from_Begins a.prefix a.other a.bit a.key c.requires.short c.requires.bit begins).1),
    )
