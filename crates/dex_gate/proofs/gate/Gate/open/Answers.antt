use Rattle.std.proofs.Common.{rules, ◌≡◌, [], ◌∷◌, Some, sym, subst}
use Rattle.atomic_table.specs.Table.{opening}
use Rattle.dex_gate.specs.declared.stage.Stage.TheVariants.{Idle}
use Rattle.dex_gate.specs.Rule.{Kept, first_view}
use Rattle.dex_gate.proofs.Keeps.{opens}
use Rattle.dex_gate.proofs.Seating.{is_pass}
use Rattle.dex_gate.proofs.gate.Gate.open.Goals as goal

pub new-requires : goal.new-requires
new-requires g c =
    let v = c.of.result.value in
    let n = c.count-count.result in
    let items : c.push.new.self.items ≡ Some c.args.value ∷ [] = search rules in
    subst (λ xs. Kept g.V.Journaled.entries g.V.Journaled.lane g.V.Journaled.origin v c.args.passes (opening (n ∷ n ∷ []) xs (first_view g.V.Journaled.entries g.V.Journaled.origin v c.args.passes))) (sym items)
    (opens _ _ _ v c.args.passes c.args.value n (sym c.of.ensures) (search rules) (search rules) (search rules) (search rules))

pub invariant_of-pass : goal.invariant_of-pass
invariant_of-pass g c = is_pass _ _ 0 Idle c.in-Ok.ensures.ok.4
