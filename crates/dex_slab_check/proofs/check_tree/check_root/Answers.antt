use Rattle.std.proofs.Common.{sym, subst, ◌∙◌}
use Rattle.std.proofs.lemmas.Result.{MatchResult-weaker, err_from_is_err_and}
use Rattle.dex_slab_check.specs.Checked.{IsSizedTree}
use Rattle.dex_slab_check.specs.Faults.{BreaksAmong, BreaksNode}
use Rattle.dex_slab.specs.Tree.{nodes_of, tree_from}
use Rattle.dex_slab_check.proofs.RootLaws.{among_root, root_broken, sized_none, sized_some}
use Rattle.dex_slab_check.proofs.check_tree.check_root.Goals as goal

pub returns-then-leaf_count-eq0 : goal.returns-then-leaf_count-eq0
returns-then-leaf_count-eq0 c = sized_none c.args.bytes.now (sym c.leaf_count.ensures ∙ c.if-leaf_count-eq0.true)

pub returns-in_err-node_rule : goal.returns-in_err-node_rule
returns-in_err-node_rule c =
    let bytes = c.args.bytes.now in
    let fault = c.in_err-node_rule.field-0.0 in
    let p = err_from_is_err_and c.from_residual.result c.from_residual.ensures.1 in
    rw (p.1, p.2)
    (root_broken bytes fault (λ empty. c.if-leaf_count-eq0.false (c.leaf_count.ensures ∙ empty))
    (subst (λ n. BreaksNode bytes n fault) c.root-root.ensures c.in_err-node_rule.ensures))

pub returns : goal.returns
returns c =
    let bytes = c.args.bytes.now in
    let some = λ (empty : _). c.if-leaf_count-eq0.false (c.leaf_count.ensures ∙ empty) in
    MatchResult-weaker c.check_tree.result c.check_tree.ensures
    (λ size sized. sized_some bytes size.nodes size.leaves some
    (subst (λ n. IsSizedTree bytes n (tree_from 129 bytes n) size.nodes size.leaves) c.root-root.ensures sized))
    (λ fault breaks. among_root bytes fault some
    (subst (λ n. BreaksAmong bytes (nodes_of (tree_from 129 bytes n)) fault) c.root-root.ensures breaks))
