use Rattle.std.proofs.Common.{ℕ, ◌≡◌, ◌-◌, ◌⊎◌, inl, inr, sym, subst, ◌∙◌, arith}
use Rattle.std.proofs.lemmas.Result.{err_from_is_err_and}
use Rattle.dex_slab_check.specs.Checked.{IsSizedTree, IsSoundChild}
use Rattle.dex_slab_check.specs.Faults.{BreaksAmong, BreaksChild, BreaksNode}
use Rattle.dex_slab.specs.Nodes.{tag_of}
use Rattle.dex_slab.specs.Tree.{nodes_of, tree_from}
use Rattle.dex_slab_check.proofs.SoundLaws.{among_first, among_first_child, among_second, among_second_child, sized_inner, sized_leaf}
use Rattle.dex_slab_check.proofs.check_tree.+check_tree.Goals as goal

-- a node of the tree that is no leaf is an inner node
is_inner : (tag found : ℕ) → found ≡ tag → (tag ≡ 1) ⊎ (tag ≡ 2) → (found ≡ 2 → ⊥) → tag ≡ 1
is_inner tag found is (inl inner) not_leaf = inner
is_inner tag found is (inr leaf) not_leaf = absurd (not_leaf (is ∙ leaf))

pub returns-then-tag_of-eq-LEAF : goal.returns-then-tag_of-eq-LEAF
returns-then-tag_of-eq-LEAF t c =
    sized_leaf c.args.steps c.args.bytes.now c.args.node c.requires.some c.requires.sound (sym c.tag_of.ensures ∙ c.if-tag_of-eq-LEAF.true)

pub returns-in_err-child_rule : goal.returns-in_err-child_rule
returns-in_err-child_rule t c =
    let bytes = c.args.bytes.now in
    let fault = c.in_err-child_rule.field-0.0 in
    let p = err_from_is_err_and c.from_residual.result c.from_residual.ensures.1 in
    let inner : tag_of bytes c.args.node ≡ 1 = is_inner _ _ c.tag_of.ensures c.requires.sound.known c.if-tag_of-eq-LEAF.false in
    rw (p.1, p.2)
    (among_first_child c.args.steps bytes c.args.node fault c.requires.some inner
    (subst (λ n. BreaksNode bytes n fault ⊎ BreaksChild bytes c.args.node 0 n fault) c.first_child-first.ensures c.in_err-child_rule.ensures))

pub returns-in_err-child_rule-2 : goal.returns-in_err-child_rule-2
returns-in_err-child_rule-2 t c =
    let bytes = c.args.bytes.now in
    let fault = c.in_err-child_rule-2.field-0.0 in
    let p = err_from_is_err_and c.from_residual-in_err-child_rule-2.result c.from_residual-in_err-child_rule-2.ensures.1 in
    let inner : tag_of bytes c.args.node ≡ 1 = is_inner _ _ c.tag_of.ensures c.requires.sound.known c.if-tag_of-eq-LEAF.false in
    rw (p.1, p.2)
    (among_second_child c.args.steps bytes c.args.node fault c.requires.some inner
    (subst (λ n. BreaksNode bytes n fault ⊎ BreaksChild bytes c.args.node 1 n fault) c.second_child-second.ensures c.in_err-child_rule-2.ensures))

pub returns-in_err-left : goal.returns-in_err-left
returns-in_err-left t c =
    let bytes = c.args.bytes.now in
    let fault = c.in_err-left.field-0.0 in
    let p = err_from_is_err_and c.from_residual-in_err-left.result c.from_residual-in_err-left.ensures.1 in
    let inner : tag_of bytes c.args.node ≡ 1 = is_inner _ _ c.tag_of.ensures c.requires.sound.known c.if-tag_of-eq-LEAF.false in
    rw (p.1, p.2)
    (among_first c.args.steps bytes c.args.node fault c.requires.some inner
    (subst (λ n. BreaksAmong bytes (nodes_of (tree_from (c.args.steps - 1) bytes n)) fault) c.first_child-first.ensures c.in_err-left.ensures))

pub returns-in_err-right : goal.returns-in_err-right
returns-in_err-right t c =
    let bytes = c.args.bytes.now in
    let fault = c.in_err-right.field-0.0 in
    let p = err_from_is_err_and c.from_residual-in_err-right.result c.from_residual-in_err-right.ensures.1 in
    let inner : tag_of bytes c.args.node ≡ 1 = is_inner _ _ c.tag_of.ensures c.requires.sound.known c.if-tag_of-eq-LEAF.false in
    rw (p.1, p.2)
    (among_second c.args.steps bytes c.args.node fault c.requires.some inner
    (subst (λ n. BreaksAmong bytes (nodes_of (tree_from (c.args.steps - 1) bytes n)) fault) c.second_child-second.ensures c.in_err-right.ensures))

pub returns : goal.returns
returns t c =
    let bytes = c.args.bytes.now in
    let inner : tag_of bytes c.args.node ≡ 1 = is_inner _ _ c.tag_of.ensures c.requires.sound.known c.if-tag_of-eq-LEAF.false in
    let size = c.requires.size.few in
    let bump = c.requires.bump in
    let left = c.in_ok-left.left in
    let right = c.in_ok-right.right in
    sized_inner c.args.steps bytes c.args.node left.nodes left.leaves right.nodes right.leaves c.requires.some (omega arith) c.requires.sound inner
    (subst (λ n. IsSoundChild bytes c.args.node 0 n) c.first_child-first.ensures c.in_ok-child_rule.ensures)
    (subst (λ n. IsSoundChild bytes c.args.node 1 n) c.second_child-second.ensures c.in_ok-child_rule-2.ensures)
    (subst (λ n. IsSizedTree bytes n (tree_from (c.args.steps - 1) bytes n) left.nodes left.leaves) c.first_child-first.ensures c.in_ok-left.ensures)
    (subst (λ n. IsSizedTree bytes n (tree_from (c.args.steps - 1) bytes n) right.nodes right.leaves) c.second_child-second.ensures c.in_ok-right.ensures)
