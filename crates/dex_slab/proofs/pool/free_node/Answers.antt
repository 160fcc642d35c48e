use Rattle.std.proofs.Common.{rules, ◌≡◌, ◌∷◌, ℕ, suc, ◌≤◌, subst, sym, ◌∙◌, refl, arith, lit≤}
use Rattle.dex_fields.specs.declared.slab.TheConstants.{BUMP_INDEX, FREE_LIST_HEAD, FREE_LIST_LEN, LEAF_COUNT, ROOT_NODE}
use Rattle.dex_slab.specs.Held.{IsFree}
use Rattle.dex_slab.specs.Nodes.{bump_of, free_head_of, free_len_of, node_bytes}
use Rattle.dex_slab.proofs.NodeWrites.{ChangesHeader-by, ChangesHeader-then, node_within, number_kept}
use Rattle.dex_slab.proofs.PoolLaw.{free_len-le, shared-freed, used-below}
use Rattle.dex_slab.proofs.Times.{times-some}
use Rattle.dex_slab.proofs.pool.free_node.Goals as goal
use Rattle.dex_slab.proofs.pool.free_node.Goals.{then-freed-eq0, else-freed-eq0}

pub put_node-requires : goal.put_node-requires
put_node-requires c =
    node_within c.args.bytes.now c.args.node
    (used-below c.args.bytes.now (c.args.node ∷ c.requires.used) c.args.node c.requires.shared (times-some c.args.node c.requires.used))

pub overflow_add-freed : goal.overflow_add-freed
overflow_add-freed c =
    let few = free_len-le c.args.bytes.now (c.args.node ∷ c.requires.used) c.requires.shared in
    omega (arith, c.get_u64-freed.ensures, c.requires.few)

pub returns-clause-root : goal.returns-clause-root
returns-clause-root c =
    number_kept c.put_u32.new.bytes c.put_u64.new.bytes FREE_LIST_LEN _ ROOT_NODE c.put_u64.ensures.bytes refl
    ∙ number_kept c.put_node.new.bytes c.put_u32.new.bytes FREE_LIST_HEAD _ ROOT_NODE c.put_u32.ensures.bytes refl
    ∙ c.put_node.ensures.changes.header_numbers ROOT_NODE (lit≤ tt)

pub returns-clause-count : goal.returns-clause-count
returns-clause-count c =
    number_kept c.put_u32.new.bytes c.put_u64.new.bytes FREE_LIST_LEN _ LEAF_COUNT c.put_u64.ensures.bytes refl
    ∙ number_kept c.put_node.new.bytes c.put_u32.new.bytes FREE_LIST_HEAD _ LEAF_COUNT c.put_u32.ensures.bytes refl
    ∙ c.put_node.ensures.changes.header_numbers LEAF_COUNT (lit≤ tt)

pub returns-clause-nodes : goal.returns-clause-nodes
returns-clause-nodes c other apart =
    let mid = c.put_node.new.bytes in
    let new = c.put_u64.new.bytes in
    let kept = ChangesHeader-then mid c.put_u32.new.bytes new
    (ChangesHeader-by mid c.put_u32.new.bytes FREE_LIST_HEAD _ c.put_u32.ensures.bytes (lit≤ tt) (lit≤ tt))
    (ChangesHeader-by c.put_u32.new.bytes new FREE_LIST_LEN _ c.put_u64.ensures.bytes (lit≤ tt) (lit≤ tt)) in
    kept.nodes other ∙ c.put_node.ensures.changes.nodes other apart

pub returns-clause-shared : goal.returns-clause-shared
returns-clause-shared c used h =
    let old = c.args.bytes.now in
    let node = c.args.node in
    let mid = c.put_node.new.bytes in
    let next = c.put_u32.new.bytes in
    let new = c.put_u64.new.bytes in
    let kept = ChangesHeader-then mid next new
    (ChangesHeader-by mid next FREE_LIST_HEAD _ c.put_u32.ensures.bytes (lit≤ tt) (lit≤ tt))
    (ChangesHeader-by next new FREE_LIST_LEN _ c.put_u64.ensures.bytes (lit≤ tt) (lit≤ tt)) in
    let piece : IsFree (node_bytes new node) c.if-freed-eq0.tag (free_head_of old) =
    subst (λ (n : ℕ). IsFree (node_bytes new node) c.if-freed-eq0.tag n) c.get_u32-next.ensures
    (subst (λ l. IsFree l c.if-freed-eq0.tag c.get_u32-next.result) (sym (kept.nodes node ∙ c.put_node.ensures.node)) c.free_piece.ensures.free) in
    let last : free_len_of old ≡ 0 → c.if-freed-eq0.tag ≡ 4 =
    (λ none. elim c.if-freed-eq0.branch [
      | then-freed-eq0 w ↦ w.tag-is
      | else-freed-eq0 w ↦ absurd (omega (arith, c.get_u64-freed.ensures))
    ]) in
    let more : 1 ≤ free_len_of old → c.if-freed-eq0.tag ≡ 3 =
    (λ some. elim c.if-freed-eq0.branch [
      | then-freed-eq0 w ↦ absurd (omega (arith, c.get_u64-freed.ensures))
      | else-freed-eq0 w ↦ w.tag-is
    ]) in
    let bump : bump_of new ≡ bump_of old =
    number_kept next new FREE_LIST_LEN _ BUMP_INDEX c.put_u64.ensures.bytes refl
    ∙ number_kept mid next FREE_LIST_HEAD _ BUMP_INDEX c.put_u32.ensures.bytes refl
    ∙ c.put_node.ensures.changes.header_numbers BUMP_INDEX (lit≤ tt) in
    let len : free_len_of new ≡ suc (free_len_of old) = omega (arith, c.put_u64.ensures.given, c.get_u64-freed.ensures) in
    let head : free_head_of new ≡ node =
    number_kept next new FREE_LIST_LEN _ FREE_LIST_HEAD c.put_u64.ensures.bytes refl ∙ c.put_u32.ensures.given in
    shared-freed old new used node c.if-freed-eq0.tag h (λ n apart. kept.nodes n ∙ c.put_node.ensures.changes.nodes n apart) piece last more (search rules) bump len head

pub returns-clause-bump : goal.returns-clause-bump
returns-clause-bump c =
    number_kept c.put_u32.new.bytes c.put_u64.new.bytes FREE_LIST_LEN _ BUMP_INDEX c.put_u64.ensures.bytes refl
    ∙ number_kept c.put_node.new.bytes c.put_u32.new.bytes FREE_LIST_HEAD _ BUMP_INDEX c.put_u32.ensures.bytes refl
    ∙ c.put_node.ensures.changes.header_numbers BUMP_INDEX (lit≤ tt)

pub returns-clause-freed : goal.returns-clause-freed
returns-clause-freed c = omega (arith, c.put_u64.ensures.given, c.get_u64-freed.ensures)
