use Rattle.std.proofs.Common.{rules, ◌≡◌, ◌∷◌, ℕ, ◌-◌, ap, subst, sym, ◌∙◌, refl, arith, lit≤}
use Rattle.dex_fields.specs.declared.slab.TheConstants.{BUMP_INDEX, FREE_LIST_HEAD, FREE_LIST_LEN, LEAF_COUNT, ROOT_NODE}
use Rattle.dex_slab.specs.Nodes.{bump_of, free_head_of, free_len_of, next_of}
use Rattle.dex_slab.specs.Slab.{IsShared, free_of}
use Rattle.dex_slab.proofs.NodeWrites.{ChangesHeader-by, ChangesHeader-then, number_kept}
use Rattle.dex_slab.proofs.PoolLaw.{head-below, shared-popped}
use Rattle.dex_slab.proofs.pool.take_freed.Goals as goal

pub next_of-next-requires : goal.next_of-next-requires
next_of-next-requires c =
    let spare = c.requires.spare in
    omega (arith, c.get_u32-node.ensures, head-below c.args.bytes.now spare.used spare.shared c.requires.some_free)

pub returns-clause-changes : goal.returns-clause-changes
returns-clause-changes c =
    ChangesHeader-then c.args.bytes.now c.put_u32.new.bytes c.put_u64.new.bytes
    (ChangesHeader-by c.args.bytes.now c.put_u32.new.bytes FREE_LIST_HEAD _ c.put_u32.ensures.bytes (lit≤ tt) (lit≤ tt))
    (ChangesHeader-by c.put_u32.new.bytes c.put_u64.new.bytes FREE_LIST_LEN _ c.put_u64.ensures.bytes (lit≤ tt) (lit≤ tt))

pub returns-clause-shared : goal.returns-clause-shared
returns-clause-shared c used h =
    let old = c.args.bytes.now in
    let mid = c.put_u32.new.bytes in
    let new = c.put_u64.new.bytes in
    let head : free_head_of new ≡ next_of old (free_head_of old) =
    number_kept mid new FREE_LIST_LEN _ FREE_LIST_HEAD c.put_u64.ensures.bytes refl ∙ c.put_u32.ensures.given ∙ c.next_of-next.ensures
    ∙ ap (next_of old) c.get_u32-node.ensures in
    let bump : bump_of new ≡ bump_of old =
    number_kept mid new FREE_LIST_LEN _ BUMP_INDEX c.put_u64.ensures.bytes refl ∙ number_kept old mid FREE_LIST_HEAD _ BUMP_INDEX c.put_u32.ensures.bytes refl in
    let freed : c.get_u64-freed.result ≡ free_len_of old = c.get_u64-freed.ensures in
    let len : free_len_of new ≡ c.get_u64-freed.result - 1 = c.put_u64.ensures.given in
    let kept = ChangesHeader-then old mid new
    (ChangesHeader-by old mid FREE_LIST_HEAD _ c.put_u32.ensures.bytes (lit≤ tt) (lit≤ tt))
    (ChangesHeader-by mid new FREE_LIST_LEN _ c.put_u64.ensures.bytes (lit≤ tt) (lit≤ tt)) in
    subst (λ (n : ℕ). IsShared new (n ∷ used) (free_of new)) (sym c.get_u32-node.ensures)
    (shared-popped old new used (c.get_u64-freed.result - 1) h (omega (arith, c.requires.some_free)) kept.nodes (search rules) bump len head)

pub returns-clause-root : goal.returns-clause-root
returns-clause-root c =
    number_kept c.put_u32.new.bytes c.put_u64.new.bytes FREE_LIST_LEN _ ROOT_NODE c.put_u64.ensures.bytes refl
    ∙ number_kept c.args.bytes.now c.put_u32.new.bytes FREE_LIST_HEAD _ ROOT_NODE c.put_u32.ensures.bytes refl

pub returns-clause-count : goal.returns-clause-count
returns-clause-count c =
    number_kept c.put_u32.new.bytes c.put_u64.new.bytes FREE_LIST_LEN _ LEAF_COUNT c.put_u64.ensures.bytes refl
    ∙ number_kept c.args.bytes.now c.put_u32.new.bytes FREE_LIST_HEAD _ LEAF_COUNT c.put_u32.ensures.bytes refl

pub returns-clause-bump : goal.returns-clause-bump
returns-clause-bump c =
    omega (
      arith,
      number_kept c.put_u32.new.bytes c.put_u64.new.bytes FREE_LIST_LEN _ BUMP_INDEX c.put_u64.ensures.bytes refl,
      number_kept c.args.bytes.now c.put_u32.new.bytes FREE_LIST_HEAD _ BUMP_INDEX c.put_u32.ensures.bytes refl,
      c.requires.some_free,
    )

pub returns-clause-freed : goal.returns-clause-freed
returns-clause-freed c = omega (arith, c.put_u64.ensures.given, c.get_u64-freed.ensures)
