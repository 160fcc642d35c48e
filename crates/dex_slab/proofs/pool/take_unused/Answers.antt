use Rattle.std.proofs.Common.{rules, ◌≡◌, ◌∷◌, ℕ, ◌+◌, subst, sym, ◌∙◌, refl, arith, lit≤}
use Rattle.dex_fields.specs.declared.slab.TheConstants.{BUMP_INDEX, FREE_LIST_LEN, LEAF_COUNT, ROOT_NODE}
use Rattle.dex_slab.specs.Nodes.{bump_of, free_len_of}
use Rattle.dex_slab.specs.Slab.{IsShared, free_of}
use Rattle.dex_slab.proofs.NodeWrites.{ChangesHeader-by, number_kept}
use Rattle.dex_slab.proofs.PoolLaw.{shared-bumped}
use Rattle.dex_slab.proofs.pool.take_unused.Goals as goal

pub returns-clause-shared : goal.returns-clause-shared
returns-clause-shared c used h spare =
    let old = c.args.bytes.now in
    let new = c.put_u64.new.bytes in
    let still : free_len_of new ≡ 0 = number_kept old new BUMP_INDEX _ FREE_LIST_LEN c.put_u64.ensures.bytes refl ∙ c.requires.none_free in
    let bump : bump_of new ≡ bump_of old + 1 = omega (arith, c.put_u64.ensures.given, c.get_u64-node.ensures) in
    subst (λ (n : ℕ). IsShared new (n ∷ used) (free_of new)) (sym c.get_u64-node.ensures)
    (shared-bumped old new used h spare c.requires.none_free (search rules) bump still)

pub returns-clause-root : goal.returns-clause-root
returns-clause-root c = number_kept c.args.bytes.now c.put_u64.new.bytes BUMP_INDEX _ ROOT_NODE c.put_u64.ensures.bytes refl

pub returns-clause-count : goal.returns-clause-count
returns-clause-count c = number_kept c.args.bytes.now c.put_u64.new.bytes BUMP_INDEX _ LEAF_COUNT c.put_u64.ensures.bytes refl

pub returns-clause-changes : goal.returns-clause-changes
returns-clause-changes c = ChangesHeader-by c.args.bytes.now c.put_u64.new.bytes BUMP_INDEX _ c.put_u64.ensures.bytes (lit≤ tt) (lit≤ tt)

pub returns-clause-bump : goal.returns-clause-bump
returns-clause-bump c = omega (arith, c.put_u64.ensures.given, c.get_u64-node.ensures, c.requires.none_free)

pub returns-clause-freed : goal.returns-clause-freed
returns-clause-freed c =
    omega (arith, number_kept c.args.bytes.now c.put_u64.new.bytes BUMP_INDEX _ FREE_LIST_LEN c.put_u64.ensures.bytes refl, c.requires.none_free)
