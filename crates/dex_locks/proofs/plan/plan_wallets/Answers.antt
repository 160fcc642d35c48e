use Rattle.std.proofs.Common.{◌≡◌, [], ap, ◌∙◌, sym, subst}
use Rattle.dex_types.specs.Wallets.{with_role}
use Rattle.dex_locks.specs.Places.{StandInFront, carry_of, front, put}
use Rattle.dex_locks.proofs.PlaceLaws.{front-padded, length-roles, padded, put-roles, stand-padded}
use Rattle.dex_locks.proofs.plan.plan_wallets.Goals as goal

planned : (c : goal.After-put_role-4) → c.put_role-4.new.places
    ≡ padded 4 (with_role c.args.coin.now (with_role c.args.pc.now (with_role c.args.discount.now (with_role c.args.referrer.now []))))
planned c =
    c.put_role-4.ensures
    ∙ ap (put (carry_of c.args.coin.now)) (c.put_role-3.ensures
    ∙ ap (put (carry_of c.args.pc.now)) (c.put_role-2.ensures
    ∙ ap (put (carry_of c.args.discount.now)) c.put_role.ensures))
    ∙ put-roles c.args.coin.now c.args.pc.now c.args.discount.now c.args.referrer.now

pub returns-clause-wallets : goal.returns-clause-wallets
returns-clause-wallets c =
    ap front (planned c)
    ∙ front-padded 4 (with_role c.args.coin.now (with_role c.args.pc.now (with_role c.args.discount.now (with_role c.args.referrer.now []))))
    (length-roles c.args.coin.now c.args.pc.now c.args.discount.now c.args.referrer.now)

pub returns-clause-none_between : goal.returns-clause-none_between
returns-clause-none_between c =
    subst StandInFront (sym (planned c))
    (stand-padded 4 (with_role c.args.coin.now (with_role c.args.pc.now (with_role c.args.discount.now (with_role c.args.referrer.now [])))))
