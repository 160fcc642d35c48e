use Rattle.std.proofs.Common.{Option, refl, rules, ap, sym, ◌∙◌}
use Rattle.dex_types.specs.declared.addresses.Address.{Address}
use Rattle.dex_locks.specs.Places.{carry_of, put}
use Rattle.dex_locks.proofs.PlaceLaws.{put-four}
use Rattle.dex_locks.proofs.insert.put_role.Goals as goal

pub returns-in_default : goal.returns-in_default
unfolding put
returns-in_default c = rw c.in_default.is refl

pub returns-in-Some : goal.returns-in-Some
returns-in-Some c =
    put-four c.args.places.now _ _ _ _ c.step.result _ _ _ _ (search rules)
    c.put_new-carry.ensures c.step-carry.ensures c.step-carry-in-Some.ensures c.step.ensures
    ∙ sym (ap (λ (role : Option Address). put (carry_of role) c.args.places.now) c.in-Some.is)
