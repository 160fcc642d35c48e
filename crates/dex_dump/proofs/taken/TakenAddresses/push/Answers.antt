use Rattle.std.proofs.Common.{◌≡◌, ◌∙◌, ◌∷◌, ◌++◌, [], List, ap, cond, sym, true}
use Rattle.dex_types.specs.declared.addresses.Address.{Address}
use Rattle.dex_types.specs.Addresses.{is_same}
use Rattle.dex_dump.specs.Reading.{is_among}
use Rattle.dex_dump.proofs.TakenLaws.{found-more}
use Rattle.dex_dump.proofs.taken.TakenAddresses.push.Goals as goal

pub invariant_of-self-in-Ok : goal.invariant_of-self-in-Ok
invariant_of-self-in-Ok c = λ address.
    let were : List Address = c.self.inside.in_order.items in
    let are : c.push_reserved.new.self.items ≡ were ++ c.args.address ∷ [] =
    c.push_reserved.ensures.items ∙ ap (λ (list : List Address). list ++ c.args.address ∷ []) c.in_ok-reserve.ensures.items in
    c.in-Ok.ensures.updates.0 address
    ∙ ap (cond (is_same c.args.address address) true) (c.self.invariant address)
    ∙ found-more address c.args.address were
    ∙ sym (ap (is_among address) are)
