use Rattle.std.proofs.Common.{map, subst, ap, ◌∙◌}
use Rattle.dex_worth.specs.Entries.{AreMoved, with_moved}
use Rattle.dex_worth.proofs.Calling.{moved-more, moved-none}
use Rattle.dex_worth.proofs.ledger.add_moved.Goals as goal

pub returns-in_default : goal.returns-in_default
returns-in_default c = λ owners calls call are was.
    was ∙ moved-none calls call owners (subst (AreMoved call) c.in_default.is are)

pub returns-in-Some : goal.returns-in-Some
returns-in-Some c = λ owners calls call are was.
    c.add.ensures ∙ ap (map (with_moved c.in-Some.moved)) was
    ∙ moved-more calls call c.in-Some.moved owners (subst (AreMoved call) c.in-Some.is are)
