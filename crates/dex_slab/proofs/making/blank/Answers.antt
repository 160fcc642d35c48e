use Rattle.std.proofs.Common.{◌≡◌, length, ap, subst, sym, ◌∙◌}
use Rattle.dex_fields.specs.Empty.{empty_account}
use Rattle.dex_slab.specs.Blank.{blank_side}
use Rattle.dex_slab.specs.Slab.{IsSlab, resting, room_in}
use Rattle.dex_slab.proofs.BlankLaw.{IsSlab-blank_side, resting-blank_side, room_in-blank_side}
use Rattle.dex_slab.proofs.making.blank.Goals as goal

pub returns-clause-holds : goal.returns-clause-holds
returns-clause-holds c =
    let made : c.write_empty_account.new.bytes ≡ blank_side c.args.side (length c.args.bytes.now) = c.write_empty_account.ensures.bytes ∙ ap (empty_account (length c.args.bytes.now)) c.side_flags.ensures in
    subst IsSlab (sym made) (IsSlab-blank_side c.args.side (length c.args.bytes.now) c.requires)

pub returns-clause-orders : goal.returns-clause-orders
returns-clause-orders c =
    let made : c.write_empty_account.new.bytes ≡ blank_side c.args.side (length c.args.bytes.now) = c.write_empty_account.ensures.bytes ∙ ap (empty_account (length c.args.bytes.now)) c.side_flags.ensures in
    ap (resting c.args.side) made ∙ resting-blank_side c.args.side (length c.args.bytes.now) c.requires

pub returns-clause-room : goal.returns-clause-room
returns-clause-room c =
    let made : c.write_empty_account.new.bytes ≡ blank_side c.args.side (length c.args.bytes.now) = c.write_empty_account.ensures.bytes ∙ ap (empty_account (length c.args.bytes.now)) c.side_flags.ensures in
    ap room_in made ∙ room_in-blank_side c.args.side (length c.args.bytes.now) c.requires
