use Rattle.std.proofs.Common.{◌≡◌, ◌≤◌, ◌∙◌, List, ℕ, ap, arith, subst, sym}
use Rattle.dex_fields.specs.Bytes.{number_in}
use Rattle.dex_fields.specs.Empty.{empty_account}
use Rattle.dex_fields.specs.Frame.{IsFramed}
use Rattle.dex_fields.specs.declared.slab.TheConstants.{ACCOUNT_FLAGS}
use Rattle.dex_fields.proofs.EmptyLaw.{IsFramed-empty_account, flags-empty_account}
use Rattle.dex_slab.specs.Blank.{blank_side, side_flags}
use Rattle.dex_slab.specs.Nodes.{nodes_within, room_of}
use Rattle.dex_slab.specs.Slab.{IsSlab, resting, room_in}
use Rattle.dex_slab.proofs.BlankLaw.{IsSlab-blank_side, resting-blank_side, room_in-blank_side, side_flags-fit}
use Rattle.dex_make.proofs.market.side_account.Goals as goal

pub returns-clause-accepted : goal.returns-clause-accepted
returns-clause-accepted c =
    let side = c.args.side in
    let size = c.made_size-size.result in
    let made = c.made_size-size.ensures.made c.requires.some c.requires.few in
    let is : c.in_ok-bytes.bytes.items ≡ blank_side side size = c.in_ok-bytes.ensures ∙ ap (empty_account size) c.side_flags.ensures in
    let long : 20 ≤ size = omega (arith, made.least) in
    record {
      slab = subst IsSlab (sym is) (IsSlab-blank_side side size made);
      framed = subst IsFramed (sym is) (IsFramed-empty_account size (side_flags side) long);
      flags = ap (λ (bytes : List ℕ). number_in bytes ACCOUNT_FLAGS) is ∙ flags-empty_account size (side_flags side) long (side_flags-fit side);
    }

pub returns-clause-orders : goal.returns-clause-orders
returns-clause-orders c =
    let size = c.made_size-size.result in
    let made = c.made_size-size.ensures.made c.requires.some c.requires.few in
    let is : c.in_ok-bytes.bytes.items ≡ blank_side c.args.side size = c.in_ok-bytes.ensures ∙ ap (empty_account size) c.side_flags.ensures in
    ap (resting c.args.side) is ∙ resting-blank_side c.args.side size made

pub returns-clause-room : goal.returns-clause-room
returns-clause-room c =
    let size = c.made_size-size.result in
    let made = c.made_size-size.ensures.made c.requires.some c.requires.few in
    let is : c.in_ok-bytes.bytes.items ≡ blank_side c.args.side size = c.in_ok-bytes.ensures ∙ ap (empty_account size) c.side_flags.ensures in
    let nodes : nodes_within size ≡ c.args.nodes = omega (arith, made.whole, c.made_size-size.ensures.size) in
    ap room_in is ∙ room_in-blank_side c.args.side size made ∙ ap room_of nodes
