use Rattle.std.proofs.Common.{◌∙◌, sym}
use Rattle.std.proofs.lemmas.Bool.{false≢true}
use Rattle.dex_types.specs.Rows.{row_of}
use Rattle.dex_turns.proofs.LegPlaces.{both-at, legs-found}
use Rattle.dex_turns.proofs.both.wallets_of_both.Goals as goal

pub unreachable-requires : goal.unreachable-requires
unreachable-requires c =
    false≢true
    (sym (c.wallets_at.ensures.none c.in-None.is)
    ∙ legs-found (row_of c.args.first.now) (row_of c.args.second.now) c.args.one.now c.args.two.now)

pub returns : goal.returns
returns c = λ script.
    both-at script (row_of c.args.first.now) (row_of c.args.second.now) c.args.one.now c.args.two.now c.in-Some.wallets c.requires
    c.in-Some.ensures.found
