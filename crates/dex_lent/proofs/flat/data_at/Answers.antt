use Rattle.std.proofs.Common.{ℕ, [], sym, subst}
use Rattle.dex_lent.specs.Flat.{IsDataAt}
use Rattle.dex_lent.proofs.FlatLaws.{found-in, lies-in}
use Rattle.dex_lent.proofs.flat.data_at.Goals as goal

pub start_of-requires : goal.start_of-requires
start_of-requires c = lies-in c.in-Some.place c.args.bytes.now c.in-Some.ensures.within

pub returns : goal.returns
returns c =
    subst (λ (at : ℕ). IsDataAt c.args.address c.args.bytes.now at) (sym c.start_of.ensures)
    (found-in c.args.address c.in-Some.place c.args.bytes.now (record { address = c.args.address; bytes = [] }) c.in-Some.ensures)
