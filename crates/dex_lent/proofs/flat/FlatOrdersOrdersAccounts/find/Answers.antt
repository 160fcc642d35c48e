use Rattle.std.proofs.Common.{[], List, ℕ, Some, sym, ap, ◌∙◌}
use Rattle.dex_lent.proofs.FlatLaws.{found-in, lies-in}
use Rattle.dex_lent.proofs.flat.FlatOrdersOrdersAccounts.find.Goals as goal

pub data_of-requires : goal.data_of-requires
data_of-requires c = lies-in c.in_ok-place.place c.args.self.now.bytes.now c.in_ok-place.ensures.within

pub returns : goal.returns
returns c =
    (found-in c.args.address c.in_ok-place.place c.args.self.now.bytes.now (record { address = c.args.address; bytes = [] }) c.in_ok-place.ensures).found
    ∙ ap (λ (bytes : List ℕ). Some bytes) (sym c.data_of.ensures)
