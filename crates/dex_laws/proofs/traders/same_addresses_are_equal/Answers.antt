use Rattle.dex_laws.proofs.TraderLaws.{is_same-Decides}
use Rattle.dex_laws.proofs.traders.same_addresses_are_equal.Goals as goal

pub returns : goal.returns
returns c = is_same-Decides
