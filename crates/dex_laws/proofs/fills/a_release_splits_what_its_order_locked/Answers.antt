use Rattle.dex_laws.proofs.FillLaws.{meet-SplitsLock}
use Rattle.dex_laws.proofs.fills.a_release_splits_what_its_order_locked.Goals as goal

pub returns : goal.returns
returns c = meet-SplitsLock
