use Rattle.dex_slab.proofs.FrameKept.{account_kept}
use Rattle.dex_slab.proofs.laws.what_keeps_its_frame_stays_an_account.Goals as goal

pub returns : goal.returns
returns c = account_kept
