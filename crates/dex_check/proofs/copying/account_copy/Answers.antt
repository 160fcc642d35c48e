use Rattle.dex_check.proofs.CopyLaws.{account-is}
use Rattle.dex_check.proofs.copying.account_copy.Goals as goal

pub returns : goal.returns
returns c = account-is c.args.record.now c.get_addr.result c.in_ok-bytes.bytes.items c.requires c.get_addr.ensures c.in_ok-bytes.ensures.items
