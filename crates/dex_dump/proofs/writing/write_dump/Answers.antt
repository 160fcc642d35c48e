use Rattle.dex_types.specs.Accounts.{accounts_of}
use Rattle.dex_dump.proofs.WholeLaws.{whole-read}
use Rattle.dex_dump.proofs.writing.write_dump.Goals as goal

pub returns-in-Ok-clause-read_back : goal.returns-in-Ok-clause-read_back
returns-in-Ok-clause-read_back c = λ limits are.
    whole-read limits (accounts_of c.args.accounts.now) _ _ c.in_ok-text.ensures.items c.in-Ok.ensures.text c.in-Ok.ensures.held are
