use Rattle.std.proofs.Common.{List, Option, map, subst}
use Rattle.dex_types.specs.declared.account_bytes.OrdersAccount.{OrdersAccount}
use Rattle.dex_types.specs.declared.addresses.Address.{Address}
use Rattle.dex_types.specs.Accounts.{orders_account_of}
use Rattle.dex_check.specs.Flaws.{AreOnce, TellsTwice}
use Rattle.dex_check.proofs.checking.twice_flaw.Goals as goal

pub returns-in-None : goal.returns-in-None
returns-in-None c =
    subst (λ (l : List OrdersAccount). AreOnce (map orders_account_of l)) c.deref.ensures.value
    (subst (λ (told : Option Address). TellsTwice told (map orders_account_of c.deref.result.now)) c.in-None.is c.in_ok-find_twice.ensures)
