use Rattle.std.proofs.Common.{◌≡◌, map, take}
use Rattle.dex_types.specs.declared.addresses.Address.{Address}
use Rattle.dex_worth.specs.declared.amounts.TokenAmounts.{TokenAmounts}
use Rattle.dex_worth.specs.Amounts.{AreSums}
use Rattle.dex_eager_market.specs.Making.{account_of}
use Rattle.dex_eager_market.proofs.making.accounts_of.Given as goal

abbrev pub invariant-loop-place : goal.invariant-loop-place
invariant-loop-place l = (amounts : Address → TokenAmounts) → AreSums amounts l.owners l.held → l.accounts.items ≡ map (account_of amounts) (take l.place l.owners)
