use Rattle.std.proofs.Common.{◌≡◌, ◌++◌, map, take}
use Rattle.dex_types.specs.Accounts.{PlainAccount, named_of}
use Rattle.dex_script_types.proofs.addresses.push_named.Given as goal

abbrev pub invariant-loop-account : goal.invariant-loop-account
invariant-loop-account l =
    l.addresses.items
    ≡ l.initial.addresses.items ++ map (λ (account : PlainAccount). account.address) (map named_of (take l.account-index l.accounts))
