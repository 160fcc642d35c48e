-- Changes of what accounts gained and paid.
use Rattle.std.proofs.Common.{ℕ, zero, suc, pos, ◌+◌, ◌-ℤ◌, ◌+ℤ◌, ◌<◌, ◌≤◌, ◌≡◌, Bool, true, false, if◌then◌else◌, List, [], ◌∷◌, ◌++◌, length, map, get_or, take, drop, refl, ap, arith}
use Rattle.std.specs.List.{All}
use Rattle.std.proofs.lemmas.Int.{ints}
use Rattle.std.proofs.lemmas.List.Elements.{All-map, All-weaker}
use Rattle.dex_types.specs.declared.addresses.Address.{Address}
use Rattle.dex_types.specs.Addresses.{is_same}
use Rattle.dex_eager.specs.Eager.{with_change}
use Rattle.dex_eager.specs.Worth.{Worth, plus}
use Rattle.dex_worth.specs.Amounts as amounts
use Rattle.dex_eager_market.specs.declared.accounts.Account.{Account}
use Rattle.dex_eager_market.specs.declared.accounts.Change.{Change}
use Rattle.dex_eager_market.specs.Accounts.{IsSmall, IsWithin, both, changed, entry_of, worth_of}

-- two changes are worth both together
difference : (a b c d : ℕ) → pos (a + c) -ℤ pos (b + d) ≡ (pos a -ℤ pos b) +ℤ (pos c -ℤ pos d)
difference a b c d = omega (arith, ints)

pub worth-both : (one other : Change) → worth_of (both one other) ≡ plus (worth_of one) (worth_of other)
worth-both one other =
    rw (difference one.gained.coin one.paid.coin other.gained.coin other.paid.coin)
    rw (difference one.gained.pc one.paid.pc other.gained.pc other.paid.pc) refl

-- all accounts after a change
pub entries-changed : (owner : Address) (change : Change) (accounts : List Account)
    → map entry_of (map (changed owner change) accounts) ≡ with_change owner (worth_of change) (map entry_of accounts)
entries-changed owner change [] = refl
entries-changed owner change (account ∷ others) =
    rw (entries-changed owner change others) (ap (λ (e : Address × Worth). e ∷ with_change owner (worth_of change) (map entry_of others)) (here (is_same account.address owner)))
  where
    here : (own : Bool) → entry_of (if own then record { address = account.address; total = both account.total change } else account)
        ≡ (account.address, (if own then plus (worth_of account.total) (worth_of change) else worth_of account.total))
    here true = ap (λ (w : Worth). (account.address, w)) (worth-both account.total change)
    here false = refl

-- the bound grows by that of the change
small-both : (bound more : ℕ) (one other : Change) → IsSmall bound one → IsSmall more other → IsSmall (bound + more) (both one other)
small-both bound more one other first second = record {
  gained = record { coin = omega (arith, first.gained.coin, second.gained.coin); pc = omega (arith, first.gained.pc, second.gained.pc) };
  paid = record { coin = omega (arith, first.paid.coin, second.paid.coin); pc = omega (arith, first.paid.pc, second.paid.pc) };
}

pub small-more : (bound more : ℕ) (change : Change) → bound ≤ more → IsSmall bound change → IsSmall more change
small-more bound more change le small = record {
  gained = record { coin = omega (arith, small.gained.coin); pc = omega (arith, small.gained.pc) };
  paid = record { coin = omega (arith, small.paid.coin); pc = omega (arith, small.paid.pc) };
}

within-changed : (bound more : ℕ) (owner : Address) (change : Change) (account : Account) → IsSmall more change → IsWithin bound account
    → IsWithin (bound + more) (changed owner change account)
within-changed bound more owner change account small within = by (is_same account.address owner)
  where
    by : (own : Bool) → IsWithin (bound + more) (if own then record { address = account.address; total = both account.total change } else account)
    by true = small-both bound more account.total change within small
    by false = small-more bound (bound + more) account.total (omega arith) within

pub all-changed : (bound more : ℕ) (owner : Address) (change : Change) (accounts : List Account) → IsSmall more change → All (IsWithin bound) accounts
    → All (IsWithin (bound + more)) (map (changed owner change) accounts)
all-changed bound more owner change accounts small all =
    All-map (IsWithin (bound + more)) (changed owner change) accounts
    (All-weaker (IsWithin bound) (λ account. IsWithin (bound + more) (changed owner change account)) (λ account within. within-changed bound more owner change account small within) accounts all)

pub all-more : (bound more : ℕ) (accounts : List Account) → bound ≤ more → All (IsWithin bound) accounts → All (IsWithin more) accounts
all-more bound more accounts le all = All-weaker (IsWithin bound) (IsWithin more) (λ account within. small-more bound more account.total le within) accounts all

-- while a list is mapped in place, what is left of it is as it was
pub get-rest : {X : Type 0} (f : X → X) (xs : List X) (i : ℕ) (d : X) → i < length xs → get_or (map f (take i xs) ++ drop i xs) i d ≡ get_or xs i d
get-rest f [] i d lt = absurd (omega arith)
get-rest f (x ∷ xs) zero d lt = refl
get-rest f (x ∷ xs) (suc i) d lt = get-rest f xs i d (omega arith)

-- an account that stands for none
abbrev pub no_account : Account
no_account = record { address = record { 0 = [] }; total = record { gained = amounts.none; paid = amounts.none } }
