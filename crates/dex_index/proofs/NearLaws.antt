-- What is done to the accounts at the places to which an index leads an address is done among all that it leads to.
use Rattle.std.proofs.Common.{◌≡◌, ℕ, ◌-◌, List, map, length, take, drop, sym, ap, ◌∙◌, arith}
use Rattle.std.proofs.lemmas.List.{drop-map, length-map, map-append, take-map}
use borrow.Rule.Slice.PartMut.{put_mid, put_same}
use Rattle.dex_types.specs.declared.account_bytes.OrdersAccount.{OrdersAccount}
use Rattle.dex_types.specs.declared.addresses.Address.{Address}
use Rattle.dex_types.specs.Accounts.{PlainAccount, orders_account_of}
use Rattle.dex_accounts.specs.Owners.{bytes_at, changed_at}
use Rattle.dex_step.specs.FundBytes.{CanChange, HasChanged}
use Rattle.dex_index.specs.declared.index.AccountIndex.{AccountIndex}
use Rattle.dex_index.specs.Reached.{IsNear, leads_to, reached_by}
use Rattle.dex_index.proofs.ReachedLaws.{Seen, bytes_at-seen, changed_at-seen, seen}

-- others in the place of some
put-plain : (accounts now : List OrdersAccount) (n k : ℕ)
    → map orders_account_of (put_mid n k accounts now) ≡ put_mid n k (map orders_account_of accounts) (map orders_account_of now)
put-plain accounts now n k = simp (map-append, take-map, drop-map)

module _ (index : AccountIndex) (address : Address) (accounts : List OrdersAccount) {from to : ℕ} (near : IsNear (leads_to index address) (length accounts) from to) where
  abbrev plain : List PlainAccount
  plain = map orders_account_of accounts

  abbrev some : List PlainAccount
  some = map orders_account_of (take (to - from) (drop from accounts))

  some-is : some ≡ take (to - from) (drop from plain)
  some-is = simp (take-map, drop-map)

  plain-seen : Seen (leads_to index) address plain 0 from (to - from)
  plain-seen =
      seen (leads_to index) address (length accounts) from to near plain 0 from (to - from) (omega arith) (omega (arith, near.ordered))
      (omega (arith, length-map accounts orders_account_of))

  -- the bytes of the address are found there as among all
  pub found-near : bytes_at address some ≡ bytes_at address (reached_by index plain)
  found-near = ap (bytes_at address) some-is ∙ sym (bytes_at-seen (leads_to index) address plain 0 from (to - from) plain-seen)

  -- a change there is one among all
  pub changed-near : (change : List ℕ → List ℕ) (now : List OrdersAccount) → map orders_account_of now ≡ changed_at address change some
      → reached_by index (map orders_account_of (put_mid from (to - from) accounts now)) ≡ changed_at address change (reached_by index plain)
  changed-near change now did =
      ap (reached_by index) (put-plain accounts now from (to - from) ∙ ap (put_mid from (to - from) plain) (did ∙ ap (changed_at address change) some-is))
      ∙ changed_at-seen (leads_to index) address change plain 0 from (to - from) plain-seen

  -- where those stay all stay
  pub kept-near : (now : List OrdersAccount) → map orders_account_of now ≡ some → reached_by index (map orders_account_of (put_mid from (to - from) accounts now)) ≡ reached_by index plain
  kept-near now stays =
      ap (reached_by index) (put-plain accounts now from (to - from) ∙ ap (put_mid from (to - from) plain) (stays ∙ some-is) ∙ put_same from (to - from) plain)

  pub can-near : (Can : List ℕ → Type 0) → CanChange address Can (reached_by index plain) → CanChange address Can some
  can-near Can can = record { account = can.account; found = found-near ∙ can.found; can = can.can }

  pub has-near : (Has : List ℕ → List ℕ → Type 0) (now : List OrdersAccount) → HasChanged address Has some (map orders_account_of now)
      → HasChanged address Has (reached_by index plain) (reached_by index (map orders_account_of (put_mid from (to - from) accounts now)))
  has-near Has now did = record {
    was = did.was;
    now = did.now;
    found = sym found-near ∙ did.found;
    changed = changed-near (λ old. did.now) now did.changed;
    has = did.has;
  }
