-- what movements take from and bring to the wallets of a mint is what enters and leaves its vault
use Rattle.std.proofs.Common.{ℕ, ◌+◌, ◌*◌, ◌≤◌, ◌<◌, ◌≡◌, ◌⊎◌, inl, inr, ⊎_elim, Bool, true, false, ltb, cond, List, [], ◌∷◌, map, Option, Some, None, slice_index_or, refl, sym, ap, ◌∙◌, subst, arith}
use Rattle.std.proofs.lemmas.Bool.{cases_Bool, cases_lt, cond_both, cond-true, cond-false, lt-ltb, le-ltb, false≢true}
use Rattle.dex_types.specs.declared.addresses.Address.{Address}
use Rattle.dex_types.specs.declared.movements.Movement.{Movement}
use Rattle.dex_types.specs.declared.rows.Seen.{Seen}
use Rattle.dex_types.specs.declared.rows.WalletSeen.{WalletSeen}
use Rattle.dex_types.specs.Addresses.{is_same}
use Rattle.dex_types.specs.Market.{Market}
use Rattle.dex_types.specs.Side.{Token, Coin, Pc}
use Rattle.dex_types.specs.Totals.{total, weighed_where}
use Rattle.dex_types.specs.Transfers.{Transfers}
use Rattle.dex_types.specs.Wallets.{address_seen, amount_at, brought_to, taken_from, movement_by, movement_of, movements, seen_wallets, with_role, balance_seen}
use Rattle.dex_laws.proofs.TotalLaws.{total-agree, total-none}
use Rattle.dex_laws.proofs.TraderLaws.{is_same-true, is_same-refl, is_same-sym}
use Rattle.dex_history.specs.Balances.{mint_of}
use Rattle.dex_history.specs.Journal.{Asked, Sees}
use Rattle.dex_history.specs.Mints.{is_mint_in, is_of_mint, debited, credited, all_debited, all_credited, into_vault, out_of_vault, MeetVaults}
use Rattle.dex_history.proofs.AddressOrder.{AreRising, times, with_address-rising, with_address-times}
use Rattle.dex_history.proofs.BalanceLaws.{amount-le, apart-back}
use Rattle.dex_history.proofs.MoveLaws.{AreOneWith, IsIn, roles_of, coin-one, pc-one, referrer-one}
use Rattle.dex_history.proofs.WalletLaws.{wallet-movement_by}

-- the mint that is seen of a wallet is its own
mint-in : (mint : Address) (wallet : WalletSeen) (roles : List (Option WalletSeen)) → AreOneWith wallet roles → IsIn wallet roles
    → is_mint_in mint wallet.address roles ≡ is_same mint wallet.mint
mint-in mint wallet [] one here = absurd here
mint-in mint wallet (None ∷ roles) one (inl is) = absurd (cc)
mint-in mint wallet (None ∷ roles) one (inr later) = mint-in mint wallet roles one.1 later
mint-in mint wallet ((Some first) ∷ roles) one here =
    ⊎_elim
    (λ (same : is_same wallet.address first.address ≡ true).
    let is : wallet ≡ first = one.0 first refl (is_same-true wallet.address first.address same) in
    cond-true (is_same wallet.address first.address) (is_same mint first.mint) (is_mint_in mint wallet.address roles) same ∙ sym (ap (λ (w : WalletSeen). is_same mint w.mint) is))
    (λ (apart : is_same wallet.address first.address ≡ false).
    cond-false (is_same wallet.address first.address) (is_same mint first.mint) (is_mint_in mint wallet.address roles) apart
    ∙ mint-in mint wallet roles one.1 (later wallet first roles apart here))
    (cases_Bool (is_same wallet.address first.address))
  where
    later : (wallet first : WalletSeen) (roles : List (Option WalletSeen)) → is_same wallet.address first.address ≡ false → (Some first ≡ Some wallet) ⊎ IsIn wallet roles → IsIn wallet roles
    later wallet first roles apart (inl is) =
        let one : first ≡ wallet = cc in
        absurd (false≢true (sym apart ∙ subst (λ (w : WalletSeen). is_same wallet.address w.address ≡ true) (sym one) (is_same-refl wallet.address)))
    later wallet first roles apart (inr there) = there

-- wallets in rising order stand once, each that a role names
with_role-rising : (role : Option Address) (addresses : List Address) → AreRising addresses → AreRising (with_role role addresses)
with_role-rising None addresses rising = rising
with_role-rising (Some address) addresses rising = with_address-rising address addresses rising

with_role-keeps : (owner : Address) (role : Option Address) (addresses : List Address) → AreRising addresses → times owner addresses ≡ 1 → times owner (with_role role addresses) ≡ 1
with_role-keeps owner None addresses rising once = once
with_role-keeps owner (Some address) addresses rising once =
    with_address-times owner address addresses rising ∙ cond_both (is_same owner address) 1 (times owner addresses) (λ count. count ≡ 1) (λ same. refl) (λ apart. once)

with_role-here : (wallet : WalletSeen) (role : Option WalletSeen) (addresses : List Address) → role ≡ Some wallet → AreRising addresses → times wallet.address (with_role (address_seen role) addresses) ≡ 1
with_role-here wallet role addresses is rising =
    ap (λ r. times wallet.address (with_role (address_seen r) addresses)) is
    ∙ with_address-times wallet.address wallet.address addresses rising
    ∙ cond-true (is_same wallet.address wallet.address) 1 (times wallet.address addresses) (is_same-refl wallet.address)

-- the wallets after a role
abbrev behind_discount : Seen → List Address
behind_discount seen = with_role (address_seen seen.referrer) []

abbrev behind_pc : Seen → List Address
behind_pc seen = with_role (address_seen seen.discount) (behind_discount seen)

abbrev behind_coin : Seen → List Address
behind_coin seen = with_role (address_seen seen.pc) (behind_pc seen)

discount-rising : (seen : Seen) → AreRising (behind_discount seen)
discount-rising seen = with_role-rising (address_seen seen.referrer) [] tt

pc-rising : (seen : Seen) → AreRising (behind_pc seen)
pc-rising seen = with_role-rising (address_seen seen.discount) (behind_discount seen) (discount-rising seen)

coin-rising : (seen : Seen) → AreRising (behind_coin seen)
coin-rising seen = with_role-rising (address_seen seen.pc) (behind_pc seen) (pc-rising seen)

coin-once : (seen : Seen) (wallet : WalletSeen) → seen.coin ≡ Some wallet → times wallet.address (seen_wallets seen) ≡ 1
coin-once seen wallet is = with_role-here wallet seen.coin (behind_coin seen) is (coin-rising seen)

pc-once : (seen : Seen) (wallet : WalletSeen) → seen.pc ≡ Some wallet → times wallet.address (seen_wallets seen) ≡ 1
pc-once seen wallet is =
    with_role-keeps wallet.address (address_seen seen.coin) (behind_coin seen) (coin-rising seen) (with_role-here wallet seen.pc (behind_pc seen) is (pc-rising seen))

referrer-once : (seen : Seen) (wallet : WalletSeen) → seen.referrer ≡ Some wallet → times wallet.address (seen_wallets seen) ≡ 1
referrer-once seen wallet is =
    with_role-keeps wallet.address (address_seen seen.coin) (behind_coin seen) (coin-rising seen)
    (with_role-keeps wallet.address (address_seen seen.pc) (behind_pc seen) (pc-rising seen)
    (with_role-keeps wallet.address (address_seen seen.discount) (behind_discount seen) (discount-rising seen) (with_role-here wallet seen.referrer [] is tt)))

-- an amount at one address, over addresses
total-at : (owner : Address) (amount : ℕ) (addresses : List Address) → total (λ (a : Address). cond (is_same a owner) amount 0) addresses ≡ times owner addresses * amount
total-at owner amount [] = omega arith
total-at owner amount (first ∷ others) =
    let rest : total (λ (a : Address). cond (is_same a owner) amount 0) others ≡ times owner others * amount = total-at owner amount others in
    ⊎_elim
    (λ (same : is_same first owner ≡ true).
    let back : is_same owner first ≡ true = is_same-sym owner first ∙ same in
    rw (same, back) (omega (arith, rest)))
    (λ (apart : is_same first owner ≡ false).
    let back : is_same owner first ≡ false = is_same-sym owner first ∙ apart in
    rw (apart, back) (omega (arith, rest)))
    (cases_Bool (is_same first owner))

-- nothing moves under a role, or its wallet is of the mint
abbrev pub IsOfMint : Address → Option WalletSeen → ℕ → Type 0
IsOfMint mint role amount = (amount ≡ 0) ⊎ ((wallet : WalletSeen) × (role ≡ Some wallet) × (is_same mint wallet.mint ≡ true))

-- what moves under a role, over the wallets of a mint
role-total : (seen : Seen) (mint of : Address) (role : Option WalletSeen) (amount : ℕ) → IsOfMint of role amount
    → ((wallet : WalletSeen) → role ≡ Some wallet → is_of_mint seen mint wallet.address ≡ is_same mint wallet.mint)
    → ((wallet : WalletSeen) → role ≡ Some wallet → times wallet.address (seen_wallets seen) ≡ 1)
    → total (λ (a : Address). cond (is_of_mint seen mint a) (amount_at a role amount) 0) (seen_wallets seen) ≡ cond (is_same mint of) amount 0
role-total seen mint of role amount (inl none) mints once =
    total-none (λ (a : Address). cond (is_of_mint seen mint a) (amount_at a role amount) 0) (seen_wallets seen)
    (λ k default within. nothing (is_of_mint seen mint (slice_index_or (seen_wallets seen) k default)) (amount_at (slice_index_or (seen_wallets seen) k default) role amount)
    (omega (arith, none, amount-le (slice_index_or (seen_wallets seen) k default) role amount)))
    ∙ sym (nothing (is_same mint of) amount none)
  where
    nothing : (test : Bool) (amount : ℕ) → amount ≡ 0 → cond test amount 0 ≡ 0
    nothing true amount none = none
    nothing false amount none = refl
role-total seen mint of role amount (inr named) mints once =
    let wallet : WalletSeen = named.0 in
    let is : role ≡ Some wallet = named.1 in
    let right : of ≡ wallet.mint = is_same-true of wallet.mint named.2 in
    let test : is_of_mint seen mint wallet.address ≡ is_same mint of = mints wallet is ∙ ap (is_same mint) (sym right) in
    total-agree (λ (a : Address). cond (is_of_mint seen mint a) (amount_at a role amount) 0) (λ (a : Address). cond (is_same a wallet.address) (cond (is_same mint of) amount 0) 0) (seen_wallets seen)
    (λ k default within. each (slice_index_or (seen_wallets seen) k default) seen mint of role amount wallet is test)
    ∙ total-at wallet.address (cond (is_same mint of) amount 0) (seen_wallets seen)
    ∙ ap (λ count. count * cond (is_same mint of) amount 0) (once wallet is)
    ∙ omega arith
  where
    each : (address : Address) (seen : Seen) (mint of : Address) (role : Option WalletSeen) (amount : ℕ) (wallet : WalletSeen) → role ≡ Some wallet
        → is_of_mint seen mint wallet.address ≡ is_same mint of
        → cond (is_of_mint seen mint address) (amount_at address role amount) 0 ≡ cond (is_same address wallet.address) (cond (is_same mint of) amount 0) 0
    each address seen mint of role amount wallet is test =
        ap (λ r. cond (is_of_mint seen mint address) (amount_at address r amount) 0) is
        ∙ ⊎_elim
        (λ (same : is_same address wallet.address ≡ true).
        let one : address ≡ wallet.address = is_same-true address wallet.address same in
        let tested : is_of_mint seen mint address ≡ is_same mint of = ap (is_of_mint seen mint) one ∙ test in
        ap (λ b. cond b (cond (is_same address wallet.address) amount 0) 0) tested
        ∙ ap (λ b. cond (is_same mint of) (cond b amount 0) 0) same
        ∙ sym (cond-true (is_same address wallet.address) (cond (is_same mint of) amount 0) 0 same))
        (λ (apart : is_same address wallet.address ≡ false).
        ap (λ b. cond (is_of_mint seen mint address) (cond b amount 0) 0) apart
        ∙ cond_both (is_of_mint seen mint address) 0 0 (λ x. x ≡ 0) (λ yes. refl) (λ no. refl)
        ∙ sym (cond-false (is_same address wallet.address) (cond (is_same mint of) amount 0) 0 apart))
        (cases_Bool (is_same address wallet.address))

-- what a movement takes and brings
debited-by : (address : Address) (before taken brought : ℕ) → debited (movement_by address before taken brought) ≡ taken
debited-by address before taken brought =
    ⊎_elim
    (λ (some : 0 < taken). let pays : ltb 0 taken ≡ true = lt-ltb 0 taken some in rw pays refl)
    (λ (none : taken ≤ 0).
    let pays_not : ltb 0 taken ≡ false = le-ltb 0 taken none in
    ⊎_elim
    (λ (some : 0 < brought). let gets : ltb 0 brought ≡ true = lt-ltb 0 brought some in rw (pays_not, gets) (omega arith))
    (λ (nothing : brought ≤ 0). let gets_not : ltb 0 brought ≡ false = le-ltb 0 brought nothing in rw (pays_not, gets_not) (omega arith))
    (cases_lt 0 brought))
    (cases_lt 0 taken)

credited-by : (address : Address) (before taken brought : ℕ) → (taken ≡ 0) ⊎ (brought ≡ 0) → credited (movement_by address before taken brought) ≡ brought
credited-by address before taken brought one_way =
    ⊎_elim
    (λ (some : 0 < taken).
    let pays : ltb 0 taken ≡ true = lt-ltb 0 taken some in
    let nothing : brought ≡ 0 = ⊎_elim (λ (none : taken ≡ 0). absurd (omega arith)) (λ (none : brought ≡ 0). none) one_way in
    rw pays (omega arith))
    (λ (none : taken ≤ 0).
    let pays_not : ltb 0 taken ≡ false = le-ltb 0 taken none in
    ⊎_elim
    (λ (some : 0 < brought). let gets : ltb 0 brought ≡ true = lt-ltb 0 brought some in rw (pays_not, gets) refl)
    (λ (nothing : brought ≤ 0). let gets_not : ltb 0 brought ≡ false = le-ltb 0 brought nothing in rw (pays_not, gets_not) (omega arith))
    (cases_lt 0 brought))
    (cases_lt 0 taken)

-- a sum where a test holds is the sum of both where it holds
pub cond-plus : (test : Bool) (a b : ℕ) → cond test (a + b) 0 ≡ cond test a 0 + cond test b 0
cond-plus true a b = refl
cond-plus false a b = refl

-- so what movements take from the wallets of a mint is what is taken under each role, over them
debited-roles : (seen : Seen) (t : Transfers) (mint : Address) (addresses : List Address) → all_debited seen mint (map (movement_of seen t) addresses)
    ≡ total (λ (a : Address). cond (is_of_mint seen mint a) (amount_at a seen.coin t.coin_in) 0) addresses
    + total (λ (a : Address). cond (is_of_mint seen mint a) (amount_at a seen.pc t.pc_in) 0) addresses
debited-roles seen t mint [] = omega arith
debited-roles seen t mint (address ∷ addresses) =
    let wallet : (movement_of seen t address).wallet ≡ address = wallet-movement_by address (balance_seen seen address) (taken_from seen t address) (brought_to seen t address) in
    let moved : debited (movement_of seen t address) ≡ taken_from seen t address = debited-by address (balance_seen seen address) (taken_from seen t address) (brought_to seen t address) in
    let first : weighed_where (λ (move : Movement). is_of_mint seen mint move.wallet) debited (movement_of seen t address) ≡ cond (is_of_mint seen mint address) (taken_from seen t address) 0 =
    ap (λ a. cond (is_of_mint seen mint a) (debited (movement_of seen t address)) 0) wallet ∙ ap (λ x. cond (is_of_mint seen mint address) x 0) moved in
    omega (
      arith,
      first,
      cond-plus (is_of_mint seen mint address) (amount_at address seen.coin t.coin_in) (amount_at address seen.pc t.pc_in),
      debited-roles seen t mint addresses,
    )

credited-roles : (seen : Seen) (t : Transfers) (mint : Address) (addresses : List Address)
    → ((address : Address) → (taken_from seen t address ≡ 0) ⊎ (brought_to seen t address ≡ 0))
    → all_credited seen mint (map (movement_of seen t) addresses)
    ≡ total (λ (a : Address). cond (is_of_mint seen mint a) (amount_at a seen.coin t.coin_out) 0) addresses
    + total (λ (a : Address). cond (is_of_mint seen mint a) (amount_at a seen.pc t.pc_out) 0) addresses
    + total (λ (a : Address). cond (is_of_mint seen mint a) (amount_at a seen.referrer t.referrer_out) 0) addresses
credited-roles seen t mint [] one_way = omega arith
credited-roles seen t mint (address ∷ addresses) one_way =
    let wallet : (movement_of seen t address).wallet ≡ address = wallet-movement_by address (balance_seen seen address) (taken_from seen t address) (brought_to seen t address) in
    let moved : credited (movement_of seen t address) ≡ brought_to seen t address =
    credited-by address (balance_seen seen address) (taken_from seen t address) (brought_to seen t address) (one_way address) in
    let first : weighed_where (λ (move : Movement). is_of_mint seen mint move.wallet) credited (movement_of seen t address) ≡ cond (is_of_mint seen mint address) (brought_to seen t address) 0 =
    ap (λ a. cond (is_of_mint seen mint a) (credited (movement_of seen t address)) 0) wallet ∙ ap (λ x. cond (is_of_mint seen mint address) x 0) moved in
    omega (
      arith,
      first,
      cond-plus (is_of_mint seen mint address) (amount_at address seen.coin t.coin_out + amount_at address seen.pc t.pc_out) (amount_at address seen.referrer t.referrer_out),
      cond-plus (is_of_mint seen mint address) (amount_at address seen.coin t.coin_out) (amount_at address seen.pc t.pc_out),
      credited-roles seen t mint addresses one_way,
    )

-- the wallets that transfers move are of the market's mints
pub record AreOfMints (seen : Seen) (m : Market) (t : Transfers) : Type 0 where
  pub coin_in : IsOfMint m.listing.coin_mint seen.coin t.coin_in
  pub pc_in : IsOfMint m.listing.pc_mint seen.pc t.pc_in
  pub coin_out : IsOfMint m.listing.coin_mint seen.coin t.coin_out
  pub pc_out : IsOfMint m.listing.pc_mint seen.pc t.pc_out
  pub referrer_out : IsOfMint m.listing.pc_mint seen.referrer t.referrer_out

-- the roles, over the wallets of a mint
coin-total : (row : Asked) (seen : Seen) (mint of : Address) (amount : ℕ) → Sees row seen → IsOfMint of seen.coin amount
    → total (λ (a : Address). cond (is_of_mint seen mint a) (amount_at a seen.coin amount) 0) (seen_wallets seen) ≡ cond (is_same mint of) amount 0
coin-total row seen mint of amount sees is =
    role-total seen mint of seen.coin amount is (λ wallet here. mint-in mint wallet (roles_of seen) (coin-one row seen wallet sees here) (inl here)) (coin-once seen)

pc-total : (row : Asked) (seen : Seen) (mint of : Address) (amount : ℕ) → Sees row seen → IsOfMint of seen.pc amount
    → total (λ (a : Address). cond (is_of_mint seen mint a) (amount_at a seen.pc amount) 0) (seen_wallets seen) ≡ cond (is_same mint of) amount 0
pc-total row seen mint of amount sees is =
    role-total seen mint of seen.pc amount is (λ wallet here. mint-in mint wallet (roles_of seen) (pc-one row seen wallet sees here) (inr (inl here))) (pc-once seen)

referrer-total : (row : Asked) (seen : Seen) (mint of : Address) (amount : ℕ) → Sees row seen → IsOfMint of seen.referrer amount
    → total (λ (a : Address). cond (is_of_mint seen mint a) (amount_at a seen.referrer amount) 0) (seen_wallets seen) ≡ cond (is_same mint of) amount 0
referrer-total row seen mint of amount sees is =
    role-total seen mint of seen.referrer amount is (λ wallet here. mint-in mint wallet (roles_of seen) (referrer-one row seen wallet sees here) (inr (inr (inr (inl here))))) (referrer-once seen)

-- of each mint
debits-of : (row : Asked) (seen : Seen) (m : Market) (t : Transfers) (mint : Address) → Sees row seen → AreOfMints seen m t
    → all_debited seen mint (movements seen t) ≡ cond (is_same mint m.listing.coin_mint) t.coin_in 0 + cond (is_same mint m.listing.pc_mint) t.pc_in 0
debits-of row seen m t mint sees are =
    omega (
      arith,
      debited-roles seen t mint (seen_wallets seen),
      coin-total row seen mint m.listing.coin_mint t.coin_in sees are.coin_in,
      pc-total row seen mint m.listing.pc_mint t.pc_in sees are.pc_in,
    )

credits-of : (row : Asked) (seen : Seen) (m : Market) (t : Transfers) (mint : Address) → Sees row seen → AreOfMints seen m t
    → ((address : Address) → (taken_from seen t address ≡ 0) ⊎ (brought_to seen t address ≡ 0))
    → all_credited seen mint (movements seen t)
    ≡ cond (is_same mint m.listing.coin_mint) t.coin_out 0 + cond (is_same mint m.listing.pc_mint) t.pc_out 0 + cond (is_same mint m.listing.pc_mint) t.referrer_out 0
credits-of row seen m t mint sees are one_way =
    omega (
      arith,
      credited-roles seen t mint (seen_wallets seen) one_way,
      coin-total row seen mint m.listing.coin_mint t.coin_out sees are.coin_out,
      pc-total row seen mint m.listing.pc_mint t.pc_out sees are.pc_out,
      referrer-total row seen mint m.listing.pc_mint t.referrer_out sees are.referrer_out,
    )

-- at the two mints, which differ
at-mint : (mint coin pc : Address) (first second : ℕ) (coin_is pc_is : Bool) → is_same mint coin ≡ coin_is → is_same mint pc ≡ pc_is
    → cond (is_same mint coin) first 0 + cond (is_same mint pc) second 0 ≡ cond coin_is first 0 + cond pc_is second 0
at-mint mint coin pc first second coin_is pc_is is_coin is_pc = ap (λ b. cond b first 0 + cond (is_same mint pc) second 0) is_coin ∙ ap (λ b. cond coin_is first 0 + cond b second 0) is_pc

pub transfers-meet : (row : Asked) (seen : Seen) (m : Market) (t : Transfers) → is_same m.listing.coin_mint m.listing.pc_mint ≡ false → Sees row seen → AreOfMints seen m t
    → ((address : Address) → (taken_from seen t address ≡ 0) ⊎ (brought_to seen t address ≡ 0)) → MeetVaults seen m t (movements seen t)
transfers-meet row seen m t apart sees are one_way =
    let coin : Address = m.listing.coin_mint in
    let pc : Address = m.listing.pc_mint in
    record {
      debits = debits row seen m t apart sees are;
      credits = credits row seen m t apart sees are one_way;
      others_debits = λ mint no_coin no_pc. debits-of row seen m t mint sees are ∙ at-mint mint coin pc t.coin_in t.pc_in false false no_coin no_pc;
      others_credits = λ mint no_coin no_pc.
          omega (
            arith,
            credits-of row seen m t mint sees are one_way,
            at-mint mint coin pc t.coin_out t.pc_out false false no_coin no_pc,
            at-mint mint coin pc t.coin_out t.referrer_out false false no_coin no_pc,
            ap (λ b. cond b t.coin_out 0) no_coin,
          );
    }
  where
    debits : (row : Asked) (seen : Seen) (m : Market) (t : Transfers) → is_same m.listing.coin_mint m.listing.pc_mint ≡ false → Sees row seen → AreOfMints seen m t
        → (token : Token) → all_debited seen (mint_of token m) (movements seen t) ≡ into_vault token t
    debits row seen m t apart sees are Coin =
        debits-of row seen m t m.listing.coin_mint sees are
        ∙ at-mint m.listing.coin_mint m.listing.coin_mint m.listing.pc_mint t.coin_in t.pc_in true false (is_same-refl m.listing.coin_mint) apart
        ∙ omega arith
    debits row seen m t apart sees are Pc =
        debits-of row seen m t m.listing.pc_mint sees are
        ∙ at-mint m.listing.pc_mint m.listing.coin_mint m.listing.pc_mint t.coin_in t.pc_in false true (apart-back m apart) (is_same-refl m.listing.pc_mint)
        ∙ omega arith

    credits : (row : Asked) (seen : Seen) (m : Market) (t : Transfers) → is_same m.listing.coin_mint m.listing.pc_mint ≡ false → Sees row seen → AreOfMints seen m t
        → ((address : Address) → (taken_from seen t address ≡ 0) ⊎ (brought_to seen t address ≡ 0))
        → (token : Token) → all_credited seen (mint_of token m) (movements seen t) ≡ out_of_vault token t
    credits row seen m t apart sees are one_way Coin =
        let here : is_same m.listing.coin_mint m.listing.coin_mint ≡ true = is_same-refl m.listing.coin_mint in
        omega (
          arith,
          credits-of row seen m t m.listing.coin_mint sees are one_way,
          ap (λ b. cond b t.coin_out 0) here,
          ap (λ b. cond b t.pc_out 0) apart,
          ap (λ b. cond b t.referrer_out 0) apart,
        )
    credits row seen m t apart sees are one_way Pc =
        let here : is_same m.listing.pc_mint m.listing.pc_mint ≡ true = is_same-refl m.listing.pc_mint in
        let away : is_same m.listing.pc_mint m.listing.coin_mint ≡ false = apart-back m apart in
        omega (
          arith,
          credits-of row seen m t m.listing.pc_mint sees are one_way,
          ap (λ b. cond b t.coin_out 0) away,
          ap (λ b. cond b t.pc_out 0) here,
          ap (λ b. cond b t.referrer_out 0) here,
        )
