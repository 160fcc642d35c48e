-- the movements of a row are what moves between its wallets and the vaults
use Rattle.std.proofs.Common.{ℕ, ◌+◌, ◌-◌, ◌≤◌, ◌<◌, ◌≡◌, ◌^◌, ◌⊎◌, inl, inr, ⊎_elim, true, false, ltb, List, [], ◌∷◌, Option, Some, None, refl, sym, ap, ◌∙◌, subst, arith}
use Rattle.std.proofs.lemmas.Bool.{cases_Bool, cond-true, cond-false, lt-ltb, le-ltb, cases_lt}
use Rattle.dex_types.specs.declared.addresses.Address.{Address}
use Rattle.dex_types.specs.declared.rows.Seen.{Seen}
use Rattle.dex_types.specs.declared.rows.WalletSeen.{WalletSeen}
use Rattle.dex_types.specs.Addresses.{is_same}
use Rattle.dex_types.specs.Transfers.{Transfers}
use Rattle.dex_types.specs.Wallets.{amount_at, balance_in, balance_seen, brought_to, taken_from, movement_by, movement_of}
use Rattle.dex_types.specs.WalletJournal.{CanMove}
use Rattle.dex_laws.proofs.TraderLaws.{is_same-true, is_same-refl}
use Rattle.dex_history.specs.Journal.{Agree, Asked, Sees}
use Rattle.dex_history.specs.Moves.{left_by, Moves}
use Rattle.dex_history.proofs.BalanceLaws.{IsOneWith, agree-one, agree-one_back, amount-le}

-- a wallet is one with each of these roles
abbrev pub AreOneWith : WalletSeen → List (Option WalletSeen) → Type 0
AreOneWith wallet [] = Unit {0}
AreOneWith wallet (role ∷ roles) = IsOneWith wallet role × AreOneWith wallet roles

-- and in one of them
abbrev pub IsIn : WalletSeen → List (Option WalletSeen) → Type 0
IsIn wallet [] = ⊥
IsIn wallet (role ∷ roles) = (role ≡ Some wallet) ⊎ IsIn wallet roles

-- so its balance is the one that is seen
pub balance-in : (wallet : WalletSeen) (roles : List (Option WalletSeen)) → AreOneWith wallet roles → IsIn wallet roles → balance_in wallet.address roles ≡ wallet.balance
balance-in wallet [] one here = absurd here
balance-in wallet (None ∷ roles) one (inl is) = absurd (cc)
balance-in wallet (None ∷ roles) one (inr later) = balance-in wallet roles one.1 later
balance-in wallet ((Some first) ∷ roles) one here =
    ⊎_elim
    (λ (same : is_same wallet.address first.address ≡ true).
    let is : wallet ≡ first = one.0 first refl (is_same-true wallet.address first.address same) in
    cond-true (is_same wallet.address first.address) first.balance (balance_in wallet.address roles) same ∙ sym (ap (λ (w : WalletSeen). w.balance) is))
    (λ (apart : is_same wallet.address first.address ≡ false).
    cond-false (is_same wallet.address first.address) first.balance (balance_in wallet.address roles) apart
    ∙ balance-in wallet roles one.1 (later wallet first roles apart here))
    (cases_Bool (is_same wallet.address first.address))
  where
    later : (wallet first : WalletSeen) (roles : List (Option WalletSeen)) → is_same wallet.address first.address ≡ false → (Some first ≡ Some wallet) ⊎ IsIn wallet roles → IsIn wallet roles
    later wallet first roles apart (inl is) =
        let one : first ≡ wallet = cc in
        absurd (let same : is_same wallet.address first.address ≡ true = subst (λ (w : WalletSeen). is_same wallet.address w.address ≡ true) (sym one) (is_same-refl wallet.address) in cc)
    later wallet first roles apart (inr there) = there

-- the wallets that a row sees, by their roles
abbrev pub roles_of : Seen → List (Option WalletSeen)
roles_of seen = seen.coin ∷ seen.pc ∷ seen.discount ∷ seen.referrer ∷ []

-- a role is one with its own wallet
one-itself : (wallet : WalletSeen) (role : Option WalletSeen) → role ≡ Some wallet → IsOneWith wallet role
one-itself wallet role is other there same = let both : Some wallet ≡ Some other = sym is ∙ there in cc

pub coin-one : (row : Asked) (seen : Seen) (wallet : WalletSeen) → Sees row seen → seen.coin ≡ Some wallet → AreOneWith wallet (roles_of seen)
coin-one row seen wallet sees is = (
  one-itself wallet seen.coin is,
  (
    agree-one wallet seen.pc (subst (λ role. Agree role seen.pc) is sees.coin_pc),
    (
      agree-one wallet seen.discount (subst (λ role. Agree role seen.discount) is sees.coin_discount),
      (agree-one wallet seen.referrer (subst (λ role. Agree role seen.referrer) is sees.coin_referrer), tt),
    ),
  ),
)

coin-balance : (row : Asked) (seen : Seen) (wallet : WalletSeen) → Sees row seen → seen.coin ≡ Some wallet → balance_seen seen wallet.address ≡ wallet.balance
coin-balance row seen wallet sees is = balance-in wallet (roles_of seen) (coin-one row seen wallet sees is) (inl is)

pub pc-one : (row : Asked) (seen : Seen) (wallet : WalletSeen) → Sees row seen → seen.pc ≡ Some wallet → AreOneWith wallet (roles_of seen)
pc-one row seen wallet sees is = (
  agree-one_back wallet seen.coin (subst (λ role. Agree seen.coin role) is sees.coin_pc),
  (
    one-itself wallet seen.pc is,
    (
      agree-one wallet seen.discount (subst (λ role. Agree role seen.discount) is sees.pc_discount),
      (agree-one wallet seen.referrer (subst (λ role. Agree role seen.referrer) is sees.pc_referrer), tt),
    ),
  ),
)

pc-balance : (row : Asked) (seen : Seen) (wallet : WalletSeen) → Sees row seen → seen.pc ≡ Some wallet → balance_seen seen wallet.address ≡ wallet.balance
pc-balance row seen wallet sees is = balance-in wallet (roles_of seen) (pc-one row seen wallet sees is) (inr (inl is))

pub referrer-one : (row : Asked) (seen : Seen) (wallet : WalletSeen) → Sees row seen → seen.referrer ≡ Some wallet → AreOneWith wallet (roles_of seen)
referrer-one row seen wallet sees is = (
  agree-one_back wallet seen.coin (subst (λ role. Agree seen.coin role) is sees.coin_referrer),
  (
    agree-one_back wallet seen.pc (subst (λ role. Agree seen.pc role) is sees.pc_referrer),
    (agree-one_back wallet seen.discount (subst (λ role. Agree seen.discount role) is sees.discount_referrer), (one-itself wallet seen.referrer is, tt)),
  ),
)

referrer-balance : (row : Asked) (seen : Seen) (wallet : WalletSeen) → Sees row seen → seen.referrer ≡ Some wallet → balance_seen seen wallet.address ≡ wallet.balance
referrer-balance row seen wallet sees is = balance-in wallet (roles_of seen) (referrer-one row seen wallet sees is) (inr (inr (inr (inl is))))

-- a payment of the role is covered by its wallet's balance
abbrev pub Covers : Option WalletSeen → ℕ → Type 0
Covers role amount = (wallet : WalletSeen) → role ≡ Some wallet → amount ≤ wallet.balance

-- nothing is paid to the role, or its wallet has room for all that it gets
abbrev pub HasRoom : Seen → Transfers → Option WalletSeen → ℕ → Type 0
HasRoom seen t role amount = (wallet : WalletSeen) → role ≡ Some wallet → (amount ≡ 0) ⊎ (wallet.balance + brought_to seen t wallet.address < 2 ^ 64)

-- transfers that the wallets of a row can make
pub record CanTransfer (seen : Seen) (t : Transfers) : Type 0 where
  pub one_in : (t.coin_in ≡ 0) ⊎ (t.pc_in ≡ 0)
  pub coin_in : Covers seen.coin t.coin_in
  pub pc_in : Covers seen.pc t.pc_in
  pub coin_out : HasRoom seen t seen.coin t.coin_out
  pub pc_out : HasRoom seen t seen.pc t.pc_out
  pub referrer_out : HasRoom seen t seen.referrer t.referrer_out
  pub one_way : (address : Address) → (taken_from seen t address ≡ 0) ⊎ (brought_to seen t address ≡ 0)

-- what is taken from a wallet under one role is covered
amount-covered : (seen : Seen) (address : Address) (role : Option WalletSeen) (amount : ℕ) → Covers role amount
    → ((wallet : WalletSeen) → role ≡ Some wallet → balance_seen seen wallet.address ≡ wallet.balance) → amount_at address role amount ≤ balance_seen seen address
amount-covered seen address None amount covers balance = omega arith
amount-covered seen address (Some wallet) amount covers balance =
    ⊎_elim
    (λ (same : is_same address wallet.address ≡ true).
    let is : address ≡ wallet.address = is_same-true address wallet.address same in
    omega (arith, amount-le address (Some wallet) amount, covers wallet refl, balance wallet refl, ap (balance_seen seen) is))
    (λ (apart : is_same address wallet.address ≡ false). omega (arith, cond-false (is_same address wallet.address) amount 0 apart))
    (cases_Bool (is_same address wallet.address))

taken-covered : (row : Asked) (seen : Seen) (t : Transfers) (address : Address) → Sees row seen → CanTransfer seen t → taken_from seen t address ≤ balance_seen seen address
taken-covered row seen t address sees can =
    ⊎_elim
    (λ (none : t.coin_in ≡ 0).
    omega (
      arith,
      none,
      amount-le address seen.coin t.coin_in,
      amount-covered seen address seen.pc t.pc_in can.pc_in (λ wallet is. pc-balance row seen wallet sees is),
    ))
    (λ (none : t.pc_in ≡ 0).
    omega (
      arith,
      none,
      amount-le address seen.pc t.pc_in,
      amount-covered seen address seen.coin t.coin_in can.coin_in (λ wallet is. coin-balance row seen wallet sees is),
    ))
    can.one_in

-- a wallet gets nothing under a role, or has room for all that it gets
amount-fits : (seen : Seen) (t : Transfers) (address : Address) (role : Option WalletSeen) (amount : ℕ) → HasRoom seen t role amount
    → ((wallet : WalletSeen) → role ≡ Some wallet → balance_seen seen wallet.address ≡ wallet.balance)
    → (amount_at address role amount ≡ 0) ⊎ (balance_seen seen address + brought_to seen t address < 2 ^ 64)
amount-fits seen t address None amount room balance = inl refl
amount-fits seen t address (Some wallet) amount room balance =
    ⊎_elim
    (λ (same : is_same address wallet.address ≡ true).
    let is : address ≡ wallet.address = is_same-true address wallet.address same in
    ⊎_elim
    (λ (none : amount ≡ 0). inl (omega (arith, none, amount-le address (Some wallet) amount)))
    (λ (fits : wallet.balance + brought_to seen t wallet.address < 2 ^ 64).
    inr (omega (arith, fits, balance wallet refl, ap (balance_seen seen) is, ap (brought_to seen t) is)))
    (room wallet refl))
    (λ (apart : is_same address wallet.address ≡ false). inl (cond-false (is_same address wallet.address) amount 0 apart))
    (cases_Bool (is_same address wallet.address))

brought-fits : (row : Asked) (seen : Seen) (t : Transfers) (address : Address) → Sees row seen → CanTransfer seen t → 1 ≤ brought_to seen t address
    → balance_seen seen address + brought_to seen t address < 2 ^ 64
brought-fits row seen t address sees can some =
    ⊎_elim
    (λ (no_coin : amount_at address seen.coin t.coin_out ≡ 0).
    ⊎_elim
    (λ (no_pc : amount_at address seen.pc t.pc_out ≡ 0).
    ⊎_elim
    (λ (no_referrer : amount_at address seen.referrer t.referrer_out ≡ 0). absurd (omega (arith, some, no_coin, no_pc, no_referrer)))
    (λ (fits : balance_seen seen address + brought_to seen t address < 2 ^ 64). fits)
    (amount-fits seen t address seen.referrer t.referrer_out can.referrer_out (λ wallet is. referrer-balance row seen wallet sees is)))
    (λ (fits : balance_seen seen address + brought_to seen t address < 2 ^ 64). fits)
    (amount-fits seen t address seen.pc t.pc_out can.pc_out (λ wallet is. pc-balance row seen wallet sees is)))
    (λ (fits : balance_seen seen address + brought_to seen t address < 2 ^ 64). fits)
    (amount-fits seen t address seen.coin t.coin_out can.coin_out (λ wallet is. coin-balance row seen wallet sees is))

-- a movement of what is taken or of what is brought
moves-by : (address : Address) (before taken brought : ℕ) → (taken ≡ 0) ⊎ (brought ≡ 0) → taken ≤ before → (1 ≤ brought → before + brought < 2 ^ 64)
    → (left_by (movement_by address before taken brought) ≡ before + brought - taken)
    × CanMove (movement_by address before taken brought).kind (movement_by address before taken brought).amount (movement_by address before taken brought).before
moves-by address before taken brought one_way covered fits =
    ⊎_elim
    (λ (some : 0 < taken).
    let pays : ltb 0 taken ≡ true = lt-ltb 0 taken some in
    let none : brought ≡ 0 = ⊎_elim (λ (no : taken ≡ 0). absurd (omega arith)) (λ (no : brought ≡ 0). no) one_way in
    rw pays (omega arith, (some, covered)))
    (λ (no_taken : taken ≤ 0).
    let pays_not : ltb 0 taken ≡ false = le-ltb 0 taken no_taken in
    ⊎_elim
    (λ (some : 0 < brought). let gets : ltb 0 brought ≡ true = lt-ltb 0 brought some in rw (pays_not, gets) (omega arith, (some, fits some)))
    (λ (no_brought : brought ≤ 0). let gets_not : ltb 0 brought ≡ false = le-ltb 0 brought no_brought in rw (pays_not, gets_not) (omega arith, refl))
    (cases_lt 0 brought))
    (cases_lt 0 taken)

pub transfers-move : (row : Asked) (seen : Seen) (t : Transfers) (address : Address) → Sees row seen → CanTransfer seen t → Moves seen t address
transfers-move row seen t address sees can =
    let both : (left_by (movement_of seen t address) ≡ balance_seen seen address + brought_to seen t address - taken_from seen t address)
    × CanMove (movement_of seen t address).kind (movement_of seen t address).amount (movement_of seen t address).before =
    moves-by address (balance_seen seen address) (taken_from seen t address) (brought_to seen t address) (can.one_way address)
    (taken-covered row seen t address sees can) (brought-fits row seen t address sees can) in
    record { one_way = can.one_way address; leaves = both.0; possible = both.1 }
