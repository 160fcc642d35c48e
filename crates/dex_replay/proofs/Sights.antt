-- What a row sees of a wallet that it names, and at which balance it moves it.
use Rattle.std.proofs.Common.{nat_lt, ◌≤◌, ◌≡◌, Bool, true, false, ◌||◌, cond, List, [], ◌∷◌, get_or, map, Option, Some, None, refl, sym, ap, ◌∙◌, subst, ⊎_elim}
use Rattle.dex_replay.proofs.Common.{All, first_of, times}
use Rattle.dex_world.proofs.Common.{Address, Movement, PlainRow, Seen, Transfers, WalletSeen, WalletState, World, balance_in, balance_seen, brought_to, cases_Bool, cond-false, cond-true, cond_both, false≢true, is_role, is_same, is_same-refl, is_same-true, list_any, movement_of, names, names-roles, role_at, seen_by, taken_from, wallet_at}
use Rattle.std.proofs.lemmas.List.{get_or_default}
use Rattle.dex_script_types.proofs.Apart.{AreDistinct}
use Rattle.dex_replay.proofs.Finding.{one-found}

abbrev pub address_in : WalletState → Address
address_in state = state.seen.address

-- ---- wallets of different addresses

-- no address is that of two wallets
abbrev pub AreOnce : List WalletState → Type 0
AreOnce states = (address : Address) → times address (map address_in states) ≤ 1

-- the one that is found at an address is the first
at-first : (address : Address) (states : List WalletState)
    → wallet_at address states ≡ first_of (λ (state : WalletState). is_same address state.seen.address) (λ (state : WalletState). state.seen) states
at-first address [] = refl
at-first address (state ∷ states) =
    ap (λ (rest : Option WalletSeen). cond (is_same address state.seen.address) (Some state.seen) rest) (at-first address states)

-- so each is found at its address, where these differ
each-found : (states : List WalletState) → AreDistinct (map address_in states)
    → All (λ (state : WalletState). wallet_at state.seen.address states ≡ Some state.seen) states
each-found states distinct k d within =
    let state : WalletState = get_or states k d in
    at-first state.seen.address states
    ∙ one-found address_in (λ (one : WalletState). one.seen) state states distinct (k, within, get_or_default states k state d within)

-- what is found at an address has it
pub found-address : (address : Address) (states : List WalletState) (wallet : WalletSeen) → wallet_at address states ≡ Some wallet → address ≡ wallet.address
found-address address [] wallet found = absurd (cc)
found-address address (state ∷ states) wallet found =
    cond_both (is_same address state.seen.address) (Some state.seen) (wallet_at address states)
    (λ (one : Option WalletSeen). one ≡ Some wallet → address ≡ wallet.address)
    (λ same here.
    let is : state.seen ≡ wallet = cc in
    is_same-true address state.seen.address same ∙ ap (λ (one : WalletSeen). one.address) is)
    (λ apart there. found-address address states wallet there) found

-- ---- the roles of a row

-- these roles see a wallet with its balance
abbrev Reads : WalletSeen → List (Option WalletSeen) → Type 0
Reads wallet roles = balance_in wallet.address roles ≡ wallet.balance

module _ (states : List WalletState) (wallet : WalletSeen) (found : wallet_at wallet.address states ≡ Some wallet) where
  reads-past : (address : Address) (role : Option WalletSeen) (rest : List (Option WalletSeen)) → wallet_at address states ≡ role → is_same wallet.address address ≡ false
      → Reads wallet rest → Reads wallet (role ∷ rest)
  reads-past address None rest is apart reads = reads
  reads-past address (Some other) rest is apart reads =
      cond-false (is_same wallet.address other.address) other.balance (balance_in wallet.address rest)
      (ap (is_same wallet.address) (sym (found-address address states other is)) ∙ apart) ∙ reads

  -- one of these roles names it
  role-reads : (roles : List (Option Address)) → list_any (λ (role : Option Address). is_role role wallet.address) roles ≡ true
      → Reads wallet (map (λ (role : Option Address). role_at role states) roles)
  role-reads [] named = absurd (false≢true named)
  role-reads (None ∷ roles) named = role-reads roles named
  role-reads (Some address ∷ roles) named =
      let rest : List (Option WalletSeen) = map (λ (role : Option Address). role_at role states) roles in
      ⊎_elim
      (λ (same : is_same wallet.address address ≡ true).
      subst (λ (role : Option WalletSeen). Reads wallet (role ∷ rest)) (sym found ∙ ap (λ (a : Address). wallet_at a states) (is_same-true wallet.address address same))
      (cond-true (is_same wallet.address wallet.address) wallet.balance (balance_in wallet.address rest) (is_same-refl wallet.address)))
      (λ (apart : is_same wallet.address address ≡ false).
      reads-past address (wallet_at address states) rest refl apart
      (role-reads roles (sym (ap (λ (b : Bool). b || list_any (λ (role : Option Address). is_role role wallet.address) roles) apart) ∙ named)))
      (cases_Bool (is_same wallet.address address))

-- a row sees the balance of each wallet that it names
pub sees-balances : (row : PlainRow) (world : World) → AreDistinct (map address_in world.wallets)
    → All (λ (state : WalletState). names row state.seen.address ≡ true → balance_seen (seen_by row world) state.seen.address ≡ state.seen.balance) world.wallets
sees-balances row world distinct k d within named =
    let state : WalletState = get_or world.wallets k d in
    role-reads world.wallets state.seen (each-found world.wallets distinct k d within) (row.coin ∷ row.pc ∷ row.discount ∷ row.referrer ∷ [])
    (sym (names-roles row state.seen.address) ∙ named)

-- a movement was made at the balance that it states
pub before-movement : (seen : Seen) (t : Transfers) (address : Address) → (movement_of seen t address).before ≡ balance_seen seen address
before-movement seen t address =
    cond_both (nat_lt 0 (taken_from seen t address)) _ _ (λ (move : Movement). move.before ≡ balance_seen seen address) (λ some. refl)
    (λ none. cond_both (nat_lt 0 (brought_to seen t address)) _ _ (λ (move : Movement). move.before ≡ balance_seen seen address) (λ some. refl) (λ probe. refl))
