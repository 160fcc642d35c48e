-- The next row sees in the world what its call saw.
use Rattle.std.proofs.Common.{◌≡◌, ℕ, zero, suc, ◌<◌, ◌≤◌, Bool, true, false, cond, ltb, List, [], ◌∷◌, ◌++◌, length, get_or, map, Option, Some, None, refl, sym, ap, ◌∙◌, subst, arith, ◌⊎◌, inl, inr, ⊎_elim, All, Any}
use Rattle.dex_world.proofs.Common.{Address, All-head, All-tail, Call, IsWalletLegal, IsWalletLegal-append, Market, Movement, PlainAccount, PlainRow, Seen, Transfers, WalletEntry, WalletSeen, WalletState, address_seen, asked_of, balance_after, balance_seen, brought_to, cases_Bool, cond-false, cond-true, cond_both, is_same, is_same-refl, movement_by, movement_of, names, role_at, row_step, seen_by, sum_by-cons, taken_from, wallet_at, wallet_entry_by}
use Rattle.dex_replay.proofs.Common.{IsSight, IsWalletSeen, PlainScript, address_of, balance_of, roles_of, wallet_words}
use Rattle.dex_serializable.proofs.Common.{Stamped, entries_in}
use Rattle.dex_act.proofs.Sights.{named-hit}
use Rattle.dex_state.specs.Addresses.{times}
use Rattle.dex_stamps.specs.Stamped.{items_of}
use Rattle.dex_serializable.proofs.Acts.{Acts}
use Rattle.dex_serializable.proofs.CallEntries.{entries-made}
use Rattle.dex_serializable.proofs.Fronts.{entries_at, entries_at-append, entries_at-first, wallet_front, world_front}
use Rattle.dex_replay.proofs.SightTold.{IsRole, balance-in, coin-role, discount-role, hit-in, pc-role, referrer-role}

-- a movement was made at the balance that it states
before-movement : (address : Address) (before taken brought : ℕ) → (movement_by address before taken brought).before ≡ before
before-movement address before taken brought =
    cond_both (ltb 0 taken) _ _ (λ (move : Movement). move.before ≡ before) (λ some. refl)
    (λ none. cond_both (ltb 0 brought) _ _ (λ (move : Movement). move.before ≡ before) (λ some. refl) (λ probe. refl))

-- ---- one of a list

-- what is seen is this account's, with some balance
abbrev IsSeenOf : WalletSeen → PlainAccount → Type 0
IsSeenOf seen wallet =
    let words = wallet_words wallet.bytes in
    seen ≡ record { address = wallet.address; mint = words.mint; owner = words.owner; balance = seen.balance }

first-or-later : {A : Type 0} (P : A → Type 0) (x : A) (xs : List A) → Any P (x ∷ xs) → P x ⊎ Any P xs
first-or-later P x xs any = at any.0 any.1 any.2 any.3 any.4
  where
    at : (k : ℕ) (y : _) → k < length (x ∷ xs) → get_or (x ∷ xs) k y ≡ y → P y → P x ⊎ Any P xs
    at zero y within is holds = inl (subst (λ z. P z) (sym is) holds)
    at (suc k) y within is holds = inr (k, y, omega (arith, within), is, holds)

-- a wallet that stands there has its address there
stands-once : (seen : WalletSeen) (accounts : List PlainAccount) → Any (IsSeenOf seen) accounts → 1 ≤ times seen.address (map address_of accounts)
stands-once seen [] any = absurd (omega (arith, any.2))
stands-once seen (account ∷ accounts) any =
    let counted = sum_by-cons (λ (address : Address). cond (is_same seen.address address) 1 0) account.address (map address_of accounts) in
    ⊎_elim
    (λ (here : IsSeenOf seen account).
    let same : is_same seen.address account.address ≡ true =
    subst (λ (address : Address). is_same seen.address address ≡ true) (ap (λ (w : WalletSeen). w.address) here) (is_same-refl seen.address) in
    let one : ◌≡◌ {A = ℕ} (cond (is_same seen.address account.address) 1 0) 1 = ap (λ (b : Bool). cond b 1 0) same in
    omega (arith, counted, one))
    (λ (later : Any (IsSeenOf seen) accounts). omega (arith, counted, stands-once seen accounts later))
    (first-or-later (IsSeenOf seen) account accounts any)

-- ---- what the next row sees

abbrev pub IsWalletLegalAt : List (Stamped Call) → PlainAccount → Type 0
IsWalletLegalAt made account = IsWalletLegal (balance_of account.bytes) (entries_at account.address made)

module _ (row : PlainRow) (call : Stamped Call) (m : Market) (acts : Acts row call.item m) (made later : List (Stamped Call)) where
  abbrev seen : Seen
  seen = call.item.seen

  -- a wallet that it names has the balance that it saw
  balance-before : (account : PlainAccount) → IsWalletLegalAt (made ++ call ∷ later) account → names row account.address ≡ true
      → (wallet_front made account).seen.balance ≡ balance_seen seen account.address
  balance-before account legal named =
      let t : Transfers = (row_step row seen m).transfers in
      let address : Address = account.address in
      let front : List WalletEntry = entries_at address made in
      let entry : WalletEntry = wallet_entry_by row (movement_of seen t address) in
      let here : items_of (entries_in address call) ≡ entry ∷ [] =
      entries-made row call m acts address ∙ cond-true (names row address) (entry ∷ []) [] named in
      let split : entries_at address (made ++ call ∷ later) ≡ front ++ entry ∷ entries_at address later =
      entries_at-append address made (call ∷ later)
      ∙ ap (λ (rest : List WalletEntry). front ++ rest) (entries_at-first address call later)
      ∙ ap (λ (rest : List WalletEntry). front ++ (rest ++ entries_at address later)) here in
      let whole : IsWalletLegal (balance_of account.bytes) (front ++ entry ∷ entries_at address later) =
      subst (λ (entries : List WalletEntry). IsWalletLegal (balance_of account.bytes) entries) split legal in
      let behind : IsWalletLegal (balance_after (balance_of account.bytes) front) (entry ∷ entries_at address later) =
      ((IsWalletLegal-append front (entry ∷ entries_at address later) (balance_of account.bytes)).0 whole).1 in
      sym behind.0 ∙ before-movement address (balance_seen seen address) (taken_from seen t address) (brought_to seen t address)

  module _ (wallet : WalletSeen) (role : IsRole seen wallet) where
    here-named : (account : PlainAccount) → wallet.address ≡ account.address → names row account.address ≡ true
    here-named account same =
        ap (names row) (sym same) ∙ named-hit row seen wallet.address acts.sees ∙ hit-in wallet (roles_of seen) role.there

    here-seen : (account : PlainAccount) → IsWalletLegalAt (made ++ call ∷ later) account → IsSeenOf wallet account
        → (wallet_front made account).seen ≡ wallet
    here-seen account legal is =
        let same : wallet.address ≡ account.address = ap (λ (w : WalletSeen). w.address) is in
        let balance : (wallet_front made account).seen.balance ≡ wallet.balance =
        balance-before account legal (here-named account same)
        ∙ ap (balance_seen seen) (sym same) ∙ balance-in wallet (roles_of seen) role.one role.there in
        ap (λ (n : ℕ). record (wallet_front made account).seen { balance = n }) balance ∙ sym is

    wallet-found : (accounts : List PlainAccount) → All (IsWalletLegalAt (made ++ call ∷ later)) accounts
        → times wallet.address (map address_of accounts) ≤ 1 → Any (IsSeenOf wallet) accounts
        → wallet_at wallet.address (map (wallet_front made) accounts) ≡ Some wallet
    wallet-found [] legal once any = absurd (omega (arith, any.2))
    wallet-found (account ∷ accounts) legal once any =
        let counted = sum_by-cons (λ (address : Address). cond (is_same wallet.address address) 1 0) account.address (map address_of accounts) in
        let first : WalletSeen = (wallet_front made account).seen in
        let rest : Option WalletSeen = wallet_at wallet.address (map (wallet_front made) accounts) in
        ⊎_elim
        (λ (same : is_same wallet.address account.address ≡ true).
        let one : ◌≡◌ {A = ℕ} (cond (is_same wallet.address account.address) 1 0) 1 = ap (λ (b : Bool). cond b 1 0) same in
        let is : IsSeenOf wallet account =
        ⊎_elim (λ (here : IsSeenOf wallet account). here)
        (λ (other : Any (IsSeenOf wallet) accounts). absurd (omega (arith, once, counted, one, stands-once wallet accounts other)))
        (first-or-later (IsSeenOf wallet) account accounts any) in
        cond-true (is_same wallet.address account.address) (Some first) rest same
        ∙ ap (λ (w : WalletSeen). Some w) (here-seen account (All-head (IsWalletLegalAt (made ++ call ∷ later)) account accounts legal) is))
        (λ (apart : is_same wallet.address account.address ≡ false).
        let other : Any (IsSeenOf wallet) accounts =
        ⊎_elim
        (λ (here : IsSeenOf wallet account).
        absurd (let same : is_same wallet.address account.address ≡ true =
        subst (λ (address : Address). is_same wallet.address address ≡ true) (ap (λ (w : WalletSeen). w.address) here) (is_same-refl wallet.address) in cc))
        (λ (later : Any (IsSeenOf wallet) accounts). later)
        (first-or-later (IsSeenOf wallet) account accounts any) in
        cond-false (is_same wallet.address account.address) (Some first) rest apart
        ∙ wallet-found accounts (All-tail (IsWalletLegalAt (made ++ call ∷ later)) account accounts legal) (omega (arith, once, counted)) other)
        (cases_Bool (is_same wallet.address account.address))

  module _ (accounts : List PlainAccount) (legal : All (IsWalletLegalAt (made ++ call ∷ later)) accounts)
      (once : (address : Address) → times address (map address_of accounts) ≤ 1) where
    role-found : (role : Option Address) (one : Option WalletSeen) → address_seen one ≡ role → IsWalletSeen accounts one
        → ((wallet : WalletSeen) → one ≡ Some wallet → IsRole seen wallet) → role_at role (map (wallet_front made) accounts) ≡ one
    role-found None None same is each = refl
    role-found (Some address) (Some wallet) same is each =
        let own : address ≡ wallet.address = cc in
        ap (λ (a : Address). wallet_at a (map (wallet_front made) accounts)) own
        ∙ wallet-found wallet (each wallet refl) accounts legal (once wallet.address) is
    role-found _ _ same is each = absurd (cc)

  -- all that it saw
  pub next-sees : (script : PlainScript) → All (IsWalletLegalAt (made ++ call ∷ later)) script.start.wallets
      → ((address : Address) → times address (map address_of script.start.wallets) ≤ 1) → IsSight script seen
      → seen_by row (world_front script made) ≡ seen
  next-sees script legal once sight =
      let wallets : List WalletState = map (wallet_front made) script.start.wallets in
      let found = role-found script.start.wallets legal once in
      let coin : role_at row.coin wallets ≡ seen.coin = found row.coin seen.coin acts.sees.coin sight.coin (coin-role (asked_of row) seen acts.sees) in
      let pc : role_at row.pc wallets ≡ seen.pc = found row.pc seen.pc acts.sees.pc sight.pc (pc-role (asked_of row) seen acts.sees) in
      let discount : role_at row.discount wallets ≡ seen.discount = found row.discount seen.discount acts.sees.discount sight.discount (discount-role (asked_of row) seen acts.sees) in
      let referrer : role_at row.referrer wallets ≡ seen.referrer = found row.referrer seen.referrer acts.sees.referrer sight.referrer (referrer-role (asked_of row) seen acts.sees) in
      λ i. record {
        coin = coin i;
        pc = pc i;
        discount = discount i;
        referrer = referrer i;
        srm = sym sight.srm i;
        msrm = sym sight.msrm i;
        program = sym sight.program i;
      }
