-- What a call saw is what its entry tells.
use Rattle.std.proofs.Common.{◌≡◌, ℕ, inl, inr, Bool, true, false, ◌||◌, List, [], ◌∷◌, map, Option, Some, None, refl, sym, ap, ◌∙◌, subst}
use Rattle.dex_world.proofs.Common.{Address, Agree, Asked, Call, Entry, Market, Movement, PlainAccount, PlainRow, Seen, Sees, Stands, Transfers, WalletSeen, address_seen, asked_of, balance_seen, brought_to, cond_both, is_same, is_same-refl, is_same-true, list_any, movement_of, places-movements, seen_wallets, step_of, taken_from, wallet-movement_by}
use Rattle.dex_replay.proofs.Common.{IsSight, IsWalletSeen, PlainScript, address_of, front}
use Rattle.std.proofs.lemmas.Bool.{false≢true, or_left, or_right}
use Rattle.std.proofs.lemmas.Option.{same_Some}
use Rattle.dex_history.proofs.BalanceLaws.{agree-one, agree-one_back}
pub use Rattle.dex_history.proofs.MoveLaws.{balance-in}
use Rattle.dex_history.proofs.MoveLaws.{AreOneWith, IsIn, coin-one, pc-one, referrer-one, roles_of}
use Rattle.dex_act.specs.Wallets.{any_hit, hits}
use Rattle.dex_act.proofs.Seeing.{any-seen}
use Rattle.dex_script_types.proofs.Apart.{AreDistinct}
use Rattle.dex_replay.specs.EntryCalls.{before_of, role_told, seen_told, wallet_told}
use Rattle.dex_replay.proofs.Finding.{one-found}
use Rattle.dex_replay.proofs.Sights.{before-movement}

-- ---- the balance before, in movements

module _ (seen : Seen) (t : Transfers) (address : Address) where
  abbrev moved : Address → Movement
  moved one = movement_of seen t one

  -- the first movement on a wallet that is seen states the balance that is seen
  before-moved : (addresses : List Address) → list_any (is_same address) addresses ≡ true → before_of address (map (movement_of seen t) addresses) ≡ balance_seen seen address
  before-moved [] any = absurd (false≢true any)
  before-moved (first ∷ others) any =
      let wallet : is_same address (moved first).wallet ≡ is_same address first =
      ap (is_same address) (wallet-movement_by first (balance_seen seen first) (taken_from seen t first) (brought_to seen t first)) in
      cond_both (is_same address (moved first).wallet) (moved first).before (before_of address (map (movement_of seen t) others))
      (λ (n : ℕ). n ≡ balance_seen seen address)
      (λ same. before-movement seen t first ∙ sym (ap (balance_seen seen) (is_same-true address first (sym wallet ∙ same))))
      (λ apart. before-moved others (sym (ap (λ (b : Bool). b || list_any (is_same address) others) (sym wallet ∙ apart)) ∙ any))

-- ---- the balance that is seen, of the wallet of a role

-- a wallet that a role sees, and with which all roles are one
pub record IsRole (seen : Seen) (wallet : WalletSeen) : Type 0 where
  pub one : AreOneWith wallet (roles_of seen)
  pub there : IsIn wallet (roles_of seen)

module _ (asked : Asked) (seen : Seen) (sees : Sees asked seen) (wallet : WalletSeen) where
  pub coin-role : seen.coin ≡ Some wallet → IsRole seen wallet
  coin-role is = record { one = coin-one asked seen wallet sees is; there = inl is }

  pub pc-role : seen.pc ≡ Some wallet → IsRole seen wallet
  pc-role is = record { one = pc-one asked seen wallet sees is; there = inr (inl is) }

  pub referrer-role : seen.referrer ≡ Some wallet → IsRole seen wallet
  referrer-role is = record { one = referrer-one asked seen wallet sees is; there = inr (inr (inr (inl is))) }

  pub discount-role : seen.discount ≡ Some wallet → IsRole seen wallet
  discount-role is = record {
    one = (
      agree-one_back wallet seen.coin (subst (λ role. Agree seen.coin role) is sees.coin_discount),
      (
        agree-one_back wallet seen.pc (subst (λ role. Agree seen.pc role) is sees.pc_discount),
        (
          λ other there same. same_Some wallet other (sym is ∙ there),
          (agree-one wallet seen.referrer (subst (λ role. Agree role seen.referrer) is sees.discount_referrer), tt),
        ),
      ),
    );
    there = inr (inr (inl is));
  }

pub hit-in : (wallet : WalletSeen) (roles : List (Option WalletSeen)) → IsIn wallet roles → any_hit wallet.address roles ≡ true
hit-in wallet [] here = absurd here
hit-in wallet (role ∷ roles) (inl is) =
    or_left (hits wallet.address role) (any_hit wallet.address roles) (ap (hits wallet.address) is ∙ is_same-refl wallet.address)
hit-in wallet (role ∷ roles) (inr later) = or_right (hits wallet.address role) (any_hit wallet.address roles) (hit-in wallet roles later)

-- it is the one that the entry states before
before-told : (call : Call) (m : Market) → Stands call m → (wallet : WalletSeen) → IsRole call.seen wallet
    → before_of wallet.address (front call.entry.moves) ≡ wallet.balance
before-told call m stands wallet role =
    ap (λ (entry : Entry). before_of wallet.address (front entry.moves)) stands.entry
    ∙ ap (before_of wallet.address) (places-movements call.seen (step_of call m).transfers)
    ∙ before-moved call.seen (step_of call m).transfers wallet.address (seen_wallets call.seen)
    (any-seen wallet.address call.seen ∙ hit-in wallet (roles_of call.seen) role.there)
    ∙ balance-in wallet (roles_of call.seen) role.one role.there

-- ---- what is seen

module _ (wallets : List PlainAccount) (distinct : AreDistinct (map address_of wallets)) (moves : List Movement) where
  wallet-told : (wallet : WalletSeen) → IsWalletSeen wallets (Some wallet) → before_of wallet.address moves ≡ wallet.balance
      → role_told wallets moves (Some wallet.address) ≡ Some wallet
  wallet-told wallet there before =
      let account : PlainAccount = there.1 in
      let same : wallet.address ≡ account.address = ap (λ (w : WalletSeen). w.address) there.4 in
      let balance : before_of account.address moves ≡ wallet.balance = ap (λ (a : Address). before_of a moves) (sym same) ∙ before in
      ap (λ (a : Address). role_told wallets moves (Some a)) same
      ∙ one-found address_of (wallet_told moves) account wallets distinct (there.0, there.2, there.3)
      ∙ ap (λ (n : ℕ). Some (record (wallet_told moves account) { balance = n })) balance
      ∙ ap (λ (w : WalletSeen). Some w) (sym there.4)

  role-told : (role : Option Address) (one : Option WalletSeen) → address_seen one ≡ role → IsWalletSeen wallets one
      → ((wallet : WalletSeen) → one ≡ Some wallet → before_of wallet.address moves ≡ wallet.balance) → role_told wallets moves role ≡ one
  role-told role None same there before = ap (role_told wallets moves) (sym same)
  role-told role (Some wallet) same there before = ap (role_told wallets moves) (sym same) ∙ wallet-told wallet there (before wallet refl)

-- all that the call saw
pub sight-told : (script : PlainScript) (row : PlainRow) (call : Call) (m : Market) → AreDistinct (map address_of script.start.wallets)
    → call.asked ≡ asked_of row → IsSight script call.seen → Stands call m → seen_told script row call.entry ≡ call.seen
sight-told script row call m distinct asks sight stands =
    let seen : Seen = call.seen in
    let sees : Sees (asked_of row) seen = subst (λ (asked : Asked). Sees asked seen) asks stands.sees in
    let moves : List Movement = front call.entry.moves in
    let wallets : List PlainAccount = script.start.wallets in
    let before : (wallet : WalletSeen) → IsRole seen wallet → before_of wallet.address moves ≡ wallet.balance = before-told call m stands in
    let told = role-told wallets distinct moves in
    λ i. record {
      coin = told row.coin seen.coin sees.coin sight.coin (λ wallet is. before wallet (coin-role (asked_of row) seen sees wallet is)) i;
      pc = told row.pc seen.pc sees.pc sight.pc (λ wallet is. before wallet (pc-role (asked_of row) seen sees wallet is)) i;
      discount = told row.discount seen.discount sees.discount sight.discount (λ wallet is. before wallet (discount-role (asked_of row) seen sees wallet is)) i;
      referrer = told row.referrer seen.referrer sees.referrer sight.referrer (λ wallet is. before wallet (referrer-role (asked_of row) seen sees wallet is)) i;
      srm = sym sight.srm i;
      msrm = sym sight.msrm i;
      program = sym sight.program i;
    }
