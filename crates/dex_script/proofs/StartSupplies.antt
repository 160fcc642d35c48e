-- The supply of each mint is what its wallets hold, and so what wallets and vaults hold: vaults are empty as they are
-- made.
use Rattle.std.proofs.Common.{◌≡◌, ◌∙◌, ◌<◌, ◌≤◌, ◌+◌, ◌^◌, ◌∷◌, ◌++◌, [], ℕ, List, Bool, true, false, Some, ap, arith, cond, if◌then◌else◌, inl, inr, length, lit<, map, refl, subst, sym}
use Rattle.std.specs.List.{All}
use Rattle.std.proofs.lemmas.Bool.{cases_Bool}
use Rattle.std.proofs.lemmas.List.Elements.{All-cons, All-head, All-nil, All-push, All-same, All-tail, All-weaker}
use Rattle.std.proofs.lemmas.Option.{none-some, same_Some}
use Rattle.dex_fields.specs.declared.mint.TheConstants.{SUPPLY}
use Rattle.dex_fields.proofs.Writing.{number_in-with_number}
use Rattle.dex_types.specs.declared.addresses.Address.{Address}
use Rattle.dex_types.specs.Accounts.{PlainAccount, PlainAccounts, PlainMarketAccounts}
use Rattle.dex_types.specs.Addresses.{is_same}
use Rattle.dex_laws.proofs.TotalLaws.{total-append, total-none}
use Rattle.dex_laws.proofs.TraderLaws.{is_same-sym}
use Rattle.dex_token.specs.MintAccount.{IsMint, MintWords, mint_words}
use Rattle.dex_token.specs.TokenAccount.{WalletWords, wallet_words}
use Rattle.dex_make.specs.TokenBytes.{mint_bytes, wallet_bytes}
use Rattle.dex_make.proofs.TokenLaws.{mint_words-made, wallet_words-made}
use Rattle.dex_state.specs.Addresses.{address_of, times}
use Rattle.dex_state.proofs.Times.{one, times-cons}
use Rattle.dex_state.specs.Conserved.{IsConserved, amount_of, in_vaults, in_wallets}
use Rattle.dex_script_types.specs.Known.{has_account}
use Rattle.dex_script.specs.Known.{mint_at, raised, with_supply}
use Rattle.dex_script.specs.Mints.{AreMints}
use Rattle.dex_script.proofs.Started.{IsMade}

-- a mint's supply is what these wallets hold of it
abbrev pub IsBacked : List PlainAccount → PlainAccount → Type 0
IsBacked wallets mint = (mint_words mint.bytes).supply ≡ in_wallets mint.address wallets

-- ---- a wallet holds nothing of other mints, and a vault nothing as it is made

amount-of : (mint : Address) (bytes : List ℕ) (words : WalletWords) → wallet_words bytes ≡ words
    → amount_of mint bytes ≡ (if is_same mint words.mint then words.amount else 0)
amount-of mint bytes words is = ap (λ (w : WalletWords). cond (is_same mint w.mint) w.amount 0) is

nothing : (b : Bool) (amount : ℕ) → amount ≡ 0 → cond {A = ℕ} b amount 0 ≡ 0
nothing true amount is = is
nothing false amount is = refl

empty : (mint : Address) (bytes : List ℕ) → (wallet_words bytes).amount ≡ 0 → amount_of mint bytes ≡ 0
empty mint bytes none = nothing (is_same mint (wallet_words bytes).mint) (wallet_words bytes).amount none

vault-empty : (market : PlainMarketAccounts) → IsMade market → ((wallet_words market.coin_vault).amount ≡ 0) × ((wallet_words market.pc_vault).amount ≡ 0)
vault-empty market made =
    let coin = ap (λ (w : WalletWords). w.amount) made.stands.coin_vault.words in
    let pc = ap (λ (w : WalletWords). w.amount) made.stands.pc_vault.words in (
      subst (λ (m : PlainMarketAccounts). (wallet_words m.coin_vault).amount ≡ 0) made.is coin,
      subst (λ (m : PlainMarketAccounts). (wallet_words m.pc_vault).amount ≡ 0) made.is pc,
    )

abbrev in_vaults_of : Address → PlainMarketAccounts → ℕ
in_vaults_of mint market = amount_of mint market.coin_vault + amount_of mint market.pc_vault

vaults-empty : (mint : Address) (markets : List PlainMarketAccounts) → All IsMade markets → in_vaults mint markets ≡ 0
vaults-empty mint markets are =
    total-none (in_vaults_of mint) markets
    (All-weaker IsMade (λ (market : PlainMarketAccounts). in_vaults_of mint market ≡ 0)
    (λ market made.
    let none = vault-empty market made in
    let coin = empty mint market.coin_vault none.0 in
    let pc = empty mint market.pc_vault none.1 in
    omega arith) markets are)

pub conserved : (start : PlainAccounts) → All IsMade start.markets → All (IsBacked start.wallets) start.mints → All (IsConserved start) start.mints
conserved start made backed =
    All-weaker (IsBacked start.wallets) (IsConserved start)
    (λ mint is. omega (arith, is, vaults-empty mint.address start.markets made)) start.mints backed

-- ---- a new mint

-- no wallet is of a mint that is not declared
pub none-held : (address : Address) (mints wallets : List PlainAccount) → ((mint : Address) → has_account mint mints ≡ true → is_same address mint ≡ false)
    → All (λ (wallet : PlainAccount). has_account (wallet_words wallet.bytes).mint mints ≡ true) wallets → in_wallets address wallets ≡ 0
none-held address mints wallets other are =
    total-none (λ (wallet : PlainAccount). amount_of address wallet.bytes) wallets
    (All-weaker (λ (wallet : PlainAccount). has_account (wallet_words wallet.bytes).mint mints ≡ true)
    (λ (wallet : PlainAccount). amount_of address wallet.bytes ≡ 0)
    (λ wallet of. rw (other (wallet_words wallet.bytes).mint of) refl) wallets are)

pub mint-backed : (address : Address) (decimals : ℕ) (mints wallets : List PlainAccount) → decimals < 2 ^ 8 → in_wallets address wallets ≡ 0
    → All (IsBacked wallets) mints → All (IsBacked wallets) (mints ++ record { address = address; bytes = mint_bytes 0 decimals } ∷ [])
mint-backed address decimals mints wallets fits none backed =
    let mint : PlainAccount = record { address = address; bytes = mint_bytes 0 decimals } in
    let new : IsBacked wallets mint = ap (λ (w : MintWords). w.supply) (mint_words-made 0 decimals (lit< tt) fits) ∙ sym none in
    All-push (IsBacked wallets) mints mint backed new

-- ---- a new wallet

module _ (address mint owner : Address) (amount : ℕ) (wallets : List PlainAccount) (mint_wide : length mint.0 ≡ 32) (owner_wide : length owner.0 ≡ 32)
    (fits : amount < 2 ^ 64) where
  abbrev pub new_wallet : PlainAccount
  new_wallet = record { address = address; bytes = wallet_bytes mint owner amount }

  abbrev later : List PlainAccount
  later = wallets ++ new_wallet ∷ []

  held-with : (other : Address) → in_wallets other later ≡ in_wallets other wallets + (if is_same other mint then amount else 0)
  held-with other =
      let words = wallet_words-made mint owner amount mint_wide owner_wide fits in
      let all = total-append (λ (wallet : PlainAccount). amount_of other wallet.bytes) wallets (new_wallet ∷ []) in
      let mine = amount-of other new_wallet.bytes (record { mint = mint; owner = owner; amount = amount }) words in
      omega (arith, all, mine)

  other-backed : (one : PlainAccount) → is_same mint one.address ≡ false → IsBacked wallets one → IsBacked later one
  other-backed one apart backed =
      let swapped : is_same one.address mint ≡ false = is_same-sym one.address mint ∙ apart in
      let none : (if is_same one.address mint then amount else 0) ≡ 0 = rw swapped refl in
      omega (arith, held-with one.address, backed, none)

  raised-supply : (bytes : List ℕ) → IsMint bytes → (mint_words bytes).supply + amount < 2 ^ 64
      → (mint_words (raised amount bytes)).supply ≡ (mint_words bytes).supply + amount
  raised-supply bytes is small = number_in-with_number bytes SUPPLY ((mint_words bytes).supply + amount) (omega (arith, is.size)) small

  this-backed : (one : PlainAccount) → is_same mint one.address ≡ true → IsMint one.bytes → (mint_words one.bytes).supply + amount < 2 ^ 64
      → IsBacked wallets one → IsBacked later (record one { bytes = raised amount one.bytes })
  this-backed one here is small backed =
      let swapped : is_same one.address mint ≡ true = is_same-sym one.address mint ∙ here in
      let more : (if is_same one.address mint then amount else 0) ≡ amount = rw swapped refl in
      omega (arith, held-with one.address, backed, more, raised-supply one.bytes is small)

  -- mints of other addresses
  others-backed : (mints : List PlainAccount) → times mint (map address_of mints) ≡ 0 → All (IsBacked wallets) mints → All (IsBacked later) mints
  others-backed [] none backed = All-nil (IsBacked later)
  others-backed (one_mint ∷ mints) none backed =
      let all = times-cons mint one_mint.address (map address_of mints) in
      elim (cases_Bool (is_same mint one_mint.address)) [
        | inl here ↦
            let first : one mint one_mint.address ≡ 1 = rw here refl in
            absurd (omega arith)
        | inr apart ↦
            All-cons (IsBacked later) one_mint mints (other-backed one_mint apart (All-head (IsBacked wallets) one_mint mints backed))
            (others-backed mints (omega arith) (All-tail (IsBacked wallets) one_mint mints backed))
      ]

  -- all mints, where the wallet's has so much more supply
  pub wallet-backed : (mints : List PlainAccount) (words : MintWords) → mint_at mint mints ≡ Some words → words.supply + amount < 2 ^ 64
      → times mint (map address_of mints) ≤ 1 → AreMints mints → All (IsBacked wallets) mints → All (IsBacked later) (with_supply mint amount mints)
  wallet-backed [] words found small once are backed = absurd (none-some words found)
  wallet-backed (one_mint ∷ mints) words found small once are backed =
      let all = times-cons mint one_mint.address (map address_of mints) in
      let first_backed = All-head (IsBacked wallets) one_mint mints backed in
      let rest_backed = All-tail (IsBacked wallets) one_mint mints backed in
      let is_mint = All-head (λ (m : PlainAccount). IsMint m.bytes) one_mint mints are in
      let are_mints = All-tail (λ (m : PlainAccount). IsMint m.bytes) one_mint mints are in
      elim (cases_Bool (is_same mint one_mint.address)) [
        | inl here ↦
            let first : one mint one_mint.address ≡ 1 = rw here refl in
            let told : mint_words one_mint.bytes ≡ words = same_Some (mint_words one_mint.bytes) words (rw here at found) in
            let fit : (mint_words one_mint.bytes).supply + amount < 2 ^ 64 = subst (λ (w : MintWords). w.supply + amount < 2 ^ 64) (sym told) small in
            let more : PlainAccount = record one_mint { bytes = raised amount one_mint.bytes } in
            All-same (IsBacked later) (with_supply mint amount (one_mint ∷ mints)) (more ∷ mints) (rw here refl)
            (All-cons (IsBacked later) more mints (this-backed one_mint here is_mint fit first_backed) (others-backed mints (omega arith) rest_backed))
        | inr apart ↦
            All-same (IsBacked later) (with_supply mint amount (one_mint ∷ mints)) (one_mint ∷ with_supply mint amount mints) (rw apart refl)
            (All-cons (IsBacked later) one_mint (with_supply mint amount mints) (other-backed one_mint apart first_backed)
            (wallet-backed mints words (rw apart at found) small (omega arith) are_mints rest_backed))
      ]
