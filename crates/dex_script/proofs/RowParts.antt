-- What is known of a setup row that has no fault, and what it leaves.
use Rattle.std.proofs.Common.{◌≡◌, ℕ, ◌+◌, ◌^◌, ◌<◌, ◌∷◌, [], ◌++◌, ◌||◌, ◌==◌, Bool, true, false, not, nat_le, List, Option, Some, Ok, length, refl}
use Rattle.std.specs.Option.{is_some}
use Rattle.std.proofs.lemmas.Bool.{eqb-true, leb-false, not-false}
use Rattle.dex_types.specs.declared.addresses.Address.{Address}
use Rattle.dex_types.specs.Accounts.{PlainAccounts}
use Rattle.dex_make.specs.declared.market.MarketSet.{MarketSet}
use Rattle.dex_make.specs.Blanks.{blank_account}
use Rattle.dex_make.specs.MarketBytes.{made_accounts}
use Rattle.dex_make.specs.TokenBytes.{mint_bytes, wallet_bytes}
use Rattle.dex_token.specs.MintAccount.{MintWords}
use Rattle.dex_dump.specs.Reading.{is_among, with_orders}
use Rattle.dex_statement.specs.declared.faults.FaultKind.TheVariants.{UnknownLabel, Duplicate, OverLimit, SetupRefused}
use Rattle.dex_statement.specs.declared.faults.SetupCode.TheVariants as code
use Rattle.dex_statement.specs.Faults.{◌>>=◌}
use Rattle.dex_statement.specs.Stated.{PlainMarketWords}
use Rattle.dex_script_types.specs.Known.{has_account}
use Rattle.dex_script.specs.Drafts.{PlainDraft}
use Rattle.dex_script.specs.Known.{is_any_among, made_addresses, mint_at, orders_at, with_supply}
use Rattle.dex_script.specs.Rows.{checked_name, checked_new, exceeds_market, set_of, with_market, with_mint, with_msrm, with_orders_row, with_srm, with_start, with_wallet}
use Rattle.dex_script.proofs.FaultLaws.{gives-bind, gives-found, gives-ok, gives-unless, or-none}

-- a setup row declares these addresses, none of which is taken yet, and leaves these accounts
pub record Declares (draft : PlainDraft) (new : List Address) (start : PlainAccounts) (after : PlainDraft) : Type 0 where
  pub early : draft.is_late ≡ false
  pub leaves : with_start draft new start ≡ after

-- the accounts with what each kind of row adds
abbrev pub more_mints : PlainAccounts → Address → ℕ → PlainAccounts
more_mints start address decimals =
    record start { mints = start.mints ++ record { address = address; bytes = mint_bytes 0 decimals } ∷ [] }

abbrev pub more_wallets : PlainAccounts → Address → Address → Address → ℕ → PlainAccounts
more_wallets start address mint owner amount = record start {
  mints = with_supply mint amount start.mints;
  wallets = start.wallets ++ record { address = address; bytes = wallet_bytes mint owner amount } ∷ [];
}

abbrev pub more_markets : PlainAccounts → MarketSet → PlainAccounts
more_markets start set = record start { markets = start.markets ++ made_accounts set ∷ [] }

abbrev pub more_orders : PlainAccounts → Address → Address → PlainAccounts
more_orders start market address = record start { markets = with_orders market (blank_account address) start.markets }

-- ---- what holds of each kind of row

-- a row that declares addresses, none of which is taken, where there is room, and not too late
pub record IsNew (draft : PlainDraft) (is_taken is_full : Bool) : Type 0 where
  pub free : is_taken ≡ false
  pub few : is_full ≡ false
  pub early : draft.is_late ≡ false

-- a new mint
pub record IsMintRow (draft : PlainDraft) (address : Address) (decimals : ℕ) (after : PlainDraft) : Type 0 where
  pub free : is_among address draft.taken ≡ false
  pub few : length draft.script.start.mints < draft.script.limits.mints
  pub declares : Declares draft (address ∷ []) (more_mints draft.script.start address decimals) after

-- a row that gives a name to a mint that is declared, and has this many decimals
pub record IsName (draft : PlainDraft) (mint : Address) (decimals : ℕ) : Type 0 where
  pub words : MintWords
  pub found : mint_at mint draft.script.start.mints ≡ Some words
  pub early : draft.is_late ≡ false
  pub decimals_are : words.decimals ≡ decimals

-- a new wallet of a mint that is declared, which gets so much more supply
pub record IsWalletRow (draft : PlainDraft) (address mint owner : Address) (amount : ℕ) (after : PlainDraft) : Type 0 where
  pub words : MintWords
  pub found : mint_at mint draft.script.start.mints ≡ Some words
  pub free : is_among address draft.taken ≡ false
  pub few : length draft.script.start.wallets < draft.script.limits.wallets
  pub fits : words.supply + amount < 2 ^ 64
  pub declares : Declares draft (address ∷ []) (more_wallets draft.script.start address mint owner amount) after

-- a new market of two mints that are declared
pub record IsMarketRow (draft : PlainDraft) (words : PlainMarketWords) (after : PlainDraft) : Type 0 where
  pub coin : has_account words.coin draft.script.start.mints ≡ true
  pub pc : has_account words.pc draft.script.start.mints ≡ true
  pub free : is_any_among (made_addresses words.address) draft.taken ≡ false
  pub few : length draft.script.start.markets < draft.script.limits.markets
  pub within : exceeds_market words ≡ false
  pub set : MarketSet
  pub is : set_of words ≡ Ok set
  pub declares : Declares draft (made_addresses words.address) (more_markets draft.script.start set) after

-- a new open-orders account of a market that is declared
pub record IsOrdersRow (draft : PlainDraft) (market address : Address) (after : PlainDraft) : Type 0 where
  pub count : ℕ
  pub found : orders_at market draft.script.start.markets ≡ Some count
  pub free : is_among address draft.taken ≡ false
  pub few : count < draft.script.limits.orders
  pub declares : Declares draft (address ∷ []) (more_orders draft.script.start market address) after

-- ---- a row without a fault

pub checked : (draft : PlainDraft) (is_taken is_full : Bool) (u : Unit {0}) → checked_new draft is_taken is_full ≡ Ok u → IsNew draft is_taken is_full
unfolding checked_new
checked draft is_taken is_full =
    let P : Unit {0} → Type 0 = λ _. IsNew draft is_taken is_full in
    gives-unless P is_taken Duplicate _ (λ free.
    gives-unless P is_full OverLimit _ (λ few.
    gives-unless P draft.is_late (SetupRefused code.Late) _ (λ early. gives-ok P tt (record { free = free; few = few; early = early }))))

module _ (draft : PlainDraft) (after : PlainDraft) where
  abbrev start : PlainAccounts
  start = draft.script.start

  pub mint-row : (address : Address) (decimals : ℕ) → with_mint draft address decimals ≡ Ok after → IsMintRow draft address decimals after
  unfolding with_mint
  mint-row address decimals =
      let P : PlainDraft → Type 0 = IsMintRow draft address decimals in
      gives-bind P (checked_new draft (is_among address draft.taken) (nat_le draft.script.limits.mints (length start.mints))) _ (λ u is.
      let row = checked draft _ _ u is in
      gives-ok P _ (record { free = row.free; few = leb-false draft.script.limits.mints (length start.mints) row.few; declares = record { early = row.early; leaves = refl } })) after

  named : (mint : Address) (name : Option Address) (decimals : ℕ) (u : Unit {0}) → checked_name draft mint name decimals ≡ Ok u
      → IsName draft mint decimals
  unfolding checked_name
  named mint name decimals =
      let P : Unit {0} → Type 0 = λ _. IsName draft mint decimals in
      gives-found P (mint_at mint start.mints) UnknownLabel _ (λ words found.
      gives-unless P (is_some name) Duplicate _ (λ _.
      gives-unless P draft.is_late (SetupRefused code.Late) _ (λ early.
      gives-unless P (not (words.decimals == decimals)) (SetupRefused code.Decimals) _ (λ same.
      gives-ok P tt (record {
        words = words;
        found = found;
        early = early;
        decimals_are = eqb-true words.decimals decimals (not-false (words.decimals == decimals) same);
      })))))

  name-row : (mint : Address) (name : Option Address) (decimals : ℕ) (next : PlainAccounts)
      → (checked_name draft mint name decimals >>= λ _. Ok (with_start draft [] next)) ≡ Ok after → IsName draft mint decimals × Declares draft [] next after
  name-row mint name decimals next =
      let P : PlainDraft → Type 0 = λ left. IsName draft mint decimals × Declares draft [] next left in
      gives-bind P (checked_name draft mint name decimals) _ (λ u is.
      let row = named mint name decimals u is in gives-ok P _ (row, record { early = row.early; leaves = refl })) after

  pub srm-row : (mint : Address) → with_srm draft mint ≡ Ok after
      → IsName draft mint 6 × Declares draft [] (record start { srm = Some mint }) after
  unfolding with_srm
  srm-row mint = name-row mint start.srm 6 (record start { srm = Some mint })

  pub msrm-row : (mint : Address) → with_msrm draft mint ≡ Ok after
      → IsName draft mint 0 × Declares draft [] (record start { msrm = Some mint }) after
  unfolding with_msrm
  msrm-row mint = name-row mint start.msrm 0 (record start { msrm = Some mint })

  pub wallet-row : (address mint owner : Address) (amount : ℕ) → with_wallet draft address mint owner amount ≡ Ok after
      → IsWalletRow draft address mint owner amount after
  unfolding with_wallet
  wallet-row address mint owner amount =
      let P : PlainDraft → Type 0 = IsWalletRow draft address mint owner amount in
      gives-found P (mint_at mint start.mints) UnknownLabel _ (λ words found.
      gives-bind P (checked_new draft (is_among address draft.taken) (nat_le draft.script.limits.wallets (length start.wallets))) _ (λ u is.
      let row = checked draft _ _ u is in
      gives-unless P (nat_le (2 ^ 64) (words.supply + amount)) (SetupRefused code.Supply) _ (λ fits.
      gives-ok P _ (record {
        words = words;
        found = found;
        free = row.free;
        few = leb-false draft.script.limits.wallets (length start.wallets) row.few;
        fits = leb-false (2 ^ 64) (words.supply + amount) fits;
        declares = record { early = row.early; leaves = refl };
      })))) after

  pub market-row : (words : PlainMarketWords) → with_market draft words ≡ Ok after → IsMarketRow draft words after
  unfolding with_market
  market-row words =
      let P : PlainDraft → Type 0 = IsMarketRow draft words in
      let coin = has_account words.coin start.mints in
      let pc = has_account words.pc start.mints in
      let full = nat_le draft.script.limits.markets (length start.markets) in
      gives-unless P (not coin || not pc) UnknownLabel _ (λ known.
      gives-bind P (checked_new draft (is_any_among (made_addresses words.address) draft.taken) (full || exceeds_market words)) _ (λ u new.
      gives-bind P (set_of words) _ (λ set is.
      let row = checked draft _ _ u new in
      let both = or-none (not coin) (not pc) known in
      let limits = or-none full (exceeds_market words) row.few in
      gives-ok P _ (record {
        coin = not-false coin both.0;
        pc = not-false pc both.1;
        free = row.free;
        few = leb-false draft.script.limits.markets (length start.markets) limits.0;
        within = limits.1;
        set = set;
        is = is;
        declares = record { early = row.early; leaves = refl };
      })))) after

  pub orders-row : (market address : Address) → with_orders_row draft market address ≡ Ok after → IsOrdersRow draft market address after
  unfolding with_orders_row
  orders-row market address =
      let P : PlainDraft → Type 0 = IsOrdersRow draft market address in
      gives-found P (orders_at market start.markets) UnknownLabel _ (λ count found.
      gives-bind P (checked_new draft (is_among address draft.taken) (nat_le draft.script.limits.orders count)) _ (λ u is.
      let row = checked draft _ _ u is in
      gives-ok P _ (record {
        count = count;
        found = found;
        free = row.free;
        few = leb-false draft.script.limits.orders count row.few;
        declares = record { early = row.early; leaves = refl };
      }))) after
