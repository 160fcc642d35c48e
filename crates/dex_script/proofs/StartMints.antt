-- Mints that are declared stay declared, with their decimals, where mints are added or one has more supply.
use Rattle.std.proofs.Common.{◌≡◌, ◌∙◌, ◌+◌, ◌∷◌, ◌++◌, [], ℕ, List, Bool, true, false, Some, ap, inl, inr, refl, sym}
use Rattle.std.specs.List.{list_any}
use Rattle.std.proofs.lemmas.Bool.{cases_Bool, or_left}
use Rattle.std.proofs.lemmas.List.Folds.{list_any-append}
use Rattle.std.proofs.lemmas.Option.{none-some, same_Some}
use Rattle.dex_fields.specs.Bytes.{number_in}
use Rattle.dex_fields.specs.declared.mint.TheConstants.{DECIMALS, SUPPLY}
use Rattle.dex_fields.proofs.Places.{number_in-other}
use Rattle.dex_types.specs.declared.addresses.Address.{Address}
use Rattle.dex_types.specs.Accounts.{PlainAccount}
use Rattle.dex_types.specs.Addresses.{is_same}
use Rattle.dex_laws.proofs.TraderLaws.{is_same-true}
use Rattle.dex_token.specs.MintAccount.{MintWords, mint_words}
use Rattle.dex_state.specs.Addresses.{address_of}
use Rattle.dex_dump.proofs.ReadingLaws.{list_any_map}
use Rattle.dex_script_types.specs.Firsts.{first_of}
use Rattle.dex_script_types.specs.Known.{has_account}
use Rattle.dex_script.specs.Known.{mint_at, with_supply}
use Rattle.dex_script.proofs.FirstLaws.{first-changed}
use Rattle.dex_script.proofs.MintLaws.{addresses-raised, has, with_more}

-- ---- the first that passes

found-push : {X Y : Type 0} (test : X → Bool) (told : X → Y) (xs : List X) (x : X) (y : Y) → first_of test told xs ≡ Some y
    → first_of test told (xs ++ x ∷ []) ≡ Some y
found-push test told [] x y h = absurd (none-some y h)
found-push test told (first ∷ xs) x y h = elim (cases_Bool (test first)) [
  | inl here ↦ rw here (rw here at h)
  | inr other ↦ rw other (found-push test told xs x y (rw other at h))
]

-- ---- mints

abbrev pub mint_says : PlainAccount → MintWords
mint_says mint = mint_words mint.bytes

abbrev pub decimals_of : PlainAccount → ℕ
decimals_of mint = (mint_words mint.bytes).decimals

-- the first mint of an address has this many decimals
abbrev pub HasDecimals : List PlainAccount → ℕ → Address → Type 0
HasDecimals mints count address = first_of (has address) decimals_of mints ≡ Some count

-- what is declared stays declared, with its decimals
pub record Grows (mints later : List PlainAccount) : Type 0 where
  pub has : (address : Address) → has_account address mints ≡ true → has_account address later ≡ true
  pub decimals : (count : ℕ) (address : Address) → HasDecimals mints count address → HasDecimals later count address

pub declared-there : {Y : Type 0} (told : PlainAccount → Y) (mints : List PlainAccount) (address : Address) (found : Y)
    → first_of (has address) told mints ≡ Some found → has_account address mints ≡ true
declared-there told [] address found is = absurd (none-some found is)
declared-there told (first ∷ mints) address found is = elim (cases_Bool (is_same address first.address)) [
  | inl mine ↦ rw mine refl
  | inr other ↦ rw other (declared-there told mints address found (rw other at is))
]

pub has-decimals : (mints : List PlainAccount) (address : Address) (words : MintWords) (count : ℕ) → mint_at address mints ≡ Some words
    → words.decimals ≡ count → HasDecimals mints count address
has-decimals [] address words count found are = absurd (none-some words found)
has-decimals (first ∷ mints) address words count found are = elim (cases_Bool (is_same address first.address)) [
  | inl mine ↦
      let told : mint_says first ≡ words = same_Some (mint_says first) words (rw mine at found) in
      rw mine (ap (λ (n : ℕ). Some n) (ap (λ (w : MintWords). w.decimals) told ∙ are))
  | inr other ↦ rw other (has-decimals mints address words count (rw other at found) are)
]

pub grows-push : (mints : List PlainAccount) (mint : PlainAccount) → Grows mints (mints ++ mint ∷ [])
grows-push mints mint = record {
  has = λ address h. list_any-append (has address) mints (mint ∷ []) ∙ or_left (has_account address mints) (list_any (has address) (mint ∷ [])) h;
  decimals = λ count address h. found-push (has address) decimals_of mints mint count h;
}

-- two mints with different decimals have two addresses
pub names-apart : (mints : List PlainAccount) (one other : Address) (count more : ℕ) → HasDecimals mints count one → HasDecimals mints more other
    → (count ≡ more → ⊥) → is_same one other ≡ false
names-apart mints one other count more first second differ = elim (cases_Bool (is_same one other)) [
  | inl same ↦
      let there : HasDecimals mints more one =
      ap (λ (a : Address). first_of (has a) decimals_of mints) (is_same-true one other same) ∙ second in
      absurd (differ (same_Some count more (sym first ∙ there)))
  | inr apart ↦ apart
]

-- ---- more supply

has-raised : (mint : Address) (more : ℕ) (address : Address) (mints : List PlainAccount)
    → has_account address (with_supply mint more mints) ≡ has_account address mints
has-raised mint more address mints =
    sym (list_any_map (is_same address) address_of (with_supply mint more mints))
    ∙ ap (list_any (is_same address)) (addresses-raised mint more mints) ∙ list_any_map (is_same address) address_of mints

decimals-raised : (more : ℕ) (mint : PlainAccount) → decimals_of (with_more more mint) ≡ decimals_of mint
decimals-raised more mint = number_in-other mint.bytes SUPPLY (number_in mint.bytes SUPPLY + more) DECIMALS refl

pub grows-raised : (mint : Address) (more : ℕ) (mints : List PlainAccount) → Grows mints (with_supply mint more mints)
grows-raised mint more mints = record {
  has = λ address h. has-raised mint more address mints ∙ h;
  decimals = λ count address h.
      first-changed (has address) decimals_of (has mint) (with_more more) (λ _. refl) (decimals-raised more) mints ∙ h;
}
