-- The first mint of an address, by its place among the mints.
use Rattle.std.proofs.Common.{◌≡◌, ◌<◌, ◌+◌, ◌∙◌, ℕ, Bool, List, Some, None, ap, get_or, length, map, refl, set, sym}
use Rattle.std.specs.List.{position}
use Rattle.std.proofs.lemmas.List.{length-map}
use Rattle.dex_types.specs.declared.account_bytes.Named.{Named}
use Rattle.dex_types.specs.declared.addresses.Address.{Address}
use Rattle.dex_types.specs.Accounts.{PlainAccount, named_of}
use Rattle.dex_types.specs.Addresses.{is_same}
use Rattle.dex_token.specs.MintAccount.{IsMint, mint_words}
use Rattle.dex_fields.specs.Bytes.{number_in}
use Rattle.dex_fields.specs.declared.mint.TheConstants.{IS_INITIALIZED, SUPPLY}
use Rattle.dex_fields.proofs.Places.{number_in-other}
use Rattle.dex_state.specs.Addresses.{address_of}
use Rattle.dex_world.proofs.MappedLists.{All-unmap}
use Rattle.dex_fields.proofs.Writing.{length-with_number}
use Rattle.dex_script.proofs.FirstLaws.{all-changed, changed-at, changed-none, first-at, first-none, is-first, map-changed, none-passes}
use Rattle.dex_script.specs.Known.{mint_at, raised, with_supply}
use Rattle.dex_script.specs.Mints.{AreMints}

-- an account has the address
abbrev pub has : Address → PlainAccount → Bool
has address mint = is_same address mint.address

abbrev pub is_here : Address → Named → Bool
is_here address mint = is_same address mint.address

-- a mint with so much more supply
abbrev pub with_more : ℕ → PlainAccount → PlainAccount
with_more more mint = record mint { bytes = raised more mint.bytes }

pub mint-found : (address : Address) (mints : List Named) (place : ℕ) (d : Named) → position (is_here address) mints ≡ Some place
    → mint_at address (map named_of mints) ≡ Some (mint_words (get_or mints place d).bytes.items)
mint-found address mints place d here =
    let first = is-first (is_here address) mints place d here in
    first-at (has address) (λ (mint : PlainAccount). mint_words mint.bytes) named_of mints place d first.within first.passes first.others

pub no-mint : (address : Address) (mints : List Named) → position (is_here address) mints ≡ None → mint_at address (map named_of mints) ≡ None
no-mint address mints none =
    first-none (has address) (λ (mint : PlainAccount). mint_words mint.bytes) named_of mints (none-passes (is_here address) mints none)

pub supply-raised : (address : Address) (more : ℕ) (mints : List Named) (place : ℕ) (d changed : Named)
    → position (is_here address) mints ≡ Some place
    → changed ≡ record (get_or mints place d) { bytes = changed.bytes }
    → changed.bytes.items ≡ raised more (get_or mints place d).bytes.items
    → map named_of (set mints place changed) ≡ with_supply address more (map named_of mints)
supply-raised address more mints place d changed here only grown =
    let first = is-first (is_here address) mints place d here in
    let mint = get_or mints place d in
    let plain : named_of changed ≡ record (named_of mint) { bytes = raised more mint.bytes.items } =
    ap named_of only ∙ ap (λ (bytes : List ℕ). record (named_of mint) { bytes = bytes }) grown in
    changed-at (has address) (with_more more) named_of mints place d changed first.within first.passes first.others plain

pub none-raised : (address : Address) (more : ℕ) (mints : List Named) → position (is_here address) mints ≡ None
    → map named_of mints ≡ with_supply address more (map named_of mints)
none-raised address more mints none =
    changed-none (has address) (with_more more) named_of mints (none-passes (is_here address) mints none)

pub mint-is : (mints : List Named) (place : ℕ) (d : Named) → AreMints (map named_of mints) → place < length mints
    → IsMint (get_or mints place d).bytes.items
mint-is mints place d are within = All-unmap (λ (mint : PlainAccount). IsMint mint.bytes) named_of mints are place d within

-- more supply leaves a mint
raised-is : (more : ℕ) (bytes : List ℕ) → IsMint bytes → IsMint (raised more bytes)
raised-is more bytes is =
    let supply = number_in bytes SUPPLY + more in
    record {
      size = length-with_number bytes SUPPLY supply ∙ is.size;
      initialized = number_in-other bytes SUPPLY supply IS_INITIALIZED refl ∙ is.initialized;
    }

pub mints-raised : (address : Address) (more : ℕ) (mints : List PlainAccount) → AreMints mints → AreMints (with_supply address more mints)
mints-raised address more mints are =
    all-changed (λ (mint : PlainAccount). IsMint mint.bytes) (has address) (with_more more)
    (λ mint is. raised-is more mint.bytes is) mints are

pub addresses-raised : (address : Address) (more : ℕ) (mints : List PlainAccount) → map address_of (with_supply address more mints) ≡ map address_of mints
addresses-raised address more mints = map-changed address_of (has address) (with_more more) (λ _. refl) mints

pub length-with_supply : (address : Address) (more : ℕ) (mints : List PlainAccount) → length (with_supply address more mints) ≡ length mints
length-with_supply address more mints =
    sym (length-map (with_supply address more mints) address_of) ∙ ap length (addresses-raised address more mints) ∙ length-map mints address_of
