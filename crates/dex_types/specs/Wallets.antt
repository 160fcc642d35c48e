-- The wallets of a row, and how it moves them.
use Rattle.std.specs.Prelude.{ℕ, ◌+◌, List, [], ◌∷◌, Option, Some, None, Bool, true, false, ◌&&◌, ◌||◌, ◌==◌, nat_lt, map, if◌then◌else◌}
use Rattle.dex_types.specs.declared.addresses.Address.{Address}
use Rattle.dex_types.specs.declared.movements.MoveKind.TheVariants.{Probe, Debit, Credit}
use Rattle.dex_types.specs.declared.movements.Movement.{Movement}
use Rattle.dex_types.specs.declared.rows.Seen.{Seen}
use Rattle.dex_types.specs.declared.rows.WalletSeen.{WalletSeen}
use Rattle.dex_types.specs.Addresses.{is_same}
use Rattle.dex_types.specs.Rows.{PlainRow}
use Rattle.dex_types.specs.Transfers.{Transfers}

-- of two byte strings the first is less: where they first differ, its byte is less, or it ends there
abbrev pub is_less : List ℕ → List ℕ → Bool
is_less [] [] = false
is_less [] (other ∷ others) = true
is_less (byte ∷ bytes) [] = false
is_less (byte ∷ bytes) (other ∷ others) = nat_lt byte other || ((byte == other) && is_less bytes others)

-- the first address is less than the second, by their bytes
abbrev pub is_lower : Address → Address → Bool
is_lower address other = is_less address.0 other.0

-- rising addresses with one more in its place, unless it is there already
abbrev pub with_address : Address → List Address → List Address
with_address address [] = address ∷ []
with_address address (first ∷ others) =
    if is_same address first then first ∷ others
    else (if is_lower address first then address ∷ first ∷ others else first ∷ with_address address others)

-- addresses with the one that a role names, if it names one
abbrev pub with_role : Option Address → List Address → List Address
with_role None addresses = addresses
with_role (Some address) addresses = with_address address addresses

-- the wallets that a row names, under whichever roles, by rising address, each once
abbrev pub row_wallets : PlainRow → List Address
row_wallets row = with_role row.coin (with_role row.pc (with_role row.discount (with_role row.referrer [])))

-- the address of the wallet of a role
abbrev pub address_seen : Option WalletSeen → Option Address
address_seen None = None
address_seen (Some wallet) = Some wallet.address

-- the wallets that are seen, under whichever roles, by rising address, each once
abbrev pub seen_wallets : Seen → List Address
seen_wallets seen =
    with_role (address_seen seen.coin)
    (with_role (address_seen seen.pc) (with_role (address_seen seen.discount) (with_role (address_seen seen.referrer) [])))

-- the amount of a role, where its wallet is this one
abbrev pub amount_at : Address → Option WalletSeen → ℕ → ℕ
amount_at address None amount = 0
amount_at address (Some wallet) amount = if is_same address wallet.address then amount else 0

-- the native amount that transfers take from a wallet
abbrev pub taken_from : Seen → Transfers → Address → ℕ
taken_from seen t address = amount_at address seen.coin t.coin_in + amount_at address seen.pc t.pc_in

-- the native amount that transfers bring to a wallet, under all its roles together
abbrev pub brought_to : Seen → Transfers → Address → ℕ
brought_to seen t address =
    amount_at address seen.coin t.coin_out + amount_at address seen.pc t.pc_out + amount_at address seen.referrer t.referrer_out

-- the balance of a wallet, as the first of these that is seen has it
abbrev pub balance_in : Address → List (Option WalletSeen) → ℕ
balance_in address [] = 0
balance_in address (None ∷ roles) = balance_in address roles
balance_in address ((Some wallet) ∷ roles) = if is_same address wallet.address then wallet.balance else balance_in address roles

-- the balance of a wallet before the row
abbrev pub balance_seen : Seen → Address → ℕ
balance_seen seen address = balance_in address (seen.coin ∷ seen.pc ∷ seen.discount ∷ seen.referrer ∷ [])

-- a debit or a credit of something, or else a probe of nothing
abbrev pub movement_by : Address → ℕ → ℕ → ℕ → Movement
movement_by address before taken brought =
    if nat_lt 0 taken then record { wallet = address; kind = Debit; amount = taken; before = before }
    else (if nat_lt 0 brought then record { wallet = address; kind = Credit; amount = brought; before = before }
    else record { wallet = address; kind = Probe; amount = 0; before = before })

-- how transfers move a wallet
abbrev pub movement_of : Seen → Transfers → Address → Movement
movement_of seen t address = movement_by address (balance_seen seen address) (taken_from seen t address) (brought_to seen t address)

-- one movement for each wallet that is seen, by rising address
abbrev pub movements : Seen → Transfers → List Movement
movements seen t = map (movement_of seen t) (seen_wallets seen)
