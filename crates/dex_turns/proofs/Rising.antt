-- Addresses that rise; so do the wallets that a row names, and those of two legs.
use Rattle.std.proofs.Common.{◌≡◌, ℕ, true, false, List, [], ◌∷◌, ◌++◌, None, Option, Some, refl, sym, ◌∙◌, arith}
use Rattle.std.proofs.lemmas.Bool.{le-ltb}
use Rattle.dex_world.proofs.Common.{Address, PlainRow, eq-eqb, false_from_ne_true, false≢true, is_same, list_any, row_wallets}
use Rattle.std.specs.List.{All}
use Rattle.dex_types.specs.Wallets.{is_less, is_lower, with_role}
use Rattle.dex_history.proofs.AddressOrder.{with_address-rising}
use Rattle.dex_history.proofs.AddressOrder as order
use Rattle.dex_turns.specs.Turns.{AreRising, leg_wallets}
use Rattle.dex_world.proofs.OnceLaws.{of-any}

abbrev pub IsAbove : Address → Address → Type 0
IsAbove address other = is_lower address other ≡ true

is_less-itself : (bytes : List ℕ) → is_less bytes bytes ≡ false
is_less-itself [] = refl
is_less-itself (byte ∷ bytes) = rw (le-ltb byte byte (omega arith), eq-eqb byte byte refl) (is_less-itself bytes)

-- an address below all of these is none of them
pub not-among : (address : Address) (others : List Address) → All (IsAbove address) others → list_any (is_same address) others ≡ false
not-among address others above =
    false_from_ne_true (list_any (is_same address) others) (λ among. false≢true (sym (is_less-itself address.0) ∙ of-any (IsAbove address) address others among above))

pub rising-behind : (front behind : List Address) → AreRising (front ++ behind) → AreRising behind
rising-behind [] behind rising = rising
rising-behind (first ∷ front) behind rising = rising-behind front behind rising.1

-- ---- those that are named

rising-of : (addresses : List Address) → order.AreRising addresses → AreRising addresses
rising-of [] rising = tt
rising-of (first ∷ others) rising = (rising.0, rising-of others rising.1)

role-rising : (role : Option Address) (addresses : List Address) → order.AreRising addresses → order.AreRising (with_role role addresses)
role-rising None addresses rising = rising
role-rising (Some address) addresses rising = with_address-rising address addresses rising

roles-rising : (one two three four : Option Address) → AreRising (with_role one (with_role two (with_role three (with_role four []))))
roles-rising one two three four = rising-of _ (role-rising one _ (role-rising two _ (role-rising three _ (role-rising four [] tt))))

pub row-rising : (row : PlainRow) → AreRising (row_wallets row)
row-rising row = roles-rising row.coin row.pc row.discount row.referrer

pub legs-rising : (first second : PlainRow) → AreRising (leg_wallets first second)
legs-rising first second = roles-rising first.coin first.pc second.coin second.pc
