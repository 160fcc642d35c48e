-- the movements of a row
use Rattle.std.proofs.Common.{ℕ, suc, ◌≡◌, ◌≤◌, lit≤, ltb, List, [], ◌∷◌, length, Option, Some, None, true, false, cond, refl, sym, subst, ap, ◌∙◌, map, arith, ⊎_elim}
use Rattle.std.proofs.lemmas.Bool.{cases_Bool, cond_both, cond-true, cond-false}
use Rattle.std.proofs.lemmas.List.{length-map}
use Rattle.dex_types.specs.Addresses.{is_same}
use Rattle.dex_types.specs.declared.addresses.Address.{Address}
use Rattle.dex_types.specs.declared.movements.Movement.{Movement}
use Rattle.dex_types.specs.declared.rows.Seen.{Seen}
use Rattle.dex_types.specs.Transfers.{Transfers}
use Rattle.dex_types.specs.Wallets.{address_seen, is_lower, with_address, with_role, seen_wallets, balance_seen, taken_from, brought_to, movement_by, movement_of, movements}
use Rattle.dex_history.specs.Journal.{Asked, Sees, asked_wallets, front, places}

-- a movement is of its wallet
pub wallet-movement_by : (address : Address) (before taken brought : ℕ) → (movement_by address before taken brought).wallet ≡ address
wallet-movement_by address before taken brought =
    cond_both (ltb 0 taken) _ _ (λ (move : Movement). move.wallet ≡ address) (λ some. refl)
    (λ none. cond_both (ltb 0 brought) _ _ (λ (move : Movement). move.wallet ≡ address) (λ some. refl) (λ probe. refl))

wallets-map : (seen : Seen) (t : Transfers) (addresses : List Address) → map (λ (move : Movement). move.wallet) (map (movement_of seen t) addresses) ≡ addresses
wallets-map seen t [] = refl
wallets-map seen t (address ∷ addresses) =
    ap (λ first. first ∷ map (λ (move : Movement). move.wallet) (map (movement_of seen t) addresses))
    (wallet-movement_by address (balance_seen seen address) (taken_from seen t address) (brought_to seen t address))
    ∙ ap (λ others. address ∷ others) (wallets-map seen t addresses)

-- the wallets that are seen are those that the row names
seen-named : (row : Asked) (seen : Seen) → Sees row seen → seen_wallets seen ≡ asked_wallets row
seen-named row seen sees =
    let wallets : Option Address → Option Address → Option Address → Option Address → List Address =
    λ coin pc discount referrer. with_role coin (with_role pc (with_role discount (with_role referrer []))) in
    ap (λ coin. wallets coin (address_seen seen.pc) (address_seen seen.discount) (address_seen seen.referrer)) sees.coin
    ∙ ap (λ pc. wallets row.coin pc (address_seen seen.discount) (address_seen seen.referrer)) sees.pc
    ∙ ap (λ discount. wallets row.coin row.pc discount (address_seen seen.referrer)) sees.discount
    ∙ ap (wallets row.coin row.pc row.discount) sees.referrer

pub movements-named : (row : Asked) (seen : Seen) (t : Transfers) → Sees row seen → map (λ (move : Movement). move.wallet) (movements seen t) ≡ asked_wallets row
movements-named row seen t sees = wallets-map seen t (seen_wallets seen) ∙ seen-named row seen sees

-- ---- four places are enough

with_address-few : (address : Address) (addresses : List Address) → length (with_address address addresses) ≤ suc (length addresses)
with_address-few address [] = lit≤ tt
with_address-few address (first ∷ others) =
    ⊎_elim
    (λ (same : is_same address first ≡ true).
    let is : with_address address (first ∷ others) ≡ first ∷ others = cond-true _ _ _ same in
    rw is (omega arith))
    (λ (apart : is_same address first ≡ false).
    let past : with_address address (first ∷ others) ≡ cond (is_lower address first) (address ∷ first ∷ others) (first ∷ with_address address others) = cond-false _ _ _ apart in
    let few : length (with_address address others) ≤ suc (length others) = with_address-few address others in
    rw past (⊎_elim
    (λ (lower : is_lower address first ≡ true). rw (cond-true _ (address ∷ first ∷ others) (first ∷ with_address address others) lower) (omega arith))
    (λ (higher : is_lower address first ≡ false). rw (cond-false _ (address ∷ first ∷ others) (first ∷ with_address address others) higher) (omega (arith, few)))
    (cases_Bool (is_lower address first))))
    (cases_Bool (is_same address first))

with_role-few : (role : Option Address) (addresses : List Address) → length (with_role role addresses) ≤ suc (length addresses)
with_role-few None addresses = omega arith
with_role-few (Some address) addresses = with_address-few address addresses

seen-few : (seen : Seen) → length (seen_wallets seen) ≤ 4
seen-few seen =
    let referrer : List Address = with_role (address_seen seen.referrer) [] in
    let discount : List Address = with_role (address_seen seen.discount) referrer in
    let pc : List Address = with_role (address_seen seen.pc) discount in
    let one : length referrer ≤ 1 = with_role-few (address_seen seen.referrer) [] in
    let two : length discount ≤ suc (length referrer) = with_role-few (address_seen seen.discount) referrer in
    let three : length pc ≤ suc (length discount) = with_role-few (address_seen seen.pc) discount in
    let four : length (with_role (address_seen seen.coin) pc) ≤ suc (length pc) = with_role-few (address_seen seen.coin) pc in
    omega (arith, one, two, three, four)

front-places : (moves : List Movement) → length moves ≤ 4 → front (places moves) ≡ moves
front-places [] few = refl
front-places (a ∷ []) few = refl
front-places (a ∷ b ∷ []) few = refl
front-places (a ∷ b ∷ c ∷ []) few = refl
front-places (a ∷ b ∷ c ∷ d ∷ []) few = refl
front-places (a ∷ b ∷ c ∷ d ∷ e ∷ others) few = absurd (omega (arith, few))

pub places-movements : (seen : Seen) (t : Transfers) → front (places (movements seen t)) ≡ movements seen t
places-movements seen t = front-places (movements seen t) (subst (λ (n : ℕ). n ≤ 4) (sym (length-map (seen_wallets seen) (movement_of seen t))) (seen-few seen))
