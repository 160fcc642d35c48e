-- the wallets that roles name, and those that a row names
use Rattle.std.proofs.Common.{◌≡◌, Bool, true, false, ◌||◌, cond, List, [], ◌∷◌, Option, Some, None, IfSome, refl, sym, ap, ◌∙◌, arith, rules}
use Rattle.std.specs.List.{All, list_any}
use Rattle.std.proofs.lemmas.Bool.{cond_both, or_left, or_right}
use Rattle.std.proofs.lemmas.List.Elements.{All-nil}
use Rattle.dex_types.specs.declared.addresses.Address.{Address}
use Rattle.dex_types.specs.Addresses.{is_same}
use Rattle.dex_types.specs.Rows.{PlainRow}
use Rattle.dex_types.specs.Wallets.{is_lower, with_address, with_role}
use Rattle.dex_laws.proofs.TraderLaws.{is_same-refl, is_same-true}
use Rattle.dex_world.specs.Fold.{is_role, names}
use Rattle.dex_world.specs.Places.{wallets_of_roles}
use Rattle.dex_world.proofs.OnceLaws.{with_address-all}

or-swap : (a b c : Bool) → (a || (b || c)) ≡ (b || (a || c))
or-swap a b c = grind arith

or-again : (a c : Bool) → (a || c) ≡ (a || (a || c))
or-again a c = search rules

pub any-with_address : (address new : Address) (addresses : List Address)
    → list_any (is_same address) (with_address new addresses) ≡ (is_same address new || list_any (is_same address) addresses)
any-with_address address new [] = refl
any-with_address address new (first ∷ others) =
    let rest : Bool = list_any (is_same address) others in
    cond_both (is_same new first) (first ∷ others) (cond (is_lower new first) (new ∷ first ∷ others) (first ∷ with_address new others))
    (λ list. list_any (is_same address) list ≡ (is_same address new || (is_same address first || rest)))
    (λ same.
    or-again (is_same address first) rest
    ∙ ap (λ (x : Address). is_same address x || (is_same address first || rest)) (sym (is_same-true new first same)))
    (λ apart.
    cond_both (is_lower new first) (new ∷ first ∷ others) (first ∷ with_address new others)
    (λ list. list_any (is_same address) list ≡ (is_same address new || (is_same address first || rest)))
    (λ lower. refl)
    (λ higher. ap (λ (b : Bool). is_same address first || b) (any-with_address address new others) ∙ or-swap (is_same address first) (is_same address new) rest))

pub any-with_role : (address : Address) (role : Option Address) (addresses : List Address)
    → list_any (is_same address) (with_role role addresses) ≡ (is_role role address || list_any (is_same address) addresses)
any-with_role address None addresses = refl
any-with_role address (Some wallet) addresses = any-with_address address wallet addresses

-- ---- what holds of the wallet of each role

abbrev pub EachRole : (Address → Type 0) → Option Address → Option Address → Option Address → Option Address → Type 0
EachRole P coin pc discount referrer = IfSome coin P × IfSome pc P × IfSome discount P × IfSome referrer P

all-with_role : (P : Address → Type 0) (role : Option Address) (addresses : List Address) → IfSome role P → All P addresses → All P (with_role role addresses)
all-with_role P None addresses here all = all
all-with_role P (Some address) addresses here all = with_address-all P address addresses here all

-- an address is one of these
abbrev IsIn : List Address → Address → Type 0
IsIn addresses address = list_any (is_same address) addresses ≡ true

own : (role : Option Address) (addresses : List Address) → IfSome role (IsIn (with_role role addresses))
own None addresses = tt
own (Some address) addresses =
    any-with_role address (Some address) addresses
    ∙ or_left (is_same address address) (list_any (is_same address) addresses) (is_same-refl address)

with-other : (role other : Option Address) (addresses : List Address) → IfSome role (IsIn addresses) → IfSome role (IsIn (with_role other addresses))
with-other None other addresses among = tt
with-other (Some address) other addresses among =
    any-with_role address other addresses ∙ or_right (is_role other address) (list_any (is_same address) addresses) among

module _ (coin pc discount referrer : Option Address) where
  -- holds of each wallet that the roles name
  pub roles-each : (P : Address → Type 0) → EachRole P coin pc discount referrer → All P (wallets_of_roles coin pc discount referrer)
  roles-each P each =
      all-with_role P coin _ each.0 (all-with_role P pc _ each.1 (all-with_role P discount _ each.2 (all-with_role P referrer [] each.3 (All-nil P))))

  -- each role's is one of them
  pub roles-among : EachRole (λ address. list_any (is_same address) (wallets_of_roles coin pc discount referrer) ≡ true) coin pc discount referrer
  roles-among = (
    own coin _,
    with-other pc coin _ (own pc _),
    with-other discount coin _ (with-other discount pc _ (own discount _)),
    with-other referrer coin _ (with-other referrer pc _ (with-other referrer discount _ (own referrer []))),
  )

  -- and they are no others
  pub roles-any : (address : Address) → list_any (is_same address) (wallets_of_roles coin pc discount referrer)
      ≡ (is_role coin address || (is_role pc address || (is_role discount address || (is_role referrer address || false))))
  roles-any address =
      any-with_role address coin (with_role pc (with_role discount (with_role referrer [])))
      ∙ ap (λ (b : Bool). is_role coin address || b) (any-with_role address pc (with_role discount (with_role referrer []))
      ∙ ap (λ (b : Bool). is_role pc address || b) (any-with_role address discount (with_role referrer [])
      ∙ ap (λ (b : Bool). is_role discount address || b) (any-with_role address referrer [])))

-- so of the wallets that a row names
pub row-among : (row : PlainRow) → EachRole (λ address. names row address ≡ true) row.coin row.pc row.discount row.referrer
row-among row = roles-among row.coin row.pc row.discount row.referrer

pub names-roles : (row : PlainRow) (address : Address)
    → names row address ≡ (is_role row.coin address || (is_role row.pc address || (is_role row.discount address || (is_role row.referrer address || false))))
names-roles row address = roles-any row.coin row.pc row.discount row.referrer address
