-- Walks along lists from the front, one item more.
use Rattle.std.proofs.Common.{ℕ, ◌+◌, ◌-◌, ◌≡◌, ◌<◌, ◌≤◌, ◌||◌, if◌then◌else◌, eqb, Bool, true, false, List, [], ◌∷◌, ◌++◌, length, map, take, drop, get_or, append-nil, Some, nat_lt, inl, inr, refl, sym, ap, ◌∙◌, arith, take_all}
use Rattle.std.specs.List.{insert, slice_get}
use Rattle.std.proofs.lemmas.Bool.{cases_lt, cond-true, cond-false}
use Rattle.std.proofs.lemmas.Bool.Decides.{nat_tests}
use Rattle.std.proofs.lemmas.List.{append_assoc, drop_all, drop_more, map-append, take_more}
use Rattle.std.proofs.lemmas.Option.{slice_get-get_or, slice_get_past}
use Rattle.dex_types.specs.declared.addresses.Address.{Address}
use Rattle.dex_types.specs.declared.orders.Order.{Order}
use Rattle.dex_types.specs.declared.terms.Side.{Side}
use Rattle.dex_types.specs.declared.terms.Side.TheVariants.{Bid}
use Rattle.dex_types.specs.Addresses.{is_same}
use Rattle.dex_types.specs.Cancel.{RestingOrder, is_same_order, older, oldest, order_with, orders_of, without_order, without_taken}
use Rattle.dex_types.specs.Posting.{Posting, post, posted}
use Rattle.dex_types.specs.Side.{precedes}
use Rattle.dex_laws.proofs.PostLaws.{post-full, post-room, posted-insert}
use Rattle.dex_laws.specs.Posted.{place_of}
use Rattle.dex_eager.specs.Eager.{has_account}
use Rattle.dex_eager_market.specs.declared.accounts.Account.{Account}
use Rattle.dex_eager_market.specs.declared.listing.Resting.{Resting}
use Rattle.dex_eager_market.specs.Accounts.{entry_of}
use Rattle.dex_eager_market.specs.Listing.{resting_of}
use Rattle.dex_eager_market.proofs.Meetings.{no_order}

-- where an order is posted
pub place-more : (side : Side) (id : ℕ) (orders : List Order) (place : ℕ) (d : Order) → place < length orders → precedes side (get_or orders place d).id id ≡ true
    → place_of side id orders ≡ place + place_of side id (drop place orders) → place_of side id orders ≡ (place + 1) + place_of side id (drop (place + 1) orders)
place-more side id orders place d lt before is =
    let here = ap (place_of side id) (drop_more orders place d lt) ∙ cond-true (precedes side (get_or orders place d).id id) (place_of side id (drop (place + 1) orders) + 1) 0 before in
    omega (arith, is, here)

pub place-here : (side : Side) (id : ℕ) (orders : List Order) (place : ℕ) (d : Order) → place < length orders → precedes side (get_or orders place d).id id ≡ false
    → place_of side id orders ≡ place + place_of side id (drop place orders) → place_of side id orders ≡ place
place-here side id orders place d lt behind is =
    let here = ap (place_of side id) (drop_more orders place d lt) ∙ cond-false (precedes side (get_or orders place d).id id) (place_of side id (drop (place + 1) orders) + 1) 0 behind in
    omega (arith, is, here)

-- a resting order that stands for none
abbrev pub no_resting : Resting
no_resting = record { side = Bid; order = no_order }

-- a list without what stands after it is the list
pub whole : {X : Type 0} (xs : List X) (place : ℕ) → length xs ≤ place → take place xs ++ drop (place + 1) xs ≡ xs
whole xs place le = ap (λ rest. take place xs ++ rest) (drop_all (place + 1) xs (omega arith)) ∙ append-nil (take place xs) ∙ take_all place xs le

-- an order looked up by its id
pub find-here : (id : ℕ) (orders : List Order) (place : ℕ) (d : Order) → place < length orders → eqb (get_or orders place d).id id ≡ true
    → order_with id (drop place orders) ≡ slice_get orders place
find-here id orders place d lt same =
    ap (order_with id) (drop_more orders place d lt) ∙ cond-true (eqb (get_or orders place d).id id) (Some (get_or orders place d)) (order_with id (drop (place + 1) orders)) same
    ∙ sym (slice_get-get_or orders place d lt)

pub find-more : (id : ℕ) (orders : List Order) (place : ℕ) (d : Order) → place < length orders → eqb (get_or orders place d).id id ≡ false
    → order_with id (drop place orders) ≡ order_with id (drop (place + 1) orders)
find-more id orders place d lt other =
    ap (order_with id) (drop_more orders place d lt) ∙ cond-false (eqb (get_or orders place d).id id) (Some (get_or orders place d)) (order_with id (drop (place + 1) orders)) other

pub find-none : (id : ℕ) (orders : List Order) (place : ℕ) → length orders ≤ place → order_with id (drop place orders) ≡ slice_get orders (length orders)
find-none id orders place le = ap (order_with id) (drop_all place orders le) ∙ sym (slice_get_past orders (length orders) (omega arith))

-- the orders without the one of an id
pub without-here : (id : ℕ) (orders : List Order) (place : ℕ) (d : Order) → place < length orders → eqb (get_or orders place d).id id ≡ true
    → without_order id (drop place orders) ≡ drop (place + 1) orders
without-here id orders place d lt same =
    ap (without_order id) (drop_more orders place d lt)
    ∙ cond-true (eqb (get_or orders place d).id id) (drop (place + 1) orders) (get_or orders place d ∷ without_order id (drop (place + 1) orders)) same

pub without-more : (id : ℕ) (orders : List Order) (place : ℕ) (d : Order) → place < length orders → eqb (get_or orders place d).id id ≡ false
    → take place orders ++ without_order id (drop place orders) ≡ take (place + 1) orders ++ without_order id (drop (place + 1) orders)
without-more id orders place d lt other =
    let order = get_or orders place d in
    let rest = without_order id (drop (place + 1) orders) in
    ap (λ l. take place orders ++ l) (ap (without_order id) (drop_more orders place d lt) ∙ cond-false (eqb order.id id) (drop (place + 1) orders) (order ∷ rest) other)
    ∙ sym (append_assoc (take place orders) (order ∷ []) rest) ∙ ap (λ l. l ++ rest) (sym (take_more orders place d lt))

pub without-none : (id : ℕ) (orders : List Order) (place : ℕ) → length orders ≤ place
    → take place orders ++ without_order id (drop place orders) ≡ take (length orders) orders ++ drop (length orders + 1) orders
without-none id orders place le =
    ap (λ l. take place orders ++ without_order id l) (drop_all place orders le) ∙ append-nil (take place orders) ∙ take_all place orders le
    ∙ sym (whole orders (length orders) (omega arith))

-- a listed order is taken off where it stands
pub forgets-here : (gone : RestingOrder) (list : List Resting) (place : ℕ) (d : Resting) → place < length list → is_same_order gone (resting_of (get_or list place d)) ≡ true
    → map resting_of (take place list) ++ without_taken (Some gone) (map resting_of (drop place list)) ≡ map resting_of (take place list ++ drop (place + 1) list)
forgets-here gone list place d lt same =
    ap (λ l. map resting_of (take place list) ++ l)
    (ap (λ l. without_taken (Some gone) (map resting_of l)) (drop_more list place d lt)
    ∙ cond-true (is_same_order gone (resting_of (get_or list place d))) (map resting_of (drop (place + 1) list))
    (resting_of (get_or list place d) ∷ without_taken (Some gone) (map resting_of (drop (place + 1) list))) same)
    ∙ sym (map-append resting_of (take place list) (drop (place + 1) list))

pub forgets-more : (gone : RestingOrder) (list : List Resting) (place : ℕ) (d : Resting) → place < length list → is_same_order gone (resting_of (get_or list place d)) ≡ false
    → map resting_of (take place list) ++ without_taken (Some gone) (map resting_of (drop place list))
    ≡ map resting_of (take (place + 1) list) ++ without_taken (Some gone) (map resting_of (drop (place + 1) list))
forgets-more gone list place d lt other =
    let here = get_or list place d in
    let rest = without_taken (Some gone) (map resting_of (drop (place + 1) list)) in
    ap (λ l. map resting_of (take place list) ++ l) (ap (λ l. without_taken (Some gone) (map resting_of l)) (drop_more list place d lt)
    ∙ cond-false (is_same_order gone (resting_of here)) (map resting_of (drop (place + 1) list)) (resting_of here ∷ rest) other)
    ∙ sym (append_assoc (map resting_of (take place list)) (resting_of here ∷ []) rest)
    ∙ ap (λ l. l ++ rest) (sym (ap (map resting_of) (take_more list place d lt) ∙ map-append resting_of (take place list) (here ∷ [])))

pub forgets-none : (gone : RestingOrder) (list : List Resting) (place : ℕ) → length list ≤ place
    → map resting_of (take place list) ++ without_taken (Some gone) (map resting_of (drop place list)) ≡ map resting_of (take (length list) list ++ drop (length list + 1) list)
forgets-none gone list place le =
    ap (λ l. map resting_of (take place list) ++ without_taken (Some gone) (map resting_of l)) (drop_all place list le) ∙ append-nil (map resting_of (take place list))
    ∙ ap (map resting_of) (take_all place list le ∙ sym (whole list (length list) (omega arith)))

-- the orders of an owner, one order more
orders_of-append : (owner : Address) (side : Side) (one other : List Order) → orders_of owner side (one ++ other) ≡ orders_of owner side one ++ orders_of owner side other
orders_of-append owner side [] other = refl
orders_of-append owner side (order ∷ one) other =
    either (is_same owner order.owner) (orders_of owner side (one ++ other)) (orders_of owner side one) (orders_of owner side other) (orders_of-append owner side one other)
  where
    either : (own : Bool) (both first second : List RestingOrder) → both ≡ first ++ second
        → (if own then record { side = side; order = order } ∷ both else both) ≡ (if own then record { side = side; order = order } ∷ first else first) ++ second
    either true both first second is = ap (λ l. record { side = side; order = order } ∷ l) is
    either false both first second is = is

pub owned-more : (owner : Address) (side : Side) (orders : List Order) (place : ℕ) (d : Order) (before : List RestingOrder) → place < length orders
    → (before ++ orders_of owner side (take place orders)) ++ orders_of owner side (get_or orders place d ∷ []) ≡ before ++ orders_of owner side (take (place + 1) orders)
owned-more owner side orders place d before lt =
    append_assoc before (orders_of owner side (take place orders)) (orders_of owner side (get_or orders place d ∷ []))
    ∙ ap (λ l. before ++ l) (sym (ap (orders_of owner side) (take_more orders place d lt) ∙ orders_of-append owner side (take place orders) (get_or orders place d ∷ [])))

-- the oldest order of a client id, from the last one back
pub oldest-more : (client : ℕ) (list : List Resting) (place before : ℕ) (d : Resting) → place < length list → place + 1 ≡ before
    → oldest client (map resting_of (drop place list)) ≡ (if eqb (get_or list place d).order.client client
    then Some (older (resting_of (get_or list place d)) (oldest client (map resting_of (drop before list)))) else oldest client (map resting_of (drop before list)))
oldest-more client list place before d lt next =
    ap (λ l. oldest client (map resting_of l)) (drop_more list place d lt)
    ∙ ap (λ (n : ℕ). if eqb (get_or list place d).order.client client then Some (older (resting_of (get_or list place d)) (oldest client (map resting_of (drop n list))))
    else oldest client (map resting_of (drop n list))) next

-- an account looked up
pub account-more : (owner : Address) (accounts : List Account) (place : ℕ) (d : Account) (same : Bool) → place < length accounts
    → is_same owner (get_or accounts place d).address ≡ same
    → has_account owner (map entry_of (drop place accounts)) ≡ (same || has_account owner (map entry_of (drop (place + 1) accounts)))
account-more owner accounts place d same lt is =
    ap (λ l. has_account owner (map entry_of l)) (drop_more accounts place d lt)
    ∙ ap (λ (b : Bool). b || has_account owner (map entry_of (drop (place + 1) accounts))) is

-- a posted order stands at its place; a full side has made room for it
pub posts : (side : Side) (room : ℕ) (order : Order) (before made after : List Order) (place : ℕ) → 0 < order.lots → 1 ≤ room → length before ≤ room
    → made ≡ (if nat_lt (length before) room then before else take (length before - 1) before) → place ≡ place_of side order.id made → after ≡ insert made place order
    → after ≡ (post side room order before).side
posts side room order before made after place some free within made_is place_is is =
    let there : after ≡ posted side order made = is ∙ ap (λ (n : ℕ). insert made n order) place_is ∙ sym (posted-insert side order made) in
    elim (cases_lt (length before) room) [
      | inl lt ↦
          there ∙ ap (posted side order) (made_is ∙ cond-true (nat_lt (length before) room) before (take (length before - 1) before) (grind (arith, nat_tests)))
          ∙ sym (ap (λ (p : Posting). p.side) (post-room side room order before some lt))
      | inr le ↦
          there ∙ ap (posted side order) (made_is ∙ cond-false (nat_lt (length before) room) before (take (length before - 1) before) (grind (arith, nat_tests)))
          ∙ sym (ap (λ (p : Posting). p.side) (post-full side room order before some le))
    ]
