-- what a list of client ids takes, one id after the other
use Rattle.std.proofs.Common.{append-nil, append_assoc, ℕ, ◌+◌, ◌-◌, ◌≤◌, ◌<◌, ◌≡◌, ◌⊎◌, inl, inr, zero, suc, Bool, true, false, not, ◌&&◌, eqb, ltb, leb, List, [], ◌∷◌, ◌++◌, Option, Some, None, length, take, drop, get_or, refl, sym, ap, ◌∙◌, subst, arith, ⊎_elim, length-append}
use Rattle.std.specs.List.{All}
use Rattle.std.proofs.lemmas.Bool.{cases_Bool, cond_both, cond-true, cond-false, eqb-true, eqb-false, ne_eqb, ltb-true, ltb-false}
use Rattle.std.proofs.lemmas.List.{take_more, get_or-take, length-take-le, take-append-drop}
use Rattle.std.proofs.lemmas.List.Elements.{All-head, All-tail}
use Rattle.dex_types.specs.declared.addresses.Address.{Address}
use Rattle.dex_types.specs.declared.orders.Order.{Order}
use Rattle.dex_types.specs.declared.terms.Lots.{Lots}
use Rattle.dex_types.specs.declared.terms.Side.{Side}
use Rattle.dex_types.specs.declared.terms.Side.TheVariants.{Bid, Ask}
use Rattle.dex_types.specs.Cancel.{RestingOrder, is_same_order, older, oldest, without_taken, at_most_one, taken_by, taken_by_all, age_of, all_orders_of}
use Rattle.dex_types.specs.Tokens.{is_same_side}
use Rattle.dex_sound.specs.Cancels.{AreApart}
use Rattle.dex_sound.proofs.CancelledLaws.{without_taken-apart, taken_by-All}
use Rattle.dex_cancel.specs.Counting.{count_of_client, count_among}
use Rattle.dex_cancel.specs.TakenOff.{Queue, with_outs, without_all}
use Rattle.dex_cancel.proofs.TakenOffLaws.{IsLeft, left-more}
use Rattle.dex_cancel.proofs.OwnLaws.{IsMine, same-self}
use Rattle.dex_cancel.proofs.WalkSteps.{count_of_client-append}

-- what is left of these orders when the client ids of a list took theirs
abbrev pub left_after : List ℕ → List RestingOrder → List RestingOrder
left_after [] resting = resting
left_after (client ∷ clients) resting = left_after clients (without_taken (taken_by client resting) resting)

-- one client id more
pub left_after-more : (clients : List ℕ) (client : ℕ) (resting : List RestingOrder)
    → left_after (clients ++ client ∷ []) resting ≡ without_taken (taken_by client (left_after clients resting)) (left_after clients resting)
left_after-more [] client resting = refl
left_after-more (first ∷ clients) client resting = left_after-more clients client (without_taken (taken_by first resting) resting)

pub taken_by_all-more : (clients : List ℕ) (client : ℕ) (resting : List RestingOrder)
    → taken_by_all (clients ++ client ∷ []) resting ≡ taken_by_all clients resting ++ at_most_one (taken_by client (left_after clients resting))
taken_by_all-more [] client resting = append-nil (at_most_one (taken_by client resting))
taken_by_all-more (first ∷ clients) client resting =
    let gone = at_most_one (taken_by first resting) in
    let left = without_taken (taken_by first resting) resting in
    ap (λ os. gone ++ os) (taken_by_all-more clients client left)
    ∙ sym (append_assoc gone (taken_by_all clients left) (at_most_one (taken_by client (left_after clients left))))

pub left_after-apart : (clients : List ℕ) (resting : List RestingOrder) → AreApart resting → AreApart (left_after clients resting)
left_after-apart [] resting apart = apart
left_after-apart (client ∷ clients) resting apart =
    left_after-apart clients (without_taken (taken_by client resting) resting) (without_taken-apart (taken_by client resting) resting apart)

-- more client ids take no fewer
pub taken_by_all-within : (clients later : List ℕ) (resting : List RestingOrder) → length (taken_by_all clients resting) ≤ length (taken_by_all (clients ++ later) resting)
taken_by_all-within [] later resting = omega arith
taken_by_all-within (first ∷ clients) later resting =
    let gone = at_most_one (taken_by first resting) in
    let left = without_taken (taken_by first resting) resting in
    omega (
      arith,
      length-append gone (taken_by_all clients left),
      length-append gone (taken_by_all (clients ++ later) left),
      taken_by_all-within clients later left,
    )

-- how often a client id is among one more
pub count_among-more : (client : ℕ) (clients : List ℕ) (last : ℕ) → eqb last client ≡ true → count_among client (clients ++ last ∷ []) ≡ count_among client clients + 1
count_among-more client [] last same = rw same refl
count_among-more client (first ∷ clients) last same =
    ⊎_elim
    (λ (is : eqb first client ≡ true). rw is (omega (arith, count_among-more client clients last same)))
    (λ (other : eqb first client ≡ false). rw other (count_among-more client clients last same))
    (cases_Bool (eqb first client))

pub count_among-other : (client : ℕ) (clients : List ℕ) (last : ℕ) → eqb last client ≡ false → count_among client (clients ++ last ∷ []) ≡ count_among client clients
count_among-other client [] last other = rw other refl
count_among-other client (first ∷ clients) last other =
    ⊎_elim
    (λ (is : eqb first client ≡ true). rw is (ap (λ n. n + 1) (count_among-other client clients last other)))
    (λ (apart : eqb first client ≡ false). rw apart (count_among-other client clients last other))
    (cases_Bool (eqb first client))

-- an order stands between others
record IsAmong (one : RestingOrder) (resting : List RestingOrder) : Type 0 where
  pub before : List RestingOrder
  pub after : List RestingOrder
  pub is : resting ≡ before ++ one ∷ after

among-first : (one : RestingOrder) (others : List RestingOrder) → IsAmong one (one ∷ others)
among-first one others = record { before = []; after = others; is = refl }

among-behind : (one first : RestingOrder) (others : List RestingOrder) → IsAmong one others → IsAmong one (first ∷ others)
among-behind one first others among = record { before = first ∷ among.before; after = among.after; is = ap (λ os. first ∷ os) among.is }

-- the oldest order of a client id is one of them, and has it
oldest-among : (client : ℕ) (resting : List RestingOrder) (found : RestingOrder) → oldest client resting ≡ Some found
    → IsAmong found resting × (eqb found.order.client client ≡ true)
oldest-among client [] found is = absurd (cc)
oldest-among client (first ∷ others) found is =
    ⊎_elim
    (λ (same : eqb first.order.client client ≡ true).
    at client first others found (oldest-among client others) (oldest client others) refl same (sym (cond-true _ _ _ same) ∙ is))
    (λ (other : eqb first.order.client client ≡ false).
    let later = oldest-among client others found (sym (cond-false _ _ _ other) ∙ is) in
    (among-behind found first others later.0, later.1))
    (cases_Bool (eqb first.order.client client))
  where
    at : (client : ℕ) (first : RestingOrder) (others : List RestingOrder) (found : RestingOrder)
        → ((later : RestingOrder) → oldest client others ≡ Some later → IsAmong later others × (eqb later.order.client client ≡ true))
        → (behind : Option RestingOrder) → oldest client others ≡ behind → eqb first.order.client client ≡ true → Some (older first behind) ≡ Some found
        → IsAmong found (first ∷ others) × (eqb found.order.client client ≡ true)
    at client first others found each None none same is =
        let e : first ≡ found = cc in
        subst (λ o. IsAmong o (first ∷ others) × (eqb o.order.client client ≡ true)) e (among-first first others, same)
    at client first others found each (Some later) some same is =
        let e : older first (Some later) ≡ found = cc in
        let there = each later some in
        subst (λ o. IsAmong o (first ∷ others) × (eqb o.order.client client ≡ true)) e
        (cond_both (leb (age_of first) (age_of later)) first later (λ o. IsAmong o (first ∷ others) × (eqb o.order.client client ≡ true))
        (λ before. (among-first first others, same)) (λ behind. (among-behind later first others there.0, there.1)))

-- without one order of them, one fewer has its client id
same-turned : (one other : RestingOrder) → is_same_order one other ≡ false → is_same_order other one ≡ false
same-turned one other apart = by one.side other.side one.order.id other.order.id apart
  where
    turned : (id other : ℕ) → eqb id other ≡ false → eqb other id ≡ false
    turned id other apart = ne_eqb other id (λ same. eqb-false id other apart (sym same))

    by : (side there : Side) (id other : ℕ) → (is_same_side side there && eqb id other) ≡ false → (is_same_side there side && eqb other id) ≡ false
    by Bid Bid id other apart = turned id other apart
    by Bid Ask id other apart = refl
    by Ask Bid id other apart = refl
    by Ask Ask id other apart = turned id other apart

without-between : (one : RestingOrder) (before after : List RestingOrder) → AreApart (before ++ one ∷ after) → without_taken (Some one) (before ++ one ∷ after) ≡ before ++ after
without-between one [] after apart = cond-true _ _ _ (same-self one.side one.order)
without-between one (first ∷ before) after apart =
    cond-false _ _ _ (same-turned first one (among first one before after apart.0))
    ∙ ap (λ os. first ∷ os) (without-between one before after apart.1)
  where
    among : (first one : RestingOrder) (before after : List RestingOrder) → All (λ (other : RestingOrder). is_same_order first other ≡ false) (before ++ one ∷ after) → is_same_order first one ≡ false
    among first one [] after all = All-head (λ (other : RestingOrder). is_same_order first other ≡ false) one after all
    among first one (other ∷ before) after all = among first one before after (All-tail (λ (o : RestingOrder). is_same_order first o ≡ false) other (before ++ one ∷ after) all)

-- one where the client ids are one
abbrev pub one_if : Bool → ℕ
one_if true = 1
one_if false = 0

count-first : (client : ℕ) (one : RestingOrder) (others : List RestingOrder) → count_of_client client (one ∷ others) ≡ one_if (eqb one.order.client client) + count_of_client client others
count-first client one others =
    ⊎_elim
    (λ (same : eqb one.order.client client ≡ true). rw same (omega arith))
    (λ (other : eqb one.order.client client ≡ false). rw other (omega arith))
    (cases_Bool (eqb one.order.client client))

count-without : (client : ℕ) (one : RestingOrder) (resting : List RestingOrder) → AreApart resting → IsAmong one resting
    → count_of_client client (without_taken (Some one) resting) + one_if (eqb one.order.client client) ≡ count_of_client client resting
count-without client one resting apart among =
    let without : without_taken (Some one) resting ≡ among.before ++ among.after =
    ap (without_taken (Some one)) among.is ∙ without-between one among.before among.after (subst AreApart among.is apart) in
    omega (
      arith,
      ap (count_of_client client) without,
      count_of_client-append client among.before among.after,
      ap (count_of_client client) among.is,
      count_of_client-append client among.before (one ∷ among.after),
      count-first client one among.after,
    )

-- a client id takes an order exactly where one has it
oldest-none : (client : ℕ) (resting : List RestingOrder) → oldest client resting ≡ None → count_of_client client resting ≡ 0
oldest-none client [] none = refl
oldest-none client (first ∷ others) none =
    ⊎_elim
    (λ (same : eqb first.order.client client ≡ true). let e : Some (older first (oldest client others)) ≡ None = sym (cond-true _ _ _ same) ∙ none in absurd (cc))
    (λ (other : eqb first.order.client client ≡ false). rw other (oldest-none client others (sym (cond-false _ _ _ other) ∙ none)))
    (cases_Bool (eqb first.order.client client))

-- so it takes one off those that have it, where there is one
pub count-taken : (client : ℕ) (resting : List RestingOrder) → AreApart resting
    → count_of_client client (without_taken (oldest client resting) resting) + length (at_most_one (oldest client resting)) ≡ count_of_client client resting
count-taken client resting apart = at (oldest client resting) refl
  where
    at : (found : Option RestingOrder) → oldest client resting ≡ found → count_of_client client (without_taken found resting) + length (at_most_one found) ≡ count_of_client client resting
    at None none = omega arith
    at (Some one) some =
        let there = oldest-among client resting one some in
        omega (arith, count-without client one resting apart there.0, ap one_if there.1)

pub length-oldest : (client : ℕ) (resting : List RestingOrder) → (0 < count_of_client client resting → length (at_most_one (oldest client resting)) ≡ 1)
    × (count_of_client client resting ≡ 0 → length (at_most_one (oldest client resting)) ≡ 0)
length-oldest client resting = at (oldest client resting) refl
  where
    at : (found : Option RestingOrder) → oldest client resting ≡ found → (0 < count_of_client client resting → length (at_most_one found) ≡ 1)
        × (count_of_client client resting ≡ 0 → length (at_most_one found) ≡ 0)
    at None none = (λ some. absurd (omega (arith, oldest-none client resting none)), λ no. refl)
    at (Some one) some =
        let there = oldest-among client resting one some in
        let is = there.0.is in (
          λ more. refl,
          λ no. absurd (omega (
            arith,
            ap (count_of_client client) is,
            count_of_client-append client there.0.before (one ∷ there.0.after),
            count-first client one there.0.after,
            ap one_if there.1,
          )),
        )

-- another client id takes none of them
count-other : (client other : ℕ) (resting : List RestingOrder) → AreApart resting → eqb other client ≡ false
    → count_of_client client (without_taken (oldest other resting) resting) ≡ count_of_client client resting
count-other client other resting apart differ = at (oldest other resting) refl
  where
    at : (found : Option RestingOrder) → oldest other resting ≡ found → count_of_client client (without_taken found resting) ≡ count_of_client client resting
    at None none = refl
    at (Some one) some =
        let there = oldest-among other resting one some in
        let away : eqb one.order.client client ≡ false = ap (λ n. eqb n client) (eqb-true one.order.client other there.1) ∙ differ in
        omega (arith, count-without client one resting apart there.0, ap one_if away)

-- so as many are left as there were more than it is among the client ids
pub count-left_after : (client : ℕ) (clients : List ℕ) (resting : List RestingOrder) → 0 < client → AreApart resting
    → count_of_client client (left_after clients resting) ≡ count_of_client client resting - count_among client clients
count-left_after client [] resting some apart = omega arith
count-left_after client (first ∷ clients) resting some apart =
    let left = without_taken (taken_by first resting) resting in
    let later = count-left_after client clients left some (without_taken-apart (taken_by first resting) resting apart) in
    ⊎_elim
    (λ (zero_id : eqb first 0 ≡ true).
    let is : first ≡ 0 = eqb-true first 0 zero_id in
    let none : taken_by first resting ≡ None = cond-true _ _ _ zero_id in
    let differ : eqb first client ≡ false = ne_eqb first client (λ same. omega (arith, is, same)) in
    omega (arith, later, ap (λ o. count_of_client client (without_taken o resting)) none, cond-false (eqb first client) (count_among client clients + 1) (count_among client clients) differ))
    (λ (named : eqb first 0 ≡ false).
    let taken : taken_by first resting ≡ oldest first resting = cond-false _ _ _ named in
    let at = ap (λ o. count_of_client client (without_taken o resting)) taken in
    ⊎_elim
    (λ (same : eqb first client ≡ true).
    let is : first ≡ client = eqb-true first client same in
    let one = count-taken client resting apart in
    let whether = length-oldest client resting in
    let turned : count_of_client client (without_taken (oldest first resting) resting) ≡ count_of_client client (without_taken (oldest client resting) resting) =
    ap (λ n. count_of_client client (without_taken (oldest n resting) resting)) is in
    let among : count_among client (first ∷ clients) ≡ count_among client clients + 1 = cond-true _ _ _ same in
    rw among (⊎_elim
    (λ (no : count_of_client client resting ≡ 0). omega (arith, later, at, turned, one, whether.1 no))
    (λ (more : 0 < count_of_client client resting). omega (arith, later, at, turned, one, whether.0 more))
    (some_or_none (count_of_client client resting))))
    (λ (differ : eqb first client ≡ false).
    omega (arith, later, at, count-other client first resting apart differ, cond-false (eqb first client) (count_among client clients + 1) (count_among client clients) differ))
    (cases_Bool (eqb first client)))
    (cases_Bool (eqb first 0))
  where
    some_or_none : (n : ℕ) → (n ≡ 0) ⊎ (0 < n)
    some_or_none zero = inl refl
    some_or_none (suc n) = inr (omega arith)

-- so a client id takes one where it is not 0 and more have it than it is among those before
pub length-taken_by : (client : ℕ) (clients : List ℕ) (resting : List RestingOrder) → AreApart resting
    → length (at_most_one (taken_by client (left_after clients resting))) ≡ one_if (not (eqb client 0) && ltb (count_among client clients) (count_of_client client resting))
length-taken_by client clients resting apart =
    ⊎_elim
    (λ (zero_id : eqb client 0 ≡ true).
    ap (λ o. length (at_most_one o)) (cond-true _ _ _ zero_id) ∙ sym (ap (λ b. one_if (not b && ltb (count_among client clients) (count_of_client client resting))) zero_id))
    (λ (named : eqb client 0 ≡ false).
    let count = count-left_after client clients resting (omega (arith, eqb-false client 0 named)) apart in
    let whether = length-oldest client (left_after clients resting) in
    ap (λ o. length (at_most_one o)) (cond-false _ _ _ named)
    ∙ ⊎_elim
    (λ (more : ltb (count_among client clients) (count_of_client client resting) ≡ true).
    whether.0 (omega (arith, count, ltb-true _ _ more)) ∙ sym (ap (λ b. one_if (not b && ltb (count_among client clients) (count_of_client client resting))) named ∙ ap one_if more))
    (λ (no : ltb (count_among client clients) (count_of_client client resting) ≡ false).
    whether.1 (omega (arith, count, ltb-false _ _ no)) ∙ sym (ap (λ b. one_if (not b && ltb (count_among client clients) (count_of_client client resting))) named ∙ ap one_if no))
    (cases_Bool (ltb (count_among client clients) (count_of_client client resting))))
    (cases_Bool (eqb client 0))

pub length-at_most_one : (found : Option RestingOrder) → length (at_most_one found) ≤ 1
length-at_most_one None = omega arith
length-at_most_one (Some one) = omega arith

-- the client id at a place comes after those before it
pub next-id : (ids : List ℕ) (count place : ℕ) → place < count → count ≤ length ids → take (place + 1) (take count ids) ≡ take place (take count ids) ++ get_or ids place 0 ∷ []
next-id ids count place within all =
    take_more (take count ids) place 0 (omega (arith, length-take-le count ids all))
    ∙ ap (λ id. take place (take count ids) ++ id ∷ []) (get_or-take count ids place 0 within)

-- with one client id more, maybe one order more
pub length-next : (clients : List ℕ) (place client : ℕ) (all : List RestingOrder) → take (place + 1) clients ≡ take place clients ++ client ∷ []
    → length (taken_by_all (take (place + 1) clients) all) ≡ length (taken_by_all (take place clients) all) + length (at_most_one (taken_by client (left_after (take place clients) all)))
length-next clients place client all is =
    ap (λ cs. length (taken_by_all cs all)) is
    ∙ ap length (taken_by_all-more (take place clients) client all)
    ∙ length-append (taken_by_all (take place clients) all) (at_most_one (taken_by client (left_after (take place clients) all)))

pub listed-within : (clients : List ℕ) (place : ℕ) (all : List RestingOrder) → length (taken_by_all (take place clients) all) ≤ length (taken_by_all clients all)
listed-within clients place all =
    omega (
      arith,
      taken_by_all-within (take place clients) (drop place clients) all,
      ap (λ cs. length (taken_by_all cs all)) (take-append-drop place clients),
    )

-- an order that may be there leaves
pub left-maybe : (sizes : Lots) (owner : Address) (gone left : List RestingOrder) (bids asks : List Order) (ring : Queue) (bids_now asks_now : List Order) (ring_now : Queue)
    (found : Option RestingOrder) (bids_then asks_then : List Order) (ring_then : Queue)
    → IsLeft sizes owner gone left bids asks ring bids_now asks_now ring_now → ((one : RestingOrder) → found ≡ Some one → IsMine owner bids_now asks_now one)
    → bids_then ≡ without_all Bid (at_most_one found) bids_now → asks_then ≡ without_all Ask (at_most_one found) asks_now → ring_then ≡ with_outs sizes (at_most_one found) ring_now
    → IsLeft sizes owner (gone ++ at_most_one found) (without_taken found left) bids asks ring bids_then asks_then ring_then
left-maybe sizes owner gone left bids asks ring bids_now asks_now ring_now None bids_then asks_then ring_then held mine bids_is asks_is ring_is =
    subst (λ gone. IsLeft sizes owner gone left bids asks ring bids_then asks_then ring_then) (sym (append-nil gone)) (record {
      bids_are = bids_is ∙ held.bids_are;
      asks_are = asks_is ∙ held.asks_are;
      ring_is = ring_is ∙ held.ring_is;
      rest = ap (λ os. all_orders_of owner os asks_then) bids_is ∙ ap (all_orders_of owner bids_now) asks_is ∙ held.rest;
    })
left-maybe sizes owner gone left bids asks ring bids_now asks_now ring_now (Some one) bids_then asks_then ring_then held mine bids_is asks_is ring_is =
    left-more sizes owner gone left bids asks ring bids_now asks_now ring_now one bids_then asks_then ring_then held (mine one refl) bids_is asks_is ring_is

-- so the orders of one client id more
pub listed-more : (sizes : Lots) (owner : Address) (clients : List ℕ) (client : ℕ) (all : List RestingOrder) (bids asks : List Order) (ring : Queue) (bids_now asks_now : List Order) (ring_now : Queue)
    (bids_then asks_then : List Order) (ring_then : Queue)
    → IsLeft sizes owner (taken_by_all clients all) (left_after clients all) bids asks ring bids_now asks_now ring_now
    → All (IsMine owner bids_now asks_now) (all_orders_of owner bids_now asks_now)
    → bids_then ≡ without_all Bid (at_most_one (taken_by client (all_orders_of owner bids_now asks_now))) bids_now
    → asks_then ≡ without_all Ask (at_most_one (taken_by client (all_orders_of owner bids_now asks_now))) asks_now
    → ring_then ≡ with_outs sizes (at_most_one (taken_by client (all_orders_of owner bids_now asks_now))) ring_now
    → IsLeft sizes owner (taken_by_all (clients ++ client ∷ []) all) (left_after (clients ++ client ∷ []) all) bids asks ring bids_then asks_then ring_then
listed-more sizes owner clients client all bids asks ring bids_now asks_now ring_now bids_then asks_then ring_then held mine bids_is asks_is ring_is =
    let now : List RestingOrder = all_orders_of owner bids_now asks_now in
    let more = left-maybe sizes owner (taken_by_all clients all) (left_after clients all) bids asks ring bids_now asks_now ring_now (taken_by client now) bids_then asks_then ring_then
    held (taken_by-All (IsMine owner bids_now asks_now) client now mine) bids_is asks_is ring_is in
    subst (λ gone. IsLeft sizes owner gone (left_after (clients ++ client ∷ []) all) bids asks ring bids_then asks_then ring_then)
    (ap (λ os. taken_by_all clients all ++ at_most_one (taken_by client os)) held.rest ∙ sym (taken_by_all-more clients client all))
    (subst (λ left. IsLeft sizes owner (taken_by_all clients all ++ at_most_one (taken_by client now)) left bids asks ring bids_then asks_then ring_then)
    (ap (λ os. without_taken (taken_by client os) (left_after clients all)) held.rest ∙ sym (left_after-more clients client all))
    more)
