-- which refusals each reason gives
use Rattle.std.proofs.Common.{ℕ, ◌≡◌, Bool, true, false, List, [], ◌∷◌, Option, Some, None, length, refl, subst}
use Rattle.std.specs.Prelude.{ℤ}
use Rattle.dex_types.specs.declared.addresses.Address.{Address}
use Rattle.dex_types.specs.declared.orders.Order.{Order}
use Rattle.dex_types.specs.declared.refusals.Refusal.{Refusal}
use Rattle.dex_types.specs.declared.refusals.Refusal.TheVariants.{BalanceTooLarge, SumTooLarge}
use Rattle.dex_types.specs.declared.rows.Seen.{Seen}
use Rattle.dex_types.specs.declared.rows.WalletSeen.{WalletSeen}
use Rattle.dex_types.specs.declared.terms.Lots.{Lots}
use Rattle.dex_types.specs.declared.terms.Side.{Side}
use Rattle.dex_types.specs.declared.terms.Side.TheVariants.{Bid, Ask}
use Rattle.dex_types.specs.Cancel.{CancelBy, ById, ByClient, ByClients, First, RestingOrder, order_with, cancelled}
use Rattle.dex_types.specs.Market.{Market, orders}
use Rattle.dex_types.specs.NewOrder.{NewOrder}
use Rattle.dex_types.specs.Reasons.{first_of, refused_where, disabled, missing, not_blank, not_owner, not_authority, other_mint, other_discount_mint, not_signed, not_empty, ask_too_large, time_past, not_resting, not_yours, zero_client, no_order, would_self_trade, below_minimum, queue_full, short_of}
use Rattle.dex_types.specs.Requests.{Request, Party}
use Rattle.dex_types.specs.Side.{opposite}
use Rattle.dex_types.specs.Trader.{Account, Trader, Open, Closed, Blank}
use Rattle.dex_types.specs.Why.{asking_reasons, named_first, payer, payer_mint, standing_reasons, take_asking_reasons, why_init, why_close, why_order_early, why_take_early, why_unnamed, why_cancelled, why_cancel, why_prune, why_disable}

-- the refusal tells of no balance and no sum that would be too large
abbrev pub is_plain : Refusal → Bool
is_plain (BalanceTooLarge balance amount) = false
is_plain (SumTooLarge vault pending) = false
is_plain _ = true

-- whatever refusal the reason gives has the property
abbrev pub Gives : (Refusal → Type 0) → Option Refusal → Type 0
Gives P reason = (refusal : Refusal) → reason ≡ Some refusal → P refusal

-- a reason that gives plain refusals alone
abbrev pub IsPlain : Option Refusal → Type 0
IsPlain reason = Gives (λ refusal. is_plain refusal ≡ true) reason

-- each of these reasons gives such a refusal, where none before it holds
abbrev pub EachGives : (Refusal → Type 0) → List (Option Refusal) → Type 0
EachGives P [] = Unit {0}
EachGives P (reason ∷ later) = Gives P reason × (reason ≡ None → EachGives P later)

-- a property of all plain refusals is one of what a plain reason gives
pub plain-gives : (P : Refusal → Type 0) → ((refusal : Refusal) → is_plain refusal ≡ true → P refusal) → (reason : Option Refusal) → IsPlain reason → Gives P reason
plain-gives P plain reason gives refusal is = plain refusal (gives refusal is)

pub none-gives : (P : Refusal → Type 0) → Gives P None
none-gives P refusal is = absurd (cc)

pub some-gives : (P : Refusal → Type 0) (why : Refusal) → P why → Gives P (Some why)
some-gives P why holds refusal is = let same : why ≡ refusal = cc in subst P same holds

-- so the first of them does
pub first_of-gives : (P : Refusal → Type 0) (reasons : List (Option Refusal)) → EachGives P reasons → Gives P (first_of reasons)
first_of-gives P [] each = none-gives P
first_of-gives P (None ∷ later) each = first_of-gives P later (each.1 refl)
first_of-gives P ((Some why) ∷ later) each = each.0

pub where-gives : (P : Refusal → Type 0) (test : Bool) (why : Refusal) → (test ≡ true → P why) → Gives P (refused_where test why)
where-gives P true why holds = some-gives P why (holds refl)
where-gives P false why holds = none-gives P

where-plain : (test : Bool) (why : Refusal) → is_plain why ≡ true → IsPlain (refused_where test why)
where-plain test why plain = where-gives (λ refusal. is_plain refusal ≡ true) test why (λ is. plain)

none-plain : IsPlain None
none-plain = none-gives (λ refusal. is_plain refusal ≡ true)

some-plain : (why : Refusal) → is_plain why ≡ true → IsPlain (Some why)
some-plain why plain = some-gives (λ refusal. is_plain refusal ≡ true) why plain

-- the reasons, one by one
pub disabled-plain : (m : Market) → IsPlain (disabled m)
disabled-plain m = where-plain _ _ refl

pub missing-plain : (wallet : Option WalletSeen) → IsPlain (missing wallet)
missing-plain None = some-plain _ refl
missing-plain (Some wallet) = none-plain

not_blank-plain : (found : Option Trader) → IsPlain (not_blank found)
not_blank-plain None = some-plain _ refl
not_blank-plain (Some Blank) = none-plain
not_blank-plain (Some Closed) = some-plain _ refl
not_blank-plain (Some (Open account)) = some-plain _ refl

pub not_owner-plain : (request : Request) (account : Account) → IsPlain (not_owner request account)
not_owner-plain request account = where-plain _ _ refl

pub not_authority-plain : (request : Request) (m : Market) → IsPlain (not_authority request m)
not_authority-plain request m = where-plain _ _ refl

pub other_mint-plain : (mint : Address) (wallet : Option WalletSeen) → IsPlain (other_mint mint wallet)
other_mint-plain mint None = none-plain
other_mint-plain mint (Some wallet) = where-plain _ _ refl

pub other_discount_mint-plain : (seen : Seen) (wallet : Option WalletSeen) → IsPlain (other_discount_mint seen wallet)
other_discount_mint-plain seen None = none-plain
other_discount_mint-plain seen (Some wallet) = where-plain _ _ refl

pub not_signed-plain : (request : Request) (wallet : Option WalletSeen) → IsPlain (not_signed request wallet)
not_signed-plain request None = none-plain
not_signed-plain request (Some wallet) = where-plain _ _ refl

pub ask_too_large-plain : (side : Side) (sizes : Lots) (lots : ℕ) → IsPlain (ask_too_large side sizes lots)
ask_too_large-plain Bid sizes lots = none-plain
ask_too_large-plain Ask sizes lots = where-plain _ _ refl

time_past-plain : (now : ℤ) (latest : Option ℤ) → IsPlain (time_past now latest)
time_past-plain now None = none-plain
time_past-plain now (Some latest) = where-plain _ _ refl

not_resting-plain : (named other : Option Order) → IsPlain (not_resting named other)
not_resting-plain None None = some-plain _ refl
not_resting-plain None (Some other) = some-plain _ refl
not_resting-plain (Some order) other = none-plain

not_yours-plain : (owner : Address) (found : Option Order) → IsPlain (not_yours owner found)
not_yours-plain owner None = none-plain
not_yours-plain owner (Some order) = where-plain _ _ refl

pub would_self_trade-plain : (own : Option ℕ) → IsPlain (would_self_trade own)
would_self_trade-plain None = none-plain
would_self_trade-plain (Some order) = some-plain _ refl

pub below_minimum-plain : (got : Option ℕ) → IsPlain (below_minimum got)
below_minimum-plain None = none-plain
below_minimum-plain (Some got) = some-plain _ refl

pub queue_full-plain : (needed : ℕ) (m : Market) → IsPlain (queue_full needed m)
queue_full-plain needed m = where-plain _ _ refl

pub short_of-plain : (deposit : ℕ) (wallet : Option WalletSeen) → IsPlain (short_of deposit wallet)
short_of-plain deposit None = none-plain
short_of-plain deposit (Some wallet) = where-plain _ _ refl

-- lists of plain reasons
abbrev pub ArePlain : List (Option Refusal) → Type 0
ArePlain [] = Unit {0}
ArePlain (reason ∷ later) = IsPlain reason × ArePlain later

pub each-plain : (reasons : List (Option Refusal)) → ArePlain reasons → EachGives (λ refusal. is_plain refusal ≡ true) reasons
each-plain [] plain = tt
each-plain (reason ∷ later) plain = (plain.0, λ none. each-plain later plain.1)

first_of-plain : (reasons : List (Option Refusal)) → ArePlain reasons → IsPlain (first_of reasons)
first_of-plain reasons plain = first_of-gives (λ refusal. is_plain refusal ≡ true) reasons (each-plain reasons plain)

-- the whys that give plain refusals alone
pub why_init-plain : (request : Request) (m : Market) → IsPlain (why_init request m)
why_init-plain request m =
    first_of-plain (disabled m ∷ not_blank (named_first request.named m.traders) ∷ []) (disabled-plain m, (not_blank-plain (named_first request.named m.traders), tt))

pub why_close-plain : (request : Request) (party : Party) → IsPlain (why_close request party)
why_close-plain request party =
    first_of-plain (not_owner request party.account ∷ not_empty party.account ∷ []) (not_owner-plain request party.account, (where-plain _ _ refl, tt))

pub why_disable-plain : (request : Request) (m : Market) → IsPlain (why_disable request m)
why_disable-plain request m = first_of-plain (disabled m ∷ not_authority request m ∷ []) (disabled-plain m, (not_authority-plain request m, tt))

pub why_order_early-plain : (side : Side) (request : Request) (seen : Seen) (m : Market) (party : Party) → IsPlain (why_order_early side request seen m party)
why_order_early-plain side request seen m party =
    first_of-plain (asking_reasons side seen request.signer (payer_mint side m) party.account.person) (
      missing-plain (payer side seen),
      (
        not_owner-plain request party.account,
        (
          other_mint-plain (payer_mint side m) (payer side seen),
          (other_discount_mint-plain seen seen.discount, (not_signed-plain request (payer side seen), (not_signed-plain request seen.discount, tt))),
        ),
      ),
    )

pub standing-plain : (side : Side) (n : NewOrder) (sizes : Lots) (next_sequence : ℕ) (account : Account) → IsPlain (first_of (standing_reasons side n sizes next_sequence account))
standing-plain side n sizes next_sequence account =
    first_of-plain (standing_reasons side n sizes next_sequence account)
    (where-plain _ _ refl, (ask_too_large-plain side sizes n.lots, (where-plain _ _ refl, (time_past-plain n.now n.latest, tt))))

pub why_take_early-plain : (side : Side) (request : Request) (seen : Seen) (m : Market) → IsPlain (why_take_early side request seen m)
why_take_early-plain side request seen m =
    first_of-plain (take_asking_reasons side seen request.signer m.is_disabled m.listing.coin_mint m.listing.pc_mint) (
      disabled-plain m,
      (
        missing-plain seen.coin,
        (
          missing-plain seen.pc,
          (
            other_mint-plain m.listing.coin_mint seen.coin,
            (
              other_mint-plain m.listing.pc_mint seen.pc,
              (other_discount_mint-plain seen seen.discount, (not_signed-plain request (payer side seen), (not_signed-plain request seen.discount, tt))),
            ),
          ),
        ),
      ),
    )

why_unnamed-plain : (by : CancelBy) (owner : Address) (m : Market) (gone : List RestingOrder) → IsPlain (why_unnamed by owner m.bids m.asks gone)
why_unnamed-plain (ById side id) owner m gone =
    first_of-plain (not_resting (order_with id (orders side m)) (order_with id (orders (opposite side) m)) ∷ not_yours owner (order_with id (orders side m)) ∷ [])
    (not_resting-plain _ _, (not_yours-plain owner _, tt))
why_unnamed-plain (ByClient client) owner m gone = first_of-plain (zero_client client ∷ no_order (length gone) ∷ []) (where-plain _ _ refl, (where-plain _ _ refl, tt))
why_unnamed-plain (ByClients clients) owner m gone = none-plain
why_unnamed-plain (First count) owner m gone = none-plain

why_cancelled-plain : (by : CancelBy) (owner : Address) (m : Market) → IsPlain (why_cancelled by owner m)
why_cancelled-plain by owner m =
    let gone = cancelled by owner m.bids m.asks in
    first_of-plain (why_unnamed by owner m.bids m.asks gone ∷ queue_full (length gone) m ∷ []) (why_unnamed-plain by owner m gone, (queue_full-plain (length gone) m, tt))

pub why_cancel-plain : (by : CancelBy) (request : Request) (m : Market) (party : Party) → IsPlain (why_cancel by request m party)
why_cancel-plain by request m party =
    first_of-plain (not_owner request party.account ∷ why_cancelled by party.address m ∷ []) (not_owner-plain request party.account, (why_cancelled-plain by party.address m, tt))

pub why_prune-plain : (by : CancelBy) (request : Request) (m : Market) (party : Party) → IsPlain (why_prune by request m party)
why_prune-plain by request m party =
    first_of-plain (not_authority request m ∷ why_cancelled by party.address m ∷ []) (not_authority-plain request m, (why_cancelled-plain by party.address m, tt))
