-- a crank moves no worth: what it pays an account was owed to it
use Rattle.std.proofs.Common.{ℕ, ◌+◌, ◌≡◌, Bool, true, false, cond, eqb, List, [], ◌∷◌, Option, Some, None, take, drop, refl, sym, ap, ◌∙◌, subst, arith, ⊎_elim, length-drop}
use Rattle.std.specs.List.{All}
use Rattle.std.proofs.Math.ListN.{drop_of_length-le}
use Rattle.std.proofs.lemmas.Bool.{cases_Bool, cond_both}
use Rattle.std.proofs.lemmas.List.Elements.{All-nil, All-cons, All-head, All-tail, All-weaker, All-take}
use Rattle.dex_types.specs.declared.addresses.Address.{Address}
use Rattle.dex_types.specs.declared.terms.Side.TheVariants.{Bid, Ask}
use Rattle.dex_types.specs.Addresses.{is_same}
use Rattle.dex_types.specs.Market.{Market}
use Rattle.dex_types.specs.Owed.{owed, owed_as, is_event_of}
use Rattle.dex_types.specs.Payment.{freed, paid_as, put_paid, pay_owner, pay_all}
use Rattle.dex_types.specs.QueuedEvent.{EventKind, MakerFill, TakerFill, PlainOut, ReleasingOut, QueuedEvent}
use Rattle.dex_types.specs.Side.{Token, Coin, Pc}
use Rattle.dex_types.specs.Soundness.{IsSound, AreHeld, held_by, event_holding}
use Rattle.dex_types.specs.Steps.{consumed}
use Rattle.dex_types.specs.Totals.{weighed_where}
use Rattle.dex_types.specs.Trader.{Account, Holding, Trader, Open, Blank, Closed, Traders, balance, trader_at, put_trader}
use Rattle.dex_laws.proofs.TotalLaws.{total-take_drop}
use Rattle.dex_laws.proofs.TraderLaws.{is_same-true, trader_at-put_same, trader_at-put_other}
use Rattle.dex_sound.specs.Kept.{KeepsMarket}
use Rattle.dex_eager.specs.Eager.{eager_at, unchanged}
use Rattle.dex_eager.specs.Histories.{IsPaidAs}
use Rattle.dex_eager.specs.Slots.{maker_fills}
use Rattle.dex_eager.specs.Worth.{Ledger, free_in, own_owed}
use Rattle.dex_eager.proofs.StepMoves.{no_gains, paid-still, moves-inside, free_in-put}

-- the account at an address is open
pub record IsOpen (owner : Address) (traders : Traders) : Type 0 where
  pub account : Account
  pub found : trader_at owner traders ≡ Some (Open account)

open-held : (found : Option Trader) (slot : ℕ) (held : Holding) → held_by found slot ≡ Some held → (account : Account) × (found ≡ Some (Open account))
open-held None slot held is = absurd (cc)
open-held (Some Blank) slot held is = absurd (cc)
open-held (Some Closed) slot held is = absurd (cc)
open-held (Some (Open account)) slot held is = (account, refl)

-- the owner of each pending event is open
pub are-open : (traders : Traders) (events : List QueuedEvent) → AreHeld traders events → All (λ (e : QueuedEvent). IsOpen e.owner traders) events
are-open traders [] held = All-nil _
are-open traders (event ∷ events) held =
    let open_ : (account : Account) × (trader_at event.owner traders ≡ Some (Open account)) =
    open-held (trader_at event.owner traders) event.slot (event_holding event) held.0 in
    All-cons (λ (e : QueuedEvent). IsOpen e.owner traders) event events (record { account = open_.0; found = open_.1 }) (are-open traders events held.2)

freed-free : (token : Token) (event : QueuedEvent) (account : Account) → (balance token (freed event account)).free ≡ (balance token account).free
freed-free Coin event account = cond_both (eqb event.paid 0) _ account (λ (a : Account). a.coin.free ≡ account.coin.free) (λ gone. refl) (λ stays. refl)
freed-free Pc event account = cond_both (eqb event.paid 0) _ account (λ (a : Account). a.pc.free ≡ account.pc.free) (λ gone. refl) (λ stays. refl)

-- an account gets free what the event owed it
paid-free : (token : Token) (kind : EventKind) (event : QueuedEvent) (account : Account)
    → (balance token (paid_as kind event account)).free ≡ (balance token account).free + owed_as token kind event
paid-free Coin (MakerFill Bid) event account = refl
paid-free Coin (MakerFill Ask) event account = refl
paid-free Pc (MakerFill Bid) event account = refl
paid-free Pc (MakerFill Ask) event account = refl
paid-free Coin (TakerFill side) event account = omega arith
paid-free Pc (TakerFill side) event account = omega arith
paid-free Coin (PlainOut side) event account = omega (arith, freed-free Coin event account)
paid-free Pc (PlainOut side) event account = omega (arith, freed-free Pc event account)
paid-free Coin (ReleasingOut Bid) event account = freed-free Coin event _ ∙ omega arith
paid-free Coin (ReleasingOut Ask) event account = freed-free Coin event _
paid-free Pc (ReleasingOut Bid) event account = freed-free Pc event _
paid-free Pc (ReleasingOut Ask) event account = freed-free Pc event _ ∙ omega arith

pay_owner-is : (event : QueuedEvent) (traders : Traders) (found : IsOpen event.owner traders)
    → pay_owner event traders ≡ put_trader event.owner (Open (paid_as event.kind event found.account)) traders
pay_owner-is event traders is = ap (λ found. put_paid event.owner event found traders) is.found

-- each account has free what it had, and what the event owed it
pay_owner-free : (token : Token) (a : Address) (event : QueuedEvent) (traders : Traders) → IsOpen event.owner traders
    → free_in token (trader_at a (pay_owner event traders)) ≡ free_in token (trader_at a traders) + weighed_where (is_event_of a) (owed token) event
pay_owner-free token a event traders is =
    let after : Trader = Open (paid_as event.kind event is.account) in
    ap (λ t. free_in token (trader_at a t)) (pay_owner-is event traders is)
    ∙ ends (is_same a event.owner) _ _ _ _ _ (free_in-put token event.owner a (Open is.account) after traders is.found) (paid-free token event.kind event is.account)
  where
    ends : (own : Bool) (now before free later owed : ℕ) → now + cond own free 0 ≡ before + cond own later 0 → later ≡ free + owed → now ≡ before + cond own owed 0
    ends true now before free later owed sum is = omega (arith, sum, is)
    ends false now before free later owed sum is = omega (arith, sum)

-- paying one keeps the others open
pay_owner-open : (event : QueuedEvent) (traders : Traders) → IsOpen event.owner traders → (owner : Address) → IsOpen owner traders → IsOpen owner (pay_owner event traders)
pay_owner-open event traders is owner open_ =
    subst (IsOpen owner) (sym (pay_owner-is event traders is))
    (⊎_elim
    (λ (same : is_same owner event.owner ≡ true).
    subst (λ o. IsOpen o (put_trader event.owner (Open (paid_as event.kind event is.account)) traders)) (sym (is_same-true owner event.owner same))
    (record { account = paid_as event.kind event is.account; found = trader_at-put_same event.owner (Open is.account) _ traders is.found }))
    (λ (apart : is_same owner event.owner ≡ false).
    record { account = open_.account; found = trader_at-put_other event.owner owner (Open (paid_as event.kind event is.account)) traders apart ∙ open_.found })
    (cases_Bool (is_same owner event.owner)))

pub pay_all-free : (token : Token) (a : Address) (events : List QueuedEvent) (traders : Traders) → All (λ (e : QueuedEvent). IsOpen e.owner traders) events
    → free_in token (trader_at a (pay_all events traders)) ≡ free_in token (trader_at a traders) + own_owed token a events
pay_all-free token a [] traders opened = omega arith
pay_all-free token a (event ∷ events) traders opened =
    let here : IsOpen event.owner traders = All-head (λ (e : QueuedEvent). IsOpen e.owner traders) event events opened in
    let still : All (λ (e : QueuedEvent). IsOpen e.owner (pay_owner event traders)) events =
    All-weaker (λ (e : QueuedEvent). IsOpen e.owner traders) (λ (e : QueuedEvent). IsOpen e.owner (pay_owner event traders))
    (λ e open_. pay_owner-open event traders here e.owner open_) events (All-tail (λ (e : QueuedEvent). IsOpen e.owner traders) event events opened) in
    omega (arith, pay_all-free token a events (pay_owner event traders) still, pay_owner-free token a event traders here)

-- a crank of this many events changes nothing of the eager market
pub consumed-still : (m : Market) (ledger : Ledger) (named : List Address) (count : ℕ) → IsSound m → KeepsMarket m (consumed count m)
    → IsPaidAs m ledger named (consumed count m) (unchanged (eager_at m ledger))
consumed-still m ledger named count sound keeps =
    let opened : All (λ (e : QueuedEvent). IsOpen e.owner m.traders) (take count m.events) =
    All-take (λ (e : QueuedEvent). IsOpen e.owner m.traders) count m.events (are-open m.traders m.events sound.slots.pending) in
    paid-still m ledger named (consumed count m)
    (moves-inside m named (consumed count m) no_gains no_gains 0 keeps (λ token. refl) (λ token. refl)
    (λ token a. omega (arith, pay_all-free token a (take count m.events) m.traders opened, total-take_drop (weighed_where (is_event_of a) (owed token)) count m.events))
    (omega arith))
    refl refl refl
    (ap maker_fills (drop_of_length-le (drop count m.events) (omega (arith, length-drop count m.events))))
