-- a new order moves worth as its fills do
use Rattle.std.proofs.Common.{ℕ, ◌+◌, ◌-◌, ◌^◌, ◌≡◌, ◌≤◌, ◌<◌, ◌||◌, Bool, true, false, cond, eqb, List, [], ◌++◌, Option, Some, None, is_some, map, refl, sym, ap, ◌∙◌, subst, arith, append-nil}
use Rattle.std.proofs.lemmas.Bool.{cond-false, cond_both}
use Rattle.dex_types.specs.declared.addresses.Address.{Address}
use Rattle.dex_types.specs.declared.orders.Order.{Order}
use Rattle.dex_types.specs.declared.rows.Seen.{Seen}
use Rattle.dex_types.specs.declared.terms.Lots.{Lots}
use Rattle.dex_types.specs.declared.terms.Side.{Side}
use Rattle.dex_types.specs.declared.terms.Side.TheVariants.{Bid, Ask}
use Rattle.dex_types.specs.Addresses.{is_same}
use Rattle.dex_types.specs.Market.{Market, orders, capacity}
use Rattle.dex_types.specs.Meeting.{Meeting, meet}
use Rattle.dex_types.specs.NewOrder.{NewOrder, Ordering, terms_of, demand_of, fee_of, resting, taker_events, last_events, order_on, account_after, after_order}
use Rattle.dex_types.specs.Owed.{order_lock, owed, kept, is_order_of, is_event_of}
use Rattle.dex_types.specs.Posting.{post}
use Rattle.dex_types.specs.QueuedEvent.{QueuedEvent}
use Rattle.dex_types.specs.Reasons.{ask_too_large, would_self_trade}
use Rattle.dex_types.specs.Requests.{Request, Party}
use Rattle.dex_types.specs.Side.{Token, Coin, Pc, by_side, by_token, opposite, locked_token, gained_token, lock}
use Rattle.dex_types.specs.Solvency.{free_of, own_locked, own_kept}
use Rattle.dex_types.specs.Soundness.{IsSound}
use Rattle.dex_types.specs.Steps.{Step, ordered}
use Rattle.dex_types.specs.Totals.{weighed_where}
use Rattle.dex_types.specs.Trader.{Account, Open, trader_at}
use Rattle.dex_types.specs.Why.{why_order_of}
use Rattle.dex_laws.proofs.MovedLaws.{IsTestOfOrder-owner}
use Rattle.dex_laws.proofs.SpendLaws.{rested-paid}
use Rattle.dex_laws.proofs.TotalLaws.{total-append}
use Rattle.dex_sound.proofs.FillLaws.{fees-shared}
use Rattle.dex_sound.proofs.MeetSums.{met-locked, met-own, posted-locked, last-other, taker-kept}
use Rattle.dex_sound.proofs.OrderSoundFunds.{rested-lock}
use Rattle.dex_sound.proofs.OrderSoundReasons.{order-none, refused_where-none}
use Rattle.dex_sound.specs.Exchange.{taker_gets, taker_pays}
use Rattle.dex_sound.specs.Kept.{addresses, KeepsMarket}
use Rattle.dex_eager.specs.Eager.{Eager, eager_at, orders_on, with_change, with_fills, order_posting, after_new_order, order_by, eager_order}
use Rattle.dex_eager.specs.Histories.{IsPaidAs}
use Rattle.dex_eager.specs.Slots.{without_slots, maker_fills}
use Rattle.dex_eager.specs.Worth.{Worth, Ledger, plus, net, with_step, is_first, for_account, deposit_in, held_for, worth_of, own_owed}
use Rattle.dex_eager.proofs.FillSums.{maker_fills-slots, maker_fills-append, own_gained-fills, own_leaving-fills, own-amounts}
use Rattle.dex_eager.proofs.FundSteps.{IsParty}
use Rattle.dex_eager.proofs.MeetSlots.{event_without_slot, meeting_without_slots, meet-slots, rested-slots, post-slots}
use Rattle.dex_eager.proofs.StepMoves.{Moves, worths-moved, takings-moved, eager-same, appended-is, for_account-none, free_in-put}
use Rattle.dex_eager.proofs.TakeSteps.{worth_after_fills, paid-makers, orders_on-slots, not-large}
use Rattle.dex_eager.proofs.WorthLists.{worths_by, worths-agree, plus-again, net-agree, changed, with_change-by, own_gained, own_leaving}

-- the events of a new order after those of its meeting
abbrev own_events : Side → Lots → NewOrder → Ordering → List QueuedEvent
own_events side sizes n o = taker_events side sizes n o.met o.order ++ last_events side sizes o.order o.posting.booted

-- are no fills of makers
taker-fills : (side : Side) (sizes : Lots) (n : NewOrder) (met : Meeting) (order : Order) → maker_fills (taker_events side sizes n met order) ≡ []
taker-fills side sizes n met order = cond_both (eqb met.pc 0) [] _ (λ events. maker_fills events ≡ []) (λ none. refl) (λ some. refl)

last-fills : (side : Side) (sizes : Lots) (order : Order) (booted : Option Order) → maker_fills (last_events side sizes order booted) ≡ []
last-fills side sizes order None = cond_both (eqb order.lots 0) _ [] (λ events. maker_fills events ≡ []) (λ none. refl) (λ some. refl)
last-fills side sizes order (Some gone) = refl

-- so the fills of its events are those of the meeting
order-fills : (side : Side) (m : Market) (account : Account) (n : NewOrder) → maker_fills (order_on side m account n).events ≡ maker_fills (order_on side m account n).met.events
order-fills side m account n =
    let o : Ordering = order_on side m account n in
    let taker : List QueuedEvent = taker_events side m.listing.sizes n o.met o.order in
    let last : List QueuedEvent = last_events side m.listing.sizes o.order o.posting.booted in
    maker_fills-append (o.met.events ++ taker) last
    ∙ ap (λ fills. maker_fills (o.met.events ++ taker) ++ fills) (last-fills side m.listing.sizes o.order o.posting.booted)
    ∙ append-nil (maker_fills (o.met.events ++ taker))
    ∙ maker_fills-append o.met.events taker
    ∙ ap (λ fills. maker_fills o.met.events ++ fills) (taker-fills side m.listing.sizes n o.met o.order)
    ∙ append-nil (maker_fills o.met.events)

order-gained : (side : Side) (m : Market) (account : Account) (n : NewOrder) (token : Token) (a : Address)
    → own_gained token a (order_on side m account n).events ≡ own_gained token a (order_on side m account n).met.events
order-gained side m account n token a =
    let o : Ordering = order_on side m account n in
    sym (own_gained-fills token a o.events) ∙ ap (own_gained token a) (order-fills side m account n) ∙ own_gained-fills token a o.met.events

order-leaving : (side : Side) (m : Market) (account : Account) (n : NewOrder) (token : Token) (a : Address)
    → own_leaving token a (order_on side m account n).events ≡ own_leaving token a (order_on side m account n).met.events
order-leaving side m account n token a =
    let o : Ordering = order_on side m account n in
    sym (own_leaving-fills token a o.events) ∙ ap (own_leaving token a) (order-fills side m account n) ∙ own_leaving-fills token a o.met.events

-- the three parts of a sum over its events
order-kept : (side : Side) (m : Market) (account : Account) (n : NewOrder) (token : Token) (a : Address)
    → let o = order_on side m account n in
    own_kept token a o.events ≡ own_kept token a o.met.events + own_kept token a (last_events side m.listing.sizes o.order o.posting.booted)
order-kept side m account n token a =
    let o : Ordering = order_on side m account n in
    let weight : QueuedEvent → ℕ = weighed_where (is_event_of a) (kept token) in
    let taker : List QueuedEvent = taker_events side m.listing.sizes n o.met o.order in
    let last : List QueuedEvent = last_events side m.listing.sizes o.order o.posting.booted in
    omega (
      arith,
      total-append weight (o.met.events ++ taker) last,
      total-append weight o.met.events taker,
      taker-kept (is_event_of a) token side m.listing.sizes n o.met o.order,
    )

-- what stays locked of a new order
abbrev rests_locked : Side → Market → Account → NewOrder → ℕ
rests_locked side m account n = lock side m.listing.sizes n.price (order_on side m account n).order.lots

-- of each account: what its orders lock of the token that the new order pays, and what events keep of it
order-locks : (side : Side) (m : Market) (account : Account) (n : NewOrder) (a : Address) → 1 ≤ capacity side m → m.next_sequence < 2 ^ 64
    → own_locked (locked_token side) a (after_order side account n (order_on side m account n) m) + own_kept (locked_token side) a (order_on side m account n).events
    ≡ own_locked (locked_token side) a m + cond (is_same a n.owner) (rests_locked side m account n) 0
order-locks Bid m account n a room small =
    let o : Ordering = order_on Bid m account n in
    let locks : cond (is_same a n.owner) (order_lock Bid m.listing.sizes o.order) 0 ≡ cond (is_same a n.owner) (rests_locked Bid m account n) 0 =
    ap (λ amount. cond (is_same a n.owner) amount 0) (rested-lock Bid m account n small) in
    omega (
      arith,
      locks,
      order-kept Bid m account n Pc a,
      met-own (is_event_of a) Bid (terms_of m.listing.sizes n) (demand_of Bid m.listing.sizes n) m.asks,
      posted-locked (is_order_of a) (is_event_of a) (IsTestOfOrder-owner a) Bid m.listing.sizes (capacity Bid m) o.order m.bids room,
    )
order-locks Ask m account n a room small =
    let o : Ordering = order_on Ask m account n in
    let locks : cond (is_same a n.owner) (order_lock Ask m.listing.sizes o.order) 0 ≡ cond (is_same a n.owner) (rests_locked Ask m account n) 0 =
    ap (λ amount. cond (is_same a n.owner) amount 0) (rested-lock Ask m account n small) in
    omega (
      arith,
      locks,
      order-kept Ask m account n Coin a,
      met-own (is_event_of a) Ask (terms_of m.listing.sizes n) (demand_of Ask m.listing.sizes n) m.bids,
      posted-locked (is_order_of a) (is_event_of a) (IsTestOfOrder-owner a) Ask m.listing.sizes (capacity Ask m) o.order m.asks room,
    )

-- and of the token that it brings in
order-frees : (side : Side) (m : Market) (account : Account) (n : NewOrder) (a : Address)
    → own_locked (gained_token side) a (after_order side account n (order_on side m account n) m) + own_kept (gained_token side) a (order_on side m account n).events
    ≡ own_locked (gained_token side) a m
order-frees Bid m account n a =
    let o : Ordering = order_on Bid m account n in
    omega (
      arith,
      order-kept Bid m account n Coin a,
      met-locked (is_order_of a) (is_event_of a) (IsTestOfOrder-owner a) Bid (terms_of m.listing.sizes n) (demand_of Bid m.listing.sizes n) m.asks,
      last-other (is_event_of a) Bid m.listing.sizes o.order o.posting.booted,
    )
order-frees Ask m account n a =
    let o : Ordering = order_on Ask m account n in
    omega (
      arith,
      order-kept Ask m account n Pc a,
      met-locked (is_order_of a) (is_event_of a) (IsTestOfOrder-owner a) Ask (terms_of m.listing.sizes n) (demand_of Ask m.listing.sizes n) m.bids,
      last-other (is_event_of a) Ask m.listing.sizes o.order o.posting.booted,
    )

-- what a new order deposits of a token, what stays locked of it, and what its fills bring and take
abbrev deposits : Side → Market → Account → NewOrder → Token → ℕ
deposits side m account n token = by_token token (by_token (locked_token side) (order_on side m account n).deposit 0) (by_token (locked_token side) 0 (order_on side m account n).deposit)

abbrev stays : Side → Market → Account → NewOrder → Token → ℕ
stays side m account n token = by_token token (by_token (locked_token side) (rests_locked side m account n) 0) (by_token (locked_token side) 0 (rests_locked side m account n))

abbrev brings : Side → Market → Account → NewOrder → Token → ℕ
brings side m account n token = taker_gets side m.listing.sizes (order_on side m account n).met (fee_of n (order_on side m account n).met) token

abbrev takes : Side → Market → Account → NewOrder → Token → ℕ
takes side m account n token = taker_pays side m.listing.sizes (order_on side m account n).met (fee_of n (order_on side m account n).met) token

-- the account's free funds pay for the fills and for what rests, with the deposit
account-funds : (side : Side) (m : Market) (account : Account) (n : NewOrder) (token : Token)
    → free_of token (Open (account_after side m.listing.sizes n (order_on side m account n) account)) + stays side m account n token + takes side m account n token
    ≡ free_of token (Open account) + deposits side m account n token + brings side m account n token
account-funds Bid m account n Coin = omega arith
account-funds Bid m account n Pc = omega (arith, rested-paid Bid m.listing.sizes n m.asks)
account-funds Ask m account n Coin = omega (arith, rested-paid Ask m.listing.sizes n m.bids)
account-funds Ask m account n Pc = omega arith

and-none : (own : Bool) (amount : ℕ) → amount ≡ amount + cond own 0 0
and-none true amount = omega arith
and-none false amount = omega arith

locks-all : (side : Side) (m : Market) (account : Account) (n : NewOrder) (token : Token) (a : Address) → 1 ≤ capacity side m → m.next_sequence < 2 ^ 64
    → own_locked token a (after_order side account n (order_on side m account n) m) + own_kept token a (order_on side m account n).events
    ≡ own_locked token a m + cond (is_same a n.owner) (stays side m account n token) 0
locks-all Bid m account n Coin a room small = order-frees Bid m account n a ∙ and-none (is_same a n.owner) (own_locked Coin a m)
locks-all Bid m account n Pc a room small = order-locks Bid m account n a room small
locks-all Ask m account n Coin a room small = order-locks Ask m account n a room small
locks-all Ask m account n Pc a room small = order-frees Ask m account n a ∙ and-none (is_same a n.owner) (own_locked Pc a m)

all-together : (own : Bool) (now before free after locked_now locked kept stay gained leaving owed more pay deposit get : ℕ)
    → now + cond own free 0 ≡ before + cond own after 0 → locked_now + kept ≡ locked + cond own stay 0 → kept + gained ≡ leaving + more
    → after + stay + pay ≡ free + deposit + get
    → (now + locked_now + (owed + more)) + (leaving + cond own pay 0) ≡ (before + locked + owed) + cond own deposit 0 + (gained + cond own get 0)
all-together true now before free after locked_now locked kept stay gained leaving owed more pay deposit get one two three four = omega (arith, one, two, three, four)
all-together false now before free after locked_now locked kept stay gained leaving owed more pay deposit get one two three four = omega (arith, one, two, three)

-- so what the market holds for an account changes by the fills, and by the deposit
order-held : (side : Side) (m : Market) (account : Account) (n : NewOrder) (token : Token) (a : Address) → trader_at n.owner m.traders ≡ Some (Open account)
    → 1 ≤ capacity side m → m.next_sequence < 2 ^ 64
    → held_for token a (after_order side account n (order_on side m account n) m)
    + (own_leaving token a (order_on side m account n).met.events + cond (is_same a n.owner) (takes side m account n token) 0)
    ≡ held_for token a m + cond (is_same a n.owner) (deposits side m account n token) 0
    + (own_gained token a (order_on side m account n).met.events + cond (is_same a n.owner) (brings side m account n token) 0)
order-held side m account n token a found room small =
    let o : Ordering = order_on side m account n in
    let after : Market = after_order side account n o m in
    let weight : QueuedEvent → ℕ = weighed_where (is_event_of a) (owed token) in
    let both : own_owed token a (m.events ++ o.events) ≡ own_owed token a m.events + own_owed token a o.events = total-append weight m.events o.events in
    let whole = all-together (is_same a n.owner) _ _ _ _ _ _ _ _ _ _ (own_owed token a m.events) _ _ _ _
    (free_in-put token n.owner a (Open account) (Open (account_after side m.listing.sizes n o account)) m.traders found)
    (locks-all side m account n token a room small)
    (own-amounts token a o.events)
    (account-funds side m account n token) in
    omega (arith, whole, both, order-gained side m account n token a, order-leaving side m account n token a)

-- what a new order brings an account by its fills, and what it takes
abbrev gains_of : Side → Market → Account → NewOrder → Token → Address → ℕ
gains_of side m account n token a = own_gained token a (order_on side m account n).met.events + cond (is_same a n.owner) (brings side m account n token) 0

abbrev pays_of : Side → Market → Account → NewOrder → Token → Address → ℕ
pays_of side m account n token a = own_leaving token a (order_on side m account n).met.events + cond (is_same a n.owner) (takes side m account n token) 0

deposit-is : (token : Token) (side : Side) (m : Market) (party : Party) (n : NewOrder)
    → let s = ordered side n m party (order_on side m party.account n) in
    deposit_in token s.reply s.transfers ≡ deposits side m party.account n token
deposit-is Coin side m party n = refl
deposit-is Pc side m party n = refl

order-moves : (side : Side) (n : NewOrder) (m : Market) (named : List Address) (party : Party) → IsSound m → IsParty named m.traders party → n.owner ≡ party.address
    → KeepsMarket m (ordered side n m party (order_on side m party.account n))
    → Moves m named (ordered side n m party (order_on side m party.account n)) (gains_of side m party.account n) (pays_of side m party.account n)
    (fee_of n (order_on side m party.account n).met - (order_on side m party.account n).met.rebates)
order-moves side n m named party sound is owner keeps = record {
  keeps = keeps;
  held = λ token a.
      let named_first : is_first a named ≡ is_same a n.owner = is.first a ∙ sym (ap (is_same a) owner) in
      let s : Step = ordered side n m party (order_on side m party.account n) in
      let deposited : for_account a named (deposit_in token s.reply s.transfers) ≡ cond (is_same a n.owner) (deposits side m party.account n token) 0 =
      ap (λ first. cond first (deposit_in token s.reply s.transfers) 0) named_first ∙ ap (λ amount. cond (is_same a n.owner) amount 0) (deposit-is token side m party n) in
      let found : trader_at n.owner m.traders ≡ Some (Open party.account) = ap (λ address. trader_at address m.traders) owner ∙ is.found in
      omega (arith, deposited, for_account-none a named, order-held side m party.account n token a found (sound.form.room side) sound.form.sequence);
  taking = omega (arith, fees-shared side m.listing.sizes n (orders (opposite side) m));
}

-- the eager market pays the taker too
paid-taker : (side : Side) (n : NewOrder) (m : Market) (account : Account) (ledger : Ledger)
    → let met = (order_on side m account n).met in
    with_change n.owner (net (brings side m account n) (takes side m account n)) (with_fills (maker_fills (map event_without_slot met.events)) (eager_at m ledger).worths)
    ≡ worths_by (λ a. plus (worth_of a m ledger) (net (λ token. gains_of side m account n token a) (λ token. pays_of side m account n token a))) (addresses m.traders)
paid-taker side n m account ledger =
    let events : List QueuedEvent = (order_on side m account n).met.events in
    let change : Worth = net (brings side m account n) (takes side m account n) in
    ap (with_change n.owner change) (paid-makers m ledger events)
    ∙ with_change-by n.owner change (worth_after_fills events m ledger) (addresses m.traders)
    ∙ worths-agree (λ a. changed n.owner change a (worth_after_fills events m ledger a))
    (λ a. plus (worth_of a m ledger) (net (λ token. gains_of side m account n token a) (λ token. pays_of side m account n token a))) (addresses m.traders)
    (λ a. both (is_same a n.owner) (worth_of a m ledger) (λ token. own_gained token a events) (λ token. own_leaving token a events) (brings side m account n) (takes side m account n))
  where
    both : (own : Bool) (worth : Worth) (gains pays more other : Token → ℕ)
        → cond own (plus (plus worth (net gains pays)) (net more other)) (plus worth (net gains pays))
        ≡ plus worth (net (λ token. gains token + cond own (more token) 0) (λ token. pays token + cond own (other token) 0))
    both true worth gains pays more other = plus-again worth gains pays more other
    both false worth gains pays more other =
        ap (plus worth) (net-agree gains pays (λ token. gains token + 0) (λ token. pays token + 0) (λ token. omega arith) (λ token. omega arith))

-- what is known of an order that is not refused
record IsAllowed (side : Side) (m : Market) (account : Account) (n : NewOrder) : Type 0 where
  small : ask_too_large side m.listing.sizes n.lots ≡ None
  sequence : eqb m.next_sequence (2 ^ 64 - 1) ≡ false
  stays : is_some (order_on side m account n).met.aborts ≡ false

allowed : (side : Side) (n : NewOrder) (request : Request) (seen : Seen) (m : Market) (party : Party)
    → why_order_of side n request seen m party ≡ None → IsAllowed side m party.account n
allowed side n request seen m party none =
    let account : Account = party.account in
    let o : Ordering = order_on side m account n in
    let after : Market = after_order side account n o m in
    let parts = (order-none side n request seen m party none).rest in
    record { small = parts.standing.1.0; sequence = refused_where-none _ _ parts.standing.1.1.0; stays = none-aborts o.met.aborts parts.ordering.0 }
  where
    none-aborts : (aborts : Option ℕ) → would_self_trade aborts ≡ None → is_some aborts ≡ false
    none-aborts None none = refl
    none-aborts (Some id) none = absurd cc

three-false : (first second third : Bool) → first ≡ false → second ≡ false → third ≡ false → (first || second || third) ≡ false
three-false first second third one two three = rw (one, two, three) refl

-- on its own side the eager market has the same orders, but for slots
posting-slots : (side : Side) (n : NewOrder) (m : Market) (account : Account) (ledger : Ledger)
    → (order_posting side n (meeting_without_slots (order_on side m account n).met) (eager_at m ledger)).side ≡ without_slots (order_on side m account n).posting.side
posting-slots side n m account ledger =
    let o : Ordering = order_on side m account n in
    let own : ℕ → List Order → List Order = λ lots orders. (post side (capacity side m) (resting side m.next_sequence 0 n lots) orders).side in
    ap (λ lots. own lots (orders_on side (eager_at m ledger))) (rested-slots side m.listing.sizes n o.met)
    ∙ ap (own o.order.lots) (orders_on-slots side m ledger)
    ∙ post-slots side (capacity side m) o.order (orders side m)

both-sides : (side : Side) (posted left : List Order) → without_slots (by_side side posted left) ≡ by_side side (without_slots posted) (without_slots left)
both-sides Bid posted left = refl
both-sides Ask posted left = refl

-- what a taker gets and pays does not look at slots
gets-slots : (side : Side) (sizes : Lots) (met : Meeting) (fee : ℕ) (token : Token) → taker_gets side sizes met fee token ≡ taker_gets side sizes (meeting_without_slots met) fee token
gets-slots Bid sizes met fee Coin = refl
gets-slots Bid sizes met fee Pc = refl
gets-slots Ask sizes met fee Coin = refl
gets-slots Ask sizes met fee Pc = refl

pays-slots : (side : Side) (sizes : Lots) (met : Meeting) (fee : ℕ) (token : Token) → taker_pays side sizes met fee token ≡ taker_pays side sizes (meeting_without_slots met) fee token
pays-slots Bid sizes met fee Coin = refl
pays-slots Bid sizes met fee Pc = refl
pays-slots Ask sizes met fee Coin = refl
pays-slots Ask sizes met fee Pc = refl

-- a new order does what it does on the eager market
pub ordered-paid : (side : Side) (order : Address → NewOrder) (request : Request) (seen : Seen) (m : Market) (ledger : Ledger) (named : List Address) (party : Party)
    → IsSound m → IsParty named m.traders party → (order party.address).owner ≡ party.address → why_order_of side (order party.address) request seen m party ≡ None
    → let s = ordered side (order party.address) m party (order_on side m party.account (order party.address)) in
    KeepsMarket m s → IsPaidAs m ledger named s (eager_order side order (eager_at m ledger) party.address)
ordered-paid side order request seen m ledger named party sound is owner none keeps =
    let n : NewOrder = order party.address in
    let e : Eager = eager_at m ledger in
    let o : Ordering = order_on side m party.account n in
    let met : Meeting = meeting_without_slots o.met in
    let s : Step = ordered side n m party o in
    let may : IsAllowed side m party.account n = allowed side n request seen m party none in
    let gains : Token → Address → ℕ = gains_of side m party.account n in
    let pays : Token → Address → ℕ = pays_of side m party.account n in
    let taken : ℕ = fee_of n o.met - o.met.rebates in
    let moves : Moves m named s gains pays taken = order-moves side n m named party sound is owner keeps in
    let paid : eager_order side order e party.address ≡ record { market = after_new_order side n met e; fills = maker_fills met.events } =
    ap (λ opposing. order_by side n (meet side (terms_of e.sizes n) (demand_of side e.sizes n) opposing) e) (orders_on-slots (opposite side) m ledger)
    ∙ ap (λ x. order_by side n x e) (meet-slots side (terms_of m.listing.sizes n) (demand_of side m.listing.sizes n) (orders (opposite side) m))
    ∙ cond-false _ _ _ (three-false _ _ _
    (not-large side n.lots (terms_of m.listing.sizes n) (demand_of side m.listing.sizes n) m refl sound may.small) may.sequence may.stays) in
    let made : IsPaidAs m ledger named s (record { market = after_new_order side n met e; fills = maker_fills met.events }) = record {
      market = eager-same (eager_at s.market (with_step named s ledger)) (after_new_order side n met e) refl refl refl
          (both-sides side o.posting.side o.met.left ∙ ap (λ posted. by_side side posted (without_slots o.met.left)) (sym (posting-slots side n m party.account ledger)))
          (both-sides side o.met.left o.posting.side ∙ ap (by_side side (without_slots o.met.left)) (sym (posting-slots side n m party.account ledger)))
          refl
          (worths-moved m ledger named s gains pays taken moves ∙ sym (paid-taker side n m party.account ledger)
          ∙ ap (λ change. with_change n.owner change (with_fills (maker_fills met.events) e.worths))
          (net-agree (brings side m party.account n) (takes side m party.account n) (taker_gets side m.listing.sizes met (fee_of n met)) (taker_pays side m.listing.sizes met (fee_of n met))
          (gets-slots side m.listing.sizes o.met (fee_of n o.met)) (pays-slots side m.listing.sizes o.met (fee_of n o.met))))
          (takings-moved m ledger named s gains pays taken moves);
      fills = ap maker_fills (appended-is m.events o.events) ∙ order-fills side m party.account n ∙ sym (maker_fills-slots o.met.events);
    } in
    subst (IsPaidAs m ledger named s) (sym paid) made
