-- meeting, resting and posting do not look at slots
use Rattle.std.proofs.Common.{ℕ, ◌+◌, ◌-◌, ◌*◌, ◌≡◌, Bool, true, false, ◌&&◌, cond, eqb, List, [], ◌∷◌, ◌++◌, Option, Some, None, length, map, take, refl, sym, ap, ◌∙◌, arith}
use Rattle.std.proofs.lemmas.List.{map-append, length-map, take-map}
use Rattle.dex_types.specs.declared.addresses.Address.{Address}
use Rattle.dex_types.specs.declared.orders.Order.{Order}
use Rattle.dex_types.specs.declared.terms.Lots.{Lots}
use Rattle.dex_types.specs.declared.terms.SelfTrade.{SelfTrade}
use Rattle.dex_types.specs.declared.terms.SelfTrade.TheVariants.{Decrement, CancelProvide, Abort}
use Rattle.dex_types.specs.declared.terms.Side.{Side}
use Rattle.dex_types.specs.declared.terms.Side.TheVariants.{Bid, Ask}
use Rattle.dex_types.specs.Meeting.{TakerTerms, Demand, Meeting, is_own, is_abort, reaches, own_taken, filled, taken, demand_after, demand_after_own, less, met_events, aborts_at, met_none, met_first, maker_fill, plain_out, releasing_out, fill_pc, fill_rebate, meet}
use Rattle.dex_types.specs.NewOrder.{NewOrder, full_lock, spent, rested}
use Rattle.dex_types.specs.Posting.{Posting, posted, post, still_crosses, affordable, can_rest}
use Rattle.dex_types.specs.QueuedEvent.{QueuedEvent}
use Rattle.dex_types.specs.Side.{price_of, opposite}
use Rattle.dex_laws.proofs.MeetLaws.{TakesNone, meet-ended, meet-part, meet-whole, meet-induction}
use Rattle.dex_laws.proofs.PostLaws.{posted-behind, posted-here, posted-induction, post-none, post-room, post-full, post-induction}
use Rattle.dex_eager.specs.Slots.{without_slot, without_slots}

-- an event with slot 0
abbrev pub event_without_slot : QueuedEvent → QueuedEvent
event_without_slot event = record event { slot = 0 }

-- a meeting with slot 0 in all that it leaves and tells
abbrev pub meeting_without_slots : Meeting → Meeting
meeting_without_slots met = record met { left = without_slots met.left; events = map event_without_slot met.events }

-- what a function gives of either of two things
pub cond-ap : {A B : Type 0} (f : A → B) (test : Bool) (x y : A) → cond test (f x) (f y) ≡ f (cond test x y)
cond-ap f true x y = refl
cond-ap f false x y = refl

own-slot : (owner : Option Address) (order : Order) → is_own owner (without_slot order) ≡ is_own owner order
own-slot None order = refl
own-slot (Some owner) order = refl

own_taken-slot : (rule : SelfTrade) (w : Demand) (order : Order) → own_taken rule w (without_slot order) ≡ own_taken rule w order
own_taken-slot Decrement w order = refl
own_taken-slot CancelProvide w order = refl
own_taken-slot Abort w order = refl

filled-slot : (side : Side) (w : Demand) (order : Order) → filled side w (without_slot order) ≡ filled side w order
filled-slot Bid w order = refl
filled-slot Ask w order = refl

taken-slot : (side : Side) (t : TakerTerms) (w : Demand) (order : Order) → taken side t w (without_slot order) ≡ taken side t w order
unfolding taken
taken-slot side t w order =
    ap (λ own. cond (reaches side t w order) (cond own (own_taken t.self_trade w (without_slot order)) (filled side w (without_slot order))) 0) (own-slot t.owner order)
    ∙ ap (λ lots. cond (reaches side t w order) (cond (is_own t.owner order) lots (filled side w (without_slot order))) 0) (own_taken-slot t.self_trade w order)
    ∙ ap (λ lots. cond (reaches side t w order) (cond (is_own t.owner order) (own_taken t.self_trade w order) lots) 0) (filled-slot side w order)

demand_after-slot : (side : Side) (t : TakerTerms) (w : Demand) (order : Order) (lots : ℕ) → demand_after side t w (without_slot order) lots ≡ demand_after side t w order lots
unfolding demand_after
demand_after-slot Bid t w order lots =
    let more : Demand = record { lots = w.lots - lots; budget = w.budget - lots * price_of order.id; matches = w.matches - 1 } in
    ap (λ own. cond own (demand_after_own t.self_trade w lots) more) (own-slot t.owner order)
demand_after-slot Ask t w order lots =
    let more : Demand = record { lots = w.lots - lots; budget = w.budget; matches = w.matches - 1 } in
    ap (λ own. cond own (demand_after_own t.self_trade w lots) more) (own-slot t.owner order)

maker_fill-slot : (side : Side) (t : TakerTerms) (order : Order) (lots : ℕ) → maker_fill side t (without_slot order) lots ≡ event_without_slot (maker_fill side t order lots)
maker_fill-slot Bid t order lots = refl
maker_fill-slot Ask t order lots = refl

met_events-slot : (side : Side) (t : TakerTerms) (order : Order) (lots : ℕ)
    → met_events side t (without_slot order) lots ≡ map event_without_slot (met_events side t order lots)
met_events-slot side t order lots =
    let events : Bool → QueuedEvent → List QueuedEvent = λ own fill.
    cond own (releasing_out (opposite side) t.sizes (without_slot order) lots ∷ [])
    (fill ∷ cond (eqb lots order.lots) (plain_out (opposite side) (without_slot order) ∷ []) []) in
    ap (λ own. events own (maker_fill (opposite side) t (without_slot order) lots)) (own-slot t.owner order)
    ∙ ap (events (is_own t.owner order)) (maker_fill-slot (opposite side) t order lots)
    ∙ ap (λ outs. cond (is_own t.owner order) (event_without_slot (releasing_out (opposite side) t.sizes order lots) ∷ []) (event_without_slot (maker_fill (opposite side) t order lots) ∷ outs))
    (cond-ap (map event_without_slot) (eqb lots order.lots) (plain_out (opposite side) order ∷ []) [])
    ∙ cond-ap (map event_without_slot) (is_own t.owner order) _ _

met_first-slot : (side : Side) (t : TakerTerms) (order : Order) (lots : ℕ) (rest : Meeting)
    → met_first side t (without_slot order) lots (meeting_without_slots rest) ≡ meeting_without_slots (met_first side t order lots rest)
met_first-slot side t order lots rest =
    let made : List QueuedEvent → Bool → Meeting = λ events own. record {
      left = without_slots rest.left;
      events = events;
      demand = rest.demand;
      lots = cond own 0 lots + rest.lots;
      pc = cond own 0 (fill_pc t.sizes order lots) + rest.pc;
      rebates = cond own 0 (fill_rebate t order lots) + rest.rebates;
      aborts = rest.aborts;
    } in
    ap (λ own. made (met_events side t (without_slot order) lots ++ map event_without_slot rest.events) own) (own-slot t.owner order)
    ∙ ap (λ events. made (events ++ map event_without_slot rest.events) (is_own t.owner order)) (met_events-slot side t order lots)
    ∙ ap (λ events. made events (is_own t.owner order)) (sym (map-append event_without_slot (met_events side t order lots) rest.events))

aborts_at-slot : (side : Side) (t : TakerTerms) (w : Demand) (orders : List Order) → aborts_at side t w (without_slots orders) ≡ aborts_at side t w orders
aborts_at-slot side t w [] = refl
aborts_at-slot side t w (order ∷ orders) =
    ap (λ own. cond (reaches side t w order && own && is_abort t.self_trade) (Some order.id) None) (own-slot t.owner order)

met_none-slot : (side : Side) (t : TakerTerms) (w : Demand) (orders : List Order)
    → met_none side t w (without_slots orders) ≡ meeting_without_slots (met_none side t w orders)
met_none-slot side t w orders =
    let made : Option ℕ → Meeting = λ aborts. record { left = without_slots orders; events = []; demand = w; lots = 0; pc = 0; rebates = 0; aborts = aborts } in
    ap made (aborts_at-slot side t w orders)

TakesNone-slot : (side : Side) (t : TakerTerms) (w : Demand) (orders : List Order) → TakesNone side t w orders → TakesNone side t w (without_slots orders)
TakesNone-slot side t w [] none = tt
TakesNone-slot side t w (order ∷ orders) none = taken-slot side t w order ∙ none

-- a meeting is the same, but for slots
pub meet-slots : (side : Side) (t : TakerTerms) (w : Demand) (orders : List Order)
    → meet side t w (without_slots orders) ≡ meeting_without_slots (meet side t w orders)
meet-slots side t =
    meet-induction side t (λ w orders met. meet side t w (without_slots orders) ≡ meeting_without_slots met) (record {
      ended = λ w orders none. meet-ended side t w (without_slots orders) (TakesNone-slot side t w orders none) ∙ met_none-slot side t w orders;
      part = λ w order others lots takes part.
          let is : taken side t w (without_slot order) ≡ lots = taken-slot side t w order ∙ takes.taken_is in
          meet-part side t w (without_slot order) (without_slots others) (omega (arith, is, takes.some)) (omega (arith, is, part))
          ∙ ap (λ l. met_first side t (without_slot order) l (met_none side t (demand_after side t w (without_slot order) l) (less (without_slot order) l ∷ without_slots others))) is
          ∙ ap (λ d. met_first side t (without_slot order) lots (met_none side t d (less (without_slot order) lots ∷ without_slots others))) (demand_after-slot side t w order lots)
          ∙ ap (met_first side t (without_slot order) lots) (met_none-slot side t (demand_after side t w order lots) (less order lots ∷ others))
          ∙ met_first-slot side t order lots (met_none side t (demand_after side t w order lots) (less order lots ∷ others));
      whole = λ w order others lots rest takes whole held.
          let is : taken side t w (without_slot order) ≡ lots = taken-slot side t w order ∙ takes.taken_is in
          meet-whole side t w (without_slot order) (without_slots others) (omega (arith, is, takes.some)) (omega (arith, is, whole))
          ∙ ap (λ l. met_first side t (without_slot order) l (meet side t (demand_after side t w (without_slot order) l) (without_slots others))) is
          ∙ ap (λ d. met_first side t (without_slot order) lots (meet side t d (without_slots others))) (demand_after-slot side t w order lots)
          ∙ ap (met_first side t (without_slot order) lots) held
          ∙ met_first-slot side t order lots rest;
    })

still_crosses-slot : (side : Side) (limit : ℕ) (orders : List Order) → still_crosses side limit (without_slots orders) ≡ still_crosses side limit orders
still_crosses-slot side limit [] = refl
still_crosses-slot side limit (order ∷ orders) = refl

spent-slot : (side : Side) (sizes : Lots) (n : NewOrder) (met : Meeting) → spent side sizes n (meeting_without_slots met) ≡ spent side sizes n met
spent-slot Bid sizes n met = refl
spent-slot Ask sizes n met = refl

-- so the same lots rest
pub rested-slots : (side : Side) (sizes : Lots) (n : NewOrder) (met : Meeting) → rested side sizes n (meeting_without_slots met) ≡ rested side sizes n met
rested-slots side sizes n met =
    let rests : Bool → ℕ → ℕ = λ crosses paid.
    cond (can_rest n.order_type) (cond crosses 0 (affordable side sizes n.price met.demand.lots (full_lock side sizes n - paid))) 0 in
    ap (λ crosses. rests crosses (spent side sizes n (meeting_without_slots met))) (still_crosses-slot side n.price met.left)
    ∙ ap (rests (still_crosses side n.price met.left)) (spent-slot side sizes n met)

posted-slots : (side : Side) (order : Order) (orders : List Order) → posted side (without_slot order) (without_slots orders) ≡ without_slots (posted side order orders)
posted-slots side order =
    posted-induction side order (λ orders after. posted side (without_slot order) (without_slots orders) ≡ without_slots after) refl
    (λ first others behind. posted-here side (without_slot order) (without_slot first) (without_slots others) behind)
    (λ first others rest before held.
    posted-behind side (without_slot order) (without_slot first) (without_slots others) before ∙ ap (λ after. without_slot first ∷ after) held)

-- and they rest at the same place
pub post-slots : (side : Side) (room : ℕ) (order : Order) (orders : List Order)
    → (post side room (without_slot order) (without_slots orders)).side ≡ without_slots (post side room order orders).side
post-slots side room order orders =
    let side_of : Posting → List Order = λ posting. posting.side in
    post-induction side room order orders (λ posting. (post side room (without_slot order) (without_slots orders)).side ≡ without_slots posting.side)
    (λ none. ap side_of (post-none side room (without_slot order) (without_slots orders) none))
    (λ some space.
    ap side_of (post-room side room (without_slot order) (without_slots orders) some (omega (arith, length-map orders without_slot, space)))
    ∙ posted-slots side order orders)
    (λ some full.
    ap side_of (post-full side room (without_slot order) (without_slots orders) some (omega (arith, length-map orders without_slot, full)))
    ∙ ap (λ count. posted side (without_slot order) (take (count - 1) (without_slots orders))) (length-map orders without_slot)
    ∙ ap (posted side (without_slot order)) (take-map without_slot (length orders - 1) orders)
    ∙ posted-slots side order (take (length orders - 1) orders))
