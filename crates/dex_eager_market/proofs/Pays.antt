-- What makers are paid is what a market that pays at once pays them.
use Rattle.std.proofs.Common.{ℕ, ◌≡◌, eqb, Bool, true, false, List, [], ◌∷◌, ◌++◌, refl, ap, ◌∙◌, if◌then◌else◌}
use Rattle.dex_types.specs.declared.orders.Order.{Order}
use Rattle.dex_types.specs.declared.terms.Side.{Side}
use Rattle.dex_types.specs.declared.terms.Side.TheVariants.{Bid, Ask}
use Rattle.dex_types.specs.Meeting.{TakerTerms, Meeting, is_own, maker_fill, met_events, met_first, plain_out}
use Rattle.dex_types.specs.QueuedEvent.{QueuedEvent}
use Rattle.dex_fills.specs.declared.wants.MeetingTerms.{MeetingTerms}
use Rattle.dex_fills.specs.Taker.{fill_met, taking}
use Rattle.dex_eager.specs.Eager.{Worths, with_change, with_fills}
use Rattle.dex_eager.specs.Slots.{maker_fills}
use Rattle.dex_eager.proofs.FillSums.{maker_fills-append}
use Rattle.dex_eager_market.specs.Accounts.{worth_of}
use Rattle.dex_eager_market.specs.Trading.{maker_change}

-- an own order that is met pays nothing
pub pays-own : (side : Side) (t : TakerTerms) (order : Order) (lots : ℕ) (worths : Worths) → is_own t.owner order ≡ true
    → with_fills (maker_fills (met_events side t order lots)) worths ≡ worths
pays-own side t order lots worths own = rw own refl

-- the maker of another's order is paid its fill
fill-alone : (maker : Side) (taker : MeetingTerms) (order : Order) (lots : ℕ) (worths : Worths) (gone : Bool)
    → with_fills (maker_fills (maker_fill maker (taking taker) order lots ∷ (if gone then plain_out maker order ∷ [] else []))) worths
    ≡ with_fills (maker_fills (maker_fill maker (taking taker) order lots ∷ [])) worths
fill-alone maker taker order lots worths true = refl
fill-alone maker taker order lots worths false = refl

pub pays-other : (side : Side) (taker : MeetingTerms) (order : Order) (lots : ℕ) (worths : Worths) → is_own taker.owner order ≡ false
    → with_fills (maker_fills (met_events side (taking taker) order lots)) worths ≡ with_change order.owner (worth_of (maker_change side (fill_met taker order lots))) worths
pays-other Bid taker order lots worths other = rw other (fill-alone Ask taker order lots worths (eqb lots order.lots))
pays-other Ask taker order lots worths other = rw other (fill-alone Bid taker order lots worths (eqb lots order.lots))

-- fills one after the other
pub fills-append : (fills later : List QueuedEvent) (worths : Worths) → with_fills (fills ++ later) worths ≡ with_fills later (with_fills fills worths)
fills-append [] later worths = refl
fills-append (fill ∷ fills) later worths = fills-append fills later _

-- the first order that is met is paid before the others
pub pays-first : (side : Side) (t : TakerTerms) (order : Order) (lots : ℕ) (met rest : Meeting) (worths : Worths) → met ≡ met_first side t order lots rest
    → with_fills (maker_fills met.events) worths ≡ with_fills (maker_fills rest.events) (with_fills (maker_fills (met_events side t order lots)) worths)
pays-first side t order lots met rest worths first =
    ap (λ (m : Meeting). with_fills (maker_fills m.events) worths) first
    ∙ ap (λ (fills : List QueuedEvent). with_fills fills worths) (maker_fills-append (met_events side t order lots) rest.events)
    ∙ fills-append (maker_fills (met_events side t order lots)) (maker_fills rest.events) worths
