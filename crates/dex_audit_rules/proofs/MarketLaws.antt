-- findings of a market, as they are told
use Rattle.std.proofs.Common.{◌≡◌, ℕ, List, ◌++◌, ap, ◌∙◌}
use Rattle.std.specs.List.{flat_map}
use Rattle.dex_types.specs.declared.addresses.Address.{Address}
use Rattle.dex_types.specs.declared.orders.Order.{Order}
use Rattle.dex_types.specs.declared.terms.Lots.{Lots}
use Rattle.dex_types.specs.declared.terms.Side.TheVariants.{Bid, Ask}
use Rattle.dex_types.specs.Market.{Market}
use Rattle.dex_types.specs.QueuedEvent.{QueuedEvent}
use Rattle.dex_types.specs.Trader.{Traders}
use Rattle.dex_audit_rules.specs.declared.finding.Finding.{Finding}
use Rattle.dex_audit_rules.specs.declared.taken.Taken.{Taken}
use Rattle.dex_audit_rules.specs.Funds.{differs, exceeds, too_large, too_large_in}
use Rattle.dex_audit_rules.specs.Lists.{numbered}
use Rattle.dex_audit_rules.specs.Slots.{astray, astray_in, homeless, homeless_in, taken_in, ungiven, ungiven_in}
use Rattle.dex_audit_rules.proofs.ListLaws.{both}

pub homeless-both : (m : Market) (traders : Traders) (bids_at asks_at : Address) (bids asks : List Order) (before now after : List Finding)
    → traders ≡ m.traders → bids_at ≡ m.listing.bids → asks_at ≡ m.listing.asks → bids ≡ m.bids → asks ≡ m.asks
    → now ≡ before ++ numbered (homeless traders bids_at) 0 bids → after ≡ now ++ numbered (homeless traders asks_at) 0 asks → after ≡ before ++ homeless_in m
homeless-both m traders bids_at asks_at bids asks before now after t b a bs ks one two =
    both before (numbered (homeless m.traders m.listing.bids) 0 m.bids) (numbered (homeless m.traders m.listing.asks) 0 m.asks) now after
    (rw (t, b, bs) at one)
    (rw (t, a, ks) at two)

pub too_large-both : (m : Market) (sizes : Lots) (bids_at asks_at : Address) (bids asks : List Order) (before now after : List Finding)
    → sizes ≡ m.listing.sizes → bids_at ≡ m.listing.bids → asks_at ≡ m.listing.asks → bids ≡ m.bids → asks ≡ m.asks
    → now ≡ before ++ numbered (too_large Bid sizes bids_at) 0 bids → after ≡ now ++ numbered (too_large Ask sizes asks_at) 0 asks → after ≡ before ++ too_large_in m
too_large-both m sizes bids_at asks_at bids asks before now after s b a bs ks one two =
    both before (numbered (too_large Bid m.listing.sizes m.listing.bids) 0 m.bids) (numbered (too_large Ask m.listing.sizes m.listing.asks) 0 m.asks) now after
    (rw (s, b, bs) at one)
    (rw (s, a, ks) at two)

pub differs-one : (kind place sum : ℕ) (told account : Address) (read amount : ℕ) (before after : List Finding) → told ≡ account → read ≡ amount
    → after ≡ before ++ differs kind told place read sum → after ≡ before ++ differs kind account place amount sum
differs-one kind place sum told account read amount before after t r one =
    one ∙ ap (λ (a : Address). before ++ differs kind a place read sum) t ∙ ap (λ (n : ℕ). before ++ differs kind account place n sum) r

pub exceeds-one : (kind place amount : ℕ) (told account : Address) (before after : List Finding) → told ≡ account
    → after ≡ before ++ exceeds kind told place amount → after ≡ before ++ exceeds kind account place amount
exceeds-one kind place amount told account before after t one = one ∙ ap (λ (a : Address). before ++ exceeds kind a place amount) t

pub astray-one : (m : Market) (traders : Traders) (events : List QueuedEvent) (queue : Address) (before after : List Finding)
    → traders ≡ m.traders → events ≡ m.events → queue ≡ m.listing.event_queue
    → after ≡ before ++ numbered (astray traders events queue) 0 events → after ≡ before ++ astray_in m
astray-one m traders events queue before after t e q one = rw (t, e, q) at one

pub ungiven-one : (m : Market) (next : ℕ) (traders : Traders) (taken : List Taken) (before after : List Finding)
    → next ≡ m.next_sequence → traders ≡ m.traders → taken ≡ taken_in traders
    → after ≡ before ++ flat_map (ungiven next) taken → after ≡ before ++ ungiven_in m
ungiven-one m next traders taken before after n t is one = rw (n, is ∙ ap taken_in t) at one
