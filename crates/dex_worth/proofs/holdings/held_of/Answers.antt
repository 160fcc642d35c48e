use Rattle.std.proofs.Common.{◌≡◌, ◌++◌, ◌∙◌, arith, drop, length, take, subst, sym, ap}
use Rattle.std.proofs.lemmas.List.{length-map}
use Rattle.std.proofs.lemmas.Grind.{common_steps, elements, moves, pieces}
use Rattle.dex_types.specs.declared.addresses.Address.{Address}
use Rattle.dex_types.specs.Accounts.{market_accounts_of}
use Rattle.dex_accounts.specs.Decoded.{market_in}
use Rattle.dex_audit_rules.specs.Books.{PlainGathered, gathered_in, plain_gathered}
use Rattle.dex_audit_rules.proofs.BookLaws.{orders-accepted}
use Rattle.dex_totals.specs.Reading.{AreOrders, traders}
use Rattle.dex_worth.specs.Amounts.{capped_amounts}
use Rattle.dex_worth.specs.Holdings.{free_at, held_amounts, with_gathered}
use Rattle.dex_worth.proofs.Holding.{held-are}
use Rattle.dex_worth.proofs.Sums.{sums-agree}
use Rattle.dex_worth.proofs.holdings.held_of.Goals as goal

pub all_free-requires : goal.all_free-requires
all_free-requires c = subst AreOrders (sym c.deref.ensures.value) (orders-accepted c.args.market.now.orders.items c.requires.orders)

pub add_gathered-requires : goal.add_gathered-requires
add_gathered-requires c =
    ap length (c.deref_mut.ensures.value ∙ c.in_ok-held.ensures) ∙ length-map c.args.owners.now (λ (owner : Address). capped_amounts (free_at (traders c.deref.result.now) owner))

pub returns : goal.returns
unfolding market_in
returns c =
    let m = market_in (market_accounts_of c.args.market.now) in
    let g : PlainGathered = plain_gathered c.in_ok-gathered.gathered in
    let are : g ≡ gathered_in (market_accounts_of c.args.market.now) = c.in_ok-gathered.ensures in
    let new = c.add_gathered.new.held in
    let is : take c.in_ok-held.held.len (new ++ drop (length new) c.in_ok-held.held.items) ≡ new = grind (arith, common_steps, elements, moves, pieces) in
    is
    ∙ sums-agree (with_gathered (free_at (traders c.deref.result.now)) c.sizes_of-sizes.result g) (held_amounts m) c.args.owners.now new
    (held-are m (traders c.deref.result.now) c.sizes_of-sizes.result g (ap traders c.deref.ensures.value) c.sizes_of-sizes.ensures
    (ap (λ (all : PlainGathered). all.bids) are) (ap (λ (all : PlainGathered). all.asks) are) (ap (λ (all : PlainGathered). all.events) are))
    (c.add_gathered.ensures (free_at (traders c.deref.result.now)) (c.deref_mut.ensures.value ∙ c.in_ok-held.ensures))
