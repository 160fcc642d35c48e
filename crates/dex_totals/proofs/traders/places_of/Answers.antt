use Rattle.std.proofs.Common.{◌≡◌, ℕ, drop, subst, arith}
use Rattle.std.specs.HashMap as hash
use Rattle.dex_types.specs.Addresses.{is_same}
use Rattle.dex_totals.specs.Reading.{LeadToTraders, traders}
use Rattle.dex_totals.proofs.OwnerLaws.{leads-more}
use Rattle.dex_totals.proofs.traders.places_of.Goals as goal

pub loop-place-preserved : goal.loop-place-preserved
loop-place-preserved c =
    leads-more (hash.get is_same c.loop-place.places) (hash.get is_same c.insert.new.self) c.args.accounts.now c.loop-place.place c.index-accounts-place.result
    (omega arith) (omega arith) c.loop-place.invariant (λ other. c.in_ok-insert.ensures.updates.0 other)

pub returns : goal.returns
returns c =
    let none : c.loop-place.place ≡ 0 = omega arith in
    subst (λ (n : ℕ). LeadToTraders (hash.get is_same c.loop-place.places) c.args.accounts.now (traders (drop n c.args.accounts.now))) none c.loop-place.invariant
