use Rattle.std.proofs.Common.{map, arith}
use Rattle.std.proofs.lemmas.List.{length-map}
use Rattle.dex_types.specs.Accounts.{market_accounts_of}
use Rattle.dex_accounts.specs.Accepted.{IsAccepted}
use Rattle.dex_audit.proofs.SupplyLaws.{all-map, gathered-more, here-map}
use Rattle.dex_audit.proofs.auditing.gather_all.Goals as goal

pub gather-requires : goal.gather-requires
gather-requires c =
    all-map market_accounts_of IsAccepted c.args.markets.now c.loop-at.at c.index-markets-at.result c.requires (omega arith) c.index-markets-at.is

pub loop-at-preserved : goal.loop-at-preserved
loop-at-preserved c =
    gathered-more c.loop-at.all.items c.add.new.items.items (map market_accounts_of c.args.markets.now) c.loop-at.at
    (market_accounts_of c.index-markets-at.result) c.in_ok-one.one (omega (arith, length-map c.args.markets.now market_accounts_of)) c.in_ok-add.ensures
    c.loop-at.invariant c.in_ok-one.ensures
    (here-map market_accounts_of c.args.markets.now c.loop-at.at c.index-markets-at.result (omega arith) c.index-markets-at.is)
