use Rattle.std.proofs.Common.{⊎_elim}
use Rattle.dex_decide.specs.Named.{account_by}
use Rattle.dex_decide.proofs.NamedLaws.{accepted-named, acts-open, no-account, not-open}
use Rattle.dex_decide.proofs.named.open_named.Goals as goal

pub state_of-requires : goal.state_of-requires
state_of-requires g c =
    accepted-named c.args.named.now (g.M.ReadMarket.held c.args.accounts.now).orders (account_by c.in-Some.acting.address c.in-Some.acting.bytes.now)
    c.requires c.in-Some.ensures

pub returns-in-None : goal.returns-in-None
returns-in-None g c = no-account c.args.named.now (g.M.ReadMarket.held c.args.accounts.now).orders c.in-None.ensures

pub returns-in-Open : goal.returns-in-Open
returns-in-Open g c =
    acts-open c.args.named.now (g.M.ReadMarket.held c.args.accounts.now).orders c.in-Some.acting.address c.in-Some.acting.bytes.now c.in-Some.ensures (c.state_of.ensures.open.0 c.in-Open.is)

pub returns-in-Blank : goal.returns-in-Blank
returns-in-Blank g c =
    not-open c.args.named.now (g.M.ReadMarket.held c.args.accounts.now).orders c.in-Some.acting.address c.in-Some.acting.bytes.now c.in-Some.ensures
    (λ is_open. ⊎_elim
    (λ blank. absurd (let e = c.state_of.ensures.open.1 is_open in cc))
    (λ closed. absurd (let e = c.state_of.ensures.open.1 is_open in cc))
    c.in-Blank.is)
    (accepted-named c.args.named.now (g.M.ReadMarket.held c.args.accounts.now).orders (account_by c.in-Some.acting.address c.in-Some.acting.bytes.now)
    c.requires c.in-Some.ensures)
