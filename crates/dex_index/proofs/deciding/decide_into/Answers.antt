use Rattle.std.proofs.Common.{sym, ap, ◌∙◌, subst}
use Rattle.dex_types.specs.Accounts.{PlainMarketAccounts, market_accounts_of}
use Rattle.dex_types.specs.Requests.{Request}
use Rattle.dex_types.specs.Rows.{row_of}
use Rattle.dex_accounts.specs.Decoded.{AreSound, market_in}
use Rattle.dex_history.specs.Journal.{request_of}
use Rattle.dex_plan.specs.Plans.{decided}
use Rattle.dex_ring.specs.PendingFills.{pending_fills_of}
use Rattle.dex_index.specs.Reached.{market_reached}
use Rattle.dex_index.proofs.AllLaws.{all-reached}
use Rattle.dex_index.proofs.deciding.decide_into.Goals as goal

pub decide_ask-requires-clause-sound : goal.decide_ask-requires-clause-sound
decide_ask-requires-clause-sound c =
    subst AreSound (sym (all-reached c.args.index.now (market_accounts_of c.args.accounts.now) c.requires.indexed)) c.requires.sound

pub decide_ask-requires-clause-pending : goal.decide_ask-requires-clause-pending
decide_ask-requires-clause-pending c =
    c.requires.pending
    ∙ ap (λ (p : PlainMarketAccounts). pending_fills_of (market_in p).events) (sym (all-reached c.args.index.now (market_accounts_of c.args.accounts.now) c.requires.indexed))

pub returns : goal.returns
returns c =
    let accounts = market_accounts_of c.args.accounts.now in
    c.decide_ask.ensures
    ∙ ap (λ (r : Request). decided r c.args.seen.now (market_in (market_reached c.args.index.now accounts))) c.ask_of.ensures
    ∙ ap (λ (p : PlainMarketAccounts). decided (request_of (row_of c.args.row.now)) c.args.seen.now (market_in p)) (all-reached c.args.index.now accounts c.requires.indexed)
