use Rattle.dex_settle.proofs.ModelLaws.{close-put, open-put}
use Rattle.dex_settle.proofs.laws.what_is_opened_or_closed_leaves_the_market_after_it.Goals as goal

pub returns-clause-opened : goal.returns-clause-opened
returns-clause-opened c parts m owner signer old bytes are found is_open on is = open-put parts m are owner signer old bytes found is_open on is

pub returns-clause-closed : goal.returns-clause-closed
returns-clause-closed c parts m owner old bytes are found closed = close-put parts m are owner old bytes found closed
