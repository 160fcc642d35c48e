use Rattle.dex_laws.proofs.EventLaws.{length-meet_events, length-meet_matches}
use Rattle.dex_laws.proofs.meeting.an_order_gives_at_most_two_events.Goals as goal

pub returns-clause-of_orders : goal.returns-clause-of_orders
returns-clause-of_orders c = length-meet_events

pub returns-clause-of_matches : goal.returns-clause-of_matches
returns-clause-of_matches c = length-meet_matches
