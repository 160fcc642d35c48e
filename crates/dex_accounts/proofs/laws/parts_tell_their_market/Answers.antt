use Rattle.dex_accounts.proofs.PartLaws.{event_room-parts, ring_in-parts, side_orders-parts, side_room-parts, sizes_in-parts}
use Rattle.dex_accounts.proofs.laws.parts_tell_their_market.Goals as goal

pub returns-clause-sizes : goal.returns-clause-sizes
returns-clause-sizes c = sizes_in-parts

pub returns-clause-events : goal.returns-clause-events
returns-clause-events c = ring_in-parts

pub returns-clause-event_room : goal.returns-clause-event_room
returns-clause-event_room c = event_room-parts

pub returns-clause-orders : goal.returns-clause-orders
returns-clause-orders c = side_orders-parts

pub returns-clause-room : goal.returns-clause-room
returns-clause-room c = side_room-parts
