-- An order that a walk along the sides finds.
use Rattle.std.specs.Prelude.{Option, Some, None}
use Rattle.dex_types.specs.Cancel.{RestingOrder, older}
use Rattle.dex_cancel.specs.declared.found.Found.{Found}

-- the order found, as one that rests
abbrev pub resting : Found → RestingOrder
resting found = record { side = found.side; order = found.order }

-- the order found, if one was
abbrev pub maybe_resting : Option Found → Option RestingOrder
maybe_resting None = None
maybe_resting (Some found) = Some (resting found)

-- the older of two orders that may be there
abbrev pub older_of : Option RestingOrder → Option RestingOrder → Option RestingOrder
older_of None other = other
older_of (Some first) other = Some (older first other)
