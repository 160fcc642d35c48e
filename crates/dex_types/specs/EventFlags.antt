-- Which bytes of flags are an event's.
use Rattle.std.specs.Prelude.{ℕ, Bool, ◌||◌, ◌==◌}
use Rattle.dex_types.specs.declared.terms.Side.TheVariants.{Bid, Ask}
use Rattle.dex_types.specs.QueuedEvent.{MakerFill, TakerFill, PlainOut, ReleasingOut, flags_of}

-- the flags are those of a fill
abbrev pub is_fill : ℕ → Bool
is_fill flags =
    (flags == flags_of (MakerFill Ask)) || (flags == flags_of (MakerFill Bid)) || (flags == flags_of (TakerFill Ask)) || (flags == flags_of (TakerFill Bid))

-- the flags are those of an order that is gone or smaller
abbrev pub is_out : ℕ → Bool
is_out flags =
    (flags == flags_of (PlainOut Ask)) || (flags == flags_of (PlainOut Bid)) || (flags == flags_of (ReleasingOut Ask)) || (flags == flags_of (ReleasingOut Bid))

-- the flags are those of a kind of events
abbrev pub is_kind : ℕ → Bool
is_kind flags = is_fill flags || is_out flags
