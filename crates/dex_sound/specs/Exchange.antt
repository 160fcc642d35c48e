-- What the two sides of a trade pay and get.
use Rattle.std.specs.Prelude.{ℕ, ◌+◌, ◌-◌, ◌*◌, ◌≡◌}
use Rattle.dex_types.specs.declared.terms.Lots.{Lots}
use Rattle.dex_types.specs.declared.terms.Side.{Side}
use Rattle.dex_types.specs.declared.terms.Side.TheVariants.{Bid, Ask}
use Rattle.dex_types.specs.Meeting.{Meeting}
use Rattle.dex_types.specs.Owed.{leaving}
use Rattle.dex_types.specs.QueuedEvent.{EventKind, MakerFill, QueuedEvent}
use Rattle.dex_types.specs.Side.{Token, Coin, Pc}
use Rattle.dex_types.specs.Totals.{total}

-- the native amount of a token that a maker's fill of this kind brings its owner
abbrev pub gained_as : Token → EventKind → QueuedEvent → ℕ
gained_as Coin (MakerFill Bid) event = event.released
gained_as Pc (MakerFill Ask) event = event.released
gained_as token kind event = 0

-- the native amount of a token that this event brings its owner, if it is a maker's fill
abbrev pub gained : Token → QueuedEvent → ℕ
gained token event = gained_as token event.kind event

-- the native amount of a token that the taker pays for its fills: a bid quote and the fee, an ask base
abbrev pub taker_pays : Side → Lots → Meeting → ℕ → Token → ℕ
taker_pays Bid sizes met fee Pc = met.pc + fee
taker_pays Ask sizes met fee Coin = met.lots * sizes.coin
taker_pays _ sizes met fee _ = 0

-- the native amount of a token that the taker gets for its fills: a bid base, an ask quote less the fee
abbrev pub taker_gets : Side → Lots → Meeting → ℕ → Token → ℕ
taker_gets Bid sizes met fee Coin = met.lots * sizes.coin
taker_gets Ask sizes met fee Pc = met.pc - fee
taker_gets _ sizes met fee _ = 0

-- what neither gets: of quote the fee less the makers' rebates
abbrev pub withheld : Meeting → ℕ → Token → ℕ
withheld met fee Coin = 0
withheld met fee Pc = fee - met.rebates

-- what taker and makers pay of a token is what they get and what is withheld
abbrev pub IsBalanced : Side → Lots → Meeting → ℕ → Token → Type 0
IsBalanced side sizes met fee token =
    taker_pays side sizes met fee token + total (leaving token) met.events
    ≡ taker_gets side sizes met fee token + total (gained token) met.events + withheld met fee token
