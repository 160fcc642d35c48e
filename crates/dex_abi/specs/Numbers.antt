-- The reply that numbers stand for.
use Rattle.std.specs.Prelude.{ℕ, pos, ◌+◌, ◌*◌, ◌/◌, ◌%◌, ◌^◌, ◌==◌, if◌then◌else◌, Option, Some, None, replicate}
use Rattle.std.specs.Option.{option_map, option_or}
use Rattle.dex_types.specs.declared.addresses.Address.{Address}
use Rattle.dex_types.specs.declared.instructions.BadData.{BadData}
use Rattle.dex_types.specs.declared.instructions.BadData.TheVariants.{Short, Version, UnknownTag, RetiredTag, Length, ZeroField, BadEnum}
use Rattle.dex_types.specs.declared.refusals.Refusal.{Refusal}
use Rattle.dex_types.specs.declared.refusals.Refusal.TheVariants as refusal
use Rattle.dex_types.specs.declared.replies.Reply.{Reply}
use Rattle.dex_types.specs.declared.replies.Reply.TheVariants.{Ordered, Took, Cancelled, Consumed, Settled, Swept, Done, Refused}
use Rattle.dex_types.specs.Text.{bad_data_number}
use Rattle.dex_abi.specs.declared.numbers.Wide.{Wide}
use Rattle.dex_abi.specs.declared.numbers.ReplyNumbers.{ReplyNumbers}

-- a number of 128 bits, of its lower and its upper half
abbrev pub whole : Wide → ℕ
whole wide = wide.low + 2 ^ 64 * wide.high

-- the rule of instruction data of a number, counted from 1
abbrev pub rule_in : ℕ → Option BadData
rule_in number =
    if number == 1 then Some Short else
    if number == 2 then Some Version else
    if number == 3 then Some UnknownTag else
    if number == 4 then Some RetiredTag else
    if number == 5 then Some Length else
    if number == 6 then Some ZeroField else
    if number == 7 then Some BadEnum else None

-- the refusal of a reason that has no values
abbrev pub bare_in : ℕ → Option Refusal
bare_in reason =
    if reason == 2 then Some refusal.MarketDisabled else
    if reason == 3 then Some refusal.NoAccount else
    if reason == 4 then Some refusal.AccountExists else
    if reason == 10 then Some refusal.TooManyOpenOrders else
    if reason == 11 then Some refusal.AskTooLarge else
    if reason == 12 then Some refusal.SequenceExhausted else
    if reason == 14 then Some refusal.OrderNotFound else
    if reason == 15 then Some refusal.SideMismatch else
    if reason == 17 then Some refusal.ClientIdZero else
    if reason == 18 then Some refusal.ClientIdNotFound else None

-- the refusal of a reason with an address
abbrev pub addressed_in : ℕ → Address → Option Refusal
addressed_in reason address =
    if reason == 5 then Some (refusal.NotOwner address) else
    if reason == 6 then Some (refusal.NotAuthority address) else
    if reason == 7 then Some (refusal.WrongMint address) else
    if reason == 8 then Some (refusal.WalletNotSigned address) else
    if reason == 16 then Some (refusal.OrderNotYours address) else None

-- the refusal of a reason with numbers
abbrev pub numbered_in : ReplyNumbers → Option Refusal
numbered_in n =
    if n.reason == 9 then Some (refusal.NotEmpty n.count (whole n.held)) else
    if n.reason == 13 then Some (refusal.TimePast n.clock n.latest) else
    if n.reason == 19 then Some (refusal.WouldSelfTrade (whole n.order)) else
    if n.reason == 20 then Some (refusal.BelowMinimum n.amount) else
    if n.reason == 21 then Some (refusal.EventQueueFull n.count n.room) else
    if n.reason == 22 then Some (refusal.InsufficientFunds n.amount n.balance) else
    if n.reason == 23 then Some (refusal.BalanceTooLarge n.balance n.amount) else
    if n.reason == 24 then Some (refusal.SumTooLarge (whole n.held) (whole n.pending)) else None

-- the refusal that numbers stand for
abbrev pub refusal_in : ReplyNumbers → Option Refusal
refusal_in n =
    if n.reason == 1 then option_map refusal.BadData (rule_in n.rule) else
    option_or (option_or (bare_in n.reason) (addressed_in n.reason (record { 0 = n.address }))) (numbered_in n)

-- the reply that numbers stand for, if they are those of one
abbrev pub reply_in : ReplyNumbers → Option Reply
reply_in n =
    if n.kind == 0 then option_map Refused (refusal_in n) else
    if n.kind == 1 then Some (Ordered n.slot (whole n.order) n.lots n.pc n.fee n.rested) else
    if n.kind == 2 then Some (Took n.lots n.pc n.fee) else
    if n.kind == 3 then Some (Cancelled n.count) else
    if n.kind == 4 then Some (Consumed n.count) else
    if n.kind == 5 then Some (Settled n.coin n.pc n.referrer) else
    if n.kind == 6 then Some (Swept n.pc) else
    if n.kind == 7 then Some Done else None

abbrev zero : Wide
zero = record { low = 0; high = 0 }

-- numbers that are all 0, which stand for no reply
abbrev pub blank : ReplyNumbers
blank = record {
  kind = 0;
  reason = 0;
  rule = 0;
  slot = 0;
  count = 0;
  room = 0;
  lots = 0;
  pc = 0;
  fee = 0;
  rested = 0;
  coin = 0;
  referrer = 0;
  amount = 0;
  balance = 0;
  clock = pos 0;
  latest = pos 0;
  order = zero;
  held = zero;
  pending = zero;
  address = replicate 32 0;
}

-- a refusal without values
abbrev pub bare : ℕ → ReplyNumbers
bare reason = record blank { reason = reason }

-- a refusal with an address
abbrev pub of_address : ℕ → Address → ReplyNumbers
of_address reason address = record blank { reason = reason; address = address.0 }

-- a refusal with native amounts of a wallet
abbrev pub of_amounts : ℕ → ℕ → ℕ → ReplyNumbers
of_amounts reason amount balance = record blank { reason = reason; amount = amount; balance = balance }

-- what is told of an instruction that names too many accounts
abbrev pub too_many : ReplyNumbers
too_many = record blank { kind = 255 }

-- a number by its halves
abbrev pub wide : ℕ → Wide
wide number = record { low = number % 2 ^ 64; high = number / 2 ^ 64 }

-- the numbers of a refusal; a field that it does not name is 0
abbrev pub refused_numbers : Refusal → ReplyNumbers
refused_numbers (refusal.BadData rule) = record blank { reason = 1; rule = bad_data_number rule }
refused_numbers refusal.MarketDisabled = bare 2
refused_numbers refusal.NoAccount = bare 3
refused_numbers refusal.AccountExists = bare 4
refused_numbers (refusal.NotOwner owner) = of_address 5 owner
refused_numbers (refusal.NotAuthority authority) = of_address 6 authority
refused_numbers (refusal.WrongMint mint) = of_address 7 mint
refused_numbers (refusal.WalletNotSigned owner) = of_address 8 owner
refused_numbers (refusal.NotEmpty slots funds) = record blank { reason = 9; count = slots; held = wide funds }
refused_numbers refusal.TooManyOpenOrders = bare 10
refused_numbers refusal.AskTooLarge = bare 11
refused_numbers refusal.SequenceExhausted = bare 12
refused_numbers (refusal.TimePast now max) = record blank { reason = 13; clock = now; latest = max }
refused_numbers refusal.OrderNotFound = bare 14
refused_numbers refusal.SideMismatch = bare 15
refused_numbers (refusal.OrderNotYours owner) = of_address 16 owner
refused_numbers refusal.ClientIdZero = bare 17
refused_numbers refusal.ClientIdNotFound = bare 18
refused_numbers (refusal.WouldSelfTrade order) = record blank { reason = 19; order = wide order }
refused_numbers (refusal.BelowMinimum got) = of_amounts 20 got 0
refused_numbers (refusal.EventQueueFull needed room) = record blank { reason = 21; count = needed; room = room }
refused_numbers (refusal.InsufficientFunds needed balance) = of_amounts 22 needed balance
refused_numbers (refusal.BalanceTooLarge balance amount) = of_amounts 23 amount balance
refused_numbers (refusal.SumTooLarge vault pending) = record blank { reason = 24; held = wide vault; pending = wide pending }

-- the numbers of a reply; a field that its kind does not name is 0
abbrev pub numbers_of : Reply → ReplyNumbers
numbers_of (Ordered slot id lots pc fee rested) =
    record blank { kind = 1; order = wide id; slot = slot; lots = lots; pc = pc; fee = fee; rested = rested }
numbers_of (Took lots pc fee) = record blank { kind = 2; lots = lots; pc = pc; fee = fee }
numbers_of (Cancelled count) = record blank { kind = 3; count = count }
numbers_of (Consumed count) = record blank { kind = 4; count = count }
numbers_of (Settled coin pc referrer) = record blank { kind = 5; coin = coin; pc = pc; referrer = referrer }
numbers_of (Swept pc) = record blank { kind = 6; pc = pc }
numbers_of Done = record blank { kind = 7 }
numbers_of (Refused why) = refused_numbers why
