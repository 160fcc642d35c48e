-- What replies, refusals and addresses print.
use Rattle.std.specs.Prelude.{ℕ, ◌-◌, Bool, ◌&&◌, ◌||◌, ◌==◌, nat_le, if◌then◌else◌, List, ◌++◌, length, replicate, take, drop, unwrap_or, codes}
use Rattle.std.specs.Char.{is_ascii_digit, is_ascii_lowercase}
use Rattle.std.specs.Fmt.{decimal, signed_decimal}
use Rattle.std.specs.List.{list_all, position}
use Rattle.hex.specs.Hex.{encode_lower}
use Rattle.dex_types.specs.declared.addresses.Address.{Address}
use Rattle.dex_types.specs.declared.instructions.BadData.{BadData}
use Rattle.dex_types.specs.declared.instructions.BadData.TheVariants.{Short, Version, UnknownTag, RetiredTag, Length, ZeroField, BadEnum}
use Rattle.dex_types.specs.declared.refusals.Refusal.{Refusal}
use Rattle.dex_types.specs.declared.refusals.Refusal.TheVariants as refusal
use Rattle.dex_types.specs.declared.replies.Reply.{Reply}
use Rattle.dex_types.specs.declared.replies.Reply.TheVariants.{Ordered, Took, Cancelled, Consumed, Settled, Swept, Done, Refused}

-- the characters of a label: `a` to `z`, `0` to `9` and `_`
abbrev pub is_label_character : ℕ → Bool
is_label_character c = is_ascii_lowercase c || is_ascii_digit c || (c == 95)

-- a label: from 1 to 24 of those characters
abbrev pub is_label : List ℕ → Bool
is_label word = nat_le 1 (length word) && nat_le (length word) 24 && list_all is_label_character word

-- the address of a label: its bytes, followed by zeros
abbrev pub label_address : List ℕ → Address
label_address label = record { 0 = label ++ replicate (32 - length label) 0 }

-- the place of the first zero, or the length
abbrev pub first_zero : List ℕ → ℕ
first_zero bytes = unwrap_or (position (λ b. b == 0) bytes) (length bytes)

-- the bytes up to the first zero
abbrev pub front_of : List ℕ → List ℕ
front_of bytes = take (first_zero bytes) bytes

-- the bytes from the first zero on
abbrev pub behind_front : List ℕ → List ℕ
behind_front bytes = drop (first_zero bytes) bytes

-- the bytes are those of a label, followed by zeros
abbrev pub is_labelled : List ℕ → Bool
is_labelled bytes = is_label (front_of bytes) && list_all (λ b. b == 0) (behind_front bytes)

-- an address: its label where it has one, else `0x` and its bytes in hexadecimal digits, in lower case
unfoldable pub address_text : Address → List ℕ
address_text address = if is_labelled address.0 then front_of address.0 else codes "0x" ++ encode_lower address.0

-- the number of a rule of instruction data, counted from 1
abbrev pub bad_data_number : BadData → ℕ
bad_data_number Short = 1
bad_data_number Version = 2
bad_data_number UnknownTag = 3
bad_data_number RetiredTag = 4
bad_data_number Length = 5
bad_data_number ZeroField = 6
bad_data_number BadEnum = 7

-- a space and a word
abbrev pub spaced : List ℕ → List ℕ
spaced word = codes " " ++ word

-- a refusal's number, its name and its values
abbrev pub refusal_text : Refusal → List ℕ
refusal_text (refusal.BadData rule) = codes "refused 1 BadData" ++ spaced (decimal (bad_data_number rule))
refusal_text refusal.MarketDisabled = codes "refused 2 MarketDisabled"
refusal_text refusal.NoAccount = codes "refused 3 NoAccount"
refusal_text refusal.AccountExists = codes "refused 4 AccountExists"
refusal_text (refusal.NotOwner owner) = codes "refused 5 NotOwner" ++ spaced (address_text owner)
refusal_text (refusal.NotAuthority authority) = codes "refused 6 NotAuthority" ++ spaced (address_text authority)
refusal_text (refusal.WrongMint mint) = codes "refused 7 WrongMint" ++ spaced (address_text mint)
refusal_text (refusal.WalletNotSigned owner) = codes "refused 8 WalletNotSigned" ++ spaced (address_text owner)
refusal_text (refusal.NotEmpty slots funds) = codes "refused 9 NotEmpty" ++ spaced (decimal slots) ++ spaced (decimal funds)
refusal_text refusal.TooManyOpenOrders = codes "refused 10 TooManyOpenOrders"
refusal_text refusal.AskTooLarge = codes "refused 11 AskTooLarge"
refusal_text refusal.SequenceExhausted = codes "refused 12 SequenceExhausted"
refusal_text (refusal.TimePast now max) = codes "refused 13 TimePast" ++ spaced (signed_decimal now) ++ spaced (signed_decimal max)
refusal_text refusal.OrderNotFound = codes "refused 14 OrderNotFound"
refusal_text refusal.SideMismatch = codes "refused 15 SideMismatch"
refusal_text (refusal.OrderNotYours owner) = codes "refused 16 OrderNotYours" ++ spaced (address_text owner)
refusal_text refusal.ClientIdZero = codes "refused 17 ClientIdZero"
refusal_text refusal.ClientIdNotFound = codes "refused 18 ClientIdNotFound"
refusal_text (refusal.WouldSelfTrade order) = codes "refused 19 WouldSelfTrade" ++ spaced (decimal order)
refusal_text (refusal.BelowMinimum got) = codes "refused 20 BelowMinimum" ++ spaced (decimal got)
refusal_text (refusal.EventQueueFull needed room) = codes "refused 21 EventQueueFull" ++ spaced (decimal needed) ++ spaced (decimal room)
refusal_text (refusal.InsufficientFunds needed balance) = codes "refused 22 InsufficientFunds" ++ spaced (decimal needed) ++ spaced (decimal balance)
refusal_text (refusal.BalanceTooLarge balance amount) = codes "refused 23 BalanceTooLarge" ++ spaced (decimal balance) ++ spaced (decimal amount)
refusal_text (refusal.SumTooLarge vault pending) = codes "refused 24 SumTooLarge" ++ spaced (decimal vault) ++ spaced (decimal pending)

-- a reply: what was done with its numbers, or the refusal
abbrev pub reply_text : Reply → List ℕ
reply_text (Ordered slot id lots pc fee rested) =
    codes "ok order" ++ spaced (decimal id) ++ spaced (decimal slot) ++ spaced (decimal lots) ++ spaced (decimal pc) ++ spaced (decimal fee) ++ spaced (decimal rested)
reply_text (Took lots pc fee) = codes "ok take" ++ spaced (decimal lots) ++ spaced (decimal pc) ++ spaced (decimal fee)
reply_text (Cancelled count) = codes "ok cancelled" ++ spaced (decimal count)
reply_text (Consumed count) = codes "ok consumed" ++ spaced (decimal count)
reply_text (Settled coin pc referrer) = codes "ok settled" ++ spaced (decimal coin) ++ spaced (decimal pc) ++ spaced (decimal referrer)
reply_text (Swept pc) = codes "ok swept" ++ spaced (decimal pc)
reply_text Done = codes "ok done"
reply_text (Refused why) = refusal_text why
