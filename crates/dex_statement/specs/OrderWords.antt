-- The instruction that the words of a `do` row ask for.
use Rattle.std.specs.Prelude.{◌≡◌, ℕ, ℤ, ◌^◌, Bool, not, ◌&&◌, ◌||◌, ◌==◌, nat_lt, if◌then◌else◌, List, [], ◌∷◌, ◌++◌, length, drop, map, bytes_eq, codes, Option, Some, None, Result, Ok, Err, is_none}
use Rattle.dex_types.specs.declared.instructions.Ix.{Ix}
use Rattle.dex_types.specs.declared.instructions.Ix.TheVariants as ix
use Rattle.dex_types.specs.declared.terms.Side.{Side}
use Rattle.dex_instruction.specs.Numbers.{spelled}
use Rattle.dex_instruction.specs.Spelling.{spelling}
use Rattle.dex_rows.specs.Numbers.{number_of}
use Rattle.dex_statement.specs.declared.faults.FaultKind.{FaultKind}
use Rattle.dex_statement.specs.declared.faults.FaultKind.TheVariants.{UnknownRow, FieldCount, BadNumber}
use Rattle.dex_statement.specs.declared.order_words.Verb.{Verb}
use Rattle.dex_statement.specs.declared.order_words.Verb.TheVariants as verb
use Rattle.dex_statement.specs.Faults.{◌>>=◌, found_or, unless}
use Rattle.dex_statement.specs.Words.{Fields, field_at, order_type_of, self_trade_of, side_of, time_word}

-- verbs without further words
abbrev pub bare_verb_of : List ℕ → Option Verb
bare_verb_of word =
    if bytes_eq word (codes "init") then Some verb.Init
    else (if bytes_eq word (codes "close") then Some verb.Close
    else (if bytes_eq word (codes "settle") then Some verb.Settle
    else (if bytes_eq word (codes "disable") then Some verb.Disable
    else (if bytes_eq word (codes "sweep") then Some verb.Sweep
    else None))))

-- all verbs
abbrev pub verb_of : List ℕ → Option Verb
verb_of word =
    if bytes_eq word (codes "new") then Some verb.New
    else (if bytes_eq word (codes "take") then Some verb.Take
    else (if bytes_eq word (codes "cancel") then Some verb.Cancel
    else (if bytes_eq word (codes "cancelc") then Some verb.CancelByClient
    else (if bytes_eq word (codes "cancels") then Some verb.CancelByClients
    else (if bytes_eq word (codes "match") then Some verb.Match
    else (if bytes_eq word (codes "consume") then Some verb.Consume
    else (if bytes_eq word (codes "prune") then Some verb.Prune
    else bare_verb_of word)))))))

-- an instruction without fields, of a verb alone
abbrev pub bare_ix : Ix → Fields → Result Ix FaultKind
bare_ix ix words = unless (not (length words == 1)) FieldCount (Ok ix)

-- the number of 16 bits at a place
abbrev pub limit_at : Fields → ℕ → Result ℕ FaultKind
limit_at words place = found_or (number_of (2 ^ 16) (field_at words place)) BadNumber

-- the side at a place
abbrev pub side_at : Fields → ℕ → Result Side FaultKind
side_at words place = found_or (side_of (field_at words place)) UnknownRow

-- one number of 16 bits after the verb
unfoldable pub limit_of : Fields → Result ℕ FaultKind
limit_of words = unless (not (length words == 2)) FieldCount (limit_at words 1)

-- a word stands there that is to be a side, and is none
abbrev pub is_strange_side : Fields → ℕ → Bool
is_strange_side words place = nat_lt place (length words) && is_none (side_of (field_at words place))

-- a word stands there that is to be a self-trade rule, and is none
abbrev pub is_strange_self_trade : Fields → ℕ → Bool
is_strange_self_trade words place = nat_lt place (length words) && is_none (self_trade_of (field_at words place))

-- a word stands there that is to be an order type, and is none
abbrev pub is_strange_order_type : Fields → ℕ → Bool
is_strange_order_type words place = nat_lt place (length words) && is_none (order_type_of (field_at words place))

-- one of an order's words that are of a list is not
abbrev pub is_strange_order : Fields → Bool
is_strange_order words = is_strange_side words 1 || is_strange_self_trade words 5 || is_strange_order_type words 6

-- the number of 64 bits at a place
abbrev pub amount_at : Fields → ℕ → Result ℕ FaultKind
amount_at words place = found_or (number_of (2 ^ 64) (field_at words place)) BadNumber

-- the latest time, where a word stands after an order's others
unfoldable pub latest_of : Fields → Result (Option ℤ) FaultKind
latest_of words = if not (length words == 10) then Ok None else (do
  latest ← found_or (time_word (field_at words 9)) BadNumber
  Ok (Some latest))

-- the fields of `new`, by place
unfoldable pub order_in : Fields → Result Ix FaultKind
order_in words = do
  side ← side_at words 1
  price ← amount_at words 2
  lots ← amount_at words 3
  pc ← amount_at words 4
  self_trade ← found_or (self_trade_of (field_at words 5)) UnknownRow
  order_type ← found_or (order_type_of (field_at words 6)) UnknownRow
  client ← amount_at words 7
  limit ← limit_at words 8
  latest ← latest_of words
  Ok (ix.NewOrderV3 side price lots pc self_trade order_type client limit latest)

-- `new SIDE PRICE LOTS PC SELF TYPE CLIENT LIMIT`, or with a latest time behind
unfoldable pub order_of : Fields → Result Ix FaultKind
order_of words = unless (is_strange_order words) UnknownRow (
    unless (not (length words == 9) && not (length words == 10)) FieldCount (order_in words))

-- `take SIDE PRICE LOTS PC MINLOTS MINPC LIMIT`
unfoldable pub take_of : Fields → Result Ix FaultKind
take_of words = unless (is_strange_side words 1) UnknownRow (
    unless (not (length words == 8)) FieldCount (do
      side ← side_at words 1
      price ← amount_at words 2
      lots ← amount_at words 3
      pc ← amount_at words 4
      least_lots ← amount_at words 5
      least_pc ← amount_at words 6
      limit ← limit_at words 7
      Ok (ix.SendTake side price lots pc least_lots least_pc limit)))

-- `cancel SIDE ID`
unfoldable pub cancel_of : Fields → Result Ix FaultKind
cancel_of words = unless (is_strange_side words 1) UnknownRow (
    unless (not (length words == 3)) FieldCount (do
      side ← side_at words 1
      id ← found_or (number_of (2 ^ 128) (field_at words 2)) BadNumber
      Ok (ix.CancelOrderV2 side id)))

-- `cancelc CLIENT`
unfoldable pub cancel_by_client_of : Fields → Result Ix FaultKind
cancel_by_client_of words = unless (not (length words == 2)) FieldCount (do
  client ← amount_at words 1
  Ok (ix.CancelOrderByClientIdV2 client))

-- numbers of 64 bits, one a word, after those that were read
abbrev pub ids_behind : List ℕ → Fields → Result (List ℕ) FaultKind
ids_behind ids [] = Ok ids
ids_behind ids (word ∷ words) = found_or (number_of (2 ^ 64) word) BadNumber >>= λ id. ids_behind (ids ++ id ∷ []) words

-- the bytes of a cancel of the orders with these client ids: version, tag, ids
abbrev pub cancels_spelling : List ℕ → List ℕ
cancels_spelling ids = spelled ((1, 0) ∷ (4, 18) ∷ map (λ id. (8, id)) ids)

-- `cancels C1 C2 ..`, from one to eight
unfoldable pub cancels_of : Fields → Result (List ℕ) FaultKind
cancels_of words = unless (nat_lt (length words) 2 || nat_lt 9 (length words)) FieldCount (do
  ids ← ids_behind [] (drop 1 words)
  Ok (cancels_spelling ids))

-- the bytes of what was asked for
abbrev pub spelled_of : Result Ix FaultKind → Result (List ℕ) FaultKind
spelled_of (Ok asked) = Ok (spelling asked)
spelled_of (Err kind) = Err kind

-- the bytes that a verb and the words after it ask for
abbrev pub bytes_of : Verb → Fields → Result (List ℕ) FaultKind
bytes_of verb.Init words = spelled_of (bare_ix ix.InitOpenOrders words)
bytes_of verb.Close words = spelled_of (bare_ix ix.CloseOpenOrders words)
bytes_of verb.Settle words = spelled_of (bare_ix ix.SettleFunds words)
bytes_of verb.Disable words = spelled_of (bare_ix ix.DisableMarket words)
bytes_of verb.Sweep words = spelled_of (bare_ix ix.SweepFees words)
bytes_of verb.Match words = spelled_of (limit_of words >>= λ limit. Ok (ix.MatchOrders limit))
bytes_of verb.Consume words = spelled_of (limit_of words >>= λ limit. Ok (ix.ConsumeEvents limit))
bytes_of verb.Prune words = spelled_of (limit_of words >>= λ limit. Ok (ix.Prune limit))
bytes_of verb.New words = spelled_of (order_of words)
bytes_of verb.Take words = spelled_of (take_of words)
bytes_of verb.Cancel words = spelled_of (cancel_of words)
bytes_of verb.CancelByClient words = spelled_of (cancel_by_client_of words)
bytes_of verb.CancelByClients words = cancels_of words

-- an instruction has these bytes, or the fault is this one
abbrev pub Spells : Result Ix FaultKind → Result (List ℕ) FaultKind → Type 0
Spells asked bytes = spelled_of asked ≡ bytes

-- the instruction's bytes that the words ask for
unfoldable pub data_of : Fields → Result (List ℕ) FaultKind
data_of words = found_or (verb_of (field_at words 0)) UnknownRow >>= λ verb. bytes_of verb words
