-- worked examples of rows that change nothing on an eager market, and of rows that do
use Rattle.std.proofs.Common.{ℕ, ◌≡◌, pos, negsuc, List, [], ◌∷◌, Err, map, refl}
use Rattle.dex_types.specs.declared.addresses.Address.{Address}
use Rattle.dex_types.specs.declared.instructions.BadData.TheVariants.{Short}
use Rattle.dex_types.specs.declared.instructions.Ix.{Ix}
use Rattle.dex_types.specs.declared.instructions.Ix.TheVariants.{SettleFunds, CancelOrderV2, CancelOrderByClientIdV2, SendTake, Prune}
use Rattle.dex_types.specs.declared.orders.Order.{Order}
use Rattle.dex_types.specs.declared.terms.OrderType.TheVariants.{Limit, Ioc}
use Rattle.dex_types.specs.declared.terms.SelfTrade.TheVariants.{Decrement, Abort}
use Rattle.dex_types.specs.declared.terms.Side.{Side}
use Rattle.dex_types.specs.declared.terms.Side.TheVariants.{Bid, Ask}
use Rattle.dex_types.specs.Fees.{taker_rate, maker_rate}
use Rattle.dex_types.specs.Meeting.{taken, demand_after}
use Rattle.dex_types.specs.QueuedEvent.{QueuedEvent}
use Rattle.dex_types.specs.Side.{price_of, sequence_of, id_of}
use Rattle.dex_sound.proofs.ExampleMarket.{amy, ben, ann, bob, row, new, nothing, resting}
use Rattle.dex_eager.specs.Eager.{Eager, EagerStep, Worths, eager_step}
use Rattle.dex_eager.specs.Worth.{Worth}

abbrev order : Side → ℕ → ℕ → Address → ℕ → ℕ → Order
order side price sequence owner lots client = record { id = id_of side price sequence; owner = owner; slot = 0; tier = 0; lots = lots; client = client }

abbrev worth : ℕ → ℕ → Worth
worth coin pc = record { coin = pos coin; pc = pos pc }

-- amy bids 4 lots at 2^60 and 3 at 50, of the client ids 7 and 0, and ben asks 5 lots at 2^61
abbrev busy : Eager
busy = record {
  sizes = record { coin = 100; pc = 10 };
  bid_capacity = 2;
  ask_capacity = 4;
  bids = order Bid 1152921504606846976 0 amy 4 7 ∷ order Bid 50 1 amy 3 0 ∷ [];
  asks = order Ask 2305843009213693952 2 ben 5 8 ∷ [];
  next_sequence = 3;
  worths = (amy, worth 0 0) ∷ (ben, worth 1 2) ∷ [];
  takings = 9;
}

-- of each side ids and lots, the next sequence number, the worth of both and the takings
pub record StepParts : Type 0 where
  pub bids : List (List ℕ)
  pub asks : List (List ℕ)
  pub sequence : ℕ
  pub worths : Worths
  pub takings : ℕ
  pub fills : List (List ℕ)

-- what each fill brings, takes and gives back, and its order's client id
abbrev amounts : List QueuedEvent → List (List ℕ)
amounts fills = map (λ (fill : QueuedEvent). fill.released ∷ fill.paid ∷ fill.fee_or_rebate ∷ fill.client ∷ []) fills

abbrev shown : EagerStep → StepParts
shown s = record {
  bids = resting s.market.bids;
  asks = resting s.market.asks;
  sequence = s.market.next_sequence;
  worths = s.market.worths;
  takings = s.market.takings;
  fills = amounts s.fills;
}

-- with nothing changed
abbrev same : StepParts
same = record {
  bids = (21267647932558653984907657038195064831 ∷ 4 ∷ []) ∷ (940783947759187132414 ∷ 3 ∷ []) ∷ [];
  asks = (42535295865117307932921825928971026434 ∷ 5 ∷ []) ∷ [];
  sequence = 3;
  worths = (amy, worth 0 0) ∷ (ben, worth 1 2) ∷ [];
  takings = 9;
  fills = [];
}

abbrev on_busy : Ix → Address → List Address → StepParts
on_busy ix signer named = shown (eager_step (row ix signer named) nothing busy)

-- data that does not decode, an account that is not named, and one that the market does not have
no_data : shown (eager_step (record { instruction = Err Short; signer = ann; named = amy ∷ []; now = pos 0 }) nothing busy) ≡ same
unfolding taken demand_after price_of sequence_of id_of taker_rate maker_rate
no_data = refl

no_named : on_busy (new Bid 60 1 1000 Decrement Limit 1 10) ann [] ≡ same
unfolding taken demand_after price_of sequence_of id_of taker_rate maker_rate
no_named = refl

not_there : on_busy (new Bid 60 1 1000 Decrement Limit 1 10) ann (ann ∷ amy ∷ []) ≡ same
unfolding taken demand_after price_of sequence_of id_of taker_rate maker_rate
not_there = refl

-- an ask of 2^64 base and more, and one that sells for 2^64 quote and more; by an order and by a take
large_base : on_busy (new Ask 2305843009213693952 184467440737095517 1 Decrement Limit 1 10) bob (ben ∷ []) ≡ same
unfolding taken demand_after price_of sequence_of id_of taker_rate maker_rate
large_base = refl

large_quote : on_busy (new Ask 60 2 1 Decrement Ioc 1 10) bob (ben ∷ []) ≡ same
unfolding taken demand_after price_of sequence_of id_of taker_rate maker_rate
large_quote = refl

large_take : on_busy (SendTake Ask 60 2 1 0 0 10) bob [] ≡ same
unfolding taken demand_after price_of sequence_of id_of taker_rate maker_rate
large_take = refl

-- an order that would abort, and one without a sequence number
aborts : on_busy (new Ask 50 1 1 Abort Limit 1 10) ann (amy ∷ []) ≡ same
unfolding taken demand_after price_of sequence_of id_of taker_rate maker_rate
aborts = refl

last_sequence : (eager_step (row (new Bid 60 1 1000 Decrement Limit 1 10) ann (amy ∷ [])) nothing (record busy { next_sequence = 18446744073709551615 })).market.next_sequence
    ≡ 18446744073709551615
unfolding taken demand_after price_of sequence_of id_of taker_rate maker_rate
last_sequence = refl

-- cancels of an order on the other side, of another account, of none, and of the client id 0, though an order has it
other_side : on_busy (CancelOrderV2 Ask 940783947759187132414) ann (amy ∷ []) ≡ same
unfolding taken demand_after price_of sequence_of id_of taker_rate maker_rate
other_side = refl

not_own : on_busy (CancelOrderV2 Bid 940783947759187132414) bob (ben ∷ []) ≡ same
unfolding taken demand_after price_of sequence_of id_of taker_rate maker_rate
not_own = refl

no_order : on_busy (CancelOrderV2 Bid 1) ann (amy ∷ []) ≡ same
unfolding taken demand_after price_of sequence_of id_of taker_rate maker_rate
no_order = refl

no_client : on_busy (CancelOrderByClientIdV2 0) ann (amy ∷ []) ≡ same
unfolding taken demand_after price_of sequence_of id_of taker_rate maker_rate
no_client = refl

-- and every other instruction
funds_out : on_busy SettleFunds ann (amy ∷ []) ≡ same
unfolding id_of
funds_out = refl

-- a cancel of the account's first order, whoever signs
pruned : on_busy (Prune 1) bob (amy ∷ []) ≡ record same { bids = (940783947759187132414 ∷ 3 ∷ []) ∷ [] }
unfolding taken demand_after price_of sequence_of id_of taker_rate maker_rate
pruned = refl

-- on a full side the last order leaves for a new one
booted : on_busy (new Bid 60 1 1000 Decrement Limit 1 10) bob (ben ∷ [])
    ≡ record same { bids = (21267647932558653984907657038195064831 ∷ 4 ∷ []) ∷ (1125251388496282648572 ∷ 1 ∷ []) ∷ []; sequence = 4 }
unfolding taken demand_after price_of sequence_of id_of taker_rate maker_rate
booted = refl

-- a take pays the maker, and what it pays is no account's
took : on_busy (SendTake Bid 2305843009213693952 1 100000000000000000000 0 0 10) ann []
    ≡ record same {
      asks = (42535295865117307932921825928971026434 ∷ 4 ∷ []) ∷ [];
      worths = (amy, worth 0 0) ∷ (ben, record { coin = negsuc 98; pc = pos 23065347621164580603 }) ∷ [];
      takings = 43811017175060195;
      fills = (23065347621164580601 ∷ 100 ∷ 6917529027641081 ∷ 8 ∷ []) ∷ [];
    }
unfolding taken demand_after price_of sequence_of id_of taker_rate maker_rate
took = refl
