-- The state of a sound market that begins to pay at once.
use Rattle.std.proofs.Common.{ℕ, pos, ◌+◌, ◌-ℤ◌, ◌+ℤ◌, ◌^◌, ◌<◌, ◌≤◌, ◌≡◌, List, [], ◌∷◌, length, get_or, map, refl, sym, ap, ◌∙◌, subst, arith}
use Rattle.std.specs.List.{All}
use Rattle.std.specs.Vec.{vec_capacity}
use Rattle.std.proofs.lemmas.Int.{ints}
use Rattle.std.proofs.lemmas.List.{length-map}
use Rattle.std.proofs.lemmas.List.Elements.{All-map, All-weaker}
use Rattle.dex_types.specs.declared.addresses.Address.{Address}
use Rattle.dex_types.specs.declared.orders.Order.{Order}
use Rattle.dex_types.specs.declared.terms.Lots.{Lots}
use Rattle.dex_types.specs.declared.terms.Side.{Side}
use Rattle.dex_types.specs.declared.terms.Side.TheVariants.{Bid, Ask}
use Rattle.dex_types.specs.Market.{Market, capacity, orders}
use Rattle.dex_types.specs.Side.{Coin, Pc}
use Rattle.dex_types.specs.Soundness.{IsProper, IsSound}
use Rattle.dex_types.specs.Trader.{Trader, Traders}
use Rattle.dex_eager.specs.Histories.{eager_start}
use Rattle.dex_eager.specs.Slots.{without_slot, without_slots}
use Rattle.dex_eager.specs.Worth.{held_for, no_moves, worth_of}
use Rattle.dex_eager.proofs.StepMoves.{eager-same}
use Rattle.dex_totals.specs.Sums.{capped}
use Rattle.dex_worth.specs.Holdings.{held_amounts}
use Rattle.dex_worth.proofs.Holding.{held-small}
use Rattle.dex_eager_market.specs.declared.states.Book.{Book}
use Rattle.dex_eager_market.specs.declared.states.State.{State}
use Rattle.dex_eager_market.specs.Accounts.{IsWithin, entry_of}
use Rattle.dex_eager_market.specs.Foreseen.{CanFill}
use Rattle.dex_eager_market.specs.Making.{account_of, held_accounts}
use Rattle.dex_eager_market.specs.States.{IsBook, IsKept, eager_of}

-- proper orders can fill, in whatever slot
can-fill-proper : (side : Side) (sizes : Lots) (order : Order) → IsProper side sizes order → CanFill side sizes (without_slot order)
can-fill-proper Bid sizes order proper = record { lock = proper.lock; tier = proper.tier }
can-fill-proper Ask sizes order proper = record { lock = proper.lock; tier = proper.tier }

all-fill : (side : Side) (sizes : Lots) (orders : List Order) → All (IsProper side sizes) orders → All (CanFill side sizes) (without_slots orders)
all-fill side sizes orders all =
    All-map (CanFill side sizes) without_slot orders
    (All-weaker (IsProper side sizes) (λ order. CanFill side sizes (without_slot order)) (can-fill-proper side sizes) orders all)

-- a side of a sound market, as the state has it
pub start-book : (side : Side) (m : Market) (book : Book) → IsSound m → book.room ≡ capacity side m → book.room ≤ vec_capacity book.orders
    → book.orders.items ≡ without_slots (orders side m) → IsBook side m.listing.sizes book
start-book side m book sound room reserved are = record {
  has_room = record {
    some = omega (arith, room, sound.form.room side);
    within = omega (arith, room, sound.form.within side, ap length are, length-map (orders side m) without_slot);
    reserved = reserved;
  };
  can_fill = subst (All (CanFill side m.listing.sizes)) (sym are) (all-fill side m.listing.sizes (orders side m) (sound.form.proper side));
}

-- nothing moved yet: what is held is what an account is worth
held-worth : (held : ℕ) → held < 2 ^ 64 → pos (capped held) -ℤ pos 0 ≡ (pos held -ℤ pos 0) +ℤ pos 0
held-worth held small = let exact : capped held ≡ held = omega arith in ap (λ (n : ℕ). pos n -ℤ pos 0) exact ∙ omega (arith, ints)

pub start-worths : (m : Market) → IsSound m → (traders : Traders)
    → map entry_of (map (λ (entry : Address × Trader). account_of (held_amounts m) entry.0) traders)
    ≡ map (λ (entry : Address × Trader). (entry.0, worth_of entry.0 m no_moves)) traders
start-worths m sound [] = refl
start-worths m sound (entry ∷ others) =
    (λ i. (entry.0, record { coin = held-worth (held_for Coin entry.0 m) (held-small Coin entry.0 m sound) i; pc = held-worth (held_for Pc entry.0 m) (held-small Pc entry.0 m sound) i })
    ∷ start-worths m sound others i)

pub start-within : (m : Market) → IsSound m → (traders : Traders)
    → All (IsWithin (2 ^ 84)) (map (λ (entry : Address × Trader). account_of (held_amounts m) entry.0) traders)
start-within m sound traders =
    All-map (IsWithin (2 ^ 84)) (λ (entry : Address × Trader). account_of (held_amounts m) entry.0) traders (λ k d lt.
    let owner : Address = (get_or traders k d).0 in record {
      gained = record { coin = omega (arith, held-small Coin owner m sound); pc = omega (arith, held-small Pc owner m sound) };
      paid = record { coin = omega arith; pc = omega arith };
    })

-- the parts of a state that is the start of a market
pub record IsStart (m : Market) (s : State) : Type 0 where
  pub sizes : s.sizes ≡ m.listing.sizes
  pub bid_room : s.bids.room ≡ m.listing.bid_capacity
  pub ask_room : s.asks.room ≡ m.listing.ask_capacity
  pub bids : s.bids.orders.items ≡ without_slots m.bids
  pub asks : s.asks.orders.items ≡ without_slots m.asks
  pub next : s.till.next_sequence ≡ m.next_sequence
  pub accounts : s.till.accounts.items ≡ held_accounts m
  pub takings : s.till.takings ≡ m.pc_fees + m.referrer_rebates

-- it is what begins
pub start-is : (m : Market) (s : State) → IsSound m → IsStart m s → eager_of s ≡ eager_start m
start-is m s sound is =
    let all : m.pc_fees + m.referrer_rebates ≡ m.pc_fees + m.referrer_rebates + 0 + 0 = omega arith in
    eager-same _ _ is.sizes is.bid_room is.ask_room is.bids is.asks is.next (ap (map entry_of) is.accounts ∙ start-worths m sound m.traders) (is.takings ∙ all)

-- and all that is kept holds
pub start-kept : (m : Market) (s : State) → IsSound m → IsStart m s → s.bids.room ≤ vec_capacity s.bids.orders → s.asks.room ≤ vec_capacity s.asks.orders
    → s.bids.room + s.asks.room ≤ vec_capacity s.listed → s.till.takings < 2 ^ 65 → IsKept (2 ^ 84) s
start-kept m s sound is bids asks listed small = record {
  bids = subst (λ (z : Lots). IsBook Bid z s.bids) (sym is.sizes) (start-book Bid m s.bids sound is.bid_room bids is.bids);
  asks = subst (λ (z : Lots). IsBook Ask z s.asks) (sym is.sizes) (start-book Ask m s.asks sound is.ask_room asks is.asks);
  till = record { accounts = subst (All (IsWithin (2 ^ 84))) (sym is.accounts) (start-within m sound m.traders); takings = omega (arith, small) };
  listed = listed;
}
