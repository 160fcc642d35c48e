-- what a take that is not refused leaves of a sound market
use Rattle.std.proofs.Common.{◌≡◌, ℕ, ◌+◌, ◌-◌, ◌^◌, ◌<◌, List, None, length, refl, sym, ap, subst, ◌∙◌, arith}
use Rattle.dex_types.specs.declared.rows.Seen.{Seen}
use Rattle.dex_types.specs.declared.terms.Side.{Side}
use Rattle.dex_types.specs.declared.terms.Side.TheVariants.{Bid, Ask}
use Rattle.dex_types.specs.Market.{Market}
use Rattle.dex_types.specs.Meeting.{Meeting}
use Rattle.dex_types.specs.Reasons.{ask_too_large}
use Rattle.dex_types.specs.Side.{Coin, Pc}
use Rattle.dex_types.specs.Soundness.{IsSound}
use Rattle.dex_types.specs.Take.{Take, after_take, take_demand, take_terms, take_transfers}
use Rattle.dex_types.specs.Transfers.{Transfers}
use Rattle.dex_types.specs.Why.{take_reading, why_taking}
use Rattle.dex_laws.proofs.MovedLaws.{meet-moved_le}
use Rattle.dex_market.specs.MarketAccount.{IsMarket, MarketWords, market_words}
use Rattle.dex_accounts.specs.Parts.{AreOf, MarketParts}
use Rattle.dex_market.specs.StandsFor.{StandsForMarket, words_of}
use Rattle.dex_market.proofs.FundsWrites.{are-written}
use Rattle.dex_ring.specs.StandsFor.{StandsForEvents, ring_of_market}
use Rattle.dex_take.specs.Taken.{IsDone}
use Rattle.dex_match.specs.declared.order_terms.Taker.{Taker}
use Rattle.dex_market.specs.MarketAccount.{sizes_of}
use Rattle.dex_ring.specs.Appended.{HasRoom, appended}
use Rattle.dex_ring.specs.Ring.{ring_of}
use Rattle.dex_sound.proofs.OrderSoundReasons.{queue_full-none, taking-none}
use Rattle.dex_sound.proofs.TakeSound.{met_of, taken_market, taking-sound}
use Rattle.dex_take.specs.declared.plan.TakePlan.{TakePlan}
use Rattle.dex_take.specs.Exchanging.{CanExchange, bytes_after, funds_after, kept_of, words_after}
use Rattle.dex_take.specs.TakeGiven.{TakeGiven, TakeRead, read_of, take_given, with_taken}
use Rattle.dex_take.specs.TakeTerms.{bare_take, take_of}
use Rattle.dex_take.specs.Taking.{CanBeDone, IsDecided, meeting_in, moved_in, plan_in, take_reason}
use Rattle.dex_take.proofs.TakeAmounts.{IsGivenOf, bare-meeting, given-of, of_market, read-of, take-covers, take_fee-part}
use Rattle.dex_take.proofs.TakeReasons.{reason-given}

abbrev moved_of : Side → Take → Market → Transfers
moved_of side t m = take_transfers side m.listing.sizes t (met_of side t m)

-- a sound market can take in and pay out what a take moves, where it is sound after it
can-exchange : (side : Side) (t : Take) (m : Market) → IsSound m → IsSound (taken_market side t m) → CanExchange (moved_of side t m) (kept_of t (met_of side t m)) (words_of m)
can-exchange Bid t m sound after =
    let met : Meeting = met_of Bid t m in
    let coin = sound.funds.solvent.vaults Coin in
    let pc = sound.funds.solvent.vaults Pc in
    let sold = meet-moved_le Bid (take_terms m.listing.sizes t) (take_demand Bid m.listing.sizes t) m.asks in
    record {
      coin_in = omega (arith, sound.funds.bounded Coin);
      coin_out = omega (arith, coin, sold);
      pc_in = omega (arith, after.funds.bounded Pc);
      pc_out = omega (arith, take_fee-part t met);
      fees = omega (arith, after.funds.bounded Pc, after.funds.solvent.vaults Pc);
    }
can-exchange Ask t m sound after =
    let met : Meeting = met_of Ask t m in
    let pc = sound.funds.solvent.vaults Pc in
    let sold = meet-moved_le Ask (take_terms m.listing.sizes t) (take_demand Ask m.listing.sizes t) m.bids in
    record {
      coin_in = omega (arith, after.funds.bounded Coin);
      coin_out = omega arith;
      pc_in = omega (arith, sound.funds.bounded Pc);
      pc_out = omega (arith, pc, sold, take_fee-part t met, take-covers Ask m.listing.sizes t m.bids);
      fees = omega (arith, after.funds.bounded Pc, after.funds.solvent.vaults Pc);
    }

-- its words are then those of the market after it
words-after : (side : Side) (t : Take) (m : Market) → IsSound m → words_after (moved_of side t m) (kept_of t (met_of side t m)) (words_of m) ≡ words_of (taken_market side t m)
words-after side t m sound =
    let moved : Transfers = moved_of side t m in
    let kept : ℕ = kept_of t (met_of side t m) in
    let after : MarketWords = words_of (taken_market side t m) in
    let coin : m.coin_vault - m.coin_fees + moved.coin_in - moved.coin_out ≡ m.coin_vault + moved.coin_in - moved.coin_out - m.coin_fees =
    omega (arith, sound.funds.solvent.vaults Coin) in
    let pc : m.pc_vault - (m.pc_fees + m.referrer_rebates) + moved.pc_in - (moved.pc_out + kept) ≡ m.pc_vault + moved.pc_in - moved.pc_out - 0 - (m.pc_fees + kept + m.referrer_rebates) =
    omega (arith, sound.funds.solvent.vaults Pc) in
    ap (λ (x : ℕ). record after { coin_deposits_total = x; pc_deposits_total = m.pc_vault - (m.pc_fees + m.referrer_rebates) + moved.pc_in - (moved.pc_out + kept) }) coin
    ∙ ap (λ (x : ℕ). record after { pc_deposits_total = x }) pc

-- what is known of a take that is not refused, by its parts and on its market
pub record IsTaken (side : Side) (t : Take) (m : Market) (parts : TakeRead) : Type 0 where
  pub size : ask_too_large side (sizes_of parts.words) t.lots ≡ None
  pub room : HasRoom (length (meeting_in side t parts).events) parts.ring
  pub counted : parts.ring.seq_num < 2 ^ 64
  pub can : CanExchange (take_transfers side (sizes_of parts.words) t (meeting_in side t parts)) (kept_of t (meeting_in side t parts)) parts.words
  pub sound : IsSound (after_take side t (meeting_in side t parts) m)
  pub words : words_after (take_transfers side (sizes_of parts.words) t (meeting_in side t parts)) (kept_of t (meeting_in side t parts)) parts.words
      ≡ words_of (after_take side t (meeting_in side t parts) m)

-- each of the reasons of the market does not hold
taken-market : (side : Side) (t : Take) (seen : Seen) (m : Market) → IsSound m → why_taking side t seen (take_reading side t seen m) ≡ None → IsTaken side t m (of_market side m)
taken-market side t seen m sound none =
    let parts = taking-none side t seen (take_reading side t seen m) none in
    let after : IsSound (taken_market side t m) = taking-sound side t seen m sound none in
    record {
      size = parts.size;
      room = queue_full-none (length (met_of side t m).events) m parts.taking.1.0 sound.form.events_within;
      counted = sound.form.counted;
      can = can-exchange side t m sound after;
      sound = after;
      words = words-after side t m sound;
    }

-- the least fill of a take decides only whether it is refused
any-least : (side : Side) (taker : Taker) (min_lots min_pc other_lots other_pc : ℕ) (m : Market) (parts : TakeRead)
    → IsTaken side (take_of taker min_lots min_pc) m parts → IsTaken side (take_of taker other_lots other_pc) m parts
any-least Bid taker min_lots min_pc other_lots other_pc m parts is =
    record { size = is.size; room = is.room; counted = is.counted; can = is.can; sound = is.sound; words = is.words }
any-least Ask taker min_lots min_pc other_lots other_pc m parts is =
    record { size = is.size; room = is.room; counted = is.counted; can = is.can; sound = is.sound; words = is.words }

-- a take that is not refused with some least fill, of this market: the same is known of it with each
pub taken : (side : Side) (taker : Taker) (min_lots min_pc other_lots other_pc : ℕ) (seen : Seen) (given : TakeGiven) (m : Market) → IsSound m → IsGivenOf side given m
    → take_reason side (take_of taker min_lots min_pc) (read_of given) seen ≡ None → IsTaken side (take_of taker other_lots other_pc) m (read_of given)
taken side taker min_lots min_pc other_lots other_pc seen given m sound parts none =
    any-least side taker min_lots min_pc other_lots other_pc m (read_of given)
    (subst (IsTaken side (take_of taker min_lots min_pc) m) (sym (read-of side given m parts))
    (taken-market side (take_of taker min_lots min_pc) seen m sound (sym (reason-given side (take_of taker min_lots min_pc) given m seen sound parts) ∙ none)))

-- a plan is the same with each least fill
pub any-plan : (side : Side) (taker : Taker) (min_lots min_pc other_lots other_pc : ℕ) (parts : TakeRead)
    → plan_in side (take_of taker min_lots min_pc) parts ≡ plan_in side (take_of taker other_lots other_pc) parts
any-plan Bid taker min_lots min_pc other_lots other_pc parts = refl
any-plan Ask taker min_lots min_pc other_lots other_pc parts = refl

moved-any : (side : Side) (taker : Taker) (min_lots min_pc : ℕ) (parts : TakeRead) (bytes : List ℕ)
    → bytes_after (moved_in side (bare_take taker) parts) (kept_of (bare_take taker) (meeting_in side (bare_take taker) parts)) bytes
    ≡ bytes_after (moved_in side (take_of taker min_lots min_pc) parts) (kept_of (take_of taker min_lots min_pc) (meeting_in side (take_of taker min_lots min_pc) parts)) bytes
moved-any Bid taker min_lots min_pc parts bytes = refl
moved-any Ask taker min_lots min_pc parts bytes = refl

-- what was decided can be done
pub can-be-done : (taker : Taker) (plan : TakePlan) (given : TakeGiven) (m : Market) → IsSound m → IsGivenOf taker.id_side given m → IsDecided plan taker (read_of given)
    → CanBeDone plan taker (read_of given)
can-be-done taker plan given m sound parts d =
    let is = taken taker.id_side taker d.min_lots d.min_pc 0 0 d.seen given m sound parts d.accepted in
    let planned : plan ≡ plan_in taker.id_side (bare_take taker) (read_of given) = d.planned ∙ any-plan taker.id_side taker d.min_lots d.min_pc 0 0 (read_of given) in
    record {
      planned = planned;
      size = is.size;
      room = is.room;
      counted = is.counted;
      can = is.can;
    }

-- the words that a take writes stand there
words-written : (moved : Transfers) (kept : ℕ) (bytes : List ℕ) → IsMarket bytes → CanExchange moved kept (market_words bytes) → (market_words bytes).referrer_rebates_accrued < 2 ^ 64
    → market_words (bytes_after moved kept bytes) ≡ words_after moved kept (market_words bytes)
words-written moved kept bytes accepted can rebates =
    let words : MarketWords = market_words bytes in
    (are-written (funds_after moved kept words) bytes accepted (record {
      coin_deposits = omega (arith, can.coin_in);
      pc_deposits = omega (arith, can.pc_in);
      pc_fees = can.fees;
      referrer_rebates = rebates;
    })).words

-- the parts with what is left of them, on either side
put-parts : (side : Side) (t : Take) (met : Meeting) (parts : MarketParts) (left : TakeGiven) (m : Market) → AreOf parts m
    → StandsForMarket left.market (after_take side t met m) → StandsForEvents left.events (after_take side t met m) → left.opposing ≡ met.left
    → AreOf (with_taken side left parts) (after_take side t met m)
put-parts Bid t met parts left m are market events opposing = record {
  market = market;
  requests = record { accepted = are.requests.accepted; next = are.requests.next };
  events = events;
  bids = are.bids;
  bid_room = are.bid_room;
  asks = opposing;
  ask_room = are.ask_room;
  traders = are.traders;
}
put-parts Ask t met parts left m are market events opposing = record {
  market = market;
  requests = record { accepted = are.requests.accepted; next = are.requests.next };
  events = events;
  bids = opposing;
  bid_room = are.bid_room;
  asks = are.asks;
  ask_room = are.ask_room;
  traders = are.traders;
}

-- what is left of the parts of a market, put back, is of the market after it
pub after-put : (plan : TakePlan) (taker : Taker) (min_lots min_pc : ℕ) (parts : MarketParts) (left : TakeGiven) (m : Market) → IsSound m → AreOf parts m
    → IsDone plan taker (take_given taker.id_side parts) left
    → AreOf (with_taken taker.id_side left parts) (after_take taker.id_side (take_of taker min_lots min_pc) (met_of taker.id_side (take_of taker min_lots min_pc) m) m)
after-put plan taker min_lots min_pc parts left m sound are done =
    let side : Side = taker.id_side in
    let t : Take = take_of taker min_lots min_pc in
    let before : TakeGiven = take_given side parts in
    let of : IsGivenOf side before m = given-of side parts m are in
    let d = done.decided in
    let is = taken side taker d.min_lots d.min_pc min_lots min_pc d.seen before m sound of d.accepted in
    let bare : Meeting = meeting_in side (bare_take taker) (read_of before) in
    let met : Meeting = meeting_in side t (read_of before) in
    let same : bare ≡ met = bare-meeting side (sizes_of (market_words parts.market)) taker min_lots min_pc before.opposing in
    let on : met ≡ met_of side t m = ap (λ (r : TakeRead). meeting_in side t r) (read-of side before m of) in
    let bytes : left.market ≡ bytes_after (moved_in side t (read_of before)) (kept_of t met) parts.market =
    ap (λ (g : TakeGiven). g.market) done.does ∙ moved-any side taker min_lots min_pc (read_of before) parts.market in
    let rebates : (market_words parts.market).referrer_rebates_accrued < 2 ^ 64 =
    omega (arith, ap (λ (w : MarketWords). w.referrer_rebates_accrued) are.market.words, sound.funds.solvent.vaults Pc, sound.funds.bounded Pc) in
    let words : market_words left.market ≡ words_of (after_take side t met m) =
    ap market_words bytes ∙ words-written (moved_in side t (read_of before)) (kept_of t met) parts.market are.market.accepted is.can rebates ∙ is.words in
    let opposing : left.opposing ≡ met.left = ap (λ (g : TakeGiven). g.opposing) done.does ∙ ap (λ (x : Meeting). x.left) same in
    let ring : ring_of left.events ≡ appended met.events (ring_of_market m) =
    done.list ∙ ap (λ (x : Meeting). appended x.events (ring_of parts.events)) same ∙ ap (appended met.events) are.events.ring in
    subst (λ (x : Meeting). AreOf (with_taken side left parts) (after_take side t x m)) on
    (put-parts side t met parts left m are (record { accepted = done.market_accepted; words = words }) (record { accepted = done.events_accepted; ring = ring }) opposing)
