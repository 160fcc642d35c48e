-- worked examples of worth and of the eager market
use Rattle.std.proofs.Common.{ℕ, ◌≡◌, pos, negsuc, List, [], ◌∷◌, Some, None, refl, codes}
use Rattle.dex_types.specs.declared.instructions.Ix.TheVariants.{CancelOrderV2}
use Rattle.dex_types.specs.declared.rows.Seen.{Seen}
use Rattle.dex_types.specs.declared.terms.OrderType.TheVariants.{Limit, Ioc}
use Rattle.dex_types.specs.declared.terms.SelfTrade.TheVariants.{Decrement}
use Rattle.dex_types.specs.declared.terms.Side.TheVariants.{Bid, Ask}
use Rattle.dex_types.specs.Fees.{taker_rate, maker_rate}
use Rattle.dex_types.specs.Market.{Market}
use Rattle.dex_types.specs.Meeting.{taken, demand_after}
use Rattle.dex_types.specs.Requests.{Request}
use Rattle.dex_types.specs.Side.{price_of, sequence_of, id_of}
use Rattle.dex_types.specs.Steps.{Step, step}
use Rattle.dex_sound.proofs.ExampleMarket.{label, amy, ben, ann, bob, row, new, wallet, ann_usd, bob_coin, bob_usd, sees, nothing, resting, base, ask_row, ask_sees, asked, buy_row, buy_sees, bought, consume}
use Rattle.dex_eager.specs.Eager.{Eager, EagerStep, eager_at, eager_step}
use Rattle.dex_eager.specs.Worth.{Ledger, no_moves, with_step, worth_of, takings_of}

-- amy asks 4 lots at 50, and ben buys 3 of them, for 1500 and a fee of 4
abbrev moved : Ledger
moved = with_step (ben ∷ []) bought (with_step (amy ∷ []) asked no_moves)

amy_sold : worth_of amy bought.market moved ≡ record { coin = negsuc 299; pc = pos 1500 }
unfolding taken demand_after price_of sequence_of id_of taker_rate maker_rate
amy_sold = refl

ben_bought : worth_of ben bought.market moved ≡ record { coin = pos 300; pc = negsuc 1503 }
unfolding taken demand_after price_of sequence_of id_of taker_rate maker_rate
ben_bought = refl

fee_taken : takings_of bought.market moved ≡ 4
unfolding taken demand_after price_of sequence_of id_of taker_rate maker_rate
fee_taken = refl

-- a crank of one event or of all changes none of it
abbrev cranked : ℕ → Step
cranked count = consume count (amy ∷ ben ∷ []) bought.market

abbrev cranked_moves : ℕ → Ledger
cranked_moves count = with_step (amy ∷ ben ∷ []) (cranked count) moved

amy_cranked : worth_of amy (cranked 1).market (cranked_moves 1) ≡ record { coin = negsuc 299; pc = pos 1500 }
unfolding taken demand_after price_of sequence_of id_of taker_rate maker_rate
amy_cranked = refl

ben_cranked : worth_of ben (cranked 3).market (cranked_moves 3) ≡ record { coin = pos 300; pc = negsuc 1503 }
unfolding taken demand_after price_of sequence_of id_of taker_rate maker_rate
ben_cranked = refl

fee_cranked : takings_of (cranked 3).market (cranked_moves 3) ≡ 4
unfolding taken demand_after price_of sequence_of id_of taker_rate maker_rate
fee_cranked = refl

-- the eager market pays at once what they come to
abbrev traded : EagerStep
traded = eager_step buy_row buy_sees (eager_step ask_row (ask_sees 1000) (eager_at base no_moves)).market

eager_worths : traded.market.worths ≡ (amy, record { coin = negsuc 299; pc = pos 1500 }) ∷ (ben, record { coin = pos 300; pc = negsuc 1503 }) ∷ []
unfolding taken demand_after price_of sequence_of id_of taker_rate maker_rate
eager_worths = refl

eager_takings : traded.market.takings ≡ 4
unfolding taken demand_after price_of sequence_of id_of taker_rate maker_rate
eager_takings = refl

-- a longer history, in whose end all kinds of events wait: bids with a discount are filled, asks too, an own order is
-- taken, one is cancelled
abbrev discounted : Seen
discounted = record (sees None (ann_usd 50000)) { discount = wallet (codes "ann_msrm") (label (codes "msrm")) ann 1; msrm = Some (label (codes "msrm")) }

abbrev rows : List (Request × Seen)
rows =
    (row (new Bid 100 20 30000 Decrement Limit 1 10) ann (amy ∷ []), discounted)
    ∷ (row (new Ask 90 15 1 Decrement Ioc 2 10) bob (ben ∷ []), sees (bob_coin 50000) None)
    ∷ (row (new Ask 110 50 1 Decrement Limit 3 10) bob (ben ∷ []), sees (bob_coin 50000) None)
    ∷ (row (new Bid 110 20 30000 Decrement Ioc 4 10) ann (amy ∷ []), sees None (ann_usd 50000))
    ∷ (row (new Bid 110 4 5000 Decrement Limit 5 10) bob (ben ∷ []), sees None (bob_usd 50000))
    ∷ (row (new Bid 80 3 2400 Decrement Limit 6 10) bob (ben ∷ []), sees None (bob_usd 50000))
    ∷ (row (CancelOrderV2 Bid 1863121151444664713215) ann (amy ∷ []), nothing)
    ∷ []

-- a market and what moved so far, after rows
record Place : Type 0 where
  market : Market
  moves : Ledger

abbrev after_rows : List (Request × Seen) → Place → Place
after_rows [] place = place
after_rows (one ∷ others) place =
    let s : Step = step one.0 one.1 place.market in after_rows others (record { market = s.market; moves = with_step one.0.named s place.moves })

abbrev eager_after_rows : List (Request × Seen) → Eager → Eager
eager_after_rows [] e = e
eager_after_rows (one ∷ others) e = eager_after_rows others (eager_step one.0 one.1 e).market

abbrev busy : Place
busy = after_rows rows (record { market = base; moves = no_moves })

amy_busy : worth_of amy busy.market busy.moves ≡ record { coin = pos 3500; pc = negsuc 37041 }
unfolding taken demand_after price_of sequence_of id_of taker_rate maker_rate
amy_busy = refl

ben_busy : worth_of ben busy.market busy.moves ≡ record { coin = negsuc 3499; pc = pos 36973 }
unfolding taken demand_after price_of sequence_of id_of taker_rate maker_rate
ben_busy = refl

takings_busy : takings_of busy.market busy.moves ≡ 69
unfolding taken demand_after price_of sequence_of id_of taker_rate maker_rate
takings_busy = refl

abbrev busy_eager : Eager
busy_eager = eager_after_rows rows (eager_at base no_moves)

eager_busy : (busy_eager.worths ≡ (amy, record { coin = pos 3500; pc = negsuc 37041 }) ∷ (ben, record { coin = negsuc 3499; pc = pos 36973 }) ∷ [])
    × (busy_eager.takings ≡ 69) × (busy_eager.next_sequence ≡ 6) × (resting busy_eager.bids ≡ (id_of Bid 80 5 ∷ 3 ∷ []) ∷ []) × (resting busy_eager.asks ≡ (id_of Ask 110 2 ∷ 26 ∷ []) ∷ [])
unfolding taken demand_after price_of sequence_of id_of taker_rate maker_rate
eager_busy = (refl, refl, refl, refl, refl)
