-- a worked history: an ask, a row that is refused, a bid that fills it, and a crank
use Rattle.std.proofs.Common.{ℕ, ◌≡◌, pos, negsuc, List, [], ◌∷◌, None, map, refl, codes}
use Rattle.dex_types.specs.declared.addresses.Address.{Address}
use Rattle.dex_types.specs.declared.refusals.Refusal.TheVariants.{NoAccount}
use Rattle.dex_types.specs.declared.replies.Reply.{Reply}
use Rattle.dex_types.specs.declared.replies.Reply.TheVariants.{Ordered, Consumed, Refused}
use Rattle.dex_types.specs.declared.rows.Seen.{Seen}
use Rattle.dex_types.specs.declared.terms.Side.TheVariants.{Ask}
use Rattle.dex_types.specs.Fees.{taker_rate, maker_rate}
use Rattle.dex_types.specs.Meeting.{taken, demand_after}
use Rattle.dex_types.specs.QueuedEvent.{MakerFill}
use Rattle.dex_types.specs.Side.{Coin, Pc, price_of, sequence_of, id_of}
use Rattle.dex_instruction.specs.Numbers.{number_at}
use Rattle.dex_instruction.specs.Reading.{decoded, instruction}
use Rattle.dex_instruction.specs.Rules.{broken}
use Rattle.dex_history.specs.Journal.{Call, asked_of, market_after}
use Rattle.dex_sound.proofs.ExampleMarket.{label, amy, ben, ann, bob, base, ask_sees, buy_sees, nothing}
use Rattle.dex_eager.specs.Histories.{Fill, counted, eager_end, eager_fills, eager_start, fills_of, moves_of}
use Rattle.dex_eager.specs.Worth.{worth_of}

abbrev ask_data : List ℕ
ask_data = 0 ∷ 10 ∷ 0 ∷ 0 ∷ 0 ∷ 1 ∷ 0 ∷ 0 ∷ 0 ∷ 50 ∷ 0 ∷ 0 ∷ 0 ∷ 0 ∷ 0 ∷ 0 ∷ 0 ∷ 4 ∷ 0 ∷ 0 ∷ 0 ∷ 0 ∷ 0 ∷ 0 ∷ 0 ∷ 1 ∷ 0 ∷ 0 ∷ 0 ∷ 0 ∷ 0 ∷ 0 ∷ 0 ∷ 0 ∷ 0 ∷ 0 ∷ 0 ∷ 0 ∷ 0 ∷ 0 ∷ 0 ∷ 7 ∷ 0 ∷ 0 ∷ 0 ∷ 0 ∷ 0 ∷ 0 ∷ 0 ∷ 10 ∷ 0 ∷ []

abbrev buy_data : List ℕ
buy_data = 0 ∷ 10 ∷ 0 ∷ 0 ∷ 0 ∷ 0 ∷ 0 ∷ 0 ∷ 0 ∷ 60 ∷ 0 ∷ 0 ∷ 0 ∷ 0 ∷ 0 ∷ 0 ∷ 0 ∷ 3 ∷ 0 ∷ 0 ∷ 0 ∷ 0 ∷ 0 ∷ 0 ∷ 0 ∷ 208 ∷ 7 ∷ 0 ∷ 0 ∷ 0 ∷ 0 ∷ 0 ∷ 0 ∷ 0 ∷ 0 ∷ 0 ∷ 0 ∷ 1 ∷ 0 ∷ 0 ∷ 0 ∷ 8 ∷ 0 ∷ 0 ∷ 0 ∷ 0 ∷ 0 ∷ 0 ∷ 0 ∷ 10 ∷ 0 ∷ []

abbrev crank_data : List ℕ
crank_data = 0 ∷ 3 ∷ 0 ∷ 0 ∷ 0 ∷ 5 ∷ 0 ∷ []

abbrev call : ℕ → Address → List Address → List ℕ → Seen → Reply → Call
call number signer named bytes seen reply = record {
  asked = asked_of (record {
    lane = 0;
    number = number;
    market = label (codes "m");
    signer = signer;
    named = named;
    coin = None;
    pc = None;
    discount = None;
    referrer = None;
    bytes = bytes;
    now = pos 0;
  });
  seen = seen;
  entry = record { lane = 0; row = number; reply = reply; moves = [] };
}

abbrev history : List Call
history =
    call 12 ann (amy ∷ []) ask_data (ask_sees 1000) (Ordered 0 922337203685477580800 0 0 0 4)
    ∷ call 13 bob [] buy_data buy_sees (Refused NoAccount)
    ∷ call 14 bob (ben ∷ []) buy_data buy_sees (Ordered 0 1125251388496282648574 3 1500 4 0)
    ∷ call 15 bob (amy ∷ ben ∷ []) crank_data nothing (Consumed 3)
    ∷ []

-- two of the calls count
two_count : map (λ (one : Call). one.asked.number) (counted history) ≡ 12 ∷ 14 ∷ []
unfolding decoded broken instruction number_at
two_count = refl

-- the fill of row 14, in slot 0
abbrev fill : Fill
fill = record {
  row = 14;
  event = record {
    kind = MakerFill Ask;
    slot = 0;
    tier = 0;
    released = 1500;
    paid = 300;
    fee_or_rebate = 0;
    id = 922337203685477580800;
    owner = amy;
    client = 7;
  };
}

one_fill : fills_of base history ≡ fill ∷ []
unfolding decoded broken instruction number_at taken demand_after price_of sequence_of id_of taker_rate maker_rate
one_fill = refl

one_eager_fill : eager_fills (eager_start base) (counted history) ≡ fill ∷ []
unfolding decoded broken instruction number_at taken demand_after price_of sequence_of id_of taker_rate maker_rate
one_eager_fill = refl

-- amy deposited 400 base and ben 2000 quote, and nothing was settled; with that, what each is worth
moved : (moves_of base history).deposited Coin amy ∷ (moves_of base history).deposited Pc amy ∷ (moves_of base history).deposited Coin ben
    ∷ (moves_of base history).deposited Pc ben ∷ (moves_of base history).settled Pc ben ∷ [] ≡ 400 ∷ 0 ∷ 0 ∷ 2000 ∷ 0 ∷ []
unfolding decoded broken instruction number_at taken demand_after price_of sequence_of id_of taker_rate maker_rate
moved = refl

amy_worth : worth_of amy (market_after base history) (moves_of base history) ≡ record { coin = negsuc 299; pc = pos 1500 }
unfolding decoded broken instruction number_at taken demand_after price_of sequence_of id_of taker_rate maker_rate
amy_worth = refl

eager_worths : (eager_end base history).worths ≡ (amy, record { coin = negsuc 299; pc = pos 1500 }) ∷ (ben, record { coin = pos 300; pc = negsuc 1503 }) ∷ []
unfolding decoded broken instruction number_at taken demand_after price_of sequence_of id_of taker_rate maker_rate
eager_worths = refl
