-- worked examples of journals
use Rattle.std.proofs.Common.{lit≤, lit<, arith, ◌≡◌, ◌≤◌, ◌<◌, ℕ, List, [], ◌∷◌, Option, Some, None, refl, sym, ap, slice_index_or, codes}
use Rattle.std.specs.Prelude.{pos}
use Rattle.std.proofs.lemmas.Bool.{false≢true}
use Rattle.dex_types.specs.declared.addresses.Address.{Address}
use Rattle.dex_types.specs.declared.movements.Entry.{Entry}
use Rattle.dex_types.specs.declared.movements.MoveKind.{MoveKind}
use Rattle.dex_types.specs.declared.movements.MoveKind.TheVariants.{Probe, Debit, Credit}
use Rattle.dex_types.specs.declared.movements.Movement.{Movement}
use Rattle.dex_types.specs.declared.movements.WalletEntry.{WalletEntry}
use Rattle.dex_types.specs.declared.replies.Reply.{Reply}
use Rattle.dex_types.specs.declared.replies.Reply.TheVariants.{Ordered}
use Rattle.dex_types.specs.declared.rows.Seen.{Seen}
use Rattle.dex_types.specs.declared.rows.WalletSeen.{WalletSeen}
use Rattle.dex_types.specs.Fees.{taker_rate, maker_rate}
use Rattle.dex_types.specs.Meeting.{taken, demand_after}
use Rattle.dex_types.specs.Side.{price_of, sequence_of, id_of}
use Rattle.dex_types.specs.WalletJournal.{IsWalletLegal, balance_after}
use Rattle.dex_types.specs.Wallets.{address_seen}
use Rattle.dex_instruction.specs.Numbers.{number_at}
use Rattle.dex_instruction.specs.Reading.{decoded, instruction}
use Rattle.dex_instruction.specs.Rules.{broken}
use Rattle.dex_history.specs.Journal.{Agree, Asked, Call, IsLegal, Sees, Stands, asked_of, market_after, step_of}
use Rattle.dex_sound.proofs.ExampleMarket.{label, amy, ben, ann, bob, ann_coin, bob_coin, bob_usd, debit, sees, nothing, base, ask_sees, buy_sees, bought}

-- the data of ann's ask of 4 lots at 50, and of bob's immediate bid for 3 lots at 60
abbrev ask_data : List ℕ
ask_data = 0 ∷ 10 ∷ 0 ∷ 0 ∷ 0 ∷ 1 ∷ 0 ∷ 0 ∷ 0 ∷ 50 ∷ 0 ∷ 0 ∷ 0 ∷ 0 ∷ 0 ∷ 0 ∷ 0 ∷ 4 ∷ 0 ∷ 0 ∷ 0 ∷ 0 ∷ 0 ∷ 0 ∷ 0 ∷ 1 ∷ 0 ∷ 0 ∷ 0 ∷ 0 ∷ 0 ∷ 0 ∷ 0 ∷ 0 ∷ 0 ∷ 0 ∷ 0 ∷ 0 ∷ 0 ∷ 0 ∷ 0 ∷ 7 ∷ 0 ∷ 0 ∷ 0 ∷ 0 ∷ 0 ∷ 0 ∷ 0 ∷ 10 ∷ 0 ∷ []

abbrev buy_data : List ℕ
buy_data = 0 ∷ 10 ∷ 0 ∷ 0 ∷ 0 ∷ 0 ∷ 0 ∷ 0 ∷ 0 ∷ 60 ∷ 0 ∷ 0 ∷ 0 ∷ 0 ∷ 0 ∷ 0 ∷ 0 ∷ 3 ∷ 0 ∷ 0 ∷ 0 ∷ 0 ∷ 0 ∷ 0 ∷ 0 ∷ 208 ∷ 7 ∷ 0 ∷ 0 ∷ 0 ∷ 0 ∷ 0 ∷ 0 ∷ 0 ∷ 0 ∷ 0 ∷ 0 ∷ 1 ∷ 0 ∷ 0 ∷ 0 ∷ 8 ∷ 0 ∷ 0 ∷ 0 ∷ 0 ∷ 0 ∷ 0 ∷ 0 ∷ 10 ∷ 0 ∷ []

-- ann's ask and bob's bid, with their entries
abbrev ask_call : Call
ask_call = record {
  asked = asked_of (record {
    lane = 0;
    number = 12;
    market = label (codes "m");
    signer = ann;
    named = amy ∷ [];
    coin = Some (label (codes "ann_coin"));
    pc = None;
    discount = None;
    referrer = None;
    bytes = ask_data;
    now = pos 0;
  });
  seen = ask_sees 1000;
  entry = record { lane = 0; row = 12; reply = Ordered 0 922337203685477580800 0 0 0 4; moves = Some (debit (codes "ann_coin") 400 1000) ∷ None ∷ None ∷ None ∷ [] };
}

abbrev buy_call : Call
buy_call = record {
  asked = asked_of (record {
    lane = 1;
    number = 13;
    market = label (codes "m");
    signer = bob;
    named = ben ∷ [];
    coin = None;
    pc = Some (label (codes "bob_usd"));
    discount = None;
    referrer = None;
    bytes = buy_data;
    now = pos 0;
  });
  seen = buy_sees;
  entry = record { lane = 1; row = 13; reply = Ordered 0 1125251388496282648574 3 1500 4 0; moves = Some (debit (codes "bob_usd") 2000 5000) ∷ None ∷ None ∷ None ∷ [] };
}

-- what a row sees of the only wallet that it names
only : (row : Asked) (seen : Seen) → address_seen seen.coin ≡ row.coin → address_seen seen.pc ≡ row.pc → address_seen None ≡ row.discount
    → address_seen None ≡ row.referrer → Agree seen.coin seen.pc → Agree seen.coin None → Agree seen.pc None
    → Sees row (sees seen.coin seen.pc)
only row seen coin pc discount referrer both first other = record {
  coin = coin;
  pc = pc;
  discount = discount;
  referrer = referrer;
  coin_pc = both;
  coin_discount = first;
  coin_referrer = first;
  pc_discount = other;
  pc_referrer = other;
  discount_referrer = tt;
}

-- each stands at its place
ask_stands : Stands ask_call base
unfolding decoded broken instruction number_at taken demand_after price_of sequence_of id_of taker_rate maker_rate
ask_stands = record {
  market = refl;
  price = lit≤ tt;
  sees = only ask_call.asked ask_call.seen refl refl refl refl tt tt tt;
  held = λ is. absurd (false≢true is);
  entry = refl;
}

buy_stands : Stands buy_call (step_of ask_call base).market
unfolding decoded broken instruction number_at taken demand_after price_of sequence_of id_of taker_rate maker_rate
buy_stands = record {
  market = refl;
  price = lit≤ tt;
  sees = only buy_call.asked buy_call.seen refl refl refl refl tt tt tt;
  held = λ is. absurd (false≢true is);
  entry = refl;
}

-- one after the other they are a history of the market, and leave what the rows leave
is_history : IsLegal base (ask_call ∷ buy_call ∷ [])
unfolding decoded broken instruction number_at taken demand_after price_of sequence_of id_of taker_rate maker_rate
is_history = (ask_stands, (buy_stands, tt))

history_leaves : market_after base (ask_call ∷ buy_call ∷ []) ≡ bought.market
unfolding decoded broken instruction number_at taken demand_after price_of sequence_of id_of taker_rate maker_rate
history_leaves = refl

-- a debit of 150 and a credit of 50, from a balance of 400
abbrev moves : List WalletEntry
moves = record { market = label (codes "m"); lane = 0; row = 1; kind = Debit; amount = 150; before = 400 }
    ∷ record { market = label (codes "m"); lane = 0; row = 2; kind = Probe; amount = 0; before = 250 }
    ∷ record { market = label (codes "m"); lane = 0; row = 3; kind = Credit; amount = 50; before = 250 } ∷ []

are_legal : IsWalletLegal 400 moves
are_legal = (refl, (lit≤ tt, lit≤ tt), (refl, refl, (refl, (lit≤ tt, lit< tt), tt)))

leave_300 : balance_after 400 moves ≡ 300
leave_300 = refl

-- numbers that are not one
apart : (less more : ℕ) → less < more → less ≡ more → ⊥
apart less more h e = absurd (omega (arith, h, e))

-- the lots that an entry says were filled
abbrev filled_lots : Reply → ℕ
filled_lots (Ordered slot id lots pc fee rested) = lots
filled_lots _ = 0

-- the other way round they are none: there is no ask yet that bob's bid could have met
not_the_other_way : IsLegal base (buy_call ∷ ask_call ∷ []) → ⊥
unfolding decoded broken instruction number_at taken demand_after price_of sequence_of id_of taker_rate maker_rate
not_the_other_way legal = apart 0 3 (lit< tt) (sym (ap (λ (entry : Entry). filled_lots entry.reply) legal.0.entry))

-- nor with another amount moved, or with the entry of another lane
abbrev debits : List (Option Movement) → ℕ
debits (Some move ∷ others) = move.amount
debits _ = 0

not_with_less : IsLegal base (record ask_call { entry = record (ask_call.entry) { moves = Some (debit (codes "ann_coin") 399 1000) ∷ None ∷ None ∷ None ∷ [] } } ∷ []) → ⊥
unfolding decoded broken instruction number_at taken demand_after price_of sequence_of id_of taker_rate maker_rate
not_with_less legal = apart 399 400 (lit< tt) (ap (λ (entry : Entry). debits entry.moves) legal.0.entry)

not_of_another_lane : IsLegal base (record ask_call { entry = record (ask_call.entry) { lane = 1 } } ∷ []) → ⊥
unfolding decoded broken instruction number_at taken demand_after price_of sequence_of id_of taker_rate maker_rate
not_of_another_lane legal = apart 0 1 (lit< tt) (sym (ap (λ (entry : Entry). entry.lane) legal.0.entry))

-- the first byte of an address
abbrev initial : Option Address → ℕ
initial None = 0
initial (Some address) = slice_index_or address.0 0 0

-- nor where it saw a wallet that its row does not name, or did not see one that it names
not_of_another_wallet : IsLegal base (record ask_call { seen = sees (bob_coin 1000) None } ∷ []) → ⊥
not_of_another_wallet legal = apart 97 98 (lit< tt) (sym (ap initial legal.0.sees.coin))

not_of_no_wallet : IsLegal base (record ask_call { seen = nothing } ∷ []) → ⊥
not_of_no_wallet legal = absurd (let e = legal.0.sees.coin in cc)

not_of_one_more : IsLegal base (record ask_call { seen = sees (ann_coin 1000) (bob_usd 1) } ∷ []) → ⊥
not_of_one_more legal = absurd (let e = legal.0.sees.pc in cc)

-- nor where one wallet is seen with two balances
not_of_two_balances : Sees (record (ask_call.asked) { discount = Some (label (codes "ann_coin")) }) (record (ask_sees 1000) { discount = ann_coin 999 }) → ⊥
not_of_two_balances s = apart 999 1000 (lit< tt) (sym (ap (λ (wallet : WalletSeen). wallet.balance) (s.coin_discount refl)))

-- movements that are no wallet's: of another balance, of nothing, of more than there is, of too much, and a probe of
-- something
abbrev one_move : MoveKind → ℕ → ℕ → List WalletEntry
one_move kind amount before = record { market = label (codes "m"); lane = 0; row = 1; kind = kind; amount = amount; before = before } ∷ []

not_from_399 : IsWalletLegal 399 (one_move Debit 150 400) → ⊥
not_from_399 legal = apart 399 400 (lit< tt) (sym legal.0)

not_a_debit_of_nothing : IsWalletLegal 400 (one_move Debit 0 400) → ⊥
not_a_debit_of_nothing legal = absurd (let h : 1 ≤ 0 = legal.1.0 in omega (arith, h))

not_a_debit_of_more : IsWalletLegal 400 (one_move Debit 401 400) → ⊥
not_a_debit_of_more legal = absurd (let h : 401 ≤ 400 = legal.1.1 in omega (arith, h))

not_a_credit_of_nothing : IsWalletLegal 400 (one_move Credit 0 400) → ⊥
not_a_credit_of_nothing legal = absurd (let h : 1 ≤ 0 = legal.1.0 in omega (arith, h))

not_a_credit_past_2_64 : IsWalletLegal 400 (one_move Credit 18446744073709551216 400) → ⊥
not_a_credit_past_2_64 legal = absurd (let h : 18446744073709551616 < 18446744073709551616 = legal.1.1 in omega (arith, h))

not_a_probe_of_something : IsWalletLegal 400 (one_move Probe 1 400) → ⊥
not_a_probe_of_something legal = apart 0 1 (lit< tt) (sym legal.1)
