use Rattle.std.proofs.Common.{length, vec_len, sym, subst, rules, arith}
use Rattle.dex_serializable.proofs.Common.{calls_on, entries_on}
use Rattle.dex_replay.proofs.Common.{PlainScript}
use Rattle.dex_world.proofs.Common.{All-push, AllZip, AllZip-long, PlainAccount, PlainMarketAccounts, YieldsList-from_vec, YieldsList-turn}
use Rattle.dex_run.proofs.Common.{IsMarketGate, IsMarketPass, IsMarketPassAt, IsSeat, IsSeatOf, IsWalletGate, IsWalletPass, IsWalletPassAt, SeatState}
use Rattle.dex_run.proofs.ColumnLists.{columns-free, columns-none, columns-room}
use Rattle.dex_run.proofs.ClosingPasses.{one-each, one-more}
use Rattle.dex_run.proofs.closing.hand_out_all.Goals as goal

pub loop-seat-init : goal.loop-seat-init
loop-seat-init c = record {
  markets = columns-none IsMarketPassAt c.args.bank.now.script.start.markets c.args.bank.now.markets c.args.markets.now.items
      (AllZip-long (IsMarketGate c.args.bank.now.script) c.args.bank.now.script.start.markets c.args.bank.now.markets c.requires.bank.markets) c.requires.markets.so_many c.requires.markets.empty;
  market_room = c.requires.markets.enough;
  wallets = columns-none IsWalletPassAt c.args.bank.now.script.start.wallets c.args.bank.now.wallets c.args.wallets.now.items
      (AllZip-long (IsWalletGate c.args.bank.now.script) c.args.bank.now.script.start.wallets c.args.bank.now.wallets c.requires.bank.wallets) c.requires.wallets.so_many c.requires.wallets.empty;
  wallet_room = c.requires.wallets.enough;
  kept = search rules;
}

pub hand_out-requires-clause-count : goal.hand_out-requires-clause-count
hand_out-requires-clause-count c =
    let turn = YieldsList-turn (YieldsList-from_vec c.args.seats.items c.into_iter-seat-iterator.ensures.into_iter_gives.0 (search rules)) c.loop-seat.yielded c.loop-seat.seat-iterator c.loop-seat.yielded_by
    c.next.result c.next.new.self c.in-Some.seat c.in-Some.is c.next.ensures.steps in
    let of : IsSeatOf c.args.bank.now c.in-Some.seat = subst (λ (seat : SeatState). IsSeatOf c.args.bank.now seat) (sym turn.1) (c.requires.seats (length c.loop-seat.yielded) c.in-Some.seat turn.0) in
    omega (
      arith,
      c.into_passes-own.result.0.ok.0,
      one-each (λ (start : PlainMarketAccounts) (seat : SeatState). calls_on start.address seat.calls) c.args.bank.now.script.start.markets c.args.bank.now.markets c.in-Some.seat c.in-Some.seat.markets
          c.into_passes-own.result.0.items c.into_passes-own.ensures.markets of.markets c.loop-seat.yielded c.loop-seat.markets.items c.loop-seat.invariant.markets,
    )

pub hand_out-requires-clause-room : goal.hand_out-requires-clause-room
hand_out-requires-clause-room c =
    let turn = YieldsList-turn (YieldsList-from_vec c.args.seats.items c.into_iter-seat-iterator.ensures.into_iter_gives.0 (search rules)) c.loop-seat.yielded c.loop-seat.seat-iterator c.loop-seat.yielded_by
    c.next.result c.next.new.self c.in-Some.seat c.in-Some.is c.next.ensures.steps in
    columns-free IsMarketPassAt (vec_len c.args.seats) c.args.bank.now.script.start.markets c.args.bank.now.markets c.loop-seat.yielded c.loop-seat.markets.items c.loop-seat.invariant.markets
    c.loop-seat.invariant.market_room (omega (arith, turn.0, c.args.seats.ok.0))

pub hand_out-requires-in-loop-seat-clause-count : goal.hand_out-requires-in-loop-seat-clause-count
hand_out-requires-in-loop-seat-clause-count c =
    let turn = YieldsList-turn (YieldsList-from_vec c.args.seats.items c.into_iter-seat-iterator.ensures.into_iter_gives.0 (search rules)) c.loop-seat.yielded c.loop-seat.seat-iterator c.loop-seat.yielded_by
    c.next.result c.next.new.self c.in-Some.seat c.in-Some.is c.next.ensures.steps in
    let of : IsSeatOf c.args.bank.now c.in-Some.seat = subst (λ (seat : SeatState). IsSeatOf c.args.bank.now seat) (sym turn.1) (c.requires.seats (length c.loop-seat.yielded) c.in-Some.seat turn.0) in
    omega (
      arith,
      c.into_passes-own.result.1.ok.0,
      one-each (λ (start : PlainAccount) (seat : SeatState). entries_on start.address seat.calls) c.args.bank.now.script.start.wallets c.args.bank.now.wallets c.in-Some.seat c.in-Some.seat.wallets
          c.into_passes-own.result.1.items c.into_passes-own.ensures.wallets of.wallets c.loop-seat.yielded c.loop-seat.wallets.items c.loop-seat.invariant.wallets,
    )

pub hand_out-requires-in-loop-seat-clause-room : goal.hand_out-requires-in-loop-seat-clause-room
hand_out-requires-in-loop-seat-clause-room c =
    let turn = YieldsList-turn (YieldsList-from_vec c.args.seats.items c.into_iter-seat-iterator.ensures.into_iter_gives.0 (search rules)) c.loop-seat.yielded c.loop-seat.seat-iterator c.loop-seat.yielded_by
    c.next.result c.next.new.self c.in-Some.seat c.in-Some.is c.next.ensures.steps in
    columns-free IsWalletPassAt (vec_len c.args.seats) c.args.bank.now.script.start.wallets c.args.bank.now.wallets c.loop-seat.yielded c.loop-seat.wallets.items c.loop-seat.invariant.wallets
    c.loop-seat.invariant.wallet_room (omega (arith, turn.0, c.args.seats.ok.0))

pub loop-seat-preserved : goal.loop-seat-preserved
loop-seat-preserved c =
    let turn = YieldsList-turn (YieldsList-from_vec c.args.seats.items c.into_iter-seat-iterator.ensures.into_iter_gives.0 (search rules)) c.loop-seat.yielded c.loop-seat.seat-iterator c.loop-seat.yielded_by
    c.next.result c.next.new.self c.in-Some.seat c.in-Some.is c.next.ensures.steps in
    let of : IsSeatOf c.args.bank.now c.in-Some.seat = subst (λ (seat : SeatState). IsSeatOf c.args.bank.now seat) (sym turn.1) (c.requires.seats (length c.loop-seat.yielded) c.in-Some.seat turn.0) in
    record {
      markets = one-more (λ (start : PlainMarketAccounts) (seat : SeatState). calls_on start.address seat.calls) c.args.bank.now.script.start.markets c.args.bank.now.markets c.in-Some.seat c.in-Some.seat.markets
          c.into_passes-own.result.0.items c.into_passes-own.ensures.markets of.markets c.loop-seat.yielded c.loop-seat.markets.items c.loop-seat.invariant.markets c.hand_out.new.columns.items
          (subst (λ (s : PlainScript). AllZip (IsMarketPass c.in-Some.seat.lane c.in-Some.seat.calls) s.start.markets c.in-Some.seat.markets) of.script c.into_passes-own.ensures.kept.markets) c.hand_out.ensures;
      market_room = columns-room (vec_len c.args.seats) c.loop-seat.markets.items c.hand_out.new.columns.items c.into_passes-own.result.0.items c.hand_out.ensures c.loop-seat.invariant.market_room;
      wallets = one-more (λ (start : PlainAccount) (seat : SeatState). entries_on start.address seat.calls) c.args.bank.now.script.start.wallets c.args.bank.now.wallets c.in-Some.seat c.in-Some.seat.wallets
          c.into_passes-own.result.1.items c.into_passes-own.ensures.wallets of.wallets c.loop-seat.yielded c.loop-seat.wallets.items c.loop-seat.invariant.wallets c.hand_out-in-loop-seat.new.columns.items
          (subst (λ (s : PlainScript). AllZip (IsWalletPass c.in-Some.seat.lane c.in-Some.seat.calls) s.start.wallets c.in-Some.seat.wallets) of.script c.into_passes-own.ensures.kept.wallets)
          c.hand_out-in-loop-seat.ensures;
      wallet_room = columns-room (vec_len c.args.seats) c.loop-seat.wallets.items c.hand_out-in-loop-seat.new.columns.items c.into_passes-own.result.1.items c.hand_out-in-loop-seat.ensures c.loop-seat.invariant.wallet_room;
      kept = All-push IsSeat c.loop-seat.yielded c.in-Some.seat c.loop-seat.invariant.kept c.into_passes-own.ensures.kept;
    }
