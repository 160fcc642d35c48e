use Rattle.std.proofs.Common.{◌≡◌, ℕ, ◌+◌, [], ◌∷◌, ◌++◌, List, None, Some, length, sym, ap, ◌∙◌, subst, arith}
use Rattle.dex_world.proofs.Common.{Address, AllZip, AllZip-long, le-max_left}
use Rattle.dex_turns.proofs.Common.{AreInHand, CellState, HasEntry, HaveGrown, MayDraw, left_by, wallet_entries}
use Rattle.std.proofs.lemmas.List.{length-append}
use Rattle.std.proofs.Math.Nat.{le-max_right}
use Rattle.dex_world.proofs.MappedLists.{AllZip-last}
use Rattle.dex_turns.specs.Bank.{WalletGate}
use Rattle.dex_turns.specs.Turns.{left_of}
use Rattle.dex_turns.proofs.Growing.{three-same}
use Rattle.dex_turns.proofs.Taking.{Coming, above, coming, gate-at, have-grown, idle-at, may-leave, next-hand, next-places, next-ready, none-left, number-mid, rest-long, within-gates, within-mid, within-passes}
use Rattle.dex_turns.specs.Submitted.{Written}
use Rattle.dex_turns.proofs.at.At.+with_wallets.Given as given
use Rattle.dex_turns.proofs.at.At.+with_wallets.Goals.{After-first_of, After-take_from_hand-cell}
use Rattle.dex_turns.proofs.at.At.+with_wallets.Goals as goal

-- ---- before the turn

next : (g : given.Over) (t : ℕ) (c : After-first_of g t) (place : ℕ) → c.first_of.result ≡ Some place
    → Coming c.args.self.now.bank.now (g.A.Acts.named c.args.item.now) (g.A.Acts.lane c.args.item.now) c.args.wallets.now.hands.items c.args.wallets.now.passes.items c.args.others.now place
next g t c place is =
    coming c.args.self.now.bank.now (g.A.Acts.named c.args.item.now) (g.A.Acts.lane c.args.item.now) c.args.wallets.now.hands.items c.args.wallets.now.passes.items c.args.others.now place
    c.requires.bank c.requires.rising c.requires.hands c.requires.passes c.requires.others (sym c.first_of.ensures ∙ is)

pub wallet_gate-gate-requires : goal.wallet_gate-gate-requires
wallet_gate-gate-requires g t c = within-gates (next g t (goal.at.wallet_gate-gate-requires g t c).After-first_of c.in-Some.place c.in-Some.is)

pub take_wallet_at-cell-requires-clause-home : goal.take_wallet_at-cell-requires-clause-home
take_wallet_at-cell-requires-clause-home g t c =
    let coming = next g t (goal.at.take_wallet_at-cell-requires-clause-home g t c).After-first_of c.in-Some.place c.in-Some.is in
    record {
      within = within-passes coming;
      home = λ pass. gate-at coming c.wallet_gate-gate.result.now pass ∙ ap (λ (x : WalletGate). Some x) (sym (c.wallet_gate-gate.ensures c.wallet_gate-gate.result.now));
      idle = idle-at coming;
    }

pub take_wallet_at-cell-requires-clause-rising : goal.take_wallet_at-cell-requires-clause-rising
take_wallet_at-cell-requires-clause-rising g t c =
    above (next g t (goal.at.take_wallet_at-cell-requires-clause-rising g t c).After-first_of c.in-Some.place c.in-Some.is) c.wallet_gate-gate.result.now (c.wallet_gate-gate.ensures c.wallet_gate-gate.result.now)

pub push_reserved-requires : goal.push_reserved-requires
push_reserved-requires g t c =
    let long = rest-long c.args.others.now c.in-Some.place (sym c.first_of.ensures ∙ c.in-Some.is) in
    omega (arith, long, c.requires.room)

-- ---- the other wallets

pub with_wallets-made-requires : goal.with_wallets-made-requires
with_wallets-made-requires g t c κs within =
    let coming = next g t (goal.at.with_wallets-made-requires g t c).After-first_of c.in-Some.place c.in-Some.is in
    let gate_is = c.wallet_gate-gate.ensures c.wallet_gate-gate.result.now in
    let out = c.take_wallet_at-cell.ensures.out in
    let cell_is = c.take_wallet_at-cell.ensures.cell in
    let pushed = c.push_reserved.ensures.items in
    let long = rest-long c.args.others.now c.in-Some.place (sym c.first_of.ensures ∙ c.in-Some.is) in
    let hands_long : length c.push_reserved.new.self.items ≡ length c.args.wallets.now.hands.items + 1 =
    ap length pushed ∙ length-append c.args.wallets.now.hands.items (c.take_wallet_at-cell.result.0 ∷ []) in (
      omega (arith, long),
      (
        within.0,
        (
          within.1.0,
          (
            within.1.1.0,
            (
              within.1.1.1,
              (
                c.requires.bank,
                (
                  c.requires.placed,
                  (
                    c.requires.rising,
                    (
                      c.requires.ready,
                      (
                        omega (arith, c.requires.below, c.later-later.ensures, le-max_right c.take_wallet_at-cell.result.1.last c.args.stamp.now.number),
                        (
                          next-hand coming gate_is out cell_is pushed,
                          (
                            next-places coming gate_is out cell_is pushed,
                            (
                              next-ready coming gate_is out cell_is pushed,
                              omega (arith, long, hands_long, c.requires.room, c.push_reserved.ensures.capacity),
                            ),
                          ),
                        ),
                      ),
                    ),
                  ),
                ),
              ),
            ),
          ),
        ),
      ),
    )

pub take_from_hand-cell-requires : goal.take_from_hand-cell-requires
take_from_hand-cell-requires g t c =
    let hands_long : length c.push_reserved.new.self.items ≡ length c.args.wallets.now.hands.items + 1 =
    ap length c.push_reserved.ensures.items ∙ length-append c.args.wallets.now.hands.items (c.take_wallet_at-cell.result.0 ∷ []) in
    omega (arith, hands_long, AllZip-long (HasEntry (g.A.Acts.written c.args.item.now c.with_wallets-made.result)) c.push_reserved.new.self.items c.with_wallets-made.new.wallets.hands.items c.with_wallets-made.ensures.hands)

-- ---- behind them

pub index_mut-requires : goal.index_mut-requires
index_mut-requires g t c =
    let coming = next g t (goal.at.index_mut-requires g t c).After-first_of c.in-Some.place c.in-Some.is in
    let gate_is = c.wallet_gate-gate.ensures c.wallet_gate-gate.result.now in
    omega (
      arith,
      (within-mid coming gate_is c.take_wallet_at-cell.ensures.out c.take_wallet_at-cell.ensures.cell c.push_reserved.ensures.items
          (g.A.Acts.written c.args.item.now c.with_wallets-made.result) c.with_wallets-made.new.wallets.passes.items c.with_wallets-made.ensures.written.of_lane c.with_wallets-made.ensures.passes),
    )

-- the cells that were in hand before have their entries, and so has the one that was taken
entries : (g : given.Over) (t : ℕ) (c : After-take_from_hand-cell g t) → AllZip (HasEntry (g.A.Acts.written c.args.item.now c.with_wallets-made.result)) c.args.wallets.now.hands.items c.take_from_hand-cell.new.hands.items
    × HasEntry (g.A.Acts.written c.args.item.now c.with_wallets-made.result) c.take_wallet_at-cell.result.0 c.take_from_hand-cell.result
entries g t c =
    AllZip-last (HasEntry (g.A.Acts.written c.args.item.now c.with_wallets-made.result)) c.args.wallets.now.hands.items c.take_from_hand-cell.new.hands.items c.take_wallet_at-cell.result.0 c.take_from_hand-cell.result
    (subst (λ (l : List CellState). AllZip (HasEntry (g.A.Acts.written c.args.item.now c.with_wallets-made.result)) l (c.take_from_hand-cell.new.hands.items ++ c.take_from_hand-cell.result ∷ [])) c.push_reserved.ensures.items
    (subst (AllZip (HasEntry (g.A.Acts.written c.args.item.now c.with_wallets-made.result)) c.push_reserved.new.self.items) c.take_from_hand-cell.ensures.items c.with_wallets-made.ensures.hands))

pub leave_wallet-requires-clause-entry : goal.leave_wallet-requires-clause-entry
leave_wallet-requires-clause-entry g t c =
    let k = goal.at.leave_wallet-requires-clause-entry g t c in
    let gate_is = c.wallet_gate-gate.ensures c.wallet_gate-gate.result.now in
    let written : Written = g.A.Acts.written c.args.item.now c.with_wallets-made.result in (
      written,
      sym c.stamp-own.ensures,
      may-leave (next g t k.After-first_of c.in-Some.place c.in-Some.is) gate_is c.take_wallet_at-cell.ensures.out c.take_wallet_at-cell.ensures.cell c.push_reserved.ensures.items written
          c.with_wallets-made.new.wallets.passes.items c.with_wallets-made.ensures.written.of_lane c.with_wallets-made.ensures.passes c.index_mut.ensures.value c.take_from_hand-cell.result
          (entries g t k.After-take_from_hand-cell).1
          (omega (arith, c.with_wallets-made.ensures.written.later, c.later-later.ensures, le-max_left c.take_wallet_at-cell.result.1.last c.args.stamp.now.number)),
    )

pub leave_wallet-requires-clause-away : goal.leave_wallet-requires-clause-away
leave_wallet-requires-clause-away g t c =
    let coming = next g t (goal.at.leave_wallet-requires-clause-away g t c).After-first_of c.in-Some.place c.in-Some.is in
    let gate_is = c.wallet_gate-gate.ensures c.wallet_gate-gate.result.now in
    c.take_wallet_at-cell.ensures.away c.take_wallet_at-cell.ensures.out.out
    ∙ ap (λ (n : ℕ). record { gate = Some c.wallet_gate-gate.result.now; number = n; start = wallet_entries (left_by c.take_wallet_at-cell.result.1) })
    (sym (number-mid coming gate_is c.take_wallet_at-cell.ensures.out c.take_wallet_at-cell.ensures.cell c.push_reserved.ensures.items
    (g.A.Acts.written c.args.item.now c.with_wallets-made.result) c.with_wallets-made.new.wallets.passes.items c.with_wallets-made.ensures.written.of_lane c.with_wallets-made.ensures.passes c.index_mut.ensures.value))

pub returns-in-Some-clause-passes : goal.returns-in-Some-clause-passes
returns-in-Some-clause-passes g t c =
    let k = goal.at.returns-in-Some-clause-passes g t c in
    let gate_is = c.wallet_gate-gate.ensures c.wallet_gate-gate.result.now in
    let written : Written = g.A.Acts.written c.args.item.now c.with_wallets-made.result in
    have-grown (next g t k.After-first_of c.in-Some.place c.in-Some.is) gate_is c.take_wallet_at-cell.ensures.out c.take_wallet_at-cell.ensures.cell c.push_reserved.ensures.items written
    c.with_wallets-made.new.wallets.passes.items c.with_wallets-made.ensures.written.of_lane c.with_wallets-made.ensures.passes c.index_mut.ensures.value c.take_from_hand-cell.result
    (entries g t k.After-take_from_hand-cell).1
    (omega (arith, c.with_wallets-made.ensures.written.later, c.later-later.ensures, le-max_left c.take_wallet_at-cell.result.1.last c.args.stamp.now.number)) c.leave_wallet.new.pass
    (c.leave_wallet.ensures written (sym c.stamp-own.ensures))

pub returns-in-Some-clause-hands : goal.returns-in-Some-clause-hands
returns-in-Some-clause-hands g t c = (entries g t (goal.at.returns-in-Some-clause-hands g t c).After-take_from_hand-cell).0

-- ---- where no wallet is still to come

none : (g : given.Over) (t : ℕ) (c : After-first_of g t) → c.first_of.result ≡ None → left_of (g.A.Acts.named c.args.item.now) c.args.wallets.now.hands.items ≡ []
none g t c is =
    none-left c.args.self.now.bank.now (left_of (g.A.Acts.named c.args.item.now) c.args.wallets.now.hands.items) c.args.others.now c.requires.bank c.requires.others
    (sym c.first_of.ensures ∙ is)

pub act-requires-clause-hands : goal.act-requires-clause-hands
act-requires-clause-hands g t c =
    subst (λ (l : List Address). AreInHand c.args.self.now.bank.now.script (g.A.Acts.named c.args.item.now) l c.args.wallets.now.hands.items)
    (none g t (goal.at.act-requires-clause-hands g t c).After-first_of c.in-None.is) c.requires.hands

pub returns-in-None-clause-passes : goal.returns-in-None-clause-passes
returns-in-None-clause-passes g t c =
    let written : Written = g.A.Acts.written c.args.item.now c.act.result in
    subst (λ (l : List Address). HaveGrown c.args.self.now.bank.now l written c.args.wallets.now.passes.items c.args.wallets.now.passes.items)
    (sym (none g t (goal.at.returns-in-None-clause-passes g t c).After-first_of c.in-None.is))
    (three-same c.args.self.now.bank.now.script.start.wallets c.args.wallets.now.passes.items
    (AllZip-long (MayDraw c.args.self.now.bank.now.script (g.A.Acts.lane c.args.item.now) (left_of (g.A.Acts.named c.args.item.now) c.args.wallets.now.hands.items))
    c.args.self.now.bank.now.script.start.wallets c.args.wallets.now.passes.items c.requires.passes.each))
