use Rattle.std.proofs.Common.{false, List, sym, ap, ◌∙◌, subst, arith}
use Rattle.dex_world.proofs.Common.{AllZip, false≢true, row_of, row_wallets, seen_by, with_items_is}
use Rattle.dex_turns.proofs.Common.{CellState, HasCall, HasEntry, Stamped}
use Rattle.dex_cell.specs.CellState.{market_at}
use Rattle.dex_history.specs.Journal.{Call, is_held}
use Rattle.dex_stamps.specs.declared.stamp.Stamp.{Stamp}
use Rattle.dex_act.specs.Steps.{Terms}
use Rattle.dex_act.specs.Steps.{HasWallets, IsStepOn, made_by, world_in_hand}
use Rattle.dex_act.specs.Wallets.{ArePlacesAmong}
use Rattle.dex_act.proofs.InHand.{in-hand}
use Rattle.dex_turns.specs.Inside.{call_made, written_of}
use Rattle.dex_turns.specs.Submitted.{written_by}
use Rattle.dex_turns.specs.Turns.{HasRowActed, IsTold, place_of}
use Rattle.dex_turns.proofs.Acted.{call-is, has-call, held-is, is-told, row-entries}
use Rattle.dex_turns.proofs.InHand.{hands-are, has-hands, has-wallets}
use Rattle.dex_turns.proofs.Rising.{row-rising}
use Rattle.dex_turns.proofs.alone.RowAloneActs.act.Given as given
use Rattle.dex_turns.proofs.alone.RowAloneActs.act.Goals.{After-of}
use Rattle.dex_turns.proofs.alone.RowAloneActs.act.Goals as goal

pub step-done-requires : goal.step-done-requires
step-done-requires g c =
    let row = row_of c.args.self.now.row.now in
    let script = c.args.bank.now.script in
    let cells : List CellState = c.args.hands.now.items in
    let at = in-hand row c.args.self.now.places.now.wallets (place_of script) cells (hands-are script (row_wallets row) cells c.requires.hands) c.requires.placed.wallets in
    record {
      on = c.requires.ready.on;
      lane = c.requires.ready.lane;
      above = omega (arith, c.requires.below, c.next-stamp.ensures);
      wallets =
          subst (HasWallets row c.in_hand.result) (sym c.deref_mut.ensures.value)
          (has-wallets script row cells (has-hands script (row_wallets row) cells c.requires.hands (row-rising row)) c.in_hand.result (subst (ArePlacesAmong cells row) (sym c.in_hand.ensures) at));
    }

-- the market has its call, and each cell in hand its entry
acted : (g : given.Over) (c : After-of g) → HasRowActed c.args.bank.now.script (call_made (c.args.self.now.row.now, c.of.result)) c.args.market.now c.step-done.new.self
    × AllZip (HasEntry (written_of (c.args.self.now.row.now, c.of.result))) c.args.hands.now.items c.step-done.new.wallets
acted g c =
    let row = row_of c.args.self.now.row.now in
    let script = c.args.bank.now.script in
    let cells : List CellState = c.args.hands.now.items in
    let hand = has-hands script (row_wallets row) cells c.requires.hands (row-rising row) in
    let done = c.step-done.result in
    let m = market_at c.args.market.now.cell in
    let stamp = c.next-stamp.result.number in
    let step = subst
    (λ (ws : List CellState). IsStepOn c.terms.result.now row false done c.args.market.now.cell c.step-done.new.self.cell ws c.step-done.new.wallets)
    c.deref_mut.ensures.value c.step-done.ensures.step in
    let call =
    call-is c.args.self.now.row.now c.of.result done false m c.of.ensures.seen c.of.ensures.entry step.recorded
    ∙ ap (λ (s : Stamp). record { item = made_by false row done.seen.value m; stamp = s.number }) c.of.ensures.stamp in (
      record {
        own =
            ap (λ (call : Stamped Call). is_held call.item) call
            ∙ held-is false row done.seen.value m (record { take = λ is. absurd (false≢true is); spared = λ is. absurd (false≢true is) });
        told =
            subst (IsTold script) (sym call)
            (is-told script row cells done.seen.value hand (step.seen ∙ ap (λ (terms : Terms). seen_by row (world_in_hand terms cells)) c.terms.ensures.terms) step.sees false m stamp);
        market =
            subst (λ (call : Stamped Call). HasCall call c.args.market.now c.step-done.new.self) (sym call)
            (has-call c.terms.result.now row false done stamp c.args.market.now c.step-done.new.self cells c.step-done.new.wallets step c.step-done.ensures.stamped
            c.step-done.ensures.kept);
      },
      subst (λ (call : Stamped Call). AllZip (HasEntry (written_by call)) cells c.step-done.new.wallets) (sym call)
          (row-entries script row done.seen.value false m stamp cells c.step-done.new.wallets c.requires.hands step.sees step.did.wallets),
    )

pub returns-clause-did : goal.returns-clause-did
returns-clause-did g c = (acted g (goal.at.returns-clause-did g c).After-of).0

pub returns-clause-hands : goal.returns-clause-hands
returns-clause-hands g c =
    subst (AllZip (HasEntry (written_of (c.args.self.now.row.now, c.of.result))) c.args.hands.now.items)
    (sym (with_items_is c.args.hands.now c.step-done.new.wallets (omega (arith, c.step-done.auto.wallets, c.deref_mut.ensures.len))))
    (acted g (goal.at.returns-clause-hands g c).After-of).1
