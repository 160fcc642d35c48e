use Rattle.std.proofs.Common.{◌≡◌, ℕ, Bool, ◌&&◌, not, List, refl, sym, ap, ◌∙◌, subst, arith}
use Rattle.dex_world.proofs.Common.{AllZip, Call, Market, PlainRow, Seen, row_of, seen_by, with_items_is}
use Rattle.dex_turns.proofs.Common.{CellState, HasCall, HasEntry, MarketCellState, PlainScript, Stamped, call_made, terms_of}
use Rattle.dex_cell.specs.CellState.{market_at}
use Rattle.dex_history.specs.Journal.{is_done, is_held, is_refused, is_took}
use Rattle.dex_stamps.specs.declared.stamp.Stamp.{Stamp}
use Rattle.dex_act.specs.declared.places.WalletPlaces.{WalletPlaces}
use Rattle.dex_act.specs.Steps.{Terms}
use Rattle.dex_act.specs.declared.steps.Legs.{Legs}
use Rattle.dex_act.specs.Steps.{AreStepsOn, HasWallets, IsTakeOrRefused, made_by, world_in_hand}
use Rattle.dex_act.specs.Wallets.{ArePlacesAmong}
use Rattle.dex_turns.specs.Legs.{legs_written}
use Rattle.dex_turns.specs.Submitted.{written_by_two}
use Rattle.dex_turns.specs.Turns.{HaveLegsActed, IsTold, leg_wallets, place_of}
use Rattle.dex_turns.proofs.Acted.{all-or-none, call-is, has-call, held-is, is-told, leg-waits, refused-is, take-or-refused}
use Rattle.dex_turns.proofs.InHand.{hands-are, has-hands, has-wallets}
use Rattle.dex_turns.proofs.LegHands.{legs-at, legs-entries}
use Rattle.dex_turns.proofs.LegReplies.{done-is, leg-replies, took-is}
use Rattle.dex_turns.proofs.LegNames.{each-named}
use Rattle.dex_turns.proofs.Rising.{legs-rising}
use Rattle.dex_turns.proofs.legs.SwapLegsActs.act.Given as given
use Rattle.dex_turns.proofs.legs.SwapLegsActs.act.Goals.{After-of-2}
use Rattle.dex_turns.proofs.legs.SwapLegsActs.act.Goals as goal

-- ---- before they act

-- a leg is a take, or is refused
take : (script : PlainScript) (row : PlainRow) (market : MarketCellState) (cells : List CellState) (terms : Terms) → terms ≡ terms_of script
    → IsTakeOrRefused (terms_of script) row market cells → IsTakeOrRefused terms row market cells
take script row market cells terms is told = subst (λ (t : Terms). IsTakeOrRefused t row market cells) (sym is) told

pub step_two-one-requires : goal.step_two-one-requires
step_two-one-requires g c =
    let script = c.args.bank.now.script in
    let first = row_of c.args.self.now.first.now in
    let second = row_of c.args.self.now.second.now in
    let legs = c.requires.ready.legs in
    let cells : List CellState = c.args.hands.now.items in
    let hand = has-hands script (leg_wallets first second) cells c.requires.hands (legs-rising first second) in
    let at = legs-at first second legs c.args.self.now.wallets (place_of script) cells (hands-are script (leg_wallets first second) cells c.requires.hands) c.requires.placed.wallets in
    let second_at : WalletPlaces → WalletPlaces = λ at. record { coin = at.discount; pc = at.referrer; discount = at.discount; referrer = at.referrer } in
    record {
      first_may = record {
        on = c.requires.ready.first_may.on;
        lane = c.requires.ready.first_may.lane;
        above = omega (arith, c.requires.below, c.next-one_stamp.ensures);
        wallets =
            subst (HasWallets first c.in_hand-at.result) (sym c.deref_mut.ensures.value)
            (has-wallets script first cells hand c.in_hand-at.result (subst (ArePlacesAmong cells first) (sym c.in_hand-at.ensures) at.0));
      };
      second_may = record {
        on = c.requires.ready.second_may.on;
        lane = c.requires.ready.second_may.lane;
        above = omega (arith, c.requires.below, c.next-one_stamp.ensures);
        wallets =
            subst (HasWallets second (second_at c.in_hand-at.result)) (sym c.deref_mut.ensures.value)
            (has-wallets script second cells hand (second_at c.in_hand-at.result) (subst (ArePlacesAmong cells second) (ap second_at (sym c.in_hand-at.ensures)) at.1));
      };
      share = legs.apart;
      first_take =
          take script first c.args.markets.now.first.cell c.deref_mut.result.now c.terms.result.now c.terms.ensures.terms
          (take-or-refused script first legs.first c.args.markets.now.first.cell c.deref_mut.result.now);
      second_take =
          take script second c.args.markets.now.second.cell c.deref_mut.result.now c.terms.result.now c.terms.ensures.terms
          (take-or-refused script second legs.second c.args.markets.now.second.cell c.deref_mut.result.now);
    }

-- ---- what they did

-- the markets have their calls, and each cell in hand the entry of the leg that names it
acted : (g : given.Over) (c : After-of-2 g)
    → HaveLegsActed c.args.bank.now.script (call_made (c.args.self.now.first.now, c.of.result)) (call_made (c.args.self.now.second.now, c.of-2.result)) c.args.markets.now
    (record { first = c.step_two-one.new.first; second = c.step_two-one.new.second })
    × AllZip (HasEntry (legs_written c.args.self.now.first.now c.args.self.now.second.now (record { first = c.of.result; second = c.of-2.result }))) c.args.hands.now.items
    c.step_two-one.new.wallets
acted g c =
    let script = c.args.bank.now.script in
    let first = row_of c.args.self.now.first.now in
    let second = row_of c.args.self.now.second.now in
    let legs = c.requires.ready.legs in
    let cells : List CellState = c.args.hands.now.items in
    let hand = has-hands script (leg_wallets first second) cells c.requires.hands (legs-rising first second) in
    let m : Market = market_at c.args.markets.now.first.cell in
    let n : Market = market_at c.args.markets.now.second.cell in
    let dones = c.step_two-one.result in
    let stamp = c.next-one_stamp.result.number in
    let at : WalletPlaces = c.in_hand-at.result in
    let rows : Legs = record {
      first = record { row = c.args.self.now.first; places = at };
      second = record {
        row = c.args.self.now.second;
        places = record { coin = at.discount; pc = at.referrer; discount = at.discount; referrer = at.referrer };
      };
    } in
    let both = subst
    (λ (ws : List CellState). AreStepsOn c.terms.result.now rows dones c.args.markets.now.first.cell c.step_two-one.new.first.cell c.args.markets.now.second.cell
    c.step_two-one.new.second.cell ws c.step_two-one.new.wallets)
    c.deref_mut.ensures.value c.step_two-one.ensures.steps in
    let one_waits : Bool = both.two_refused && not both.one_refused in
    let two_waits : Bool = both.one_refused && not both.two_refused in
    let one_seen : Seen = dones.0.seen.value in
    let two_seen : Seen = dones.1.seen.value in
    let one_call =
    call-is c.args.self.now.first.now c.of.result dones.0 one_waits m c.of.ensures.seen c.of.ensures.entry both.one.recorded
    ∙ ap (λ (s : Stamp). record { item = made_by one_waits first one_seen m; stamp = s.number }) c.of.ensures.stamp in
    let two_call =
    call-is c.args.self.now.second.now c.of-2.result dones.1 two_waits n c.of-2.ensures.seen c.of-2.ensures.entry both.two.recorded
    ∙ ap (λ (s : Stamp). record { item = made_by two_waits second two_seen n; stamp = s.number }) c.of-2.ensures.stamp
    ∙ ap (λ (s : ℕ). record { item = made_by two_waits second two_seen n; stamp = s }) (c.next-two_stamp.ensures ∙ sym c.next-one_stamp.ensures) in
    let one_may = leg-waits first legs.first one_seen m one_waits both.two_refused both.one_refused refl both.one_is in
    let two_may = leg-waits second legs.second two_seen n two_waits both.one_refused both.two_refused refl both.two_is in
    let one_refused = ap (λ (call : Stamped Call). is_refused call.item) one_call ∙ refused-is one_waits first one_seen m one_may ∙ sym both.one_is in
    let two_refused = ap (λ (call : Stamped Call). is_refused call.item) two_call ∙ refused-is two_waits second two_seen n two_may ∙ sym both.two_is in (
      record {
        together = ap (λ (call : Stamped Call). call.stamp) two_call ∙ sym (ap (λ (call : Stamped Call). call.stamp) one_call);
        all_or_none =
            all-or-none (call_made (c.args.self.now.first.now, c.of.result)) (call_made (c.args.self.now.second.now, c.of-2.result)) one_waits two_waits both.one_refused both.two_refused
            (ap (λ (call : Stamped Call). is_held call.item) one_call ∙ held-is one_waits first one_seen m one_may)
            (ap (λ (call : Stamped Call). is_held call.item) two_call ∙ held-is two_waits second two_seen n two_may)
            one_refused two_refused refl refl;
        replies =
            leg-replies c.of.result.entry.value.reply c.of-2.result.entry.value.reply one_waits two_waits both.one_refused both.two_refused
            (ap (λ (call : Stamped Call). is_took call.item.entry.reply) one_call ∙ took-is first legs.first one_seen m one_waits one_may
            ∙ ap (λ (b : Bool). not b && not one_waits) (sym both.one_is))
            (ap (λ (call : Stamped Call). is_took call.item.entry.reply) two_call ∙ took-is second legs.second two_seen n two_waits two_may
            ∙ ap (λ (b : Bool). not b && not two_waits) (sym both.two_is))
            one_refused two_refused
            (ap (λ (call : Stamped Call). is_done call.item.entry.reply) one_call ∙ done-is first legs.first one_seen m one_waits one_may)
            (ap (λ (call : Stamped Call). is_done call.item.entry.reply) two_call ∙ done-is second legs.second two_seen n two_waits two_may)
            refl refl;
        told = (
          subst (IsTold script) (sym one_call)
              (is-told script first cells one_seen hand (both.one.seen ∙ ap (λ (terms : Terms). seen_by first (world_in_hand terms cells)) c.terms.ensures.terms) both.one.sees
              one_waits m stamp),
          subst (IsTold script) (sym two_call)
              (is-told script second cells two_seen hand (both.two_seen ∙ ap (λ (terms : Terms). seen_by second (world_in_hand terms cells)) c.terms.ensures.terms) both.two.sees
              two_waits n stamp),
        );
        first =
            subst (λ (call : Stamped Call). HasCall call c.args.markets.now.first c.step_two-one.new.first) (sym one_call)
            (has-call c.terms.result.now first one_waits dones.0 stamp c.args.markets.now.first c.step_two-one.new.first cells both.between both.one c.step_two-one.ensures.first
            c.step_two-one.ensures.kept.0);
        second =
            subst (λ (call : Stamped Call). HasCall call c.args.markets.now.second c.step_two-one.new.second) (sym two_call)
            (has-call c.terms.result.now second two_waits dones.1 stamp c.args.markets.now.second c.step_two-one.new.second both.between c.step_two-one.new.wallets both.two
            c.step_two-one.ensures.second c.step_two-one.ensures.kept.1);
      },
      subst (λ (one : Stamped Call). AllZip (HasEntry (written_by_two one (call_made (c.args.self.now.second.now, c.of-2.result)))) cells c.step_two-one.new.wallets) (sym one_call)
          (subst (λ (two : Stamped Call). AllZip (HasEntry (written_by_two (record { item = made_by one_waits first one_seen m; stamp = stamp }) two)) cells c.step_two-one.new.wallets)
          (sym two_call)
          (legs-entries first second legs.apart one_waits two_waits one_seen two_seen m n stamp both.one.sees both.two.sees legs.lane cells both.between c.step_two-one.new.wallets
          (each-named first second legs script cells c.requires.hands) both.one.did.wallets both.two.did.wallets)),
    )

pub returns-clause-did : goal.returns-clause-did
returns-clause-did g c = (acted g (goal.at.returns-clause-did g c).After-of-2).0

pub returns-clause-hands : goal.returns-clause-hands
returns-clause-hands g c =
    subst (AllZip (HasEntry (legs_written c.args.self.now.first.now c.args.self.now.second.now (record { first = c.of.result; second = c.of-2.result }))) c.args.hands.now.items)
    (sym (with_items_is c.args.hands.now c.step_two-one.new.wallets (omega (arith, c.step_two-one.auto.wallets, c.deref_mut.ensures.len))))
    (acted g (goal.at.returns-clause-hands g c).After-of-2).1
