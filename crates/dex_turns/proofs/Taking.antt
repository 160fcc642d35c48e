-- The turn of an item's next wallet: what is known when it is taken, and when it is left.
use Rattle.std.proofs.Common.{◌≡◌, ℕ, ◌+◌, ◌-◌, ◌<◌, ◌==◌, true, false, List, [], ◌∷◌, ◌++◌, drop, length, map, set, take, get_or, Some, None, refl, sym, ap, ◌∙◌, subst, arith}
use Rattle.dex_world.proofs.Common.{Address, All-head, All-push, AllZip-long, PlainAccount, WalletEntry, cond-true, eq-eqb, get_or-map, is_same, is_same-refl, length-map, list_any, or_left}
use Rattle.dex_world.proofs.MappedLists.{same-get, three-long, zip-at}
use Rattle.dex_world.specs.Places.{ArePlacesOf}
use Rattle.dex_turns.proofs.Common.{AreInHand, AreReady, BankState, CellState, HasEntry, HasLeft, HaveGrown, Idle, IsBank, IsPlace, IsReady, IsWalletGate, MayDraw, MayLeave, OneGrows, Stamped, TrailState, WalletOrigin, added, entries_by, left_by, of_lane, rows_of_wallet, wallet_addresses, wallet_entries}
use Rattle.std.proofs.Math.Seq.{take-length}
use Rattle.std.proofs.lemmas.List.{drop-drop, length-append}
use Rattle.std.proofs.lemmas.Bool.Decides.{nat_tests}
use Rattle.std.proofs.lemmas.Option.{none-some}
use Rattle.dex_gate.specs.declared.stage.Stage.TheVariants.{Out}
use Rattle.dex_journals.specs.Journals.{wallet_origin}
use Rattle.dex_journals.proofs.WalletLaws.{spare-wallet}
use Rattle.dex_script_types.proofs.Apart.{wallets-distinct}
use Rattle.dex_script_types.proofs.PlacedLaws.{wallet-placed, wallet-within}
use Rattle.dex_turns.specs.Bank.{WalletGate}
use Rattle.dex_turns.specs.Seats.{WalletPass}
use Rattle.dex_turns.specs.Turns.{AreRising, IsAboveWallets, IsOut, IsWalletOutAt, first_in, left_of, place_of}
use Rattle.dex_types.specs.Wallets.{is_lower}
use Rattle.dex_turns.proofs.Rising.{IsAbove, not-among, rising-behind}
use Rattle.dex_turns.proofs.Counts.{length-stamped}
use Rattle.dex_turns.proofs.Growing.{IsAtGate, drawn-ready, gates-set, one-grows, still-out}
use Rattle.dex_turns.proofs.LeavingTurns.{has-moved}
use Rattle.dex_turns.specs.Submitted.{HasWritten, Written}

-- ---- the wallets still to come

-- the places after the first
abbrev pub rest_of : List ℕ → List ℕ
rest_of places = take (length places - 1) (drop 1 places)

rest-is : (place : ℕ) (places : List ℕ) → rest_of (place ∷ places) ≡ places
rest-is place places = ap (λ (n : ℕ). take n places) (omega arith) ∙ take-length places

pub rest-long : (places : List ℕ) (place : ℕ) → first_in places ≡ Some place → length places ≡ length (rest_of places) + 1
rest-long [] place is = absurd (none-some place is)
rest-long (first ∷ places) place is = omega (arith, ap length (rest-is first places))

-- the first of some places, where there is one, and where there is none
some-first : (first place : ℕ) (places : List ℕ) → first_in (first ∷ places) ≡ Some place → first ≡ place
some-first first place places is = grind arith

none-first : (first : ℕ) (places : List ℕ) → first_in (first ∷ places) ≡ None → first ≡ 65535
none-first first places is = grind (arith, nat_tests)

-- where none is still to come, the cells of all are in hand
pub none-left : (bank : BankState) (left : List Address) (places : List ℕ) → IsBank bank → ArePlacesOf (place_of bank.script) left places → first_in places ≡ None
    → left ≡ []
none-left bank [] places kept at none = refl
none-left bank (address ∷ left) [] kept at none = absurd at
none-left bank (address ∷ left) (place ∷ places) kept at none =
    absurd (omega (
      arith,
      none-first place places none,
      wallet-within address bank.script.start.wallets place at.0,
      kept.script.start.accepted.few_wallets,
      kept.script.start.accepted.within.wallets,
    ))

abbrev address_in : CellState → Address
address_in cell = cell.address

-- ---- the next wallet of an item

-- what is known before its turn: it is the first of those that are still to come, and stands at this place
pub record Coming (bank : BankState) (named : List Address) (lane : ℕ) (hands : List CellState) (passes : List WalletPass) (places : List ℕ) (place : ℕ)
    : Type 0 where
  pub address : Address
  pub others : List Address
  pub left : left_of named hands ≡ address ∷ others
  pub kept : IsBank bank
  pub rising : AreRising (address ∷ others)
  pub hand : AreInHand bank.script named (address ∷ others) hands
  pub ready : AreReady bank lane (address ∷ others) passes
  pub at : IsPlace address (wallet_addresses bank.script) place
  pub behind : ArePlacesOf (place_of bank.script) others (rest_of places)

pub coming : (bank : BankState) (named : List Address) (lane : ℕ) (hands : List CellState) (passes : List WalletPass) (places : List ℕ) (place : ℕ) → IsBank bank
    → AreRising named → AreInHand bank.script named (left_of named hands) hands → AreReady bank lane (left_of named hands) passes
    → ArePlacesOf (place_of bank.script) (left_of named hands) places → first_in places ≡ Some place → Coming bank named lane hands passes places place
coming bank named lane hands passes places place kept rising hand ready at first = found (left_of named hands) places refl at first
  where
    found : (left : List Address) (from : List ℕ) → left_of named hands ≡ left → ArePlacesOf (place_of bank.script) left from → first_in from ≡ Some place
        → Coming bank named lane hands passes from place
    found left [] is at first = absurd (none-some place first)
    found [] (next ∷ from) is at first =
        let none : (next == 65535) ≡ true = eq-eqb next 65535 (All-head (λ (p : ℕ). p ≡ 65535) next from at) in
        absurd (none-some place (sym (cond-true (next == 65535) None (Some next) none) ∙ first))
    found (address ∷ left) (next ∷ from) is at first =
        let here : AreInHand bank.script named (address ∷ left) hands = subst (λ (l : List Address). AreInHand bank.script named l hands) is hand in
        record {
          address = address;
          others = left;
          left = is;
          kept = kept;
          rising = rising-behind (map address_in hands) (address ∷ left) (subst AreRising (sym here.are) rising);
          hand = here;
          ready = subst (λ (l : List Address). AreReady bank lane l passes) is ready;
          at = wallet-placed bank.script address place (at.0 ∙ ap Some (some-first next place from first));
          behind = subst (ArePlacesOf (place_of bank.script) left) (sym (rest-is next from)) at.1;
        }

module _ {bank : BankState} {named : List Address} {lane : ℕ} {hands : List CellState} {passes : List WalletPass} {places : List ℕ} {place : ℕ}
    (c : Coming bank named lane hands passes places place) where
  abbrev starts : List PlainAccount
  starts = bank.script.start.wallets

  abbrev any_start : PlainAccount
  any_start = record { address = c.address; bytes = [] }

  abbrev May : PlainAccount → WalletPass → Type 0
  May = MayDraw bank.script lane (c.address ∷ c.others)

  none : list_any (is_same c.address) c.others ≡ false
  none = not-among c.address c.others c.rising.0

  within : place < length starts
  within = subst (λ (n : ℕ). place < n) (length-map starts (λ (account : PlainAccount). account.address)) c.at.within

  here : (d : PlainAccount) → (get_or starts place d).address ≡ c.address
  here d = sym (get_or-map (λ (account : PlainAccount). account.address) starts place d c.address within) ∙ c.at.here c.address

  among : (start : PlainAccount) → start.address ≡ c.address → list_any (is_same start.address) (c.address ∷ c.others) ≡ true
  among start is =
      ap (λ (a : Address). list_any (is_same a) (c.address ∷ c.others)) is ∙ or_left (is_same c.address c.address) (list_any (is_same c.address) c.others) (is_same-refl c.address)

  pub within-gates : place < length bank.wallets
  within-gates = omega (arith, within, AllZip-long (IsWalletGate bank.script) starts bank.wallets c.kept.wallets)

  pub within-passes : place < length passes
  within-passes = omega (arith, within, AllZip-long May starts passes c.ready.each)

  pub gate-at : (g : WalletGate) (p : WalletPass) → (get_or passes place p).gate ≡ Some (get_or bank.wallets place g)
  gate-at g p = zip-at IsAtGate bank.wallets passes place g p c.ready.gates within-gates

  pub idle-at : (p : WalletPass) → (get_or passes place p).stage ≡ Idle
  idle-at p = (zip-at May starts passes place any_start p c.ready.each within).idle (among (get_or starts place any_start) (here any_start))

  -- a gate is that of the wallet at its place
  gate-start : (k : ℕ) (gate : WalletGate) → k < length starts → gate ≡ get_or bank.wallets k gate → IsWalletGate bank.script (get_or starts k any_start) gate
  gate-start k gate inside gate_is =
      subst (IsWalletGate bank.script (get_or starts k any_start)) (sym gate_is) (zip-at (IsWalletGate bank.script) starts bank.wallets k any_start gate c.kept.wallets inside)

  -- the wallets whose turns are out are below it
  pub above : (gate : WalletGate) → gate ≡ get_or bank.wallets place gate → IsAboveWallets gate passes
  above gate gate_is k p behind holds other at =
      let inside : k < length starts = omega (arith, behind, AllZip-long May starts passes c.ready.each) in
      let behind_gates : k < length bank.wallets = omega (arith, inside, AllZip-long (IsWalletGate bank.script) starts bank.wallets c.kept.wallets) in
      let both : Some (get_or bank.wallets k other) ≡ Some other = sym (zip-at IsAtGate bank.wallets passes k other p c.ready.gates behind_gates) ∙ at in
      let other_is : other ≡ get_or bank.wallets k other = (cc) in
      let other_start : other.origin.start.address ≡ (get_or starts k any_start).address =
      ap (λ (o : WalletOrigin). o.start.address) (gate-start k other inside other_is).origin in
      let own_start : gate.origin.start.address ≡ c.address = ap (λ (o : WalletOrigin). o.start.address) (gate-start place gate within gate_is).origin ∙ here any_start in
      subst (λ (a : Address). is_lower a gate.origin.start.address ≡ true) (sym other_start)
      (subst (λ (a : Address). is_lower (get_or starts k any_start).address a ≡ true) (sym own_start)
      (All-head (IsAbove (get_or starts k any_start).address) c.address c.others ((zip-at May starts passes k any_start p c.ready.each inside).below holds)))

  -- its turn is out
  module _ {gate : WalletGate} {taken : List WalletPass} {trail : TrailState} (gate_is : gate ≡ get_or bank.wallets place gate)
      (out : IsWalletOutAt gate place passes taken trail) where
    abbrev before : WalletPass
    before = get_or passes place out.out

    is_out : IsOut gate before out.out trail
    is_out = out.taken out.out

    abbrev start : PlainAccount
    start = get_or starts place any_start

    is_gate : IsWalletGate bank.script start gate
    is_gate = gate-start place gate within gate_is

    may_draw : May start before
    may_draw = zip-at May starts passes place any_start out.out c.ready.each within

    origin : wallet_origin (left_by trail) ≡ record { start = start; script = bank.script }
    origin = is_out.origin ∙ is_gate.origin

    cell-address : trail.before.address ≡ start.address
    cell-address = ap (λ (o : WalletOrigin). o.start.address) origin

    cell-start : trail.before.start ≡ start.bytes
    cell-start = ap (λ (o : WalletOrigin). o.start.bytes) origin

    -- the lane has an entry to make
    mine : of_lane (λ (e : Stamped WalletEntry). e.item.lane) lane (wallet_entries (left_by trail)) ≡ before.mine
    mine =
        ap (λ (n : ℕ). of_lane (λ (e : Stamped WalletEntry). e.item.lane) n (wallet_entries (left_by trail))) (sym may_draw.number)
        ∙ ap (λ (l : List (Stamped WalletEntry)). of_lane (λ (e : Stamped WalletEntry). e.item.lane) before.number (added l (wallet_entries (left_by trail)))) (sym is_gate.opening)
        ∙ is_out.mine

    few : entries_by lane trail.before.entries < length (rows_of_wallet lane trail.before.address trail.script.rows)
    few =
        let count : entries_by lane trail.before.entries ≡ length before.mine =
        sym (length-stamped (λ (e : WalletEntry). e.lane == lane) trail.before.entries trail.stamps is_out.kept.counted) ∙ ap length mine in
        let left : length before.mine < length (rows_of_wallet lane start.address bank.script.rows) = may_draw.left (among start (here any_start)) in
        let rows : length (rows_of_wallet lane trail.before.address trail.script.rows) ≡ length (rows_of_wallet lane start.address bank.script.rows) =
        ap (λ (o : WalletOrigin). length (rows_of_wallet lane o.start.address o.script.rows)) origin in
        omega (arith, count, left, rows)

    -- its cell is ready, and in hand with the others
    ready-cell : IsReady bank.script trail.before
    ready-cell =
        let same : record { address = trail.before.address; bytes = trail.before.start } ≡ start = ap (λ (o : WalletOrigin). o.start) origin in
        record {
          kept = is_out.kept.cell;
          spare = spare-wallet (left_by trail) is_out.kept lane few;
          start = (place, start, within, same-get starts place start any_start within, sym same);
        }

    module _ {cell : CellState} {more : List CellState} (cell_is : cell ≡ trail.before) (pushed : more ≡ hands ++ cell ∷ []) where
      more-is : more ≡ hands ++ trail.before ∷ []
      more-is = pushed ∙ ap (λ (x : CellState). hands ++ x ∷ []) cell_is

      left-is : left_of named more ≡ c.others
      left-is =
          let long : length more ≡ length hands + 1 = ap length pushed ∙ length-append hands (cell ∷ []) in
          ap (λ (n : ℕ). drop n named) long ∙ sym (drop-drop 1 (length hands) named) ∙ ap (drop 1) c.left

      pub next-hand : AreInHand bank.script named (left_of named more) more
      next-hand =
          subst (λ (l : List Address). AreInHand bank.script named l more) (sym left-is)
          (subst (AreInHand bank.script named c.others) (sym more-is) (record {
            ready = All-push (IsReady bank.script) hands trail.before c.hand.ready ready-cell;
            are = shift hands ∙ ap (λ (a : Address). map address_in hands ++ a ∷ c.others) (cell-address ∙ here any_start) ∙ c.hand.are;
          }))
        where
          shift : (cells : List CellState) → map address_in (cells ++ trail.before ∷ []) ++ c.others ≡ map address_in cells ++ trail.before.address ∷ c.others
          shift [] = refl
          shift (first ∷ cells) = ap (λ (l : List Address). first.address ∷ l) (shift cells)

      -- the others stand at their places
      pub next-places : ArePlacesOf (place_of bank.script) (left_of named more) (rest_of places)
      next-places = subst (λ (l : List Address). ArePlacesOf (place_of bank.script) l (rest_of places)) (sym left-is) c.behind

      -- and their passes may draw
      pub next-ready : AreReady bank lane (left_of named more) taken
      next-ready =
          subst (λ (l : List Address). AreReady bank lane l taken) (sym left-is)
          (subst (AreReady bank lane c.others) (sym out.is) (record {
            gates =
                gates-set bank.wallets passes place out.out c.ready.gates
                (λ p. ap (λ (x : WalletPass). x.gate) is_out.pass ∙ ap (λ (x : WalletPass). x.gate) (same-get passes place out.out p within-passes));
            each =
                drawn-ready c.address c.others bank.script lane starts passes place out.out c.ready.each c.rising within here
                (λ p. ap (λ (x : WalletPass). x.number) is_out.pass ∙ ap (λ (x : WalletPass). x.number) (same-get passes place out.out p within-passes));
          }))

      -- ---- and left

      module _ (written : Written) (mid : List WalletPass) (asked : written.lane ≡ lane) (have_grown : HaveGrown bank (left_of named more) written taken mid) where
        grown : HaveGrown bank c.others written (set passes place out.out) mid
        grown =
            subst (λ (l : List WalletPass). HaveGrown bank c.others written l mid) out.is
            (subst (λ (l : List Address). HaveGrown bank l written taken mid) left-is have_grown)

        pub within-mid : place < length mid
        within-mid = omega (arith, within, (three-long (OneGrows c.others written) starts (set passes place out.out) mid grown).1)

        module _ {now : WalletPass} (now_is : now ≡ get_or mid place now) where
          mid-is : now ≡ record before { stage = Out (wallet_entries (left_by trail)) }
          mid-is = now_is ∙ still-out c.others written starts passes mid place out.out c.address none within here grown now ∙ is_out.pass

          pub number-mid : now.number ≡ before.number
          number-mid = ap (λ (p : WalletPass). p.number) mid-is

          pub may-leave : (put : CellState) → HasEntry written cell put → trail.last < written.stamp → MayLeave written gate now trail put
          may-leave put entry above = record {
            home = ap (λ (p : WalletPass). p.gate) mid-is ∙ gate-at gate out.out ∙ ap (λ (g : WalletGate). Some g) (sym gate_is);
            out = ap (λ (p : WalletPass). p.stage) mid-is;
            origin = is_out.origin;
            entry = subst (λ (x : CellState). HasEntry written x put) cell_is entry;
            number = asked ∙ sym may_draw.number ∙ sym (ap (λ (p : WalletPass). p.number) mid-is);
            lane = subst (λ (n : ℕ). entries_by n trail.before.entries < length (rows_of_wallet n trail.before.address trail.script.rows)) (sym asked) few;
            stamp = above;
          }

          -- and when it is left, the pass has grown with the others
          pub have-grown : (put : CellState) → HasEntry written cell put → trail.last < written.stamp → (left : WalletPass)
              → (MayLeave written gate now trail put → HasLeft written trail now left) → HaveGrown bank (left_of named hands) written passes (set mid place left)
          have-grown put entry above left leaves =
              let moved : HasWritten written start before left =
              has-moved written start trail before now left (Out (wallet_entries (left_by trail))) (idle-at out.out) mid-is (leaves (may-leave put entry above)) cell-address cell-start in
              subst (λ (l : List Address). HaveGrown bank l written passes (set mid place left)) (sym c.left)
              (one-grows c.address c.others written starts passes mid place out.out left (wallets-distinct bank.script.start c.kept.script.start.accepted) within here grown
              (λ x p.
              subst (λ (q : WalletPass). HasWritten written (get_or starts place x) q left) (same-get passes place out.out p within-passes)
              (subst (λ (s : PlainAccount). HasWritten written s before left) (same-get starts place any_start x within) moved)))
