-- The cells in hand of two legs that share no wallet: where they stand, and what both write.
use Rattle.std.proofs.Common.{◌≡◌, ℕ, ◌||◌, Bool, true, false, cond, List, [], ◌∷◌, ◌++◌, length, map, Option, None, refl, sym, ap, subst, ◌∙◌, arith, ⊎_elim}
use Rattle.dex_world.proofs.Common.{Address, All-head, All-tail, AllZip, Call, Market, PlainRow, Seen, Sees, ShareNothing, Step, WalletEntry, asked_of, cases_Bool, false_from_ne_true, false≢true, movement_of, names, row_step, wallet_acted, wallet_moved}
use Rattle.dex_turns.proofs.Common.{CellState, HasEntry, IsWalletCell, Stamped, entries_in, made_of, wallet_state_of}
use Rattle.std.specs.List.{All}
use Rattle.std.proofs.lemmas.List.{append-nil}
use Rattle.dex_act.specs.Acted.{HaveActed}
use Rattle.dex_act.specs.Wallets.{ArePlacesAmong, IsRoleAt, hand_places}
use Rattle.dex_act.proofs.InHand.{role-in-hand}
use Rattle.dex_script_types.specs.Facts.{AreLegs}
use Rattle.dex_world.specs.declared.places.RowWallets.{RowWallets}
use Rattle.dex_world.specs.Places.{AreWalletsAt, IsIndexOf}
use Rattle.dex_turns.specs.Turns.{leg_wallets}
use Rattle.dex_world.specs.Items.{doing}
use Rattle.dex_turns.specs.Submitted.{written_by, written_by_two}
use Rattle.dex_act.specs.Steps.{made_by}
use Rattle.dex_turns.proofs.Counts.{none-in}
use Rattle.dex_turns.proofs.InHand.{has-entry, moves-each}

-- ---- where they stand

-- the wallets of both stand at their indexes, where theirs alone are in hand
pub legs-at : (first second : PlainRow) → AreLegs first second → (wallets : RowWallets) (place_of : Address → Option ℕ) (cells : List CellState)
    → map (λ (cell : CellState). cell.address) cells ≡ leg_wallets first second → AreWalletsAt place_of first.coin first.pc second.coin second.pc wallets
    → ArePlacesAmong cells first (hand_places wallets)
    × ArePlacesAmong cells second (record { coin = wallets.discount; pc = wallets.referrer; discount = wallets.discount; referrer = wallets.referrer })
legs-at first second legs wallets place_of cells are at =
    let none : (role : Option Address) (place : ℕ) → role ≡ None → IsRoleAt cells role place =
    λ role place is. subst (λ (role : Option Address). IsRoleAt cells role place) (sym is) tt in
    let own : (role : Option Address) (index : ℕ) → IsIndexOf (leg_wallets first second) role index → IsRoleAt cells role index =
    λ role index is. role-in-hand cells (leg_wallets first second) role index are is in (
      record {
        coin = own first.coin wallets.coin at.of_coin;
        pc = own first.pc wallets.pc at.of_pc;
        discount = none first.discount wallets.discount legs.first.discount;
        referrer = none first.referrer wallets.referrer legs.first.referrer;
      },
      record {
        coin = own second.coin wallets.discount at.of_discount;
        pc = own second.pc wallets.referrer at.of_referrer;
        discount = none second.discount wallets.discount legs.second.discount;
        referrer = none second.referrer wallets.referrer legs.second.referrer;
      },
    )

-- ---- what they write

module _ (first second : PlainRow) (share : ShareNothing first second) (one_waits two_waits : Bool) (one_seen two_seen : Seen) (m n : Market) (stamp : ℕ)
    (one_sees : Sees (asked_of first) one_seen) (two_sees : Sees (asked_of second) two_seen) (lanes : first.lane ≡ second.lane) where
  abbrev one : Stamped Call
  one = record { item = made_by one_waits first one_seen m; stamp = stamp }

  abbrev two : Stamped Call
  two = record { item = made_by two_waits second two_seen n; stamp = stamp }

  abbrev one_step : Step
  one_step = row_step (doing one_waits first) one_seen m

  abbrev two_step : Step
  two_step = row_step (doing two_waits second) two_seen n

  none-one : (address : Address) → names first address ≡ false → entries_in address one ≡ []
  none-one = none-in first one refl (moves-each first one_seen one_step.reply one_step.transfers stamp one_sees)

  none-two : (address : Address) → names second address ≡ false → entries_in address two ≡ []
  none-two = none-in second two refl (moves-each second two_seen two_step.reply two_step.transfers stamp two_sees)

  leg-entry : (before mid after : CellState) → (names first before.address || names second before.address) ≡ true
      → wallet_state_of mid ≡ wallet_acted first one_seen one_step.transfers (wallet_state_of before) → made_of mid ≡ made_of before
      → wallet_state_of after ≡ wallet_acted second two_seen two_step.transfers (wallet_state_of mid) → made_of after ≡ made_of mid → IsWalletCell after
      → HasEntry (written_by_two one two) before after
  leg-entry before mid after either first_is first_made second_is second_made kept = ⊎_elim by-first by-second (cases_Bool (names first before.address))
    where
      address : mid.address ≡ before.address
      address = ap (λ (cell : CellState). cell.address) first_made

      by-first : names first before.address ≡ true → HasEntry (written_by_two one two) before after
      by-first named =
          let away : names second before.address ≡ false =
          false_from_ne_true (names second before.address) (λ both. false≢true (sym (share.wallets before.address both) ∙ named)) in
          let same : wallet_state_of after ≡ wallet_state_of mid =
          second_is ∙ ap (λ (b : Bool). cond b (wallet_moved second (movement_of two_seen two_step.transfers mid.address) (wallet_state_of mid)) (wallet_state_of mid))
          (ap (names second) address ∙ away) in
          let has : HasEntry (written_by one) before after =
          has-entry first one_seen one_step.reply one_step.transfers stamp one_sees before after named (same ∙ first_is) kept (second_made ∙ first_made) in
          record {
            entry = has.entry;
            is = ap (λ (l : List (Stamped WalletEntry)). entries_in before.address one ++ l) (none-two before.address away) ∙ append-nil (entries_in before.address one) ∙ has.is;
            lane = has.lane;
            entries = has.entries;
            made = has.made;
            kept = has.kept;
          }

      by-second : names first before.address ≡ false → HasEntry (written_by_two one two) before after
      by-second away =
          let named : names second before.address ≡ true = sym (ap (λ (b : Bool). b || names second before.address) away) ∙ either in
          let same : wallet_state_of mid ≡ wallet_state_of before =
          first_is ∙ ap (λ (b : Bool). cond b (wallet_moved first (movement_of one_seen one_step.transfers before.address) (wallet_state_of before)) (wallet_state_of before)) away in
          let has : HasEntry (written_by two) before after =
          has-entry second two_seen two_step.reply two_step.transfers stamp two_sees before after named
          (second_is ∙ ap (wallet_acted second two_seen two_step.transfers) same) kept (second_made ∙ first_made) in
          record {
            entry = has.entry;
            is = ap (λ (l : List (Stamped WalletEntry)). l ++ entries_in before.address two) (none-one before.address away) ∙ has.is;
            lane = has.lane ∙ sym lanes;
            entries = has.entries;
            made = has.made;
            kept = has.kept;
          }

  leg-entries : (before mid after : List CellState) → All (λ (cell : CellState). (names first cell.address || names second cell.address) ≡ true) before
      → map wallet_state_of mid ≡ map (wallet_acted first one_seen one_step.transfers) (map wallet_state_of before) → map made_of mid ≡ map made_of before
      → map wallet_state_of after ≡ map (wallet_acted second two_seen two_step.transfers) (map wallet_state_of mid) → map made_of after ≡ map made_of mid
      → All IsWalletCell after → AllZip (HasEntry (written_by_two one two)) before after
  leg-entries [] [] [] either first_is first_made second_is second_made kept = tt
  leg-entries (b ∷ before) (m ∷ mid) (a ∷ after) either first_is first_made second_is second_made kept =
      let Either : CellState → Type 0 = λ c. (names first c.address || names second c.address) ≡ true in (
        leg-entry b m a (All-head Either b before either) (let it = first_is in cc) (let it = first_made in cc) (let it = second_is in cc) (let it = second_made in cc)
            (All-head IsWalletCell a after kept),
        leg-entries before mid after (All-tail Either b before either) (let it = first_is in cc) (let it = first_made in cc) (let it = second_is in cc) (let it = second_made in cc)
            (All-tail IsWalletCell a after kept),
      )
  leg-entries _ _ _ either first_is first_made second_is second_made kept = absurd (omega (arith, ap length first_made, ap length second_made))

  -- each cell in hand has the entry of the leg that names it
  pub legs-entries : (before mid after : List CellState) → All (λ (cell : CellState). (names first cell.address || names second cell.address) ≡ true) before
      → HaveActed (doing one_waits first) one_seen one_step.transfers before mid → HaveActed (doing two_waits second) two_seen two_step.transfers mid after
      → AllZip (HasEntry (written_by_two one two)) before after
  legs-entries before mid after either moved again = leg-entries before mid after either moved.states moved.made again.states again.made again.kept
