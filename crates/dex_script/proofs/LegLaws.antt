-- Two legs of which no cause is found that they are no swap.
use Rattle.std.proofs.Common.{◌≡◌, ◌∙◌, ◌∷◌, [], ◌||◌, ℕ, ℤ, true, false, Option, Some, None, subst, sym, refl}
use Rattle.std.proofs.lemmas.Bool.{false_from_ne_true, not-false, or_from, or_parts}
use Rattle.dex_types.specs.declared.addresses.Address.{Address}
use Rattle.dex_types.specs.Addresses.{is_same}
use Rattle.dex_types.specs.Rows.{PlainRow}
use Rattle.dex_laws.proofs.TraderLaws.{is_same-true}
use Rattle.dex_instruction.specs.Reading.{decoded}
use Rattle.dex_history.specs.Journal.{is_take_or_bad}
use Rattle.dex_world.specs.Fold.{is_role, names}
use Rattle.dex_world.specs.Items.{ShareNothing}
use Rattle.dex_world.proofs.NameLaws.{names-roles}
use Rattle.dex_statement.specs.Stated.{PlainInstruction, PlainLeg, leg_words}
use Rattle.dex_script_types.specs.Facts.{AreLegs, IsLeg}
use Rattle.dex_script.specs.Rows.{instruction_row, is_bad_swap, is_named_among, is_named_twice, is_no_leg, is_one_wallet}
use Rattle.dex_script.proofs.FaultLaws.{differ}

-- ---- wallets

-- of two roles that are not those of one wallet
apart : (role other : Option Address) → is_one_wallet role other ≡ false → (wallet : Address) → is_role role wallet ≡ true → is_role other wallet ≡ false
apart None other none wallet here = cc
apart (Some own) other none wallet here = subst (λ (a : Address). is_role other a ≡ false) (sym (is_same-true wallet own here)) none

-- a role that is that of no wallet of two others
among-two : (role one other : Option Address) → is_named_among role (one ∷ other ∷ []) ≡ false → (is_one_wallet role one ≡ false) × (is_one_wallet role other ≡ false)
among-two role one other none =
    let a = or_parts (is_one_wallet role one) (is_one_wallet role other || false) none in
    (a.0, (or_parts (is_one_wallet role other) false a.1).0)

module _ (number : ℕ) (now : ℤ) (lane : ℕ) (signer : Address) (first second : PlainLeg) where
  abbrev one : PlainInstruction
  one = leg_words lane signer first

  abbrev other : PlainInstruction
  other = leg_words lane signer second

  abbrev one_row : PlainRow
  one_row = instruction_row number now (leg_words lane signer first)

  abbrev other_row : PlainRow
  other_row = instruction_row number now (leg_words lane signer second)

  -- a wallet of the second leg is that of no such role
  not-named : (role : Option Address) → is_one_wallet role second.coin ≡ false → is_one_wallet role second.pc ≡ false → (wallet : Address)
      → names other_row wallet ≡ true → is_role role wallet ≡ false
  not-named role coin pc wallet named =
      false_from_ne_true (is_role role wallet) (λ here.
      let no_pc : is_role second.pc wallet || (false || (false || false)) ≡ false =
      or_from (is_role second.pc wallet) (false || (false || false)) (apart role second.pc pc wallet here) refl in
      let none : names other_row wallet ≡ false =
      names-roles other_row wallet
      ∙ or_from (is_role second.coin wallet) (is_role second.pc wallet || (false || (false || false))) (apart role second.coin coin wallet here) no_pc in
      differ (sym named ∙ none))

  is-leg : (leg : PlainLeg) → is_no_leg (leg_words lane signer leg) ≡ false → is_one_wallet leg.coin leg.pc ≡ false
      → IsLeg (instruction_row number now (leg_words lane signer leg))
  is-leg leg take wallets = record {
    take = not-false (is_take_or_bad (decoded leg.bytes)) take;
    wallets = apart leg.coin leg.pc wallets;
    named = refl;
    discount = refl;
    referrer = refl;
  }

  pub are-legs : is_bad_swap one other ≡ false → AreLegs one_row other_row
  are-legs good =
      let same = is_same first.market second.market in
      let twice = is_named_twice one.parties other.parties in
      let a = or_parts (same || twice || is_no_leg one) (is_no_leg other) good in
      let b = or_parts (same || twice) (is_no_leg one) a.0 in
      let c = or_parts same twice b.0 in
      let coin_among = is_named_among first.coin (first.pc ∷ second.coin ∷ second.pc ∷ []) in
      let pc_among = is_named_among first.pc (second.coin ∷ second.pc ∷ []) in
      let d = or_parts (coin_among || pc_among) (is_named_among second.coin (second.pc ∷ [])) c.1 in
      let e = or_parts coin_among pc_among d.0 in
      let f = or_parts (is_one_wallet first.coin first.pc) (is_named_among first.coin (second.coin ∷ second.pc ∷ [])) e.0 in
      let coin = among-two first.coin second.coin second.pc f.1 in
      let pc = among-two first.pc second.coin second.pc e.1 in
      let own = or_parts (is_one_wallet second.coin second.pc) false d.1 in
      let share : ShareNothing one_row other_row = record {
        markets = c.0;
        wallets = λ wallet named.
            names-roles one_row wallet
            ∙ or_from (is_role first.coin wallet) (is_role first.pc wallet || (false || (false || false)))
            (not-named first.coin coin.0 coin.1 wallet named)
            (or_from (is_role first.pc wallet) (false || (false || false)) (not-named first.pc pc.0 pc.1 wallet named) refl);
      } in
      record {
        lane = refl;
        signer = refl;
        now = refl;
        first = is-leg first b.1 f.0;
        second = is-leg second a.1 own.0;
        apart = share;
      }
