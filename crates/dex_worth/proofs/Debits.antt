-- The debits of an entry.
use Rattle.std.proofs.Common.{ℕ, ◌+◌, ◌<◌, ◌≤◌, ◌≡◌, ◌⊎◌, inl, inr, Bool, true, false, cond, if◌then◌else◌, List, [], ◌∷◌, length, get_or, Option, Some, None, refl, sym, ap, ◌∙◌, arith, ⊎_elim}
use Rattle.std.proofs.lemmas.Bool.{cases_lt, cond-true, lt-ltb, le-ltb}
use Rattle.dex_types.specs.declared.addresses.Address.{Address}
use Rattle.dex_types.specs.declared.movements.Movement.{Movement}
use Rattle.dex_types.specs.declared.rows.Seen.{Seen}
use Rattle.dex_types.specs.declared.rows.WalletSeen.{WalletSeen}
use Rattle.dex_types.specs.Addresses.{is_same}
use Rattle.dex_types.specs.Market.{Market}
use Rattle.dex_types.specs.Side.{Coin, Pc}
use Rattle.dex_types.specs.Soundness.{IsSound}
use Rattle.dex_types.specs.Totals.{total, weighed_where}
use Rattle.dex_types.specs.Transfers.{Transfers}
use Rattle.dex_types.specs.Wallets.{amount_at, balance_seen, brought_to, movement_by, movement_of, movements, seen_wallets, taken_from}
use Rattle.dex_laws.proofs.TotalLaws.{total-agree, total-each, total-map, total-plus}
use Rattle.dex_laws.proofs.TraderLaws.{is_same-refl, is_same-sym, is_same-true}
use Rattle.dex_history.specs.Journal.{Call, Stands, acted_of, step_of}
use Rattle.dex_history.specs.Mints.{MeetVaults, all_debited, debited, is_mint_in, is_of_mint}
use Rattle.dex_history.proofs.HeldLaws.{acted-sees}
use Rattle.dex_history.proofs.StepMints.{row-meets}
use Rattle.dex_history.proofs.WalletLaws.{places-movements, wallet-movement_by}
use Rattle.dex_replay.specs.Debits.{debits_in}

-- ---- the mint of a wallet that is seen

abbrev MissAll : Address → List (Option WalletSeen) → Type 0
MissAll a [] = Unit {0}
MissAll a (role ∷ roles) = ((x : ℕ) → amount_at a role x ≡ 0) × MissAll a roles

abbrev HasMint : Address → List (Option WalletSeen) → Type 0
HasMint a roles = (mint : Address) × ((other : Address) → is_mint_in other a roles ≡ is_same other mint)

found : (a : Address) (roles : List (Option WalletSeen)) → HasMint a roles ⊎ MissAll a roles
found a [] = inr tt
found a (None ∷ roles) =
    ⊎_elim {C = HasMint a (None ∷ roles) ⊎ MissAll a (None ∷ roles)} (λ (some : HasMint a roles). inl (some.0, some.1)) (λ (none : MissAll a roles). inr ((λ x. refl), none)) (found a roles)
found a ((Some w) ∷ roles) = by (is_same a w.address) (found a roles)
  where
    by : (same : Bool) → HasMint a roles ⊎ MissAll a roles
        → ((mint : Address) × ((other : Address) → (if same then is_same other w.mint else is_mint_in other a roles) ≡ is_same other mint))
        ⊎ (((x : ℕ) → (if same then x else 0) ≡ 0) × MissAll a roles)
    by true later = inl (w.mint, λ other. refl)
    by false (inl some) = inl (some.0, some.1)
    by false (inr none) = inr ((λ x. refl), none)

-- ---- one movement

debited-by : (a : Address) (before taken brought : ℕ) → debited (movement_by a before taken brought) ≡ taken
debited-by a before taken brought =
    ⊎_elim
    (λ (some : 0 < taken). rw (lt-ltb 0 taken some) refl)
    (λ (none : taken ≤ 0).
    rw (le-ltb 0 taken none)
    (⊎_elim (λ (gets : 0 < brought). rw (lt-ltb 0 brought gets) (omega (arith, none))) (λ (not : brought ≤ 0). rw (le-ltb 0 brought not) (omega (arith, none))) (cases_lt 0 brought)))
    (cases_lt 0 taken)

where-le : (b : Bool) (x : ℕ) → cond b x 0 ≤ x
where-le true x = omega arith
where-le false x = omega arith

module _ (seen : Seen) (m : Market) (t : Transfers) (apart : is_same m.listing.coin_mint m.listing.pc_mint ≡ false) (meets : MeetVaults seen m t (movements seen t)) where
  abbrev move : Address → Movement
  move a = movement_of seen t a

  abbrev of_mint : Address → Address → ℕ
  of_mint mint a = weighed_where (λ (mv : Movement). is_of_mint seen mint mv.wallet) debited (move a)

  wallet-of : (a : Address) → (move a).wallet ≡ a
  wallet-of a = wallet-movement_by a (balance_seen seen a) (taken_from seen t a) (brought_to seen t a)

  takes : (a : Address) → debited (move a) ≡ taken_from seen t a
  takes a = debited-by a (balance_seen seen a) (taken_from seen t a) (brought_to seen t a)

  split : (k : ℕ) (a d : Address) → k < length (seen_wallets seen) → get_or (seen_wallets seen) k d ≡ a
      → debited (move a) ≡ of_mint m.listing.coin_mint a + of_mint m.listing.pc_mint a
  split k a d within here =
      let roles : List (Option WalletSeen) = seen.coin ∷ seen.pc ∷ seen.discount ∷ seen.referrer ∷ [] in
      ⊎_elim
      (λ (some : HasMint a roles).
      let test : (mint : Address) → is_same mint some.0 ≡ is_of_mint seen mint (move a).wallet = λ mint. sym (ap (is_of_mint seen mint) (wallet-of a) ∙ some.1 mint) in
      by (is_same m.listing.coin_mint some.0) (is_same m.listing.pc_mint some.0)
      (λ coin. ap (is_same m.listing.pc_mint) (sym (is_same-true m.listing.coin_mint some.0 coin)) ∙ is_same-sym m.listing.pc_mint m.listing.coin_mint ∙ apart)
      (λ no_coin no_pc.
      let zero : all_debited seen some.0 (movements seen t) ≡ 0 =
      meets.others_debits some.0 (is_same-sym some.0 m.listing.coin_mint ∙ no_coin) (is_same-sym some.0 m.listing.pc_mint ∙ no_pc) in
      let sum = total-map (weighed_where (λ (mv : Movement). is_of_mint seen some.0 mv.wallet) debited) move (seen_wallets seen) in
      let part = total-each (of_mint some.0) (seen_wallets seen) k d within in
      let own : of_mint some.0 (get_or (seen_wallets seen) k d) ≡ debited (move a) =
      ap (of_mint some.0) here ∙ cond-true (is_of_mint seen some.0 (move a).wallet) (debited (move a)) 0 (sym (test some.0) ∙ is_same-refl some.0) in
      omega (arith, zero, sum, part, own))
      ∙ (λ i. cond (test m.listing.coin_mint i) (debited (move a)) 0 + cond (test m.listing.pc_mint i) (debited (move a)) 0))
      (λ (none : MissAll a roles).
      omega (
        arith,
        takes a,
        none.0 t.coin_in,
        none.1.0 t.pc_in,
        where-le (is_of_mint seen m.listing.coin_mint (move a).wallet) (debited (move a)),
        where-le (is_of_mint seen m.listing.pc_mint (move a).wallet) (debited (move a)),
      ))
      (found a roles)
    where
      by : (coin pc : Bool) → (coin ≡ true → pc ≡ false) → (coin ≡ false → pc ≡ false → debited (move a) ≡ 0) → debited (move a) ≡ cond coin (debited (move a)) 0 + cond pc (debited (move a)) 0
      by true pc one none = rw (one refl) (omega arith)
      by false true one none = omega arith
      by false false one none = omega (arith, none refl refl)

  pub all-debits : total debited (movements seen t) ≡ t.coin_in + t.pc_in
  all-debits =
      total-map debited move (seen_wallets seen)
      ∙ total-agree (λ (a : Address). debited (move a)) (λ (a : Address). of_mint m.listing.coin_mint a + of_mint m.listing.pc_mint a) (seen_wallets seen)
      (λ k d within. split k (get_or (seen_wallets seen) k d) d within refl)
      ∙ total-plus (of_mint m.listing.coin_mint) (of_mint m.listing.pc_mint) (seen_wallets seen)
      ∙ omega (
        arith,
        total-map (weighed_where (λ (mv : Movement). is_of_mint seen m.listing.coin_mint mv.wallet) debited) move (seen_wallets seen),
        total-map (weighed_where (λ (mv : Movement). is_of_mint seen m.listing.pc_mint mv.wallet) debited) move (seen_wallets seen),
        meets.debits Coin,
        meets.debits Pc,
      )

pub debits-are : (call : Call) (m : Market) → IsSound m → Stands call m → debits_in call.entry ≡ (step_of call m).transfers.coin_in + (step_of call m).transfers.pc_in
debits-are call m sound stands =
    let t : Transfers = (step_of call m).transfers in
    ap debits_in stands.entry
    ∙ ap (total debited) (places-movements call.seen t)
    ∙ all-debits call.seen m t sound.form.mints (row-meets (acted_of call) call.seen m sound (acted-sees call stands.sees))
