-- What a row sees of the cells in hand.
use Rattle.std.proofs.Common.{◌≡◌, ℕ, true, List, [], ◌∷◌, map, get_or, Option, Some, None, IfSome, refl, sym, ap, ◌∙◌}
use Rattle.dex_world.proofs.Common.{Address, Agree, All-map, PlainRow, Seen, Sees, WalletSeen, address_seen, asked_of, is_same, is_same-true, names, role_at, row_wallets, seen-wallets, seen_by}
use Rattle.std.specs.List.{All, list_any}
use Rattle.dex_world.proofs.MappedLists.{item_at}
use Rattle.dex_world.proofs.NameLaws.{row-among}
use Rattle.dex_world.proofs.OnceLaws.{of-any}
use Rattle.dex_wallet.specs.CellState.{CellState}
use Rattle.dex_act.specs.declared.places.WalletPlaces.{WalletPlaces}
use Rattle.dex_act.specs.Steps.{HasWallets, Terms, world_in_hand}
use Rattle.dex_act.specs.Wallets.{AreApart, Fits, IsNamed, IsRight, IsRoleAt, SeesCells, any_hit, is_among, roles_of, wallet_state_of}
use Rattle.dex_act.proofs.Seeing.{any-seen, found-there, role_at-right}

-- ---- wallets that are named

-- the wallets that a row names are among the cells
pub record AreNamed (cells : List CellState) (row : PlainRow) : Type 0 where
  pub coin : IsNamed cells row.coin
  pub pc : IsNamed cells row.pc
  pub discount : IsNamed cells row.discount
  pub referrer : IsNamed cells row.referrer

pub row-named : (cells : List CellState) (row : PlainRow) → All (λ (address : Address). is_among address cells ≡ true) (row_wallets row) → AreNamed cells row
row-named cells row named =
    let among = row-among row in
    record { coin = here row.coin among.0; pc = here row.pc among.1; discount = here row.discount among.2; referrer = here row.referrer among.3 }
  where
    here : (role : Option Address) → IfSome role (λ address. names row address ≡ true) → IsNamed cells role
    here None among = tt
    here (Some address) among = of-any (λ (a : Address). is_among a cells ≡ true) address (row_wallets row) among named

-- the wallets that a row names are those that one of its roles sees
pub named-hit : (row : PlainRow) (seen : Seen) (address : Address) → Sees (asked_of row) seen → names row address ≡ any_hit address (roles_of seen)
named-hit row seen address sees = ap (list_any (is_same address)) (sym (seen-wallets row seen sees)) ∙ any-seen address seen

-- ---- wallets that are seen

-- a role sees the wallet that it names, where its cell stands somewhere
role-seen : (cells : List CellState) → AreApart cells → (role : Option Address) (place : ℕ) → IsRoleAt cells role place
    → address_seen (role_at role (map wallet_state_of cells)) ≡ role
role-seen cells apart None place at = refl
role-seen cells apart (Some address) place at =
    let cell : CellState = item_at cells place at.within in
    ap address_seen (found-there address cells place cell apart at)
    ∙ ap (λ (a : Address). Some a) (sym (is_same-true address (get_or cells place cell).address (at.here cell)))

-- and two roles that name one wallet see one
agree : (see : Option Address → Option WalletSeen) (one other : Option WalletSeen) → see (address_seen one) ≡ one → see (address_seen other) ≡ other → Agree one other
agree see (Some wallet) (Some another) first second = λ same.
    let both : Some wallet ≡ Some another = sym first ∙ ap (λ (a : Address). see (Some a)) same ∙ second in
    cc
agree see _ _ first second = tt

module _ (terms : Terms) {row : PlainRow} {places : WalletPlaces} {cells : List CellState} (has : HasWallets row places cells) where
  abbrev see : Option Address → Option WalletSeen
  see role = role_at role (map wallet_state_of cells)

  abbrev seen : Seen
  seen = seen_by row (world_in_hand terms cells)

  -- so a row sees exactly the wallets that it names
  pub row-sees : Sees (asked_of row) seen
  row-sees =
      let coin = role-seen cells has.apart row.coin places.coin has.at.coin in
      let pc = role-seen cells has.apart row.pc places.pc has.at.pc in
      let discount = role-seen cells has.apart row.discount places.discount has.at.discount in
      let referrer = role-seen cells has.apart row.referrer places.referrer has.at.referrer in
      record {
        coin = coin;
        pc = pc;
        discount = discount;
        referrer = referrer;
        coin_pc = agree see (see row.coin) (see row.pc) (ap see coin) (ap see pc);
        coin_discount = agree see (see row.coin) (see row.discount) (ap see coin) (ap see discount);
        coin_referrer = agree see (see row.coin) (see row.referrer) (ap see coin) (ap see referrer);
        pc_discount = agree see (see row.pc) (see row.discount) (ap see pc) (ap see discount);
        pc_referrer = agree see (see row.pc) (see row.referrer) (ap see pc) (ap see referrer);
        discount_referrer = agree see (see row.discount) (see row.referrer) (ap see discount) (ap see referrer);
      }

  -- and sees the cells as they are
  pub sees-cells : All Fits (roles_of seen) → SeesCells seen cells
  sees-cells fits =
      let roles : List (Option Address) = row.coin ∷ row.pc ∷ row.discount ∷ row.referrer ∷ [] in
      record {
        apart = has.apart;
        kept = has.kept;
        right = λ k default lt. All-map (IsRight (get_or cells k default)) see roles (λ i role within. role_at-right (get_or roles i role) cells has.apart k default lt);
        fits = fits;
        spare = λ k default lt hit. has.spare k default lt (named-hit row seen (get_or cells k default).address row-sees ∙ hit);
      }
