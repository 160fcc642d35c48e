-- Which orders are left of a side when orders leave or lose lots from the front.
use Rattle.std.specs.Prelude.{ℕ, ◌≡◌, ◌<◌, ◌⊎◌, List, [], ◌∷◌}
use Rattle.dex_types.specs.declared.orders.Order.{Order}
use Rattle.dex_types.specs.Meeting.{less}

-- the first list is the order with fewer lots, of which some are left, and the others
pub record HasPartOf (left : List Order) (order : Order) (others : List Order) : Type 0 where
  pub lots : ℕ
  pub some_go : 0 < lots
  pub some_stay : lots < order.lots
  pub is : left ≡ less order lots ∷ others

-- the first list is left of the second after orders went from the front: all that follow them stand as before, but the
-- first of those may have lost a part of its lots
abbrev pub IsLeftOf : List Order → List Order → Type 0
IsLeftOf left [] = left ≡ []
IsLeftOf left (order ∷ others) = (left ≡ order ∷ others) ⊎ (HasPartOf left order others ⊎ IsLeftOf left others)
