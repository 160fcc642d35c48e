-- Cells of markets, the first of whose at an address acts.
use Rattle.std.proofs.Common.{◌≡◌, ℕ, zero, suc, ◌<◌, true, false, List, [], ◌∷◌, ◌++◌, map, set, get_or, get_or-drop, get_or-set_other, get_or-set_same, get_or-take, length, length-set, take, drop, Some, refl, sym, ap, ◌∙◌, arith}
use Rattle.dex_world.proofs.Common.{Address, MarketState, PlainMarketAccounts, PlainRow, Seen, cond-false, cond-true, false≢true, is_same, is_same-true, market_acted, markets_acted}
use Rattle.dex_bank.proofs.Common.{IsFirstAt, MarketCellState, OthersStay, item_at, market_at, market_state_of}
use Rattle.std.proofs.lemmas.List.{get_or_default, places, same_lists}
use Rattle.dex_accounts.specs.Decoded.{market_in}
use Rattle.dex_cell.specs.CellState as cells

-- the address of the market that accounts tell is theirs
listing-address : (accounts : PlainMarketAccounts) → (market_in accounts).listing.address ≡ accounts.address
unfolding market_in
listing-address accounts = refl

-- ---- the place of a market

-- after the first cell, the others
first-later : (address : Address) (cell : MarketCellState) (others : List MarketCellState) (place : ℕ) → IsFirstAt address (cell ∷ others) (suc place)
    → (is_same address cell.accounts.address ≡ false) × IsFirstAt address others place
first-later address cell others place first = (
  first.before 0 (omega arith) cell,
  record { within = omega (arith, first.within); here = first.here; before = λ k below default. first.before (suc k) (omega (arith, below)) default },
)

-- ---- what stands there

-- the market of the address is that of the cell
pub market-found : (address : Address) (markets : List MarketCellState) (place : ℕ) (default : MarketCellState) → IsFirstAt address markets place
    → market_at address (map market_state_of markets) ≡ Some (cells.market_at (get_or markets place default))
market-found address [] place default first = absurd (omega (arith, first.within))
market-found address (cell ∷ others) zero default first =
    let same : is_same address (market_in cell.accounts).listing.address ≡ true = ap (is_same address) (listing-address cell.accounts) ∙ first.here default in
    cond-true _ _ _ same
market-found address (cell ∷ others) (suc place) default first =
    let later = first-later address cell others place first in
    let other : is_same address (market_in cell.accounts).listing.address ≡ false = ap (is_same address) (listing-address cell.accounts) ∙ later.0 in
    cond-false _ _ _ other ∙ market-found address others place default later.1

-- ---- the step of a row

-- the markets after it
pub become-first : (doing : PlainRow) (seen : Seen) (markets : List MarketCellState) (place : ℕ) (after default : MarketCellState) → IsFirstAt doing.market markets place
    → market_state_of after ≡ market_acted doing seen (market_state_of (get_or markets place default))
    → map market_state_of (set markets place after) ≡ markets_acted doing seen (map market_state_of markets)
become-first doing seen [] place after default first state = absurd (omega (arith, first.within))
become-first doing seen (cell ∷ others) zero after default first state =
    let same : is_same doing.market (market_in cell.accounts).listing.address ≡ true = ap (is_same doing.market) (listing-address cell.accounts) ∙ first.here cell in
    ap (λ (one : MarketState). one ∷ map market_state_of others) state ∙ sym (cond-true _ _ _ same)
become-first doing seen (cell ∷ others) (suc place) after default first state =
    let later = first-later doing.market cell others place first in
    let other : is_same doing.market (market_in cell.accounts).listing.address ≡ false = ap (is_same doing.market) (listing-address cell.accounts) ∙ later.0 in
    ap (λ (states : List MarketState). market_state_of cell ∷ states) (become-first doing seen others place after default later.1 state) ∙ sym (cond-false _ _ _ other)

-- the others stay
pub others-stay : (address : Address) (before : List MarketCellState) (place : ℕ) (cell : MarketCellState) → IsFirstAt address before place
    → OthersStay address before (set before place cell)
others-stay address [] place cell first = absurd (omega (arith, first.within))
others-stay address (old ∷ others) zero cell first =
    ((λ (other : is_same address old.accounts.address ≡ false). absurd (false≢true (sym other ∙ first.here old))), all-stay address others)
  where
    all-stay : (address : Address) (cells : List MarketCellState) → OthersStay address cells cells
    all-stay address [] = tt
    all-stay address (one ∷ cells) = ((λ other. refl), all-stay address cells)
others-stay address (old ∷ others) (suc place) cell first =
    ((λ other. refl), others-stay address others place cell (first-later address old others place first).1)

-- ---- two places of a list in two parts

-- one in the front, and the first behind it
pub set-parts : {A : Type 0} (xs : List A) (one two : ℕ) (x y : A) → one < two → two < length xs
    → set (take two xs) one x ++ set (drop two xs) 0 y ≡ set (set xs one x) two y
set-parts xs one two x y lower within = same_lists _ _ (grind (arith, places, length-set)) (λ k d h. grind (arith, places, length-set, get_or-set_same))

-- one behind, and the other in front of it
pub set-parts-back : {A : Type 0} (xs : List A) (one two : ℕ) (x y : A) → two < one → one < length xs
    → set (take one xs) two y ++ set (drop one xs) 0 x ≡ set (set xs one x) two y
set-parts-back xs one two x y lower within = same_lists _ _ (grind (arith, places, length-set)) (λ k d h. grind (arith, places, length-set, get_or-set_same))

-- another place stays
pub other-at : {A : Type 0} (xs : List A) (one two : ℕ) (x default : A) → (one ≡ two → ⊥) → get_or (set xs one x) two default ≡ get_or xs two default
other-at xs one two x default apart = get_or-set_other xs one two x default (λ same. apart (sym same))

-- what stands in the front, and first behind it
pub front-at : {A : Type 0} (xs : List A) (mid k : ℕ) (d e : A) → k < mid → k < length xs → get_or (take mid xs) k d ≡ get_or xs k e
front-at xs mid k d e lower within = get_or-take mid xs k d lower ∙ get_or_default xs k d e within

pub back-at : {A : Type 0} (xs : List A) (mid : ℕ) (d e : A) → mid < length xs → get_or (drop mid xs) 0 d ≡ get_or xs mid e
back-at xs mid d e within = get_or-drop mid xs 0 d ∙ ap (λ (n : ℕ). get_or xs n d) (omega arith) ∙ get_or_default xs mid d e within

-- two markets stand at two places
pub apart-places : (one other : Address) (markets : List MarketCellState) (p q : ℕ) → IsFirstAt one markets p → IsFirstAt other markets q
    → is_same one other ≡ false → p ≡ q → ⊥
apart-places one other markets p q first second apart same =
    let d : MarketCellState = item_at markets p first.within in
    let here : other ≡ (get_or markets p d).accounts.address =
    is_same-true other (get_or markets q d).accounts.address (second.here d) ∙ ap (λ (k : ℕ). (get_or markets k d).accounts.address) (sym same) in
    false≢true (sym apart ∙ ap (is_same one) here ∙ first.here d)
