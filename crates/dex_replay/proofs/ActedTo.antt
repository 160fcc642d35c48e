-- A script's items act one after the other, until none of its rows is left.
use Rattle.std.proofs.Common.{◌≡◌, ℕ, zero, suc, ◌+◌, ◌<◌, ◌≤◌, min, true, false, eqb, List, [], ◌∷◌, ◌++◌, Option, None, Some, drop, get_or, is_some, length, map, option_copied, option_map, refl, slice_get, sym, ap, ◌∙◌, subst, arith, ⊎_elim}
use Rattle.dex_world.proofs.Common.{All-cons, All-head, All-nil, All-tail, All-weaker, AllPairs, AllZip-long, PlainRow, Row, World, act, act_item, alone, cases_Bool, false≢true, flat_map, flat_map-append, fold_items, length-map, members, ne_eqb, row_of, why_in}
use Rattle.dex_replay.proofs.Common.{All, AreCells, AreLegs, CanAct, CellsState, HasNoThree, IsLeg, IsRowOf, IsScript, PlainScript, RowPlaces, opened, opened_of, start_world, world_of}
use Rattle.std.specs.Borrow.{Bor}
use Rattle.std.proofs.lemmas.List.{append-nil, append_assoc, drop-map, get_or_default, get_or_past}
use Rattle.std.proofs.lemmas.Option.{slice_get-map}
use Rattle.dex_world.specs.Items.{Item, items_of, pair_of}
use Rattle.dex_world.proofs.GroupLaws.{grouped-apart, grouped-pair}
use Rattle.dex_world.proofs.ItemLaws.{alone-acts}
use Rattle.dex_bank.specs.Cells.{CanActBoth, IsTakeOrRefused}
use Rattle.dex_bank.specs.Places.{ArePlacedIn, ArePlacesIn}
use Rattle.dex_bank.proofs.Stands.{its-address, stand-still}
use Rattle.dex_replay.specs.Acting.{AreLeft, HaveActed, IsNext, NeverFalls}
use Rattle.dex_replay.proofs.Counting.{IsCounted, run-counted}
use Rattle.dex_replay.proofs.Groups.{each-two}
use Rattle.dex_replay.proofs.Items.{HaveAllRun, items-run, row_told, take-or-refused}
use Rattle.dex_replay.proofs.MappedLists.{All-behind, All-front}
use Rattle.dex_replay.proofs.Orders.{IsItemIn, number_of, order-items, own-order}
use Rattle.dex_replay.proofs.Room.{can-act}
use Rattle.dex_replay.proofs.RunSteps.{start-run}
use Rattle.dex_replay.proofs.Starts.{are-of-script, opened-address, opened-opened, opened-world}

-- at the start all rows are left
pub all-left : (script : PlainScript) (rows : List PlainRow) (places : List RowPlaces) (cells : CellsState) → IsScript script → cells ≡ opened script → rows ≡ script.rows
    → ArePlacedIn cells rows places → AreLeft script rows places cells
all-left script rows places cells is made same placed =
    subst (λ (some : List PlainRow). AreLeft script some places cells) (sym same)
    (record {
      done = [];
      items = refl;
      rows = refl;
      rising = is.rows.rising;
      two = is.rows.two;
      placed = subst (λ (some : List PlainRow). ArePlacedIn cells some places) same placed;
      opened = opened-opened script cells made;
      addresses = opened-address script cells made;
      acted = ap world_of made ∙ opened-world script;
    })

-- where none is left all items have acted
pub all-acted : (script : PlainScript) (left : List PlainRow) (places : List RowPlaces) (cells : CellsState) → AreLeft script left places cells → length left ≡ 0
    → world_of cells ≡ fold_items (items_of script.rows) (start_world script)
all-acted script [] places cells so none =
    so.acted ∙ ap (λ (items : List Item). fold_items items (start_world script)) (sym (append-nil so.done) ∙ sym so.items)
all-acted script (row ∷ left) places cells so none = absurd (omega (arith, none))

-- ---- numbers

abbrev IsApart : ℕ → PlainRow → Type 0
IsApart number row = eqb number row.number ≡ false

behind-two : (row : PlainRow) (rows : List PlainRow) → AllPairs NeverFalls (row ∷ rows) → AllPairs NeverFalls rows
behind-two row rows pairs i j d less within = pairs (suc i) (suc j) d (omega (arith, less)) (omega (arith, within))

behind-three : (row : PlainRow) (rows : List PlainRow) → HasNoThree (row ∷ rows) → HasNoThree rows
behind-three row rows two place d within =
    let same : suc place + 2 ≡ suc (place + 2) = omega arith in
    subst (λ (n : ℕ). (get_or rows place d).number < (get_or (row ∷ rows) n d).number) same (two (suc place) d (omega (arith, within)))

-- rows after one of a higher number have other numbers too
apart-behind : (number : ℕ) (first : PlainRow) (rows : List PlainRow) → number < first.number → AllPairs NeverFalls (first ∷ rows) → All (IsApart number) (first ∷ rows)
apart-behind number first rows higher rising =
    All-cons (IsApart number) first rows (ne_eqb number first.number (λ same. omega (arith, same, higher)))
    (All-weaker (NeverFalls first) (IsApart number) (λ row later. ne_eqb number row.number (λ same. omega (arith, same, higher, later))) rows (each-two NeverFalls (first ∷ rows) rising).0)

alone-apart : (row : PlainRow) (others : List PlainRow) → AllPairs NeverFalls (row ∷ others)
    → ((second : PlainRow) → slice_get others 0 ≡ Some second → row.number ≡ second.number → ⊥) → All (IsApart row.number) others
alone-apart row [] rising other = All-nil (IsApart row.number)
alone-apart row (second ∷ others) rising other =
    let differ : row.number ≡ second.number → ⊥ = other second refl in
    let le : row.number ≤ second.number = rising 0 1 row (omega arith) (omega arith) in
    apart-behind row.number second others (omega (arith, differ, le)) (behind-two row (second ∷ others) rising)

pair-apart : (row second : PlainRow) (others : List PlainRow) → AllPairs NeverFalls (row ∷ second ∷ others) → HasNoThree (row ∷ second ∷ others)
    → All (IsApart row.number) others
pair-apart row second [] rising two = All-nil (IsApart row.number)
pair-apart row second (third ∷ others) rising two =
    apart-behind row.number third others (two 0 row (omega arith))
    (behind-two second (third ∷ others) (behind-two row (second ∷ third ∷ others) rising))

-- ---- places

placed-behind : (cells : CellsState) (row : PlainRow) (rows : List PlainRow) (places : List RowPlaces) → ArePlacedIn cells (row ∷ rows) places
    → ArePlacedIn cells rows (drop 1 places)
placed-behind cells row rows [] are = absurd are
placed-behind cells row rows (first ∷ places) are = are.1

pub row-stands : {script : PlainScript} {row : PlainRow} {behind : Option PlainRow} {others : List PlainRow} {places : List RowPlaces} {at at_behind : RowPlaces}
    {cells : CellsState} → IsNext script row behind others places at at_behind cells → ArePlacesIn cells row at
row-stands {places = []} next = absurd next.left.placed
row-stands {row = row} {places = first ∷ places} {cells = cells} next = subst (ArePlacesIn cells row) next.stands next.left.placed.0

-- ---- one item more

pub items-append : (items later : List Item) (world : World) → fold_items (items ++ later) world ≡ fold_items later (fold_items items world)
items-append [] later world = refl
items-append (item ∷ items) later world = items-append items later (act_item item world)

module _ {script : PlainScript} (is : IsScript script) {left : List PlainRow} {places : List RowPlaces} {cells : CellsState} (so : AreLeft script left places cells) where
  abbrev IsOwn : Item → Type 0
  IsOwn item = IsItemIn script item.first.lane item

  own : All IsOwn (so.done ++ items_of left)
  own = subst (All IsOwn) so.items (order-items script is.rows (items_of script.rows) (own-order script is.rows))

  -- the items so far leave a run
  told : HaveAllRun script so.done [] (start_world script)
  told = items-run script is.start so.done [] (start_world script) (All-front IsOwn so.done (items_of left) own) (start-run script)

  counted : IsCounted (flat_map members so.done) (world_of cells)
  counted =
      subst (λ (rows : List PlainRow). IsCounted rows (world_of cells)) told.rows
      (subst (IsCounted (map row_told told.told)) (sym so.acted) (run-counted script told.told (fold_items so.done (start_world script)) told.run))

  -- a row that is left can act
  can : (between rest : List PlainRow) (row : PlainRow) → left ≡ between ++ row ∷ rest → IsRowOf script.start row → CanAct row cells
  can between rest row there fits =
      can-act script cells (are-of-script script cells so.opened) so.addresses (flat_map members so.done) between rest row
      (ap (λ (some : List PlainRow). flat_map members so.done ++ some) (sym there) ∙ so.rows) counted fits

  leg-or-refused : (row : PlainRow) → IsRowOf script.start row → IsLeg row → IsTakeOrRefused row cells
  leg-or-refused row fits leg isnt =
      ⊎_elim (λ (refused : is_some (why_in (world_of cells) row) ≡ true). refused)
      (λ (spared : is_some (why_in (world_of cells) row) ≡ false).
      absurd (false≢true (sym isnt
      ∙ take-or-refused script is.start told.told (fold_items so.done (start_world script)) told.run row fits leg
      (ap (λ (world : World). is_some (why_in world row)) (sym so.acted) ∙ spared))))
      (cases_Bool (is_some (why_in (world_of cells) row)))

  -- the item with which they begin
  module _ (item : Item) (rest : List PlainRow) (split : items_of left ≡ item ∷ items_of rest) (rows : left ≡ members item ++ rest) where
    begins : IsOwn item
    begins = All-head IsOwn item (items_of rest) (subst (All IsOwn) split (All-behind IsOwn so.done (items_of left) own))

    -- after it
    acts : (after : CellsState) (behind : List RowPlaces) → AllPairs NeverFalls rest → HasNoThree rest → ArePlacedIn cells rest behind → opened_of after ≡ opened_of cells
        → AreCells after → world_of after ≡ act_item item (world_of cells) → AreLeft script rest behind after
    acts after behind rising two placed kept are acted = record {
      done = so.done ++ item ∷ [];
      items = so.items
          ∙ ap (λ (items : List Item). so.done ++ items) split
          ∙ sym (append_assoc so.done (item ∷ []) (items_of rest));
      rows = ap (λ (some : List PlainRow). some ++ rest) (flat_map-append members so.done (item ∷ []))
          ∙ append_assoc (flat_map members so.done) (members item ++ []) rest
          ∙ ap (λ (some : List PlainRow). flat_map members so.done ++ (some ++ rest)) (append-nil (members item))
          ∙ ap (λ (some : List PlainRow). flat_map members so.done ++ some) (sym rows)
          ∙ so.rows;
      rising = rising;
      two = two;
      placed = stand-still cells after so.addresses (its-address after are) kept rest behind placed;
      opened = kept ∙ so.opened;
      addresses = its-address after are;
      acted = acted ∙ ap (act_item item) so.acted ∙ sym (items-append so.done (item ∷ []) (start_world script));
    }

-- the row behind has another number
abbrev pub IsAlone : PlainRow → Option PlainRow → Type 0
IsAlone row behind = (second : PlainRow) → behind ≡ Some second → row.number ≡ second.number → ⊥

-- a row alone
module _ {script : PlainScript} (is : IsScript script) {row : PlainRow} {behind : Option PlainRow} {others : List PlainRow} {places : List RowPlaces}
    {at at_behind : RowPlaces} {cells : CellsState} (next : IsNext script row behind others places at at_behind cells) (other : IsAlone row behind) where
  alone-split : items_of (row ∷ others) ≡ alone row ∷ items_of others
  alone-split = grouped-apart number_of row others (alone-apart row others next.left.rising (λ second at. other second (next.front ∙ at)))

  pub can-row : CanAct row cells
  can-row = can is next.left [] others row refl (All-head (IsRowOf script.start) row [] (begins is next.left (alone row) others alone-split refl).fits)

  pub row-done : {after : CellsState} → opened_of after ≡ opened_of cells → AreCells after → world_of after ≡ act row (world_of cells)
      → HaveActed script (row ∷ others) places 1 after
  row-done {after} kept are acted = record {
    some = omega arith;
    within = omega arith;
    left = acts is next.left (alone row) others alone-split refl after (drop 1 places) (behind-two row others next.left.rising)
        (behind-three row others next.left.two) (placed-behind cells row others places next.left.placed) kept are (acted ∙ sym (alone-acts row (world_of cells)));
  }

-- two legs
module _ {script : PlainScript} (is : IsScript script) {first second : PlainRow} {behind : Option PlainRow} {others : List PlainRow} {places : List RowPlaces}
    {at at_behind : RowPlaces} {cells : CellsState} (next : IsNext script first behind others places at at_behind cells)
    (is_behind : behind ≡ Some second) (same : second.number ≡ first.number) where
  behind-it : (rest : List PlainRow) × (others ≡ second ∷ rest)
  behind-it = told others (sym is_behind ∙ next.front)
    where
      told : (some : List PlainRow) → Some second ≡ slice_get some 0 → (rest : List PlainRow) × (some ≡ second ∷ rest)
      told [] is = absurd (cc)
      told (one ∷ some) is = let it : second ≡ one = cc in (some, ap (λ (it : PlainRow). it ∷ some) (sym it))

  abbrev rest : List PlainRow
  rest = behind-it.0

  so : AreLeft script (first ∷ second ∷ rest) places cells
  so = subst (λ (some : List PlainRow). AreLeft script (first ∷ some) places cells) behind-it.1 next.left

  pair-split : items_of (first ∷ second ∷ rest) ≡ pair_of first second ∷ items_of rest
  pair-split = grouped-pair number_of first second rest same (pair-apart first second rest so.rising so.two)

  pair-begins : IsItemIn script first.lane (pair_of first second)
  pair-begins = begins is so (pair_of first second) rest pair-split refl

  legs : AreLegs first second
  legs = All-head (AreLegs first) second [] pair-begins.legs.0

  fits-first : IsRowOf script.start first
  fits-first = All-head (IsRowOf script.start) first (second ∷ []) pair-begins.fits

  fits-second : IsRowOf script.start second
  fits-second = All-head (IsRowOf script.start) second [] (All-tail (IsRowOf script.start) first (second ∷ []) pair-begins.fits)

  pub can-legs : CanActBoth first second cells
  can-legs = record {
    first_can = can is so [] (second ∷ rest) first refl fits-first;
    second_can = can is so (first ∷ []) rest second refl fits-second;
    share = legs.apart;
    first_take = leg-or-refused is so first fits-first legs.first;
    second_take = leg-or-refused is so second fits-second legs.second;
  }

  pub legs-done : {after : CellsState} → opened_of after ≡ opened_of cells → AreCells after → world_of after ≡ act_item (pair_of first second) (world_of cells)
      → HaveActed script (first ∷ others) places 2 after
  legs-done {after} kept are acted =
      subst (λ (some : List PlainRow). HaveActed script (first ∷ some) places 2 after) (sym behind-it.1)
      (record {
        some = omega arith;
        within = omega arith;
        left = acts is so (pair_of first second) rest pair-split refl after (drop 2 places)
            (behind-two second rest (behind-two first (second ∷ rest) so.rising)) (behind-three second rest (behind-three first (second ∷ rest) so.two))
            (placed-two places so.placed) kept are acted;
      })
    where
      placed-two : (some : List RowPlaces) → ArePlacedIn cells (first ∷ second ∷ rest) some → ArePlacedIn cells rest (drop 2 some)
      placed-two [] are = absurd are
      placed-two (one ∷ some) are = placed-behind cells second rest some are.1

  pub legs-stand : ArePlacesIn cells first at × ArePlacesIn cells second at_behind
  legs-stand = told places so.placed next.stands next.stands_behind
    where
      told : (some : List RowPlaces) → ArePlacedIn cells (first ∷ second ∷ rest) some → get_or some 0 at ≡ at → get_or some 1 at_behind ≡ at_behind
          → ArePlacesIn cells first at × ArePlacesIn cells second at_behind
      told [] are one two = absurd are
      told (only ∷ []) are one two = absurd are.1
      told (this ∷ other ∷ some) are one two = (subst (ArePlacesIn cells first) one are.0, subst (ArePlacesIn cells second) two are.1.0)

-- ---- the rows of buffers

-- the row behind, as a plain one
pub plain-behind : {behind : Option (Bor Row)} {second : Bor Row} → behind ≡ Some second → option_map row_of (option_copied behind) ≡ Some (row_of second.now)
plain-behind is = ap (λ (b : Option (Bor Row)). option_map row_of (option_copied b)) is

pub alone-some : (row : Row) {behind : Option (Bor Row)} {second : Bor Row} → behind ≡ Some second → (second.now.number ≡ row.number → ⊥)
    → IsAlone (row_of row) (option_map row_of (option_copied behind))
alone-some row {behind} {second} is differ found at same =
    let it : Some (row_of second.now) ≡ Some found = sym (plain-behind is) ∙ at in
    let both : row_of second.now ≡ found = cc in
    differ (ap number_of both ∙ sym same)

pub alone-none : (row : Row) {behind : Option (Bor Row)} → ((second : Bor Row) → behind ≡ Some second → ⊥)
    → IsAlone (row_of row) (option_map row_of (option_copied behind))
alone-none row {behind = None} none found at same = absurd (cc)
alone-none row {behind = Some second} none found at same = none second refl

-- the place of the row behind, or where none is, its own
stands-second : (places : List RowPlaces) (others place : ℕ) (d : RowPlaces) → length places ≡ suc others → place ≡ min others 1
    → get_or places 1 (get_or places place d) ≡ get_or places place d
stands-second places zero place d long is = get_or_past places 1 (get_or places place d) (omega (arith, long))
stands-second places (suc others) place d long is =
    ap (λ (n : ℕ). get_or places n (get_or places place d)) (omega (arith, is)) ∙ get_or_default places place (get_or places place d) d (omega (arith, long, is))

-- rows are left, and of them one is in front of others
module _ {script : PlainScript} {all others : List Row} {row : Row} {places : List RowPlaces} {cells : CellsState}
    (left : AreLeft script (map row_of all) places cells) (rows : all ≡ row ∷ others) where
  -- there are as many places
  pub as-many : length places ≡ suc (length others)
  as-many = AllZip-long (ArePlacesIn cells) (map row_of all) places left.placed ∙ length-map all row_of ∙ ap (λ (some : List Row). length some) rows

  -- what is left after the item that acted
  pub behind-item : {behind : Option Row} {place count : ℕ} (d e : RowPlaces) {after : CellsState} → IsScript script → behind ≡ slice_get others 0
      → place ≡ min (length others) 1
      → ((one : PlainScript) (rows : List PlainRow) (some : List RowPlaces) → IsScript one
      → IsNext one (row_of row) (option_map row_of behind) rows some (get_or places 0 d) (get_or places place e) cells → HaveActed one (row_of row ∷ rows) some count after)
      → (0 < count) × (count ≤ length all) × (count ≤ length places) × AreLeft script (map row_of (drop count all)) (drop count places) after
  behind-item {behind} {place} {count} d e {after} is front second does =
      let acted = does script (map row_of others) places is (record {
        left = subst (λ (some : List Row). AreLeft script (map row_of some) places cells) rows left;
        front = ap (option_map row_of) front ∙ sym (slice_get-map row_of others 0);
        stands = get_or_default places 0 (get_or places 0 d) d (omega (arith, as-many));
        stands_behind = stands-second places (length others) place e as-many second;
      }) in
      let same : map row_of all ≡ row_of row ∷ map row_of others = ap (map row_of) rows in
      let many : length all ≡ suc (length others) = ap (λ (some : List Row). length some) rows in
      let within : count ≤ length all = omega (arith, acted.within, many, length-map others row_of) in (
        acted.some,
        within,
        omega (arith, within, many, as-many),
        subst (λ (some : List PlainRow). AreLeft script some (drop count places) after) (ap (drop count) (sym same) ∙ drop-map row_of count all) acted.left,
      )
