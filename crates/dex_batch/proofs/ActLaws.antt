-- Rows that act one after the other.
use Rattle.std.proofs.Common.{◌≡◌, ℕ, ◌+◌, ◌<◌, ◌≤◌, true, false, cond, eqb, List, [], ◌∷◌, ◌++◌, drop, get_or, length, map, take, refl, sym, ap, ◌∙◌, subst, arith}
use Rattle.std.proofs.lemmas.List.{append_assoc, drop-map, drop_more, get_or-map, length-map, length-take-le, take-append-drop, take-map, take_all, take_more}
use Rattle.dex_world.proofs.Common.{AllZip-long, PlainRow, Reply, Row, World, cond-false, cond-true, fold, row_of}
use Rattle.std.proofs.lemmas.List.Elements.{All-drop, All-take, All-weaker}
use Rattle.dex_world.specs.declared.places.RowPlaces.{RowPlaces}
use Rattle.dex_world.proofs.FoldLaws.{fold-append}
use Rattle.dex_bank.specs.Cells.{CanAct, CellsState, world_of}
use Rattle.dex_bank.specs.Places.{ArePlacesIn}
use Rattle.dex_bank.specs.Stepped.{HasStepped}
use Rattle.dex_bank.proofs.Stands.{its-address, stand-still, stands-still}
use Rattle.dex_batch.specs.Acting.{AreDistinct, CanAllAct, HaveActed, HaveTheirAddress, IsHere, market_addresses, wallet_addresses}
use Rattle.dex_batch.specs.Parts.{part}
use Rattle.dex_batch.specs.Rooms.{HasRoom}
use Rattle.dex_batch.specs.Shares.{IsReady, share}
use Rattle.dex_batch.proofs.GroupLaws.{fold-markets, fold-wallets}
use Rattle.dex_world.proofs.MappedLists.{zip-at}
use Rattle.dex_batch.proofs.PartLaws.{part-append, zip-drop, zip-take}
use Rattle.dex_batch.proofs.RoomLaws.{can-act, here-still, room-behind, room-front, room-skip}

-- ---- one, and more

pub passed-over : (row : PlainRow) (cells : CellsState) → HaveTheirAddress cells → HaveActed [] (row ∷ []) cells cells
passed-over row cells are = record { acted = refl; kept = refl; their = are; room = λ later has. room-skip row later cells has }

pub one-acted : (row : PlainRow) (reply : Reply) (before after : CellsState) → HasStepped row reply before after → HaveActed (row ∷ []) (row ∷ []) before after
one-acted row reply before after step = record {
  acted = step.acted;
  kept = step.kept;
  their = its-address after step.cells;
  room = λ later has. room-behind row later before after has step.acted step.kept;
}

pub acted-then : (own all more more_all : List PlainRow) (before between after : CellsState) → HaveActed own all before between → HaveActed more more_all between after
    → HaveActed (own ++ more) (all ++ more_all) before after
acted-then own all more more_all before between after one other = record {
  acted = other.acted ∙ ap (fold more) one.acted ∙ sym (fold-append own more (world_of before));
  kept = other.kept ∙ one.kept;
  their = other.their;
  room = λ later has. other.room later (one.room (more_all ++ later) (subst (λ (rows : List PlainRow). HasRoom rows before) (append_assoc all more_all later) has));
}

-- ---- the rows of buffers, by places

module _ (rows : List Row) (place : ℕ) (row : Row) (within : place < length rows) (is : row ≡ get_or rows place row) where
  abbrev all : List PlainRow
  all = map row_of rows

  inside : place < length (map row_of rows)
  inside = omega (arith, within, length-map rows row_of)

  row-at : get_or all place (row_of row) ≡ row_of row
  row-at = get_or-map row_of rows place row (row_of row) within ∙ ap row_of (sym is)

  pub row-more : take (place + 1) all ≡ take place all ++ row_of row ∷ []
  row-more = take_more all place (row_of row) inside ∙ ap (λ (r : PlainRow). take place all ++ r ∷ []) row-at

  -- room for it, and for those behind it
  room-at : (own : List PlainRow) (before now : CellsState) → HasRoom all before → HaveActed own (take place all) before now
      → HasRoom (row_of row ∷ drop (place + 1) all) now
  room-at own before now room so =
      subst (λ (left : List PlainRow). HasRoom left now) (drop_more all place (row_of row) inside ∙ ap (λ (r : PlainRow). r ∷ drop (place + 1) all) row-at)
      (so.room (drop place all) (subst (λ (list : List PlainRow). HasRoom list before) (sym (take-append-drop place all)) room))

  -- ---- all of them

  pub next-can : (places : List RowPlaces) (before now : CellsState) → CanAllAct all places before → HaveActed (take place all) (take place all) before now
      → CanAct (row_of row) now
  next-can places before now can so =
      can-act (row_of row) (drop (place + 1) all) before now can.their so.their so.kept (subst (IsHere before) row-at (can.here place (row_of row) inside))
      (room-at (take place all) before now can.room so)

  pub next-stands : (places : List RowPlaces) (before now : CellsState) → CanAllAct all places before → HaveActed (take place all) (take place all) before now
      → (at : RowPlaces) → at ≡ get_or places place at → ArePlacesIn now (row_of row) at
  next-stands places before now can so at at_is =
      let there : ArePlacesIn before (row_of row) at =
      subst (ArePlacesIn before (row_of row)) (sym at_is) (subst (λ (r : PlainRow). ArePlacesIn before r (get_or places place at)) row-at (zip-at (ArePlacesIn before) all places place (row_of row) at can.placed inside)) in
      stands-still before now can.their so.their so.kept (row_of row) at there

  pub all-more : (before now after : CellsState) (reply : Reply) → HaveActed (take place all) (take place all) before now → HasStepped (row_of row) reply now after
      → HaveActed (take (place + 1) all) (take (place + 1) all) before after
  all-more before now after reply so step =
      subst (λ (list : List PlainRow). HaveActed list list before after) (sym row-more)
      (acted-then (take place all) (take place all) (row_of row ∷ []) (row_of row ∷ []) before now after so (one-acted (row_of row) reply now after step))

  -- ---- those of a number

  module _ (numbers : List ℕ) (number n : ℕ) (first : CellsState) (ready : IsReady (share all numbers number first)) (n_is : n ≡ get_or numbers place n) where
    abbrev So : CellsState → Type 0
    So now = HaveActed (part (take place numbers) number (take place all)) (take place all) first now

    beside : length numbers ≡ length (map row_of rows)
    beside = sym (AllZip-long (λ (m : ℕ) (r : PlainRow). m ≡ number → IsHere first r) numbers all ready.here)

    part-more : part (take (place + 1) numbers) number (take (place + 1) all)
        ≡ part (take place numbers) number (take place all) ++ cond (eqb n number) (row_of row ∷ []) []
    part-more =
        ap (λ (ns : List ℕ). part ns number (take (place + 1) all))
        (take_more numbers place n (omega (arith, inside, beside)) ∙ ap (λ (m : ℕ). take place numbers ++ m ∷ []) (sym n_is))
        ∙ ap (part (take place numbers ++ n ∷ []) number) row-more
        ∙ part-append (take place numbers) (n ∷ []) number (take place all) (row_of row ∷ [])
        (length-take-le place numbers (omega (arith, inside, beside)) ∙ sym (length-take-le place all (omega (arith, inside))))

    pub own-can : (now : CellsState) → So now → n ≡ number → CanAct (row_of row) now
    own-can now so own =
        can-act (row_of row) (drop (place + 1) all) first now ready.their so.their so.kept
        (subst (IsHere first) row-at (zip-at (λ (m : ℕ) (r : PlainRow). m ≡ number → IsHere first r) numbers all place n (row_of row) ready.here (omega (arith, inside, beside)) (sym n_is ∙ own)))
        (room-at (part (take place numbers) number (take place all)) first now ready.room so)

    pub own-more : (now after : CellsState) (reply : Reply) → So now → eqb n number ≡ true → HasStepped (row_of row) reply now after
        → HaveActed (part (take (place + 1) numbers) number (take (place + 1) all)) (take (place + 1) all) first after
    own-more now after reply so own step =
        subst (λ (list : List PlainRow). HaveActed list (take (place + 1) all) first after)
        (sym (part-more ∙ ap (λ (rows : List PlainRow). part (take place numbers) number (take place all) ++ rows) (cond-true _ _ _ own)))
        (subst (λ (list : List PlainRow). HaveActed (part (take place numbers) number (take place all) ++ row_of row ∷ []) list first after) (sym row-more)
        (acted-then (part (take place numbers) number (take place all)) (take place all) (row_of row ∷ []) (row_of row ∷ []) first now after so (one-acted (row_of row) reply now after step)))

    pub other-more : (now : CellsState) → So now → eqb n number ≡ false
        → HaveActed (part (take (place + 1) numbers) number (take (place + 1) all)) (take (place + 1) all) first now
    other-more now so other =
        subst (λ (list : List PlainRow). HaveActed list (take (place + 1) all) first now)
        (sym (part-more ∙ ap (λ (rows : List PlainRow). part (take place numbers) number (take place all) ++ rows) (cond-false _ _ _ other)))
        (subst (λ (list : List PlainRow). HaveActed (part (take place numbers) number (take place all) ++ []) list first now) (sym row-more)
        (acted-then (part (take place numbers) number (take place all)) (take place all) [] (row_of row ∷ []) first now now so (passed-over (row_of row) now so.their)))

pub places-long : (rows : List Row) (places : List RowPlaces) (cells : CellsState) → CanAllAct (map row_of rows) places cells → length places ≡ length rows
places-long rows places cells can = AllZip-long (ArePlacesIn cells) (map row_of rows) places can.placed ∙ length-map rows row_of

pub numbers-long : (rows : List PlainRow) (numbers : List ℕ) (number : ℕ) (cells : CellsState) → IsReady (share rows numbers number cells) → length rows ≡ length numbers
numbers-long rows numbers number cells ready = AllZip-long (λ (n : ℕ) (row : PlainRow). n ≡ number → IsHere cells row) numbers rows ready.here

pub all-own : (rows : List PlainRow) (numbers : List ℕ) (number place : ℕ) (before after : CellsState) → length rows ≤ place → length numbers ≤ place
    → HaveActed (part (take place numbers) number (take place rows)) (take place rows) before after → HaveActed (part numbers number rows) rows before after
all-own rows numbers number place before after end also so =
    subst (λ (list : List PlainRow). HaveActed (part numbers number list) list before after) (take_all place rows end)
    (subst (λ (ns : List ℕ). HaveActed (part ns number (take place rows)) (take place rows) before after) (take_all place numbers also) so)

-- ---- the rows in front, and those behind them

module _ (rows : List PlainRow) (places : List RowPlaces) (cells : CellsState) (can : CanAllAct rows places cells) (count : ℕ) where
  parted : HasRoom (take count rows ++ drop count rows) cells
  parted = subst (λ (list : List PlainRow). HasRoom list cells) (sym (take-append-drop count rows)) can.room

  pub front-can : CanAllAct (take count rows) (take count places) cells
  front-can = record {
    their = can.their;
    apart = can.apart;
    here = All-take (IsHere cells) count rows can.here;
    placed = zip-take (ArePlacesIn cells) count rows places can.placed;
    room = room-front (take count rows) (drop count rows) cells parted;
  }

  pub behind-can : (after : CellsState) → HaveActed (take count rows) (take count rows) cells after → CanAllAct (drop count rows) (drop count places) after
  behind-can after so = record {
    their = so.their;
    apart = record {
      markets = subst AreDistinct (sym (ap (λ (w : World). market_addresses w.markets) so.acted ∙ fold-markets (take count rows) (world_of cells))) can.apart.markets;
      wallets = subst AreDistinct (sym (ap (λ (w : World). wallet_addresses w.wallets) so.acted ∙ fold-wallets (take count rows) (world_of cells))) can.apart.wallets;
    };
    here = All-weaker (IsHere cells) (IsHere after) (λ row here. here-still row cells after can.their so.their so.kept here) (drop count rows) (All-drop (IsHere cells) count rows can.here);
    placed = stand-still cells after can.their so.their so.kept (drop count rows) (drop count places) (zip-drop (ArePlacesIn cells) count rows places can.placed);
    room = so.room (drop count rows) parted;
  }

-- ---- a window

module _ (rows now later : List Row) (places now_places later_places : List RowPlaces) (count : ℕ) (cells : CellsState) (can : CanAllAct (map row_of rows) places cells)
    (now_is : now ≡ take count rows) (later_is : later ≡ drop count rows) (now_places_are : now_places ≡ take count places) (later_places_are : later_places ≡ drop count places) where
  now-rows : map row_of now ≡ take count (map row_of rows)
  now-rows = ap (λ (some : List Row). map row_of some) now_is ∙ sym (take-map row_of count rows)

  later-rows : map row_of later ≡ drop count (map row_of rows)
  later-rows = ap (λ (some : List Row). map row_of some) later_is ∙ sym (drop-map row_of count rows)

  pub window-can : CanAllAct (map row_of now) now_places cells
  window-can =
      subst (λ (some : List PlainRow). CanAllAct some now_places cells) (sym now-rows)
      (subst (λ (some : List RowPlaces). CanAllAct (take count (map row_of rows)) some cells) (sym now_places_are) (front-can (map row_of rows) places cells can count))

  pub window-more : (done every : List PlainRow) (first next : CellsState) → done ++ map row_of rows ≡ every → HaveActed done done first cells
      → HaveActed (map row_of now) (map row_of now) cells next
      → CanAllAct (map row_of later) later_places next × ((some : List PlainRow) × (some ++ map row_of later ≡ every) × HaveActed some some first next)
  window-more done every first next whole so acted = (
    subst (λ (some : List PlainRow). CanAllAct some later_places next) (sym later-rows)
        (subst (λ (some : List RowPlaces). CanAllAct (drop count (map row_of rows)) some next) (sym later_places_are)
        (behind-can (map row_of rows) places cells can count next (subst (λ (some : List PlainRow). HaveActed some some cells next) now-rows acted))),
    (
      done ++ map row_of now,
      append_assoc done (map row_of now) (map row_of later)
          ∙ ap (λ (some : List PlainRow). done ++ some) (ap (λ (some : List PlainRow). some ++ map row_of later) now-rows
          ∙ ap (λ (some : List PlainRow). take count (map row_of rows) ++ some) later-rows ∙ take-append-drop count (map row_of rows))
          ∙ whole,
      acted-then done done (map row_of now) (map row_of now) first cells next so acted,
    ),
  )
