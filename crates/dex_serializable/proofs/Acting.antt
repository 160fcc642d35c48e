-- An item leaves the world after its calls: each of its rows is refused in the world before it just where its call was,
-- so all act, or each that is not refused is held back.
use Rattle.std.proofs.Common.{◌≡◌, ◌&&◌, not, Bool, true, false, cond, List, [], ◌∷◌, ◌++◌, get_or, map, Option, is_some, refl, sym, ap, ◌∙◌, subst, ⊎_elim, arith, All}
use Rattle.dex_world.proofs.Common.{All-append, All-cons, All-head, All-map, All-nil, All-tail, Asked, Call, EachApart, Market, PlainRow, Seen, ShareNothing, World, act, act_item, cases_Bool, chosen, cond-false, cond-true, cond_both, flat_map, fold, fold_items, idle_row, is_held, is_refused, list_any, why, why-far, why_in, why_on}
use Rattle.dex_replay.proofs.Common.{PlainScript}
use Rattle.dex_serializable.proofs.Common.{All-unmap, IsAsOthers, Stamped, map-agree, map-map}
use Rattle.dex_world.proofs.MappedLists.{list_any-agree, list_any-map}
use Rattle.std.proofs.lemmas.List.{append-nil, append_assoc, map-append}
use Rattle.dex_history.proofs.HeldLaws.{refused-told}
use Rattle.dex_world.specs.Items.{held_in}
use Rattle.dex_world.specs.World.{market_at}
use Rattle.dex_serializable.proofs.Fronts.{world_front}
use Rattle.dex_serializable.proofs.Items.{Item, call_in, row_in}
use Rattle.dex_serializable.proofs.Acts.{acted_row}
use Rattle.dex_serializable.proofs.Steps.{AreLegal, AreOnce, Finds, acted_in, item-finds, items-acted, legal-front}
use Rattle.dex_serializable.proofs.Turns.{Turn, item_in, items_in}

-- ---- rows that share nothing with one

module _ (row : PlainRow) where
  abbrev IsFar : PlainRow → Type 0
  IsFar other = ShareNothing other row

  -- as they acted they share nothing with it either
  acted-far : (other : PlainRow) (call : Call) → IsFar other → IsFar (acted_row other call)
  acted-far other call far =
      cond_both (is_held call) (idle_row other) other IsFar (λ held. record { markets = far.markets; wallets = far.wallets }) (λ own. far)

  -- so it is refused after them just where it is before them
  why-still : (rows : List PlainRow) (world : World) → All IsFar rows → why_in (fold rows world) row ≡ why_in world row
  why-still [] world far = refl
  why-still (other ∷ rows) world far = why-still rows (act other world) (All-tail IsFar other rows far) ∙ why-far other row (All-head IsFar other rows far) world

-- ---- which rows of an item are refused in the world before it

-- some calls are those of items, with others before and after
module _ (script : PlainScript) (made : List (Stamped Call)) (once : AreOnce script) where
  -- a row is refused there just where its call was
  abbrev IsToldRight : Item script → Type 0
  IsToldRight one = is_some (why_in (world_front script made) one.row) ≡ is_refused one.call.item

  told-right : (earlier : List (Item script)) (later : List (Stamped Call)) (one : Item script) → AreLegal script ((made ++ map call_in earlier) ++ one.call ∷ later)
      → All (λ (other : Item script). IsFar one.row other.row) earlier → IsToldRight one
  told-right earlier later one legal far =
      let before : List (Stamped Call) = made ++ map call_in earlier in
      let row : PlainRow = one.row in
      let finds : Finds script before one = item-finds script before later one once legal in
      let far_acted : All (IsFar row) (map acted_in earlier) =
      All-map (IsFar row) acted_in earlier (λ k d within. acted-far row (get_or earlier k d).row (get_or earlier k d).call.item (far k d within)) in
      ap is_some
      (sym (why-still row (map acted_in earlier) (world_front script made) far_acted)
      ∙ ap (λ (world : World). why_in world row) (items-acted script made earlier once (legal-front script before (one.call ∷ later) legal)))
      ∙ ap (λ (s : Seen). is_some (why_on row s (market_at row.market (world_front script before).markets))) finds.sees
      ∙ ap (λ (o : Option Market). is_some (why_on row one.call.item.seen o)) finds.at
      ∙ ap (λ (asked : Asked). is_some (why asked.request one.call.item.seen finds.m)) (sym one.is.asks)
      ∙ sym (refused-told one.call.item finds.m finds.stands)

  all-right : (earlier items : List (Item script)) (later : List (Stamped Call)) → AreLegal script (made ++ (map call_in (earlier ++ items) ++ later))
      → EachApart (map row_in items) → All (λ (one : Item script). All (λ (other : Item script). IsFar one.row other.row) earlier) items → All IsToldRight items
  all-right earlier [] later legal apart far = All-nil IsToldRight
  all-right earlier (one ∷ items) later legal apart far =
      let Far : Item script → Type 0 = λ x. All (λ (other : Item script). IsFar x.row other.row) earlier in
      let rest : List (Stamped Call) = map call_in items ++ later in
      let calls : map call_in (earlier ++ one ∷ items) ++ later ≡ map call_in earlier ++ one.call ∷ rest =
      ap (λ (some : List (Stamped Call)). some ++ later) (map-append call_in earlier (one ∷ items)) ∙ append_assoc (map call_in earlier) (one.call ∷ map call_in items) later in
      let split : made ++ (map call_in (earlier ++ one ∷ items) ++ later) ≡ (made ++ map call_in earlier) ++ one.call ∷ rest =
      ap (λ (some : List (Stamped Call)). made ++ some) calls ∙ sym (append_assoc made (map call_in earlier) (one.call ∷ rest)) in
      let shift : earlier ++ one ∷ items ≡ (earlier ++ one ∷ []) ++ items = sym (append_assoc earlier (one ∷ []) items) in
      All-cons IsToldRight one items
      (told-right earlier rest one (subst (AreLegal script) split legal) (All-head Far one items far))
      (all-right (earlier ++ one ∷ []) items later
      (subst (λ (some : List (Item script)). AreLegal script (made ++ (map call_in some ++ later))) shift legal) apart.1
      (both items (All-tail Far one items far) (All-unmap (ShareNothing one.row) row_in items apart.0)))
    where
      both : (some : List (Item script)) → All (λ (x : Item script). All (λ (other : Item script). IsFar x.row other.row) earlier) some
          → All (λ (x : Item script). ShareNothing one.row x.row) some → All (λ (x : Item script). All (λ (other : Item script). IsFar x.row other.row) (earlier ++ one ∷ [])) some
      both some first second k d within =
          let Far : Item script → Type 0 = λ other. IsFar (get_or some k d).row other.row in
          All-append Far earlier (one ∷ []) (first k d within) (All-cons Far one [] (second k d within) (All-nil Far))

  -- ---- so they do there what they did

  module _ (items : List (Item script)) (right : All IsToldRight items) (choice : All (λ (one : Item script). IsAsOthers (map call_in items) one.call) items) where
    abbrev any : Bool
    any = list_any (λ (call : Stamped Call). is_refused call.item) (map call_in items)

    any-agree : list_any (λ (row : PlainRow). is_some (why_in (world_front script made) row)) (map row_in items) ≡ any
    any-agree =
        list_any-map (λ (row : PlainRow). is_some (why_in (world_front script made) row)) row_in items
        ∙ list_any-agree (λ (one : Item script). is_some (why_in (world_front script made) one.row)) (λ (one : Item script). is_refused one.call.item) items right
        ∙ sym (list_any-map (λ (call : Stamped Call). is_refused call.item) call_in items)

    held-same : any ≡ true → (one : Item script) → IsToldRight one → IsAsOthers (map call_in items) one.call → held_in (world_front script made) one.row ≡ acted_in one
    held-same some one told alike =
        ap (λ (b : Bool). cond b one.row (idle_row one.row)) told
        ∙ not-cond (is_refused one.call.item)
        ∙ sym (ap (λ (b : Bool). cond b (idle_row one.row) one.row) (alike ∙ ap (λ (b : Bool). b && not (is_refused one.call.item)) some))
      where
        not-cond : (b : Bool) → cond b one.row (idle_row one.row) ≡ cond (not b) (idle_row one.row) one.row
        not-cond b = grind arith

    own-same : any ≡ false → (one : Item script) → IsAsOthers (map call_in items) one.call → one.row ≡ acted_in one
    own-same none one alike = sym (ap (λ (b : Bool). cond b (idle_row one.row) one.row) (alike ∙ ap (λ (b : Bool). b && not (is_refused one.call.item)) none))

    chosen-so : chosen (world_front script made) (map row_in items) ≡ map acted_in items
    chosen-so =
        ap (λ (b : Bool). cond b (map (held_in (world_front script made)) (map row_in items)) (map row_in items)) any-agree
        ∙ ⊎_elim
        (λ (some : any ≡ true).
        cond-true any (map (held_in (world_front script made)) (map row_in items)) (map row_in items) some
        ∙ map-map row_in (held_in (world_front script made)) items
        ∙ map-agree (λ (one : Item script). held_in (world_front script made) one.row) acted_in items
        (λ k d within. held-same some (get_or items k d) (right k d within) (choice k d within)))
        (λ (none : any ≡ false).
        cond-false any (map (held_in (world_front script made)) (map row_in items)) (map row_in items) none
        ∙ map-agree row_in acted_in items (λ k d within. own-same none (get_or items k d) (choice k d within)))
        (cases_Bool any)

-- ---- one item, and all of them

pub turn-acts : (script : PlainScript) (made later : List (Stamped Call)) (turn : Turn script) → AreOnce script
    → AreLegal script (made ++ (map call_in (items_in turn) ++ later))
    → act_item (item_in turn) (world_front script made) ≡ world_front script (made ++ map call_in (items_in turn))
turn-acts script made later turn once legal =
    let items : List (Item script) = items_in turn in
    let right = all-right script made once [] items later legal turn.is.legs (λ k d within. All-nil (λ (other : Item script). IsFar (get_or items k d).row other.row)) in
    ap (λ (rows : List PlainRow). fold rows (world_front script made)) (chosen-so script made once items right turn.is.choice)
    ∙ items-acted script made items once (legal-front script (made ++ map call_in items) later (subst (AreLegal script) (sym (append_assoc made (map call_in items) later)) legal))

pub turns-act : (script : PlainScript) (made : List (Stamped Call)) (turns : List (Turn script)) → AreOnce script
    → AreLegal script (made ++ map call_in (flat_map items_in turns))
    → fold_items (map item_in turns) (world_front script made) ≡ world_front script (made ++ map call_in (flat_map items_in turns))
turns-act script made [] once legal = ap (world_front script) (sym (append-nil made))
turns-act script made (turn ∷ turns) once legal =
    let own : List (Stamped Call) = map call_in (items_in turn) in
    let later : List (Stamped Call) = map call_in (flat_map items_in turns) in
    let split : map call_in (items_in turn ++ flat_map items_in turns) ≡ own ++ later = map-append call_in (items_in turn) (flat_map items_in turns) in
    let again : made ++ map call_in (items_in turn ++ flat_map items_in turns) ≡ (made ++ own) ++ later =
    ap (λ (some : List (Stamped Call)). made ++ some) split ∙ sym (append_assoc made own later) in
    ap (fold_items (map item_in turns))
    (turn-acts script made later turn once (subst (λ (some : List (Stamped Call)). AreLegal script (made ++ some)) split legal))
    ∙ turns-act script (made ++ own) turns once (subst (AreLegal script) again legal)
    ∙ ap (world_front script) (sym again)
