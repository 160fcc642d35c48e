-- Lists that grow or shrink at their ends, place by place.
use Rattle.std.proofs.Common.{◌≡◌, ℕ, zero, suc, ◌<◌, ◌≤◌, List, [], ◌∷◌, ◌++◌, length, get_or, set, reverse, Vec, vec_len, vec_capacity, refl, sym, ap, ◌∙◌, subst, arith, append_assoc, append-nil, All}
use Rattle.dex_world.proofs.Common.{All-cons, All-head, All-nil, All-tail, AllZip, AllZip-long}
use Rattle.dex_replay.proofs.Common.{AllThree}
use Rattle.dex_run.proofs.Common.{AreLonger, GateView, IsLonger, PassView}
use Rattle.dex_run.specs.Closing.{AreClosed}
use Rattle.dex_world.proofs.MappedLists.{AllZip-last, none-left, three-long}
use Rattle.std.proofs.lemmas.List.{reverse-append}
use Rattle.std.proofs.lemmas.Slice.Zip.{all_zipped_more}

module _ {A B : Type 0} (R : A → B → Type 0) where
  -- what holds of two lists side by side holds of their fronts and of their ends
  pub AllZip-ends : (all_xs xs : List A) (all_ys ys : List B) (x : A) (y : B) → AllZip R all_xs all_ys → all_xs ≡ xs ++ x ∷ [] → all_ys ≡ ys ++ y ∷ [] → AllZip R xs ys × R x y
  AllZip-ends all_xs xs all_ys ys x y all ends_x ends_y =
      AllZip-last R xs ys x y (subst (λ zs. AllZip R zs (ys ++ y ∷ [])) ends_x (subst (λ zs. AllZip R all_xs zs) ends_y all))

  -- where the first ends with one, the second is not empty
  pub AllZip-not_empty : (xs front : List A) (ys : List B) (x : A) → AllZip R xs ys → xs ≡ front ++ x ∷ [] → ys ≡ [] → ⊥
  AllZip-not_empty xs front ys x all ends empty = none-left R x front (subst (λ zs. AllZip R (front ++ x ∷ []) zs) empty (subst (λ zs. AllZip R zs ys) ends all))

module _ {A B C : Type 0} (R : A → B → C → Type 0) where
  pub AllThree-push : (xs : List A) (ys : List B) (zs : List C) (x : A) (y : B) (z : C) → AllThree R xs ys zs → R x y z
      → AllThree R (xs ++ x ∷ []) (ys ++ y ∷ []) (zs ++ z ∷ [])
  AllThree-push [] [] [] x y z all one = (one, tt)
  AllThree-push (a ∷ xs) (b ∷ ys) (c ∷ zs) x y z all one = (all.0, AllThree-push xs ys zs x y z all.1 one)
  AllThree-push _ _ _ x y z all one = absurd all

  -- what gives all of three lists, from what there is of their fronts
  abbrev pub Completes : List A → List B → List A → List B → List C → Type 0
  Completes all_xs all_ys xs ys done = (zs : List C) → AllThree R xs ys zs → AllThree R all_xs all_ys (zs ++ reverse done)

  pub completes-more : (all_xs : List A) (all_ys : List B) (xs front_xs : List A) (ys front_ys : List B) (x : A) (y : B) (z : C) (done more : List C)
      → xs ≡ front_xs ++ x ∷ [] → ys ≡ front_ys ++ y ∷ [] → more ≡ done ++ z ∷ [] → R x y z
      → Completes all_xs all_ys xs ys done → Completes all_xs all_ys front_xs front_ys more
  completes-more all_xs all_ys xs front_xs ys front_ys x y z done more ends_x ends_y is one completes zs all =
      subst (λ list. AllThree R all_xs all_ys list) same
      (completes (zs ++ z ∷ [])
      (subst (λ list. AllThree R list ys (zs ++ z ∷ [])) (sym ends_x)
      (subst (λ list. AllThree R (front_xs ++ x ∷ []) list (zs ++ z ∷ [])) (sym ends_y)
      (AllThree-push front_xs front_ys zs x y z all one))))
    where
      same : (zs ++ z ∷ []) ++ reverse done ≡ zs ++ reverse more
      same = append_assoc zs (z ∷ []) (reverse done) ∙ ap (λ list. zs ++ list) (sym (reverse-append done (z ∷ []))) ∙ ap (λ list. zs ++ reverse list) (sym is)

  -- with no front left there are all
  pub completed : (all_xs xs : List A) (all_ys ys : List B) (done out : List C) → Completes all_xs all_ys xs ys done → xs ≡ [] → ys ≡ [] → out ≡ reverse done
      → AllThree R all_xs all_ys out
  completed all_xs xs all_ys ys done out completes no_xs no_ys is =
      subst (λ list. AllThree R all_xs all_ys list) (sym is)
      (completes [] (subst (λ list. AllThree R list ys []) (sym no_xs) (subst (λ list. AllThree R [] list []) (sym no_ys) tt)))

  -- nothing done so far
  pub completes-none : (xs : List A) (ys : List B) (done : List C) → done ≡ [] → Completes xs ys xs ys done
  completes-none xs ys done empty zs all = subst (λ list. AllThree R xs ys (zs ++ reverse list)) (sym empty) (subst (λ list. AllThree R xs ys list) (sym (append-nil zs)) all)

module _ {T Z : Type 0} where
  pub AreLonger-length : (before after : List (Vec T Z)) (items : List T) → AreLonger before items after → length after ≡ length before
  AreLonger-length before after [] longer = ap length longer
  AreLonger-length (old ∷ before) (new ∷ after) (item ∷ items) longer = ap suc (AreLonger-length before after items longer.1)
  AreLonger-length _ _ (item ∷ items) longer = absurd longer

  -- the others are as they were
  pub AreLonger-behind : (before after : List (Vec T Z)) (items : List T) (place : ℕ) (d : Vec T Z) → AreLonger before items after → length items ≤ place → get_or after place d ≡ get_or before place d
  AreLonger-behind before after [] place d longer behind = ap (λ list. get_or list place d) longer
  AreLonger-behind (old ∷ before) (new ∷ after) (item ∷ items) zero d longer behind = absurd (omega (arith, behind))
  AreLonger-behind (old ∷ before) (new ∷ after) (item ∷ items) (suc place) d longer behind = AreLonger-behind before after items place d longer.1 (omega (arith, behind))
  AreLonger-behind _ _ (item ∷ items) place d longer behind = absurd longer

  pub AreLonger-more : (before after : List (Vec T Z)) (items : List T) (place : ℕ) (item : T) (new d : Vec T Z) → AreLonger before items after → place ≡ length items → place < length before
      → IsLonger (get_or before place d) item new → AreLonger before (items ++ item ∷ []) (set after place new)
  AreLonger-more [] after items place item new d longer at within one = absurd (omega (arith, within))
  AreLonger-more (old ∷ before) after [] zero item new d longer at within one =
      subst (λ list. AreLonger (old ∷ before) (item ∷ []) (set list 0 new)) (sym longer) (one, refl)
  AreLonger-more (old ∷ before) after [] (suc place) item new d longer at within one = absurd (omega (arith, at))
  AreLonger-more (old ∷ before) [] (first ∷ items) place item new d longer at within one = absurd longer
  AreLonger-more (old ∷ before) (next ∷ after) (first ∷ items) zero item new d longer at within one = absurd (omega (arith, at))
  AreLonger-more (old ∷ before) (next ∷ after) (first ∷ items) (suc place) item new d longer at within one =
      (longer.0, AreLonger-more before after items place item new d longer.1 (omega (arith, at)) (omega (arith, within)) one)

-- ---- facts of two lists and of three

module _ {A B : Type 0} (R : A → B → Type 0) where
  -- what R and a fact of the second give of the first
  pub All-across : (P : B → Type 0) (Q : A → Type 0) → ((x : A) (y : B) → R x y → P y → Q x) → (xs : List A) (ys : List B) → AllZip R xs ys → All P ys → All Q xs
  All-across P Q each [] ys all seconds = All-nil Q
  All-across P Q each (x ∷ xs) [] all seconds = absurd all
  All-across P Q each (x ∷ xs) (y ∷ ys) all seconds =
      All-cons Q x xs (each x y all.0 (All-head P y ys seconds)) (All-across P Q each xs ys all.1 (All-tail P y ys seconds))

module _ {A B C : Type 0} where
  -- two facts, each of one list and a third
  pub AllThree-of : (P : A → C → Type 0) (Q : B → C → Type 0) (R : A → B → C → Type 0) → ((x : A) (y : B) (z : C) → P x z → Q y z → R x y z)
      → (xs : List A) (ys : List B) (zs : List C) → AllZip P xs zs → AllZip Q ys zs → AllThree R xs ys zs
  AllThree-of P Q R each [] [] [] one other = tt
  AllThree-of P Q R each (x ∷ xs) (y ∷ ys) (z ∷ zs) one other = (each x y z one.0 other.0, AllThree-of P Q R each xs ys zs one.1 other.1)
  AllThree-of P Q R each _ _ [] one other = absurd (assumption)
  AllThree-of P Q R each _ _ (z ∷ zs) one other = absurd (assumption)

  -- of the second and the third, from what holds of the first and the second
  pub AllZip-of : (P : A → B → Type 0) (R : A → B → C → Type 0) (Q : B → C → Type 0) → ((x : A) (y : B) (z : C) → P x y → R x y z → Q y z)
      → (xs : List A) (ys : List B) (zs : List C) → AllZip P xs ys → AllThree R xs ys zs → AllZip Q ys zs
  AllZip-of P R Q each [] [] [] one all = tt
  AllZip-of P R Q each (x ∷ xs) (y ∷ ys) (z ∷ zs) one all = (each x y z one.0 all.0, AllZip-of P R Q each xs ys zs one.1 all.1)
  AllZip-of P R Q each _ _ _ one all = absurd all

  -- of the first and a fourth
  pub AllZip-last_of : {D : Type 0} (P : A → B → Type 0) (R : A → B → C → Type 0) (S : B → C → D → Type 0) (K : D → Type 0) (Q : A → D → Type 0)
      → ((x : A) (y : B) (z : C) (w : D) → P x y → R x y z → S y z w → K w → Q x w)
      → (xs : List A) (ys : List B) (zs : List C) (ws : List D) → AllZip P xs ys → AllThree R xs ys zs → AllThree S ys zs ws → All K ws → AllZip Q xs ws
  AllZip-last_of P R S K Q each [] [] [] [] one all more kept = tt
  AllZip-last_of P R S K Q each (x ∷ xs) (y ∷ ys) (z ∷ zs) (w ∷ ws) one all more kept =
      (each x y z w one.0 all.0 more.0 (All-head K w ws kept), AllZip-last_of P R S K Q each xs ys zs ws one.1 all.1 more.1 (All-tail K w ws kept))
  AllZip-last_of P R S K Q each _ _ _ _ one all more kept = absurd (assumption)

-- ---- columns, each with an item for each of some rows

module _ {S G D P Z : Type 0} (R : S → G → D → P → Type 0) where
  abbrev pub Columns : List S → List G → List D → List (Vec P Z) → Type 0
  Columns starts gates rows columns = AllThree (λ start gate column. AllZip (R start gate) rows column.items) starts gates columns

  pub columns-none : (starts : List S) (gates : List G) (columns : List (Vec P Z)) → length gates ≡ length starts → length columns ≡ length gates
      → All (λ column. column.items ≡ []) columns → Columns starts gates [] columns
  columns-none [] [] [] as_many so_many empty = tt
  columns-none (s ∷ starts) (g ∷ gates) (c ∷ columns) as_many so_many empty = (
    subst (λ items. AllZip (R s g) [] items) (sym (All-head (λ column. column.items ≡ []) c columns empty)) tt,
    columns-none starts gates columns (omega (arith, as_many)) (omega (arith, so_many)) (All-tail (λ column. column.items ≡ []) c columns empty),
  )
  columns-none _ _ _ as_many so_many empty = absurd (omega (arith, as_many, so_many))

  pub columns-more : (starts : List S) (gates : List G) (rows : List D) (row : D) (items : List P) (before after : List (Vec P Z)) → Columns starts gates rows before
      → AllThree (λ start gate item. R start gate row item) starts gates items → AreLonger before items after → Columns starts gates (rows ++ row ∷ []) after
  columns-more [] [] rows row [] [] after all each longer = subst (λ list. Columns [] [] (rows ++ row ∷ []) list) (sym longer) tt
  columns-more (s ∷ starts) (g ∷ gates) rows row (i ∷ items) (b ∷ before) (a ∷ after) all each longer = (
    subst (λ list. AllZip (R s g) (rows ++ row ∷ []) list) (sym longer.0.items) (all_zipped_more (R s g) rows b.items row i all.0 each.0),
    columns-more starts gates rows row items before after all.1 each.1 longer.1,
  )
  columns-more _ _ rows row _ _ _ all each longer = absurd (assumption)

  -- where there is room for more rows, each column has room for one
  pub columns-free : (count : ℕ) (starts : List S) (gates : List G) (rows : List D) (columns : List (Vec P Z)) → Columns starts gates rows columns
      → All (λ column. count ≤ vec_capacity column) columns → length rows < count → All (λ column. vec_len column < vec_capacity column) columns
  columns-free count [] [] rows [] all room fewer = All-nil (λ column. vec_len column < vec_capacity column)
  columns-free count (s ∷ starts) (g ∷ gates) rows (c ∷ columns) all room fewer =
      All-cons (λ column. vec_len column < vec_capacity column) c columns
      (omega (arith, fewer, All-head (λ column. count ≤ vec_capacity column) c columns room, AllZip-long (R s g) rows c.items all.0, c.ok.0))
      (columns-free count starts gates rows columns all.1 (All-tail (λ column. count ≤ vec_capacity column) c columns room) fewer)
  columns-free count _ _ rows _ all room fewer = absurd all

  -- there is a column for each gate
  pub columns-length : (starts : List S) (gates : List G) (rows : List D) (columns : List (Vec P Z)) → Columns starts gates rows columns → length columns ≡ length gates
  columns-length starts gates rows columns all =
      let long = three-long (λ (start : S) (gate : G) (column : Vec P Z). AllZip (R start gate) rows column.items) starts gates columns all in long.1 ∙ sym long.0

-- the room of columns does not shrink
pub columns-room : {T Z : Type 0} (count : ℕ) (before after : List (Vec T Z)) (items : List T) → AreLonger before items after
    → All (λ column. count ≤ vec_capacity column) before → All (λ column. count ≤ vec_capacity column) after
columns-room count before after [] longer room = subst (λ list. All (λ column. count ≤ vec_capacity column) list) (sym longer) room
columns-room count (b ∷ before) (a ∷ after) (item ∷ items) longer room =
    All-cons (λ column. count ≤ vec_capacity column) a after
    (omega (arith, All-head (λ column. count ≤ vec_capacity column) b before room, longer.0.reserved))
    (columns-room count before after items longer.1 (All-tail (λ column. count ≤ vec_capacity column) b before room))
columns-room count _ _ (item ∷ items) longer room = absurd longer

-- ---- what gates give for their columns

-- a cell is that of a value which a gate gives for the passes of a column
abbrev pub IsGiven : {V E O C Z : Type 0} → (GateView E O → List (PassView E O) → V → Type 0) → (V → Type 0) → (V → C) → GateView E O → Vec (PassView E O) Z → C → Type 0
IsGiven {V} Given Kept cell gate column one = (value : V) × Given gate column.items value × Kept value × (one ≡ cell value)

pub given-closed : {V E O C Z : Type 0} (Given : GateView E O → List (PassView E O) → V → Type 0) (Kept : V → Type 0) (cell : V → C) (gates : List (GateView E O))
    (columns : List (Vec (PassView E O) Z)) (cells : List C) → AllThree (IsGiven Given Kept cell) gates columns cells → AreClosed Given Kept cell gates columns cells
given-closed Given Kept cell [] [] [] all = record { values = []; given = tt; kept = All-nil Kept; are = refl }
given-closed Given Kept cell (g ∷ gates) (c ∷ columns) (x ∷ cells) all =
    let value = all.0.0 in
    let rest = given-closed Given Kept cell gates columns cells all.1 in
    record {
      values = value ∷ rest.values;
      given = (all.0.1, rest.given);
      kept = All-cons Kept value rest.values all.0.2 rest.kept;
      are = ap (λ z. z ∷ cells) all.0.3 ∙ ap (λ zs. cell value ∷ zs) rest.are;
    }
given-closed Given Kept cell _ _ _ all = absurd all
