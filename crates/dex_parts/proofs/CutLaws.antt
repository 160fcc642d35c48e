-- Rows that are cut where no number is parted are a chain.
use Rattle.std.proofs.Common.{◌≡◌, ◌<◌, ◌≤◌, ◌+◌, ◌-◌, ◌==◌, inl, inr, ℕ, false, List, [], ◌∷◌, ◌++◌, append_assoc, drop, take-append-drop, get_or, length, map, take, refl, sym, ap, ◌∙◌, subst, arith, ⊎_elim}
use Rattle.dex_world.proofs.Common.{AllPairs, PlainRow, eq-eqb, false≢true, get_or-map, length-map, ne_eqb}
use Rattle.dex_parts.proofs.Common.{All, All-unmap, AreBeside, AreRows, HasNoThree, IsBeside, PlainOutcome, PlainScript, RowPlaces, append-nil, cases_eq, drop-map, get_or-drop, get_or-take, get_or_default, head-same, item_at, length-drop, length-take-le, nil_from_length, tail-same, take-map, zip-map}
use Rattle.dex_parts.specs.Chains.{AreCut, AreLinked, IsChainOf, IsCut, rows_of_parts}
use Rattle.dex_parts.specs.Cuts.{AreCutBy, AreInOrder, AreLegsIn, ArePartedAt, IsPart, numbers_of, parts_by}

-- ---- numbers in order

pub order-behind : (count : ℕ) (numbers : List ℕ) → AreInOrder numbers → AreInOrder (drop count numbers)
order-behind count numbers order = record {
  rising = λ one other less within.
      subst (λ (n : ℕ). n ≤ get_or (drop count numbers) other 0) (sym (get_or-drop count numbers one 0))
      (subst (λ (n : ℕ). get_or numbers (count + one) 0 ≤ n) (sym (get_or-drop count numbers other 0))
      (order.rising (count + one) (count + other) (omega (arith, less)) (omega (arith, within, length-drop count numbers))));
  two = λ place within.
      subst (λ (n : ℕ). n < get_or (drop count numbers) (place + 2) 0) (sym (get_or-drop count numbers place 0))
      (subst (λ (n : ℕ). get_or numbers (count + place) 0 < n) (sym (get_or-drop count numbers (place + 2) 0 ∙ ap (λ (k : ℕ). get_or numbers k 0) (omega arith)))
      (order.two (count + place) (omega (arith, within, length-drop count numbers))));
}

-- a cut between two numbers parts none
pub parted-at : (numbers : List ℕ) (count : ℕ) → AreInOrder numbers → 0 < count → (count < length numbers → get_or numbers (count - 1) 0 < get_or numbers count 0)
    → ArePartedAt count numbers
parted-at numbers count order some apart = λ i d within j e behind.
    let front_long = length-take-le count numbers in
    let last : count < length numbers = omega (arith, behind, length-drop count numbers) in
    let here : get_or (take count numbers) i d ≡ get_or numbers i 0 =
    get_or_default (take count numbers) i d 0 within ∙ get_or-take count numbers i 0 (omega (arith, within, front_long (omega (arith, last)))) in
    let there : get_or (drop count numbers) j e ≡ get_or numbers (count + j) 0 =
    get_or_default (drop count numbers) j e 0 behind ∙ get_or-drop count numbers j 0 in
    let low : get_or numbers i 0 ≤ get_or numbers (count - 1) 0 = below i (count - 1) (omega (arith, within, front_long (omega (arith, last)))) (omega (arith, last)) in
    let high : get_or numbers count 0 ≤ get_or numbers (count + j) 0 = below count (count + j) (omega arith) (omega (arith, behind, length-drop count numbers, last)) in
    ne_eqb (get_or (take count numbers) i d) (get_or (drop count numbers) j e) (λ same. omega (arith, here, there, low, high, apart last, same))
  where
    below : (one other : ℕ) → one ≤ other → other < length numbers → get_or numbers one 0 ≤ get_or numbers other 0
    below one other most inside =
        ⊎_elim (λ (same : one ≡ other). subst (λ (n : ℕ). get_or numbers one 0 ≤ get_or numbers n 0) same (omega arith))
        (λ (differ : one ≡ other → ⊥). order.rising one other (omega (arith, most, differ)) inside) (cases_eq one other)

-- numbers on both sides of a cut differ
apart-at : (numbers : List ℕ) (count : ℕ) → 0 < count → count < length numbers → get_or numbers (count - 1) 0 ≡ get_or numbers count 0 → ArePartedAt count numbers → ⊥
apart-at numbers count some inside same parted =
    let last : get_or (take count numbers) (count - 1) 0 ≡ get_or numbers (count - 1) 0 = get_or-take count numbers (count - 1) 0 (omega (arith, some)) in
    let next : get_or (drop count numbers) 0 0 ≡ get_or numbers count 0 =
    get_or-drop count numbers 0 0 ∙ ap (λ (k : ℕ). get_or numbers k 0) (omega arith) in
    false≢true
    (sym (parted (count - 1) 0 (omega (arith, some, inside, length-take-le count numbers (omega (arith, inside)))) 0 0 (omega (arith, inside, length-drop count numbers)))
    ∙ eq-eqb (get_or (take count numbers) (count - 1) 0) (get_or (drop count numbers) 0 0) (last ∙ same ∙ sym next))

-- the number at a place
pub number-at : (places : List RowPlaces) (place : ℕ) (d : RowPlaces) → place < length places
    → get_or (map (λ (at : RowPlaces). at.number) places) place 0 ≡ (get_or places place d).number
number-at places place d within = get_or-map (λ (at : RowPlaces). at.number) places place d 0 within

-- the numbers of rows are in order
pub rows-in-order : (rows : List PlainRow) → AllPairs (λ (one other : PlainRow). one.number ≤ other.number) rows → HasNoThree rows → AreInOrder (numbers_of rows)
rows-in-order rows rising two = record {
  rising = λ one other less within.
      let long = length-map rows (λ (row : PlainRow). row.number) in
      at-rows one (omega (arith, less, within, long)) (λ (n : ℕ). n ≤ get_or (numbers_of rows) other 0)
      (λ (d : PlainRow). at-rows other (omega (arith, within, long)) (λ (n : ℕ). (get_or rows one d).number ≤ n)
      (λ (e : PlainRow). subst (λ (row : PlainRow). row.number ≤ (get_or rows other e).number) (get_or_default rows one e d (omega (arith, less, within, long))) (rising one other e less (omega (arith, within, long)))));
  two = λ place within.
      let long = length-map rows (λ (row : PlainRow). row.number) in
      at-rows place (omega (arith, within, long)) (λ (n : ℕ). n < get_or (numbers_of rows) (place + 2) 0)
      (λ (d : PlainRow). at-rows (place + 2) (omega (arith, within, long)) (λ (n : ℕ). (get_or rows place d).number < n)
      (λ (e : PlainRow). subst (λ (row : PlainRow). row.number < (get_or rows (place + 2) e).number) (get_or_default rows place e d (omega (arith, within, long))) (two place e (omega (arith, within, long)))));
}
  where
    at-rows : (place : ℕ) → place < length rows → (P : ℕ → Type 0) → ((d : PlainRow) → P (get_or rows place d).number) → P (get_or (numbers_of rows) place 0)
    at-rows place within P each =
        let d : PlainRow = item_at rows place within in
        subst P (sym (get_or-map (λ (row : PlainRow). row.number) rows place d 0 within)) (each d)

-- ---- where a part ends

module _ (places : List RowPlaces) (most : ℕ) (order : AreInOrder (map (λ (at : RowPlaces). at.number) places)) (some : 0 < most) where
  abbrev numbers : List ℕ
  numbers = map (λ (at : RowPlaces). at.number) places

  long : length numbers ≡ length places
  long = length-map places (λ (at : RowPlaces). at.number)

  -- with the last row
  pub all-of-them : 0 < length places → length places ≤ most → IsPart most (length places) numbers
  all-of-them one few = record {
    some = one;
    within = omega (arith, long);
    parted = parted-at numbers (length places) order one (λ inside. absurd (omega (arith, inside, long)));
    few = inl few;
    full = λ more above fits inside parted. absurd (omega (arith, above, inside, long));
  }

  module _ (within : most < length places) (d e : RowPlaces) where
    first-there : get_or numbers (most - 1) 0 ≡ (get_or places (most - 1) d).number
    first-there = number-at places (most - 1) d (omega (arith, within))

    next-there : get_or numbers most 0 ≡ (get_or places most e).number
    next-there = number-at places most e within

    -- where the number rises
    pub as-many-as-fit : (get_or places (most - 1) d).number < (get_or places most e).number → IsPart most most numbers
    as-many-as-fit rises = record {
      some = some;
      within = omega (arith, within, long);
      parted = parted-at numbers most order some (λ inside. omega (arith, rises, first-there, next-there));
      few = inl (omega arith);
      full = λ more above fits inside parted. absurd (omega (arith, above, fits));
    }

    module _ (stays : (get_or places most e).number ≤ (get_or places (most - 1) d).number) where
      one-number : get_or numbers (most - 1) 0 ≡ get_or numbers most 0
      one-number =
          let rising : get_or numbers (most - 1) 0 ≤ get_or numbers most 0 = order.rising (most - 1) most (omega (arith, some)) (omega (arith, within, long)) in
          omega (arith, rising, stays, first-there, next-there)

      -- the first two, where they have one number
      pub both-legs : most ≡ 1 → IsPart most 2 numbers
      both-legs is =
          let first : get_or numbers (most - 1) 0 ≡ get_or numbers 0 0 = ap (λ (k : ℕ). get_or numbers k 0) (omega (arith, is)) in
          let second : get_or numbers most 0 ≡ get_or numbers 1 0 = ap (λ (k : ℕ). get_or numbers k 0) is in record {
            some = omega arith;
            within = omega (arith, is, within, long);
            parted = parted-at numbers 2 order (omega arith)
                (λ inside. let rises : get_or numbers 0 0 < get_or numbers 2 0 = order.two 0 inside in omega (arith, one-number, first, second, rises));
            few = inr (refl, (is, sym first ∙ one-number ∙ second));
            full = λ more above fits inside parted. absurd (omega (arith, above, fits, is));
          }

      -- one place before
      pub one-fewer : (most ≡ 1 → ⊥) → IsPart most (most - 1) numbers
      one-fewer more = record {
        some = omega (arith, some, more);
        within = omega (arith, within, long);
        parted = parted-at numbers (most - 1) order (omega (arith, some, more))
            (λ inside.
            let rises : get_or numbers (most - 2) 0 < get_or numbers (most - 2 + 2) 0 = order.two (most - 2) (omega (arith, within, long, some, more)) in
            let last : get_or numbers (most - 2 + 2) 0 ≡ get_or numbers most 0 = ap (λ (k : ℕ). get_or numbers k 0) (omega (arith, some, more)) in
            let before : get_or numbers (most - 1 - 1) 0 ≡ get_or numbers (most - 2) 0 = ap (λ (k : ℕ). get_or numbers k 0) (omega (arith, some, more)) in
            omega (arith, rises, last, before, one-number));
        few = inl (omega arith);
        full = λ next above fits inside parted.
            let is : next ≡ most = omega (arith, above, fits, some) in
            apart-at numbers most some (omega (arith, within, long)) one-number (subst (λ (n : ℕ). ArePartedAt n numbers) is parted);
      }

-- ---- parts, one after the other

-- rows are cut up to those that are left
pub record AreCutUpTo (most : ℕ) (counts : List ℕ) (left places : List RowPlaces) : Type 0 where
  pub order : AreInOrder (map (λ (at : RowPlaces). at.number) left)
  pub cut : (more : List ℕ) → AreCutBy most more (map (λ (at : RowPlaces). at.number) left) → AreCutBy most (counts ++ more) (map (λ (at : RowPlaces). at.number) places)

pub one-part-more : (most count : ℕ) (counts new : List ℕ) (left rest places : List RowPlaces) → AreCutUpTo most counts left places
    → IsPart most count (map (λ (at : RowPlaces). at.number) left) → new ≡ counts ++ count ∷ [] → rest ≡ drop count left → AreCutUpTo most new rest places
one-part-more most count counts new left rest places upto part is behind =
    let number : RowPlaces → ℕ = λ (at : RowPlaces). at.number in
    let numbers : map number rest ≡ drop count (map number left) = ap (map number) behind ∙ sym (drop-map number count left) in
    record {
      order = subst AreInOrder (sym numbers) (order-behind count (map number left) upto.order);
      cut = λ more cut.
          subst (λ (all : List ℕ). AreCutBy most all (map number places)) (sym (append_assoc counts (count ∷ []) more) ∙ ap (λ (all : List ℕ). all ++ more) (sym is))
          (upto.cut (count ∷ more) (part, subst (AreCutBy most more) numbers cut));
    }

-- none is left
pub all-parts : (most : ℕ) (counts : List ℕ) (left places : List RowPlaces) → AreCutUpTo most counts left places → length left ≡ 0
    → AreCutBy most counts (map (λ (at : RowPlaces). at.number) places)
all-parts most counts left places upto none =
    subst (λ (all : List ℕ). AreCutBy most all (map (λ (at : RowPlaces). at.number) places)) (append-nil counts)
    (upto.cut [] (ap (map (λ (at : RowPlaces). at.number)) (nil_from_length left none)))

-- ---- one way to cut

same-by : (a b : ℕ) → (a < b → ⊥) → (b < a → ⊥) → a ≡ b
same-by a b below above = omega (arith, below, above)

-- legs that are one part are no two parts
no-leg-alone : (most a : ℕ) (numbers : List ℕ) → IsPart most a numbers → a ≤ most → 2 ≤ length numbers → AreLegsIn most numbers → ⊥
no-leg-alone most a numbers one few long legs =
    let is : a ≡ 1 = omega (arith, one.some, few, legs.0) in
    apart-at numbers 1 (omega arith) (omega (arith, long)) legs.1 (subst (λ (n : ℕ). ArePartedAt n numbers) is one.parted)

one-part : (most a b : ℕ) (numbers : List ℕ) → IsPart most a numbers → IsPart most b numbers → a ≡ b
one-part most a b numbers one other =
    ⊎_elim
    (λ (few : a ≤ most).
    ⊎_elim
    (λ (fewer : b ≤ most). same-by a b (λ less. one.full b less fewer other.within other.parted) (λ less. other.full a less few one.within one.parted))
    (λ (legs : (b ≡ 2) × AreLegsIn most numbers). absurd (no-leg-alone most a numbers one few (omega (arith, legs.0, other.within)) legs.1)) other.few)
    (λ (legs : (a ≡ 2) × AreLegsIn most numbers).
    ⊎_elim (λ (fewer : b ≤ most). absurd (no-leg-alone most b numbers other fewer (omega (arith, legs.0, one.within)) legs.1))
    (λ (both : (b ≡ 2) × AreLegsIn most numbers). legs.0 ∙ sym both.0) other.few)
    one.few

pub one-cut : (most : ℕ) (counts others numbers : List ℕ) → 0 < most → AreCutBy most counts numbers → AreCutBy most others numbers → counts ≡ others
one-cut most [] [] numbers some one other = refl
one-cut most [] (b ∷ others) numbers some one other = absurd (omega (arith, ap length one, other.0.some, other.0.within))
one-cut most (a ∷ counts) [] numbers some one other = absurd (omega (arith, ap length other, one.0.some, one.0.within))
one-cut most (a ∷ counts) (b ∷ others) numbers some one other =
    let same : a ≡ b = one-part most a b numbers one.0 other.0 in
    let rest : counts ≡ others = one-cut most counts others (drop a numbers) some one.1 (subst (λ (n : ℕ). AreCutBy most others (drop n numbers)) (sym same) other.1) in
    λ i. same i ∷ rest i

-- ---- the numbers beside rows are theirs

pub numbers-beside : (rows : List PlainRow) (places own : List RowPlaces) → own ≡ places → AreBeside rows places → map (λ (at : RowPlaces). at.number) own ≡ numbers_of rows
numbers-beside rows places own same beside =
    ap (map (λ (at : RowPlaces). at.number)) same
    ∙ zip-map IsBeside (λ (row : PlainRow). row.number) (λ (at : RowPlaces). at.number) (λ row at is. is.number) rows places beside

pub own-in-order : (script : PlainScript) (places own : List RowPlaces) → own ≡ places → AreBeside script.rows places → AreRows script
    → AreInOrder (map (λ (at : RowPlaces). at.number) own)
own-in-order script places own same beside facts =
    subst AreInOrder (sym (numbers-beside script.rows places own same beside)) (rows-in-order script.rows facts.rising facts.two)

-- ---- a chain

cut-of : (count : ℕ) (rows : List PlainRow) → ArePartedAt count (numbers_of rows) → IsCut (take count rows) (drop count rows)
cut-of count rows parted =
    let number : PlainRow → ℕ = λ (row : PlainRow). row.number in
    let Apart : ℕ → Type 0 = λ (one : ℕ). All (λ (other : ℕ). (one == other) ≡ false) (drop count (numbers_of rows)) in
    let front : All (λ (row : PlainRow). Apart (number row)) (take count rows) =
    All-unmap Apart number (take count rows) (subst (All Apart) (take-map number count rows) parted) in
    λ k d within.
    All-unmap (λ (other : ℕ). (number (get_or (take count rows) k d) == other) ≡ false) number (drop count rows)
    (subst (All (λ (other : ℕ). (number (get_or (take count rows) k d) == other) ≡ false)) (drop-map number count rows) (front k d within))

-- parts with these rows are cut, and have them all
parts-cut : (most : ℕ) (counts : List ℕ) (rows : List PlainRow) (parts : List PlainScript) → AreCutBy most counts (numbers_of rows)
    → map (λ (part : PlainScript). part.rows) parts ≡ parts_by counts rows → (rows ≡ rows_of_parts parts) × AreCut parts
parts-cut most [] rows [] cut same = (nil_from_length rows (sym (length-map rows (λ (row : PlainRow). row.number)) ∙ ap length cut), tt)
parts-cut most (count ∷ counts) rows (part ∷ parts) cut same =
    let number : PlainRow → ℕ = λ (row : PlainRow). row.number in
    let front : part.rows ≡ take count rows = head-same same in
    let rest = parts-cut most counts (drop count rows) parts (subst (AreCutBy most counts) (drop-map number count rows) cut.1) (tail-same same) in (
      sym (take-append-drop count rows) ∙ ap (λ (some : List PlainRow). some ++ drop count rows) (sym front)
          ∙ ap (λ (some : List PlainRow). part.rows ++ some) rest.0,
      (
        subst (λ (some : List PlainRow). IsCut some (rows_of_parts parts)) (sym front)
            (subst (IsCut (take count rows)) rest.0 (cut-of count rows cut.0.parted)),
        rest.1,
      ),
    )
parts-cut most _ rows _ cut same = absurd (cc)

pub is-chain : (most : ℕ) (counts : List ℕ) (script : PlainScript) (parts : List PlainScript) (outcomes : List PlainOutcome) → AreCutBy most counts (numbers_of script.rows)
    → map (λ (part : PlainScript). part.rows) parts ≡ parts_by counts script.rows → AreLinked script.limits script.program script.start parts outcomes → IsChainOf script parts outcomes
is-chain most counts script parts outcomes cut same links =
    let are = parts-cut most counts script.rows parts cut same in
    record { rows = are.0; cut = are.1; links = links }
