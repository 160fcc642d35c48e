-- The records of a text, read one after the other, are `rows_of` the text.
use Rattle.std.proofs.Common.{◌≡◌, ◌∙◌, ◌<◌, ◌≤◌, ◌+◌, ◌∷◌, [], ℕ, zero, suc, Bool, if◌then◌else◌, ◌⊎◌, List, Option, Some, None, Bor, IsSome, get_or, option_map, true, false, length, add-one, arith, refl, sym, ap, inl, inr}
use Rattle.csv.specs.Machine.{Read, ends_at_end, is_end, next_record, step}
use Rattle.csv.specs.Reading.{AreRecords, NextIs, Reached, ReadsNext, default_config, records_from, records_next, strip_bom}
use Rattle.csv.specs.Records.{field_at}
use Rattle.csv.specs.declared.parser.State.{State}
use Rattle.csv.specs.declared.parser.State.TheVariants as st
use Rattle.csv.proofs.RecordFacts.{field-get, field-there}
use Rattle.dex_rows.specs.Records.{rows_of}
use Rattle.dex_rows.specs.RowReader.{rows_from}

-- the state after a record's end is not inside a record
step_end : (s : State) (c : ℕ) → is_end (step default_config s c).1 ≡ true → ends_at_end (step default_config s c).0 ≡ false
step_end st.StartRecord c h = grind arith
step_end st.StartField c h = grind arith
step_end st.InField c h = grind arith
step_end st.InQuoted c h = grind arith
step_end st.AfterQuote c h = grind arith
step_end st.InEscape c h = grind arith
step_end st.InComment c h = grind arith
step_end st.AfterCr c h = grind arith

-- the two ways to a record
either : (b : Bool) (x y : Option Read) (p : Read) → (if b then x else y) ≡ Some p → ((b ≡ true) × (x ≡ Some p)) ⊎ ((b ≡ false) × (y ≡ Some p))
either true x y p h = inl (refl, h)
either false x y p h = inr (refl, h)

-- what a record's read leaves, by the record
bounds_at : (x p : Read) (n : ℕ) → Some x ≡ Some p → length x.2 ≤ n → ends_at_end x.1 ≡ false → (length p.2 ≤ n) × (ends_at_end p.1 ≡ false)
bounds_at x p n e size state =
    let same : x ≡ p = cc e in
    rw (← same) (size, state)

-- a record that is read leaves no more than was there, in a state that is not inside a record
next_bounds : (s : State) (fields : List (List ℕ)) (field text : List ℕ) (p : Read) → next_record default_config s fields field text ≡ Some p
    → (length p.2 ≤ length text) × (ends_at_end p.1 ≡ false)
unfolding next_record
next_bounds s fields field [] p e =
    elim (either (ends_at_end s) _ _ p e) [
      | inl at_end ↦ bounds_at _ p 0 at_end.1 (omega arith) refl
      | inr inside ↦ cc inside.1
    ]
next_bounds s fields field (c ∷ rest) p e =
    elim (either (is_end (step default_config s c).1) _ _ p e) [
      | inl ended ↦ bounds_at _ p (suc (length rest)) ended.1 (omega arith) (step_end s c ended.0)
      | inr inside ↦
          let more = next_bounds (step default_config s c).0 _ _ rest p inside.1 in
          (omega (arith, more.0), more.1)
    ]

-- outside of a record it takes a byte at least
next_shorter : (s : State) (text : List ℕ) (p : Read) → ends_at_end s ≡ false → next_record default_config s [] [] text ≡ Some p
    → length p.2 < length text
unfolding next_record
next_shorter s [] p outside e = cc (rw outside at e)
next_shorter s (c ∷ rest) p outside e =
    elim (either (is_end (step default_config s c).1) _ _ p e) [
      | inl ended ↦ omega (arith, (bounds_at _ p (length rest) ended.1 (omega arith) (step_end s c ended.0)).0)
      | inr inside ↦ omega (arith, (next_bounds (step default_config s c).0 _ _ rest p inside.1).0)
    ]

-- records that were reached, with none after them, are all records
reached_all : (n : ℕ) (s s2 : State) (text rest : List ℕ) (rows : List (List (List ℕ))) → ends_at_end s ≡ false → length text < n
    → Reached default_config s text rows s2 rest → next_record default_config s2 [] [] rest ≡ None → rows ≡ records_from default_config n s text
unfolding Reached records_from
reached_all zero s s2 text rest rows outside small h e = absurd (omega arith)
reached_all (suc n) s s2 text rest [] outside small h e = rw (h.0, h.1, e) refl
reached_all (suc n) s s2 text rest (row ∷ rows) outside small h e =
    let shorter = next_shorter s text h.0 outside h.1 in
    let bounds = next_bounds s [] [] text h.0 h.1 in
    let tail = reached_all n h.0.1 s2 h.0.2 rest rows bounds.1 (omega arith) h.3 e in
    rw h.1 (ap (λ r. r ∷ rows) h.2 ∙ ap (λ rs. h.0.0 ∷ rs) tail)

-- what follows a read, where what follows it does not hang on the fuel
next_enough : (n m : ℕ) (o : Option Read) → ((p : Read) → o ≡ Some p → records_from default_config n p.1 p.2 ≡ records_from default_config m p.1 p.2)
    → records_next (records_from default_config n) o ≡ records_next (records_from default_config m) o
next_enough n m None h = refl
next_enough n m (Some p) h = ap (λ rows. p.0 ∷ rows) (h p refl)

-- fuel above the length of the text is enough
enough : (n m : ℕ) (s : State) (text : List ℕ) → ends_at_end s ≡ false → length text < n → length text < m
    → records_from default_config n s text ≡ records_from default_config m s text
unfolding records_from
enough zero m s text outside a b = absurd (omega arith)
enough (suc n) zero s text outside a b = absurd (omega arith)
enough (suc n) (suc m) s text outside a b = next_enough n m (next_record default_config s [] [] text) (λ p e.
    let shorter = next_shorter s text p outside e in
    let bounds = next_bounds s [] [] text p e in
    enough n m p.1 p.2 bounds.1 (omega arith) (omega arith))

-- the rows from a place where a row begins are that row, and those after it
pub rows_at : (s : State) (text : List ℕ) (p : Read) → ends_at_end s ≡ false → next_record default_config s [] [] text ≡ Some p
    → rows_from s (Some text) ≡ p.0 ∷ rows_from p.1 (Some p.2)
unfolding rows_from records_from
rows_at s text p outside e =
    let shorter = next_shorter s text p outside e in
    let bounds = next_bounds s [] [] text p e in
    rw (add-one, e) (ap (λ rows. p.0 ∷ rows) (enough (length text) (length p.2 + 1) p.1 p.2 bounds.1 shorter (omega arith)))

-- where no row is, there are none
pub rows_end : (s : State) (text : List ℕ) → next_record default_config s [] [] text ≡ None → rows_from s (Some text) ≡ []
unfolding rows_from records_from
rows_end s text e = rw (add-one, e) refl

-- what a read of a row says of the rows that were left
pub record RowRead (s s2 : State) (text left : Option (List ℕ)) (fields : List (List ℕ)) : Type 0 where
  pub told : IsSome left
  pub between : ends_at_end s2 ≡ false
  pub rows : rows_from s text ≡ fields ∷ rows_from s2 left

found_at : (s s2 : State) (text rest : List ℕ) (fields : List (List ℕ)) (o : Option Read) → ends_at_end s ≡ false
    → next_record default_config s [] [] text ≡ o → NextIs o true fields s2 rest → RowRead s s2 (Some text) (Some rest) fields
found_at s s2 text rest fields None outside e h = cc h
found_at s s2 text rest fields (Some p) outside e h =
    let bounds = next_bounds s [] [] text p e in
    rw (h.1, h.2, h.3) (record { told = refl; between = bounds.1; rows = rows_at s text p outside e })

-- a read that found a row
pub row_read : (s s2 : State) (text left : Option (List ℕ)) (fields : List (List ℕ)) → ends_at_end s ≡ false → IsSome text
    → ReadsNext default_config s text left true fields s2 → RowRead s s2 text left fields
row_read s s2 None left fields outside told h = cc told
row_read s s2 (Some text) None fields outside told h = absurd h
row_read s s2 (Some text) (Some rest) fields outside told h = found_at s s2 text rest fields _ outside refl h

ended_at : (s s2 : State) (text rest : List ℕ) (fields : List (List ℕ)) (o : Option Read)
    → next_record default_config s [] [] text ≡ o → NextIs o false fields s2 rest → rows_from s (Some text) ≡ []
ended_at s s2 text rest fields None e h = rows_end s text e
ended_at s s2 text rest fields (Some p) e h = cc h.0

-- a read that found none
pub none_read : (s s2 : State) (text left : Option (List ℕ)) (fields : List (List ℕ)) → IsSome text
    → ReadsNext default_config s text left false fields s2 → rows_from s text ≡ []
none_read s s2 None left fields told h = cc told
none_read s s2 (Some text) None fields told h = absurd h
none_read s s2 (Some text) (Some rest) fields told h = ended_at s s2 text rest fields _ refl h

-- a reader at the start of a text gives all of its rows
pub rows_at_start : (text : List ℕ) → rows_from st.StartRecord (Some (strip_bom text)) ≡ rows_of text
unfolding rows_from rows_of
rows_at_start text = refl

-- a field that is in its place
pub field_found : (o : Option (Bor (List ℕ))) (fields : List (List ℕ)) (i : ℕ) → i < length fields → option_map (λ s. s.now) o ≡ field_at fields i → IsSome o
field_found None fields i lt e = absurd (field-there fields i lt (sym e))
field_found (Some s) fields i lt e = refl

-- and its value
pub field_value : (o : Option (Bor (List ℕ))) (fields : List (List ℕ)) (i : ℕ) (x : Bor (List ℕ)) → o ≡ Some x → option_map (λ s. s.now) o ≡ field_at fields i
    → x.now ≡ get_or fields i []
field_value o fields i x found e =
    let text : Option (Bor (List ℕ)) → Option (List ℕ) = option_map (λ s. s.now) in
    sym (field-get fields i x.now (sym e ∙ ap text found))

-- all records of a text are those that the definition reads
pub are_records : (text : List ℕ) (rows : List (List (List ℕ))) → AreRecords default_config st.StartRecord (strip_bom text) rows → rows ≡ rows_of text
unfolding rows_of
are_records text rows h = reached_all (length (strip_bom text) + 1) st.StartRecord h.0 (strip_bom text) h.1 rows refl (omega arith) h.2 h.3
