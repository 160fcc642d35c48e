-- A text without quotes is read row by row where its line ends stand, and each row is cut at its commas.
use Rattle.std.proofs.Common.{◌≡◌, ◌∙◌, ◌+◌, ◌<◌, ◌≤◌, ◌++◌, ◌==◌, ◌∷◌, [], ℕ, Bool, List, All, Option, Some, None, true, false, append_assoc, append-nil, length, take, drop, get_or, arith, refl, sym, ap, zero, suc}
use Rattle.std.specs.List.{onto_first}
use Rattle.std.proofs.lemmas.Bool.Decides.{nat_tests}
use Rattle.std.proofs.lemmas.List.{get_or-drop, get_or_default, length-drop, length-take, take-append-drop}
use Rattle.std.proofs.lemmas.List.Elements.{All-drop, All-head, All-tail}
use Rattle.std.proofs.lemmas.List.Splits.{length-slice_split}
use Rattle.csv.specs.Machine.{Read, after_end, ends_at_end, next_record, step}
use Rattle.csv.specs.Reading.{default_config, is_bom, strip_bom}
use Rattle.csv.specs.declared.parser.State.{State}
use Rattle.csv.specs.declared.parser.State.TheVariants as st
use Rattle.csv.specs.declared.parser.Terminator.TheVariants as term
use Rattle.dex_rows.specs.Lines.{HasNoQuote, IsEnd, IsFront, behind_ends, cells_of, ends_row, rows_in}
use Rattle.dex_rows.specs.Records.{rows_of}
use Rattle.dex_rows.specs.RowReader.{rows_from}
use Rattle.dex_rows.proofs.LineLemmas.{is_comma}
use Rattle.dex_rows.proofs.RecordLemmas.{rows_at, rows_end}

-- two places from which the next record is the same have the same rows
same_at : (s s2 : State) (text text2 : List ℕ) (o : Option Read) → ends_at_end s ≡ false → ends_at_end s2 ≡ false
    → next_record default_config s [] [] text ≡ o → next_record default_config s2 [] [] text2 ≡ o → rows_from s (Some text) ≡ rows_from s2 (Some text2)
same_at s s2 text text2 None outside outside2 e e2 = rows_end s text e ∙ sym (rows_end s2 text2 e2)
same_at s s2 text text2 (Some p) outside outside2 e e2 = rows_at s text p outside e ∙ sym (rows_at s2 text2 p outside2 e2)

same_rows : (s s2 : State) (text text2 : List ℕ) → ends_at_end s ≡ false → ends_at_end s2 ≡ false
    → next_record default_config s [] [] text ≡ next_record default_config s2 [] [] text2 → rows_from s (Some text) ≡ rows_from s2 (Some text2)
same_rows s s2 text text2 outside outside2 e = same_at s s2 text text2 (next_record default_config s2 [] [] text2) outside outside2 e refl

-- a line end at the front is passed over
skip_end : (c : ℕ) (rest : List ℕ) → ends_row c ≡ true → next_record default_config st.StartRecord [] [] (c ∷ rest) ≡ next_record default_config st.StartRecord [] [] rest
unfolding next_record
skip_end c rest e = rw e refl

rows_skip : (c : ℕ) (rest : List ℕ) → ends_row c ≡ true → rows_in (c ∷ rest) ≡ rows_in rest
rows_skip c rest e = same_rows st.StartRecord st.StartRecord (c ∷ rest) rest refl refl (skip_end c rest e)

behind_at : (c : ℕ) (rest : List ℕ) (is : Bool) → ends_row c ≡ is → rows_in rest ≡ rows_in (behind_ends rest) → rows_in (c ∷ rest) ≡ rows_in (behind_ends (c ∷ rest))
unfolding behind_ends
behind_at c rest true e more = rw e (rows_skip c rest e ∙ more)
behind_at c rest false e more = rw e refl

pub rows_behind : (text : List ℕ) → rows_in text ≡ rows_in (behind_ends text)
unfolding behind_ends
rows_behind [] = refl
rows_behind (c ∷ rest) = behind_at c rest (ends_row c) refl (rows_behind rest)

-- after a carriage return a row is read as at the start
after_step : (c : ℕ) (r n : Bool) → (c == 13) ≡ r → (c == 10) ≡ n → step default_config st.AfterCr c ≡ step default_config st.StartRecord c
after_step c true true e f = rw (e, f) refl
after_step c true false e f = rw (e, f) refl
after_step c false true e f = rw (e, f) refl
after_step c false false e f = rw (e, f) refl

after_read : (text : List ℕ) → next_record default_config st.AfterCr [] [] text ≡ next_record default_config st.StartRecord [] [] text
unfolding next_record
after_read [] = refl
after_read (c ∷ rest) = rw (after_step c (c == 13) (c == 10) refl refl) refl

after_rows : (c : ℕ) (rest : List ℕ) (is : Bool) → (c == 13) ≡ is → rows_from (after_end term.CRLF c) (Some rest) ≡ rows_in rest
after_rows c rest true e = rw e (same_rows st.AfterCr st.StartRecord rest rest refl refl (after_read rest))
after_rows c rest false e = rw e refl

-- without a quote a field's start is as its inside
start_read : (fields : List (List ℕ)) (field text : List ℕ) → HasNoQuote text → next_record default_config st.StartField fields field text ≡ next_record default_config st.InField fields field text
unfolding next_record
start_read fields field [] plain = refl
start_read fields field (c ∷ rest) plain = rw (All-head (λ byte. (byte == 34) ≡ false) c rest plain) refl

-- bytes in front of the first part
abbrev onto : List ℕ → List (List ℕ) → List (List ℕ)
onto front [] = front ∷ []
onto front (part ∷ parts) = (front ++ part) ∷ parts

onto_more : (front : List ℕ) (c : ℕ) (parts : List (List ℕ)) → onto (front ++ c ∷ []) parts ≡ onto front (onto_first c parts)
onto_more front c [] = refl
onto_more front c (part ∷ parts) = ap (λ first. first ∷ parts) (append_assoc front (c ∷ []) part)

onto_none : (parts : List (List ℕ)) → 0 < length parts → onto [] parts ≡ parts
onto_none [] some = absurd (omega arith)
onto_none (part ∷ parts) some = refl

cells_some : (line : List ℕ) → onto [] (cells_of line) ≡ cells_of line
cells_some line = onto_none (cells_of line) (omega (arith, length-slice_split is_comma line))

-- the record whose end a text begins with
abbrev ended : List (List ℕ) → List ℕ → Option Read
ended fields [] = Some (fields, st.StartRecord, [])
ended fields (c ∷ rest) = Some (fields, after_end term.CRLF c, rest)

end_read : (fields : List (List ℕ)) (field tail : List ℕ) → IsEnd tail → next_record default_config st.InField fields field tail ≡ ended (fields ++ field ∷ []) tail
unfolding next_record
end_read fields field [] end = refl
end_read fields field (c ∷ rest) end =
    let other : (c == 44) ≡ false = grind (arith, nat_tests) in
    rw (other, end) refl

-- the bytes of a row, one by one
line_at : (c : ℕ) (line tail : List ℕ) (fields : List (List ℕ)) (field : List ℕ) (comma : Bool) → is_comma c ≡ comma → ends_row c ≡ false → HasNoQuote (line ++ tail)
    → ((fields2 : List (List ℕ)) (field2 : List ℕ) → next_record default_config st.InField fields2 field2 (line ++ tail) ≡ ended (fields2 ++ onto field2 (cells_of line)) tail)
    → next_record default_config st.InField fields field (c ∷ line ++ tail) ≡ ended (fields ++ onto field (cells_of (c ∷ line))) tail
unfolding next_record
line_at c line tail fields field true e not plain more =
    let parts : (fields ++ field ∷ []) ++ onto [] (cells_of line) ≡ fields ++ onto field ([] ∷ cells_of line) =
    append_assoc fields (field ∷ []) (onto [] (cells_of line)) ∙ ap (λ cells. fields ++ field ∷ cells) (cells_some line) ∙ ap (λ first. fields ++ first ∷ cells_of line) (sym (append-nil field)) in
    rw e (start_read (fields ++ field ∷ []) [] (line ++ tail) plain ∙ more (fields ++ field ∷ []) [] ∙ ap (λ all. ended all tail) parts)
line_at c line tail fields field false e not plain more =
    rw (e, not) (more fields (field ++ c ∷ []) ∙ ap (λ parts. ended (fields ++ parts) tail) (onto_more field c (cells_of line)))

line_read : (line tail : List ℕ) (fields : List (List ℕ)) (field : List ℕ) → All (λ byte. ends_row byte ≡ false) line → HasNoQuote (line ++ tail) → IsEnd tail
    → next_record default_config st.InField fields field (line ++ tail) ≡ ended (fields ++ onto field (cells_of line)) tail
line_read [] tail fields field whole plain end = end_read fields field tail end ∙ ap (λ last. ended (fields ++ last ∷ []) tail) (sym (append-nil field))
line_read (c ∷ line) tail fields field whole plain end =
    let rest = All-tail (λ byte. (byte == 34) ≡ false) c (line ++ tail) plain in
    line_at c line tail fields field (is_comma c) refl (All-head (λ byte. ends_row byte ≡ false) c line whole) rest
    (λ fields2 field2. line_read line tail fields2 field2 (All-tail (λ byte. ends_row byte ≡ false) c line whole) rest end)

-- a row begins with a byte that is no line end
row_read : (line tail : List ℕ) → 0 < length line → All (λ byte. ends_row byte ≡ false) line → HasNoQuote (line ++ tail) → IsEnd tail
    → next_record default_config st.StartRecord [] [] (line ++ tail) ≡ ended (cells_of line) tail
unfolding next_record
row_read [] tail some whole plain end = absurd (omega arith)
row_read (c ∷ line) tail some whole plain end =
    let not = All-head (λ byte. ends_row byte ≡ false) c line whole in
    let other = All-head (λ byte. (byte == 34) ≡ false) c (line ++ tail) plain in
    let same : next_record default_config st.StartRecord [] [] (c ∷ line ++ tail) ≡ next_record default_config st.InField [] [] (c ∷ line ++ tail) = rw (not, other) refl in
    same ∙ line_read (c ∷ line) tail [] [] whole plain end ∙ ap (λ cells. ended cells tail) (cells_some (c ∷ line))

-- so these are its rows
ended_rows : (fields : List (List ℕ)) (text tail : List ℕ) → next_record default_config st.StartRecord [] [] text ≡ ended fields tail → IsEnd tail → rows_in text ≡ fields ∷ rows_in tail
ended_rows fields text [] e end = rows_at st.StartRecord text _ refl e
ended_rows fields text (c ∷ rest) e end =
    rows_at st.StartRecord text _ refl e ∙ ap (λ rows. fields ∷ rows) (after_rows c rest (c == 13) refl ∙ sym (rows_skip c rest end))

end_from : (tail : List ℕ) → (0 < length tail → ends_row (get_or tail 0 0) ≡ true) → IsEnd tail
end_from [] h = tt
end_from (c ∷ rest) h = h (omega arith)

-- the line end in front of nothing
first_at : (c : ℕ) (rest : List ℕ) (is : Bool) → ends_row c ≡ is → (0 < length (behind_ends rest) → ends_row (get_or (behind_ends rest) 0 0) ≡ false)
    → 0 < length (behind_ends (c ∷ rest)) → ends_row (get_or (behind_ends (c ∷ rest)) 0 0) ≡ false
unfolding behind_ends
first_at c rest true e more = rw e more
first_at c rest false e more = rw e (λ some. e)

pub first_other : (text : List ℕ) → 0 < length (behind_ends text) → ends_row (get_or (behind_ends text) 0 0) ≡ false
unfolding behind_ends
first_other [] some = absurd (omega arith)
first_other (c ∷ rest) some = first_at c rest (ends_row c) refl (first_other rest) some

-- what stands after line ends has no quote either
plain_at : (c : ℕ) (rest : List ℕ) (is : Bool) → ends_row c ≡ is → HasNoQuote (c ∷ rest) → HasNoQuote (behind_ends rest) → HasNoQuote (behind_ends (c ∷ rest))
unfolding behind_ends
plain_at c rest true e plain more = rw e more
plain_at c rest false e plain more = rw e plain

plain_behind : (text : List ℕ) → HasNoQuote text → HasNoQuote (behind_ends text)
unfolding behind_ends
plain_behind [] plain = plain
plain_behind (c ∷ rest) plain = plain_at c rest (ends_row c) refl plain (plain_behind rest (All-tail (λ byte. (byte == 34) ≡ false) c rest plain))

pub plain_left : (text : List ℕ) (n : ℕ) → HasNoQuote text → HasNoQuote (drop n (behind_ends text))
plain_left text n plain = All-drop (λ byte. (byte == 34) ≡ false) n (behind_ends text) (plain_behind text plain)

empty : (text : List ℕ) → length text ≡ 0 → text ≡ []
empty [] none = refl
empty (c ∷ rest) none = absurd (omega arith)

-- there is no row where nothing stands but line ends
pub no_row : (text : List ℕ) → length (behind_ends text) ≡ 0 → rows_in text ≡ []
unfolding next_record
no_row text none = rows_behind text ∙ ap rows_in (empty (behind_ends text) none) ∙ rows_end st.StartRecord [] refl

-- a row is not empty
pub row_some : (text : List ℕ) (n : ℕ) → 0 < length text → ends_row (get_or text 0 0) ≡ false → IsFront text n → 0 < n
row_some text zero some other front = cc (other, front.ended some)
row_some text (suc n) some other front = omega arith

-- the first row of a text without quotes
pub first_row : (text : List ℕ) (n : ℕ) → HasNoQuote text → 0 < length (behind_ends text) → IsFront (behind_ends text) n
    → rows_in text ≡ cells_of (take n (behind_ends text)) ∷ rows_in (drop n (behind_ends text))
first_row text n plain some front =
    let here = behind_ends text in
    let line = take n here in
    let tail = drop n here in
    let whole : line ++ tail ≡ here = take-append-drop n here in
    let at : n + 0 ≡ n = omega arith in
    let long : 0 < length line = omega (arith, length-take n here, front.fits, row_some here n some (first_other text some) front) in
    let end : IsEnd tail = end_from tail (λ more.
    ap ends_row (get_or-drop n here 0 0 ∙ ap (λ n. get_or here n 0) at) ∙ front.ended (omega (arith, length-drop n here, more))) in
    let read = row_read line tail long front.whole (rw whole (plain_behind text plain)) end in
    rows_behind text ∙ ap rows_in (sym whole) ∙ ended_rows (cells_of line) (line ++ tail) tail read end

absent : (byte : ℕ) (is : Bool) → (byte == 34) ≡ is → ¬ ((byte == 34) ≡ true) → (byte == 34) ≡ false
absent byte true e h = absurd (h e)
absent byte false e h = e

-- where no place has a quote, none is there
pub no_quote : (text : List ℕ) → ((k : ℕ) → 0 ≤ k → k < length text → ¬ ((get_or text k 0 == 34) ≡ true)) → HasNoQuote text
no_quote text none = λ k d below. rw (get_or_default text k d 0 below) (absent (get_or text k 0) (get_or text k 0 == 34) refl (none k (omega arith) below))

unmarked_at : (a b c : ℕ) (rest : List ℕ) (is : Bool) → is_bom a b c ≡ is → HasNoQuote (a ∷ b ∷ c ∷ rest) → HasNoQuote (strip_bom (a ∷ b ∷ c ∷ rest))
unfolding strip_bom
unmarked_at a b c rest true e none = rw e (All-drop (λ byte. (byte == 34) ≡ false) 3 (a ∷ b ∷ c ∷ rest) none)
unmarked_at a b c rest false e none = rw e none

-- nor after a byte-order mark
pub unmarked : (text : List ℕ) → HasNoQuote text → HasNoQuote (strip_bom text)
unfolding strip_bom
unmarked [] none = none
unmarked (a ∷ []) none = none
unmarked (a ∷ b ∷ []) none = none
unmarked (a ∷ b ∷ c ∷ rest) none = unmarked_at a b c rest (is_bom a b c) refl none

-- a text without its mark is read from its start
pub plain_rows : (text left : List ℕ) → left ≡ strip_bom text → rows_in left ≡ rows_of text
unfolding rows_from rows_of
plain_rows text left e = rw e refl
