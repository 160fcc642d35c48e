-- Rows by numbers that never fall.
use Rattle.std.proofs.Common.{ℕ, zero, suc, [], ◌∷◌, drop, Some, ◌≡◌, ◌<◌, ◌≤◌, ◌==◌, Bool, true, false, nat_lt, List, length, map, get_or, refl, ap, ◌∙◌, subst, arith, ⊎_elim}
use Rattle.std.specs.List.{AllPairs}
use Rattle.std.specs.List.Sorted.{IsPartitionedBy}
use Rattle.std.proofs.lemmas.Bool.{and_left, cases_lt, cond-false, lt-ltb, ltb-true, ne_eqb}
use Rattle.std.proofs.lemmas.List.{get_or-map, length-map}
use Rattle.dex_types.specs.declared.addresses.Address.{Address}
use Rattle.dex_types.specs.declared.rows.Row.{Row}
use Rattle.dex_types.specs.Addresses.{is_same}
use Rattle.dex_types.specs.Rows.{PlainRow, row_of}
use Rattle.dex_script_types.specs.Firsts.{first_of}
use Rattle.dex_replay.specs.EntryCalls.{is_row_on}

-- the row stands before this number
abbrev pub is_before : ℕ → Row → Bool
is_before number row = nat_lt row.number number

-- by numbers that never fall those before a number stand first
pub parted-rising : (rows : List Row) (number : ℕ) → AllPairs (λ (one other : PlainRow). one.number ≤ other.number) (map row_of rows) → IsPartitionedBy (is_before number) rows
parted-rising rows number rising i j d before within stands =
    let long : length (map row_of rows) ≡ length rows = length-map rows row_of in
    ⊎_elim
    (λ (earlier : i < j).
    let le = rising i j (row_of d) earlier (omega (arith, long)) in
    let one = ap (λ (row : PlainRow). row.number) (get_or-map row_of rows i d (row_of d) (omega (arith, earlier))) in
    let other = ap (λ (row : PlainRow). row.number) (get_or-map row_of rows j d (row_of d) within) in
    lt-ltb (get_or rows i d).number number (omega (arith, le, one, other, ltb-true (get_or rows j d).number number stands)))
    (λ (later : j ≤ i). let same : j ≡ i = omega arith in subst (λ (k : ℕ). is_before number (get_or rows k d) ≡ true) same stands)
    (cases_lt i j)

-- a row before the number is not the one
pub not-before : (market : Address) (number : ℕ) (row : Row) → is_before number row ≡ true → is_row_on market number (row_of row) ≡ false
not-before market number row before =
    and_left (row.number == number) (is_same row.market market) (ne_eqb row.number number (λ same. absurd (omega (arith, same, ltb-true row.number number before))))

-- so the one is found among those that do not stand before it
pub found-behind : (market : Address) (number : ℕ) (rows : List Row) (place : ℕ) → ((k : ℕ) (d : Row) → k < place → k < length rows → is_before number (get_or rows k d) ≡ true)
    → first_of (is_row_on market number) (λ (row : PlainRow). row) (map row_of rows) ≡ first_of (is_row_on market number) (λ (row : PlainRow). row) (drop place (map row_of rows))
found-behind market number rows zero before = refl
found-behind market number [] (suc place) before = refl
found-behind market number (row ∷ rows) (suc place) before =
    cond-false (is_row_on market number (row_of row)) (Some (row_of row)) (first_of (is_row_on market number) (λ (one : PlainRow). one) (map row_of rows))
    (not-before market number row (before 0 row (omega arith) (omega arith)))
    ∙ found-behind market number rows place (λ k d low high. before (suc k) d (omega arith) (omega arith))
