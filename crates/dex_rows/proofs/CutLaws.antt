-- A text without quotes, cut at a line end: its rows are those of both parts.
use Rattle.std.proofs.Common.{◌≡◌, ◌∙◌, ◌<◌, ◌≤◌, ◌++◌, ◌==◌, ◌∷◌, [], ℕ, Bool, List, All, true, false, length, length-append, take, drop, get_or, arith, refl, sym, ap, subst, zero, suc, inl, inr}
use Rattle.std.proofs.lemmas.Bool.{cases_lt}
use Rattle.std.proofs.lemmas.Grind.{common_steps}
use Rattle.std.proofs.lemmas.List.{length-drop, take-append-le}
use Rattle.std.proofs.lemmas.List.Elements.{All-cons, All-head, All-nil, All-tail}
use Rattle.dex_rows.specs.Lines.{HasNoQuote, IsEnd, IsFront, behind_ends, cells_of, ends_row, rows_in}
use Rattle.dex_rows.proofs.PlainLaws.{first_other, first_row, no_row, plain_left, row_some, rows_behind}

-- the row at the front ends somewhere
abbrev End : List ℕ → Type 0
End text = (n : ℕ) × IsFront text n

end_at : (c : ℕ) (rest : List ℕ) (is : Bool) → ends_row c ≡ is → End rest → End (c ∷ rest)
end_at c rest true e more = (0, record { fits = omega arith; whole = All-nil (λ byte. ends_row byte ≡ false); ended = λ _. e })
end_at c rest false e more = (
  suc more.0,
  record {
    fits = omega (arith, more.1.fits);
    whole = All-cons (λ byte. ends_row byte ≡ false) c (take more.0 rest) e more.1.whole;
    ended = λ less. more.1.ended (omega (arith, less));
  },
)

row_end : (text : List ℕ) → End text
row_end [] = (0, record { fits = omega arith; whole = All-nil (λ byte. ends_row byte ≡ false); ended = λ less. absurd (omega arith) })
row_end (c ∷ rest) = end_at c rest (ends_row c) refl (row_end rest)

-- line ends at the front of the first part, where nothing else is in it, and where something is
over_at : (c : ℕ) (a b : List ℕ) (is : Bool) → ends_row c ≡ is → (length (behind_ends a) ≡ 0 → behind_ends (a ++ b) ≡ behind_ends b)
    → length (behind_ends (c ∷ a)) ≡ 0 → behind_ends (c ∷ a ++ b) ≡ behind_ends b
unfolding behind_ends
over_at c a b true e more = rw e more
over_at c a b false e more = rw e (λ none. absurd (omega (arith, none)))

ends_over : (a b : List ℕ) → length (behind_ends a) ≡ 0 → behind_ends (a ++ b) ≡ behind_ends b
unfolding behind_ends
ends_over [] b none = refl
ends_over (c ∷ a) b none = over_at c a b (ends_row c) refl (ends_over a b) none

before_at : (c : ℕ) (a b : List ℕ) (is : Bool) → ends_row c ≡ is → (0 < length (behind_ends a) → behind_ends (a ++ b) ≡ behind_ends a ++ b)
    → 0 < length (behind_ends (c ∷ a)) → behind_ends (c ∷ a ++ b) ≡ behind_ends (c ∷ a) ++ b
unfolding behind_ends
before_at c a b true e more = rw e more
before_at c a b false e more = rw e (λ some. refl)

ends_before : (a b : List ℕ) → 0 < length (behind_ends a) → behind_ends (a ++ b) ≡ behind_ends a ++ b
unfolding behind_ends
ends_before [] b some = absurd (omega arith)
ends_before (c ∷ a) b some = before_at c a b (ends_row c) refl (ends_before a b) some

shorter_at : (c : ℕ) (a : List ℕ) (is : Bool) → ends_row c ≡ is → length (behind_ends a) ≤ length a → length (behind_ends (c ∷ a)) ≤ suc (length a)
unfolding behind_ends
shorter_at c a true e less = rw e (omega (arith, less))
shorter_at c a false e less = rw e (omega arith)

ends_shorter : (a : List ℕ) → length (behind_ends a) ≤ length a
unfolding behind_ends
ends_shorter [] = omega arith
ends_shorter (c ∷ a) = shorter_at c a (ends_row c) refl (ends_shorter a)

no_quote_before : (a b : List ℕ) → HasNoQuote (a ++ b) → HasNoQuote a
no_quote_before [] b plain = All-nil (λ byte. (byte == 34) ≡ false)
no_quote_before (c ∷ a) b plain =
    All-cons (λ byte. (byte == 34) ≡ false) c a (All-head (λ byte. (byte == 34) ≡ false) c (a ++ b) plain)
    (no_quote_before a b (All-tail (λ byte. (byte == 34) ≡ false) c (a ++ b) plain))

drop_before : (n : ℕ) (x b : List ℕ) → n ≤ length x → drop n (x ++ b) ≡ drop n x ++ b
drop_before zero x b within = refl
drop_before (suc n) [] b within = absurd (omega (arith, within))
drop_before (suc n) (c ∷ x) b within = drop_before n x b (omega (arith, within))

end_first : (b : List ℕ) → IsEnd b → 0 < length b → ends_row (get_or b 0 0) ≡ true
end_first [] end some = absurd (omega arith)
end_first (c ∷ b) end some = end

-- a row that ends in the first part, or with it
front_before : (x b : List ℕ) (n : ℕ) → IsEnd b → IsFront x n → IsFront (x ++ b) n
front_before x b n end front = record {
  fits = omega (arith, front.fits, length-append x b);
  whole = subst (All (λ byte. ends_row byte ≡ false)) (sym (take-append-le n x b front.fits)) front.whole;
  ended = λ less.
      elim (cases_lt n (length x)) [
        | inl low ↦ let here : get_or (x ++ b) n 0 ≡ get_or x n 0 = grind (arith, common_steps) in ap ends_row here ∙ front.ended low
        | inr high ↦
            let here : get_or (x ++ b) n 0 ≡ get_or b 0 0 = grind (arith, common_steps, front.fits) in
            ap ends_row here ∙ end_first b end (omega (arith, less, length-append x b, high, front.fits))
      ];
}

abbrev AreCutAt : List ℕ → List ℕ → Type 0
AreCutAt a b = rows_in (a ++ b) ≡ rows_in a ++ rows_in b

cut_none : (a b : List ℕ) → length (behind_ends a) ≡ 0 → AreCutAt a b
cut_none a b over =
    rows_behind (a ++ b) ∙ ap rows_in (ends_over a b over) ∙ sym (rows_behind b) ∙ ap (λ rows. rows ++ rows_in b) (sym (no_row a over))

cut_some : (a b : List ℕ) → HasNoQuote (a ++ b) → IsEnd b → 0 < length (behind_ends a)
    → ((x : List ℕ) → length x < length a → HasNoQuote (x ++ b) → AreCutAt x b) → AreCutAt a b
cut_some a b plain end some more =
    let x = behind_ends a in
    let row = row_end x in
    let n = row.0 in
    let same : behind_ends (a ++ b) ≡ x ++ b = ends_before a b some in
    let long : 0 < n = row_some x n some (first_other a some) row.1 in
    let longer : 0 < length (behind_ends (a ++ b)) = omega (arith, ap length same, length-append x b, some) in
    let left : HasNoQuote (drop n x ++ b) = subst HasNoQuote (ap (drop n) same ∙ drop_before n x b row.1.fits) (plain_left (a ++ b) n plain) in
    first_row (a ++ b) n plain longer (subst (λ text. IsFront text n) (sym same) (front_before x b n end row.1))
    ∙ ap (λ text. cells_of (take n text) ∷ rows_in (drop n text)) same
    ∙ ap (λ line. cells_of line ∷ rows_in (drop n (x ++ b))) (take-append-le n x b row.1.fits)
    ∙ ap (λ text. cells_of (take n x) ∷ rows_in text) (drop_before n x b row.1.fits)
    ∙ ap (λ rows. cells_of (take n x) ∷ rows) (more (drop n x) (omega (arith, length-drop n x, ends_shorter a, long, row.1.fits)) left)
    ∙ ap (λ rows. rows ++ rows_in b) (sym (first_row a n (no_quote_before a b plain) some row.1))

cut_at : (k : ℕ) (a b : List ℕ) → length a ≤ k → HasNoQuote (a ++ b) → IsEnd b → AreCutAt a b
cut_at zero a b fits plain end = cut_none a b (omega (arith, ends_shorter a, fits))
cut_at (suc k) a b fits plain end =
    elim (cases_lt 0 (length (behind_ends a))) [
      | inl some ↦ cut_some a b plain end some (λ x less left. cut_at k x b (omega (arith, less, fits)) left end)
      | inr none ↦ cut_none a b (omega (arith, none))
    ]

-- the rows of a text that is cut where one ends
pub rows_cut : (a b : List ℕ) → HasNoQuote (a ++ b) → IsEnd b → rows_in (a ++ b) ≡ rows_in a ++ rows_in b
rows_cut a b = cut_at (length a) a b (omega arith)
