-- A text that is cut into parts, byte by byte.
use Rattle.std.proofs.Common.{◌≡◌, ◌∙◌, ◌+◌, ◌-◌, ◌<◌, ◌≤◌, ◌++◌, ◌∷◌, [], ℕ, List, All, Bool, true, false, append_assoc, append-nil, length, take, drop, get_or, arith, refl, sym, ap}
use Rattle.std.specs.List.{slice_split}
use Rattle.std.proofs.Math.Seq.{take-add}
use Rattle.std.proofs.lemmas.List.{get_or-drop, length-drop, take_more}
use Rattle.std.proofs.lemmas.List.Elements.{All-append, All-cons, All-nil}
use Rattle.std.proofs.lemmas.List.Splits.{slice_split_at, slice_split_none}

-- the part between two places
abbrev pub part_at : List ℕ → ℕ → ℕ → List ℕ
part_at text start at = take (at - start) (drop start text)

-- a text is read up to a place: cut into these parts up to a start, with no cut after that
pub record InPart (p : ℕ → Bool) (text : List ℕ) (start at : ℕ) (done : List (List ℕ)) : Type 0 where
  pub order : start ≤ at
  pub split : (tail : List ℕ) → slice_split p (take start text ++ tail) ≡ done ++ slice_split p tail
  pub none : All (λ x. p x ≡ false) (part_at text start at)

-- at the front
pub part_start : (p : ℕ → Bool) (text : List ℕ) → InPart p text 0 0 []
part_start p text = record { order = omega arith; split = λ tail. refl; none = All-nil (λ x. p x ≡ false) }

-- one more byte of a part
part_longer : (text : List ℕ) (start at : ℕ) → start ≤ at → at < length text → part_at text start (at + 1) ≡ part_at text start at ++ get_or text at 0 ∷ []
part_longer text start at order below =
    let size : at + 1 - start ≡ at - start + 1 = omega arith in
    let place : start + (at - start) ≡ at = omega arith in
    let more = take_more (drop start text) (at - start) 0 (omega (arith, length-drop start text)) in
    ap (λ n. take n (drop start text)) size ∙ more ∙ ap (λ x. part_at text start at ++ x ∷ []) (get_or-drop start text (at - start) 0 ∙ ap (λ n. get_or text n 0) place)

pub part_more : (p : ℕ → Bool) (text : List ℕ) (start at : ℕ) (done : List (List ℕ)) → at < length text → p (get_or text at 0) ≡ false
    → InPart p text start at done → InPart p text start (at + 1) done
part_more p text start at done below fails h = record {
  order = omega (arith, h.order);
  split = h.split;
  none = rw (part_longer text start at h.order below)
      (All-append (λ x. p x ≡ false) (part_at text start at) (get_or text at 0 ∷ []) h.none (All-cons (λ x. p x ≡ false) (get_or text at 0) [] fails (All-nil (λ x. p x ≡ false))));
}

-- what stands up to a place is what stands up to the start, and the part
up_to : (text : List ℕ) (start at : ℕ) → start ≤ at → take at text ≡ take start text ++ part_at text start at
up_to text start at order =
    let size : at ≡ start + (at - start) = omega arith in
    ap (λ n. take n text) size ∙ take-add start (at - start) text

-- a part that ends with what stands after the place
behind : (p : ℕ → Bool) (text : List ℕ) (start at : ℕ) (done : List (List ℕ)) (tail : List ℕ) → InPart p text start at done
    → slice_split p (take at text ++ tail) ≡ done ++ slice_split p (part_at text start at ++ tail)
behind p text start at done tail h =
    ap (λ front. slice_split p (front ++ tail)) (up_to text start at h.order) ∙ ap (slice_split p) (append_assoc (take start text) (part_at text start at) tail) ∙ h.split (part_at text start at ++ tail)

-- a cut
pub part_cut : (p : ℕ → Bool) (text : List ℕ) (start at : ℕ) (done : List (List ℕ)) → at < length text → p (get_or text at 0) ≡ true
    → InPart p text start at done → InPart p text (at + 1) (at + 1) (done ++ part_at text start at ∷ [])
part_cut p text start at done below passes h = record {
  order = omega arith;
  split = λ tail.
      ap (λ front. slice_split p (front ++ tail)) (take_more text at 0 below) ∙ ap (slice_split p) (append_assoc (take at text) (get_or text at 0 ∷ []) tail)
      ∙ behind p text start at done (get_or text at 0 ∷ tail) h
      ∙ ap (λ parts. done ++ parts) (slice_split_at p (part_at text start at) (get_or text at 0) tail h.none passes)
      ∙ sym (append_assoc done (part_at text start at ∷ []) (slice_split p tail));
  none =
      let size : at + 1 - (at + 1) ≡ 0 = omega arith in
      rw size (All-nil (λ x. p x ≡ false));
}

-- the parts of what stands up to the place
pub part_end : (p : ℕ → Bool) (text : List ℕ) (start at : ℕ) (done : List (List ℕ)) → InPart p text start at done
    → slice_split p (take at text) ≡ done ++ part_at text start at ∷ []
part_end p text start at done h =
    ap (slice_split p) (sym (append-nil (take at text))) ∙ behind p text start at done [] h
    ∙ ap (λ part. done ++ slice_split p part) (append-nil (part_at text start at))
    ∙ ap (λ parts. done ++ parts) (slice_split_none p (part_at text start at) h.none)
