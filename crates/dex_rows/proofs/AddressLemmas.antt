-- The bytes of a label, written over zeros one by one.
use Rattle.std.proofs.Common.{◌≡◌, ◌∙◌, ◌+◌, ◌-◌, ◌<◌, ◌≤◌, ◌++◌, ◌∷◌, [], ℕ, suc, List, append_assoc, length, take, get_or, replicate, set, arith, ap, sym}
use Rattle.std.proofs.Math.Seq.{set-append_seam}
use Rattle.std.proofs.lemmas.List.{length-take, take_more}

pub one_written : (text bytes : List ℕ) (place : ℕ) → place < length text → length text ≤ 32 → bytes ≡ take place text ++ replicate (32 - place) 0
    → set bytes place (get_or text place 0) ≡ take (place + 1) text ++ replicate (32 - (place + 1)) 0
one_written text bytes place below few e =
    let front = take place text in
    let byte = get_or text place 0 in
    let rest : List ℕ = replicate (32 - (place + 1)) 0 in
    let size : 32 - place ≡ suc (32 - (place + 1)) = omega arith in
    let here : length front ≡ place = omega (arith, length-take place text) in
    rw e (ap (λ n. set (front ++ replicate n 0) place byte) size ∙ ap (λ n. set (front ++ 0 ∷ rest) n byte) (sym here) ∙ set-append_seam front 0 rest byte
    ∙ sym (append_assoc front (byte ∷ []) rest) ∙ ap (λ all. all ++ rest) (sym (take_more text place 0 below)))
