-- Bytes that are put before or after known bytes, one piece after another.
use Rattle.std.proofs.Common.{◌≡◌, ◌+◌, ◌≤◌, ◌<◌, ℕ, List, ◌++◌, length, take, drop, Option, Some, None, IfSome, refl, sym, ap, subst, ◌∙◌, arith, append_assoc, length-append}
use Rattle.std.proofs.lemmas.List.{drop_at}
use Rattle.std.proofs.Math.Seq.{take-add}
use Rattle.std.specs.Io.KnownBytes.{prepend_known, append_known}
use Rattle.dex_io.specs.Reading.{Took, TookUpTo, TookMore}

-- two pieces before the known bytes are one piece
pub prepend_known-prepend_known : (xs ys : List ℕ) (known : Option (List ℕ)) → prepend_known xs (prepend_known ys known) ≡ prepend_known (xs ++ ys) known
prepend_known-prepend_known xs ys None = refl
prepend_known-prepend_known xs ys (Some zs) = ap Some (sym (append_assoc xs ys zs))

-- two pieces after the known bytes are one piece
pub append_known-append_known : (known : Option (List ℕ)) (xs ys : List ℕ) → append_known (append_known known xs) ys ≡ append_known known (xs ++ ys)
append_known-append_known None xs ys = refl
append_known-append_known (Some zs) xs ys = ap Some (append_assoc zs xs ys)

-- what was read before, and the piece that was read now
pub read_more : (old mid new : Option (List ℕ)) (xs ys : List ℕ) → old ≡ prepend_known xs mid → mid ≡ prepend_known ys new → old ≡ prepend_known (xs ++ ys) new
read_more old mid new xs ys first then =
    first ∙ ap (prepend_known xs) then ∙ prepend_known-prepend_known xs ys new

-- what was written before, and the piece that was written now
pub written_more : (old mid new : Option (List ℕ)) (text : List ℕ) (sent count : ℕ) → mid ≡ append_known old (take sent text) → new ≡ append_known mid (take count (drop sent text)) → new ≡ append_known old (take (sent + count) text)
written_more old mid new text sent count first then =
    then ∙ ap (λ known. append_known known (take count (drop sent text))) first
    ∙ append_known-append_known old (take sent text) (take count (drop sent text))
    ∙ ap (append_known old) (sym (take-add sent count text))

-- a piece that stood before the known bytes was taken from their front
took : (piece rest : List ℕ) → Took (length piece) (piece ++ rest) (Some rest)
took piece rest =
    record { there = omega (arith, length-append piece rest); rest = ap Some (sym (drop_at piece rest (length piece) refl)) }

pub TookUpTo-known : (most : ℕ) (old new : Option (List ℕ)) (piece : List ℕ) → length piece ≤ most → old ≡ prepend_known piece new → IfSome old (λ bytes. TookUpTo most bytes new)
TookUpTo-known most old None piece short e = subst (λ (o : Option (List ℕ)). IfSome o (λ bytes. TookUpTo most bytes None)) (sym e) tt
TookUpTo-known most old (Some rest) piece short e =
    subst (λ (o : Option (List ℕ)). IfSome o (λ bytes. TookUpTo most bytes (Some rest))) (sym e) (length piece, short, took piece rest)

pub TookMore-known : (limit : ℕ) (old new : Option (List ℕ)) (piece : List ℕ) → limit < length piece → old ≡ prepend_known piece new → IfSome old (λ bytes. TookMore limit bytes new)
TookMore-known limit old None piece long e = subst (λ (o : Option (List ℕ)). IfSome o (λ bytes. TookMore limit bytes None)) (sym e) tt
TookMore-known limit old (Some rest) piece long e =
    subst (λ (o : Option (List ℕ)). IfSome o (λ bytes. TookMore limit bytes (Some rest))) (sym e) (length piece, long, took piece rest)
