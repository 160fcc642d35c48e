-- The client ids that words write, as the instruction that cancels their orders spells them.
use Rattle.std.proofs.Common.{◌≡◌, ℕ, ◌≤◌, ◌-◌, ◌||◌, nat_lt, false, List, [], take, drop, length, Bor, Ok, refl, sym, ap, ◌∙◌, arith}
use Rattle.std.proofs.Math.Seq.{drop-length}
use Rattle.std.proofs.lemmas.List.{length-map}
use Rattle.std.proofs.lemmas.Bool.Decides.{nat_tests}
use Rattle.dex_types.specs.declared.client_ids.ClientIds.{ClientIds}
use Rattle.dex_types.specs.declared.instructions.Ix.TheVariants as ix
use Rattle.dex_instruction.specs.Spelling.{spelling}
use Rattle.dex_statement.specs.OrderWords.{cancels_of, cancels_spelling, ids_behind}
use Rattle.dex_statement.specs.Words.{Fields, texts}

spelled-ids : (ids : List ℕ) (made : ClientIds) → made.count ≡ length ids → take (length ids) made.ids ≡ ids
    → spelling (ix.CancelOrdersByClientIds made) ≡ cancels_spelling ids
unfolding spelling
spelled-ids ids made count is = ap cancels_spelling (ap (λ n. take n made.ids) count ∙ is)

told-ids : (words : Fields) (ids : List ℕ) → (nat_lt (length words) 2 || nat_lt 9 (length words)) ≡ false
    → Ok ids ≡ ids_behind [] (drop 1 words) → cancels_of words ≡ Ok (cancels_spelling ids)
unfolding cancels_of
told-ids words ids few is = rw (few, sym is) refl

few : (n : ℕ) → 2 ≤ n → n ≤ 9 → (nat_lt n 2 || nat_lt 9 n) ≡ false
few n some most = grind (arith, nat_tests)

-- where all words are read, what is made of the ids is what the words ask for
pub asked : (words : List (Bor (List ℕ))) (ids : List ℕ) (made : ClientIds) (place : ℕ)
    → 2 ≤ length words → length words ≤ 9 → place ≡ length words
    → made.count ≡ length (take (length words - 1) ids)
    → take (length (take (length words - 1) ids)) made.ids ≡ take (length words - 1) ids
    → ids_behind (take (place - 1) ids) (texts (drop place words)) ≡ ids_behind [] (drop 1 (texts words))
    → Ok (spelling (ix.CancelOrdersByClientIds made)) ≡ cancels_of (texts words)
asked words ids made place some most end count is read =
    let taken = take (length words - 1) ids in
    let ended : ids_behind taken (texts (drop (length words) words)) ≡ ids_behind [] (drop 1 (texts words)) = rw end at read in
    let all : Ok taken ≡ ids_behind [] (drop 1 (texts words)) = rw (drop-length words) at ended in
    let within : (nat_lt (length (texts words)) 2 || nat_lt 9 (length (texts words))) ≡ false = rw (length-map words (λ (w : Bor (List ℕ)). w.now)) (few (length words) some most) in
    ap Ok (spelled-ids taken made count is) ∙ sym (told-ids (texts words) taken within all)
