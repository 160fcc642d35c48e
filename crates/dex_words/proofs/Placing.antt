-- Which words are no command, and the command of words at their places.
use Rattle.std.proofs.Common.{◌≡◌, ◌⊎◌, ◌<◌, ◌^◌, ◌||◌, ℕ, Bool, true, false, if◌then◌else◌, List, [], ◌∷◌, length, map, bytes_eq, slice_get, codes, Option, Some, None, option_and_then, option_map, refl, sym, ap, inl, inr, subst, arith, ◌∙◌}
use Rattle.std.specs.List.{list_any}
use Rattle.std.proofs.lemmas.Bool.Decides.{nat_tests}
use Rattle.clap.specs.Words.{first_value}
use Rattle.clap.specs.declared.parser.matches.Found.{Found}
use Rattle.dex_rows.specs.Numbers.{is_numeral, number_of}
use Rattle.dex_rows.proofs.NumberLemmas.{number_of-none}
use Rattle.dex_words.specs.Commands.{begins_with_hyphen, command_of, count_of, counted_command, plain_command, single_command, with_numbers, within}
use Rattle.dex_words.specs.Positionals.{ArePlaced, IsOutOfPlaces, given_command}
use Rattle.dex_words.specs.declared.command.Command.{Command}
use Rattle.dex_words.specs.declared.command.Command.TheVariants.{Make, Bulk, Migrate, Batch}
use Rattle.dex_words.proofs.Line.{list_any-map}

-- the command of words at their places
given-same : (n n' f f' s s' : Option (List ℕ)) → n ≡ n' → f ≡ f' → s ≡ s' → given_command n f s ≡ given_command n' f' s'
given-same n n' f f' s s' name first second = rw (name, first, second) refl

at-places : (words : List (List ℕ)) → 0 < length words → length words < 4
    → given_command (slice_get words 0) (slice_get words 1) (slice_get words 2) ≡ command_of words
unfolding command_of
at-places [] some few = absurd (omega (arith, some))
at-places (a ∷ []) some few = refl
at-places (a ∷ b ∷ []) some few = refl
at-places (a ∷ b ∷ c ∷ []) some few = refl
at-places (a ∷ b ∷ c ∷ d ∷ rest) some few = absurd (omega (arith, few))

pub placed_command : (words : List (List ℕ)) (found : Found) → ArePlaced words found
    → given_command (first_value found (codes "command")) (first_value found (codes "first")) (first_value found (codes "second")) ≡ command_of words
placed_command words found p = given-same _ _ _ _ _ _ p.name p.first p.second ∙ at-places words p.some p.few

-- no words, or too many, are no command
pub out_is_none : (words : List (List ℕ)) → IsOutOfPlaces words → command_of words ≡ None
unfolding command_of
out_is_none [] out = refl
out_is_none (a ∷ []) (inl e) = cc e
out_is_none (a ∷ []) (inr more) = absurd (omega (arith, more))
out_is_none (a ∷ b ∷ []) (inl e) = cc e
out_is_none (a ∷ b ∷ []) (inr more) = absurd (omega (arith, more))
out_is_none (a ∷ b ∷ c ∷ []) (inl e) = cc e
out_is_none (a ∷ b ∷ c ∷ []) (inr more) = absurd (omega (arith, more))
out_is_none (a ∷ b ∷ c ∷ d ∷ rest) out = refl

-- a word that begins with a hyphen is no number
not-numeral : (xs : List ℕ) → is_numeral (45 ∷ xs) ≡ false
unfolding is_numeral
not-numeral xs = grind (arith, nat_tests)

not-number : (limit : ℕ) (xs : List ℕ) → number_of limit (45 ∷ xs) ≡ None
not-number limit xs = number_of-none limit (45 ∷ xs) (not-numeral xs)

not-count : (most : ℕ) (xs : List ℕ) → count_of most (45 ∷ xs) ≡ None
not-count most xs = ap (option_and_then (within most)) (not-number (2 ^ 32) xs)

front : (word : List ℕ) → begins_with_hyphen word ≡ true → (rest : List ℕ) × (word ≡ 45 ∷ rest)
front [] e = cc e
front (x ∷ xs) e = (xs, ap (λ (y : ℕ). y ∷ xs) (grind (e, arith, nat_tests)))

with-none : (command : ℕ → ℕ → Command) (o : Option ℕ) → with_numbers command o None ≡ None
with-none command None = refl
with-none command (Some n) = refl

none-of : (p q r : Bool) (x y z : Option Command) → x ≡ None → y ≡ None → z ≡ None
    → (if p then x else (if q then y else (if r then z else None))) ≡ None
none-of true q r x y z a b c = a
none-of false true r x y z a b c = b
none-of false false true x y z a b c = c
none-of false false false x y z a b c = refl

no-first : (name second rest : List ℕ) → counted_command name (45 ∷ rest) second ≡ None
no-first name second rest =
    none-of (bytes_eq name (codes "make")) (bytes_eq name (codes "bulk")) (bytes_eq name (codes "migrate")) _ _ _
    (ap (λ (o : Option ℕ). with_numbers Make o (count_of 20000 second)) (not-number (2 ^ 64) rest))
    (ap (λ (o : Option ℕ). with_numbers Bulk o (count_of 20000 second)) (not-number (2 ^ 64) rest))
    (ap (λ (o : Option ℕ). with_numbers Migrate o (count_of 65535 second)) (not-count 65536 rest))

no-second : (name first rest : List ℕ) → counted_command name first (45 ∷ rest) ≡ None
no-second name first rest =
    none-of (bytes_eq name (codes "make")) (bytes_eq name (codes "bulk")) (bytes_eq name (codes "migrate")) _ _ _
    (ap (with_numbers Make (number_of (2 ^ 64) first)) (not-count 20000 rest) ∙ with-none Make (number_of (2 ^ 64) first))
    (ap (with_numbers Bulk (number_of (2 ^ 64) first)) (not-count 20000 rest) ∙ with-none Bulk (number_of (2 ^ 64) first))
    (ap (with_numbers Migrate (count_of 65536 first)) (not-count 65535 rest) ∙ with-none Migrate (count_of 65536 first))

no-plain : (name : List ℕ) → begins_with_hyphen name ≡ true → plain_command name ≡ None
no-plain name e = subst (λ (w : List ℕ). plain_command w ≡ None) (sym (front name e).1) refl

or-cases : (x y : Bool) → (x || y) ≡ true → (x ≡ true) ⊎ (y ≡ true)
or-cases true y e = inl refl
or-cases false y e = inr e

no-counted : (a b c : List ℕ) → list_any begins_with_hyphen (a ∷ b ∷ c ∷ []) ≡ true → counted_command a b c ≡ None
no-counted a b c e =
    elim (or-cases _ _ e) [
      | inl first ↦ subst (λ (w : List ℕ). counted_command w b c ≡ None) (sym (front a first).1) refl
      | inr rest ↦ elim (or-cases _ _ rest) [
        | inl second ↦ subst (λ (w : List ℕ). counted_command a w c ≡ None) (sym (front b second).1) (no-first a c (front b second).0)
        | inr last ↦ elim (or-cases _ _ last) [
          | inl third ↦ subst (λ (w : List ℕ). counted_command a b w ≡ None) (sym (front c third).1) (no-second a b (front c third).0)
          | inr none ↦ cc none
        ]
      ]
    ]

single-none : (p : Bool) (o : Option ℕ) → o ≡ None → (if p then option_map Batch o else None) ≡ None
single-none true o none = ap (option_map Batch) none
single-none false o none = refl

no-single : (a b : List ℕ) → list_any begins_with_hyphen (a ∷ b ∷ []) ≡ true → single_command a b ≡ None
no-single a b e =
    elim (or-cases _ _ e) [
      | inl first ↦ subst (λ (w : List ℕ). single_command w b ≡ None) (sym (front a first).1) refl
      | inr rest ↦ elim (or-cases _ _ rest) [
        | inl second ↦ subst (λ (w : List ℕ). single_command a w ≡ None) (sym (front b second).1)
            (single-none (bytes_eq a (codes "batch")) (count_of 16 (45 ∷ (front b second).0)) (not-count 16 (front b second).0))
        | inr none ↦ cc none
      ]
    ]

no-hyphens : (words : List (List ℕ)) → list_any begins_with_hyphen words ≡ true → command_of words ≡ None
unfolding command_of
no-hyphens [] e = refl
no-hyphens (a ∷ []) e = elim (or-cases _ _ e) [ inl first ↦ no-plain a first | inr none ↦ cc none ]
no-hyphens (a ∷ b ∷ []) e = no-single a b e
no-hyphens (a ∷ b ∷ c ∷ []) e = no-counted a b c e
no-hyphens (a ∷ b ∷ c ∷ d ∷ rest) e = refl

-- words of which one begins with a hyphen are no command
pub hyphen_is_none : {A : Type 0} → (text : A → List ℕ) (words : List A) → list_any (λ word. begins_with_hyphen (text word)) words ≡ true
    → command_of (map text words) ≡ None
hyphen_is_none text words e = no-hyphens (map text words) (list_any-map begins_with_hyphen text words ∙ e)
