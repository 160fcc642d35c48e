-- A word ends at what separates it from the next, and a line at its line feed.
use Rattle.std.proofs.Common.{◌≡◌, ◌∙◌, ℕ, ◌++◌, ◌∷◌, [], List, Bool, true, false, not, nat_lt, refl, sym, ap, append_assoc}
use Rattle.std.specs.List.{flat_map, list_all}
use Rattle.std.proofs.lemmas.Bool.{and_parts}
use Rattle.dex_types.specs.Text.{spaced}

-- a character of a word: one above the space
abbrev pub is_inner : ℕ → Bool
is_inner c = nat_lt 32 c

abbrev pub is_word : List ℕ → Bool
is_word word = list_all is_inner word

-- a text after which nothing of a word can stand: none, or one that begins with a space or a line feed
abbrev pub ends_words : List ℕ → Bool
ends_words [] = true
ends_words (c ∷ rest) = not (is_inner c)

not-both : (b : Bool) → b ≡ true → not b ≡ true → ⊥
not-both true p q = cc
not-both false p q = cc

-- a character that a word has does not end it
no-end : (d : ℕ) (word rest x : List ℕ) → is_word (d ∷ word) ≡ true → ends_words x ≡ true → x ≡ d ∷ rest → ⊥
no-end d word rest x is ends e =
    not-both (is_inner d) (and_parts (is_inner d) (is_word word) is).0 (sym (ap ends_words e) ∙ ends)

pub word-ends : (a b x y : List ℕ) → is_word a ≡ true → is_word b ≡ true → ends_words x ≡ true → ends_words y ≡ true → a ++ x ≡ b ++ y → (a ≡ b) × (x ≡ y)
word-ends [] [] x y wa wb ex ey e = (refl, e)
word-ends [] (d ∷ b) x y wa wb ex ey e = absurd (no-end d b (b ++ y) x wb ex e)
word-ends (c ∷ a) [] x y wa wb ex ey e = absurd (no-end c a (a ++ x) y wa ey (sym e))
word-ends (c ∷ a) (d ∷ b) x y wa wb ex ey e =
    let heads : c ≡ d = cc e in
    let tails : a ++ x ≡ b ++ y = cc e in
    let r = word-ends a b x y (and_parts (is_inner c) (is_word a) wa).1 (and_parts (is_inner d) (is_word b) wb).1 ex ey tails in
    let first : a ≡ b = r.0 in
    let same : c ∷ a ≡ d ∷ b = cc (heads, first) in
    (same, r.1)

-- words end where a space or the line feed follows
ends-behind : (ws : List (List ℕ)) (x : List ℕ) → ends_words (flat_map spaced ws ++ 10 ∷ x) ≡ true
ends-behind [] x = refl
ends-behind (w ∷ ws) x = refl

-- a line's words and what follows it
pub line-ends : (ws vs : List (List ℕ)) (x y : List ℕ) → list_all is_word ws ≡ true → list_all is_word vs ≡ true
    → flat_map spaced ws ++ 10 ∷ x ≡ flat_map spaced vs ++ 10 ∷ y → (ws ≡ vs) × (x ≡ y)
line-ends [] [] x y aw av e = let rest : x ≡ y = cc e in (refl, rest)
line-ends [] (v ∷ vs) x y aw av e = absurd (cc e)
line-ends (w ∷ ws) [] x y aw av e = absurd (cc e)
line-ends (w ∷ ws) (v ∷ vs) x y aw av e =
    let tails : (w ++ flat_map spaced ws) ++ 10 ∷ x ≡ (v ++ flat_map spaced vs) ++ 10 ∷ y = cc e in
    let joined : w ++ (flat_map spaced ws ++ 10 ∷ x) ≡ v ++ (flat_map spaced vs ++ 10 ∷ y) = sym (append_assoc w _ _) ∙ tails ∙ append_assoc v _ _ in
    let pw = and_parts (is_word w) (list_all is_word ws) aw in
    let pv = and_parts (is_word v) (list_all is_word vs) av in
    let r = word-ends w v _ _ pw.0 pv.0 (ends-behind ws x) (ends-behind vs y) joined in
    let first : w ≡ v = r.0 in
    let s = line-ends ws vs x y pw.1 pv.1 r.1 in
    let others : ws ≡ vs = s.0 in
    let same : w ∷ ws ≡ v ∷ vs = cc (first, others) in
    (same, s.1)
