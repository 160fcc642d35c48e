-- The text of rows, one after the other.
use Rattle.std.proofs.Common.{◌≡◌, ◌<◌, ◌+◌, [], ◌∷◌, ◌++◌, ◌∙◌, ℕ, List, append_assoc, append-nil, refl, sym, All, ap, map, take, get_or, length, subst}
use Rattle.std.specs.List.{flat_map}
use Rattle.std.proofs.lemmas.List.Elements.{All-push}
use Rattle.std.proofs.lemmas.List.{map-append, map_more, take_more}
use Rattle.std.proofs.lemmas.Grind.{flat_map-append}
use Rattle.dex_dump_rows.specs.Lines.{Fields}
use Rattle.dex_types.specs.Accounts.{PlainMarketAccounts}
use Rattle.dex_dump.specs.DumpText.{base64_text, behind_first, line_text, lines_text, market_row}
use Rattle.dex_dump.specs.Terms.{terms_text}

-- the text of rows is that of a front and of the rest
pub lines_text-append : (rows others : List Fields) → lines_text (rows ++ others) ≡ lines_text rows ++ lines_text others
unfolding lines_text
lines_text-append [] others = refl
lines_text-append (row ∷ rows) others =
    ap (λ (t : List ℕ). line_text row ++ t) (lines_text-append rows others) ∙ sym (append_assoc (line_text row) (lines_text rows) (lines_text others))

-- a row in front of four parts
pub lines_text-four : (row : Fields) (a b c d : List Fields)
    → lines_text (row ∷ (a ++ (b ++ (c ++ d)))) ≡ line_text row ++ (lines_text a ++ (lines_text b ++ (lines_text c ++ lines_text d)))
unfolding lines_text
lines_text-four row a b c d =
    ap (λ t. line_text row ++ t) (lines_text-append a (b ++ (c ++ d))
    ∙ ap (λ t. lines_text a ++ t) (lines_text-append b (c ++ d) ∙ ap (λ t. lines_text b ++ t) (lines_text-append c d)))

-- the text of one row
pub lines_text-one : (row : Fields) → lines_text (row ∷ []) ≡ line_text row
unfolding lines_text
lines_text-one row = append-nil (line_text row)

-- a text with the row of one element more
pub lines_more : {A B : Type 0} (row : B → Fields) (plain : A → B) (text before : List ℕ) (xs : List A) (i : ℕ) (x : A) → i < length xs
    → x ≡ get_or xs i x → before ≡ text ++ lines_text (map row (map plain (take i xs)))
    → before ++ line_text (row (plain x)) ≡ text ++ lines_text (map row (map plain (take (i + 1) xs)))
lines_more row plain text before xs i x h here e =
    rw (e, map_more plain xs i x, ← here, map-append row, lines_text-append, lines_text-one) (append_assoc text _ _)

-- the text of one element more that has several rows, which stand after those of others
pub rows-pushed : {A B : Type 0} (rows : B → List Fields) (plain : A → B) (text before : List ℕ) (xs : List A) (x : A)
    → before ≡ text ++ lines_text (flat_map rows (map plain xs))
    → before ++ lines_text (rows (plain x)) ≡ text ++ lines_text (flat_map rows (map plain (xs ++ x ∷ [])))
rows-pushed rows plain text before xs x e =
    rw (e, map-append plain, flat_map-append rows, lines_text-append) (rw append-nil (append_assoc text _ _))

-- up to a place
pub rows_more : {A B : Type 0} (rows : B → List Fields) (plain : A → B) (text before : List ℕ) (xs : List A) (i : ℕ) (x : A) → i < length xs
    → x ≡ get_or xs i x → before ≡ text ++ lines_text (flat_map rows (map plain (take i xs)))
    → before ++ lines_text (rows (plain x)) ≡ text ++ lines_text (flat_map rows (map plain (take (i + 1) xs)))
rows_more rows plain text before xs i x h here e =
    subst (λ (most : _). before ++ lines_text (rows (plain x)) ≡ text ++ lines_text (flat_map rows (map plain most)))
    (ap (λ (y : _). take i xs ++ y ∷ []) here ∙ sym (take_more xs i x h)) (rows-pushed rows plain text before (take i xs) x e)

-- what is written one after the other
pub in-turn : (t a b c d e f : List ℕ) → (((((t ++ a) ++ b) ++ c) ++ d) ++ e) ++ f ≡ t ++ (a ++ (b ++ (c ++ (d ++ (e ++ f)))))
in-turn t a b c d e f = append_assoc _ e f ∙ append_assoc _ d (e ++ f) ∙ append_assoc _ c _ ∙ append_assoc _ b _ ∙ append_assoc t a _

-- a market's row, and its terms in front of the rest
pub row-text : (market : PlainMarketAccounts)
    → terms_text market ++ ((44 ∷ base64_text market.requests) ++ ((44 ∷ base64_text market.events) ++ ((44 ∷ base64_text market.bids) ++ ((44 ∷ base64_text market.asks) ++ (10 ∷ [])))))
    ≡ line_text (market_row market)
unfolding behind_first
row-text market = simp append_assoc

-- what holds of each up to a place, and of the next
pub held_more : {A B : Type 0} (P : B → Type 0) (plain : A → B) (xs : List A) (i : ℕ) (x : A) → i < length xs → x ≡ get_or xs i x
    → All P (map plain (take i xs)) → P (plain x) → All P (map plain (take (i + 1) xs))
held_more P plain xs i x h here before next =
    subst (All P) (sym (map_more plain xs i x h ∙ ap (λ (y : _). map plain (take i xs) ++ plain y ∷ []) (sym here))) (All-push P (map plain (take i xs)) (plain x) before next)
