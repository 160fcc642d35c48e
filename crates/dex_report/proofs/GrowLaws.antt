-- Journals that are told while they grow.
use Rattle.std.proofs.Common.{◌≡◌, ◌∙◌, ◌++◌, ◌+◌, ◌<◌, ◌≤◌, ℕ, zero, suc, List, [], ◌∷◌, All, Some, arith, ap, get_or, length, length-append, map, min, refl, set, subst, sym, take}
use Rattle.std.specs.List.{AllZip, flat_map}
use Rattle.std.proofs.lemmas.Grind.{flat_map-append}
use Rattle.std.proofs.lemmas.List.{flat_map_more, map-append, take_more}
use Rattle.std.proofs.lemmas.List.Elements.{All-append, All-cons, All-head, All-nil, All-tail}
use Rattle.std.proofs.lemmas.Slice.Zip.{all_zipped_more}
use Rattle.dex_types.specs.declared.addresses.Address.{Address}
use Rattle.dex_dump.specs.Pieces.{text_in}
use Rattle.dex_report.specs.Growing.{IsCounted, TellsJournal, each_goes_on, journal_text}
use Rattle.dex_report.specs.Report.{head_line}
use Rattle.dex_report.specs.Telling.{IsJournal}
use Rattle.dex_report.specs.declared.growing.JournalText.{JournalText}

-- ---- one journal

-- entries are told behind others
pub told-on : {A : Type 0} (Fits : A → Type 0) (line_of : A → List ℕ) (before after : JournalText) (place : Address) (told entries : List A)
    → TellsJournal Fits line_of before place told → after.address ≡ before.address → after.count ≡ before.count + length entries → All Fits entries
    → text_in after.lines ≡ text_in before.lines ++ flat_map line_of entries → TellsJournal Fits line_of after place (told ++ entries)
told-on Fits line_of before after place told entries tells address count fits lines = record {
  address = address ∙ tells.address;
  count = omega (arith, count, tells.count, length-append told entries);
  fits = All-append Fits told entries tells.fits fits;
  lines = lines ∙ ap (λ (t : List ℕ). t ++ flat_map line_of entries) tells.lines ∙ sym (flat_map-append line_of told entries);
}

-- what is told fits
pub told-fits : {A : Type 0} (Fits : A → Type 0) (line_of : A → List ℕ) (text : JournalText) (place : Address) (entries : List A)
    → IsCounted text → TellsJournal Fits line_of text place entries → IsJournal Fits place entries
told-fits Fits line_of text place entries counted tells =
    record { address = rw (← tells.address) counted.0; count = rw (← tells.count) counted.1; entries = tells.fits }

-- the text of a journal with its first line
pub told-text : {A : Type 0} (Fits : A → Type 0) (line_of : A → List ℕ) (word : List ℕ) (text : JournalText) (place : Address) (entries : List A)
    → TellsJournal Fits line_of text place entries → journal_text word text ≡ head_line word (Some place) (length entries) ++ flat_map line_of entries
told-text Fits line_of word text place entries tells = rw (tells.address, tells.count, tells.lines) refl

-- ---- each of a list

-- as many as there are
pub all-go-on : {B : Type 0} (on : B → B → B) (n : ℕ) (told next : List B) → min (length told) (length next) ≤ n
    → each_goes_on on told (take n next) ≡ each_goes_on on told next
all-go-on on zero [] [] few = refl
all-go-on on zero [] (y ∷ ys) few = refl
all-go-on on zero (x ∷ xs) [] few = refl
all-go-on on zero (x ∷ xs) (y ∷ ys) few = absurd (omega arith)
all-go-on on (suc n) told [] few = refl
all-go-on on (suc n) [] (y ∷ ys) few = refl
all-go-on on (suc n) (x ∷ xs) (y ∷ ys) few = ap (λ (zs : List _). on x y ∷ zs) (all-go-on on n xs ys (omega arith))

-- one more text
pub one-goes-on : {A B : Type 0} (R : A → B → Type 0) (on : B → B → B) (texts : List A) (told next : List B) (i : ℕ) (d after : A) (one : B)
    → AllZip R texts (each_goes_on on told (take i next)) → i < length texts → i < length next → one ≡ get_or next i one
    → ((b : B) → R (get_or texts i d) b → R after (on b one)) → AllZip R (set texts i after) (each_goes_on on told (take (suc i) next))
one-goes-on R on [] told next i d after one all here there is step = absurd (omega arith)
one-goes-on R on (t ∷ ts) told [] i d after one all here there is step = absurd (omega arith)
one-goes-on R on (t ∷ ts) [] (y ∷ ys) zero d after one all here there is step = absurd all
one-goes-on R on (t ∷ ts) [] (y ∷ ys) (suc i) d after one all here there is step = absurd all
one-goes-on R on (t ∷ ts) (b ∷ bs) (y ∷ ys) zero d after one all here there is step = (subst (λ (z : _). R after (on b z)) is (step b all.0), all.1)
one-goes-on R on (t ∷ ts) (b ∷ bs) (y ∷ ys) (suc i) d after one all here there is step =
    (all.0, one-goes-on R on ts bs ys i d after one all.1 (omega arith) (omega arith) is step)

-- ---- one more of a list

pub taken : {A : Type 0} (xs : List A) (i : ℕ) (x : A) → i < length xs → x ≡ get_or xs i x → take (i + 1) xs ≡ take i xs ++ x ∷ []
taken xs i x here is = take_more xs i x here ∙ ap (λ (z : _). take i xs ++ z ∷ []) (sym is)

-- one more text that tells
pub one-more-tells : {A B C D : Type 0} (R : A → D → Type 0) (f : C → D) (g : B → C) (texts : List A) (xs : List B) (i : ℕ) (text : A) (x : B)
    → i < length xs → x ≡ get_or xs i x → AllZip R texts (map f (map g (take i xs))) → R text (f (g x))
    → AllZip R (texts ++ text ∷ []) (map f (map g (take (i + 1) xs)))
one-more-tells R f g texts xs i text x here is all one =
    rw (taken xs i x here is, map-append g (take i xs) (x ∷ []), map-append f (map g (take i xs)) (g x ∷ []))
    (all_zipped_more R texts (map f (map g (take i xs))) text (f (g x)) all one)

-- one more line behind a text
pub one-more-line : {A : Type 0} (f : A → List ℕ) (start before after : List ℕ) (xs : List A) (i : ℕ) (x : A) → i < length xs → x ≡ get_or xs i x
    → before ≡ start ++ flat_map f (take i xs) → after ≡ before ++ f x → after ≡ start ++ flat_map f (take (i + 1) xs)
one-more-line f start before after xs i x here is was next =
    next ∙ ap (λ (t : List ℕ). t ++ f x) was ∙ flat_map_more f start (take i xs) x ∙ ap (λ (ys : List _). start ++ flat_map f ys) (sym (taken xs i x here is))

-- ---- side by side

-- lines that are the same of each are the same
pub same-lines : {A B : Type 0} (R : A → B → Type 0) (f : A → List ℕ) (g : B → List ℕ) → ((a : A) (b : B) → R a b → f a ≡ g b)
    → (xs : List A) (ys : List B) → AllZip R xs ys → flat_map f xs ≡ flat_map g ys
same-lines R f g same [] [] all = refl
same-lines R f g same [] (y ∷ ys) all = absurd all
same-lines R f g same (x ∷ xs) [] all = absurd all
same-lines R f g same (x ∷ xs) (y ∷ ys) all =
    ap (λ (t : List ℕ). t ++ flat_map f xs) (same x y all.0) ∙ ap (λ (t : List ℕ). g y ++ t) (same-lines R f g same xs ys all.1)

-- what follows for each holds of all
pub all-follow : {A B : Type 0} (R : A → B → Type 0) (P : A → Type 0) (Q : B → Type 0) → ((a : A) (b : B) → P a → R a b → Q b)
    → (xs : List A) (ys : List B) → All P xs → AllZip R xs ys → All Q ys
all-follow R P Q follows [] [] each all = All-nil Q
all-follow R P Q follows [] (y ∷ ys) each all = absurd all
all-follow R P Q follows (x ∷ xs) [] each all = absurd all
all-follow R P Q follows (x ∷ xs) (y ∷ ys) each all =
    All-cons Q y ys (follows x y (All-head P x xs each) all.0) (all-follow R P Q follows xs ys (All-tail P x xs each) all.1)
