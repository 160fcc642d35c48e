-- What the parser makes of words without hyphens: each goes to its place.
use Rattle.std.proofs.Common.{◌≡◌, ◌⊎◌, ◌<◌, ◌∙◌, ◌||◌, ℕ, Bool, true, false, List, [], ◌∷◌, length, map, bytes_eq, ◌&&◌, if◌then◌else◌, option_and_then, slice_get, codes, Option, Some, None, is_some, refl, sym, ap, ap₂, subst, inl, inr, arith}
use Rattle.std.specs.List.{list_any}
use Rattle.std.specs.Option.{option_map_or}
use Rattle.clap.specs.Lexer.{long_of, long_of_rest, short_of, short_of_rest, strip_byte}
use Rattle.clap.specs.Walk.{Held, Rule, Text, Walk, arg_by_index, finished, first_of, idle, long_or_other, nothing_held, settled, short_or_plain, to_positional, trailing, value, walk, walked, word_met}
use Rattle.clap.specs.Simple.{HasMatchesOf, Shape, built, entered, matches_of}
use Rattle.clap.specs.Faults.{bundle_fault, check_fault, defaults_fault, entered_fault, fault_of, flag_word_fault, is_simple_and_free, other_fault, settle_fault, step_fault, turn_fault, walk_fault}
use Rattle.clap.specs.Kinds.{HasKind, Kinds, or_else}
use Rattle.clap.specs.Matches.{found_of}
use Rattle.clap.specs.Values.{kind_of}
use Rattle.clap.specs.declared.error.Error.{Error}
use Rattle.clap.specs.declared.parser.matches.ArgMatches.{ArgMatches}
use Rattle.clap.proofs.WalkLemmas.{first_value-rows}
use Rattle.clap.specs.declared.error.kind.ErrorKind.{ErrorKind}
use Rattle.clap.specs.declared.error.kind.ErrorKind.TheVariants.{MissingRequiredArgument, UnknownArgument}
use Rattle.clap.proofs.OnLiterals.{clap_on_literals}
use Rattle.dex_words.specs.Commands.{begins_with_hyphen}
use Rattle.dex_words.specs.Positionals.{ArePlaced, IsOutOfPlaces, error_of, line}
use Rattle.dex_words.specs.declared.command.WordsError.TheVariants.{Usage}

pub line-simple : is_simple_and_free line ≡ true
unfolding clap_on_literals
line-simple = refl

abbrev shape : Shape
shape = (built line).top

abbrev rules : List Rule
rules = shape.rules

-- a word without a hyphen is no flag
strip-none : (x : ℕ) (xs : Text) → begins_with_hyphen (x ∷ xs) ≡ false → strip_byte 45 (x ∷ xs) ≡ None
strip-none x xs none = ap (λ (b : Bool). if b then Some xs else None) none

long-none : (x : ℕ) (xs : Text) → begins_with_hyphen (x ∷ xs) ≡ false → long_of (x ∷ xs) ≡ None
long-none x xs none = ap (λ (o : Option Text). option_and_then long_of_rest (option_and_then (strip_byte 45) o)) (strip-none x xs none)

short-none : (x : ℕ) (xs : Text) → begins_with_hyphen (x ∷ xs) ≡ false → short_of (x ∷ xs) ≡ None
short-none x xs none = ap (option_and_then short_of_rest) (strip-none x xs none)

no-dashes : (x : ℕ) (xs : Text) → begins_with_hyphen (x ∷ xs) ≡ false → bytes_eq (x ∷ xs) (45 ∷ 45 ∷ []) ≡ false
no-dashes x xs none = ap (λ (b : Bool). b && bytes_eq xs (45 ∷ [])) none

met-plain : (c : List Rule) (position : ℕ) (word : Text) (h : Held) → begins_with_hyphen word ≡ false → word_met c [] false idle position word h ≡ (h, value)
met-plain c position [] h none = refl
met-plain c position (x ∷ xs) h none =
    ap₂ (λ (b : Bool) (o : Option (Text × Option Text)). if b then (h, trailing position) else long_or_other c idle (x ∷ xs) o h)
    (no-dashes x xs none) (long-none x xs none)
    ∙ ap (λ (o : Option Text). short_or_plain c idle (x ∷ xs) o h) (short-none x xs none)

fault-plain : (s : Shape) (word : Text) (h : Held) → begins_with_hyphen word ≡ false → other_fault s None word h ≡ []
fault-plain s [] h none = refl
fault-plain s (x ∷ xs) h none =
    ap₂ (λ (b : Bool) (o : Option (Text × Option Text)). if b then [] else flag_word_fault s.rules s.args_override_self o (x ∷ xs) h)
    (no-dashes x xs none) (long-none x xs none)
    ∙ ap (λ (o : Option Text). option_map_or (λ flags. bundle_fault s.rules s.args_override_self flags h) o []) (short-none x xs none)

-- the walk between two words, with these values held, at this position
abbrev at : Held → ℕ → Walk
at h position = record { held = h; waiting = idle; position = position; is_trailing = false; stopped = None }

-- such a word goes to the positional
walked-plain : (c : List Rule) (h : Held) (position : ℕ) (word : Text) → begins_with_hyphen word ≡ false
    → walked c [] (at h position) word ≡ to_positional c (arg_by_index c position) word (at h position) h
unfolding walked
walked-plain c h position word none = rw (met-plain c position word h none) refl

turn-plain : (s : Shape) (h : Held) (position : ℕ) (word : Text) → begins_with_hyphen word ≡ false
    → turn_fault s [] (at h position) word ≡ step_fault s position h value
turn-plain s h position word none = rw (met-plain s.rules position word h none, fault-plain s word h none) refl

-- what is held after one, two and three words
abbrev held1 : Text → Held
held1 a = (to_positional rules (arg_by_index rules 1) a (at nothing_held 1) nothing_held).held

abbrev held2 : Text → Text → Held
held2 a b = (to_positional rules (arg_by_index rules 2) b (at (held1 a) 2) (held1 a)).held

abbrev held3 : Text → Text → Text → Held
held3 a b c = (to_positional rules (arg_by_index rules 3) c (at (held2 a b) 3) (held2 a b)).held

walked-1 : (a : Text) → begins_with_hyphen a ≡ false → walked rules [] (at nothing_held 1) a ≡ at (held1 a) 2
walked-1 a none = walked-plain rules nothing_held 1 a none

walked-2 : (a b : Text) → begins_with_hyphen b ≡ false → walked rules [] (at (held1 a) 2) b ≡ at (held2 a b) 3
walked-2 a b none = walked-plain rules (held1 a) 2 b none

walked-3 : (a b c : Text) → begins_with_hyphen c ≡ false → walked rules [] (at (held2 a b) 3) c ≡ at (held3 a b c) 4
walked-3 a b c none = walked-plain rules (held2 a b) 3 c none

-- the walk over one, two and three words
walk-1 : (a : Text) → begins_with_hyphen a ≡ false → walk rules [] nothing_held (a ∷ []) ≡ at (held1 a) 2
walk-1 a none-a = walked-1 a none-a

walk-2 : (a b : Text) → begins_with_hyphen a ≡ false → begins_with_hyphen b ≡ false → walk rules [] nothing_held (a ∷ b ∷ []) ≡ at (held2 a b) 3
walk-2 a b none-a none-b = ap (λ (w : Walk). walked rules [] w b) (walked-1 a none-a) ∙ walked-2 a b none-b

walk-3 : (a b c : Text) → begins_with_hyphen a ≡ false → begins_with_hyphen b ≡ false → begins_with_hyphen c ≡ false
    → walk rules [] nothing_held (a ∷ b ∷ c ∷ []) ≡ at (held3 a b c) 4
walk-3 a b c none-a none-b none-c = ap (λ (w : Walk). walked rules [] w c) (walk-2 a b none-a none-b) ∙ walked-3 a b c none-c

-- one more word is at fault where its place is, and else the words after it
fault-more : (h : Held) (position : ℕ) (word : Text) (rest : List Text) (next : Walk) → begins_with_hyphen word ≡ false
    → walked rules [] (at h position) word ≡ next
    → walk_fault shape [] (at h position) (word ∷ rest) ≡ or_else (step_fault shape position h value) (walk_fault shape [] next rest)
unfolding walk_fault
fault-more h position word rest next none leads =
    ap₂ or_else (turn-plain shape h position word none) (ap (λ (w : Walk). walk_fault shape [] w rest) leads)

fault-end : (w : Walk) → walk_fault shape [] w [] ≡ []
unfolding walk_fault
fault-end w = refl

walk_fault-1 : (a : Text) → begins_with_hyphen a ≡ false → walk_fault shape [] (at nothing_held 1) (a ∷ []) ≡ []
walk_fault-1 a none-a = fault-more nothing_held 1 a [] _ none-a (walked-1 a none-a) ∙ fault-end (at (held1 a) 2)

walk_fault-2 : (a b : Text) → begins_with_hyphen a ≡ false → begins_with_hyphen b ≡ false → walk_fault shape [] (at nothing_held 1) (a ∷ b ∷ []) ≡ []
walk_fault-2 a b none-a none-b =
    fault-more nothing_held 1 a (b ∷ []) _ none-a (walked-1 a none-a)
    ∙ fault-more (held1 a) 2 b [] _ none-b (walked-2 a b none-b) ∙ fault-end (at (held2 a b) 3)

walk_fault-3 : (a b c : Text) → begins_with_hyphen a ≡ false → begins_with_hyphen b ≡ false → begins_with_hyphen c ≡ false
    → walk_fault shape [] (at nothing_held 1) (a ∷ b ∷ c ∷ []) ≡ []
walk_fault-3 a b c none-a none-b none-c =
    fault-more nothing_held 1 a (b ∷ c ∷ []) _ none-a (walked-1 a none-a)
    ∙ fault-more (held1 a) 2 b (c ∷ []) _ none-b (walked-2 a b none-b)
    ∙ fault-more (held2 a b) 3 c [] _ none-c (walked-3 a b c none-c) ∙ fault-end (at (held3 a b c) 4)

-- a fourth word has no place
walk_fault-4 : (a b c d : Text) (rest : List Text) → begins_with_hyphen a ≡ false → begins_with_hyphen b ≡ false → begins_with_hyphen c ≡ false
    → begins_with_hyphen d ≡ false → walk_fault shape [] (at nothing_held 1) (a ∷ b ∷ c ∷ d ∷ rest) ≡ UnknownArgument ∷ []
walk_fault-4 a b c d rest none-a none-b none-c none-d =
    fault-more nothing_held 1 a (b ∷ c ∷ d ∷ rest) _ none-a (walked-1 a none-a)
    ∙ fault-more (held1 a) 2 b (c ∷ d ∷ rest) _ none-b (walked-2 a b none-b)
    ∙ fault-more (held2 a b) 3 c (d ∷ rest) _ none-c (walked-3 a b c none-c)
    ∙ fault-more (held3 a b c) 4 d rest (walked rules [] (at (held3 a b c) 4) d) none-d refl

-- what is at fault in a line, by where its walk ends and by the fault that the walk meets
abbrev fault_at : Walk → Kinds → Kinds
fault_at end met =
    let has_subcommand = is_some (entered (built line) end.stopped) in
    or_else met
    (or_else (entered_fault (built line) end.stopped)
    (or_else (settle_fault rules false end.held)
    (or_else (defaults_fault (settled rules end.held).rows rules) (check_fault shape (finished rules end.held) has_subcommand))))

-- the parse of some words is as wanted: it gives the words at their places
pub record IsPlaced (words : List Text) : Type 0 where
  pub some : 0 < length words
  pub few : length words < 4
  pub fault : fault_of line words ≡ []
  pub name : first_of (codes "command") (matches_of line words) ≡ slice_get words 0
  pub first : first_of (codes "first") (matches_of line words) ≡ slice_get words 1
  pub second : first_of (codes "second") (matches_of line words) ≡ slice_get words 2

-- there are no words or too many, and the parse fails
pub record IsRefused (words : List Text) : Type 0 where
  pub out : IsOutOfPlaces words
  pub kind : ErrorKind
  pub fault : fault_of line words ≡ kind ∷ []

placed-1 : (a : Text) → begins_with_hyphen a ≡ false → IsPlaced (a ∷ [])
unfolding defaults_fault
placed-1 a none-a =
    let ends = walk-1 a none-a in
    record {
      some = omega arith;
      few = omega arith;
      fault = ap₂ fault_at ends (walk_fault-1 a none-a);
      name = ap (λ (w : Walk). first_of (codes "command") (finished rules w.held)) ends;
      first = ap (λ (w : Walk). first_of (codes "first") (finished rules w.held)) ends;
      second = ap (λ (w : Walk). first_of (codes "second") (finished rules w.held)) ends;
    }

placed-2 : (a b : Text) → begins_with_hyphen a ≡ false → begins_with_hyphen b ≡ false → IsPlaced (a ∷ b ∷ [])
unfolding defaults_fault
placed-2 a b none-a none-b =
    let ends = walk-2 a b none-a none-b in
    record {
      some = omega arith;
      few = omega arith;
      fault = ap₂ fault_at ends (walk_fault-2 a b none-a none-b);
      name = ap (λ (w : Walk). first_of (codes "command") (finished rules w.held)) ends;
      first = ap (λ (w : Walk). first_of (codes "first") (finished rules w.held)) ends;
      second = ap (λ (w : Walk). first_of (codes "second") (finished rules w.held)) ends;
    }

placed-3 : (a b c : Text) → begins_with_hyphen a ≡ false → begins_with_hyphen b ≡ false → begins_with_hyphen c ≡ false → IsPlaced (a ∷ b ∷ c ∷ [])
unfolding defaults_fault
placed-3 a b c none-a none-b none-c =
    let ends = walk-3 a b c none-a none-b none-c in
    record {
      some = omega arith;
      few = omega arith;
      fault = ap₂ fault_at ends (walk_fault-3 a b c none-a none-b none-c);
      name = ap (λ (w : Walk). first_of (codes "command") (finished rules w.held)) ends;
      first = ap (λ (w : Walk). first_of (codes "first") (finished rules w.held)) ends;
      second = ap (λ (w : Walk). first_of (codes "second") (finished rules w.held)) ends;
    }

refused-0 : IsRefused []
unfolding clap_on_literals
refused-0 = record { out = inl refl; kind = MissingRequiredArgument; fault = refl }

refused-4 : (a b c d : Text) (rest : List Text) → begins_with_hyphen a ≡ false → begins_with_hyphen b ≡ false → begins_with_hyphen c ≡ false
    → begins_with_hyphen d ≡ false → IsRefused (a ∷ b ∷ c ∷ d ∷ rest)
refused-4 a b c d rest none-a none-b none-c none-d =
    record {
      out = inr (omega arith);
      kind = UnknownArgument;
      fault = ap (fault_at (walk rules [] nothing_held (a ∷ b ∷ c ∷ d ∷ rest))) (walk_fault-4 a b c d rest none-a none-b none-c none-d);
    }

or-false : (x y : Bool) → (x || y) ≡ false → (x ≡ false) × (y ≡ false)
or-false false y e = (refl, e)
or-false true y e = cc e

-- words without hyphens are placed or refused
pub parse-words : (words : List Text) → list_any begins_with_hyphen words ≡ false → IsPlaced words ⊎ IsRefused words
parse-words [] none = inr refused-0
parse-words (a ∷ []) none = inl (placed-1 a (or-false _ _ none).0)
parse-words (a ∷ b ∷ []) none =
    let rest = (or-false _ _ none).1 in
    inl (placed-2 a b (or-false _ _ none).0 (or-false _ _ rest).0)
parse-words (a ∷ b ∷ c ∷ []) none =
    let rest = (or-false _ _ none).1 in
    let last = (or-false _ _ rest).1 in
    inl (placed-3 a b c (or-false _ _ none).0 (or-false _ _ rest).0 (or-false _ _ last).0)
parse-words (a ∷ b ∷ c ∷ d ∷ words) none =
    let rest = (or-false _ _ none).1 in
    let last = (or-false _ _ rest).1 in
    let more = (or-false _ _ last).1 in
    inr (refused-4 a b c d words (or-false _ _ none).0 (or-false _ _ rest).0 (or-false _ _ last).0 (or-false _ _ more).0)

pub list_any-map : {A B : Type 0} → (p : B → Bool) (f : A → B) (xs : List A) → list_any p (map f xs) ≡ list_any (λ x. p (f x)) xs
list_any-map p f [] = refl
list_any-map p f (x ∷ xs) = ap (λ b. p (f x) || b) (list_any-map p f xs)

-- the words of a line, none of which begins with a hyphen
pub no-hyphen : {A : Type 0} → (text : A → Text) (words : List A) → list_any (λ word. begins_with_hyphen (text word)) words ≡ false
    → list_any begins_with_hyphen (map text words) ≡ false
no-hyphen text words none = list_any-map begins_with_hyphen text words ∙ none

-- an `Ok` has the words at their places
pub placed-words : (words : List Text) (m : ArgMatches) → list_any begins_with_hyphen words ≡ false → fault_of line words ≡ [] → HasMatchesOf line words m
    → ArePlaced words (found_of m)
placed-words words m none free has =
    elim (parse-words words none) [
      | inl p ↦ let rows = (has refl).0 in
          record {
            some = p.some;
            few = p.few;
            name = first_value-rows (found_of m) (codes "command") ∙ ap (first_of (codes "command")) rows ∙ p.name;
            first = first_value-rows (found_of m) (codes "first") ∙ ap (first_of (codes "first")) rows ∙ p.first;
            second = first_value-rows (found_of m) (codes "second") ∙ ap (first_of (codes "second")) rows ∙ p.second;
          }
      | inr q ↦ cc (sym free ∙ q.fault)
    ]

-- an error that is no lack of memory says that the words are out of places
pub refused-words : (words : List Text) (e : Error) → list_any begins_with_hyphen words ≡ false → HasKind (fault_of line words) e
    → error_of (kind_of e) ≡ Usage → IsOutOfPlaces words
refused-words words e none kind usage =
    elim (parse-words words none) [
      | inl p ↦ elim (subst (λ (ks : Kinds). HasKind ks e) p.fault kind) [
        | inl memory ↦ cc (sym (ap error_of memory) ∙ usage)
        | inr other ↦ absurd other
      ]
      | inr q ↦ q.out
    ]
