-- A command has one spelling.
use Rattle.std.proofs.Common.{◌≡◌, ◌<◌, ◌≤◌, ◌^◌, ◌∙◌, ◌∷◌, ◌↔◌, [], ◌&&◌, ℕ, Bool, true, false, List, codes, bytes_eq, nat_le, nat_lt, if◌then◌else◌, Option, Some, None, option_and_then, option_map, refl, sym, ap, ap₂, subst, arith}
use Rattle.std.specs.Fmt.{decimal}
use Rattle.std.specs.Str.Parse.{digits_value}
use Rattle.std.proofs.lemmas.Slice.Eq.{bytes_eq-Decides}
use Rattle.std.proofs.lemmas.Bool.Decides.{nat_tests}
use Rattle.dex_rows.specs.Numbers.{is_numeral, number_of}
use Rattle.dex_rows.proofs.NumberLaws.{number_of-decimal, number_of-only}
use Rattle.dex_words.specs.Commands.{command_of, count_of, counted_command, plain_command, single_command, with_numbers, within}
use Rattle.dex_words.specs.Spelling.{IsWithin, spelling}
use Rattle.dex_words.specs.declared.command.Command.{Command}
use Rattle.dex_words.specs.declared.command.Command.TheVariants.{Replay, Run, Dump, Audit, Worth, Make, Bulk, Migrate, Batch}

-- a word is a name where the test says so
named : (word name : List ℕ) → bytes_eq word name ≡ true → word ≡ name
named word name same = (bytes_eq-Decides word name).0 same

-- what a count is
record IsCount (most : ℕ) (word : List ℕ) (n : ℕ) : Type 0 where
  written : word ≡ decimal n
  least : 1 ≤ n
  few : n ≤ most

within-only : (most m n : ℕ) → within most m ≡ Some n → (m ≡ n) × (1 ≤ n) × (n ≤ most)
within-only most m n h = go (nat_le 1 m && nat_le m most) refl h
  where
    go : (b : Bool) → (nat_le 1 m && nat_le m most) ≡ b → (if b then Some m else None) ≡ Some n → (m ≡ n) × (1 ≤ n) × (n ≤ most)
    go true test e = let same : m ≡ n = cc e in (same, grind (arith, nat_tests), grind (arith, nat_tests))
    go false test e = cc e

count-only : (most : ℕ) (word : List ℕ) (n : ℕ) → most < 2 ^ 32 → count_of most word ≡ Some n → IsCount most word n
count-only most word n small h = go (number_of (2 ^ 32) word) refl h
  where
    go : (o : Option ℕ) → number_of (2 ^ 32) word ≡ o → option_and_then (within most) o ≡ Some n → IsCount most word n
    go None is e = cc e
    go (Some m) is e =
        let found = within-only most m n e in
        record {
          written = number_of-only (2 ^ 32) word n (omega arith) (is ∙ ap Some found.0);
          least = found.1;
          few = found.2;
        }

count-decimal : (most n : ℕ) → most < 2 ^ 32 → 1 ≤ n → n ≤ most → count_of most (decimal n) ≡ Some n
count-decimal most n small least few =
    ap (option_and_then (within most)) (number_of-decimal (2 ^ 32) n (omega arith) (omega arith)) ∙ go (nat_le 1 n && nat_le n most) (grind (arith, nat_tests))
  where
    go : (b : Bool) → b ≡ true → (if b then Some n else None) ≡ Some n
    go true e = refl
    go false e = cc e

-- what a command of two numbers is made of
record HasNumbers (command : ℕ → ℕ → Command) (x y : Option ℕ) (c : Command) : Type 0 where
  first : ℕ
  second : ℕ
  first_is : x ≡ Some first
  second_is : y ≡ Some second
  made : c ≡ command first second

with-only : (command : ℕ → ℕ → Command) (x y : Option ℕ) (c : Command) → with_numbers command x y ≡ Some c → HasNumbers command x y c
with-only command None y c e = cc e
with-only command (Some n) None c e = cc e
with-only command (Some n) (Some m) c e = record { first = n; second = m; first_is = refl; second_is = refl; made = cc (sym e) }

-- the words are how the command is written, and its numbers are within their limits
record IsSpelled (words : List (List ℕ)) (c : Command) : Type 0 where
  spelled : words ≡ spelling c
  fits : IsWithin c

spelled-as : (words : List (List ℕ)) (c d : Command) → c ≡ d → words ≡ spelling d → IsWithin d → IsSpelled words c
spelled-as words c d is spelled fits = subst (λ (x : Command). IsSpelled words x) (sym is) (record { spelled = spelled; fits = fits })

plain-only : (name : List ℕ) (c : Command) → plain_command name ≡ Some c → IsSpelled (name ∷ []) c
plain-only name c e =
    go (bytes_eq name (codes "replay")) (bytes_eq name (codes "run")) (bytes_eq name (codes "dump")) (bytes_eq name (codes "audit")) (bytes_eq name (codes "worth"))
    refl refl refl refl refl e
  where
    go : (p o q r s : Bool) → bytes_eq name (codes "replay") ≡ p → bytes_eq name (codes "run") ≡ o → bytes_eq name (codes "dump") ≡ q → bytes_eq name (codes "audit") ≡ r
        → bytes_eq name (codes "worth") ≡ s
        → (if p then Some Replay else (if o then Some Run else (if q then Some Dump else (if r then Some Audit else (if s then Some Worth else None))))) ≡ Some c
        → IsSpelled (name ∷ []) c
    go true o q r s is-p is-o is-q is-r is-s e = spelled-as (name ∷ []) c Replay (cc (sym e)) (ap (λ (w : List ℕ). w ∷ []) (named name (codes "replay") is-p)) tt
    go false true q r s is-p is-o is-q is-r is-s e = spelled-as (name ∷ []) c Run (cc (sym e)) (ap (λ (w : List ℕ). w ∷ []) (named name (codes "run") is-o)) tt
    go false false true r s is-p is-o is-q is-r is-s e = spelled-as (name ∷ []) c Dump (cc (sym e)) (ap (λ (w : List ℕ). w ∷ []) (named name (codes "dump") is-q)) tt
    go false false false true s is-p is-o is-q is-r is-s e = spelled-as (name ∷ []) c Audit (cc (sym e)) (ap (λ (w : List ℕ). w ∷ []) (named name (codes "audit") is-r)) tt
    go false false false false true is-p is-o is-q is-r is-s e = spelled-as (name ∷ []) c Worth (cc (sym e)) (ap (λ (w : List ℕ). w ∷ []) (named name (codes "worth") is-s)) tt
    go false false false false false is-p is-o is-q is-r is-s e = cc e

three : (a b c a' b' c' : List ℕ) → a ≡ a' → b ≡ b' → c ≡ c' → (a ∷ b ∷ c ∷ []) ≡ (a' ∷ b' ∷ c' ∷ [])
three a b c a' b' c' x y z = rw (x, y, z) refl

-- a made script's number is of 64 bits
number-fits : (word : List ℕ) (n : ℕ) → number_of (2 ^ 64) word ≡ Some n → n < 2 ^ 64
unfolding number_of
number-fits word n h = go (is_numeral word && nat_lt (digits_value 10 word) (2 ^ 64)) refl h
  where
    go : (b : Bool) → (is_numeral word && nat_lt (digits_value 10 word) (2 ^ 64)) ≡ b → (if b then Some (digits_value 10 word) else None) ≡ Some n → n < 2 ^ 64
    go true test e = let same : digits_value 10 word ≡ n = cc e in grind (same, arith, nat_tests)
    go false test e = cc e

counted-only : (name first second : List ℕ) (c : Command) → counted_command name first second ≡ Some c → IsSpelled (name ∷ first ∷ second ∷ []) c
counted-only name first second c e =
    go (bytes_eq name (codes "make")) (bytes_eq name (codes "bulk")) (bytes_eq name (codes "migrate")) refl refl refl e
  where
    go : (p q r : Bool) → bytes_eq name (codes "make") ≡ p → bytes_eq name (codes "bulk") ≡ q → bytes_eq name (codes "migrate") ≡ r
        → (if p then with_numbers Make (number_of (2 ^ 64) first) (count_of 20000 second)
        else (if q then with_numbers Bulk (number_of (2 ^ 64) first) (count_of 20000 second)
        else (if r then with_numbers Migrate (count_of 65536 first) (count_of 65535 second) else None))) ≡ Some c
        → IsSpelled (name ∷ first ∷ second ∷ []) c
    go true q r is-p is-q is-r e =
        let has = with-only Make _ _ c e in
        let fits = number-fits first has.first has.first_is in
        let rows = count-only 20000 second has.second (omega arith) has.second_is in
        spelled-as _ c (Make has.first has.second) has.made
        (three _ _ _ _ _ _ (named name (codes "make") is-p) (number_of-only (2 ^ 64) first has.first fits has.first_is) rows.written)
        (fits, rows.least, rows.few)
    go false true r is-p is-q is-r e =
        let has = with-only Bulk _ _ c e in
        let fits = number-fits first has.first has.first_is in
        let rows = count-only 20000 second has.second (omega arith) has.second_is in
        spelled-as _ c (Bulk has.first has.second) has.made
        (three _ _ _ _ _ _ (named name (codes "bulk") is-q) (number_of-only (2 ^ 64) first has.first fits has.first_is) rows.written)
        (fits, rows.least, rows.few)
    go false false true is-p is-q is-r e =
        let has = with-only Migrate _ _ c e in
        let nodes = count-only 65536 first has.first (omega arith) has.first_is in
        let events = count-only 65535 second has.second (omega arith) has.second_is in
        spelled-as _ c (Migrate has.first has.second) has.made
        (three _ _ _ _ _ _ (named name (codes "migrate") is-r) nodes.written events.written)
        (nodes.least, nodes.few, events.least, events.few)
    go false false false is-p is-q is-r e = cc e

two : (a b a' b' : List ℕ) → a ≡ a' → b ≡ b' → (a ∷ b ∷ []) ≡ (a' ∷ b' ∷ [])
two a b a' b' x y = rw (x, y) refl

single-only : (name first : List ℕ) (c : Command) → single_command name first ≡ Some c → IsSpelled (name ∷ first ∷ []) c
single-only name first c e = go (bytes_eq name (codes "batch")) (count_of 16 first) refl refl e
  where
    go : (p : Bool) (o : Option ℕ) → bytes_eq name (codes "batch") ≡ p → count_of 16 first ≡ o → (if p then option_map Batch o else None) ≡ Some c
        → IsSpelled (name ∷ first ∷ []) c
    go true None is-p is-o e = cc e
    go true (Some n) is-p is-o e =
        let workers = count-only 16 first n (omega arith) is-o in
        spelled-as _ c (Batch n) (cc (sym e)) (two _ _ _ _ (named name (codes "batch") is-p) workers.written) (workers.least, workers.few)
    go false o is-p is-o e = cc e

read-spelled : (words : List (List ℕ)) (c : Command) → command_of words ≡ Some c → IsSpelled words c
unfolding command_of
read-spelled [] c e = cc e
read-spelled (a ∷ []) c e = plain-only a c e
read-spelled (a ∷ b ∷ []) c e = single-only a b c e
read-spelled (a ∷ b ∷ d ∷ []) c e = counted-only a b d c e
read-spelled (a ∷ b ∷ d ∷ x ∷ rest) c e = cc e

-- a command as it is written is read
spelled-read : (c : Command) → IsWithin c → command_of (spelling c) ≡ Some c
unfolding command_of
spelled-read Replay fits = refl
spelled-read Run fits = refl
spelled-read Dump fits = refl
spelled-read Audit fits = refl
spelled-read Worth fits = refl
spelled-read (Make number rows) (fits, least, few) =
    ap₂ (with_numbers Make) (number_of-decimal (2 ^ 64) number fits (omega arith)) (count-decimal 20000 rows (omega arith) least few)
spelled-read (Bulk number rows) (fits, least, few) =
    ap₂ (with_numbers Bulk) (number_of-decimal (2 ^ 64) number fits (omega arith)) (count-decimal 20000 rows (omega arith) least few)
spelled-read (Migrate nodes events) (least, few, some, short) =
    ap₂ (with_numbers Migrate) (count-decimal 65536 nodes (omega arith) least few) (count-decimal 65535 events (omega arith) some short)
spelled-read (Batch workers) (least, few) = ap (option_map Batch) (count-decimal 16 workers (omega arith) least few)

pub one-spelling : (words : List (List ℕ)) (c : Command) → (command_of words ≡ Some c) ↔ ((words ≡ spelling c) × IsWithin c)
one-spelling words c = (
  (λ read. let is = read-spelled words c read in (is.spelled, is.fits)),
  (λ is. ap command_of is.0 ∙ spelled-read c is.1),
)
