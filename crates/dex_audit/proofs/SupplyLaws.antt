-- lists of accounts as they are read, and findings joined
use Rattle.std.proofs.Common.{◌≡◌, ℕ, ◌+◌, ◌<◌, List, [], ◌∷◌, ◌++◌, length, get_or, map, take, sym, ap, ◌∙◌, subst, arith}
use Rattle.std.proofs.lemmas.List.{append_assoc, get_or-map, length-map, map-append, take_more}
use Rattle.std.specs.List.{All}
use Rattle.dex_types.specs.Accounts.{PlainMarketAccounts}
use Rattle.dex_audit_rules.proofs.ListLaws.{both}
use Rattle.dex_audit_rules.specs.declared.gathered.Gathered.{Gathered}
use Rattle.dex_audit_rules.specs.Books.{PlainGathered, gathered_in, plain_gathered}
use Rattle.dex_audit.specs.Audited.{AreGathered}

-- an item, as it stands in the list of what the items hold
pub here-map : {X Y : Type 0} (f : X → Y) (xs : List X) (i : ℕ) (x : X) → i < length xs → x ≡ get_or xs i x → get_or (map f xs) i (f x) ≡ f x
here-map f xs i x lt is = get_or-map f xs i x (f x) lt ∙ ap f (sym is)

pub all-map : {X Y : Type 0} (f : X → Y) (P : Y → Type 0) (xs : List X) (i : ℕ) (x : X) → All P (map f xs) → i < length xs → x ≡ get_or xs i x → P (f x)
all-map f P xs i x all lt is = subst P (here-map f xs i x lt is) (all i (f x) (omega (arith, length-map xs f)))

-- ---- what was gathered

pub gathered-more : (all after : List Gathered) (markets : List PlainMarketAccounts) (i : ℕ) (market : PlainMarketAccounts) (one : Gathered) → i < length markets
    → after ≡ all ++ one ∷ [] → AreGathered all (take i markets) → plain_gathered one ≡ gathered_in market → get_or markets i market ≡ market
    → AreGathered after (take (i + 1) markets)
gathered-more all after markets i market one lt is so gathered here =
    ap (map plain_gathered) is ∙ map-append plain_gathered all (one ∷ [])
    ∙ ap (λ (l : List PlainGathered). l ++ plain_gathered one ∷ []) so
    ∙ ap (λ (g : PlainGathered). map gathered_in (take i markets) ++ g ∷ []) gathered
    ∙ sym
    (ap (map gathered_in) (take_more markets i market lt ∙ ap (λ (m : PlainMarketAccounts). take i markets ++ m ∷ []) here)
    ∙ map-append gathered_in (take i markets) (market ∷ []))

pub gathered-at : (gathered : List Gathered) (markets : List PlainMarketAccounts) (i : ℕ) (one : Gathered) (market : PlainMarketAccounts) → AreGathered gathered markets
    → i < length markets → one ≡ get_or gathered i one → get_or markets i market ≡ market → plain_gathered one ≡ gathered_in market
gathered-at gathered markets i one market are lt is here =
    let many : i < length gathered = omega (arith, ap length are, length-map gathered plain_gathered, length-map markets gathered_in) in
    sym (here-map plain_gathered gathered i one many is)
    ∙ ap (λ (l : List PlainGathered). get_or l i (plain_gathered one)) are
    ∙ get_or-map gathered_in markets i market (plain_gathered one) lt
    ∙ ap gathered_in here

-- ---- findings told behind one another

-- five told after one another
pub five : {X : Type 0} (a b c d e f0 f1 f2 f3 f4 f5 : List X) → f1 ≡ f0 ++ a → f2 ≡ f1 ++ b → f3 ≡ f2 ++ c → f4 ≡ f3 ++ d → f5 ≡ f4 ++ e
    → f5 ≡ f0 ++ (a ++ (b ++ (c ++ (d ++ e))))
five a b c d e f0 f1 f2 f3 f4 f5 is1 is2 is3 is4 is5 =
    both f0 a (b ++ (c ++ (d ++ e))) f1 f5 is1
    (both f1 b (c ++ (d ++ e)) f2 f5 is2 (both f2 c (d ++ e) f3 f5 is3 (both f3 d e f4 f5 is4 is5)))

pub four : {X : Type 0} (a b c d f1 f2 f3 : List X) → f1 ≡ a ++ b → f2 ≡ f1 ++ c → f3 ≡ f2 ++ d → f3 ≡ a ++ (b ++ (c ++ d))
four a b c d f1 f2 f3 is1 is2 is3 =
    is3 ∙ ap (λ (l : List _). l ++ d) (is2 ∙ ap (λ (l : List _). l ++ c) is1)
    ∙ append_assoc (a ++ b) c d
    ∙ append_assoc a b (c ++ d)

pub three : {X : Type 0} (a b c f1 f2 : List X) → f1 ≡ a ++ b → f2 ≡ f1 ++ c → f2 ≡ a ++ (b ++ c)
three a b c f1 f2 is1 is2 = is2 ∙ ap (λ (l : List _). l ++ c) is1 ∙ append_assoc a b c
