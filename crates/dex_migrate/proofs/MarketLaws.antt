-- Markets that are migrated one after another.
use Rattle.std.proofs.Common.{◌≡◌, ℕ, suc, ◌+◌, ◌<◌, ◌≤◌, List, ◌∷◌, [], ◌++◌, length, take, drop, map, get_or, set, sym, ap, ◌∙◌, subst, arith}
use Rattle.std.specs.List.{All, AllZip}
use Rattle.std.proofs.Math.Seq.{drop-cons, take-suc, take-suc-set}
use Rattle.std.proofs.lemmas.List.{drop-set-lt, get_or-drop, length-set, map-append, take_all}
use Rattle.std.proofs.lemmas.List.Elements.{All-cons, All-head, All-nil, All-tail, AllZip-push}
use Rattle.dex_types.specs.declared.account_bytes.MarketAccounts.{MarketAccounts}
use Rattle.dex_types.specs.Accounts.{PlainMarketAccounts, market_accounts_of}

-- what holds of each that is left holds of the next
pub next-of : (P : MarketAccounts → Type 0) (markets : List MarketAccounts) (place : ℕ) (default : MarketAccounts) → place < length markets
    → All P (drop place markets) → P (get_or markets place default)
next-of P markets place default lt all =
    All-head P (get_or markets place default) (drop (suc place) markets) (subst (All P) (drop-cons markets place default lt) all)

pub rest-of : (P : MarketAccounts → Type 0) (markets : List MarketAccounts) (place : ℕ) (default : MarketAccounts) → place < length markets
    → All P (drop place markets) → All P (drop (suc place) markets)
rest-of P markets place default lt all =
    All-tail P (get_or markets place default) (drop (suc place) markets) (subst (All P) (drop-cons markets place default lt) all)

-- one more market: these are migrated up to a place, and what is left is as it was
pub record AreDone (R : PlainMarketAccounts → PlainMarketAccounts → Type 0) (place : ℕ) (old new : List MarketAccounts) : Type 0 where
  pub many : length new ≡ length old
  pub left : drop place new ≡ drop place old
  pub done : AllZip R (map market_accounts_of (take place old)) (map market_accounts_of (take place new))

abbrev drop-first : List MarketAccounts → List MarketAccounts
drop-first l = drop 1 l

pub done-more : (R : PlainMarketAccounts → PlainMarketAccounts → Type 0) (place : ℕ) (old now next : List MarketAccounts) (d : MarketAccounts) → AreDone R place old now
    → place < length old → R (market_accounts_of (get_or now place d)) (market_accounts_of (get_or next place d)) → set now place (get_or next place d) ≡ next
    → AreDone R (place + 1) old next
done-more R place old now next d held lt one put =
    let f : MarketAccounts → PlainMarketAccounts = market_accounts_of in
    let within : place < length now = omega (arith, held.many) in
    let same : place + 0 ≡ place = omega arith in
    let after : place + 1 ≡ suc place = omega arith in
    let here : get_or now place d ≡ get_or old place d =
    ap (λ (n : ℕ). get_or now n d) (sym same) ∙ sym (get_or-drop place now 0 d) ∙ ap (λ (l : List MarketAccounts). get_or l 0 d) held.left ∙ get_or-drop place old 0 d ∙ ap (λ (n : ℕ). get_or old n d) same in
    let rest : drop (place + 1) now ≡ drop (place + 1) old =
    ap (λ (n : ℕ). drop n now) after ∙ ap drop-first (sym (drop-cons now place d within)) ∙ ap drop-first held.left ∙ ap drop-first (drop-cons old place d lt) ∙ ap (λ (n : ℕ). drop n old) (sym after) in
    let long : length next ≡ length now = ap (λ (l : List MarketAccounts). length l) (sym put) ∙ length-set now place (get_or next place d) in
    let behind : drop (place + 1) next ≡ drop (place + 1) now =
    ap (drop (place + 1)) (sym put) ∙ drop-set-lt (place + 1) now place (get_or next place d) (omega arith) in
    let front_old : map f (take (place + 1) old) ≡ map f (take place old) ++ f (get_or old place d) ∷ [] =
    ap (λ (n : ℕ). map f (take n old)) after ∙ ap (map f) (take-suc old place d lt) ∙ map-append f (take place old) (get_or old place d ∷ []) in
    let front_new : map f (take (place + 1) next) ≡ map f (take place now) ++ f (get_or next place d) ∷ [] =
    ap (λ (l : List MarketAccounts). map f (take (place + 1) l)) (sym put) ∙ ap (λ (n : ℕ). map f (take n (set now place (get_or next place d)))) after
    ∙ ap (map f) (take-suc-set now place (get_or next place d) within) ∙ map-append f (take place now) (get_or next place d ∷ []) in
    let pushed : AllZip R (map f (take place old) ++ f (get_or old place d) ∷ []) (map f (take place now) ++ f (get_or next place d) ∷ []) =
    AllZip-push R (map f (take place old)) (map f (take place now)) (f (get_or old place d)) (f (get_or next place d)) held.done (subst (λ (m : MarketAccounts). R (f m) (f (get_or next place d))) here one) in
    record {
      many = long ∙ held.many;
      left = behind ∙ rest;
      done = subst (λ (l : List PlainMarketAccounts). AllZip R l (map f (take (place + 1) next))) (sym front_old)
          (subst (λ (l : List PlainMarketAccounts). AllZip R (map f (take place old) ++ f (get_or old place d) ∷ []) l) (sym front_new) pushed);
    }

-- what holds whatever market is named holds where there is one
pub with-some : (P : Type 0) (markets : List MarketAccounts) (place : ℕ) → place < length markets → ((default : MarketAccounts) → P) → P
with-some P [] place lt known = absurd (omega arith)
with-some P (first ∷ others) place lt known = known first

pub all-done : (R : PlainMarketAccounts → PlainMarketAccounts → Type 0) (place : ℕ) (old new : List MarketAccounts) → AreDone R place old new → length old ≤ place
    → AllZip R (map market_accounts_of old) (map market_accounts_of new)
all-done R place old new held over =
    let front : List MarketAccounts → List MarketAccounts → Type 0 = λ xs ys. AllZip R (map market_accounts_of xs) (map market_accounts_of ys) in
    subst (λ (l : List MarketAccounts). front old l) (take_all place new (omega (arith, held.many)))
    (subst (λ (l : List MarketAccounts). front l (take place new)) (take_all place old over) held.done)

-- what holds of the plain accounts of each market
pub all-plain : (P : PlainMarketAccounts → Type 0) (markets : List MarketAccounts) → All P (map market_accounts_of markets) → All (λ m. P (market_accounts_of m)) markets
all-plain P [] all = All-nil (λ (m : MarketAccounts). P (market_accounts_of m))
all-plain P (first ∷ others) all =
    All-cons (λ (m : MarketAccounts). P (market_accounts_of m)) first others
    (All-head P (market_accounts_of first) (map market_accounts_of others) all)
    (all-plain P others (All-tail P (market_accounts_of first) (map market_accounts_of others) all))
