-- Markets that were made.
use Rattle.std.proofs.Common.{◌≡◌, ◌∙◌, List, [], ◌∷◌, Result, Ok, Err, IfOk, ap, map, refl, subst}
use Rattle.std.specs.List.{AllZip}
use Rattle.dex_types.specs.declared.terms.NoMemory.{NoMemory}
use Rattle.dex_types.specs.Accounts.{PlainMarketAccounts}
use Rattle.dex_script_pieces.specs.declared.making.Making.{Making}
use Rattle.dex_script_pieces.specs.Making.{MakesMarket, in_jobs}

abbrev Told : Type 0
Told = Result PlainMarketAccounts NoMemory

abbrev oks : List PlainMarketAccounts → List Told
oks markets = map (λ (market : PlainMarketAccounts). Ok market) markets

-- where every job has made its market, these are the markets
pub all-made : (markets : List PlainMarketAccounts) (before after : List Making) (made : List PlainMarketAccounts) → in_jobs before ≡ oks markets
    → AllZip MakesMarket before after → oks made ≡ in_jobs after → made ≡ markets
all-made [] [] [] [] had ran is = refl
all-made (m ∷ markets) (b ∷ before) (a ∷ after) (n ∷ made) had (first, others) is =
    let told : a.market ≡ Ok n = cc in
    let there : b.market ≡ Ok n = subst (λ (r : Told). IfOk r (λ (market : PlainMarketAccounts). b.market ≡ Ok market)) told first in
    let had_others : in_jobs before ≡ oks markets = cc in
    let are_others : oks made ≡ in_jobs after = cc in
    let rest = all-made markets before after made had_others others are_others in cc
all-made _ [] (a ∷ after) _ had ran is = absurd ran
all-made _ (b ∷ before) [] _ had ran is = absurd ran
all-made _ _ _ _ had ran is = absurd (cc)

-- what jobs made, where it is known which markets they had and what they left
pub if-made : {V : Type 0} (result : Result V NoMemory) (items : V → List PlainMarketAccounts) (markets : List PlainMarketAccounts)
    (had before after left : List Making) → before ≡ had → in_jobs had ≡ oks markets → AllZip MakesMarket before after → left ≡ after
    → IfOk result (λ (made : V). oks (items made) ≡ in_jobs left) → IfOk result (λ (made : V). items made ≡ markets)
if-made (Ok made) items markets had before after left same has ran is told =
    all-made markets before after (items made) (ap in_jobs same ∙ has) ran (told ∙ ap in_jobs is)
if-made (Err e) items markets had before after left same has ran is told = tt
