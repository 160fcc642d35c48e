use Rattle.std.proofs.Common.{◌∙◌, ◌<◌, ◌+◌, ◌^◌, Option, IfSome, get_or, refl, subst, sym}
use Rattle.dex_token.specs.MintAccount.{MintWords}
use Rattle.dex_script.proofs.FirstLaws.{is-first}
use Rattle.dex_script.proofs.MintLaws.{is_here, mint-found, mint-is, none-raised, supply-raised}
use Rattle.dex_script.proofs.mints.raise.Goals as goal

pub raise_supply-requires-clause-mint : goal.raise_supply-requires-clause-mint
raise_supply-requires-clause-mint c =
    let first = is-first (is_here c.args.address) c.args.mints.now c.in-Some.place c.index-mints-place.result (sym c.place_of_mint.ensures.place ∙ c.in-Some.is) in
    mint-is c.args.mints.now c.in-Some.place c.index-mints-place.result c.requires.mints first.within

pub raise_supply-requires-clause-fits : goal.raise_supply-requires-clause-fits
raise_supply-requires-clause-fits c =
    let here = mint-found c.args.address c.args.mints.now c.in-Some.place c.index-mints-place.result (sym c.place_of_mint.ensures.place ∙ c.in-Some.is) in
    subst (λ (found : Option MintWords). IfSome found (λ words. words.supply + c.args.amount < 2 ^ 64)) here c.requires.fits

pub returns-in-Some : goal.returns-in-Some
returns-in-Some c =
    supply-raised c.args.address c.args.amount c.args.mints.now c.in-Some.place c.index-mints-place.result
    (record (get_or c.args.mints.now c.in-Some.place c.index-mints-place.result) { bytes = c.raise_supply.new.bytes })
    (sym c.place_of_mint.ensures.place ∙ c.in-Some.is) refl c.raise_supply.ensures

pub returns-in_default : goal.returns-in_default
returns-in_default c = none-raised c.args.address c.args.amount c.args.mints.now (sym c.place_of_mint.ensures.place ∙ c.in_default.is)
