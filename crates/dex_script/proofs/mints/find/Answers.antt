use Rattle.std.proofs.Common.{◌∙◌, ap, Some, sym}
use Rattle.dex_token.specs.MintAccount.{MintWords, mint_words}
use Rattle.dex_script.proofs.FirstLaws.{is-first}
use Rattle.dex_script.proofs.MintLaws.{is_here, mint-found, mint-is, no-mint}
use Rattle.dex_script.proofs.mints.find.Goals as goal

pub words_in-requires : goal.words_in-requires
words_in-requires c =
    let first = is-first (is_here c.args.address) c.args.mints.now c.in-Some.place c.index-mints-place.result (sym c.place_of_mint.ensures.place ∙ c.in-Some.is) in
    rw c.deref.ensures.value (mint-is c.args.mints.now c.in-Some.place c.index-mints-place.result c.requires first.within)

pub returns-in-Some : goal.returns-in-Some
returns-in-Some c =
    ap (λ (words : MintWords). Some words) (c.words_in.ensures ∙ ap mint_words c.deref.ensures.value)
    ∙ sym (mint-found c.args.address c.args.mints.now c.in-Some.place c.index-mints-place.result (sym c.place_of_mint.ensures.place ∙ c.in-Some.is))

pub returns-in-None : goal.returns-in-None
returns-in-None c = sym (no-mint c.args.address c.args.mints.now (sym c.place_of_mint.ensures.place ∙ c.in-None.is))
