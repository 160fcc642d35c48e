use Rattle.std.proofs.Common.{◌≡◌, ◌∙◌, List, ap, length, map, subst, sym}
use Rattle.std.proofs.lemmas.List.{length-map}
use Rattle.dex_types.specs.declared.account_bytes.Named.{Named}
use Rattle.dex_types.specs.Accounts.{named_of}
use Rattle.dex_script.specs.Known.{with_supply}
use Rattle.dex_script.specs.Mints.{AreMints}
use Rattle.dex_script.proofs.FirstLaws.{written-back}
use Rattle.dex_script.proofs.MintLaws.{length-with_supply, mints-raised}
use Rattle.dex_script.proofs.mints.Mints.raise.Goals as goal

pub invariant_of-self : goal.invariant_of-self
invariant_of-self c =
    let old = c.self.inside.accounts.items in
    let new = c.raise.new.mints in
    let told : map named_of new ≡ with_supply c.args.address c.args.amount (map named_of old) =
    c.raise.ensures ∙ ap (λ (mints : List Named). with_supply c.args.address c.args.amount (map named_of mints)) c.deref_mut.ensures.value in
    let size : length new ≡ length old =
    sym (length-map new named_of) ∙ ap length told ∙ length-with_supply c.args.address c.args.amount (map named_of old) ∙ length-map old named_of in
    let same = written-back c.self.inside.accounts.len old new c.self.inside.accounts.ok.0 size in
    subst AreMints (sym (ap (map named_of) same ∙ told)) (mints-raised c.args.address c.args.amount (map named_of old) c.self.invariant)
