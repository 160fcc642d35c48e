use Rattle.std.proofs.Common.{◌≡◌, ◌∙◌, List, ℕ, [], map, ap, subst, sym, rules, Err}
use Rattle.std.specs.String.{string_bytes}
use Rattle.clap.specs.Faults.{fault_of, is_simple_and_free}
use Rattle.clap.specs.Kinds.{HasKind}
use Rattle.clap.specs.Values.{kind_of}
use Rattle.clap.specs.Simple.{App, HasMatchesOf}
use Rattle.dex_words.specs.Positionals.{error_of, line}
use Rattle.dex_words.proofs.Line.{line-simple, no-hyphen, placed-words, refused-words}
use Rattle.dex_words.proofs.positionals.placed.Goals as goal

pub returns-clause-placed : goal.returns-clause-placed
returns-clause-placed c =
    let words : List (List ℕ) = map (λ word. string_bytes word) c.args.words.now in
    let none = no-hyphen (λ word. string_bytes word) c.args.words.now c.requires in
    let free : fault_of line words ≡ [] =
    sym (ap (λ (a : App). fault_of a words) c.in_ok-line.ensures) ∙ c.in_ok-matches.ensures.kinds (ap is_simple_and_free c.in_ok-line.ensures ∙ line-simple) in
    placed-words words c.in_ok-matches.matches none free
    (subst (λ (a : App). HasMatchesOf a words c.in_ok-matches.matches) c.in_ok-line.ensures c.in_ok-matches.ensures.matches)

pub returns-in_err-matches-clause-usage : goal.returns-in_err-matches-clause-usage
returns-in_err-matches-clause-usage c =
    let words : List (List ℕ) = map (λ word. string_bytes word) c.args.words.now in
    let none = no-hyphen (λ word. string_bytes word) c.args.words.now c.requires in
    let error = c.in_err-matches.field-0.0 in
    let kind : HasKind (fault_of line words) error =
    subst (λ (a : App). HasKind (fault_of a words) error) c.in_ok-line.ensures
    (c.in_err-matches.ensures.kinds (ap is_simple_and_free c.in_ok-line.ensures ∙ line-simple)) in
    let is : c.from_residual-in_err-matches.result ≡ Err (error_of (kind_of error)) = search rules in
    λ usage. refused-words words error none kind (cc (sym is ∙ usage))
