use Rattle.std.proofs.Common.{◌≡◌, ◌∙◌, ◌+◌, ◌++◌, List, ℕ, ap, subst, sym, take}
use Rattle.dex_desk.specs.Talks.{is_opening}
use Rattle.dex_desk.specs.Serving.{OpensOrRefuses}
use Rattle.dex_desk.proofs.SessionLaws.{done-kept, done-opening}
use Rattle.dex_desk.proofs.opening.take_set_up_line.Goals as goal

pub returns-in_ok-found-clause-done : goal.returns-in_ok-found-clause-done
returns-in_ok-found-clause-done c =
    let text = c.args.inbox.now in
    let size = c.args.size in
    let kept = c.args.kept.now.items in
    let found = c.in_ok-found.found in
    let said = c.open_or_refuse.new.text.items in
    let opening = sym (c.is_opening.ensures ∙ ap (λ (l : List ℕ). is_opening (take size l)) c.bytes.ensures) ∙ c.if-is_opening.true in
    let told : OpensOrRefuses found kept c.args.text.now.items said =
    subst (λ (l : List ℕ). OpensOrRefuses found l c.args.text.now.items said) c.deref.ensures.value c.in_ok-found.ensures in
    done-opening found kept text c.args.text.now.items said size c.clear.new.self.items c.pass.new.self c.requires.cut opening told c.clear.ensures.items c.pass.ensures

pub returns-in_ok-append-clause-done : goal.returns-in_ok-append-clause-done
returns-in_ok-append-clause-done c =
    let text = c.args.inbox.now in
    let size = c.args.size in
    let other = sym (c.is_opening.ensures ∙ ap (λ (l : List ℕ). is_opening (take size l)) c.bytes.ensures) ∙ c.if-is_opening.false in
    let more : c.append.new.text.items ≡ c.args.kept.now.items ++ take (size + 1) text =
    c.in_ok-append.ensures ∙ ap (λ (l : List ℕ). c.args.kept.now.items ++ take (size + 1) l) c.bytes-else-is_opening.ensures in
    done-kept c.args.kept.now.items text c.args.text.now.items size c.append.new.text.items c.pass-else-is_opening.new.self c.requires.within c.requires.cut other more
    c.pass-else-is_opening.ensures
