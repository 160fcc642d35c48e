use Rattle.std.proofs.Common.{◌+◌, Some, ap, sym, ◌∙◌, arith}
use Rattle.dex_token.proofs.TokenRules.{first_set-end, first_set-found, first_set-more}
use Rattle.dex_token.proofs.rules.first_set.Goals as goal

pub returns-then-found-ne0 : goal.returns-then-found-ne0
returns-then-found-ne0 c =
    ap Some c.token_fault.ensures
    ∙ sym (first_set-found c.args.start c.loop-i.i c.args.bytes.now (omega arith) c.if-found-ne0.true)
    ∙ c.loop-i.invariant

pub loop-i-preserved : goal.loop-i-preserved
loop-i-preserved c =
    sym (first_set-more c.args.start c.loop-i.i c.args.bytes.now (omega arith) c.if-found-ne0.false) ∙ c.loop-i.invariant

pub returns : goal.returns
returns c = sym (first_set-end (c.args.start + c.loop-i.i) c.loop-i.i c.args.bytes.now (omega arith)) ∙ c.loop-i.invariant
