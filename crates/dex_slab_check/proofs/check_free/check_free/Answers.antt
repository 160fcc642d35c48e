use Rattle.std.proofs.Common.{◌≡◌, suc, ◌-◌, sym, subst, arith}
use Rattle.std.proofs.lemmas.Result.{err_from_is_err_and}
use Rattle.dex_slab_check.specs.Checked.{IsSoundFree}
use Rattle.dex_slab_check.specs.Faults.{BreaksFree}
use Rattle.dex_slab.specs.Slab.{free_from}
use Rattle.dex_slab_check.proofs.FreeLaws.{breaks_below, breaks_more, breaks_tag, sound_more, sound_none}
use Rattle.dex_slab_check.proofs.check_free.check_free.Goals as goal

pub returns-in_err-below_rule : goal.returns-in_err-below_rule
returns-in_err-below_rule c =
    let p = err_from_is_err_and c.from_residual.result c.from_residual.ensures.1 in
    let left = c.loop-left.left in
    let fault = c.in_err-below_rule.field-0.0 in
    let is : left ≡ suc (left - 1) = omega arith in
    rw (p.1, p.2) (c.loop-left.invariant.breaks fault (breaks_below c.args.bytes.now left (left - 1) c.loop-left.node fault is c.in_err-below_rule.ensures))

pub returns-in_err-tag_rule : goal.returns-in_err-tag_rule
returns-in_err-tag_rule c =
    let p = err_from_is_err_and c.from_residual-in_err-tag_rule.result c.from_residual-in_err-tag_rule.ensures.1 in
    let left = c.loop-left.left in
    let fault = c.in_err-tag_rule.field-0.0 in
    let is : left ≡ suc (left - 1) = omega arith in
    rw (p.1, p.2) (c.loop-left.invariant.breaks fault (breaks_tag c.args.bytes.now left (left - 1) c.loop-left.node fault is c.in_err-tag_rule.ensures))

pub loop-left-preserved : goal.loop-left-preserved
loop-left-preserved c =
    let bytes = c.args.bytes.now in
    let left = c.loop-left.left in
    let is : left ≡ suc (left - 1) = omega arith in
    record {
      sound = λ sound. c.loop-left.invariant.sound
          (sound_more bytes left (left - 1) c.loop-left.node is c.in_ok-below_rule.ensures c.in_ok-tag_rule.ensures
          (subst (λ n. IsSoundFree bytes (free_from bytes (left - 1) n)) c.next_of-node.ensures sound));
      breaks = λ fault breaks. c.loop-left.invariant.breaks fault
          (breaks_more bytes left (left - 1) c.loop-left.node fault is
          (subst (λ n. BreaksFree bytes (free_from bytes (left - 1) n) fault) c.next_of-node.ensures breaks));
    }

pub returns : goal.returns
returns c =
    let none : c.loop-left.left ≡ 0 = omega arith in
    c.loop-left.invariant.sound (subst (λ n. IsSoundFree c.args.bytes.now (free_from c.args.bytes.now n c.loop-left.node)) (sym none) (sound_none c.args.bytes.now c.loop-left.node))
