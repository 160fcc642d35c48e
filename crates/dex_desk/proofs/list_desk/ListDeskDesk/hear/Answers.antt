use Rattle.std.proofs.Common.{◌∙◌, arith, ap, drop, map, max}
use Rattle.dex_desk.specs.Calls.{turn_of}
use Rattle.dex_desk.proofs.CallLaws.{front-more}
use Rattle.dex_desk.proofs.list_desk.ListDeskDesk.hear.Goals as goal

pub invariant_of-self : goal.invariant_of-self
invariant_of-self c =
    let inside = c.self.inside in
    let more =
    front-more (max inside.step 1) c.min.result inside.at (map turn_of inside.calls.items) (map turn_of c.keep_heard.new.calls.items) inside.input.items
    c.split_at.result.1.now c.front_of-block.result.now c.self.invariant.1 (c.split_at.ensures.back ∙ ap (drop inside.at) c.deref.ensures.value)
    c.front_of-block.ensures.parts c.front_of-block.ensures.few (omega (arith, c.min.ensures, c.max.ensures)) c.front_of-block.ensures.all
    (omega (arith, c.min.ensures, c.max.ensures, c.requires.room)) c.in-Ok.ensures.kept in (
      omega (arith, c.self.invariant.0, c.split_at.ensures.back_len, c.deref.ensures.len, c.front_of-block.ensures.within),
      more,
    )
