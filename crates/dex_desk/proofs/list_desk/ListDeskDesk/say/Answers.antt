use Rattle.std.proofs.Common.{List, drop, map, max, subst, sym, take}
use Rattle.dex_desk.specs.Calls.{AreBlocksOf, turn_of}
use Rattle.dex_desk.specs.Turns.{Turn}
use Rattle.dex_desk.proofs.CallLaws.{said-more}
use Rattle.dex_desk.proofs.list_desk.ListDeskDesk.say.Goals as goal

pub invariant_of-self : goal.invariant_of-self
invariant_of-self c =
    let inside = c.self.inside in
    let left = drop inside.at inside.input.items in (
      c.self.invariant.0,
      subst (λ (turns : List Turn). AreBlocksOf (max inside.step 1) turns inside.input.items left) (sym c.in-Ok.ensures.kept)
          (said-more (max inside.step 1) (map turn_of inside.calls.items) inside.input.items left (take c.min-count.result c.args.piece.now) c.self.invariant.1),
    )
