use Rattle.std.proofs.Common.{sym, subst, arith}
use Rattle.dex_instruction.proofs.Whole.{IsWhole, is_whole}
use Rattle.dex_instruction.proofs.reading.instruction.Goals as goal

pub u32_at-requires : goal.u32_at-requires
u32_at-requires c = let whole = is_whole c.args.bytes.now c.requires in omega (arith, whole.room)

pub tagged-requires : goal.tagged-requires
tagged-requires c =
    let whole = subst (λ tag. IsWhole tag c.args.bytes.now) (sym c.u32_at.ensures) (is_whole c.args.bytes.now c.requires) in
    record { behind_tag = whole.room; known = whole.known; current = whole.current; whole = whole.size }
