use Rattle.std.proofs.Common.{ap, ◌∙◌, sym}
use Rattle.dex_types.specs.BookSide.{best_of}
use Rattle.dex_slab.specs.Slab.{resting}
use Rattle.dex_slab.proofs.Rooted.{last-resting}
use Rattle.dex_slab.proofs.slab_ref.SlabRefSideRead.worst.Goals as goal

pub returns : goal.returns
returns c =
    let bytes = c.args.self.now.bytes.now in
    c.best.ensures ∙ ap (λ side. best_of (resting side bytes)) c.opposite.ensures ∙ sym (last-resting bytes c.args.self.now.side)
