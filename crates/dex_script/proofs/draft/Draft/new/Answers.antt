use Rattle.std.proofs.Common.{refl}
use Rattle.dex_script.proofs.draft.Draft.new.Goals as goal

pub returns : goal.returns
returns c = rw (c.new.ensures, c.new-2.ensures.items, c.new-3.ensures.items, c.new-4.ensures, c.new-5.ensures.items, c.new-6.ensures) refl
