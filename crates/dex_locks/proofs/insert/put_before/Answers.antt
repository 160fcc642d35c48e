use Rattle.std.proofs.Common.{◌≡◌, true, false, ◌∙◌, refl, sym}
use Rattle.dex_types.specs.Addresses.{is_same}
use Rattle.dex_types.specs.Wallets.{is_lower}
use Rattle.dex_locks.specs.Places.{put}
use Rattle.dex_locks.proofs.insert.put_before.Goals as goal

pub returns-then-is_same : goal.returns-then-is_same
unfolding put
returns-then-is_same c others =
    let same : is_same c.args.address c.args.first ≡ true = sym c.is_same.ensures ∙ c.if-is_same.true in
    rw (same, c.requires) refl

pub returns-then-is_lower : goal.returns-then-is_lower
unfolding put
returns-then-is_lower c others =
    let same : is_same c.args.address c.args.first ≡ false = sym c.is_same.ensures ∙ c.if-is_same.false in
    let lower : is_lower c.args.address c.args.first ≡ true = sym c.is_lower.ensures ∙ c.if-is_lower.true in
    rw (same, lower) refl

pub returns : goal.returns
unfolding put
returns c others =
    let same : is_same c.args.address c.args.first ≡ false = sym c.is_same.ensures ∙ c.if-is_same.false in
    let lower : is_lower c.args.address c.args.first ≡ false = sym c.is_lower.ensures ∙ c.if-is_lower.false in
    rw (same, lower, c.requires) refl
