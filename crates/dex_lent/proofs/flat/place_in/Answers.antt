use Rattle.std.proofs.Common.{◌*◌, drop, length, sym, ap, ◌∙◌, arith, below_more}
use Rattle.std.proofs.lemmas.List.{length-drop, length-take-le}
use Rattle.dex_accounts.proofs.OwnerLaws.{bytes_at-none}
use Rattle.dex_lent.specs.Flat.{accounts_in}
use Rattle.dex_lent.proofs.FlatLaws.{address-in, length-in}
use Rattle.dex_lent.proofs.flat.place_in.Goals as goal

pub get_addr-requires-clause-within : goal.get_addr-requires-clause-within
get_addr-requires-clause-within c =
    let bytes = c.args.bytes.now in
    let n = c.loop-place.place in
    omega (arith, ap length c.record_at.ensures, length-take-le 3260 (drop (3260 * n) bytes) (omega (arith, length-drop (3260 * n) bytes)))

pub loop-place-preserved : goal.loop-place-preserved
loop-place-preserved c =
    below_more _ _ c.loop-place.invariant
    (λ default. address-in c.args.address c.loop-place.place c.args.bytes.now c.record_at.result.now c.get_addr.result default (omega (arith, length-in c.args.bytes.now)) c.record_at.ensures c.get_addr.ensures
    ∙ sym c.is_same.ensures ∙ c.if-is_same.false)

pub returns-then-is_same : goal.returns-then-is_same
returns-then-is_same c = record {
  within = omega (arith, length-in c.args.bytes.now);
  here = λ default.
      address-in c.args.address c.loop-place.place c.args.bytes.now c.record_at.result.now c.get_addr.result default (omega (arith, length-in c.args.bytes.now)) c.record_at.ensures c.get_addr.ensures
      ∙ sym c.is_same.ensures ∙ c.if-is_same.true;
  before = c.loop-place.invariant;
}

pub returns : goal.returns
returns c =
    bytes_at-none c.args.address (accounts_in c.args.bytes.now)
    (λ place lt default. c.loop-place.invariant place (omega (arith, length-in c.args.bytes.now)) default)
