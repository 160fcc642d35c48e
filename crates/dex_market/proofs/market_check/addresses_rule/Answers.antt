use Rattle.std.proofs.Common.{Some, sym, ap, ◌∙◌, arith}
use Rattle.dex_market.specs.Faults.{address_fault, address_fields}
use Rattle.dex_market.proofs.Addresses.{no_field, repeat_end, repeat_found, repeat_more}
use Rattle.dex_market.proofs.market_check.addresses_rule.Goals as goal

pub returns-then-stands_before : goal.returns-then-stands_before
returns-then-stands_before c =
    let bytes = c.args.bytes.now in
    ap Some (c.address_fault.ensures ∙ ap (address_fault bytes) c.address_field.ensures.field)
    ∙ repeat_found bytes address_fields c.loop-later.later no_field _ (omega arith) (sym c.stands_before.ensures ∙ c.if-stands_before.true) c.loop-later.invariant

pub loop-later-preserved : goal.loop-later-preserved
loop-later-preserved c =
    repeat_more c.args.bytes.now address_fields c.loop-later.later no_field _ (omega arith) (sym c.stands_before.ensures ∙ c.if-stands_before.false) c.loop-later.invariant

pub returns : goal.returns
returns c = repeat_end c.args.bytes.now address_fields c.loop-later.later _ (omega arith) c.loop-later.invariant
