use Rattle.std.proofs.Common.{◌≡◌, ◌+◌, ◌*◌, take}
use Rattle.dex_instruction.specs.Numbers.{spelled}
use Rattle.dex_instruction.specs.Spelling.{AllFit}
use Rattle.dex_instruction.specs.Writing.{written}
use Rattle.dex_instruction.proofs.IdLists.{as_fields}
use Rattle.dex_instruction.proofs.encoding.put_ids.Given as goal

abbrev pub invariant-ids : goal.invariant-ids
invariant-ids l = record {
  place : l.at ≡ 5 + 8 * l.i;
  bytes : l.out ≡ written 5 (spelled (as_fields (take l.i l.ids.ids))) l.initial.out;
  fit : AllFit (as_fields (take l.i l.ids.ids));
}
