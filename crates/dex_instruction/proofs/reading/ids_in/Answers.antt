use Rattle.std.proofs.Common.{◌≡◌, ◌-◌, ◌/◌, ◌++◌, ℕ, length, replicate, get_or, set, ap, refl, ◌∙◌, arith}
use Rattle.dex_instruction.specs.IdFacts.{is_zero_behind}
use Rattle.dex_instruction.specs.IdList.{id_count, ids_in, padded_ids}
use Rattle.dex_instruction.specs.Numbers.{numbers_at}
use Rattle.dex_instruction.proofs.IdLists.{ids_more, same_ids}
use Rattle.dex_instruction.proofs.reading.ids_in.Goals as goal

pub ids-init : goal.ids-init
unfolding numbers_at
ids-init c = refl

pub ids-preserved : goal.ids-preserved
ids-preserved c =
    ap (λ xs. set xs c.ids.i c.u64_at.result) c.ids.invariant
    ∙ ap (λ id. set (numbers_at c.ids.i 5 c.args.bytes.now ++ replicate (8 - c.ids.i) 0) c.ids.i id) c.u64_at.ensures
    ∙ ids_more c.ids.i c.args.bytes.now (omega arith)

pub invariant_of-result : goal.invariant_of-result
invariant_of-result c = record {
  some = omega arith;
  at_most_eight = omega arith;
  zeros_behind = λ i behind. ap (λ xs. get_or xs i 0) c.ids.invariant ∙ is_zero_behind c.ids.i 5 c.args.bytes.now i (omega arith);
}

pub returns : goal.returns
unfolding ids_in
returns c =
    let bytes = c.args.bytes.now in
    let count : ℕ = (length bytes - 5) / 8 in
    let count_is : count ≡ id_count bytes = omega arith in
    let all : c.ids.i ≡ id_count bytes = omega arith in
    let ids_are : c.ids.ids ≡ padded_ids bytes = c.ids.invariant ∙ ap (λ n. numbers_at n 5 bytes ++ replicate (8 - n) 0) all in
    same_ids _ (ids_in bytes) ids_are count_is
