use Rattle.std.proofs.Common.{rules, ◌≡◌, ◌+◌, ◌*◌, ◌^◌, ◌<◌, [], ◌∷◌, ◌++◌, List, take, get_or, refl, sym, ap, subst, ◌∙◌, arith}
use Rattle.std.proofs.lemmas.List.{length-take-le, take_more, map_push}
use Rattle.dex_instruction.specs.Numbers.{Field, spelled, widths}
use Rattle.dex_instruction.specs.Spelling.{AllFit, id_fields}
use Rattle.dex_instruction.specs.Writing.{written}
use Rattle.dex_instruction.proofs.Fields.{AllFit-push}
use Rattle.dex_instruction.proofs.IdLists.{as_fields, widths-as_fields}
use Rattle.dex_instruction.proofs.Writing.{behind_fields, last_number, written-nothing}
use Rattle.dex_instruction.proofs.encoding.put_ids.Goals as goal

pub ids-init : goal.ids-init
ids-init c = record { place = refl; bytes = sym (written-nothing 5 c.args.out.now (omega arith)); fit = tt }

pub ids-preserved : goal.ids-preserved
ids-preserved c =
    let ids = c.args.ids.now.ids in
    let i = c.ids.i in
    let id = get_or ids i 0 in
    let done : List Field = as_fields (take i ids) in
    let more : as_fields (take (i + 1) ids) ≡ done ++ (8, id) ∷ [] = ap as_fields (take_more ids i 0 (omega arith)) ∙ map_push (λ x. (8, x)) (take i ids) id in
    let size : widths done ≡ 8 * i = widths-as_fields (take i ids) ∙ ap (λ n. 8 * n) (length-take-le i ids (omega arith)) in
    let last = last_number c.ids.at 8 id _ c.ids.out c.put-at.new.out c.to_le_bytes.ensures c.put-at.ensures.bytes in
    let bytes = behind_fields 5 c.ids.at done ((8, id) ∷ []) c.args.out.now c.ids.out c.put-at.new.out (omega arith) (omega arith) c.ids.invariant.bytes last in
    let small : id < 2 ^ 64 = search rules in
    record {
      place = omega arith;
      bytes = bytes ∙ ap (λ fields. written 5 (spelled fields) c.args.out.now) (sym more);
      fit = subst AllFit (sym more) (AllFit-push done 8 id c.ids.invariant.fit small);
    }

pub returns-clause-end : goal.returns-clause-end
returns-clause-end c =
    let ids = c.args.ids.now.ids in
    let count = c.args.ids.now.count in
    let size : widths (id_fields c.args.ids.now) ≡ 8 * count = widths-as_fields (take count ids) ∙ ap (λ n. 8 * n) (length-take-le count ids (omega arith)) in
    omega arith

pub returns-clause-bytes : goal.returns-clause-bytes
returns-clause-bytes c =
    let all : c.ids.i ≡ c.args.ids.now.count = omega arith in
    c.ids.invariant.bytes ∙ ap (λ n. written 5 (spelled (as_fields (take n c.args.ids.now.ids))) c.args.out.now) all

pub returns-clause-fits : goal.returns-clause-fits
returns-clause-fits c =
    let all : c.ids.i ≡ c.args.ids.now.count = omega arith in
    subst (λ n. AllFit (as_fields (take n c.args.ids.now.ids))) all c.ids.invariant.fit
