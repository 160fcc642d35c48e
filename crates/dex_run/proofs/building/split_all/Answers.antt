use Rattle.std.proofs.Common.{◌≡◌, ◌<◌, ◌∙◌, ℕ, List, Some, length, get_or, map, set, ap, sym, subst, arith}
use Rattle.std.proofs.lemmas.List.Edits.{map_over_more}
use Rattle.dex_world.proofs.Common.{AllZip, AllZip-long, take_all}
use Rattle.dex_run.proofs.Common.{GateView, PassView, next_pass, split_once}
use Rattle.dex_run.proofs.Openings.{half, half-all, half-at, length-half, mapped-more}
use Rattle.dex_world.proofs.MappedLists.{zip-at}
use Rattle.dex_run.proofs.building.split_all.Goals as goal

-- there are as many passes as gates
as-many : {E O : Type 0} (gates : List (GateView E O)) (passes : List (PassView E O)) (i : ℕ) → AllZip (λ gate pass. pass.gate ≡ Some gate) gates passes → i < length gates
    → i < length passes
as-many gates passes i all within = omega (arith, within, AllZip-long (λ gate pass. pass.gate ≡ Some gate) gates passes all)

-- the pass at the place that is reached is that of the gate there, and may hand out a number
reached : {E O : Type 0} (gates : List (GateView E O)) (passes now : List (PassView E O)) (i : ℕ) (gate : GateView E O) (pass : PassView E O)
    → AllZip (λ gate pass. pass.gate ≡ Some gate) gates passes → i < length gates → now ≡ half split_once i passes → gate ≡ get_or gates i gate
    → pass ≡ get_or now i pass → pass.gate ≡ Some gate
reached {E} {O} gates passes now i gate pass all within is gate_at pass_at =
    ap (λ (p : PassView E O). p.gate) (half-at split_once i passes now pass is pass_at (as-many gates passes i all within))
    ∙ zip-at (λ gate pass. pass.gate ≡ Some gate) gates passes i gate pass all within
    ∙ ap (λ (g : GateView E O). Some g) (sym gate_at)

pub index_mut-requires : goal.index_mut-requires
index_mut-requires g c =
    omega (
      arith,
      c.loop-place.firsts.ok.0,
      as-many c.args.gates.now c.args.firsts.now.items c.loop-place.place c.requires.gates c.loop-place-test.true,
      ap length c.loop-place.invariant.firsts,
      length-half split_once c.loop-place.place c.args.firsts.now.items,
    )

pub split-pass-requires-clause-gate : goal.split-pass-requires-clause-gate
split-pass-requires-clause-gate g c =
    reached c.args.gates.now c.args.firsts.now.items c.loop-place.firsts.items c.loop-place.place c.index-gates-place.result c.index_mut.result.now c.requires.gates
    c.loop-place-test.true c.loop-place.invariant.firsts c.index-gates-place.is c.index_mut.ensures.value

pub split-pass-requires-clause-number : goal.split-pass-requires-clause-number
split-pass-requires-clause-number g c =
    let within = as-many c.args.gates.now c.args.firsts.now.items c.loop-place.place c.requires.gates c.loop-place-test.true in
    let at = half-at split_once c.loop-place.place c.args.firsts.now.items c.loop-place.firsts.items c.index_mut.result.now c.loop-place.invariant.firsts c.index_mut.ensures.value within in
    subst (λ (pass : PassView g.row.V-Entry.Denot g.row.V-Origin.Denot). pass.next < pass.until) (sym at) (c.requires.some c.loop-place.place c.index_mut.result.now within)

pub loop-place-preserved : goal.loop-place-preserved
loop-place-preserved g c =
    let firsts = c.args.firsts.now.items in
    let now = c.loop-place.firsts.items in
    let i : ℕ = c.loop-place.place in
    let pass = c.index_mut.result.now in
    let within = as-many c.args.gates.now firsts i c.requires.gates c.loop-place-test.true in
    let at = half-at split_once i firsts now pass c.loop-place.invariant.firsts c.index_mut.ensures.value within in record {
      firsts = ap (set now i) c.split-pass.ensures.kept ∙ map_over_more split_once firsts now i pass within c.loop-place.invariant.firsts c.index_mut.ensures.value;
      given = mapped-more next_pass i firsts c.loop-place.given.items c.add.new.items.items pass c.split-pass.result c.loop-place.invariant.given c.in_ok-add.ensures at
          c.split-pass.ensures.given within;
    }

pub returns-clause-given : goal.returns-clause-given
returns-clause-given g c =
    c.loop-place.invariant.given
    ∙ ap (map next_pass)
    (take_all c.loop-place.place c.args.firsts.now.items
    (omega (arith, c.loop-place-test.false, AllZip-long (λ gate pass. pass.gate ≡ Some gate) c.args.gates.now c.args.firsts.now.items c.requires.gates)))

pub returns-clause-kept : goal.returns-clause-kept
returns-clause-kept g c =
    c.loop-place.invariant.firsts
    ∙ half-all split_once c.loop-place.place c.args.firsts.now.items
    (omega (arith, c.loop-place-test.false, AllZip-long (λ gate pass. pass.gate ≡ Some gate) c.args.gates.now c.args.firsts.now.items c.requires.gates))
