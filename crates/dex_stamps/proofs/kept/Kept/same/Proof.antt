-- `same` makes a struct without bytes, with the value of the one that it reads. Assumes `Logic`.
use Rattle.dex_stamps.proofs.Walks.{[], ◌∷◌, refl, proved, none, one, one_made, a_type, named, inst_fn, ‵, raw, ◌⊛◌, ◌$◌, ◌∵◌, !, qed, move, keep, split, fjoin, suffices, done, agg, enter, returns, and_then, no_more, alloc_all, pass_all, free_all, look_at, get, sets, yes, owns, RefOf, Is, param, layouts, shr_vals, shr_Tells, plain, types_at, nothing, owned, makes, alive, says, Stays, stay_dropped, walk_of, ends_at, Goes-dropped}
use Rattle.std.specs.contracts.marker.PhantomData as Mark
use Rattle.dex_stamps.specs.contracts.kept.Kept.{the_row}
use Rattle.dex_stamps.specs.contracts.kept.Kept.same as f
use Rattle.dex_stamps.proofs.kept.Kept.same.Statement.{statement}
use Rattle.dex_stamps.proofs.kept.Kept.same.Code as code

pub same_spec : {M : Type 1} → statement M
same_spec 𝓤 𝓛 𝓜 𝓡 wired Y _ =
    let R = param 0 Y in let K = the_row R in let args = layouts (a_type ∷ []) (Y, tt) in
    let T = f.ended Y in let S = T.signature in let c = f.clauses Y 𝓛 𝓜.mem 𝓡.returns in
    let stayed : Stays S.params T.kept = (stay_dropped _ yes, tt) in
    proved 𝓛 T stayed c 𝓜 𝓡 (Goes-dropped 𝓛 2 (RefOf (0 ∷ []) tt (plain (λ _. K)) (λ _. tt)) yes (λ κs x f. refl), tt)
    (f.Key.name args) (inst_fn args code.function) (code.unfolded 𝓤 𝓛.H 𝓜 𝓡 wired (Y, tt))
    (λ κs. (shr_vals, tt)) (λ κs. (shr_Tells (named 0) κs.0 K, tt)) (λ κs qs bounds a g are.
    let y : (walk_of 𝓛 T stayed c).Ghost = ((κs, qs, bounds, a, (shr_vals a.0, tt)), g) in
    qed 𝓛 ((raw (alive 𝓛 S κs qs) ⊛ ‵ (owns (types_at S.params κs) a y.0.4)) ∷ raw ((c κs a).requires g) ∷ []) ∵
    split ! $ keep ! (0 ∷ []) $
    enter ! _ _ _ _ _ $ alloc_all ! (λ l. pass_all ! refl ((tt, tt), tt) $
    sets ! (agg ! (no_more !)) refl (tt, tt) $ sets ! (agg ! (and_then ! (get ! refl) (no_more !))) refl (tt, (tt, tt)) $
    nothing ! $ owned ! (Mark.the_row R) (Is (Mark.the_row R)) (makes (Mark.the_type R) tt 𝓛) (record {}) (none ∷ []) (tt, (refl, tt)) $
    one_made ! (Mark.the_row R) (record {}) none $ fjoin ! $
    returns ! (look_at ! 0 refl) $ free_all ! refl $
    suffices ! _ (ends_at 𝓛 T stayed c y (one none) (record { of = record {}; value = a.0.now.value }) (tt, tt) (tt, tt)) $ says ! refl $
    nothing ! $ nothing ! $ fjoin ! $ move ! (2 ∷ 0 ∷ 1 ∷ []) $ done !))
