-- `later` picks the greater number. Assumes `Logic`.
use Rattle.dex_stamps.proofs.Walks.{[], ◌∷◌, refl, proved, none, none_made, named, ‵, raw, ◌⊛◌, ◌$◌, ◌∵◌, !, qed, move, keep, split, fjoin, suffices, done, agg, enter, returns, no_more, alloc_all, pass_all, free_all, look_at, sets, yes, owns, RefOf, shr_vals, shr_Tells, plain, types_at, nothing, alive, says, Stays, stay_dropped, walk_of, ends_at, Goes-dropped}
use Rattle.std.specs.Prelude.{max}
use Rattle.dex_stamps.specs.contracts.stamp.Stamp.{the_row}
use Rattle.dex_stamps.specs.contracts.stamp.Stamp.later as f
use Rattle.dex_stamps.proofs.stamp.Stamp.later.Statement.{statement}
use Rattle.dex_stamps.proofs.stamp.Stamp.later.Code as code

abbrev stayed : Stays f.ended.signature.params f.ended.kept
stayed = (stay_dropped _ yes, (stay_dropped _ yes, tt))

pub later_spec : {M : Type 1} → statement M
later_spec 𝓤 𝓛 𝓜 𝓡 wired =
    let S = f.ended.signature in let c = f.clauses 𝓛 𝓜.mem 𝓡.returns in
    proved 𝓛 f.ended stayed c 𝓜 𝓡 (
      Goes-dropped 𝓛 2 (RefOf (0 ∷ []) tt (plain (λ _. the_row)) (λ _. tt)) yes (λ κs x f. refl),
      (Goes-dropped 𝓛 2 (RefOf (1 ∷ []) tt (plain (λ _. the_row)) (λ _. tt)) yes (λ κs x f. refl), tt),
    )
    f.Key.name code.function (code.unfolded 𝓤 𝓛.H 𝓜 𝓡 wired)
    (λ κs. (shr_vals, (shr_vals, tt))) (λ κs. (shr_Tells (named 0) κs.0 the_row, (shr_Tells (named 1) κs.1.0 the_row, tt))) (λ κs qs bounds a g are.
    let y : (walk_of 𝓛 f.ended stayed c).Ghost = ((κs, qs, bounds, a, (shr_vals a.0, (shr_vals a.1.0, tt))), g) in
    qed 𝓛 ((raw (alive 𝓛 S κs qs) ⊛ ‵ (owns (types_at S.params κs) a y.0.4)) ∷ raw ((c κs a).requires g) ∷ []) ∵
    split ! $ keep ! (0 ∷ []) $
    enter ! _ _ _ _ _ $ alloc_all ! (λ l. pass_all ! refl ((tt, tt), ((tt, tt), tt)) $
    sets ! (agg ! (no_more !)) refl (tt, tt) $ nothing ! $ none_made ! $ fjoin ! $
    returns ! (look_at ! 0 refl) $ free_all ! refl $
    suffices ! _ (ends_at 𝓛 f.ended stayed c y none (record { number = max a.0.now.number a.1.0.now.number }) (tt, (tt, tt)) (tt, (tt, tt))) $ says ! refl $
    nothing ! $ nothing ! $ fjoin ! $ nothing ! $ fjoin ! $ move ! (2 ∷ 0 ∷ 1 ∷ []) $ done !))
