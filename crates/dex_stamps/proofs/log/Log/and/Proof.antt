-- `and` makes the empty struct, with the items that its clause names. Assumes `Logic`.
use Rattle.dex_stamps.proofs.Walks.{[], ◌∷◌, refl, proved, none, one, one_made, a_type, named, inst_fn, ‵, raw, ◌⊛◌, ◌$◌, ◌∵◌, !, qed, move, keep, split, fjoin, suffices, done, agg, enter, returns, and_then, no_more, alloc_all, pass_all, free_all, look_at, get, sets, yes, RattleType, owns, RefOf, Is, param, layouts, shr_vals, shr_Tells, plain, types_at, nothing, owned, makes, Tuple, alive, says, Stays, stay_dropped, walk_of, ends_at, Goes-dropped}
use Rattle.std.specs.Prelude.{◌++◌}
use Rattle.std.specs.contracts.marker.PhantomData as Mark
use Rattle.dex_stamps.specs.contracts.log.Log.{the_row}
use Rattle.dex_stamps.specs.contracts.log.Log.and as f
use Rattle.dex_stamps.proofs.log.Log.and.Statement.{statement}
use Rattle.dex_stamps.proofs.log.Log.and.Code as code

pub and_spec : {M : Type 1} → statement M
and_spec 𝓤 𝓛 𝓜 𝓡 wired A B _ _ =
    let P : RattleType = param 0 A in let Q : RattleType = param 1 B in let L : RattleType = the_row P Q in
    let pair = Tuple (P ∷ Q ∷ []) in let args = layouts (a_type ∷ a_type ∷ []) (A, (B, tt)) in
    let T = f.ended A B in let S = T.signature in let c = f.clauses A B 𝓛 𝓜.mem 𝓡.returns in
    let stayed : Stays S.params T.kept = (stay_dropped _ yes, (stay_dropped _ yes, (stay_dropped _ yes, tt))) in
    proved 𝓛 T stayed c 𝓜 𝓡 (
      Goes-dropped 𝓛 5 (RefOf (0 ∷ []) tt (plain (λ _. L)) (λ _. tt)) yes (λ κs x f. refl),
      (
        Goes-dropped 𝓛 5 (RefOf (1 ∷ []) tt (plain (λ _. P)) (λ _. tt)) yes (λ κs x f. refl),
        (Goes-dropped 𝓛 5 (RefOf (2 ∷ []) tt (plain (λ _. Q)) (λ _. tt)) yes (λ κs x f. refl), tt),
      ),
    ) (f.Key.name args) (inst_fn args code.function) (code.unfolded 𝓤 𝓛.H 𝓜 𝓡 wired (A, (B, tt)))
    (λ κs. (shr_vals, (shr_vals, (shr_vals, tt))))
    (λ κs. (shr_Tells (named 0) κs.0 L, (shr_Tells (named 1) κs.1.0 P, (shr_Tells (named 2) κs.1.1.0 Q, tt)))) (λ κs qs bounds a g are.
    let y : (walk_of 𝓛 T stayed c).Ghost = ((κs, qs, bounds, a, (shr_vals a.0, (shr_vals a.1.0, (shr_vals a.1.1.0, tt)))), g) in
    let made : L.Denot = record { of = record {}; items = a.0.now.items ++ (a.1.0.now, a.1.1.0.now) ∷ [] } in
    qed 𝓛 ((raw (alive 𝓛 S κs qs) ⊛ ‵ (owns (types_at S.params κs) a y.0.4)) ∷ raw ((c κs a).requires g) ∷ []) ∵
    split ! $ keep ! (0 ∷ []) $
    enter ! _ _ _ _ _ $ alloc_all ! (λ l. pass_all ! refl ((tt, tt), ((tt, tt), ((tt, tt), tt))) $
    sets ! (agg ! (no_more !)) refl (tt, tt) $ sets ! (agg ! (and_then ! (get ! refl) (no_more !))) refl (tt, (tt, tt)) $
    nothing ! $ owned ! (Mark.the_row pair) (Is (Mark.the_row pair)) (makes (Mark.the_type pair) tt 𝓛) (record {}) (none ∷ []) (tt, (refl, tt)) $
    one_made ! (Mark.the_row pair) (record {}) none $ fjoin ! $
    returns ! (look_at ! 0 refl) $ free_all ! refl $
    suffices ! _ (ends_at 𝓛 T stayed c y (one none) made (tt, (tt, (tt, tt))) (tt, (tt, (tt, tt)))) $ says ! refl $
    nothing ! $ nothing ! $ fjoin ! $ nothing ! $ fjoin ! $ nothing ! $ fjoin ! $ move ! (2 ∷ 0 ∷ 1 ∷ []) $ done !))
