-- `new` makes the empty struct, with the items that its clause names. Assumes `Logic`.
use Rattle.dex_stamps.proofs.Walks.{[], ◌∷◌, refl, proved, none, one, one_made, a_type, inst_fn, ‵, raw, ◌⊛◌, ◌$◌, ◌∵◌, !, qed, move, keep, split, fjoin, suffices, done, agg, enter, returns, and_then, no_more, alloc_all, pass_all, free_all, look_at, get, sets, owns, Is, param, layouts, types_at, nothing, owned, makes, Tuple, alive, says, walk_of, ends_at}
use Rattle.std.specs.contracts.marker.PhantomData as Mark
use Rattle.dex_stamps.specs.contracts.log.Log.new as f
use Rattle.dex_stamps.proofs.log.Log.new.Statement.{statement}
use Rattle.dex_stamps.proofs.log.Log.new.Code as code

pub new_spec : {M : Type 1} → statement M
new_spec 𝓤 𝓛 𝓜 𝓡 wired A B _ _ =
    let pair = Tuple (param 0 A ∷ param 1 B ∷ []) in let args = layouts (a_type ∷ a_type ∷ []) (A, (B, tt)) in
    let T = f.ended A B in let S = T.signature in let c = f.clauses A B 𝓛 𝓜.mem 𝓡.returns in
    proved 𝓛 T tt c 𝓜 𝓡 tt (f.Key.name args) (inst_fn args code.function) (code.unfolded 𝓤 𝓛.H 𝓜 𝓡 wired (A, (B, tt)))
    (λ κs. tt) (λ κs. tt) (λ κs qs bounds a g are.
    let y : (walk_of 𝓛 T tt c).Ghost = ((κs, qs, bounds, a, tt), g) in
    qed 𝓛 ((raw (alive 𝓛 S κs qs) ⊛ ‵ (owns (types_at S.params κs) a y.0.4)) ∷ raw ((c κs a).requires g) ∷ []) ∵
    split ! $ keep ! (0 ∷ []) $
    enter ! _ _ _ _ _ $ alloc_all ! (λ l. pass_all ! refl tt $
    sets ! (agg ! (no_more !)) refl (tt, tt) $ sets ! (agg ! (and_then ! (get ! refl) (no_more !))) refl (tt, (tt, tt)) $
    nothing ! $ owned ! (Mark.the_row pair) (Is (Mark.the_row pair)) (makes (Mark.the_type pair) tt 𝓛) (record {}) (none ∷ []) (tt, (refl, tt)) $
    one_made ! (Mark.the_row pair) (record {}) none $ fjoin ! $
    returns ! (look_at ! 0 refl) $ free_all ! refl $
    suffices ! _ (ends_at 𝓛 T tt c y (one none) (record { of = record {}; items = [] }) tt tt) $ says ! refl $
    nothing ! $ move ! (2 ∷ 0 ∷ 1 ∷ []) $ done !))
