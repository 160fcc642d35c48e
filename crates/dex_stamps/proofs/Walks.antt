-- The names that walks by hand cite, passed on from one place. Declares nothing.
pub use Rattle.std.proofs.Common.{[], ◌∷◌, refl}
pub use Rattle.std.proofs.raw_atomic.Walks.{proved}
pub use Rattle.bytes.proofs.Walks.{none, none_made, one, one_made}
pub use mir.Syntax.{a_type, named}
pub use mir.MapTy.{inst_fn}
pub use types.Kit.{‵, raw, ◌⊛◌, ◌$◌, ◌∵◌, !, qed, move, keep, split, fjoin, suffices, done}
pub use types.Part.{agg}
pub use types.Run.{enter, returns, and_then, no_more}
pub use types.ByLocal.{alloc_all, pass_all, free_all, look_at, get, sets}
pub use denote.Exit.{yes}
pub use denote.RattleType.{RattleType, owns}
pub use denote.Builtin.{RefOf}
pub use denote.Laws.{Is}
pub use denote.Param.{param, layouts}
pub use denote.Ref.{shr_vals, shr_Tells}
pub use denote.Signature.{plain, types_at}
pub use denote.Steps.{nothing, owned}
pub use denote.Struct.Laws.{makes}
pub use denote.Struct.Tuple.{Tuple}
pub use denote.Triple.Entry.{alive}
pub use denote.Triple.Walked.{says, Stays, stay_dropped, walk_of, ends_at, Goes-dropped}
