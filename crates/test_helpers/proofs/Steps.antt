-- The names that the walks cite, passed on from one place. Declares nothing.
pub use Rattle.std.proofs.Common.{◌≡◌, ℕ, ◌+◌, Bool, true, false, [], ◌∷◌, Ok, Err, refl, ap, w64}
pub use Rattle.std.proofs.raw_atomic.Walks.{proved}
pub use Rattle.std.proofs.VecSteps.Shapes.{after}
pub use base.Logic.{id⊢, ent, sep, fst∗, never}
pub use base.Fml.{ftrue, fsep, flft}
pub use mir.Syntax.{a_type, dnil, dcons}
pub use mir.MapTy.{inst_fn}
pub use mir.Val.{Val, vunit, vint, vptr}
pub use prog.Memory.{size, align, capped, up}
pub use contract.BorrowLft.{◌⊑◌, ⊑_trans}
pub use contract.Monad.{fact}
pub use contract.Running.{tables}
pub use types.Kit.{Item, ‵, raw, ◌⊛◌, some, later, given, prop, at_ret, Sq, ◌$◌, ◌∵◌, !, qed, done, move, keep, drop, use0, use1, use2, split, split3, join, pick, learn, fsplit, fjoin, feq_i, feq_l, suffices, await, regoal, group}
pub use types.Run.{enter, of_opd, lit, unit_lit, addr, stop, fld, no_more, and_then, first, branches, skips, exec, returns, returns_within}
pub use types.Part.{agg}
pub use types.ByLocal.{alloc_all, pass_all, free_all, look_at, get, through, sets, lands_as, env}
pub use denote.Builtin.{bool, u64, usize, RefOf}
pub use denote.Exit.{yes}
pub use denote.Memory.{hidden_shr}
pub use denote.Opens.{unhide}
pub use denote.Param.{bounded, param}
pub use denote.Plain.{uint_vals, uint_Tells}
pub use denote.RattleType.{RattleType, owns}
pub use denote.RawPtr.{Ptr, RawPtr, block_ptr, null_ptr, ptr_val, rawptr_vals, rawptr_Tells, room_for, in_a_block}
pub use denote.Ref.{shr_vals}
pub use denote.Signature.{Slot, plain, types_at}
pub use denote.Steps.{heard, nothing, only}
pub use denote.Triple.Call.{calls_at}
pub use denote.Triple.Clauses.{Ended, lasts}
pub use denote.Triple.Spec.{triple_of}
pub use denote.Triple.Table.{framed}
pub use denote.Triple.Walked.{Stays, walk_of, stay_dropped, Goes-dropped, ends_at}
pub use Rattle.std.proofs.alloc.Calls.{Al, α, seen, token, Answer, answer_val, Answer-typed, Answer-Ok, Answer-err, Takes, at_takes, Answered, Takes-goes, Takes-gives, answers, Gives, at_gives, Gives-goes, Gives-Gives}
pub use prog.Wp.{WpFn}
pub use types.Logic.{Logic, sem}
pub use Rattle.std.specs.Allocator.{block_if_ok}
