use Rattle.std.proofs.Common.{arith, ◌≡◌, ◌∙◌, ◌+◌, List, ℕ, take, Option, None, Some, Result, Ok, Err, inl, ap, sym, subst, refl}
use Rattle.std.specs.{Prelude.IsTrue, Prelude.option_map, FinMap.keys as map_keys, FinMap.entries as map_entries}
use Rattle.std.proofs.lemmas.Result.{err_from_is_err_and}
use Rattle.dm_store.specs.Saved.{Saved, Replaces, SavedSet, MayLackMemory, MayNotSettle, LoadsOpen}
use Rattle.dm_store.specs.declared.store.StoreFault.{StoreFault}
use Rattle.dm_store.specs.declared.store.StoreFault.TheVariants as storing
use Rattle.dm_assembly_desk.specs.{Desk.EndsMove, Desk.Moves, Desk.early, inner.Reading.lacking, inner.Reading.LooksAtEach, inner.Reading.WritesAll}
use Rattle.dm_assembly_desk.specs.declared.fault.MoveFault.{MoveFault}
use Rattle.dm_assembly_desk.proofs.JointContents.{all_of_them}
use Rattle.dm_assembly_desk.proofs.MovingLaws.{keeps_all}
use Rattle.dm_assembly_desk.proofs.MoveEnds.{no_documents, not_loaded, nothing_there, not_joint, none_there, no_keys, not_sound, not_saved, ended}
use Rattle.dm_assembly_desk.proofs.moving.move_pages.Goals as goal

-- the answer is this fault
ends_so : {old : Saved} {set : SavedSet} {old_after : Saved} {set_after : SavedSet} (result : Result ℕ MoveFault)
    (given fault : MoveFault) → result ≡ Err given → given ≡ fault → EndsMove old set (Err fault) old_after set_after →
    Moves old set result old_after set_after
ends_so {old} {set} {old_after} {set_after} result given fault is_error is_fault ends =
    subst (λ (r : Result ℕ MoveFault). Moves old set r old_after set_after)
    (sym (is_error ∙ ap (λ (f : MoveFault). Err f) is_fault)) (keeps_all ends)

-- the old store has not changed
as_it_was : {old : Saved} {set : SavedSet} {result : Result ℕ MoveFault} {old_after : Saved} {set_after : SavedSet} →
    old_after ≡ old → EndsMove old set result old set_after → EndsMove old set result old_after set_after
as_it_was {old} {set} {result} {old_after} {set_after} same ends =
    subst (λ (s : Saved). EndsMove old set result s set_after) (sym same) ends

-- why a settle failed
may_not : (set : SavedSet) (why : StoreFault) → MayNotSettle set why →
    (why ≡ storing.Device → set.load_plan ≡ LoadsOpen) × (why ≡ storing.Memory → IsTrue set.may_lack_memory)
may_not set storing.Device may = ((λ _. may), (λ e. absurd (grind (arith, e))))
may_not set storing.Memory may = ((λ e. absurd (grind (arith, e))), (λ _. may))

-- an honest store was loaded so
loaded_as : {shown items : List ℕ} (old : Saved) → shown ≡ items →
    (IsTrue old.is_honest → Some items ≡ option_map (take (42636295 + 1)) old.content) → IsTrue old.is_honest →
    Some shown ≡ option_map (take (42636295 + 1)) old.content
loaded_as old same loads honest = ap (λ (bs : List ℕ). Some bs) same ∙ loads honest

pub returns-in_err-bytes-clause-moves : goal.returns-in_err-bytes-clause-moves
returns-in_err-bytes-clause-moves g c =
    let answered = err_from_is_err_and c.from_residual.result c.from_residual.ensures.1 in
    ends_so c.from_residual.result answered.0 _ answered.1 answered.2
    (early (not_loaded (g.O.Store.state c.args.old.now) (g.S.StoreSet.state c.args.set.now) c.in_err-bytes.field-0.0
    (λ e. c.in_err-bytes.ensures.loads.device (ap Err e)) (λ e. c.in_err-bytes.ensures.loads.memory (ap Err e)))
    c.load_settled.ensures.loads.same refl)

pub returns-in_default-clause-moves : goal.returns-in_default-clause-moves
returns-in_default-clause-moves g c =
    keeps_all (early (nothing_there (g.O.Store.state c.args.old.now) (g.S.StoreSet.state c.args.set.now)
    (λ honest. rw c.in_default.is at (c.in_ok-bytes.ensures.loads.saved honest))) c.load_settled.ensures.loads.same refl)

pub returns-in_err-count-clause-moves : goal.returns-in_err-count-clause-moves
returns-in_err-count-clause-moves g c =
    let loaded = loaded_as (g.O.Store.state c.args.old.now) c.deref.ensures.value
    (λ honest. rw c.in-Some.is at (c.in_ok-bytes.ensures.loads.saved honest)) in
    let answered = err_from_is_err_and c.from_residual-in_err-count.result c.from_residual-in_err-count.ensures.1 in
    ends_so c.from_residual-in_err-count.result answered.0 _ answered.1 answered.2
    (early (not_joint (g.O.Store.state c.args.old.now) (g.S.StoreSet.state c.args.set.now) c.deref.result.now loaded c.in_err-count.field-0.0 c.in_err-count.ensures.fault)
    c.load_settled.ensures.loads.same refl)

pub returns-then-count-eq0-clause-moves : goal.returns-then-count-eq0-clause-moves
returns-then-count-eq0-clause-moves g c =
    let loaded = loaded_as (g.O.Store.state c.args.old.now) c.deref.ensures.value
    (λ honest. rw c.in-Some.is at (c.in_ok-bytes.ensures.loads.saved honest)) in
    keeps_all (early (none_there (g.O.Store.state c.args.old.now) (g.S.StoreSet.state c.args.set.now) c.deref.result.now loaded
    c.in_ok-count.count c.in_ok-count.entries.now c.in_ok-count.ensures.found c.if-count-eq0.true)
    c.load_settled.ensures.loads.same refl)

pub returns-in_err-keys-clause-moves : goal.returns-in_err-keys-clause-moves
returns-in_err-keys-clause-moves g c =
    let loaded = loaded_as (g.O.Store.state c.args.old.now) c.deref.ensures.value
    (λ honest. rw c.in-Some.is at (c.in_ok-bytes.ensures.loads.saved honest)) in
    let answered = err_from_is_err_and c.from_residual-in_err-keys.result c.from_residual-in_err-keys.ensures.1 in
    ends_so c.from_residual-in_err-keys.result answered.0 _ answered.1 answered.2
    (early (no_keys (g.O.Store.state c.args.old.now) (g.S.StoreSet.state c.args.set.now) c.deref.result.now loaded c.in_ok-count.count c.in_ok-count.entries.now
    c.in_ok-count.ensures.found c.if-count-eq0.false c.in_err-keys.field-0.0
    (λ e. c.in_err-keys.ensures.lists.device (ap Err e))
    (λ e. c.in_err-keys.ensures.lists.memory (ap Err e))) c.load_settled.ensures.loads.same c.keys.ensures.lists.same)

pub returns-in_err-look_at_each-clause-moves : goal.returns-in_err-look_at_each-clause-moves
returns-in_err-look_at_each-clause-moves g c =
    let set : SavedSet = g.S.StoreSet.state c.args.set.now in
    let fault : MoveFault = c.in_err-look_at_each.field-0.0 in
    let loaded = loaded_as (g.O.Store.state c.args.old.now) c.deref.ensures.value
    (λ honest. rw c.in-Some.is at (c.in_ok-bytes.ensures.loads.saved honest)) in
    let reads = c.in_ok-count.ensures.found in
    let looks : LooksAtEach set (map_entries reads.held) (Err fault) =
    subst (λ (s : SavedSet). LooksAtEach s (map_entries reads.held) (Err fault)) c.keys.ensures.lists.same
    (c.in_err-look_at_each.ensures.looks (map_entries reads.held) reads.read) in
    let answered = err_from_is_err_and c.from_residual-in_err-look_at_each.result c.from_residual-in_err-look_at_each.ensures.1 in
    ends_so c.from_residual-in_err-look_at_each.result answered.0 _ answered.1 answered.2
    (early (not_sound (g.O.Store.state c.args.old.now) set c.deref.result.now loaded c.in_ok-count.count
    c.in_ok-count.entries.now reads c.if-count-eq0.false fault looks)
    c.load_settled.ensures.loads.same (c.look_at_each.ensures.same ∙ c.keys.ensures.lists.same))

pub returns-in_err-settle-clause-moves : goal.returns-in_err-settle-clause-moves
returns-in_err-settle-clause-moves g c =
    let loaded = loaded_as (g.O.Store.state c.args.old.now) c.deref.ensures.value
    (λ honest. rw c.in-Some.is at (c.in_ok-bytes.ensures.loads.saved honest)) in
    let set : SavedSet = g.S.StoreSet.state c.args.set.now in
    let may : MayNotSettle set c.in_err-settle.field-0.0 =
    rw (c.look_at_each.ensures.same ∙ c.keys.ensures.lists.same) at c.in_err-settle.ensures.settles.1 in
    let why = may_not set c.in_err-settle.field-0.0 may in
    let answered = err_from_is_err_and c.from_residual-in_err-settle.result c.from_residual-in_err-settle.ensures.1 in
    ends_so c.from_residual-in_err-settle.result answered.0 _ answered.1 answered.2
    (early (no_keys (g.O.Store.state c.args.old.now) (g.S.StoreSet.state c.args.set.now) c.deref.result.now loaded
    c.in_ok-count.count c.in_ok-count.entries.now c.in_ok-count.ensures.found c.if-count-eq0.false
    c.in_err-settle.field-0.0 why.0 why.1)
    c.load_settled.ensures.loads.same (c.settle.ensures.settles.0 ∙ c.look_at_each.ensures.same ∙ c.keys.ensures.lists.same))

pub returns-in_err-written-clause-moves : goal.returns-in_err-written-clause-moves
returns-in_err-written-clause-moves g c =
    let old : Saved = g.O.Store.state c.args.old.now in
    let set : SavedSet = g.S.StoreSet.state c.args.set.now in
    let after : SavedSet = g.S.StoreSet.state c.move_entries.new.set in
    let loaded = loaded_as (g.O.Store.state c.args.old.now) c.deref.ensures.value
    (λ honest. rw c.in-Some.is at (c.in_ok-bytes.ensures.loads.saved honest)) in
    let ks : List ℕ = c.deref-4.result.now in
    let known : IsTrue set.is_honest → ks ≡ map_keys set.content = λ honest.
    all_of_them set.content ks (λ i. rw (c.deref-4.ensures.value ∙ sym c.deref-3.ensures.value) (c.keys_fit.ensures i))
    (c.deref-4.ensures.value ∙ c.in_ok-keys.ensures.lists.saved honest) in
    let reads = c.in_ok-count.ensures.found in
    let looked : LooksAtEach set (map_entries reads.held) (Ok tt) =
    subst (λ (s : SavedSet). LooksAtEach s (map_entries reads.held) (Ok tt)) c.keys.ensures.lists.same
    (c.in_ok-look_at_each.ensures.looks (map_entries reads.held) reads.read) in
    let written : WritesAll set (lacking ks (map_entries reads.held)) (Err c.in_err-written.field-0.0) after =
    subst (λ (s : SavedSet). WritesAll s (lacking ks (map_entries reads.held)) (Err c.in_err-written.field-0.0) after)
    (c.settle.ensures.settles.0 ∙ c.look_at_each.ensures.same ∙ c.keys.ensures.lists.same) (c.in_err-written.ensures (map_entries reads.held) reads.read) in
    let answered = err_from_is_err_and c.from_residual-in_err-written.result c.from_residual-in_err-written.ensures.1 in
    ends_so c.from_residual-in_err-written.result answered.0 _ answered.1 answered.2
    (as_it_was c.load_settled.ensures.loads.same
    (not_saved old set c.deref.result.now loaded c.in_ok-count.count c.in_ok-count.entries.now reads
    c.if-count-eq0.false ks known looked c.in_err-written.field-0.0 after written))

pub returns-in_err-replace-clause-moves : goal.returns-in_err-replace-clause-moves
returns-in_err-replace-clause-moves g c =
    let old : Saved = g.O.Store.state c.args.old.now in
    let set : SavedSet = g.S.StoreSet.state c.args.set.now in
    let after : SavedSet = g.S.StoreSet.state c.move_entries.new.set in
    let loaded = loaded_as (g.O.Store.state c.args.old.now) c.deref.ensures.value
    (λ honest. rw c.in-Some.is at (c.in_ok-bytes.ensures.loads.saved honest)) in
    let ks : List ℕ = c.deref-4.result.now in
    let known : IsTrue set.is_honest → ks ≡ map_keys set.content = λ honest.
    all_of_them set.content ks (λ i. rw (c.deref-4.ensures.value ∙ sym c.deref-3.ensures.value) (c.keys_fit.ensures i))
    (c.deref-4.ensures.value ∙ c.in_ok-keys.ensures.lists.saved honest) in
    let reads = c.in_ok-count.ensures.found in
    let looked : LooksAtEach set (map_entries reads.held) (Ok tt) =
    subst (λ (s : SavedSet). LooksAtEach s (map_entries reads.held) (Ok tt)) c.keys.ensures.lists.same
    (c.in_ok-look_at_each.ensures.looks (map_entries reads.held) reads.read) in
    let written : WritesAll set (lacking ks (map_entries reads.held)) (Ok c.in_ok-written.written) after =
    subst (λ (s : SavedSet). WritesAll s (lacking ks (map_entries reads.held)) (Ok c.in_ok-written.written) after)
    (c.settle.ensures.settles.0 ∙ c.look_at_each.ensures.same ∙ c.keys.ensures.lists.same) (c.in_ok-written.ensures (map_entries reads.held) reads.read) in
    let last : Saved = g.O.Store.state c.replace.new.self in
    let replaced : Replaces old no_documents (Err c.in_err-replace.field-0.0) last =
    subst (λ (s : Saved). Replaces s no_documents (Err c.in_err-replace.field-0.0) last) c.load_settled.ensures.loads.same
    c.in_err-replace.ensures.replaces in
    let answered = err_from_is_err_and c.from_residual-in_err-replace.result c.from_residual-in_err-replace.ensures.1 in
    ends_so c.from_residual-in_err-replace.result answered.0 _ answered.1 answered.2
    (ended old set c.deref.result.now loaded c.in_ok-count.count c.in_ok-count.entries.now reads c.if-count-eq0.false
    ks known looked c.in_ok-written.written after written (Err c.in_err-replace.field-0.0) last replaced
    (subst (λ (s : Saved). MayLackMemory s (Err c.in_err-replace.field-0.0)) c.load_settled.ensures.loads.same
    c.in_err-replace.ensures.memory))

pub returns-clause-moves : goal.returns-clause-moves
returns-clause-moves g c =
    let old : Saved = g.O.Store.state c.args.old.now in
    let set : SavedSet = g.S.StoreSet.state c.args.set.now in
    let after : SavedSet = g.S.StoreSet.state c.move_entries.new.set in
    let loaded = loaded_as (g.O.Store.state c.args.old.now) c.deref.ensures.value
    (λ honest. rw c.in-Some.is at (c.in_ok-bytes.ensures.loads.saved honest)) in
    let ks : List ℕ = c.deref-4.result.now in
    let known : IsTrue set.is_honest → ks ≡ map_keys set.content = λ honest.
    all_of_them set.content ks (λ i. rw (c.deref-4.ensures.value ∙ sym c.deref-3.ensures.value) (c.keys_fit.ensures i))
    (c.deref-4.ensures.value ∙ c.in_ok-keys.ensures.lists.saved honest) in
    let reads = c.in_ok-count.ensures.found in
    let looked : LooksAtEach set (map_entries reads.held) (Ok tt) =
    subst (λ (s : SavedSet). LooksAtEach s (map_entries reads.held) (Ok tt)) c.keys.ensures.lists.same
    (c.in_ok-look_at_each.ensures.looks (map_entries reads.held) reads.read) in
    let written : WritesAll set (lacking ks (map_entries reads.held)) (Ok c.in_ok-written.written) after =
    subst (λ (s : SavedSet). WritesAll s (lacking ks (map_entries reads.held)) (Ok c.in_ok-written.written) after)
    (c.settle.ensures.settles.0 ∙ c.look_at_each.ensures.same ∙ c.keys.ensures.lists.same) (c.in_ok-written.ensures (map_entries reads.held) reads.read) in
    let last : Saved = g.O.Store.state c.replace.new.self in
    let replaced : Replaces old no_documents (Ok tt) last =
    subst (λ (s : Saved). Replaces s no_documents (Ok tt) last) c.load_settled.ensures.loads.same
    c.in_ok-replace.ensures.replaces in
    keeps_all (ended old set c.deref.result.now loaded c.in_ok-count.count c.in_ok-count.entries.now reads
    c.if-count-eq0.false ks known looked c.in_ok-written.written after written (Ok tt) last replaced
    (subst (λ (s : Saved). MayLackMemory s (Ok tt)) c.load_settled.ensures.loads.same c.in_ok-replace.ensures.memory))

none_loaded : (content : Option (List ℕ)) → None ≡ option_map (take (42636295 + 1)) content → content ≡ None
none_loaded None is = refl
none_loaded (Some bytes) is = absurd (grind (arith, is))

pub returns-in_default-clause-settled : goal.returns-in_default-clause-settled
returns-in_default-clause-settled g c =
    λ ok. inl (λ honest. none_loaded _ (rw c.in_default.is at (c.in_ok-bytes.ensures.loads.saved honest)))
