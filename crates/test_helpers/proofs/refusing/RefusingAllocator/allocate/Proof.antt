-- It refuses, or answers what the allocator within answers.
use Rattle.test_helpers.proofs.Steps.{◌≡◌, Bool, true, false, [], ◌∷◌, Ok, Err, refl, ap, w64, proved, after, id⊢, ftrue, flft, a_type, dnil, dcons, inst_fn, Val, vptr, size, align, capped, ◌⊑◌, ⊑_trans, fact, tables, Item, ‵, raw, ◌⊛◌, some, later, prop, at_ret, Sq, ◌$◌, ◌∵◌, !, qed, done, move, keep, drop, use0, use1, use2, split, join, pick, fjoin, fsplit, feq_i, feq_l, suffices, await, group, enter, lit, addr, stop, fld, no_more, and_then, first, branches, skips, exec, returns, returns_within, agg, alloc_all, pass_all, free_all, look_at, get, through, sets, lands_as, env, bool, usize, yes, bounded, uint_vals, uint_Tells, owns, block_ptr, shr_vals, plain, types_at, heard, nothing, only, calls_at, Ended, lasts, triple_of, framed, Stays, stay_dropped, Goes-dropped, walk_of, ends_at, Al, seen, token, Answer, answer_val, Answer-typed, Answer-Ok, Answer-err, Takes, at_takes, Answered, Takes-goes, Takes-gives, answers, hidden_shr, block_if_ok}
use Rattle.test_helpers.proofs.Fields.{Count, slot, within, count, fields}
use Rattle.test_helpers.specs.contracts.refusing.is_refused as ask
use Rattle.test_helpers.proofs.refusing.{is_refused.Met.met as asked, RefusingAllocator.allocate.Statement.statement}
use Rattle.test_helpers.specs.contracts.refusing.RefusingAllocator.allocate as f
use Rattle.test_helpers.proofs.refusing.RefusingAllocator.allocate.Code as code

pub allocate_spec : {M : Type 1} → statement M
allocate_spec 𝓤 𝓛 𝓜 𝓡 wired Y L g d dd met _ =
    let Z : Al = record { row = Y; laws = L; g = g; d = d; drops = dd } in
    let T : Ended = f.ended Y g d dd in
    let here = inst_fn (bounded (a_type ∷ []) (Y, tt) (dcons d (dcons dd dnil))) code.function in
    let kept : Stays T.signature.params T.kept = (stay_dropped _ yes, (stay_dropped _ yes, (stay_dropped _ yes, tt))) in
    let c = f.clauses Y g d dd 𝓛 𝓜.mem 𝓡.returns in
    let W = walk_of 𝓛 T kept c in
    let 𝓣 = tables 𝓤 𝓛.H 𝓜 𝓡 𝓡.env in
    proved 𝓛 T kept c 𝓜 𝓡 (
      Goes-dropped 𝓛 2 (slot Z) yes (λ κs x w. refl),
      (
        Goes-dropped 𝓛 2 (plain (λ _. usize)) yes (λ κs x w. refl),
        (Goes-dropped 𝓛 2 (plain (λ _. usize)) yes (λ κs x w. refl), tt),
      ),
    )
    (f.Key.name (bounded (a_type ∷ []) (Y, tt) (dcons d (dcons dd dnil)))) here
    (code.unfolded 𝓤 𝓛.H 𝓜 𝓡 wired (Y, tt) d dd)
    (λ κs. (shr_vals, (uint_vals w64, (uint_vals w64, tt)))) (λ κs. (
      (λ r vs s. s.0),
      (uint_Tells w64, (uint_Tells w64, tt)),
    )) (λ κs qs bounds a τ are.
    let κ = κs.0 in let q = qs.0 in let p = a.0.ref_ptr in let h = a.0.now.inner in let n = a.1.0 in let al = a.1.1.0 in
    let y : W.Ghost = ((κs, qs, bounds, a, (shr_vals a.0, (uint_vals w64 n, (uint_vals w64 al, tt)))), τ) in
    let Outer : Item 𝓤 = ‵ (flft κs.1.0 qs.1.0) ⊛ ‵ ftrue in
    let out : (r : (Answer).Denot) (v : Val) →
    Sq 𝓛 (‵ ((Answer).own_val r (v ∷ [])) ∷ ‵ (block_if_ok (token Z h) τ r) ∷ ‵ (flft κ q) ∷ Outer ∷ [])
    (prop (W.post y v)) = λ r v.
    suffices ! _ (ends_at 𝓛 T kept c y v r (tt, (tt, (tt, tt))) (tt, (tt, (tt, tt)))) $
    nothing ! $ nothing ! $ fjoin ! $ nothing ! $ fjoin ! $ nothing ! $ fjoin ! $ move !
    (3 ∷ 4 ∷ []) $ join ! $ group ! 3 $ done ! in
    let refused : Sq 𝓛 (‵ (flft κ q) ∷ Outer ∷ []) (prop (W.post y (answer_val false 0 0))) =
    nothing ! $ use0 𝓛 (‵ ((Answer).own_val (Err (record {})) (answer_val false 0 0 ∷ []))) (Answer-err 𝓛) $ out
    (Err (record {})) (answer_val false 0 0) in
    qed 𝓛 (((‵ (flft κ q) ⊛ Outer) ⊛ ‵
    (owns (types_at T.signature.params κs) a y.0.4)) ∷ (raw (fact 𝓤 (κs.1.0 ⊑ Y.lives)) ⊛ raw
    (fact 𝓤 ((capped (size τ) ≡ n) × (capped (align τ) ≡ al)))) ∷ []) ∵
    move ! (1 ∷ []) $ split ! $ heard ! _
    (λ le. heard ! _ (λ said. split ! $ split ! $ move ! (2 ∷ []) $ fsplit ! $ fsplit ! $ move ! (1 ∷ []) $
    use1 𝓛 (‵ (seen Z κ (within Z p) h) ⊛ ‵ (hidden_shr Count κ a.0.now.passes (count Z p).0 (count Z p).1))
    (fields Z 𝓛 κ a.0.now p) $ split ! $ keep ! (1 ∷ 4 ∷ 0 ∷ 5 ∷ []) $
    -- [the count; the token; the allocator within; the other token]
    enter ! _ _ _ _ _ $ alloc_all !
    (λ l. pass_all ! refl (
      (tt, tt),
      ((tt, record { fits = are.1.0.1 }), ((tt, record { fits = are.1.1.0.1 }), tt)),
    ) $
    sets ! (addr ! (through ! refl (fld ! refl (stop !)))) refl (tt, tt) $
    let G = triple_of 𝓛 ask.signature (ask.spec 𝓛 𝓜.mem 𝓡.returns) in
    let m = count Z p in let vm = vptr m.0 m.1 ∷ [] in
    let z : G.Ghost = (((κ, tt), (q, tt), tt, (record { ref_ptr = m; now = a.0.now.passes }, tt), (vm, tt)), tt) in
    feq_i ! _ vm _ refl $ fjoin ! $ nothing ! $ move ! (1 ∷ []) $ fjoin ! $ nothing ! $ move !
    (2 ∷ 0 ∷ []) $ join ! $ join ! $ nothing ! $ move ! (1 ∷ []) $ join ! $
    use1 𝓛 (raw (G.pre z)) (id⊢ 𝓤 _) $
    calls_at ! (framed 𝓤 𝓛.H 𝓜 𝓣) G (asked 𝓤 𝓛 𝓜 𝓡 (code.calls-test_helpers::refusing::is_refused 𝓡.env wired)) z
    (and_then ! (get ! refl) (no_more !)) (λ v.
    use1 𝓛 (later (some (λ (r : Bool). ((‵ (flft κ q) ⊛ ‵ ftrue) ⊛ ‵ ((bool).own_val r (v ∷ []))) ⊛ some
    (λ (ws : Unit {0} × Unit {0}). ‵ (lasts ask.ended z.0.0 z.0.3 ws) ⊛ ‵ ftrue)))) (id⊢ 𝓤 _) $
    await ! tt $ pick ! (λ r. split ! $ split ! $ move ! (1 ∷ []) $ feq_l !
    (λ is. split ! $ move ! (1 ∷ 2 ∷ []) $ drop ! $ drop ! $ lands_as ! (ap only is) refl (tt, tt) $
    -- [the token; the allocator within; the other token]
    first ! $ branches ! (get ! refl)
    (λ refuses. sets ! (agg ! (no_more !)) refl (tt, tt) $ sets !
    (agg ! (and_then ! (lit ! tt) (and_then ! (get ! refl) (no_more !)))) refl (Answer-typed false 0 0) $
    returns_within ! (W.post y) refl (look_at ! 0 refl) $ free_all ! refl $ move ! (1 ∷ []) $ drop ! $ refused)
    (λ passes. skips ! $ exec ! 𝓣.C 𝓣.Λ (env (here).locals l) (after 3 (here).body) (at_ret _ (W.post y)) $
    let P = Takes Z 𝓛 𝓜.mem 𝓡.returns in let w : P.Ghost = at_takes Z 𝓛 𝓜.mem 𝓡.returns κ q (within Z p) h n al τ in
    move ! (1 ∷ []) $ use2 𝓛 (raw (P.pre w))
    (Takes-goes Z 𝓛 𝓜.mem 𝓡.returns κ q (within Z p) h
    (⊑_trans κ κs.1.0 Y.lives bounds.0 le) n al τ said.0 said.1 are.1.0.1 are.1.1.0.1) $
    sets ! (addr ! (through ! refl (fld ! refl (stop !)))) refl (tt, tt) $
    calls_at ! (framed 𝓤 𝓛.H 𝓜 𝓣) P (met.allocate dd) w
    (and_then ! (get ! refl) (and_then ! (get ! refl) (and_then ! (get ! refl) (no_more !)))) (λ u.
    use1 𝓛 (later (raw (Answered Z 𝓛 𝓜.mem 𝓡.returns h τ u) ⊛ ‵ (flft κ q)))
    (Takes-gives Z 𝓛 𝓜.mem 𝓡.returns κ q (within Z p) h n al τ u) $ await ! tt $ split ! $
    answers Z ! 𝓜.mem 𝓡.returns h τ u
    (λ b o e. fjoin ! $ lands_as ! e refl (Answer-typed true b o) $ returns ! (look_at ! 0 refl) $ free_all ! refl $
    use0 𝓛 (‵ ((Answer).own_val (Ok (block_ptr b o)) (answer_val true b o ∷ []))) (Answer-Ok 𝓛 b o) $ out
    (Ok (block_ptr b o)) (answer_val true b o))
    (λ e. lands_as ! e refl (Answer-typed false 0 0) $ returns !
    (look_at ! 0 refl) $ free_all ! refl $ refused))))))))))
