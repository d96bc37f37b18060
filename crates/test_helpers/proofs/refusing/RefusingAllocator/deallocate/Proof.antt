-- The block goes back to the allocator within.
use Rattle.test_helpers.proofs.Steps.{◌≡◌, [], ◌∷◌, refl, w64, proved, fst∗, never, ftrue, fsep, flft, a_type, dnil, dcons, inst_fn, vunit, vint, vptr, size, align, capped, ◌⊑◌, ⊑_trans, fact, tables, ‵, raw, ◌⊛◌, later, given, prop, ◌$◌, ◌∵◌, !, qed, done, move, keep, use1, split, split3, join, learn, fsplit, fjoin, feq_i, regoal, suffices, await, group, enter, of_opd, unit_lit, addr, stop, fld, no_more, and_then, returns, alloc_all, pass_all, free_all, look_at, get, through, sets, lands_as, usize, yes, bounded, uint_vals, uint_Tells, owns, Ptr, RawPtr, block_ptr, null_ptr, ptr_val, room_for, in_a_block, rawptr_vals, rawptr_Tells, shr_vals, plain, types_at, heard, nothing, calls_at, Ended, framed, Stays, stay_dropped, Goes-dropped, walk_of, ends_at, Al, seen, token, Gives, at_gives, Gives-goes, Gives-Gives, WpFn, sem, hidden_shr}
use Rattle.test_helpers.proofs.Fields.{Count, slot, within, count, fields}
use Rattle.test_helpers.specs.contracts.refusing.RefusingAllocator.deallocate as f
use Rattle.test_helpers.proofs.refusing.RefusingAllocator.deallocate.Statement.{statement}
use Rattle.test_helpers.proofs.refusing.RefusingAllocator.deallocate.Code as code

pub deallocate_spec : {M : Type 1} → statement M
deallocate_spec 𝓤 𝓛 𝓜 𝓡 wired Y L g d dd met _ =
    let Z : Al = record { row = Y; laws = L; g = g; d = d; drops = dd } in
    let T : Ended = f.ended Y g d dd in
    let here = inst_fn (bounded (a_type ∷ []) (Y, tt) (dcons d (dcons dd dnil))) code.function in
    let kept : Stays T.signature.params T.kept =
    (stay_dropped _ yes, (stay_dropped _ yes, (stay_dropped _ yes, (stay_dropped _ yes, tt)))) in
    let c = f.clauses Y g d dd 𝓛 𝓜.mem 𝓡.returns in
    let W = walk_of 𝓛 T kept c in
    let 𝓣 = tables 𝓤 𝓛.H 𝓜 𝓡 𝓡.env in
    proved 𝓛 T kept c 𝓜 𝓡 (
      Goes-dropped 𝓛 2 (slot Z) yes (λ κs x w. refl),
      (
        Goes-dropped 𝓛 2 (plain (λ _. RawPtr)) yes (λ κs x w. refl),
        (
          Goes-dropped 𝓛 2 (plain (λ _. usize)) yes (λ κs x w. refl),
          (Goes-dropped 𝓛 2 (plain (λ _. usize)) yes (λ κs x w. refl), tt),
        ),
      ),
    )
    (f.Key.name (bounded (a_type ∷ []) (Y, tt) (dcons d (dcons dd dnil)))) here
    (code.unfolded 𝓤 𝓛.H 𝓜 𝓡 wired (Y, tt) d dd)
    (λ κs. (shr_vals, (rawptr_vals, (uint_vals w64, (uint_vals w64, tt))))) (λ κs. (
      (λ r vs s. s.0),
      (rawptr_Tells, (uint_Tells w64, (uint_Tells w64, tt))),
    )) (λ κs qs bounds a τ are.
    let κ = κs.0 in let q = qs.0 in let p = a.0.ref_ptr in let h = a.0.now.inner in let n = a.1.1.0 in
    let al = a.1.1.1.0 in
    let y : Ptr → W.Ghost = λ r. (
      (
        κs,
        qs,
        bounds,
        (a.0, (r, a.1.1)),
        (shr_vals a.0, (rawptr_vals r, (uint_vals w64 n, (uint_vals w64 al, tt)))),
      ),
      τ,
    ) in
    qed 𝓛 (((‵ (flft κ q) ⊛ ‵ (flft κs.1.0 qs.1.0) ⊛ ‵ ftrue) ⊛ ‵
    (owns (types_at T.signature.params κs) a (y a.1.0).0.4))
    ∷ (raw (fact 𝓤 (κs.1.0 ⊑ Y.lives)) ⊛ raw (fact 𝓤 ((capped (size τ) ≡ n) × (capped (align τ) ≡ al))) ⊛ ‵
    (fsep (room_for τ a.1.0) (token Z h τ a.1.0))) ∷ []) ∵
    move ! (1 ∷ []) $ split3 ! $ heard ! _ (λ le. heard ! _ (λ said.
    in_a_block ! a.1.0 (λ r. fsep (room_for τ r) (token Z h τ r)) (fst∗ 𝓤 (never 𝓤) (sem 𝓛 (token Z h τ null_ptr)))
    (λ b o e.
    regoal ! (λ r. prop (WpFn 𝓤 𝓛.H 𝓣.C 𝓣.Λ here
    (vptr p.0 p.1 ∷ ptr_val r ∷ vint w64 n ∷ vint w64 al ∷ []) (W.post (y r)))) e refl $
    fsplit ! $ move ! (2 ∷ []) $ split ! $ split ! $ move ! (2 ∷ []) $ fsplit ! $ fsplit ! $ move ! (1 ∷ []) $
    use1 𝓛 (‵ (seen Z κ (within Z p) h) ⊛ ‵ (hidden_shr Count κ a.0.now.passes (count Z p).0 (count Z p).1))
    (fields Z 𝓛 κ a.0.now p) $ split ! $ keep ! (6 ∷ 7 ∷ 0 ∷ 4 ∷ 5 ∷ []) $
    -- [the block; the right to free it; the allocator within; the tokens, in two entries]
    let G = Gives Z 𝓛 𝓜.mem 𝓡.returns in let z : G.Ghost = at_gives Z 𝓛 𝓜.mem 𝓡.returns κ q (within Z p) h b o n al τ in
    group ! 4 $ use1 𝓛 (raw (G.pre z))
    (Gives-goes Z 𝓛 𝓜.mem 𝓡.returns κ q (within Z p) h
    (⊑_trans κ κs.1.0 Y.lives bounds.0 le) b o n al τ said.0 said.1 are.1.1.0.1 are.1.1.1.0.1) $
    enter ! _ _ _ _ _ $ alloc_all !
    (λ l. pass_all ! refl (
      (tt, tt),
      ((tt, tt), ((tt, record { fits = are.1.1.0.1 }), ((tt, record { fits = are.1.1.1.0.1 }), tt))),
    ) $
    sets ! (addr ! (through ! refl (fld ! refl (stop !)))) refl (tt, tt) $
    calls_at ! (framed 𝓤 𝓛.H 𝓜 𝓣) G (met.deallocate dd) z
    (and_then ! (get ! refl) (and_then ! (get ! refl)
    (and_then ! (get ! refl) (and_then ! (get ! refl) (no_more !))))) (λ v.
    use1 𝓛 (later (given (v ≡ vunit) (‵ (flft κ q)))) (Gives-Gives Z 𝓛 𝓜.mem 𝓡.returns κ q (within Z p) h b o n al τ v)
    $ await ! tt $ learn ! (λ is_unit.
    lands_as ! is_unit refl (tt, tt) $ sets ! (of_opd ! (unit_lit !)) refl (tt, tt) $ returns !
    (look_at ! 0 refl) $ free_all ! refl $
    suffices ! _ (ends_at 𝓛 T kept c (y (block_ptr b o)) vunit tt
    (tt, (tt, (tt, (tt, tt)))) (tt, (tt, (tt, (tt, tt))))) $
    nothing ! $ feq_i ! _ (vunit ∷ []) _ refl $ nothing ! $ nothing ! $ fjoin ! $ nothing ! $ fjoin ! $ nothing ! $
    fjoin ! $ nothing ! $ fjoin ! $
    move ! (3 ∷ 4 ∷ []) $ join ! $ group ! 3 $ done !)))))))
