use Rattle.std.proofs.Common.{◌≡◌, ◌-◌, refl, ap, ◌∙◌, arith, length, drop}
use Rattle.dm_gf256.specs.Field.{add_scaled}
use Rattle.dm_corrector.proofs.{BlockRemainders.is_remainder, WordsByPlace.all_bytes}
use Rattle.dm_corrector.proofs.block.write_remainder.Goals as goal

pub returns-clause-remainder : goal.returns-clause-remainder
returns-clause-remainder c =
    let block = c.args.block.now in
    let word = c.args.word.now in
    let checks = length c.args.remainder.now in
    let d = length block - checks in
    let rest : c.add_multiple.new.target ≡ add_scaled 1 (drop d block) (drop d word) =
    c.add_multiple.ensures ∙ ap (λ t. add_scaled 1 t c.split_at-2.result.1.now) (c.copy_from_slice.ensures.after ∙
    c.split_at.ensures.back)
    ∙ ap (add_scaled 1 (drop d block)) c.split_at-2.ensures.back in
    is_remainder checks d block word c.add_multiple.new.target (omega arith) (let e = c.requires.size in omega arith)
    (omega arith) c.requires.«data» c.requires.completed
    (all_bytes c.add_multiple.new.target c.add_multiple.new.target refl (λ k. (c.type_inv.remainder k).fits)) rest

pub returns-clause-bytes : goal.returns-clause-bytes
returns-clause-bytes c = all_bytes c.args.block.now c.args.block.now refl (λ k. (c.type_inv.block k).fits)
