use Rattle.std.proofs.Common.{◌<◌, arith, length-append, length-take, length-drop}
use Rattle.std.proofs.lemmas.List.{append-nil, drop_all, Elements.All-from_get_or}
use Rattle.dm_size.proofs.Sound.{sound}
use Rattle.dm_check_blocks.proofs.Interleaving.{single_block}
use Rattle.dm_check_blocks.proofs.symbol.complete_blocks.Goals as goal
use borrow.Rule.Slice.PartMut.{put_mid}

pub returns-then-blocks-eq1-clause-completed : goal.returns-then-blocks-eq1-clause-completed
returns-then-blocks-eq1-clause-completed c =
    grind (arith, append-nil, drop_all, length-append, length-drop, length-take, put_mid, single_block, sound)

pub returns-then-blocks-eq1-clause-bytes : goal.returns-then-blocks-eq1-clause-bytes
returns-then-blocks-eq1-clause-bytes c = All-from_get_or (λ word. word < 256) _ 0 (λ i h. (c.type_inv.words i).fits)
