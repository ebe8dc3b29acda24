use Rattle.xn_bytes.specs.Superblock.{sector_of_block}
use Rattle.xn_replay.proofs.Putting.{was_put}
use Rattle.xn_replay.proofs.seen.SeenStore.put_block.Goals as goal

pub returns-clause-put : goal.returns-clause-put
returns-clause-put g c =
    (was_put c.keep.result c.map_err.result _ _ _ _ _ _ _ _ 8 (λ s. sector_of_block s c.args.block) _
    c.requires.whole c.geometry.ensures c.sector_of_block-first.ensures.value c.sector_of_block-first.ensures.within c.requires.size
    c.keep.ensures.others c.keep.ensures.ok c.keep.ensures.err c.map_err.ensures.variant).put

pub returns-clause-part : goal.returns-clause-part
returns-clause-part g c =
    (was_put c.keep.result c.map_err.result _ _ _ _ _ _ _ _ 8 (λ s. sector_of_block s c.args.block) _
    c.requires.whole c.geometry.ensures c.sector_of_block-first.ensures.value c.sector_of_block-first.ensures.within c.requires.size
    c.keep.ensures.others c.keep.ensures.ok c.keep.ensures.err c.map_err.ensures.variant).part

pub returns-clause-whole : goal.returns-clause-whole
returns-clause-whole g c =
    (was_put c.keep.result c.map_err.result _ _ _ _ _ _ _ _ 8 (λ s. sector_of_block s c.args.block) _
    c.requires.whole c.geometry.ensures c.sector_of_block-first.ensures.value c.sector_of_block-first.ensures.within c.requires.size
    c.keep.ensures.others c.keep.ensures.ok c.keep.ensures.err c.map_err.ensures.variant).whole
