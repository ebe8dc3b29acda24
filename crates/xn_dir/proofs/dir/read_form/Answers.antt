use Rattle.std.proofs.Common.{◌∙◌}
use Rattle.std.proofs.lemmas.Result.{IfErr-weaker}
use Rattle.xn_bytes.specs.DirectoryRules.{BreaksBlocks, FailsBlocks}
use Rattle.xn_dir.proofs.OverImages.{over_form, has_inode}
use Rattle.xn_dir.proofs.dir.read_form.Goals as goal

pub returns-clause-fault : goal.returns-clause-fault
returns-clause-fault g c =
    let shape = c.geometry.ensures ∙ c.in_ok-inode.ensures.shape in
    IfErr-weaker c.form_of.result _ _
    (λ fault is. over_form BreaksBlocks (g.S.Store.shape c.args.store.now) c.args.dir (g.S.Store.image c.args.store.now) c.inode.new.into _ _ fault c.in_ok-inode.ensures.bytes c.requires.directory is)
    (rw shape at c.form_of.ensures.fault)

pub returns-clause-seen : goal.returns-clause-seen
returns-clause-seen g c =
    let shape = c.geometry.ensures ∙ c.in_ok-inode.ensures.shape in
    IfErr-weaker c.form_of.result _ _
    (λ fault is. over_form FailsBlocks (g.S.Store.shape c.args.store.now) c.args.dir (g.S.Store.image c.args.store.now) c.inode.new.into _ _ fault c.in_ok-inode.ensures.bytes c.requires.directory is)
    (rw shape at c.form_of.ensures.fault)

pub returns-clause-inode : goal.returns-clause-inode
returns-clause-inode g c =
    let shape = c.geometry.ensures ∙ c.in_ok-inode.ensures.shape in
    has_inode (g.S.Store.shape c.args.store.now) c.args.dir (g.S.Store.image c.args.store.now) c.inode.new.into c.form_of.result c.in_ok-inode.ensures.bytes (rw shape at c.form_of.ensures.sound)
