use Rattle.std.proofs.Common.{refl, subst, inl, inr}
use Rattle.xn_bytes.specs.Superblock.{Geometry, HasGroups, HasLog, HasRoot, HasLength}
use Rattle.xn_bytes.proofs.TestLemmas.{holds, fails}
use Rattle.xn_inode.proofs.superblock.broken_field.Goals as goal

pub returns-then-not-has_right_checksum : goal.returns-then-not-has_right_checksum
returns-then-not-has_right_checksum c =
    let s = c.args.sector.now in
    let n = c.args.sectors in
    inr (holds c.if-not-has_magic.ensures, inl (refl, fails c.if-not-has_right_checksum.ensures))

pub returns-then-not-has_block_size : goal.returns-then-not-has_block_size
returns-then-not-has_block_size c =
    let s = c.args.sector.now in
    let n = c.args.sectors in
    inr (holds c.if-not-has_magic.ensures, inr (holds c.if-not-has_right_checksum.ensures, inr (holds c.if-not-has_version.ensures, inl (refl, fails c.if-not-has_block_size.ensures))))

pub returns-then-not-has_sector_size : goal.returns-then-not-has_sector_size
returns-then-not-has_sector_size c =
    let s = c.args.sector.now in
    let n = c.args.sectors in
    inr (holds c.if-not-has_magic.ensures, inr (holds c.if-not-has_right_checksum.ensures, inr (holds c.if-not-has_version.ensures, inr (holds c.if-not-has_block_size.ensures, inl (refl, fails c.if-not-has_sector_size.ensures)))))

pub returns-then-not-has_directory_blocks : goal.returns-then-not-has_directory_blocks
returns-then-not-has_directory_blocks c =
    let s = c.args.sector.now in
    let n = c.args.sectors in
    let same = c.read-fields.ensures in
    inr (holds c.if-not-has_magic.ensures, inr (holds c.if-not-has_right_checksum.ensures, inr (holds c.if-not-has_version.ensures, inr (holds c.if-not-has_block_size.ensures, inr (holds c.if-not-has_sector_size.ensures, inr (holds c.if-not-has_inode_size.ensures, inr (subst (λ (g : Geometry). HasGroups g) same (holds c.if-not-has_groups.ensures), inl (refl, fails c.if-not-has_directory_blocks.ensures))))))))

pub returns-then-not-has_root : goal.returns-then-not-has_root
returns-then-not-has_root c =
    let s = c.args.sector.now in
    let n = c.args.sectors in
    let same = c.read-fields.ensures in
    inr (holds c.if-not-has_magic.ensures, inr (holds c.if-not-has_right_checksum.ensures, inr (holds c.if-not-has_version.ensures, inr (holds c.if-not-has_block_size.ensures, inr (holds c.if-not-has_sector_size.ensures, inr (holds c.if-not-has_inode_size.ensures, inr (subst (λ (g : Geometry). HasGroups g) same (holds c.if-not-has_groups.ensures), inr (holds c.if-not-has_directory_blocks.ensures, inr (subst (λ (g : Geometry). HasLog s g) same (holds c.if-not-has_log.ensures), inr (holds c.if-not-has_incompat.ensures, inr (holds c.if-not-has_read_only_compat.ensures, inl (refl, (subst (λ (g : Geometry). HasRoot g → ⊥) same (fails c.if-not-has_root.ensures))))))))))))))

pub returns-then-not-has_length : goal.returns-then-not-has_length
returns-then-not-has_length c =
    let s = c.args.sector.now in
    let n = c.args.sectors in
    let same = c.read-fields.ensures in
    inr (holds c.if-not-has_magic.ensures, inr (holds c.if-not-has_right_checksum.ensures, inr (holds c.if-not-has_version.ensures, inr (holds c.if-not-has_block_size.ensures, inr (holds c.if-not-has_sector_size.ensures, inr (holds c.if-not-has_inode_size.ensures, inr (subst (λ (g : Geometry). HasGroups g) same (holds c.if-not-has_groups.ensures), inr (holds c.if-not-has_directory_blocks.ensures, inr (subst (λ (g : Geometry). HasLog s g) same (holds c.if-not-has_log.ensures), inr (holds c.if-not-has_incompat.ensures, inr (holds c.if-not-has_read_only_compat.ensures, inr (subst (λ (g : Geometry). HasRoot g) same (holds c.if-not-has_root.ensures), inl (refl, (subst (λ (g : Geometry). HasLength g n → ⊥) same (fails c.if-not-has_length.ensures)))))))))))))))
