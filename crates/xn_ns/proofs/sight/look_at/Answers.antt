use Rattle.std.proofs.Common.{◌≡◌, ℕ, List, Option, Some, None, subst}
use Rattle.std.specs.Prelude.{IfSome}
use Rattle.xn_bytes.specs.Superblock.{Geometry}
use Rattle.xn_bytes.specs.Inode.{inode_of}
use Rattle.xn_bytes.proofs.TestLemmas.{holds}
use Rattle.xn_meaning.specs.Manifests.{Manifest, IsLive}
use Rattle.xn_ns.specs.declared.sight.Sight.{Sight}
use Rattle.xn_ns.specs.Sights.{IsSightOf}
use Rattle.xn_ns.proofs.sight.look_at.Goals as goal

-- what is seen by the bytes is seen of the image that they are of
seen_in : (g : Geometry) (m : Manifest) (image : Option (List ℕ)) (ino : ℕ) (bytes : List ℕ) (seen : Sight) → IfSome image (λ x. bytes ≡ inode_of g x ino) → IsSightOf g m bytes ino seen → IfSome image (λ x. IsSightOf g m (inode_of g x ino) ino seen)
seen_in g m None ino bytes seen are is = tt
seen_in g m (Some x) ino bytes seen are is = subst (λ (inode : List ℕ). IsSightOf g m inode ino seen) are is

pub returns-clause-seen : goal.returns-clause-seen
returns-clause-seen g c =
    let read = c.in_ok-inode.ensures in
    let live = subst (λ (shape : Geometry). IsLive shape c.args.manifest.now c.args.ino) c.geometry.ensures (holds c.if-not-is_live.ensures) in
    let seen = rw (c.geometry-2.ensures, read.shape) at c.sight_of.ensures in
    seen_in (g.S.Store.shape c.args.store.now) c.args.manifest.now (g.S.Store.image c.args.store.now) c.args.ino _ _ read.bytes (seen c.args.manifest.now live)
