-- What a call that only reads a store leaves of it.
use Rattle.std.specs.Prelude.{◌≡◌, ◌≤◌}
use Rattle.xn_inode.specs.declared.store.Store.{Ghosts}

-- A store that was only read: image, superblock, pool and free blocks are as before, it is whole, it holds the same
-- references, what its user knows beside stays, and no count fell.
pub record StoreStays {S : Type 0} (store : Ghosts S) (old new : S) : Type 0 where
  pub image_stays : store.image new ≡ store.image old
  pub shape_stays : store.shape new ≡ store.shape old
  pub pool_stays : store.pool new ≡ store.pool old
  pub free_stays : store.free new ≡ store.free old
  pub is_whole : store.IsWhole new
  pub references_stay : store.references new ≡ store.references old
  pub only_read : store.OnlyRead old new
  pub faults_later : store.faults old ≤ store.faults new
  pub fetches_later : store.fetches old ≤ store.fetches new
