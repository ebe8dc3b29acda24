-- A store that was only read, and read again.
use Rattle.std.proofs.Common.{refl, ◌∙◌, arith}
use Rattle.xn_inode.specs.declared.store.Store.{Ghosts}
use Rattle.xn_inode.specs.Frames.{StoreStays}

module _ {S : Type 0} (store : Ghosts S) where
  pub stays_at_first : (s : S) → store.IsWhole s → store.OnlyRead s s → StoreStays store s s
  stays_at_first s whole only_read = record {
    image_stays = refl;
    shape_stays = refl;
    pool_stays = refl;
    free_stays = refl;
    is_whole = whole;
    references_stay = refl;
    only_read = only_read;
    faults_later = omega arith;
    fetches_later = omega arith;
  }

  pub stays_on : ((s t u : S) → store.OnlyRead s t → store.OnlyRead t u → store.OnlyRead s u) → (s t u : S) → StoreStays store s t → StoreStays store t u → StoreStays store s u
  stays_on only_read_on s t u a b = record {
    image_stays = b.image_stays ∙ a.image_stays;
    shape_stays = b.shape_stays ∙ a.shape_stays;
    pool_stays = b.pool_stays ∙ a.pool_stays;
    free_stays = b.free_stays ∙ a.free_stays;
    is_whole = b.is_whole;
    references_stay = b.references_stay ∙ a.references_stay;
    only_read = only_read_on s t u a.only_read b.only_read;
    faults_later = omega (arith, a.faults_later, b.faults_later);
    fetches_later = omega (arith, a.fetches_later, b.fetches_later);
  }
