-- Rule 2, by the pool that was made of a manifest's runs, and by where the inodes of its chunks stand.
use Rattle.std.proofs.Common.{◌≡◌, ℕ, ◌+◌, ◌/◌, ◌^◌, ◌≤◌, List, [], ◌∷◌, get_or, Option, Some, None, refl, sym, subst, arith}
use Rattle.std.specs.Prelude.{All, Any, Contains, IsSomeAnd, slice_get}
use Rattle.std.proofs.lemmas.List.{get_or_default}
use Rattle.std.proofs.lemmas.List.Elements.{All-cons}
use Rattle.std.proofs.lemmas.Option.{slice_get_within, get_or_from_slice_get}
use Rattle.xn_bytes.specs.Superblock.{Geometry}
use Rattle.xn_bytes.specs.Blocks.{IsHome}
use Rattle.xn_meaning.specs.Manifests.{Manifest, AreChunks, ChunkLists, HasPlaces, RunHas}
use Rattle.xn_pool.specs.Pools.{PoolState, IsPoolOf, IsHomeRun, IsFirstForeign}
use Rattle.xn_check.specs.Places.{AreStarts, ChunkIsPlaced, IsPlaced, IsPoolFor}

-- starts of chunks are small
pub starts : (least : ℕ) (chunks : List (ℕ × ℕ)) → AreChunks least chunks → AreStarts chunks
starts least [] lawful = λ k d lt. absurd (omega (arith, lt))
starts least (chunk ∷ chunks) lawful = All-cons (λ (c : ℕ × ℕ). c.0 ≤ 2 ^ 56) chunk chunks lawful.1 (starts (chunk.0 + 64) chunks lawful.3)

-- where all inodes are placed, the pool is the manifest's
pub is_pool : (g : Geometry) (m : Manifest) (pool : PoolState) → IsPoolOf g m.runs pool → All (ChunkIsPlaced g pool) m.chunks → IsPoolFor g m pool
is_pool g m pool of placed =
    let one : (ino : ℕ) → Any (ChunkLists ino) m.chunks → IsPlaced g pool ino
    = λ ino lists. subst (ChunkIsPlaced g pool) lists.3 (placed lists.0 lists.1 lists.2) ino lists.4 in
    let home : (block : ℕ) → Any (RunHas block) m.runs → IsHome g block
    = λ block inside. let found = (of.has block).1 inside in subst (IsHome g) found.2 (of.home found.0 block found.1) in
    record {
      places = record {
        inodes = λ ino lists. (one ino lists).home;
        pool = home;
        apart = λ ino lists inside. (one ino lists).apart (subst (λ (free : List ℕ). Contains free (ino / 8)) (sym of.free) ((of.has (ino / 8)).1 inside));
      };
      blocks = of.has;
      free = of.free;
    }

-- where rule 2 holds, all inodes are placed
pub are_placed : (g : Geometry) (m : Manifest) (pool : PoolState) → IsPoolOf g m.runs pool → HasPlaces g m → All (ChunkIsPlaced g pool) m.chunks
are_placed g m pool of places = λ k d lt ino lists.
    let any : Any (ChunkLists ino) m.chunks = (k, get_or m.chunks k d, lt, get_or_default m.chunks k (get_or m.chunks k d) d lt, lists) in
    record {
      home = places.inodes ino any;
      apart = λ free. places.apart ino any ((of.has (ino / 8)).0 (subst (λ (blocks : List ℕ). Contains blocks (ino / 8)) of.free free));
    }

-- where a run lies elsewhere, rule 2 is broken
foreign_run : (g : Geometry) (m : Manifest) (at : ℕ) (found : Option (ℕ × ℕ)) → slice_get m.runs at ≡ found → IsSomeAnd found (λ run. IsHomeRun g run → ⊥) → HasPlaces g m → ⊥
foreign_run g m at None same out places = absurd out
foreign_run g m at (Some run) same out places =
    out (λ block has. places.pool block (at, run, slice_get_within m.runs at run same, get_or_from_slice_get m.runs at run run same, has))

pub none_where_foreign : (g : Geometry) (m : Manifest) (at : ℕ) → IsFirstForeign g m.runs at → HasPlaces g m → ⊥
none_where_foreign g m at first places = foreign_run g m at (slice_get m.runs at) refl first.foreign places
