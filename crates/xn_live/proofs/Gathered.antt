-- The live inodes of all chunks, gathered chunk by chunk.
use Rattle.std.proofs.Common.{◌≡◌, ℕ, ◌+◌, ◌<◌, ◌≤◌, ◌^◌, List, [], ◌∷◌, length, get_or, drop, sym, subst, arith, inl, inr}
use Rattle.std.specs.Prelude.{Any, Contains}
use Rattle.std.proofs.lemmas.Bool.{cases_lt}
use Rattle.std.proofs.lemmas.List.{at_drop_more, get_or_default}
use Rattle.xn_bytes.specs.Superblock.{Geometry}
use Rattle.xn_meaning.specs.Manifests.{Manifest, AreChunks, ChunkLists, IsLive}
use Rattle.xn_rules.specs.Namings.{AreLive}
use Rattle.xn_live.specs.Gathering.{AreAdded, AreRisingBelow, IsLiveOf}
use Rattle.xn_live.proofs.Added.{none_rise, rising_higher}

-- the chunks from a place on begin behind all that was gathered
pub record LieBehind (chunks : List (ℕ × ℕ)) (live : List ℕ) : Type 0 where
  pub bound : ℕ
  pub rising : AreRisingBelow bound live
  pub lawful : AreChunks bound chunks

-- the live inodes of the chunks below a place are gathered
pub record GatheredBelow (g : Geometry) (chunks : List (ℕ × ℕ)) (i : ℕ) (live : List ℕ) : Type 0 where
  pub behind : LieBehind (drop i chunks) live
  pub there : (k : ℕ) (d : ℕ × ℕ) (ino : ℕ) → k < i → IsLiveOf g (get_or chunks k d) ino → Contains live ino
  pub only : (ino : ℕ) → Contains live ino → Any (λ chunk. IsLiveOf g chunk ino) chunks

-- none is gathered at first
pub gathered_none : (g : Geometry) (chunks : List (ℕ × ℕ)) → AreChunks 0 chunks → GatheredBelow g chunks 0 []
gathered_none g chunks lawful = record {
  behind = record { bound = 0; rising = none_rise; lawful = lawful };
  there = λ k d ino below live. absurd (omega (arith, below));
  only = λ ino has. absurd (omega (arith, has.1));
}

-- ---- the next chunk

-- the first of the chunks is small, and lies behind
pub first_chunk : (chunk : ℕ × ℕ) (chunks : List (ℕ × ℕ)) (live : List ℕ) → LieBehind (chunk ∷ chunks) live → (chunk.0 ≤ 2 ^ 56) × AreRisingBelow chunk.0 live
first_chunk chunk chunks live behind = (behind.lawful.1, rising_higher behind.bound chunk.0 live behind.lawful.0 behind.rising)

-- the rest of them lies behind that one's inodes
behind_first : (g : Geometry) (chunk : ℕ × ℕ) (chunks : List (ℕ × ℕ)) (live more : List ℕ) → LieBehind (chunk ∷ chunks) live → AreAdded g chunk live more → LieBehind chunks more
behind_first g chunk chunks live more behind added = record { bound = chunk.0 + 64; rising = added.rising; lawful = behind.lawful.3 }

-- the chunk at the place is the first of those that lie behind
next_chunk : (g : Geometry) (chunks : List (ℕ × ℕ)) (i : ℕ) (d : ℕ × ℕ) (live : List ℕ) → i < length chunks → GatheredBelow g chunks i live
    → LieBehind (get_or chunks i d ∷ drop (i + 1) chunks) live
next_chunk g chunks i d live lt so_far = subst (λ (rest : List (ℕ × ℕ)). LieBehind rest live) (at_drop_more (λ (rest : List (ℕ × ℕ)). rest) chunks i d lt) so_far.behind

-- what adding it asks for
pub next_small : (g : Geometry) (chunks : List (ℕ × ℕ)) (i : ℕ) (d : ℕ × ℕ) (live : List ℕ) → i < length chunks → GatheredBelow g chunks i live
    → ((get_or chunks i d).0 ≤ 2 ^ 56) × AreRisingBelow (get_or chunks i d).0 live
next_small g chunks i d live lt so_far = first_chunk (get_or chunks i d) (drop (i + 1) chunks) live (next_chunk g chunks i d live lt so_far)

-- its live inodes are gathered too
pub gathered_more : (g : Geometry) (chunks : List (ℕ × ℕ)) (i : ℕ) (d : ℕ × ℕ) (live more : List ℕ) → i < length chunks → GatheredBelow g chunks i live
    → AreAdded g (get_or chunks i d) live more → GatheredBelow g chunks (i + 1) more
gathered_more g chunks i d live more lt so_far added = record {
  behind = behind_first g (get_or chunks i d) (drop (i + 1) chunks) live more (next_chunk g chunks i d live lt so_far) added;
  there = λ k e ino below one. elim (cases_lt k i) [
    | inl early ↦ (added.each ino).1 (inl (so_far.there k e ino early one))
    | inr late ↦
        let same : k ≡ i = omega (arith, below, late) in
        let here : IsLiveOf g (get_or chunks i e) ino = subst (λ (j : ℕ). IsLiveOf g (get_or chunks j e) ino) same one in
        (added.each ino).1 (inr (subst (λ (chunk : ℕ × ℕ). IsLiveOf g chunk ino) (get_or_default chunks i e d lt) here))
  ];
  only = λ ino has. elim ((added.each ino).0 has) [
    | inl old ↦ so_far.only ino old
    | inr new ↦ (i, get_or chunks i d, lt, get_or_default chunks i (get_or chunks i d) d lt, new)
  ];
}

-- ---- all chunks

-- all live inodes of a manifest are gathered
pub gathered_all : (g : Geometry) (m : Manifest) (i : ℕ) (live : List ℕ) → length m.chunks ≤ i → GatheredBelow g m.chunks i live → AreLive g m live
gathered_all g m i live past so_far =
    let there : (ino : ℕ) → IsLive g m ino → Contains live ino
    = λ ino is.
    let listed = is.listed in
    let lt = listed.2 in
    so_far.there listed.0 listed.1 ino (omega (arith, past, lt))
    (record { listed = subst (λ (chunk : ℕ × ℕ). ChunkLists ino chunk) (sym listed.3) listed.4; not_own = is.not_own }) in
    let is_live : (ino : ℕ) → Contains live ino → IsLive g m ino
    = λ ino has.
    let one = so_far.only ino has in
    record { listed = (one.0, one.1, one.2, one.3, one.4.listed); not_own = one.4.not_own } in
    record {
      rising = so_far.behind.rising.rising;
      each = λ ino. (is_live ino, there ino);
    }
