-- The blocks of a directory in leaf or node form that are read differ, so that they are at most as many as are mapped.
use Rattle.std.proofs.Common.{◌≡◌, ◌≢◌, ℕ, zero, suc, ◌+◌, ◌<◌, ◌≤◌, Bool, false, List, [], ◌∷◌, ◌++◌, subst, arith, inl, inr}
use Rattle.std.specs.Prelude.{◌⊎◌, All, AllPairs, IsSome, IsTrue}
use Rattle.std.proofs.lemmas.Grind.{common_steps}
use Rattle.std.proofs.lemmas.Bool.Decides.{nat_tests}
use Rattle.std.proofs.lemmas.List.{length-append}
use Rattle.std.proofs.lemmas.List.Elements.{All-append, All-cons, All-head, All-nil, All-tail, All-weaker}
use Rattle.std.proofs.lemmas.List.Kept.{AllPairs-cons}
use Rattle.xn_bytes.specs.Costs.{mapped_count}
use Rattle.xn_bytes.specs.Extents.{Run, mapped}
use Rattle.xn_bytes.specs.HashedTree.{free_file_block, leaf_file_block}
use Rattle.xn_bytes.specs.Trees.{is_tree_number}
use Rattle.xn_inode.proofs.Counts.{few_of_mapped}
use Rattle.xn_dir.specs.Bests.{FetchesFree, IsFreeBlock}
use Rattle.xn_dir.specs.Gathering.{FetchesData, IsMappedData}
use Rattle.xn_datree.specs.Forks.{FetchesBlocks}
use Rattle.xn_datree.specs.declared.fork.Fork.{Fork}
use Rattle.xn_dir.specs.Hashed.{IsDirFork}
use Rattle.xn_dir.specs.Indexed.{FetchesIndex}
use Rattle.xn_dir.proofs.FreeBlocks.{read_once}

-- ---- lists that differ

pairs_nil : AllPairs (λ (a : ℕ) b. a ≢ b) []
pairs_nil i j d below within = absurd (omega (arith, within))

pairs_tail : (x : ℕ) (xs : List ℕ) → AllPairs (λ a b. a ≢ b) (x ∷ xs) → AllPairs (λ a b. a ≢ b) xs
pairs_tail x xs pairs i j d below within = pairs (suc i) (suc j) d (omega (arith, below)) (omega (arith, within))

pairs_head : (x : ℕ) (xs : List ℕ) → AllPairs (λ a b. a ≢ b) (x ∷ xs) → All (λ y. x ≢ y) xs
pairs_head x xs pairs k d within = pairs zero (suc k) d (omega arith) (omega (arith, within))

-- numbers below a limit, and behind them those from the limit on
pairs_append : (limit : ℕ) (xs ys : List ℕ) → All (λ n. n < limit) xs → All (λ n. limit ≤ n) ys → AllPairs (λ a b. a ≢ b) xs → AllPairs (λ a b. a ≢ b) ys
    → AllPairs (λ a b. a ≢ b) (xs ++ ys)
pairs_append limit [] ys low high first second = second
pairs_append limit (x ∷ xs) ys low high first second =
    let here = All-head (λ (n : ℕ). n < limit) x xs low in
    let apart : All (λ y. x ≢ y) ys = All-weaker (λ n. limit ≤ n) (λ y. x ≢ y) (λ y above same. omega (arith, here, above, same)) ys high in
    AllPairs-cons (λ a b. a ≢ b) x (xs ++ ys) (All-append (λ y. x ≢ y) xs ys (pairs_head x xs first) apart)
    (pairs_append limit xs ys (All-tail (λ (n : ℕ). n < limit) x xs low) high (pairs_tail x xs first) second)

-- ---- the blocks of the tree

in_leaves : (fork : Fork) (n : ℕ) → IsDirFork fork → (n ≡ fork.root) ⊎ IsTrue (is_tree_number fork.attribute n) → (leaf_file_block ≤ n) × (n < free_file_block)
in_leaves fork n is (inl root) = (omega (arith, root, is.root), omega (arith, root, is.root))
in_leaves fork n is (inr number) =
    let of_data : IsTrue (is_tree_number false n) = subst (λ (a : Bool). IsTrue (is_tree_number a n)) is.is_data number in
    (grind (arith, nat_tests, common_steps, of_data), grind (arith, nat_tests, common_steps, of_data))

behind_data : (fork : Fork) (a b : ℕ) → IsDirFork fork → (walked : FetchesBlocks fork a b) → All (λ n. leaf_file_block ≤ n) walked.read
behind_data fork a b is walked =
    All-weaker (λ n. (n ≡ fork.root) ⊎ IsTrue (is_tree_number fork.attribute n)) (λ n. leaf_file_block ≤ n) (λ n in_tree. (in_leaves fork n is in_tree).0) walked.read walked.of_tree

-- the blocks of the tree alone
pub tree_reads : (fork : Fork) (a b : ℕ) → IsDirFork fork → FetchesBlocks fork a b → FetchesIndex fork.extents a b
tree_reads fork a b is walked = record {
  read = walked.read;
  once = walked.once;
  behind = behind_data fork a b is walked;
  there = walked.there;
  fetches = walked.fetches;
}

-- ---- what is fetched of leaf and node form

-- the blocks of the tree, and behind them free-index blocks
pub node_reads : (fork : Fork) (a b c : ℕ) → IsDirFork fork → FetchesBlocks fork a b → FetchesFree fork.extents b c → FetchesIndex fork.extents a c
node_reads fork a b c is walked free =
    let runs = fork.extents in
    let low : All (λ n. n < free_file_block) walked.read =
    All-weaker (λ n. (n ≡ fork.root) ⊎ IsTrue (is_tree_number fork.attribute n)) (λ n. n < free_file_block) (λ n in_tree. (in_leaves fork n is in_tree).1) walked.read walked.of_tree in
    let high : All (λ n. free_file_block ≤ n) free.read = All-weaker (IsFreeBlock runs) (λ n. free_file_block ≤ n) (λ n one. one.0) free.read free.free in
    let behind : All (λ n. leaf_file_block ≤ n) free.read = All-weaker (λ n. free_file_block ≤ n) (λ n. leaf_file_block ≤ n) (λ n one. omega (arith, one)) free.read high in
    let there : All (λ n. IsSome (mapped runs n)) free.read = All-weaker (IsFreeBlock runs) (λ n. IsSome (mapped runs n)) (λ n one. one.1) free.read free.free in
    record {
      read = walked.read ++ free.read;
      once = pairs_append free_file_block walked.read free.read low high walked.once (read_once free.read free.rising);
      behind = All-append (λ n. leaf_file_block ≤ n) walked.read free.read (behind_data fork a b is walked) behind;
      there = All-append (λ n. IsSome (mapped runs n)) walked.read free.read walked.there there;
      fetches = omega (arith, walked.fetches, free.fetches, length-append walked.read free.read);
    }

-- the single leaf alone
pub leaf_reads : (runs : List Run) (a b : ℕ) → IsSome (mapped runs leaf_file_block) → b ≤ a + 1 → FetchesIndex runs a b
leaf_reads runs a b there one = record {
  read = leaf_file_block ∷ [];
  once = AllPairs-cons (λ (x : ℕ) y. x ≢ y) leaf_file_block [] (All-nil (λ y. leaf_file_block ≢ y)) pairs_nil;
  behind = All-cons (λ n. leaf_file_block ≤ n) leaf_file_block [] (omega arith) (All-nil (λ n. leaf_file_block ≤ n));
  there = All-cons (λ n. IsSome (mapped runs n)) leaf_file_block [] there (All-nil (λ n. IsSome (mapped runs n)));
  fetches = one;
}

-- ---- the whole list

-- data blocks, and behind them all others, are at most as many as are mapped
pub list_reads : (runs : List Run) (a b c : ℕ) → FetchesData runs a b → FetchesIndex runs b c → c ≤ a + mapped_count runs
list_reads runs a b c blocks index =
    let low : All (λ n. n < leaf_file_block) blocks.read = All-weaker (IsMappedData runs) (λ n. n < leaf_file_block) (λ n is. is.0) blocks.read blocks.are_data in
    let there : All (λ n. IsSome (mapped runs n)) blocks.read = All-weaker (IsMappedData runs) (λ n. IsSome (mapped runs n)) (λ n is. is.1) blocks.read blocks.are_data in
    let once = pairs_append leaf_file_block blocks.read index.read low index.behind (read_once blocks.read blocks.rising) index.once in
    let all = All-append (λ n. IsSome (mapped runs n)) blocks.read index.read there index.there in
    let few = few_of_mapped runs (blocks.read ++ index.read) once all in
    omega (arith, blocks.fetches, index.fetches, few, length-append blocks.read index.read)

-- and so are data blocks alone
pub data_reads : (runs : List Run) (a b : ℕ) → FetchesData runs a b → b ≤ a + mapped_count runs
data_reads runs a b blocks =
    let there : All (λ n. IsSome (mapped runs n)) blocks.read = All-weaker (IsMappedData runs) (λ n. IsSome (mapped runs n)) (λ n is. is.1) blocks.read blocks.are_data in
    let few = few_of_mapped runs blocks.read (read_once blocks.read blocks.rising) there in
    omega (arith, blocks.fetches, few)
