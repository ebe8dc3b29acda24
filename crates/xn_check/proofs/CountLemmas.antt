-- How many nodes are directories, by their modes.
use Rattle.std.proofs.Common.{◌≡◌, ◌↔◌, ℕ, Bool, true, false, List, [], ◌∷◌, map, cond, Option, Some, None, refl, sym, ap, ◌∙◌}
use Rattle.std.specs.Prelude.{All, count_by, IsTrue, ◌+◌}
use Rattle.std.proofs.lemmas.List.Sums.{sum_by-cons}
use Rattle.std.proofs.lemmas.List.Elements.{All-head, All-tail}
use Rattle.xn_bytes.specs.declared.kind.Kind.{Kind}
use Rattle.xn_bytes.specs.declared.kind.Kind.TheVariants.{Dir, Reg, Chr, Blk, Fifo, Sock, Lnk}
use Rattle.xn_bytes.specs.Kinds.{kind_of_mode}
use Rattle.xn_bytes.specs.Numbers.{number_at}
use Rattle.xn_bytes.specs.Inode.{inode_of}
use Rattle.xn_bytes.specs.Superblock.{Geometry}
use Rattle.xn_rules.specs.Checking.{directories_among, is_directory_kind}
use Rattle.xn_facts.specs.declared.facts.Node.{Node}
use Rattle.xn_facts.specs.Facts.{NodeHolds}

-- a test that is true where a kind is a directory's is the test of the kind
test_of_kind : (test : Bool) (kind : Option Kind) → (IsTrue test ↔ (kind ≡ Some Dir)) → is_directory_kind kind ≡ test
test_of_kind true kind says = ap is_directory_kind (says.0 refl)
test_of_kind false None says = refl
test_of_kind false (Some Dir) says = let no : false ≡ true = says.1 refl in absurd cc
test_of_kind false (Some Reg) says = refl
test_of_kind false (Some Chr) says = refl
test_of_kind false (Some Blk) says = refl
test_of_kind false (Some Fifo) says = refl
test_of_kind false (Some Sock) says = refl
test_of_kind false (Some Lnk) says = refl

abbrev number_of : Node → ℕ
number_of node = node.ino

abbrev test_of : Node → Bool
test_of node = node.is_directory

-- by the nodes and by the modes of their inodes
pub count_nodes : (g : Geometry) (image : List ℕ) (nodes : List Node) → All (NodeHolds g image) nodes → count_by (λ node. node.is_directory) nodes ≡ directories_among g image (map (λ node. node.ino) nodes)
count_nodes g image [] hold = refl
count_nodes g image (node ∷ nodes) hold =
    let by_mode = λ (ino : ℕ). cond (is_directory_kind (kind_of_mode (number_at 2 2 (inode_of g image ino)))) 1 0 in
    let by_node = λ (one : Node). cond one.is_directory 1 0 in
    let rest = count_nodes g image nodes (All-tail (NodeHolds g image) node nodes hold) in
    let head : is_directory_kind (kind_of_mode (number_at 2 2 (inode_of g image node.ino))) ≡ node.is_directory
    = test_of_kind node.is_directory (kind_of_mode (number_at 2 2 (inode_of g image node.ino))) (All-head (NodeHolds g image) node nodes hold).directory in
    sum_by-cons by_node node nodes
    ∙ ap (λ (n : ℕ). by_node node + n) rest
    ∙ ap (λ (t : Bool). cond t 1 0 + directories_among g image (map number_of nodes)) (sym head)
    ∙ sym (sum_by-cons by_mode node.ino (map number_of nodes))
