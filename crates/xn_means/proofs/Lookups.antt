-- What is looked up among live inodes and among entries.
use Rattle.std.proofs.Common.{◌≡◌, ℕ, Bool, true, false, List, [], ◌∷◌, Option, Some, None, refl, sym, ap, subst, ◌∙◌, eqb-true, eq-eqb}
use Rattle.std.specs.Prelude.{◌==◌, ◌&&◌, Any, Contains, filter}
use Rattle.std.specs.Str.{bytes_eq}
use Rattle.std.proofs.lemmas.Slice.Eq.{bytes_eq-Decides}
use Rattle.xn_bytes.specs.declared.kind.Kind.{Kind}
use Rattle.xn_bytes.specs.Numbers.{number_at}
use Rattle.xn_bytes.specs.Kinds.{kind_of_mode}
use Rattle.xn_bytes.specs.Superblock.{Geometry}
use Rattle.xn_bytes.specs.Inode.{inode_of}
use Rattle.xn_meaning.specs.NameSpaces.{Inode}
use Rattle.xn_rules.specs.Namings.{Naming}
use Rattle.xn_rules.specs.Means.{IsNamedBy, SaysInode}
use Rattle.xn_dir.proofs.Members.{at_front, in_filter, in_none, of_filter}

-- the first that a filter keeps is of the list, and passes
first_kept : {X : Type 0} (p : X → Bool) (xs : List X) (x : X) (rest : List X) → filter p xs ≡ x ∷ rest → Contains xs x × (p x ≡ true)
first_kept p xs x rest is = of_filter p xs x (subst (λ kept. Contains kept x) (sym is) (at_front x rest))

-- ---- inodes

-- what bytes with this kind say
abbrev inode_with : List ℕ → Option Kind → Option Inode
inode_with bytes None = None
inode_with bytes (Some kind) = Some (record { kind = kind; generation = number_at 4 92 bytes })

abbrev inode_in : List ℕ → Option Inode
inode_in bytes = inode_with bytes (kind_of_mode (number_at 2 2 bytes))

of_bytes : (bytes : List ℕ) (kind : Option Kind) (inode : Inode) → kind_of_mode (number_at 2 2 bytes) ≡ kind
    → inode_with bytes kind ≡ Some inode → SaysInode bytes inode
of_bytes bytes None inode is e = absurd cc
of_bytes bytes (Some kind) inode is e =
    let kinds : kind ≡ inode.kind = cc in
    let generations : number_at 4 92 bytes ≡ inode.generation = cc in
    record { kind = is ∙ ap (λ k. Some k) kinds; generation = generations }

in_bytes : (bytes : List ℕ) (inode : Inode) → SaysInode bytes inode → inode_in bytes ≡ Some inode
in_bytes bytes inode says =
    let with_kind : inode_in bytes ≡ inode_with bytes (Some inode.kind) = ap (inode_with bytes) says.kind in
    with_kind ∙ ap (λ (n : ℕ). Some (record { kind = inode.kind; generation = n })) says.generation

-- what the bytes of the first of some inodes say
abbrev first_inode : Geometry → List ℕ → List ℕ → Option Inode
first_inode g image [] = None
first_inode g image (ino ∷ inodes) = inode_in (inode_of g image ino)

abbrev pub live_in : Geometry → List ℕ → List ℕ → ℕ → Option Inode
live_in g image live ino = first_inode g image (filter (λ k. k == ino) live)

of_first_inode : (g : Geometry) (image live : List ℕ) (ino : ℕ) (inode : Inode) (kept : List ℕ) → filter (λ k. k == ino) live ≡ kept
    → first_inode g image kept ≡ Some inode → Contains live ino × SaysInode (inode_of g image ino) inode
of_first_inode g image live ino inode [] is e = absurd cc
of_first_inode g image live ino inode (k ∷ rest) is e =
    let first = first_kept (λ (n : ℕ). n == ino) live k rest is in
    let same : k ≡ ino = eqb-true k ino first.1 in
    let says = of_bytes (inode_of g image k) (kind_of_mode (number_at 2 2 (inode_of g image k))) inode refl e in
    (subst (λ n. Contains live n) same first.0, subst (λ n. SaysInode (inode_of g image n) inode) same says)

pub of_live : (g : Geometry) (image live : List ℕ) (ino : ℕ) (inode : Inode) → live_in g image live ino ≡ Some inode
    → Contains live ino × SaysInode (inode_of g image ino) inode
of_live g image live ino inode e = of_first_inode g image live ino inode (filter (λ k. k == ino) live) refl e

in_first_inode : (g : Geometry) (image live : List ℕ) (ino : ℕ) (inode : Inode) (kept : List ℕ) → filter (λ k. k == ino) live ≡ kept
    → Contains kept ino → SaysInode (inode_of g image ino) inode → first_inode g image kept ≡ Some inode
in_first_inode g image live ino inode [] is there says = absurd (in_none ino there)
in_first_inode g image live ino inode (k ∷ rest) is there says =
    let same : k ≡ ino = eqb-true k ino (first_kept (λ (n : ℕ). n == ino) live k rest is).1 in
    ap (λ (n : ℕ). inode_in (inode_of g image n)) same ∙ in_bytes (inode_of g image ino) inode says

pub in_live : (g : Geometry) (image live : List ℕ) (ino : ℕ) (inode : Inode) → Contains live ino
    → SaysInode (inode_of g image ino) inode → live_in g image live ino ≡ Some inode
in_live g image live ino inode there says =
    in_first_inode g image live ino inode (filter (λ k. k == ino) live) refl
    (in_filter (λ (k : ℕ). k == ino) live ino (eq-eqb ino ino refl) there) says

-- ---- names

-- an entry has this name in this directory
abbrev has_key : ℕ → List ℕ → Naming → Bool
has_key dir name n = (n.dir == dir) && bytes_eq n.name name

both_true : (a b : Bool) → (a && b) ≡ true → (a ≡ true) × (b ≡ true)
both_true true b e = (refl, e)
both_true false b e = absurd cc

of_key : (dir : ℕ) (name : List ℕ) (n : Naming) → has_key dir name n ≡ true → IsNamedBy dir name n.ino n
of_key dir name n passes =
    let both = both_true (n.dir == dir) (bytes_eq n.name name) passes in
    record { dir_is = eqb-true n.dir dir both.0; name_is = (bytes_eq-Decides n.name name).0 both.1; ino_is = refl }

in_key : (dir : ℕ) (name : List ℕ) (ino : ℕ) (n : Naming) → IsNamedBy dir name ino n → has_key dir name n ≡ true
in_key dir name ino n by =
    let dirs : (n.dir == dir) ≡ true = eq-eqb n.dir dir by.dir_is in
    let names : bytes_eq n.name name ≡ true = (bytes_eq-Decides n.name name).1 by.name_is in
    rw (dirs, names) refl

-- the inode that the first of some entries names
abbrev first_named : List Naming → Option ℕ
first_named [] = None
first_named (n ∷ namings) = Some n.ino

abbrev pub named_in : List Naming → ℕ → List ℕ → Option ℕ
named_in namings dir name = first_named (filter (has_key dir name) namings)

of_first_named : (namings : List Naming) (dir : ℕ) (name : List ℕ) (ino : ℕ) (kept : List Naming) → filter (has_key dir name) namings ≡ kept
    → first_named kept ≡ Some ino → Any (IsNamedBy dir name ino) namings
of_first_named namings dir name ino [] is e = absurd cc
of_first_named namings dir name ino (n ∷ rest) is e =
    let first = first_kept (has_key dir name) namings n rest is in
    let inos : n.ino ≡ ino = cc in
    let by = of_key dir name n first.1 in
    (first.0.0, n, first.0.1, first.0.2, record { dir_is = by.dir_is; name_is = by.name_is; ino_is = inos })

pub of_named : (namings : List Naming) (dir : ℕ) (name : List ℕ) (ino : ℕ) → named_in namings dir name ≡ Some ino
    → Any (IsNamedBy dir name ino) namings
of_named namings dir name ino e = of_first_named namings dir name ino (filter (has_key dir name) namings) refl e

-- entries of one directory and one name are one
abbrev pub AreOneEach : List Naming → Type 0
AreOneEach namings = (a b : Naming) → Contains namings a → Contains namings b → a.dir ≡ b.dir → a.name ≡ b.name → a ≡ b

in_first_named : (namings : List Naming) (dir : ℕ) (name : List ℕ) (ino : ℕ) (n : Naming) (kept : List Naming) → AreOneEach namings
    → filter (has_key dir name) namings ≡ kept → Contains namings n → Contains kept n → IsNamedBy dir name ino n
    → first_named kept ≡ Some ino
in_first_named namings dir name ino n [] one is there kept by = absurd (in_none n kept)
in_first_named namings dir name ino n (first ∷ rest) one is there kept by =
    let found = first_kept (has_key dir name) namings first rest is in
    let of_first = of_key dir name first found.1 in
    let same : first ≡ n = one first n found.0 there (of_first.dir_is ∙ sym by.dir_is) (of_first.name_is ∙ sym by.name_is) in
    ap (λ (k : Naming). Some k.ino) same ∙ ap (λ k. Some k) by.ino_is

pub in_named : (namings : List Naming) (dir : ℕ) (name : List ℕ) (ino : ℕ) → AreOneEach namings → Any (IsNamedBy dir name ino) namings
    → named_in namings dir name ≡ Some ino
in_named namings dir name ino one (k, n, below, is, by) =
    let there : Contains namings n = (k, below, is) in
    in_first_named namings dir name ino n (filter (has_key dir name) namings) one refl there
    (in_filter (has_key dir name) namings n (in_key dir name ino n by) there) by
