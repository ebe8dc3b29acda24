-- What the place of a directory in the tree says of the entries that name it, and of those in it.
use Rattle.std.proofs.Common.{◌≡◌, ℕ, zero, suc, List, [], ◌∷◌, length, refl, sym, subst, ◌∙◌, arith, inl, inr, eq-eqb}
use Rattle.std.specs.Prelude.{◌==◌, Contains}
use Rattle.xn_bytes.specs.Superblock.{Geometry}
use Rattle.xn_rules.specs.Namings.{Naming, naming, standing_in}
use Rattle.xn_rules.specs.NameRules.{HasPlaceInTree}
use Rattle.xn_dir.proofs.Members.{in_filter, in_none}

pub named : (ino : ℕ) (namings : List Naming) (n : Naming) → n.ino ≡ ino → Contains namings n → Contains (naming ino namings) n
named ino namings n is there = in_filter (λ (k : Naming). k.ino == ino) namings n (eq-eqb n.ino ino is) there

-- where none names an inode, this one does not
pub none_named : (ino : ℕ) (namings : List Naming) (n : Naming) → naming ino namings ≡ [] → n.ino ≡ ino → Contains namings n → ⊥
none_named ino namings n none is there = in_none n (subst (λ ns. Contains ns n) none (named ino namings n is there))

-- where none stands in a directory, this one does not
pub none_standing : (dir : ℕ) (namings : List Naming) (n : Naming) → standing_in dir namings ≡ [] → n.dir ≡ dir → Contains namings n → ⊥
none_standing dir namings n none is there =
    in_none n (subst (λ ns. Contains ns n) none (in_filter (λ (k : Naming). k.dir == dir) namings n (eq-eqb n.dir dir is) there))

-- of a list of one element each member is that one
one_member : {X : Type 0} (xs : List X) (a b : X) → length xs ≡ 1 → Contains xs a → Contains xs b → a ≡ b
one_member [] a b long in_a in_b = absurd (omega (arith, long))
one_member (x ∷ []) a b long (zero, below_a, is_a) (zero, below_b, is_b) = sym is_a ∙ is_b
one_member (x ∷ []) a b long (suc k, below_a, is_a) in_b = absurd (omega (arith, below_a))
one_member (x ∷ []) a b long in_a (suc k, below_b, is_b) = absurd (omega (arith, below_b))
one_member (x ∷ y ∷ xs) a b long in_a in_b = absurd (omega (arith, long))

-- the root is named by none
pub root_unnamed : (g : Geometry) (namings : List Naming) (n : Naming) → HasPlaceInTree g namings g.root → n.ino ≡ g.root
    → Contains namings n → ⊥
root_unnamed g namings n (inl (root, none)) is there = none_named g.root namings n none is there
root_unnamed g namings n (inr (inl (unnamed, none))) is there = unnamed.not_root refl
root_unnamed g namings n (inr (inr (other, once, leads))) is there = other refl

-- a directory is named by one entry at most
pub named_once : (g : Geometry) (namings : List Naming) (dir : ℕ) (a b : Naming) → HasPlaceInTree g namings dir → a.ino ≡ dir → b.ino ≡ dir
    → Contains namings a → Contains namings b → a ≡ b
named_once g namings dir a b (inl (root, none)) is_a is_b in_a in_b = absurd (none_named dir namings a none is_a in_a)
named_once g namings dir a b (inr (inl (unnamed, none))) is_a is_b in_a in_b = absurd (none_named dir namings a unnamed.none is_a in_a)
named_once g namings dir a b (inr (inr (other, once, leads))) is_a is_b in_a in_b =
    one_member (naming dir namings) a b once (named dir namings a is_a in_a) (named dir namings b is_b in_b)
