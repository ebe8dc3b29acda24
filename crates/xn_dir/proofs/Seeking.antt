-- Leaf entries of one hash gone over one by one, for that of an entry.
use Rattle.std.proofs.Common.{◌≡◌, ◌≢◌, ℕ, suc, List, [], ◌∷◌, sym, ap, subst, ◌∙◌, arith, inl, inr}
use Rattle.std.specs.Prelude.{◌==◌, All, Contains, filter}
use Rattle.std.proofs.lemmas.Bool.{eq-eqb}
use Rattle.xn_bytes.specs.DataBlock.{LeafEntry}
use Rattle.xn_bytes.specs.DirectoryForms.{AreSorted}
use Rattle.xn_dir.proofs.Members.{front_or_behind, in_none, in_filter}

-- leaf entries are the same by hash and address
pub same_leaf : (a b : LeafEntry) → a.hash ≡ b.hash → a.address ≡ b.address → a ≡ b
same_leaf a b hash address = ap (λ (h : ℕ). record a { hash = h }) hash ∙ ap (λ (k : ℕ). record b { address = k }) address

-- what is left has the hash and is among all, and the wanted leaf entry, if it is among all, is left
pub record Seeks (leaves : List LeafEntry) (target : LeafEntry) (left : List LeafEntry) : Type 0 where
  pub among : All (λ leaf. (leaf.hash ≡ target.hash) × Contains leaves leaf) left
  pub kept : Contains leaves target → Contains left target

pub seeks_first : (leaves : List LeafEntry) (target : LeafEntry) (hash : ℕ) (left : List LeafEntry) → hash ≡ target.hash → AreSorted leaves
    → (AreSorted leaves → left ≡ filter (λ leaf. leaf.hash == hash) leaves) → All (λ leaf. (leaf.hash ≡ hash) × Contains leaves leaf) left → Seeks leaves target left
seeks_first leaves target hash left hash_is sorted rising always = record {
  among = λ k d below. let found = always k d below in (found.0 ∙ hash_is, found.1);
  kept = λ within. subst (λ xs. Contains xs target) (sym (rising sorted)) (in_filter (λ leaf. leaf.hash == hash) leaves target (eq-eqb target.hash hash (sym hash_is)) within);
}

pub seeks_on : (leaves : List LeafEntry) (target leaf : LeafEntry) (left after : List LeafEntry) → left ≡ leaf ∷ after → leaf.address ≢ target.address → Seeks leaves target left → Seeks leaves target after
seeks_on leaves target leaf left after step other seeks =
    let among : All (λ one. (one.hash ≡ target.hash) × Contains leaves one) (leaf ∷ after) = subst (All (λ one. (one.hash ≡ target.hash) × Contains leaves one)) step seeks.among in
    record {
      among = λ k d below. among (suc k) d (omega (arith, below));
      kept = λ within. elim (front_or_behind leaf target after (subst (λ xs. Contains xs target) step (seeks.kept within))) [
        | inl same ↦ absurd (other (ap (λ (one : LeafEntry). one.address) same))
        | inr behind ↦ behind
      ];
    }

pub seeks_found : (leaves : List LeafEntry) (target leaf : LeafEntry) (left after : List LeafEntry) → left ≡ leaf ∷ after → leaf.address ≡ target.address → Seeks leaves target left → Contains leaves target
seeks_found leaves target leaf left after step same seeks =
    let among : All (λ one. (one.hash ≡ target.hash) × Contains leaves one) (leaf ∷ after) = subst (All (λ one. (one.hash ≡ target.hash) × Contains leaves one)) step seeks.among in
    let here = among 0 leaf (omega arith) in
    let is : leaf ≡ target = same_leaf leaf target here.0 same in
    subst (Contains leaves) is here.1

pub seeks_none : (leaves : List LeafEntry) (target : LeafEntry) (left : List LeafEntry) → left ≡ [] → Seeks leaves target left → Contains leaves target → ⊥
seeks_none leaves target left done seeks within = in_none target (subst (λ xs. Contains xs target) done (seeks.kept within))
