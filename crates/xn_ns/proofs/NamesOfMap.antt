-- Entries with names, each once, say of a name one thing, and it is what the map of an image says.
use Rattle.std.proofs.Common.{◌≡◌, ◌≢◌, ℕ, ◌<◌, List, length, get_or, Option, Some, None, refl, sym, ap, ◌∙◌, arith, inl, inr}
use Rattle.std.specs.Prelude.{AllPairs, Contains}
use Rattle.std.proofs.lemmas.Bool.{cases_lt, cases_eq}
use Rattle.std.proofs.lemmas.List.{get_or_default}
use Rattle.std.proofs.lemmas.List.Elements.{All-contains}
use Rattle.xn_bytes.specs.Entries.{Entry}
use Rattle.xn_bytes.specs.Directory.{HasNames}
use Rattle.xn_bytes.specs.Superblock.{Geometry}
use Rattle.xn_meaning.specs.Manifests.{Manifest}
use Rattle.xn_meaning.specs.NameSpace.{Place, NameMap}
use Rattle.xn_meaning.specs.Reading.{HaveName, HasMap, StandsFor, IsDirectoryIn}

abbrev AreNamedOnce : List Entry → Type 0
AreNamedOnce entries = AllPairs (λ (a b : Entry). a.name ≢ b.name) entries

-- no two places of the list have one name
apart : (entries : List Entry) (a b : Entry) (i j : ℕ) → AreNamedOnce entries → i < j → j < length entries → get_or entries i a ≡ a → get_or entries j b ≡ b → a.name ≢ b.name
apart entries a b i j once before within is_a is_b same =
    let moved : get_or entries j a ≡ b = get_or_default entries j a b within ∙ is_b in
    once i j a before within (ap (λ (e : Entry). e.name) is_a ∙ same ∙ sym (ap (λ (e : Entry). e.name) moved))

-- two entries of one name are one
one_entry : (entries : List Entry) (a b : Entry) → AreNamedOnce entries → Contains entries a → Contains entries b → a.name ≡ b.name → a ≡ b
one_entry entries a b once (i, below_i, is_a) (j, below_j, is_b) same =
    elim (cases_lt i j) [
      | inl before ↦ absurd (apart entries a b i j once before below_j is_a is_b same)
      | inr from ↦ elim (cases_eq i j) [
        | inl e ↦ sym is_a ∙ ap (λ (n : ℕ). get_or entries n a) e ∙ get_or_default entries j a b below_j ∙ is_b
        | inr ne ↦ absurd (apart entries b a j i once (omega arith) below_i is_b is_a (sym same))
      ]
    ]

entry : List ℕ → Place → ℕ → Entry
entry name place position = record { name = name; ino = place.ino; kind = place.kind; position = position }

none_or_some : (entries : List Entry) (name : List ℕ) (place : Place) → HaveName name entries None → HaveName name entries (Some place) → {X : Type 0} → X
none_or_some entries name place none some =
    absurd (All-contains (λ (e : Entry). e.name ≢ name) entries (record { name = name; ino = place.ino; kind = place.kind; position = some.0 }) none some.1 refl)

-- what entries say of a name is one thing
pub one_place : (entries : List Entry) (name : List ℕ) (a b : Option Place) → HasNames entries → HaveName name entries a → HaveName name entries b → a ≡ b
one_place entries name None None names of_a of_b = refl
one_place entries name None (Some b) names of_a of_b = none_or_some entries name b of_a of_b
one_place entries name (Some a) None names of_a of_b = none_or_some entries name a of_b of_a
one_place entries name (Some a) (Some b) names of_a of_b =
    let same = one_entry entries
    (record { name = name; ino = a.ino; kind = a.kind; position = of_a.0 })
    (record { name = name; ino = b.ino; kind = b.kind; position = of_b.0 })
    names.once of_a.1 of_b.1 refl in
    ap (λ (e : Entry). Some (record { ino = e.ino; kind = e.kind })) same

-- what a name stands for in a directory of the image is what the map says
pub as_the_map_says : (g : Geometry) (m : Manifest) (image : List ℕ) (names : NameMap) (dir : ℕ) (name : List ℕ) (found : Option Place) → HasMap g m image names → IsDirectoryIn g m image dir → StandsFor g image dir name found → found ≡ names dir name
as_the_map_says g m image names dir name found has directory stands =
    let held = has.holds dir directory in
    one_place held.0 name found (names dir name) held.3 (stands.among held.0 held.1 held.2) (has.says dir directory held.0 held.1 held.2 name)
