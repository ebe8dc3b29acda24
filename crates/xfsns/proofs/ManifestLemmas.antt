-- The bytes of a source that were read, piece by piece.
use Rattle.std.proofs.Common.{◌≡◌, ℕ, ◌+◌, ◌<◌, ◌≤◌, List, [], ◌++◌, length, take, drop, Option, Some, None, refl, sym, ap, subst, ◌∙◌, append_assoc, arith}
use Rattle.std.specs.Prelude.{IfSome}
use Rattle.std.proofs.lemmas.List.{length-append, take-append-drop, append-nil}
use Rattle.xn_machine.specs.Input.{Takes}
use Rattle.xn_meaning.specs.Manifests.{most_bytes}
use Rattle.xfsns.specs.Manifest.{HasTaken}

-- what was left at first is what was read and what is left now
abbrev pub IsGathered : Option (List ℕ) → Option (List ℕ) → List ℕ → Type 0
IsGathered first now text = IfSome first (λ all. (rest : List ℕ) × (now ≡ Some rest) × (all ≡ text ++ rest))

pub none_gathered : (left : Option (List ℕ)) → IsGathered left left []
none_gathered None = tt
none_gathered (Some all) = (all, refl, refl)

-- one more piece is
pub gathered_on : (first before now : Option (List ℕ)) (text piece : List ℕ) (count : ℕ) → IsGathered first before text → Takes before now count piece → IsGathered first now (text ++ take count piece)
gathered_on None before now text piece count so_far takes = tt
gathered_on (Some all) None now text piece count so_far takes = let no = so_far.1 in let none : ⊥ = cc in absurd none
gathered_on (Some all) (Some left) now text piece count so_far takes =
    let told = so_far.1 in
    let same : left ≡ so_far.0 = cc in
    let parts : text ++ take count piece ++ drop count left ≡ text ++ left
    = append_assoc text (take count piece) (drop count left) ∙ ap (λ (front : List ℕ). text ++ (front ++ drop count left)) takes.1 ∙ ap (λ (rest : List ℕ). text ++ rest) (take-append-drop count left) in
    (drop count left, takes.2, so_far.2 ∙ ap (λ (rest : List ℕ). text ++ rest) (sym same) ∙ sym parts)

-- nothing is left where nothing more was taken: what was read is all
pub all_gathered : (first before now : Option (List ℕ)) (text piece : List ℕ) → IsGathered first before text → HasTaken before now 0 piece → length text ≤ most_bytes
    → IfSome first (λ all. (length all ≤ most_bytes) × (text ≡ all))
all_gathered None before now text piece so_far taken few = tt
all_gathered (Some all) None now text piece so_far taken few = let no = so_far.1 in let none : ⊥ = cc in absurd none
all_gathered (Some all) (Some left) now text piece so_far taken few =
    let told = so_far.1 in
    let ends : left ≡ [] = taken.ends.0 refl in
    let rest : so_far.0 ≡ [] = cc in
    let whole : all ≡ text = so_far.2 ∙ ap (λ (r : List ℕ). text ++ r) rest ∙ append-nil text in
    (subst (λ (bytes : List ℕ). length bytes ≤ most_bytes) (sym whole) few, sym whole)

-- and nothing is left then
pub none_left : (before now : Option (List ℕ)) (piece : List ℕ) → HasTaken before now 0 piece → IfSome now (λ rest. rest ≡ [])
none_left None now piece taken = let gone : now ≡ None = taken.takes in subst (λ (o : Option (List ℕ)). IfSome o (λ rest. rest ≡ [])) (sym gone) tt
none_left (Some left) now piece taken =
    let ends : left ≡ [] = taken.ends.0 refl in
    let gone : now ≡ Some (drop 0 left) = taken.takes.2 in
    subst (λ (o : Option (List ℕ)). IfSome o (λ rest. rest ≡ [])) (sym gone) ends

-- where too much was read, there was too much
pub too_long : (first now : Option (List ℕ)) (text : List ℕ) → IsGathered first now text → most_bytes < length text → IfSome first (λ all. most_bytes < length all)
too_long None now text so_far long = tt
too_long (Some all) now text so_far long =
    let sum : length (text ++ so_far.0) ≡ length text + length so_far.0 = length-append text so_far.0 in
    let more : most_bytes < length (text ++ so_far.0) = omega (arith, sum, long) in
    subst (λ (bytes : List ℕ). most_bytes < length bytes) (sym so_far.2) more
