-- Runs as lists of extents.
use Rattle.std.proofs.Common.{◌≡◌, ℕ, ◌+◌, ◌<◌, List, [], ◌∷◌, ◌++◌, length, map, take, get_or, Some, sym, ap, ◌∙◌, append_assoc}
use Rattle.std.specs.Prelude.{slice_get}
use Rattle.std.proofs.lemmas.List.{map-append, take_more}
use Rattle.std.proofs.lemmas.Option.{get_or_from_slice_get}
use Rattle.xn_bytes.specs.Extents.{Run as Mapped}
use Rattle.xn_facts.specs.declared.facts.Run.{Run}
use Rattle.xn_facts.specs.Facts.{mapped_of}

-- one run more behind those that were added
pub run_added : (before items : List Run) (extents : List Mapped) (at : ℕ) (run : Run) → at < length extents → slice_get extents at ≡ Some (mapped_of run) → map mapped_of items ≡ map mapped_of before ++ take at extents
    → map mapped_of (items ++ run ∷ []) ≡ map mapped_of before ++ take (at + 1) extents
run_added before items extents at run low is are =
    let one : get_or extents at (mapped_of run) ≡ mapped_of run = get_or_from_slice_get extents at (mapped_of run) (mapped_of run) is in
    let more : take (at + 1) extents ≡ take at extents ++ get_or extents at (mapped_of run) ∷ [] = take_more extents at (mapped_of run) low in
    let last : take (at + 1) extents ≡ take at extents ++ mapped_of run ∷ [] = more ∙ ap (λ (r : Mapped). take at extents ++ r ∷ []) one in
    map-append mapped_of items (run ∷ []) ∙ ap (λ (rs : List Mapped). rs ++ mapped_of run ∷ []) are ∙ append_assoc (map mapped_of before) (take at extents) (mapped_of run ∷ []) ∙ ap (λ (rs : List Mapped). map mapped_of before ++ rs) (sym last)
