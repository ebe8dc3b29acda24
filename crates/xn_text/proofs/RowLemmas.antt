-- The texts of rows as those of what they say.
use Rattle.std.proofs.Common.{◌≡◌, ℕ, List, [], ◌∷◌, ◌++◌, map, refl, sym, ap, ap₂}
use Rattle.std.specs.Prelude.{codes, decimal, flat_map}
use Rattle.std.proofs.lemmas.List.{length-map}
use Rattle.xn_meaning.specs.Replies.{newline}
use Rattle.xn_text.specs.Viewed.{rows_text}

pub texts_said : {X Y : Type 0} (text : Y → List ℕ) (of : X → Y) (rows : List X) → flat_map (λ row. text (of row)) rows ≡ flat_map text (map of rows)
texts_said text of [] = refl
texts_said text of (row ∷ rows) = ap (λ (rest : List ℕ). text (of row) ++ rest) (texts_said text of rows)

pub rows_said : {X Y : Type 0} (text : Y → List ℕ) (of : X → Y) (rows : List X) → rows_text (λ row. text (of row)) rows ≡ rows_text text (map of rows)
rows_said text of rows =
    ap₂ (λ (count : ℕ) (texts : List ℕ). codes "ok " ++ decimal count ++ newline ∷ [] ++ texts) (sym (length-map rows of)) (texts_said text of rows)
