-- The text of a manifest, put together of its lines.
use Rattle.std.proofs.Common.{◌≡◌, ◌∙◌, ℕ, List, [], ◌∷◌, ◌++◌, map, sym, ap, ap₂, append_assoc}
use Rattle.std.specs.Prelude.{codes, flat_map}
use Rattle.std.proofs.lemmas.List.Concat.{flat_map-append}
use Rattle.xn_meaning.specs.Manifests.{Manifest as Said, header_line, chunk_line, pool_line, manifest_text}
use Rattle.xn_meaning.specs.Replies.{newline, space}
use Rattle.xn_text.specs.Writing.{chunk_text, run_text}
use Rattle.xn_text.proofs.RowLemmas.{texts_said}

-- the words of a chunk's line
pub chunk_words : (start mask : List ℕ) → codes "chunk " ++ (start ++ (space ∷ (mask ++ newline ∷ []))) ≡ codes "chunk " ++ start ++ space ∷ mask ++ newline ∷ []
chunk_words start mask = ap (λ (text : List ℕ). codes "chunk " ++ text) (sym (append_assoc start (space ∷ mask) (newline ∷ [])))

abbrev ended : List ℕ → List ℕ
ended line = line ++ newline ∷ []

text_parts : (m : Said) → manifest_text m ≡ (header_line ++ newline ∷ []) ++ (flat_map chunk_text m.chunks ++ flat_map run_text m.runs)
text_parts m =
    ap (λ (rest : List ℕ). (header_line ++ newline ∷ []) ++ rest) (flat_map-append ended (map chunk_line m.chunks) (map pool_line m.runs)
    ∙ sym (ap₂ (λ (a b : List ℕ). a ++ b) (texts_said ended chunk_line m.chunks) (texts_said ended pool_line m.runs)))

-- what was appended piece by piece
pub so_far : (out header line chunks text : List ℕ) → header ≡ out ++ header_line → line ≡ header ++ newline ∷ [] → chunks ≡ line ++ text → chunks ≡ out ++ ((header_line ++ newline ∷ []) ++ text)
so_far out header line chunks text a b c =
    c ∙ ap (λ (l : List ℕ). l ++ text) (b ∙ ap (λ (h : List ℕ). h ++ newline ∷ []) a ∙ append_assoc out header_line (newline ∷ []))
    ∙ append_assoc out (header_line ++ newline ∷ []) text

pub written : (m : Said) (chunks runs : List (ℕ × ℕ)) (out before after : List ℕ) → chunks ≡ m.chunks → runs ≡ m.runs
    → before ≡ out ++ ((header_line ++ newline ∷ []) ++ flat_map chunk_text chunks) → after ≡ before ++ flat_map run_text runs → after ≡ out ++ manifest_text m
written m chunks runs out before after cs rs front back =
    back ∙ ap (λ (b : List ℕ). b ++ flat_map run_text runs) front
    ∙ append_assoc out ((header_line ++ newline ∷ []) ++ flat_map chunk_text chunks) (flat_map run_text runs)
    ∙ ap (λ (t : List ℕ). out ++ t) (append_assoc (header_line ++ newline ∷ []) (flat_map chunk_text chunks) (flat_map run_text runs)
    ∙ ap₂ (λ (c r : List (ℕ × ℕ)). (header_line ++ newline ∷ []) ++ (flat_map chunk_text c ++ flat_map run_text r)) cs rs
    ∙ sym (text_parts m))
