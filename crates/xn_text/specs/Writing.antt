-- The lines of a manifest as they are written.
use Rattle.std.specs.Prelude.{ℕ, List, [], ◌∷◌, ◌++◌}
use Rattle.xn_meaning.specs.Manifests.{chunk_line, pool_line}
use Rattle.xn_meaning.specs.Replies.{newline}

abbrev pub chunk_text : ℕ × ℕ → List ℕ
chunk_text chunk = chunk_line chunk ++ newline ∷ []

abbrev pub run_text : ℕ × ℕ → List ℕ
run_text run = pool_line run ++ newline ∷ []
