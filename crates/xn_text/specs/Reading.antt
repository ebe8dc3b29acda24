-- A manifest that is read a line at a time.
use Rattle.std.specs.Prelude.{ℕ, ◌+◌, List, [], ◌∷◌, ◌++◌}
use Rattle.xn_meaning.specs.Manifests.{Manifest as Said, IsManifest, IsFirstBadLine, SpellManifest, manifest_lines}
use Rattle.xn_text.specs.Numbers.{AreSmall}
use Rattle.xn_text.specs.declared.reader.ManifestFault.{ManifestFault}
use Rattle.xn_text.specs.declared.reader.ManifestFault.TheVariants as faults

-- why a text is none of a manifest. Without memory nothing is said of it
abbrev pub IsManifestFault : List ℕ → ManifestFault → Type 0
IsManifestFault text (faults.Line number) = IsFirstBadLine text number
IsManifestFault text faults.Memory = Unit {0}

-- a chunk or a run more
abbrev pub with_chunk : Said → ℕ × ℕ → Said
with_chunk m chunk = record m { chunks = m.chunks ++ chunk ∷ [] }

abbrev pub with_run : Said → ℕ × ℕ → Said
with_run m run = record m { runs = m.runs ++ run ∷ [] }

-- a chunk of two numbers that makes a manifest none
pub record IsBadChunk (m : Said) (chunk : ℕ × ℕ) : Type 0 where
  pub small : AreSmall chunk
  pub front : IsManifest m
  pub none : ¬ IsManifest (with_chunk m chunk)

-- a run that does
pub record IsBadRun (m : Said) (run : ℕ × ℕ) : Type 0 where
  pub small : AreSmall run
  pub front : IsManifest m
  pub none : ¬ IsManifest (with_run m run)

-- The line behind those of a manifest makes them those of none.
pub record IsBadNext (m : Said) (line : List ℕ) : Type 0 where
  pub front : IsManifest m
  pub none : (n : Said) → ¬ SpellManifest (manifest_lines m ++ line ∷ []) n

-- where the chunk behind these may start at least, and where the run behind these
abbrev pub end_of_chunks : ℕ → List (ℕ × ℕ) → ℕ
end_of_chunks least [] = least
end_of_chunks least (chunk ∷ chunks) = end_of_chunks (chunk.0 + 64) chunks

abbrev pub end_of_runs : ℕ → List (ℕ × ℕ) → ℕ
end_of_runs least [] = least
end_of_runs least (run ∷ runs) = end_of_runs (run.0 + run.1) runs
