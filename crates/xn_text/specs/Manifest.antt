-- What a manifest says by its fields.
use Rattle.xn_meaning.specs.Manifests.{Manifest as Said, IsManifest}
use Rattle.xn_text.specs.declared.manifest.Manifest.TheInside.{Inside}

abbrev pub said_in : Inside → Said
said_in m = record { chunks = m.chunks.items; runs = m.runs.items }

-- it is one that a text may say
abbrev pub IsSaid : Inside → Type 0
IsSaid m = IsManifest (said_in m)
