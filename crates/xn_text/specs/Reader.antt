-- What the reader of a manifest holds.
use Rattle.std.specs.Prelude.{◌≡◌, sum_by}
use Rattle.xn_meaning.specs.Manifests.{Manifest as Said, IsManifest}
use Rattle.xn_text.specs.Reading.{end_of_chunks, end_of_runs}
use Rattle.xn_text.specs.declared.reader.ManifestReader.TheInside.{Inside}

-- what the lines read so far say
abbrev pub read_so_far : Inside → Said
read_so_far r = record { chunks = r.chunks.items; runs = r.runs.items }

-- that is a manifest, and the reader knows where it ends and how many blocks its pool has
pub record IsReader (r : Inside) : Type 0 where
  pub said : IsManifest (read_so_far r)
  pub chunks : r.next_inode ≡ end_of_chunks 0 r.chunks.items
  pub runs : r.next_block ≡ end_of_runs 0 r.runs.items
  pub pool : r.pool_blocks ≡ sum_by (λ run. run.1) r.runs.items
