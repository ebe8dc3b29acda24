-- The transactions that the operations of the live records commit (`struct xlog_op_header` of `xfs_log_format.h`, and the chapter on
-- the journaling log of "XFS Algorithms and Data Structures").
use Rattle.std.specs.Prelude.{ℕ, suc, Bool, true, false, ◌==◌, not, ◌&&◌, if◌then◌else◌, List, [], ◌∷◌, ◌++◌, flat_map, Option, Some, None, option_map}
use Rattle.xn_log.specs.Records.{commit_flag, continue_flag, has_flag, lsn_of, start_flag, was_continued_flag}
use Rattle.xn_log.specs.declared.operation.Op.{Op}
use Rattle.xn_log.specs.declared.record.Record.{Record}
use Rattle.xn_changes.specs.declared.committed.Place.{Place}

-- an operation, and where it stands
pub record LiveOp : Type 0 where
  pub place : Place
  pub op : Op

-- operations of the record with that sequence number, counted on from k
abbrev pub placed_from : ℕ → ℕ → List Op → List LiveOp
placed_from lsn k [] = []
placed_from lsn k (op ∷ ops) = record { place = record { lsn = lsn; op = k }; op = op } ∷ placed_from lsn (suc k) ops

abbrev pub operations_of_record : Record → List LiveOp
operations_of_record r = placed_from (lsn_of r.cycle r.sector) 0 r.ops

-- the operations of the live records, in order
abbrev pub live_operations : List Record → List LiveOp
live_operations records = flat_map operations_of_record records

abbrev pub starts : LiveOp → Bool
starts live = has_flag live.op.flags start_flag

abbrev pub commits : LiveOp → Bool
commits live = has_flag live.op.flags commit_flag

abbrev pub continues : LiveOp → Bool
continues live = has_flag live.op.flags continue_flag

abbrev pub was_continued : LiveOp → Bool
was_continued live = has_flag live.op.flags was_continued_flag

-- a transaction that was started: the operation that starts it, and those behind it
pub record Started : Type 0 where
  pub start : LiveOp
  pub parts : List LiveOp

abbrev pub with_part : LiveOp → Started → Started
with_part part started = record { start = started.start; parts = started.parts ++ part ∷ [] }

-- What is started of a transaction, after operations that are listed from the last to the first: by its last start, unless a commit
-- came since.
unfoldable pub started_in : ℕ → List LiveOp → Option Started
started_in tid [] = None
started_in tid (live ∷ before) =
    if not (live.op.tid == tid) then started_in tid before
    else if commits live then None
    else if starts live then Some (record { start = live; parts = [] })
    else option_map (with_part live) (started_in tid before)

-- a transaction that was committed, as it stands in the log: its start, the operations with its regions, and its commit
pub record Whole : Type 0 where
  pub start : LiveOp
  pub parts : List LiveOp
  pub commit : LiveOp

abbrev pub whole_by : LiveOp → Started → Whole
whole_by commit started = record { start = started.start; parts = started.parts; commit = commit }

-- what a commit makes whole, where something was started
abbrev pub whole_of : LiveOp → Option Started → List Whole
whole_of commit None = []
whole_of commit (Some started) = whole_by commit started ∷ []

-- What an operation commits, after operations that are listed from the last to the first. One that starts and commits holds
-- everything in itself, which is nothing.
abbrev pub committed_by : List LiveOp → LiveOp → List Whole
committed_by before live =
    if not (commits live) then []
    else if starts live then whole_by live (record { start = live; parts = [] }) ∷ []
    else whole_of live (started_in live.op.tid before)

-- the transactions that operations commit, in order of their commits, after others that are listed from the last to the first
unfoldable pub committed_after : List LiveOp → List LiveOp → List Whole
committed_after before [] = []
committed_after before (live ∷ ops) = committed_by before live ++ committed_after (live ∷ before) ops

-- the transactions that the live records commit, in order
abbrev pub committed_in : List Record → List Whole
committed_in records = committed_after [] (live_operations records)

-- ---- regions

-- a region, and where it begins
pub record Region : Type 0 where
  pub place : Place
  pub bytes : List ℕ

abbrev pub region_of : LiveOp → Region
region_of live = record { place = live.place; bytes = live.op.bytes }

-- an operation goes on in the region at the front
abbrev pub joined : LiveOp → List Region → List Region
joined live [] = region_of live ∷ []
joined live (next ∷ regions) = record { place = live.place; bytes = live.op.bytes ++ next.bytes } ∷ regions

-- the regions of a transaction: one that is continued goes on in the next operation
unfoldable pub regions_in : List LiveOp → List Region
regions_in [] = []
regions_in (live ∷ parts) = if continues live then joined live (regions_in parts) else region_of live ∷ regions_in parts

-- both hold, or neither
abbrev pub same : Bool → Bool → Bool
same true other = other
same false other = not other

-- Just those operations say that they were continued whose operation before is continued. What is continued has to go on.
unfoldable pub are_joined : Bool → List LiveOp → Bool
are_joined continued [] = not continued
are_joined continued (live ∷ parts) = same (was_continued live) continued && are_joined (continues live) parts
