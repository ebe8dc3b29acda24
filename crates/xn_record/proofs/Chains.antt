-- Checks one after another.
use Rattle.std.proofs.Common.{◌≡◌, ℕ, List, Option, Result, Ok, Err, refl, ◌∙◌, ◌==◌, ◌||◌, bytes_eq, replicate}
use Rattle.xn_log.specs.Records.{body_sectors, cycle_in, length_in, lsn_in, lsn_of, size_in, uuid_in, version_in}
use Rattle.xn_log.specs.RecordFaults.{is_cycle, is_length, record_fault, stamps_fault, unless, unless_checksum}
use Rattle.xn_record.specs.Checks.{Passes, end_fault, start_fault}
use Rattle.xn_record.specs.declared.fault.RecFault.{RecFault}
use Rattle.xn_record.specs.declared.fault.RecFault.TheVariants.{Bad, Memory}

-- what a check tells is told where the checks before it passed
pub carried : (fault first behind rest : Option ℕ) (e : RecFault) → fault ≡ first → Passes first behind (Err e) → Passes fault rest (Err e)
carried fault first behind rest (Bad at) same told = same ∙ told
carried fault first behind rest Memory same told = told

-- a last check, behind others that passed
pub ended : (fault first behind : Option ℕ) (r : Result (Unit {0}) RecFault) → fault ≡ first → Passes first behind r → Passes fault behind r
ended fault first behind (Ok _) same told = same ∙ told
ended fault first behind (Err (Bad at)) same told = same ∙ told
ended fault first behind (Err Memory) same told = told

-- ---- what comes behind each check

abbrev pub from_size : List ℕ → Option ℕ → Option ℕ
from_size bytes behind = unless 4 320 (size_in bytes == 32768) bytes behind

abbrev pub from_uuid : List ℕ → List ℕ → Option ℕ → Option ℕ
from_uuid uuid bytes behind =
    unless 16 304 (bytes_eq (uuid_in bytes) uuid || bytes_eq (uuid_in bytes) (replicate 16 0)) bytes (from_size bytes behind)

abbrev pub from_lsn : ℕ → List ℕ → Option ℕ → Option ℕ
from_lsn sector bytes behind = unless 8 16 (lsn_in bytes == lsn_of (cycle_in bytes) sector) bytes behind

abbrev pub from_length : ℕ → ℕ → List ℕ → Option ℕ → Option ℕ
from_length ring_sectors sector bytes behind = unless 4 12 (is_length ring_sectors (length_in bytes)) bytes (from_lsn sector bytes behind)

abbrev pub from_version : ℕ → ℕ → List ℕ → Option ℕ → Option ℕ
from_version ring_sectors sector bytes behind = unless 4 8 (version_in bytes == 2) bytes (from_length ring_sectors sector bytes behind)

abbrev pub from_cycle : ℕ → ℕ → List ℕ → Option ℕ → Option ℕ
from_cycle ring_sectors sector bytes behind = unless 4 4 (is_cycle (cycle_in bytes)) bytes (from_version ring_sectors sector bytes behind)

abbrev pub from_stamps : ℕ → ℕ → List ℕ → Option ℕ
from_stamps ring_sectors sector bytes = stamps_fault ring_sectors sector bytes 0 (body_sectors (length_in bytes))

abbrev pub from_end : ℕ → ℕ → List ℕ → List ℕ → Option ℕ
from_end ring_sectors sector uuid bytes = end_fault uuid bytes (from_stamps ring_sectors sector bytes)

abbrev pub from_checksum : ℕ → ℕ → List ℕ → List ℕ → Option ℕ
from_checksum ring_sectors sector uuid bytes = unless_checksum bytes (from_end ring_sectors sector uuid bytes)

pub from_start : (ring_sectors sector : ℕ) (uuid bytes : List ℕ) → record_fault ring_sectors sector uuid bytes ≡ start_fault ring_sectors sector bytes (from_checksum ring_sectors sector uuid bytes)
unfolding record_fault
from_start ring_sectors sector uuid bytes = refl
