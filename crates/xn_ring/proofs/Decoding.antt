-- Records read from the log are those that their outlines tell of.
use Rattle.std.proofs.Common.{◌≡◌, ◌∙◌, ℕ, ◌+◌, ◌*◌, ◌≤◌, List, length, take, Option, Some, None, Err, sym, ap, subst, arith}
use Rattle.std.specs.Prelude.{IfSome}
use Rattle.std.proofs.lemmas.List.{take-take}
use Rattle.xn_bytes.specs.Superblock.{Geometry, sector_of_block}
use Rattle.xn_log.specs.Records.{IsIntact, record_in, record_sectors}
use Rattle.xn_log.specs.RecordFaults.{record_fault}
use Rattle.xn_log.specs.Ring.{record_at, ring_of, ring_sectors_of, turned}
use Rattle.xn_log.specs.declared.outline.Outline.{Outline}
use Rattle.xn_log.specs.declared.record.Record.{Record}
use Rattle.xn_record.specs.Answers.{IsReadUnlessMemory}
use Rattle.xn_record.specs.declared.fault.RecFault.{RecFault}
use Rattle.xn_record.specs.declared.fault.RecFault.TheVariants.{Bad, Memory as NoMemory}
use Rattle.xn_record.proofs.Faultless.{complete}
use Rattle.xn_record.proofs.SameFronts.{intact_same, record_same}
use Rattle.xn_ring.specs.Places.{fault_of_record}
use Rattle.xn_ring.specs.Scans.{IsOutlineOf}
use Rattle.xn_ring.specs.declared.fault.RingFault.TheVariants.{NoRecord}
use Rattle.xn_ring.proofs.Scanning.{sectors_of_ring}

module _ (uuid ring : List ℕ) (done : ℕ) (o : Outline) (bytes : List ℕ) (of : IsOutlineOf uuid ring done o) (told : bytes ≡ take (512 * o.sectors) (turned ring o.sector)) where
  front_same : take (512 * record_sectors (turned ring o.sector)) (turned ring o.sector) ≡ take (512 * record_sectors (turned ring o.sector)) bytes
  front_same =
      let whole : List ℕ = turned ring o.sector in
      let sectors : 512 * record_sectors whole ≡ 512 * o.sectors = ap (λ (p : Outline). 512 * p.sectors) (sym of.is) in
      sym (ap (take (512 * record_sectors whole)) told ∙ take-take (512 * record_sectors whole) (512 * o.sectors) whole (omega arith))

  pub read_intact : IsIntact (ring_sectors_of ring) o.sector uuid bytes
  read_intact = intact_same (ring_sectors_of ring) o.sector uuid (turned ring o.sector) bytes front_same of.intact.intact

  pub read_same : record_in o.sector bytes ≡ record_at ring o.sector
  read_same = sym (record_same (ring_sectors_of ring) o.sector uuid (turned ring o.sector) bytes front_same of.intact.intact)

pub record_told : (g : Geometry) (image : Option (List ℕ)) (done : ℕ) (o : Outline) (bytes passed : List ℕ) (read : Record) → passed ≡ bytes
    → IfSome image (λ x. bytes ≡ take (512 * o.sectors) (turned (ring_of g x) o.sector)) → read ≡ record_in o.sector passed
    → IfSome image (λ x. IsOutlineOf g.uuid (ring_of g x) done o → read ≡ record_at (ring_of g x) o.sector)
record_told g None done o bytes passed read is_passed told is = tt
record_told g (Some x) done o bytes passed read is_passed told is = λ of. is ∙ ap (record_in o.sector) is_passed ∙ read_same g.uuid (ring_of g x) done o bytes of told

pub record_missing : (g : Geometry) (image : Option (List ℕ)) (sectors done n : ℕ) (o : Outline) (bytes passed uuid : List ℕ) (value : Record) (e : RecFault)
    → IfSome image (λ x. length x ≡ 512 * sectors) → sector_of_block g g.log_start + 8 * g.log_blocks ≤ sectors → n ≡ 8 * g.log_blocks → passed ≡ bytes → uuid ≡ g.uuid
    → IfSome image (λ x. bytes ≡ take (512 * o.sectors) (turned (ring_of g x) o.sector))
    → IsReadUnlessMemory (record_fault n o.sector uuid passed) value (Err e) → fault_of_record e ≡ NoRecord
    → IfSome image (λ x. IsOutlineOf g.uuid (ring_of g x) done o → ⊥)
record_missing g image sectors done n o bytes passed uuid value NoMemory long there is_n is_passed is_uuid told read same = absurd cc
record_missing g None sectors done n o bytes passed uuid value (Bad at) long there is_n is_passed is_uuid told read same = tt
record_missing g (Some x) sectors done n o bytes passed uuid value (Bad at) long there is_n is_passed is_uuid told read same = λ of.
    let intact : IsIntact (ring_sectors_of (ring_of g x)) o.sector g.uuid bytes = read_intact g.uuid (ring_of g x) done o bytes of told in
    let many : ring_sectors_of (ring_of g x) ≡ n = sectors_of_ring g x sectors long there ∙ sym is_n in
    let moved : IsIntact n o.sector uuid passed = subst (λ u. IsIntact n o.sector u passed) (sym is_uuid) (subst (IsIntact n o.sector g.uuid) (sym is_passed) (subst (λ m. IsIntact m o.sector g.uuid bytes) many intact)) in
    let none : record_fault n o.sector uuid passed ≡ None = complete n o.sector uuid passed moved in
    let e : Some at ≡ None = sym read ∙ none in
    cc
