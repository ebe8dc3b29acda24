use Rattle.std.proofs.Common.{◌≡◌, ℕ, suc, ◌+◌, ◌-◌, ap, ◌∙◌, arith}
use Rattle.std.proofs.lemmas.Result.{err_from_is_err_and}
use Rattle.xn_log.specs.Records.{body_sectors, cycle_in, length_in, stamp_of}
use Rattle.xn_log.specs.RecordFaults.{body_end_fault, stamps_fault}
use Rattle.xn_record.proofs.Chains.{carried}
use Rattle.xn_record.proofs.Stamps.{stamp_fault, stamps_end, stamps_more}
use Rattle.xn_record.proofs.check.check_stamps.Goals as goal

pub loop-index-init : goal.loop-index-init
loop-index-init c =
    let all : body_sectors (length_in c.args.bytes.now) ≡ body_sectors (length_in c.args.bytes.now) - 0 = omega arith in
    ap (stamps_fault c.args.ring_sectors c.args.sector c.args.bytes.now 0) all

pub returns-in_err-expect_u32 : goal.returns-in_err-expect_u32
returns-in_err-expect_u32 c =
    let bytes = c.args.bytes.now in
    let fault = stamps_fault c.args.ring_sectors c.args.sector bytes in
    let count : ℕ = body_sectors (length_in bytes) - (c.loop-index.index + 1) in
    let left : body_sectors (length_in bytes) - c.loop-index.index ≡ suc count = omega (arith, c.length_in.ensures, c.body_sectors-index-end.ensures) in
    let stamp : c.stamp_of-stamp.result ≡ stamp_of c.args.ring_sectors c.args.sector (cycle_in bytes) c.loop-index.index =
    c.stamp_of-stamp.ensures ∙ ap (λ (cycle : ℕ). stamp_of c.args.ring_sectors c.args.sector cycle c.loop-index.index) c.cycle_in-cycle.ensures in
    let so_far = c.loop-index.invariant ∙ ap (fault c.loop-index.index) left ∙ stamps_more c.args.ring_sectors c.args.sector bytes c.loop-index.index count c.stamp_of-stamp.result stamp in
    let behind = fault (c.loop-index.index + 1) count in
    let p = err_from_is_err_and c.from_residual.result c.from_residual.ensures.1 in
    rw (p.1, p.2) (carried (fault 0 (body_sectors (length_in bytes))) (stamp_fault bytes c.loop-index.index c.stamp_of-stamp.result behind) behind (body_end_fault bytes) c.in_err-expect_u32.field-0.0 so_far (c.in_err-expect_u32.ensures.passes behind))

pub loop-index-preserved : goal.loop-index-preserved
loop-index-preserved c =
    let bytes = c.args.bytes.now in
    let fault = stamps_fault c.args.ring_sectors c.args.sector bytes in
    let count : ℕ = body_sectors (length_in bytes) - (c.loop-index.index + 1) in
    let left : body_sectors (length_in bytes) - c.loop-index.index ≡ suc count = omega (arith, c.length_in.ensures, c.body_sectors-index-end.ensures) in
    let stamp : c.stamp_of-stamp.result ≡ stamp_of c.args.ring_sectors c.args.sector (cycle_in bytes) c.loop-index.index =
    c.stamp_of-stamp.ensures ∙ ap (λ (cycle : ℕ). stamp_of c.args.ring_sectors c.args.sector cycle c.loop-index.index) c.cycle_in-cycle.ensures in
    let so_far = c.loop-index.invariant ∙ ap (fault c.loop-index.index) left ∙ stamps_more c.args.ring_sectors c.args.sector bytes c.loop-index.index count c.stamp_of-stamp.result stamp in
    so_far ∙ c.in_ok-expect_u32.ensures.passes (fault (c.loop-index.index + 1) count)

pub returns : goal.returns
returns c =
    let bytes = c.args.bytes.now in
    let none : body_sectors (length_in bytes) - c.loop-index.index ≡ 0 = omega (arith, c.length_in.ensures, c.body_sectors-index-end.ensures) in
    c.loop-index.invariant ∙ ap (stamps_fault c.args.ring_sectors c.args.sector bytes c.loop-index.index) none ∙ stamps_end c.args.ring_sectors c.args.sector bytes c.loop-index.index
