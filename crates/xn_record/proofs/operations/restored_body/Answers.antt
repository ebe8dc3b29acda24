use Rattle.std.proofs.Common.{◌≡◌, ℕ, take, sym, ap, ◌∙◌, arith}
use Rattle.xn_log.specs.Records.{body_sectors, length_in, restored_from}
use Rattle.xn_record.proofs.Restoring.{restored_more, restored_none}
use Rattle.xn_record.proofs.operations.restored_body.Goals as goal

pub loop-index-init : goal.loop-index-init
loop-index-init c = c.in_ok-body.ensures.items ∙ sym (restored_none c.args.bytes.now)

pub loop-index-preserved : goal.loop-index-preserved
loop-index-preserved c =
    restored_more c.args.bytes.now c.loop-index.body.items c.extend_from_slice.new.self.items c.extend_from_slice-in-loop-index.new.self.items c.loop-index.index c.loop-index.invariant c.in_ok-extend_from_slice.ensures.items c.in_ok-extend_from_slice-2.ensures.items

pub returns : goal.returns
returns c =
    let bytes = c.args.bytes.now in
    let all : c.loop-index.index ≡ body_sectors (length_in bytes) = omega (arith, c.length_in-length.ensures, c.body_sectors-sectors.ensures) in
    c.truncate.ensures.items ∙ ap (take c.length_in-length.result) (c.loop-index.invariant ∙ ap (restored_from bytes 0) all)
    ∙ ap (λ (count : ℕ). take count (restored_from bytes 0 (body_sectors (length_in bytes)))) c.length_in-length.ensures
