use Rattle.std.proofs.Common.{◌≡◌, ℕ, List, ◌++◌, take, drop, length, sym, ap, subst, ◌∙◌, arith}
use Rattle.std.proofs.lemmas.List.{take_at}
use Rattle.xn_bytes.specs.Checksum.{HasChecksum, checksum_with}
use Rattle.xn_bytes.specs.DataBlock.{Gap}
use Rattle.xn_make.specs.SpelledBlocks.{header_bytes, behind_header}
use Rattle.xn_make.specs.Laid.{leaf_entry, gap_in}
use Rattle.xn_make.proofs.BlocksMade.{closed, gap_same}
use Rattle.std.proofs.Common.{map}
use Rattle.xn_make.proofs.blocks.close.Goals as goal

pub returns : goal.returns
returns c =
    let layout = c.args.layout.now in
    let new = c.put_checksum.new.bytes in
    let items = c.push_behind.new.bytes.items in
    let leaves = map leaf_entry layout.leaves.items in
    let gap = gap_same c.len-place.result c.len.result layout (omega arith) (omega arith) in
    let same : take c.push_behind.new.bytes.len (new ++ drop (length new) items) ≡ new =
    take_at new (drop (length new) items) c.push_behind.new.bytes.len (omega (arith, c.put_checksum.ensures.length, ap length c.deref_mut.ensures.value)) in
    let Q : List ℕ → Type 0 = λ (xs : List ℕ). HasChecksum xs 4 in
    record {
      checksum = subst Q (sym same) c.put_checksum.ensures.right;
      spelled = (
        checksum_with c.deref_mut.result.now 4,
        closed _ c.in_ok-bytes.bytes.items items c.deref_mut.result.now new (header_bytes c.args.sector c.args.owner (gap_in layout)) (behind_header layout.area.items (gap_in layout) leaves) (checksum_with c.deref_mut.result.now 4)
            same (c.in_ok-bytes.ensures.items ∙ c.header.ensures ∙ ap (header_bytes c.args.sector c.args.owner) gap)
            (c.in_ok-push_behind.ensures ∙ ap (λ (g : Gap). c.in_ok-bytes.bytes.items ++ behind_header layout.area.items g leaves) gap)
            c.deref_mut.ensures.value c.put_checksum.ensures.value,
      );
    }
