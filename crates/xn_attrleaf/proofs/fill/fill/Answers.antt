use Rattle.std.proofs.Common.{◌≡◌, ◌∙◌, length, arith, rules}
use Rattle.xn_bytes.specs.Checksum.{checksum_with}
use Rattle.xn_attrleaf.proofs.Standing.{sizes}
use Rattle.xn_attrleaf.proofs.Filling.{is_filled, tells_free}
use Rattle.xn_attrleaf.proofs.fill.fill.Goals as goal

pub overflow_cast-attributes : goal.overflow_cast-attributes
overflow_cast-attributes c = omega (arith, sizes c.args.attributes.now, c.requires.fits)

pub put_header-requires-clause-room : goal.put_header-requires-clause-room
put_header-requires-clause-room c = omega (arith, sizes c.args.attributes.now, c.requires.fits, c.put_attributes-first.ensures.first)

pub returns-clause-filled : goal.returns-clause-filled
returns-clause-filled c =
    is_filled c.args.block.now c.put_attributes-first.new.block c.put_header.new.block c.put_checksum.new.bytes c.args.attributes.now c.put_attributes-first.result (checksum_with c.put_header.new.block 12)
    c.requires.size (λ i. search (rules, c.type_inv.block i)) c.requires.sorted c.requires.fits c.put_attributes-first.ensures.puts c.put_attributes-first.ensures.first c.put_header.ensures
    c.put_checksum.ensures.value c.put_checksum.ensures.right c.put_checksum.ensures.length

pub returns-clause-free : goal.returns-clause-free
returns-clause-free c =
    let size : length c.put_header.new.block ≡ 4096 = c.put_header.ensures.whole ∙ c.put_attributes-first.ensures.puts.whole ∙ c.requires.size in
    tells_free c.put_header.new.block c.put_checksum.new.bytes (checksum_with c.put_header.new.block 12) size c.put_checksum.ensures.value c.put_header.ensures.free
