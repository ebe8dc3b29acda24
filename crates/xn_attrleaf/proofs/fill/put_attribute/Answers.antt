use Rattle.std.proofs.Common.{◌≡◌, ◌-◌, List, ℕ, length, ap, ◌∙◌, arith}
use Rattle.xn_bytes.specs.AttributeLeaves.{value_size}
use Rattle.xn_attrleaf.specs.Putting.{name_bytes}
use Rattle.xn_attrleaf.proofs.Standing.{puts_attribute}
use Rattle.xn_attrleaf.proofs.fill.put_attribute.Goals as goal

pub returns : goal.returns
returns c =
    let size : c.value_size.result ≡ name_bytes c.args.attribute.now = c.value_size.ensures ∙ ap (λ (name : List ℕ). value_size (length name) c.args.attribute.now.value) c.as_slice.ensures in
    puts_attribute c.args.index (c.args.end - c.value_size.result) c.args.end c.hash_of.result c.entry_flags.result c.args.block.now c.put_entry.new.block c.put_name.new.block c.args.attribute.now
    c.requires.size (omega (arith, size, c.requires.room)) (omega (arith, size, c.requires.room)) c.requires.end c.hash_of.ensures c.entry_flags.ensures c.put_entry.ensures c.put_name.ensures
