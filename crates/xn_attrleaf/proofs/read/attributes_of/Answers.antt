use Rattle.std.proofs.Common.{◌++◌, List, map, refl, sym, ap, ◌∙◌, arith}
use Rattle.std.proofs.lemmas.List.{append-nil}
use Rattle.xn_bytes.specs.Numbers.{number_at}
use Rattle.xn_bytes.specs.AttributeLeaves.{AttrEntry, attr_entries, attribute_at}
use Rattle.xn_attrleaf.specs.EntriesRead.{all_left, entry_inside, map_step, none_left}
use Rattle.xn_attrleaf.proofs.read.attributes_of.Goals as goal

pub loop-index-init : goal.loop-index-init
loop-index-init c =
    let bytes = c.args.block.now in
    let none = c.in_ok-attributes.ensures.items in
    let all = all_left (number_at 2 56 bytes) bytes in
    rw (none, all) refl

pub attribute_in-requires-clause-inside : goal.attribute_in-requires-clause-inside
attribute_in-requires-clause-inside c =
    entry_inside c.args.block.now c.loop-index.index c.entry_in.result c.requires.within (omega (arith, c.count_in-count.ensures.count)) c.entry_in.ensures

pub loop-index-preserved : goal.loop-index-preserved
loop-index-preserved c =
    let bytes = c.args.block.now in
    map_step (attribute_at bytes) (map (attribute_at bytes) (attr_entries bytes)) c.loop-index.attributes.items c.push.new.self.items c.in_ok-attribute_in.field-0 c.loop-index.index (number_at 2 56 bytes) c.entry_in.result bytes
    (omega (arith, c.count_in-count.ensures.count)) c.entry_in.ensures c.in_ok-attribute_in.ensures c.in_ok-push.ensures.items c.loop-index.invariant

pub returns : goal.returns
returns c =
    let bytes = c.args.block.now in
    let gone = none_left c.loop-index.index (number_at 2 56 bytes) bytes (omega (arith, c.count_in-count.ensures.count)) in
    sym (append-nil c.loop-index.attributes.items) ∙ ap (λ (xs : List AttrEntry). c.loop-index.attributes.items ++ map (attribute_at bytes) xs) (sym gone) ∙ c.loop-index.invariant
