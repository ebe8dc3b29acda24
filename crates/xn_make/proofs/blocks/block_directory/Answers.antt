use Rattle.std.proofs.Common.{rules}
use Rattle.std.proofs.lemmas.Result.{IfOk-weaker}
use Rattle.std.proofs.lemmas.List.Sorted.{IsNonDecreasingBy-from_sort_by_key}
use Rattle.xn_make.proofs.BlocksMade.{first_area, second_area, all_area, all_leaves, room, block_made}
use Rattle.xn_make.proofs.blocks.block_directory.Goals as goal

pub close-requires : goal.close-requires
close-requires c =
    let number = c.args.number in
    let parent = c.args.parent in
    let named = c.args.entries.now in
    let one = first_area c.new.result.items c.add.new.self.area.items c.directory.result number c.new.ensures.items c.directory.ensures.name c.directory.ensures.ino c.directory.ensures.kind c.in_ok-add.ensures.area in
    let two = second_area c.add.new.self.area.items c.add-2.new.self.area.items c.directory-2.result number parent one c.directory-2.ensures.name c.directory-2.ensures.ino c.directory-2.ensures.kind c.in_ok-add-2.ensures.area in
    let area = all_area c.add-2.new.self.area.items c.add_all.new.layout.area.items number parent named two c.in_ok-add_all.ensures.area in
    let leaves = all_leaves c.new.result.items c.add.new.self.area.items c.add-2.new.self.area.items c.new-2.result.items c.add.new.self.leaves.items c.add-2.new.self.leaves.items c.add_all.new.layout.leaves.items
    c.directory.result c.directory-2.result number parent named c.new.ensures.items one two c.directory.ensures.name c.directory-2.ensures.name
    c.new-2.ensures.items c.in_ok-add.ensures.leaves c.in_ok-add-2.ensures.leaves c.in_ok-add_all.ensures.leaves in
    room number parent named c.add_all.new.layout.area.items c.add_all.new.layout.leaves.items c.sort_by_key.new.self.items c.requires.fit area leaves c.in_ok-sort_by_key.ensures.permutation

pub returns : goal.returns
returns c =
    let number = c.args.number in
    let parent = c.args.parent in
    let named = c.args.entries.now in
    let one = first_area c.new.result.items c.add.new.self.area.items c.directory.result number c.new.ensures.items c.directory.ensures.name c.directory.ensures.ino c.directory.ensures.kind c.in_ok-add.ensures.area in
    let two = second_area c.add.new.self.area.items c.add-2.new.self.area.items c.directory-2.result number parent one c.directory-2.ensures.name c.directory-2.ensures.ino c.directory-2.ensures.kind c.in_ok-add-2.ensures.area in
    let area = all_area c.add-2.new.self.area.items c.add_all.new.layout.area.items number parent named two c.in_ok-add_all.ensures.area in
    let leaves = all_leaves c.new.result.items c.add.new.self.area.items c.add-2.new.self.area.items c.new-2.result.items c.add.new.self.leaves.items c.add-2.new.self.leaves.items c.add_all.new.layout.leaves.items
    c.directory.result c.directory-2.result number parent named c.new.ensures.items one two c.directory.ensures.name c.directory-2.ensures.name
    c.new-2.ensures.items c.in_ok-add.ensures.leaves c.in_ok-add-2.ensures.leaves c.in_ok-add_all.ensures.leaves in
    let rise = IsNonDecreasingBy-from_sort_by_key (λ leaf. leaf.hash) _ c.in_ok-sort_by_key.ensures.sorted (λ a r q k. search rules) in
    IfOk-weaker c.close.result _ _ (λ bytes is. block_made bytes.items _ number parent named _ c.add_all.new.layout.leaves.items c.requires.fit area leaves c.in_ok-sort_by_key.ensures.permutation rise is) c.close.ensures
