use Rattle.std.proofs.Common.{◌≡◌, ◌+◌, ◌*◌, ◌-◌, arith}
use Rattle.std.specs.Prelude.{drop}
use Rattle.std.proofs.lemmas.List.{length-drop, length-take}
use Rattle.xn_settled.proofs.blocks.lay_piece.Goals as goal

pub copy_from_slice-requires : goal.copy_from_slice-requires
copy_from_slice-requires c =
    let at = 128 * c.args.piece in
    let width : at + 128 - at ≡ 128 = omega arith in
    omega (arith, width, c.requires.bytes, c.requires.within, length-take (at + 128 - at) (drop at c.args.block.now), length-drop at c.args.block.now, length-take 128 c.args.bytes.now)
