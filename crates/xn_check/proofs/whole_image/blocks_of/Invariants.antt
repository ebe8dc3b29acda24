use Rattle.std.proofs.Common.{◌≡◌, ◌/◌, map, take}
use Rattle.xn_check.proofs.whole_image.blocks_of.Given as goal

abbrev pub invariant-loop-ino : goal.invariant-loop-ino
invariant-loop-ino l = l.blocks.items ≡ map (λ ino. ino / 8) (take l.ino-index l.inodes)
