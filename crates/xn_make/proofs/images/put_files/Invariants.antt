use Rattle.std.proofs.Common.{◌≡◌, ◌*◌, length}
use Rattle.xn_make.specs.Images.{HasFiles, small_sectors}
use Rattle.xn_make.proofs.images.put_files.Given as goal

abbrev pub invariant-loop-number : goal.invariant-loop-number
invariant-loop-number l = record {
  files : HasFiles l.number l.initial.image l.image;
  whole : length l.image ≡ 512 * small_sectors;
}
