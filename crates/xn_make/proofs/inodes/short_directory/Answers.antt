use Rattle.std.proofs.Common.{arith}
use Rattle.xn_make.proofs.InodeBytes.{short_directory_made}
use Rattle.xn_make.proofs.inodes.short_directory.Goals as goal

pub returns : goal.returns
returns c = short_directory_made c.inode.result c.args.number c.args.generation c.args.links c.args.form.now c.inode.ensures.spelled c.inode.ensures.checksum (omega arith) (omega arith) (omega arith) (omega arith)
