use Rattle.std.proofs.Common.{arith}
use Rattle.xn_make.proofs.InodeBytes.{empty_file_made}
use Rattle.xn_make.proofs.inodes.empty_file.Goals as goal

pub returns : goal.returns
returns c = empty_file_made c.inode.result c.args.number c.args.generation c.args.links c.inode.ensures.spelled c.inode.ensures.checksum (omega arith) (omega arith) (omega arith)
