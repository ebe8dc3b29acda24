use Rattle.xn_show.proofs.OverImages.{directory_over}
use Rattle.xn_show.proofs.home.is_directory.Goals as goal

pub returns-clause-directory : goal.returns-clause-directory
returns-clause-directory g c = λ is. directory_over (g.S.Store.shape c.args.store.now) c.args.ino (g.S.Store.image c.args.store.now) c.inode.new.into c.in_ok-inode.ensures.bytes (c.has_directory.ensures is)
