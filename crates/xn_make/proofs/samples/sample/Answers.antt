use Rattle.xn_make.proofs.SampleSound.{sound}
use Rattle.xn_make.proofs.samples.sample.Goals as goal

pub returns-clause-sound : goal.returns-clause-sound
returns-clause-sound c =
    sound c.args.inodes c.args.pool c.in_ok-image.image.items c.in_ok-manifest.manifest
    c.requires.chunks c.requires.fit c.requires.pool_fits c.in_ok-image.ensures c.in_ok-manifest.ensures
