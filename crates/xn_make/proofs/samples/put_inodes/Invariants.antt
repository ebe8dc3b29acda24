use Rattle.xn_make.specs.Samples.{HasSampleInodes}
use Rattle.xn_make.proofs.samples.put_inodes.Given as goal

abbrev pub invariant-loop-place : goal.invariant-loop-place
invariant-loop-place l = record { has : HasSampleInodes l.inodes l.place l.initial.image l.image }
