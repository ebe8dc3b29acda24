use Rattle.std.proofs.Common.{◌≡◌, ◌++◌, ℕ, ap, ◌∙◌, arith}
use Rattle.xn_log.specs.Spelled.{first_words}
use Rattle.xn_record.proofs.Appending.{no_words, words_more}
use Rattle.xn_record.proofs.append.append_first_words.Goals as goal

pub loop-index-init : goal.loop-index-init
loop-index-init c = no_words c.args.bytes.now.items c.args.body.now

pub loop-index-preserved : goal.loop-index-preserved
loop-index-preserved c =
    words_more c.args.bytes.now.items c.loop-index.bytes.items c.extend_from_slice.new.self.items c.args.body.now c.loop-index.index c.loop-index.invariant c.in_ok-extend_from_slice.ensures.items

pub returns : goal.returns
returns c =
    let all : c.loop-index.index ≡ c.args.sectors = omega arith in
    c.loop-index.invariant ∙ ap (λ (count : ℕ). c.args.bytes.now.items ++ first_words c.args.body.now 0 count) all
