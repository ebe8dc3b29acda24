use Rattle.std.proofs.Common.{◌++◌, ◌∷◌, []}
use Rattle.std.specs.Prelude.{flat_map}
use Rattle.std.proofs.lemmas.Result.{on_ok_weaker, on_err_weaker}
use Rattle.xn_meaning.specs.Manifests.{header_line}
use Rattle.xn_meaning.specs.Replies.{newline}
use Rattle.xn_text.specs.Writing.{chunk_text}
use Rattle.xn_text.proofs.ListLemmas.{front_of}
use Rattle.xn_text.proofs.WritingLemmas.{so_far, written}
use Rattle.xn_text.proofs.writer.write_lines.Goals as goal

pub returns-clause-ok : goal.returns-clause-ok
returns-clause-ok c =
    let front = so_far c.args.out.now.items _ _ c.write_chunks.new.out.items (flat_map chunk_text c.chunks.result.now) c.in_ok-extend_from_slice.ensures.items c.in_ok-push.ensures.items c.in_ok-write_chunks.ensures.ok in
    on_ok_weaker c.write_runs.result
    (written c.args.manifest.now c.chunks.result.now c.runs.result.now c.args.out.now.items c.write_chunks.new.out.items c.write_runs.new.out.items c.chunks.ensures.chunks c.runs.ensures.runs front)
    c.write_runs.ensures.ok

pub returns-clause-err : goal.returns-clause-err
returns-clause-err c =
    let front = so_far c.args.out.now.items _ _ c.write_chunks.new.out.items (flat_map chunk_text c.chunks.result.now) c.in_ok-extend_from_slice.ensures.items c.in_ok-push.ensures.items c.in_ok-write_chunks.ensures.ok in
    on_err_weaker c.write_runs.result
    (front_of c.args.out.now.items ((header_line ++ newline ∷ []) ++ flat_map chunk_text c.chunks.result.now) c.write_chunks.new.out.items c.write_runs.new.out.items front)
    c.write_runs.ensures.err
