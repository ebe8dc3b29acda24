use Rattle.std.proofs.Common.{◌≡◌, ap, ◌∙◌, arith, length}
use Rattle.std.specs.Prelude.{flat_map}
use Rattle.xn_changes.specs.Items.{pieces_in}
use Rattle.xn_settled.proofs.Covering.{length-covering}
use Rattle.xn_settled.proofs.blocks.lay_block.Goals as goal

pub lay_pieces-requires-clause-bytes : goal.lay_pieces-requires-clause-bytes
lay_pieces-requires-clause-bytes c =
    let item = c.args.item.now in
    let pieces : length c.deref.result.now ≡ length (pieces_in item.map) = ap (λ xs. length xs) (c.deref.ensures.value ∙ c.in_ok-pieces.ensures ∙ ap pieces_in c.as_slice.ensures) in
    let bytes : length c.deref-2.result.now ≡ length (flat_map (λ region. region) item.regions) =
    ap (λ xs. length xs) (c.deref-2.ensures.value ∙ c.in_ok-bytes.ensures ∙ ap (flat_map (λ region. region)) c.as_slice-2.ensures) in
    omega (arith, pieces, bytes, length-covering item.regions (pieces_in item.map) c.requires.item.covered)
