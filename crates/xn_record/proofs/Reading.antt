-- Operations, one behind the other, read from the front.
use Rattle.std.proofs.Common.{◌≡◌, ℕ, suc, ◌≤◌, true, List, [], ◌∷◌, ◌++◌, length, drop, ◌&&◌, sym, ap, ◌∙◌, arith, append_assoc}
use Rattle.std.specs.Prelude.{nat_le}
use Rattle.std.proofs.lemmas.Bool.Decides.{nat_tests}
use Rattle.std.proofs.lemmas.List.{append-nil}
use Rattle.xn_log.specs.Records.{are_whole, operation_in, operation_size, operations_in}
use Rattle.xn_log.specs.declared.operation.Op.{Op}
use Rattle.xn_record.proofs.Walking.{both}

-- the operation at the front is whole, and those behind it
pub record IsFrontWhole (count : ℕ) (body : List ℕ) : Type 0 where
  pub header : 12 ≤ length body
  pub size : operation_size body ≤ length body
  pub rest : are_whole count (drop (operation_size body) body) ≡ true

pub front_whole : (count left : ℕ) (body : List ℕ) → left ≡ suc count → are_whole left body ≡ true → IsFrontWhole count body
unfolding are_whole
front_whole count left body e h =
    let all : are_whole (suc count) body ≡ true = ap (λ (n : ℕ). are_whole n body) (sym e) ∙ h in
    let b = both (nat_le 12 (length body) && nat_le (operation_size body) (length body)) (are_whole count (drop (operation_size body) body)) all in
    let d = both (nat_le 12 (length body)) (nat_le (operation_size body) (length body)) b.0 in
    record { header = grind (arith, nat_tests, d.0); size = grind (arith, nat_tests, d.1); rest = b.1 }

pub read_more : (ops pushed : List Op) (op : Op) (count left size : ℕ) (body : List ℕ) → left ≡ suc count → size ≡ operation_size body → op ≡ operation_in body → pushed ≡ ops ++ op ∷ []
    → pushed ++ operations_in count (drop size body) ≡ ops ++ operations_in left body
unfolding operations_in
read_more ops pushed op count left size body e es eo ep =
    ap (λ (n : ℕ). pushed ++ operations_in count (drop n body)) es
    ∙ ap (λ (front : List Op). front ++ operations_in count (drop (operation_size body) body)) ep
    ∙ append_assoc ops (op ∷ []) (operations_in count (drop (operation_size body) body))
    ∙ ap (λ (first : Op). ops ++ first ∷ operations_in count (drop (operation_size body) body)) eo
    ∙ ap (λ (n : ℕ). ops ++ operations_in n body) (sym e)

pub read_all : (ops : List Op) (body : List ℕ) → ops ++ operations_in 0 body ≡ ops
unfolding operations_in
read_all ops body = append-nil ops
