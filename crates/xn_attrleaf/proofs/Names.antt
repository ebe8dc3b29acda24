-- An attribute is read from where its name and its value were put.
use Rattle.std.proofs.Common.{◌≡◌, ℕ, ◌+◌, ◌-◌, ◌%◌, List, length, refl, sym, ap, subst, ◌∙◌, arith}
use Rattle.std.specs.Prelude.{slice_range}
use Rattle.xn_bytes.specs.declared.attribute.Attribute.{Attribute}
use Rattle.xn_bytes.specs.declared.attribute.Value.{Value}
use Rattle.xn_bytes.specs.declared.attribute.Value.TheVariants.{Here, Remote}
use Rattle.xn_bytes.specs.Numbers.{number_at}
use Rattle.xn_attrleaf.specs.Putting.{HasName, PutsLocal, PutsRemote, PutsName}

has_local : (place : ℕ) (bytes : List ℕ) (flags : ℕ) (name value : List ℕ) → flags % 2 ≡ 0 → number_at 2 place bytes ≡ length value → number_at 1 (place + 2) bytes ≡ length name
    → slice_range bytes (place + 3) (place + 3 + length name) ≡ name → slice_range bytes (place + 3 + length name) (place + 3 + length name + length value) ≡ value
    → HasName place bytes (record { flags = flags; name = name; value = Here value })
has_local place bytes flags name value even values names text there =
    let odd : (flags + 1) % 2 ≡ 1 = omega arith in
    let one : flags + 1 - 1 ≡ flags = omega arith in
    record { is = rw (odd, one, names, values, text, there) refl; size = rw (odd, names, values) refl }

has_remote : (place : ℕ) (bytes : List ℕ) (flags : ℕ) (name : List ℕ) (first size : ℕ) → flags % 2 ≡ 0 → number_at 4 place bytes ≡ first → number_at 4 (place + 4) bytes ≡ size
    → number_at 1 (place + 8) bytes ≡ length name → slice_range bytes (place + 9) (place + 9 + length name) ≡ name → HasName place bytes (record { flags = flags; name = name; value = Remote first size })
has_remote place bytes flags name first size even block many names text =
    let zero : (flags + 0) % 2 ≡ 0 = omega arith in
    let one : flags + 0 - 0 ≡ flags = omega arith in
    record { is = rw (zero, one, names, text, block, many) refl; size = rw (zero, names) refl }

pub named_local : (place end : ℕ) (old new : List ℕ) (attribute : Attribute) (value name text : List ℕ) → attribute.value ≡ Here value → attribute.flags % 2 ≡ 0 → name ≡ attribute.name → text ≡ value
    → PutsLocal place end old new name text → PutsName place end old new attribute
named_local place end old new attribute value name text is even named told put =
    let value_is : Here text ≡ attribute.value = ap (λ (v : List ℕ). Here v) told ∙ sym is in
    let same : record { flags = attribute.flags; name = name; value = Here text } ≡ attribute =
    ap (λ (n : List ℕ). record attribute { name = n; value = Here text }) named ∙ ap (λ (v : Value). record attribute { value = v }) value_is in
    subst (λ (a : Attribute). PutsName place end old new a) same
    (record { there = has_local place new attribute.flags name text even put.value_size put.name_size put.text put.bytes; around = put.around })

pub named_remote : (place end : ℕ) (old new : List ℕ) (attribute : Attribute) (first size : ℕ) (name : List ℕ) → attribute.value ≡ Remote first size → attribute.flags % 2 ≡ 0 → name ≡ attribute.name
    → PutsRemote place end first size old new name → PutsName place end old new attribute
named_remote place end old new attribute first size name is even named put =
    let same : record { flags = attribute.flags; name = name; value = Remote first size } ≡ attribute =
    ap (λ (n : List ℕ). record attribute { name = n; value = Remote first size }) named ∙ ap (λ (v : Value). record attribute { value = v }) (sym is) in
    subst (λ (a : Attribute). PutsName place end old new a) same
    (record { there = has_remote place new attribute.flags name first size even put.value_block put.value_size put.name_size put.text; around = put.around })
