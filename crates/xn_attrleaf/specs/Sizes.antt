-- How many bytes an attribute takes in a leaf.
use Rattle.std.specs.Prelude.{ℕ, min}
use Rattle.xn_bytes.specs.declared.attribute.Attribute.{Attribute}
use Rattle.xn_bytes.specs.AttributeLeaves.{attribute_size}

-- How many bytes an attribute takes; one more than a leaf has stands for all that go into none.
abbrev pub leaf_size : Attribute → ℕ
leaf_size attribute = min (attribute_size attribute) 4017
