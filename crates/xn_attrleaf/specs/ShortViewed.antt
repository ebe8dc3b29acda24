-- Attributes in short form, without where their bytes lie.
use Rattle.xn_bytes.specs.declared.attribute.Attribute.{Attribute}
use Rattle.xn_bytes.specs.declared.attribute.Value.TheVariants.{Here}
use Rattle.xn_attrleaf.specs.declared.short_entry.ShortAttr.{ShortAttr}

abbrev pub attribute_of : ShortAttr → Attribute
attribute_of attribute = record { flags = attribute.flags; name = attribute.name.now; value = Here attribute.value.now }
