-- Parents of an inode as contracts see them.
use Rattle.xn_bytes.specs.Parents.{ParentRecord}
use Rattle.xn_items.specs.declared.parent.ParentRec.{ParentRec}

abbrev pub record_of : ParentRec → ParentRecord
record_of parent = record { dir = parent.dir; generation = parent.generation; name = parent.name }
