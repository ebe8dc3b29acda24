-- What a run maps, whichever blocks of a file it is.
use Rattle.xn_apart.specs.declared.span.Span.{Span}
use Rattle.xn_facts.specs.declared.facts.Run.{Run}

abbrev pub span_of : Run → Span
span_of run = record { block = run.block; count = run.count }
