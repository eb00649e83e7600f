-- What places print.
use Rattle.std.specs.Prelude.{ℕ, ◌+◌, ◌-◌, ◌^◌, min, List, ◌++◌, codes}
use Rattle.std.specs.Fmt.{decimal}
use Rattle.event_core.specs.declared.span.Span.{Span}

-- behind the last byte, as far as a `usize` counts
abbrev pub span_end : Span → ℕ
span_end s = min (s.offset + s.len) (2 ^ 64 - 1)

-- from the first byte to behind the last, as in [3..7)
abbrev pub span_text : Span → List ℕ
span_text s = codes "[" ++ decimal s.offset ++ codes ".." ++ decimal (span_end s) ++ codes ")"
